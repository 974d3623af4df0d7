-- What each call of a reader answers and leaves, over a field k and a group g, by the code in force.
--     Code                  a code: its word and its radius
--     Loads k g e t r       what a load of e and t answers
--     Writes k g c m w r w'      what a write of the message m into a mark that held w answers, and what the mark holds then
--     Reads k g c r b m a b' m'  what a read of the mark r answers, and what the mended mark and the message hold then
--     Syndromes k g c w b r b'   what the question for the syndrome of w answers, and what the buffer holds then
--     Facts k g c r         what the question for the facts answers
--     Alikes k g u v r      what the comparison of two marks answers
use Rattle.std.specs.Prelude.{◌≡◌, ℕ, List, [], ◌∷◌, length, Some, None, Ok, Err, Option, Result, OnErr}
use Rattle.algebra.specs.Checks.{Check, Judged, asked}
use Rattle.algebra.specs.Fields.{Symbols}
use Rattle.algebra.specs.Groups.{Dots}
use Rattle.algebra.specs.Refusals.{no_code_refused, reach_refused}
use Rattle.algebra.specs.declared.fault.Fault.{Fault}
use Rattle.words.specs.Buffers.{length_check, range_check}
use Rattle.words.specs.Turns.{LeastTurn}
use Rattle.words.specs.Words.{less, syndrome, weight}
use Rattle.codes.specs.GroupCodes.{MessageDots, Pattern, TurnCount, WrittenAs, chosen, rows}
use Rattle.reader.specs.Loads.{load_checks}
use Rattle.reader.specs.declared.record.ReadRecord.{ReadRecord}

pub record Code : Type 0 where
  pub word : List ℕ
  pub radius : ℕ

module _ (k : Symbols) (g : Dots) where
  abbrev pub Loads : List ℕ → ℕ → Result (ℕ × ℕ) Fault → Type 0
  Loads e t r = Judged (load_checks k g e t) r (λ x. (ds : List ℕ) × MessageDots k g e ds × (x ≡ (length ds, rows g.order k.order t)))

  abbrev pub write_checks : List ℕ → List ℕ → List ℕ → List Check
  write_checks ds m w = length_check (length m) (length ds) 0 ∷ length_check (length w) g.order 1 ∷ range_check k.order m ∷ []

  abbrev pub Writes : Option Code → List ℕ → List ℕ → Result (Unit {0}) Fault → List ℕ → Type 0
  Writes None m w r w' = (r ≡ Err no_code_refused) × (w' ≡ w)
  Writes (Some c) m w r w' =
      (ds : List ℕ) × MessageDots k g c.word ds × Judged (write_checks ds m w) r (λ _. WrittenAs k g c.word ds m w') × OnErr r (w' ≡ w)

  -- a read past its other checks is refused unless there is a pattern
  abbrev pub read_checks : Code → List ℕ → List ℕ → List ℕ → List ℕ → List Check
  read_checks c ds r b m =
      length_check (length r) g.order 0 ∷ length_check (length b) g.order 1 ∷ length_check (length m) (length ds) 2 ∷ range_check k.order r
      ∷ asked ((p : List ℕ) × Pattern k g c.word c.radius r p) reach_refused ∷ []

  -- the pattern p taken off, and counted
  pub record Mended (c : Code) (ds r p : List ℕ) (a : ReadRecord) (b' m' : List ℕ) : Type 0 where
    pub pattern : Pattern k g c.word c.radius r p
    pub only : (o : List ℕ) → Pattern k g c.word c.radius r o → o ≡ p
    pub wrong : a.wrong ≡ weight p
    pub turns : TurnCount g p a.turns
    pub mended : b' ≡ less k g.order r p
    pub message : m' ≡ chosen ds b'

  abbrev pub Reads : Option Code → List ℕ → List ℕ → List ℕ → Result ReadRecord Fault → List ℕ → List ℕ → Type 0
  Reads None r b m a b' m' = (a ≡ Err no_code_refused) × (b' ≡ b) × (m' ≡ m)
  Reads (Some c) r b m a b' m' =
      (ds : List ℕ) × MessageDots k g c.word ds × Judged (read_checks c ds r b m) a (λ x. (p : List ℕ) × Mended c ds r p x b' m')
      × OnErr a ((b' ≡ b) × (m' ≡ m))

  abbrev pub Syndromes : Option Code → List ℕ → List ℕ → Result (Unit {0}) Fault → List ℕ → Type 0
  Syndromes None w b r b' = (r ≡ Err no_code_refused) × (b' ≡ b)
  Syndromes (Some c) w b r b' =
      Judged (length_check (length w) g.order 0 ∷ length_check (length b) g.order 1 ∷ range_check k.order w ∷ []) r (λ _. b' ≡ syndrome k g c.word w)
      × OnErr r (b' ≡ b)

  abbrev pub Facts : Option Code → Result (ℕ × ℕ × ℕ) Fault → Type 0
  Facts None r = r ≡ Err no_code_refused
  Facts (Some c) r = (ds : List ℕ) × MessageDots k g c.word ds × (r ≡ Ok (length ds, c.radius, rows g.order k.order c.radius))

  abbrev pub Alikes : List ℕ → List ℕ → Result (Option ℕ) Fault → Type 0
  Alikes u v r =
      Judged (length_check (length u) g.order 0 ∷ length_check (length v) g.order 1 ∷ range_check k.order u ∷ range_check k.order v ∷ []) r (LeastTurn g u v)
