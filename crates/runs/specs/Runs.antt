-- Runs: calls given to a reader in order, and what it replies, over a field k and a group g.
--     spoken x              the call x as a history has it
--     call_at xs i          the i-th of the calls xs, as a history has it
--     history xs i          the calls before the i-th of xs, the newest first
--     zeros m               an output of length m as its call gets it, or of length 65 for any longer one (a group has at most 64 dots)
--     reply a w m           the reply with the answer a and the outputs w and m, with zeros after each
--     reply_at ys i         the i-th of the replies ys
--     carried f r           the answer f of the value of r, or its fault
--     Served k g c x y      y is a right reply to the call x where the code c is in force
--     ReadFaithfully k g past x y    the law of the read x with the reply y after past
--     RunsLawfully k g xs ys n       the first n of ys are right replies to those of xs, and each read keeps its law
use Rattle.std.specs.Prelude.{◌≡◌, ℕ, zero, suc, ◌<◌, min, List, [], ◌∷◌, take, replicate, Ok, Err, Option, Result, slice_index_or}
use Rattle.algebra.specs.Fields.{Symbols}
use Rattle.algebra.specs.Groups.{Dots}
use Rattle.algebra.specs.declared.fault.Fault.{Fault}
use Rattle.words.specs.Words.{at, tabulate}
use Rattle.reader.specs.Calls as calls
use Rattle.reader.specs.Histories as histories
use Rattle.reader.specs.Histories.{InForce, ReadsLawfully, load, clear, write, read, find_syndrome, facts, alike}
use Rattle.reader.specs.declared.record.ReadRecord.{ReadRecord}
use Rattle.runs.specs.declared.runs.Answer.{Answer}
use Rattle.runs.specs.declared.runs.Answer.TheVariants as answers
use Rattle.runs.specs.declared.runs.Call.{Call}
use Rattle.runs.specs.declared.runs.Call.TheVariants.{Load, Clear, Write, Read, Syndrome, Facts, Alike}
use Rattle.runs.specs.declared.runs.Reply.{Reply}

abbrev pub spoken : Call → histories.Call
spoken (Load e t) = load e.now t
spoken Clear = clear
spoken (Write m w) = write m.now w
spoken (Read r b m) = read r.now b m
spoken (Syndrome w b) = find_syndrome w.now b
spoken Facts = facts
spoken (Alike u v) = alike u.now v.now

abbrev pub call_at : List Call → ℕ → histories.Call
call_at xs i = spoken (slice_index_or xs i Clear)

abbrev pub history : List Call → ℕ → List histories.Call
history xs zero = []
history xs (suc i) = call_at xs i ∷ history xs i

abbrev pub zeros : ℕ → List ℕ
zeros m = replicate (min m 65) 0

abbrev pub reply : Result Answer Fault → List ℕ → List ℕ → Reply
reply a w m = record { answer = a; mark = tabulate 64 (at w); message = tabulate 64 (at m) }

abbrev pub reply_at : List Reply → ℕ → Reply
reply_at ys i = slice_index_or ys i (reply (Ok answers.Cleared) [] [])

abbrev pub carried : {X : Type 0} → (X → Answer) → Result X Fault → Result Answer Fault
carried f (Ok x) = Ok (f x)
carried f (Err e) = Err e

module _ (k : Symbols) (g : Dots) where
  abbrev pub Served : Option calls.Code → histories.Call → Reply → Type 0
  Served c (load e t) y =
      (r : Result (ℕ × ℕ) Fault) × calls.Loads k g e t r × (y ≡ reply (carried (λ x. answers.Loaded x.0 x.1) r) [] [])
  Served c clear y = y ≡ reply (Ok answers.Cleared) [] []
  Served c (write m b) y =
      (r : Result (Unit {0}) Fault) × (w : List ℕ) × calls.Writes k g c m (zeros b) r w × (y ≡ reply (carried (λ _. answers.Written) r) w [])
  Served c (read w b m) y =
      (r : Result ReadRecord Fault) × (w' : List ℕ) × (m' : List ℕ) × calls.Reads k g c w (zeros b) (zeros m) r w' m' × (y ≡ reply (carried answers.Mended r) w' m')
  Served c (find_syndrome w b) y =
      (r : Result (Unit {0}) Fault) × (s : List ℕ) × calls.Syndromes k g c w (zeros b) r s × (y ≡ reply (carried (λ _. answers.Syndrome) r) s [])
  Served c facts y =
      (r : Result (ℕ × ℕ × ℕ) Fault) × calls.Facts k g c r × (y ≡ reply (carried (λ x. answers.Facts x.0 x.1 x.2) r) [] [])
  Served c (alike u v) y = (r : Result (Option ℕ) Fault) × calls.Alikes k g u v r × (y ≡ reply (carried answers.Alike r) [] [])

  abbrev pub ReadFaithfully : List histories.Call → histories.Call → Reply → Type 0
  ReadFaithfully past (load e t) y = Unit {0}
  ReadFaithfully past clear y = Unit {0}
  ReadFaithfully past (write m b) y = Unit {0}
  ReadFaithfully past (read w b m) y =
      (r : Result ReadRecord Fault) × (y.answer ≡ carried answers.Mended r) × ReadsLawfully k g past w b m r (take b y.mark) (take m y.message)
  ReadFaithfully past (find_syndrome w b) y = Unit {0}
  ReadFaithfully past facts y = Unit {0}
  ReadFaithfully past (alike u v) y = Unit {0}

  pub record RunsLawfully (xs : List Call) (ys : List Reply) (n : ℕ) : Type 0 where
    pub served : (i : ℕ) → i < n → (c : Option calls.Code) → InForce k g (history xs i) c → Served c (call_at xs i) (reply_at ys i)
    pub read : (i : ℕ) → i < n → ReadFaithfully (history xs i) (call_at xs i) (reply_at ys i)
