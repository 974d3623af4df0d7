-- The calls that a reader got, the code that they leave in force, and the law of each read after them.
--     Call                  a call, with what it was handed; of an output its length
--     InForce k g past c    after the calls of past, the newest first, c is in force
--     ReadLaw k g past ..   the law of a read after past
use Rattle.std.specs.Prelude.{◌≡◌, ℕ, zero, suc, ◌<◌, ◌≤◌, ◌≢◌, List, [], ◌∷◌, length, Some, None, Ok, Err, Option, Result}
use Rattle.algebra.specs.Fields.{Symbols}
use Rattle.algebra.specs.Groups.{Dots}
use Rattle.algebra.specs.Refusals.{reach_refused}
use Rattle.algebra.specs.declared.fault.Fault.{Fault}
use Rattle.words.specs.Words.{at, Lawful, Keeps, less, syndrome, turned, weight}
use Rattle.reader.specs.Calls.{Code}
use Rattle.codes.specs.GroupCodes.{MessageDots, Pattern, WrittenAs, chosen, distance}
use Rattle.reader.specs.Loads.{Passes}
use Rattle.reader.specs.declared.record.ReadRecord.{ReadRecord}

pub data Call : Type 0 where
  load : (e : List ℕ) (t : ℕ) → Call
  clear : Call
  write : (message : List ℕ) (mark : ℕ) → Call
  read : (received : List ℕ) (mended message : ℕ) → Call
  find_syndrome : (mark : List ℕ) (buffer : ℕ) → Call
  facts : Call
  alike : (first second : List ℕ) → Call

-- a call that is neither a load nor a clear
abbrev pub Other : Call → Type 0
Other (load e t) = ⊥
Other clear = ⊥
Other (write m w) = Unit {0}
Other (read r b m) = Unit {0}
Other (find_syndrome w b) = Unit {0}
Other facts = Unit {0}
Other (alike u v) = Unit {0}

module _ (k : Symbols) (g : Dots) where
  pub data InForce : List Call → Option Code → Type 0 where
    at_first : InForce [] None
    loaded : {past : List Call} (e : List ℕ) (t : ℕ) → Passes k g e t → InForce (load e t ∷ past) (Some (record { word = e; radius = t }))
    refused : {past : List Call} {c : Option Code} (e : List ℕ) (t : ℕ) → (Passes k g e t → ⊥) → InForce past c → InForce (load e t ∷ past) c
    cleared : {past : List Call} → InForce (clear ∷ past) None
    kept : {past : List Call} {c : Option Code} (x : Call) → Other x → InForce past c → InForce (x ∷ past) c

  -- the read of r under the code e, t passes the checks of lengths and symbols
  pub record Readable (e ds r : List ℕ) (mended message : ℕ) : Type 0 where
    pub dots : MessageDots k g e ds
    pub received : Lawful k g.order r
    pub mended_length : mended ≡ g.order
    pub message_length : message ≡ length ds

  -- one more than the least number among the inverses of the dots where p is not zero, or 0 if there is none
  abbrev pub CountsTurns : List ℕ → ℕ → Type 0
  CountsTurns p zero = (d : ℕ) → d < g.order → at p d ≡ 0
  CountsTurns p (suc j) = ((d : ℕ) × (d < g.order) × (at p d ≢ 0) × (g.inverse d ≡ j)) × ((d : ℕ) → d < g.order → at p d ≢ 0 → j ≤ g.inverse d)

  pub record ReadLaw (e : List ℕ) (t : ℕ) (ds r : List ℕ) (a : Result ReadRecord Fault) (mended message : List ℕ) : Type 0 where
    pub refused_without : a ≡ Err reach_refused → (p : List ℕ) → Pattern k g e t r p → ⊥
    pub without_refused : ((p : List ℕ) → Pattern k g e t r p → ⊥) → a ≡ Err reach_refused
    pub takes_off : (x : ReadRecord) → a ≡ Ok x → Pattern k g e t r (less k g.order r mended) × (weight (less k g.order r mended) ≡ x.wrong)
        × ((p : List ℕ) → Lawful k g.order p → syndrome k g e p ≡ syndrome k g e r → p ≢ less k g.order r mended → t < weight p)
        × CountsTurns (less k g.order r mended) x.turns
    pub comes_back : (w : List ℕ) (j : ℕ) → Keeps k g e w → j < g.order → distance g.order r (turned g j w) ≤ t
        → ((x : ReadRecord) × (a ≡ Ok x)) × (mended ≡ turned g j w) × (message ≡ chosen ds (turned g j w))
    -- of a mark as it was written: nothing is wrong, its message is that which was written, and writing it gives the mark
    pub undamaged : Keeps k g e r → ((x : ReadRecord) × (a ≡ Ok x) × (x.wrong ≡ 0)) × (mended ≡ r) × WrittenAs k g e ds message r
    pub gives_back : (m : List ℕ) → WrittenAs k g e ds m r → message ≡ m

  -- of each read after past, under whatever code is in force then
  abbrev pub ReadsLawfully : List Call → List ℕ → ℕ → ℕ → Result ReadRecord Fault → List ℕ → List ℕ → Type 0
  ReadsLawfully past r mended message a mended' message' =
      (c : Code) (ds : List ℕ) → InForce past (Some c) → Readable c.word ds r mended message → ReadLaw c.word c.radius ds r a mended' message'
