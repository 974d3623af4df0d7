-- The code that a history of calls leaves in force: there is one at most, and it passed its load.
use Rattle.std.proofs.Common.{◌≡◌, List, ◌∷◌, IfSome, Option, refl}
use Rattle.algebra.specs.Fields.{Symbols}
use Rattle.algebra.specs.Groups.{Dots}
use Rattle.reader.specs.Calls.{Code}
use Rattle.reader.specs.Histories.{Call, InForce, Other}
use Rattle.reader.specs.Histories.InForce.{at_first, loaded, refused, cleared, kept}
use Rattle.reader.specs.Loads.{Passes}
use Rattle.reader.specs.Stored.{Lived}
use Rattle.reader.specs.declared.code.Code.{Code as StoredCode}

module _ {k : Symbols} {g : Dots} where
  pub in_force_unique : {past : List Call} {c c' : Option Code} → InForce k g past c → InForce k g past c' → c ≡ c'
  in_force_unique at_first at_first = refl
  in_force_unique (loaded e t p) (loaded _ _ q) = refl
  in_force_unique (loaded e t p) (refused _ _ fails i) = absurd (fails p)
  in_force_unique (loaded e t p) (kept _ other i) = absurd other
  in_force_unique (refused e t fails i) (loaded _ _ q) = absurd (fails q)
  in_force_unique (refused e t fails i) (refused _ _ fails' j) = in_force_unique i j
  in_force_unique (refused e t fails i) (kept _ other j) = absurd other
  in_force_unique cleared cleared = refl
  in_force_unique cleared (kept _ other j) = absurd other
  in_force_unique (kept x other i) (loaded _ _ q) = absurd other
  in_force_unique (kept x other i) (refused _ _ fails j) = absurd other
  in_force_unique (kept x other i) cleared = absurd other
  in_force_unique (kept x other i) (kept _ another j) = in_force_unique i j

  pub in_force_passes : {past : List Call} {c : Option Code} → InForce k g past c → IfSome c (λ x. Passes k g x.word x.radius)
  in_force_passes at_first = tt
  in_force_passes (loaded e t p) = p
  in_force_passes (refused e t fails i) = in_force_passes i
  in_force_passes cleared = tt
  in_force_passes (kept x other i) = in_force_passes i

pub lived_on : (k : Symbols) (g : Dots) (o : Option StoredCode) (x : Call) → Other x → (past : List Call) → Lived k g past o → Lived k g (x ∷ past) o
lived_on k g o x other past (left, sound) = (kept x other left, sound)
