-- A call that is refused did not pass its checks.
--     Sane c                the check c does not refuse where it has what it asks
use Rattle.std.proofs.Common.{ℕ, List, [], ◌∷◌, ⊎_elim}
use Rattle.algebra.specs.Checks.{Check, Passed, Refused, asked, each}
use Rattle.algebra.specs.Fields.{Symbols}
use Rattle.algebra.specs.Groups.{Dots}
use Rattle.algebra.specs.declared.fault.Fault.{Fault}
use Rattle.reader.specs.Loads.{Passes, load_checks}

abbrev Sane : Check → Type 0
Sane c = (f : Fault) → c.refuses f → c.asks → ⊥

abbrev AllSane : List Check → Type 0
AllSane [] = Unit {0}
AllSane (c ∷ cs) = Sane c × AllSane cs

asked_sane : (P : Type 0) (x : Fault) → Sane (asked P x)
asked_sane P x f (fails, _) holds = fails holds

each_sane : (n : ℕ) (P : ℕ → Type 0) (x : ℕ → Fault) → Sane (each n P x)
each_sane n P x f (i, below, (fails, _), _) all = fails (all i below)

refused_fails : (cs : List Check) → AllSane cs → (f : Fault) → Refused cs f → Passed cs → ⊥
refused_fails [] sane f here all = here
refused_fails (c ∷ cs) (first, others) f found (holds, all) =
    ⊎_elim (λ here. first f here holds) (λ later. refused_fails cs others f later.1 all) found

pub load_fails : (k : Symbols) (g : Dots) (e : List ℕ) (t : ℕ) (f : Fault) → Refused (load_checks k g e t) f → Passes k g e t → ⊥
load_fails k g e t =
    refused_fails (load_checks k g e t)
    (asked_sane _ _, (each_sane _ _ _, (asked_sane _ _, (asked_sane _ _, (each_sane _ _ _, (each_sane _ _ _, (asked_sane _ _, tt)))))))
