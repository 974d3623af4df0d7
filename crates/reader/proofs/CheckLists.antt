-- Checks one after another: what a list of checks and one more list say together.
use Rattle.std.proofs.Common.{List, [], ◌∷◌, ◌++◌, Ok, Err, Result, inl, inr}
use Rattle.algebra.specs.Checks.{Check, Judged, Passed, Refused}
use Rattle.algebra.specs.declared.fault.Fault.{Fault}

pub refused_before : (cs ds : List Check) (f : Fault) → Refused cs f → Refused (cs ++ ds) f
refused_before [] ds f none = absurd none
refused_before (c ∷ cs) ds f (inl here) = inl here
refused_before (c ∷ cs) ds f (inr (asks, later)) = inr (asks, refused_before cs ds f later)

pub refused_after : (cs ds : List Check) (f : Fault) → Passed cs → Refused ds f → Refused (cs ++ ds) f
refused_after [] ds f passed later = later
refused_after (c ∷ cs) ds f (asks, passed) later = inr (asks, refused_after cs ds f passed later)

pub passed_both : (cs ds : List Check) → Passed cs → Passed ds → Passed (cs ++ ds)
passed_both [] ds passed more = more
passed_both (c ∷ cs) ds (asks, passed) more = (asks, passed_both cs ds passed more)

pub judged_after : (cs ds : List Check) (r : Result (Unit {0}) Fault) → Passed cs → Judged ds r (λ _. Unit {0}) → Judged (cs ++ ds) r (λ _. Unit {0})
judged_after cs ds (Ok x) passed (more, _) = (passed_both cs ds passed more, tt)
judged_after cs ds (Err f) passed later = refused_after cs ds f passed later
