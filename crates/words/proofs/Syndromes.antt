-- Differences of words with one syndrome, and from code words.
use Rattle.std.proofs.Common.{◌≡◌, ℕ, List, ap, ◌∙◌}
use Rattle.algebra.specs.Fields.{Symbols, SumProductLaws}
use Rattle.algebra.specs.Groups.{Dots, GroupLaws}
use Rattle.words.specs.Words.{Lawful, less, Keeps, syndrome}
use Rattle.words.proofs.Linear.{less_lawful, less_self, syndrome_lawful, syndrome_less, keeps_from_syndrome, syndrome_from_keeps}
use Rattle.words.proofs.Differences.{less_nought}

module _ {k : Symbols} (laws : SumProductLaws k) {g : Dots} (group : GroupLaws g) (e : List ℕ) (le : Lawful k g.order e) where
  pub same_syndrome_keeps : (u v : List ℕ) → Lawful k g.order u → Lawful k g.order v → syndrome k g e u ≡ syndrome k g e v → Keeps k g e (less k g.order u v)
  same_syndrome_keeps u v lu lv same = keeps_from_syndrome laws group e (less k g.order u v) le (less_lawful laws g.order u v) (
      syndrome_less laws g e u v lu lv
      ∙ ap (λ x. less k g.order x (syndrome k g e v)) same
      ∙ less_self laws g.order (syndrome k g e v) (syndrome_lawful laws g e v))

  pub syndrome_less_keeps : (u v : List ℕ) → Lawful k g.order u → Keeps k g e v → syndrome k g e (less k g.order u v) ≡ syndrome k g e u
  syndrome_less_keeps u v lu c =
      syndrome_less laws g e u v lu c.0
      ∙ ap (less k g.order (syndrome k g e u)) (syndrome_from_keeps laws group e v le c.0 c)
      ∙ less_nought laws g.order (syndrome k g e u) (syndrome_lawful laws g e u)
