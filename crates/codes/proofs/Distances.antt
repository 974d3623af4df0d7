-- The distance of two words is the weight of their difference.
use Rattle.std.proofs.Common.{◌≡◌, ℕ, zero, suc, ◌+◌, cond, eqb, List, sym, refl, ap, ◌∙◌, ap₂, inl, inr}
use Rattle.std.proofs.lemmas.Bool.{cases_eq, eq-eqb, ne_eqb}
use Rattle.algebra.specs.Fields.{Symbols, SumProductLaws}
use Rattle.words.specs.Words.{at, total, Lawful, less, weight}
use Rattle.words.proofs.Totals.{total_cong}
use Rattle.words.proofs.Linear.{at_less, less_lawful}
use Rattle.words.proofs.Counting.{numbers, mark, weight_is_total, mark_difference}
use Rattle.codes.specs.GroupCodes.{distance}

distance_is_total : (n : ℕ) (u v : List ℕ) → distance n u v ≡ total numbers (λ d. cond (eqb (at u d) (at v d)) 0 1) n
unfolding distance total
distance_is_total zero u v = refl
distance_is_total (suc n) u v = ap (λ x. x + cond (eqb (at u n) (at v n)) 0 1) (distance_is_total n u v)

pub distance_is_weight : {k : Symbols} → SumProductLaws k → (n : ℕ) (u v : List ℕ) → Lawful k n u → Lawful k n v → distance n u v ≡ weight (less k n u v)
distance_is_weight {k} laws n u v lu lv =
    distance_is_total n u v
    ∙ total_cong numbers _ _ n (λ d h. sym (ap mark (at_less k n u v d h) ∙ mark_difference laws (at u d) (at v d) (lu.1 d h) (lv.1 d h)))
    ∙ sym (weight_is_total n (less k n u v) (less_lawful laws n u v).0)

eqb_commutative : (a b : ℕ) → eqb a b ≡ eqb b a
eqb_commutative a b = elim (cases_eq a b) [
  | inl e ↦ eq-eqb a b e ∙ sym (eq-eqb b a (sym e))
  | inr ne ↦ ne_eqb a b ne ∙ sym (ne_eqb b a (λ e. ne (sym e)))
]

pub distance_commutative : (n : ℕ) (u v : List ℕ) → distance n u v ≡ distance n v u
unfolding distance
distance_commutative zero u v = refl
distance_commutative (suc n) u v = ap₂ (λ x b. x + cond b 0 1) (distance_commutative n u v) (eqb_commutative (at u n) (at v n))
