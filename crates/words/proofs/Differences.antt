-- Differences of words, and whether two words are one.
use Rattle.std.proofs.Common.{◌≡◌, ℕ, ◌≢◌, ◌⊎◌, List, sym, ap, ◌∙◌, inl, inr}
use Rattle.std.proofs.lemmas.Bool.{cases_eq}
use Rattle.algebra.specs.Fields.{Symbols, SumProductLaws}
use Rattle.words.specs.Words.{Lawful, nought, less, weight}
use Rattle.words.proofs.Linear.{nought_lawful, less_lawful, plus_commutative, plus_nought, less_self, less_plus, plus_less, same_from_less}
use Rattle.words.proofs.Weights.{weight_nought, nought_from_weight}

module _ {k : Symbols} (laws : SumProductLaws k) (n : ℕ) where
  pub less_nought : (w : List ℕ) → Lawful k n w → less k n w (nought n) ≡ w
  less_nought w lw = ap (λ x. less k n x (nought n)) (sym (plus_nought laws n w lw)) ∙ less_plus laws n w (nought n) lw (nought_lawful laws n)

  pub less_less : (u v : List ℕ) → Lawful k n u → Lawful k n v → less k n u (less k n u v) ≡ v
  less_less u v lu lv =
      ap (λ x. less k n x (less k n u v)) (sym (plus_less laws n u v lu lv) ∙ plus_commutative laws n (less k n u v) v (less_lawful laws n u v) lv)
      ∙ less_plus laws n v (less k n u v) lv (less_lawful laws n u v)

  pub nought_decided : (w : List ℕ) → Lawful k n w → (w ≡ nought n) ⊎ (w ≢ nought n)
  nought_decided w lw = elim (cases_eq (weight w) 0) [
    | inl e ↦ inl (nought_from_weight n w lw.0 e)
    | inr ne ↦ inr (λ e. ne (ap weight e ∙ weight_nought n))
  ]

  pub same_decided : (u v : List ℕ) → Lawful k n u → Lawful k n v → (u ≡ v) ⊎ (u ≢ v)
  same_decided u v lu lv = elim (nought_decided (less k n u v) (less_lawful laws n u v)) [
    | inl e ↦ inl (same_from_less laws n u v lu lv e)
    | inr ne ↦ inr (λ e. ne (ap (λ x. less k n x v) e ∙ less_self laws n v lv))
  ]
