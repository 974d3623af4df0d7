-- What the turns of a word have at dot 0.
use Rattle.std.proofs.Common.{◌≡◌, ℕ, zero, suc, ◌+◌, ◌<◌, ◌≤◌, ◌≢◌, ◌⊎◌, List, length, sym, ap, ◌∙◌, inl, inr, arith}
use Rattle.std.proofs.lemmas.Bool.{cases_eq}
use Rattle.algebra.specs.Groups.{Dots, GroupLaws}
use Rattle.words.specs.Words.{at, nought, turned, weight, total}
use Rattle.words.proofs.Groups.{identity_below, inverse_unique}
use Rattle.words.proofs.Tabulate.{tabulate_is}
use Rattle.words.proofs.Totals.{total_cong, total_renumbered}
use Rattle.words.proofs.Linear.{at_turned}
use Rattle.words.proofs.Turning.{turned_back}
use Rattle.words.proofs.Counting.{numbers, numbers_add, mark, mark_zero, mark_most, weight_is_total, total_few}

-- the least number below n at which f is not 0, if there is one
pub least_other : (f : ℕ → ℕ) (n : ℕ) → ((d : ℕ) → d < n → f d ≡ 0) ⊎ ((d : ℕ) × (d < n) × (f d ≢ 0) × ((i : ℕ) → i < d → f i ≡ 0))
least_other f zero = inl (λ d h. absurd (omega arith))
least_other f (suc n) = elim (least_other f n) [
  | inr (d, h, ne, none) ↦ inr (d, omega arith, ne, none)
  | inl none ↦ elim (cases_eq (f n) 0) [
    | inl z ↦ inl (λ d h. elim (cases_eq d n) [ inl e ↦ ap f e ∙ z | inr ne ↦ none d (omega arith) ])
    | inr ne ↦ inr (n, omega arith, ne, none)
  ]
]

module _ {g : Dots} (group : GroupLaws g) where
  pub inverse_inverse : (a : ℕ) → a < g.order → g.inverse (g.inverse a) ≡ a
  inverse_inverse a la = inverse_unique group (g.inverse a) a (group.inverse_below a) la (group.left_inverse a la)

  pub at_turned_zero : (j : ℕ) (w : List ℕ) → at (turned g j w) 0 ≡ at w (g.inverse j)
  at_turned_zero j w = at_turned g j w 0 (identity_below group) ∙ ap (at w) (group.right_identity (g.inverse j) (group.inverse_below j))

  pub turned_to_zero : (d : ℕ) (w : List ℕ) → d < g.order → at (turned g (g.inverse d) w) 0 ≡ at w d
  turned_to_zero d w ld = at_turned_zero (g.inverse d) w ∙ ap (at w) (inverse_inverse d ld)

  pub same_from_turned : (j : ℕ) (u v : List ℕ) → j < g.order → length u ≡ g.order → length v ≡ g.order → turned g j u ≡ turned g j v → u ≡ v
  same_from_turned j u v lj lu lv e = sym (turned_back group j u lj lu) ∙ ap (turned g (g.inverse j)) e ∙ turned_back group j v lj lv

  pub nought_from_turns : (w : List ℕ) → length w ≡ g.order → ((j : ℕ) → j < g.order → at (turned g j w) 0 ≡ 0) → w ≡ nought g.order
  unfolding nought
  nought_from_turns w l zeros = tabulate_is g.order _ w l (λ d ld.
      sym (turned_to_zero d w ld) ∙ zeros (g.inverse d) (group.inverse_below d))

  pub least_turn : (w : List ℕ) → length w ≡ g.order → w ≢ nought g.order → (j : ℕ) × (j < g.order) × (at (turned g j w) 0 ≢ 0) × ((i : ℕ) → i < j → at (turned g i w) 0 ≡ 0)
  least_turn w l ne = elim (least_other (λ j. at (turned g j w) 0) g.order) [
    | inl zeros ↦ absurd (ne (nought_from_turns w l zeros))
    | inr found ↦ found
  ]

  pub weight_turns : (w : List ℕ) → length w ≡ g.order → weight w ≡ total numbers (λ j. mark (at (turned g j w) 0)) g.order
  weight_turns w l =
      weight_is_total g.order w l
      ∙ sym (total_renumbered numbers_add (λ d. mark (at w d)) g.inverse g.inverse g.order
      (λ d. tt) (λ h _. group.inverse_below h) (λ h _. group.inverse_below h) inverse_inverse inverse_inverse)
      ∙ total_cong numbers _ _ g.order (λ j _. ap mark (sym (at_turned_zero j w)))

  -- each turn with 0 at dot 0 is a dot with symbol 0
  pub weight_after_turns : (w : List ℕ) (j : ℕ) → length w ≡ g.order → j ≤ g.order → ((i : ℕ) → i < j → at (turned g i w) 0 ≡ 0) → weight w + j ≤ g.order
  weight_after_turns w j l lj zeros =
      omega (arith, weight_turns w l, total_few (λ i. mark (at (turned g i w) 0)) j g.order lj (λ i. mark_most (at (turned g i w) 0)) (λ i li. mark_zero (at (turned g i w) 0) (zeros i li)))
