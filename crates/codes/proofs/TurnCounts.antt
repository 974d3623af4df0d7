-- Each word has one count of turns: it is 0 for the zero word, and else one more than the least inverse of a wrong dot.
use Rattle.std.proofs.Common.{◌≡◌, ℕ, zero, suc, ◌+◌, ◌<◌, ◌≤◌, ◌≢◌, List, length, sym, refl, ap, ◌∙◌, inl, inr, arith}
use Rattle.std.proofs.lemmas.Bool.{cases_lt, cases_order}
use Rattle.algebra.specs.Groups.{Dots, GroupLaws}
use Rattle.words.specs.Words.{at, nought, turned, weight}
use Rattle.words.proofs.Groups.{identity_below}
use Rattle.words.proofs.Linear.{at_nought}
use Rattle.words.proofs.Turning.{turned_nought}
use Rattle.words.proofs.Weights.{weight_nought}
use Rattle.words.proofs.Turns.{least_other, inverse_inverse, at_turned_zero, turned_to_zero, nought_from_turns, weight_after_turns}
use Rattle.codes.specs.GroupCodes.{TurnCount}

module _ {g : Dots} (group : GroupLaws g) (p : List ℕ) where
  pub turn_count_exists : length p ≡ g.order → (c : ℕ) × TurnCount g p c
  turn_count_exists l = elim (least_other (λ j. at (turned g j p) 0) g.order) [
    | inl zeros ↦ (0, nought_from_turns group p l zeros)
    | inr (j, lj, other, least) ↦ (suc j, (lj, other, least))
  ]

  turns_of_nought : (j : ℕ) → p ≡ nought g.order → at (turned g j p) 0 ≡ 0
  turns_of_nought j z = ap (λ x. at (turned g j x) 0) z ∙ ap (λ x. at x 0) (turned_nought group j) ∙ at_nought g.order 0 (identity_below group)

  pub turn_count_of_nought : (c : ℕ) → TurnCount g p c → p ≡ nought g.order → c ≡ 0
  turn_count_of_nought zero count z = refl
  turn_count_of_nought (suc j) count z = absurd (count.1 (turns_of_nought j z))

  pub nought_from_turn_count : (c : ℕ) → TurnCount g p c → c ≡ 0 → p ≡ nought g.order
  nought_from_turn_count zero count z = count
  nought_from_turn_count (suc j) count z = absurd (omega arith)

  pub turn_count_unique : (c c' : ℕ) → TurnCount g p c → TurnCount g p c' → c ≡ c'
  turn_count_unique zero c' count count' = sym (turn_count_of_nought c' count' count)
  turn_count_unique (suc j) zero count count' = turn_count_of_nought (suc j) count count'
  turn_count_unique (suc j) (suc j') count count' = elim (cases_order j j') [
    | inl e ↦ ap suc e
    | inr (inl h) ↦ absurd (count.1 (count'.2 j h))
    | inr (inr h) ↦ absurd (count'.1 (count.2 j' h))
  ]

  pub turn_count_is_inverse : (j : ℕ) → TurnCount g p (suc j) → (d : ℕ) × (d < g.order) × (at p d ≢ 0) × (g.inverse d ≡ j)
  turn_count_is_inverse j count =
      (g.inverse j, group.inverse_below j, (λ z. count.1 (at_turned_zero group j p ∙ z)), inverse_inverse group j count.0)

  pub turn_count_is_least : (j : ℕ) → TurnCount g p (suc j) → (d : ℕ) → d < g.order → at p d ≢ 0 → j ≤ g.inverse d
  turn_count_is_least j count d ld ne = elim (cases_lt (g.inverse d) j) [
    | inl h ↦ absurd (ne (sym (turned_to_zero group d p ld) ∙ count.2 (g.inverse d) h))
    | inr h ↦ h
  ]

  pub weight_and_turn_count : (c : ℕ) → length p ≡ g.order → TurnCount g p c → weight p + c ≤ g.order + 1
  weight_and_turn_count zero l count = omega (arith, ap weight count, weight_nought g.order)
  weight_and_turn_count (suc j) l count = omega (arith, weight_after_turns group p j l (omega arith) count.2)
