-- When each turn of e is a combination of the basis, the pivots are the message dots.
use Rattle.std.proofs.Common.{◌≡◌, ℕ, ◌<◌, Bool, true, ◌≢◌, List, length, get_or, sym, ap, ◌∙◌, subst, inl, inr, arith}
use Rattle.std.proofs.lemmas.Bool.{cases_lt, cases_Bool, both_ways}
use Rattle.algebra.specs.Fields.{Symbols, SumProductLaws}
use Rattle.algebra.specs.Groups.{Dots}
use Rattle.words.specs.Words.{at, Lawful, nought, turned, Keeps}
use Rattle.algebra.proofs.SumProducts.{product_zero, zero_product}
use Rattle.words.proofs.Turning.{turned_lawful}
use Rattle.words.proofs.Spans.{keeps_is_spanned, spanned_closed}
use Rattle.codes.specs.GroupCodes.{MessageDot, MessageDots}
use Rattle.codes.specs.Eliminations.{combination, residual, Reduced, pivots}
use Rattle.codes.proofs.Residuals.{Reached, basis_lawful, at_combination_zero, reached_nought, reached_plus, reached_scaled, reached_from_residual}
use Rattle.codes.proofs.PivotLists.{length_pivots_below, get_or_pivots, pivots_listed, pivots_rising, same_from_rising}

pub message_dots_unique : (k : Symbols) (g : Dots) (e ds es : List ℕ) → MessageDots k g e ds → MessageDots k g e es → ds ≡ es
message_dots_unique k g e ds es md me =
    same_from_rising ds es md.0 me.0 (λ i h. me.2 (get_or ds i 0) (md.1 i h)) (λ i h. md.2 (get_or es i 0) (me.1 i h))

module _ {k : Symbols} (laws : SumProductLaws k) {g : Dots} {e : List ℕ} (le : Lawful k g.order e) {P : ℕ → Bool} {B : ℕ → List ℕ} (reduced : Reduced k g e P B) where
  pub message_dot_from_pivot : (d : ℕ) → d < g.order → P d ≡ true → MessageDot k g e d
  message_dot_from_pivot d h p = (h, (B d, reduced.keeps d h p, (λ z. omega (arith, reduced.one_here d h p), reduced.zero_before d h p)))

  module _ (spans : (j : ℕ) → j < g.order → residual k g.order P B (turned g j e) ≡ nought g.order) where
    code_word_reached : (w : List ℕ) → Keeps k g e w → Reached k g.order P B w
    code_word_reached w cw =
        subst (Reached k g.order P B) (sym (keeps_is_spanned k g e w cw))
        (spanned_closed laws g.order (Reached k g.order P B) (reached_nought laws g.order P B (basis_lawful reduced)) (reached_plus laws g.order P B (basis_lawful reduced)) (reached_scaled laws g.order P B (basis_lawful reduced))
        (at w) (λ h. turned g h e) g.order cw.0.1 (λ j h. reached_from_residual laws g.order P B (turned g j e) (turned_lawful laws g j e le) (spans j h)))

    pub code_word_combination : (w : List ℕ) → Keeps k g e w → w ≡ combination k g.order P B (at w)
    code_word_combination w cw = sym (code_word_reached w cw).1

    pub pivot_from_message_dot : (d : ℕ) → MessageDot k g e d → P d ≡ true
    pivot_from_message_dot d (h, (w, cw, (other, before))) = elim (cases_Bool (P d)) [
      | inl p ↦ p
      | inr not-pivot ↦ absurd (other (ap (λ u. at u d) (code_word_combination w cw) ∙ at_combination_zero laws g.order P B (at w) d h (λ i l p. elim (cases_lt i d) [
        | inl earlier ↦ ap (λ y. k.product y (at (B i) d)) (before i earlier) ∙ zero_product laws (at (B i) d) ((basis_lawful reduced i l p).1 d h)
        | inr later ↦
            let ne : i ≢ d = λ s. both_ways (P d) not-pivot (sym (ap P s) ∙ p) in
            ap (k.product (at w i)) (reduced.zero_before i l p d (omega arith)) ∙ product_zero laws (at w i) (cw.0.1 i l)
      ])))
    ]

    pub pivots_are_message_dots : MessageDots k g e (pivots g.order P)
    pivots_are_message_dots = (
      pivots_rising P g.order,
      λ i h. let (l, p, _) = pivots_listed P g.order i h in message_dot_from_pivot (get_or (pivots g.order P) i 0) l p,
      λ d m. let p = pivot_from_message_dot d m in (length (pivots d P), length_pivots_below P g.order d m.0 p, get_or_pivots P g.order d m.0 p),
    )
