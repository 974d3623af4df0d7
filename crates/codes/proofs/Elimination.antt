-- One step of the elimination: a code word whose residual leads at p makes p a pivot.
--     NewRow k g e P p b          b is a code word with 1 at p, and 0 before p and at the pivots
use Rattle.std.proofs.Common.{◌≡◌, ℕ, ◌<◌, Bool, true, ◌≢◌, List, sym, ap, ◌∙◌, subst, ap₂, inl, inr, arith}
use Rattle.std.proofs.lemmas.Bool.{cases_eq, cases_lt}
use Rattle.algebra.specs.Fields.{Symbols, SumProductLaws}
use Rattle.algebra.specs.Groups.{Dots}
use Rattle.words.specs.Words.{at, Lawful, nought, plus, less, scaled, Keeps}
use Rattle.algebra.proofs.SumProducts.{zero_below, sum_opposite_cancels, product_zero, zero_product}
use Rattle.words.proofs.Linear.{at_less, at_scaled, lawful_at, less_lawful, scaled_lawful, plus_associative, less_self, plus_less}
use Rattle.words.proofs.Weights.{scaled_back}
use Rattle.words.proofs.CodeWords.{less_keeps, scaled_keeps}
use Rattle.codes.specs.GroupCodes.{Leads}
use Rattle.codes.specs.Eliminations.{combination, residual, Reduced, cleared, Extended}
use Rattle.codes.proofs.Residuals.{Reached, basis_lawful, ZeroAtPivots, combination_lawful, combination_closed, reached_from_residual, residual_from_reached, residual_lawful, residual_plus_combination, residual_unique, residual_keeps, at_residual_pivot, reached_nought, reached_plus, reached_scaled, basis_reached}

pub record NewRow (k : Symbols) (g : Dots) (e : List ℕ) (P : ℕ → Bool) (p : ℕ) (b : List ℕ) : Type 0 where
  pub below : p < g.order
  pub keeps : Keeps k g e b
  pub one_here : at b p ≡ 1
  pub zero_before : (x : ℕ) → x < p → at b x ≡ 0
  pub zero_at_pivots : ZeroAtPivots g.order P b

module _ {k : Symbols} (laws : SumProductLaws k) (n p : ℕ) (b u : List ℕ) (lu : Lawful k n u) where
  at_cleared : (x : ℕ) → x < n → at (cleared k n p b u) x ≡ k.sum (at u x) (k.opposite (k.product (at u p) (at b x)))
  at_cleared x h = at_less k n u (scaled k n (at u p) b) x h ∙ ap (λ y. k.sum (at u x) (k.opposite y)) (at_scaled k n (at u p) b x h)

  at_cleared_same : (x : ℕ) → x < n → k.product (at u p) (at b x) ≡ 0 → at (cleared k n p b u) x ≡ at u x
  at_cleared_same x h e =
      at_cleared x h
      ∙ ap₂ (λ y z. k.sum y (k.opposite z)) (sym (laws.sum_zero (at u x) (lu.1 x h))) e
      ∙ sum_opposite_cancels laws (at u x) 0 (lu.1 x h) (zero_below laws)

  at_cleared_where_zero : (x : ℕ) → x < n → at b x ≡ 0 → at (cleared k n p b u) x ≡ at u x
  at_cleared_where_zero x h e = at_cleared_same x h (ap (k.product (at u p)) e ∙ product_zero laws (at u p) (lawful_at laws n u lu p))

  at_cleared_zero : (x : ℕ) → x < n → at b x < k.order → at u p ≡ 0 → at (cleared k n p b u) x ≡ at u x
  at_cleared_zero x h l e = at_cleared_same x h (ap (λ y. k.product y (at b x)) e ∙ zero_product laws (at b x) l)

  at_cleared_here : p < n → at b p ≡ 1 → at (cleared k n p b u) p ≡ 0
  at_cleared_here h e =
      at_cleared p h ∙ ap (λ y. k.sum (at u p) (k.opposite y)) (ap (k.product (at u p)) e ∙ laws.product_one (at u p) (lu.1 p h)) ∙ laws.sum_opposite (at u p) (lu.1 p h)

  cleared_plus : plus k n (cleared k n p b u) (scaled k n (at u p) b) ≡ u
  cleared_plus = plus_less laws n u (scaled k n (at u p) b) lu (scaled_lawful laws n (at u p) b)

module _ {k : Symbols} (laws : SumProductLaws k) {g : Dots} {e : List ℕ} {P : ℕ → Bool} {B : ℕ → List ℕ} (reduced : Reduced k g e P B) {p : ℕ} {b : List ℕ} (new : NewRow k g e P p b) {Q : ℕ → Bool} {A : ℕ → List ℕ} (extended : Extended k g.order P B p b Q A) where
  pivot_before : (d : ℕ) → d < g.order → Q d ≡ true → d ≢ p → P d ≡ true
  pivot_before d h q ne = sym (extended.pivots_other d h ne) ∙ q

  pivot_not_new : (d : ℕ) → d < g.order → P d ≡ true → d ≢ p
  pivot_not_new d h q s = let z : ◌≡◌ {A = ℕ} 0 1 = sym (new.zero_at_pivots d h q) ∙ ap (at b) s ∙ new.one_here in omega arith

  pivot_after : (d : ℕ) → d < g.order → P d ≡ true → Q d ≡ true
  pivot_after d h q = extended.pivots_other d h (pivot_not_new d h q) ∙ q

  word_after : (d : ℕ) → d < g.order → P d ≡ true → A d ≡ cleared k g.order p b (B d)
  word_after d h q = extended.words_other d h q (pivot_not_new d h q)

  extended_each : (C : ℕ → List ℕ → Type 0) → C p b → ((d : ℕ) → d < g.order → P d ≡ true → C d (cleared k g.order p b (B d))) → (d : ℕ) → d < g.order → Q d ≡ true → C d (A d)
  extended_each C here others d h q = elim (cases_eq d p) [
    | inl s ↦ subst (λ i. C i (A i)) (sym s) (subst (C p) (sym extended.word_here) here)
    | inr ne ↦ let old = pivot_before d h q ne in subst (C d) (sym (word_after d h old)) (others d h old)
  ]

  pub extended_reduced : Lawful k g.order e → Reduced k g e Q A
  extended_reduced le = record {
    keeps = extended_each (λ d u. Keeps k g e u) new.keeps (λ d h q.
        less_keeps laws g e le (B d) (scaled k g.order (at (B d) p) b) (reduced.keeps d h q) (scaled_keeps laws g e le (at (B d) p) b (lawful_at laws g.order (B d) (basis_lawful reduced d h q) p) new.keeps));
    one_here = extended_each (λ d u. at u d ≡ 1) new.one_here (λ d h q.
        at_cleared_where_zero laws g.order p b (B d) (basis_lawful reduced d h q) d h (new.zero_at_pivots d h q) ∙ reduced.one_here d h q);
    zero_before = extended_each (λ d u. (x : ℕ) → x < d → at u x ≡ 0) new.zero_before before;
    zero_at_pivots = extended_each (λ d u. (x : ℕ) → x < g.order → Q x ≡ true → x ≢ d → at u x ≡ 0) (λ x lx q ne. new.zero_at_pivots x lx (pivot_before x lx q ne)) elsewhere;
  }
    where
      before : (d : ℕ) → d < g.order → P d ≡ true → (x : ℕ) → x < d → at (cleared k g.order p b (B d)) x ≡ 0
      before d h q x lx =
          (elim (cases_lt x p) as (λ _. at (cleared k g.order p b (B d)) x ≡ at (B d) x) [
            | inl l ↦ at_cleared_where_zero laws g.order p b (B d) (basis_lawful reduced d h q) x (omega arith) (new.zero_before x l)
            | inr l ↦ at_cleared_zero laws g.order p b (B d) (basis_lawful reduced d h q) x (omega arith) (lawful_at laws g.order b new.keeps.0 x) (reduced.zero_before d h q p (omega arith))
          ]) ∙ reduced.zero_before d h q x lx

      elsewhere : (d : ℕ) → d < g.order → P d ≡ true → (x : ℕ) → x < g.order → Q x ≡ true → x ≢ d → at (cleared k g.order p b (B d)) x ≡ 0
      elsewhere d h q x lx qx ne = elim (cases_eq x p) [
        | inl s ↦ ap (at (cleared k g.order p b (B d))) s ∙ at_cleared_here laws g.order p b (B d) (basis_lawful reduced d h q) new.below new.one_here
        | inr other ↦
            let old = pivot_before x lx qx other in
            at_cleared_where_zero laws g.order p b (B d) (basis_lawful reduced d h q) x lx (new.zero_at_pivots x lx old) ∙ reduced.zero_at_pivots d h q x lx old ne
      ]

  module _ (le : Lawful k g.order e) where
    multiple_reached : (c : ℕ) → c < k.order → Reached k g.order Q A (scaled k g.order c b)
    multiple_reached c lc =
        reached_scaled laws g.order Q A (basis_lawful (extended_reduced le)) c b lc
        (subst (Reached k g.order Q A) extended.word_here (basis_reached laws (extended_reduced le) p new.below extended.pivot_here))

    old_reached : (d : ℕ) → d < g.order → P d ≡ true → Reached k g.order Q A (B d)
    old_reached d h q =
        subst (Reached k g.order Q A) (cleared_plus laws g.order p b (B d) (basis_lawful reduced d h q))
        (reached_plus laws g.order Q A (basis_lawful (extended_reduced le)) (cleared k g.order p b (B d)) (scaled k g.order (at (B d) p) b)
        (subst (Reached k g.order Q A) (word_after d h q) (basis_reached laws (extended_reduced le) d h (pivot_after d h q)))
        (multiple_reached (at (B d) p) (lawful_at laws g.order (B d) (basis_lawful reduced d h q) p)))

    combination_reached_after : (c : ℕ → ℕ) → ((d : ℕ) → d < g.order → c d < k.order) → Reached k g.order Q A (combination k g.order P B c)
    combination_reached_after =
        combination_closed laws g.order P B (Reached k g.order Q A) (reached_nought laws g.order Q A (basis_lawful (extended_reduced le)))
        (reached_plus laws g.order Q A (basis_lawful (extended_reduced le))) (reached_scaled laws g.order Q A (basis_lawful (extended_reduced le))) old_reached

    -- what is a combination of the old words is one of the new
    pub reached_extended : (v : List ℕ) → Reached k g.order P B v → Reached k g.order Q A v
    reached_extended v rv = subst (Reached k g.order Q A) rv.1 (combination_reached_after (at v) rv.0.1)

    pub residual_extended : (v : List ℕ) → Lawful k g.order v → residual k g.order Q A v ≡ cleared k g.order p b (residual k g.order P B v)
    residual_extended v lv =
        residual_unique laws (extended_reduced le) v (cleared k g.order p b rv) (plus k g.order bv cv) (less_lawful laws g.order rv bv) zeros
        (reached_plus laws g.order Q A (basis_lawful (extended_reduced le)) bv cv (multiple_reached (at rv p) (lawful_at laws g.order rv lrv p)) (combination_reached_after (at v) lv.1))
        (sym (residual_plus_combination laws g.order P B v lv)
        ∙ ap (λ u. plus k g.order u cv) (sym (cleared_plus laws g.order p b rv lrv))
        ∙ plus_associative laws g.order (cleared k g.order p b rv) bv cv (less_lawful laws g.order rv bv) (scaled_lawful laws g.order (at rv p) b) (combination_lawful laws g.order P B (at v)))
      where
        rv : List ℕ
        rv = residual k g.order P B v

        bv : List ℕ
        bv = scaled k g.order (at rv p) b

        cv : List ℕ
        cv = combination k g.order P B (at v)

        lrv : Lawful k g.order rv
        lrv = residual_lawful laws g.order P B v

        zeros : ZeroAtPivots g.order Q (cleared k g.order p b rv)
        zeros d h q = elim (cases_eq d p) [
          | inl s ↦ ap (at (cleared k g.order p b rv)) s ∙ at_cleared_here laws g.order p b rv lrv new.below new.one_here
          | inr ne ↦
              let old = pivot_before d h q ne in
              at_cleared_where_zero laws g.order p b rv lrv d h (new.zero_at_pivots d h old) ∙ at_residual_pivot laws reduced v lv d h old
        ]

    pub residual_extended_nought : (v : List ℕ) → Lawful k g.order v → residual k g.order P B v ≡ nought g.order → residual k g.order Q A v ≡ nought g.order
    residual_extended_nought v lv e =
        residual_from_reached laws g.order Q A v (reached_extended v (reached_from_residual laws g.order P B v lv e))

-- the new word, from a code word whose residual leads at p
module _ {k : Symbols} (laws : SumProductLaws k) {g : Dots} {e : List ℕ} (le : Lawful k g.order e) {P : ℕ → Bool} {B : ℕ → List ℕ} (reduced : Reduced k g e P B) (w : List ℕ) (cw : Keeps k g e w) (p : ℕ) (lp : p < g.order) (a : ℕ) (la : a < k.order) (inverse : k.product (at (residual k g.order P B w) p) a ≡ 1) where
  lawful_residual : Lawful k g.order (residual k g.order P B w)
  lawful_residual = residual_lawful laws g.order P B w

  inverse_left : k.product a (at (residual k g.order P B w) p) ≡ 1
  inverse_left = laws.product_commutative a (at (residual k g.order P B w) p) la (lawful_residual.1 p lp) ∙ inverse

  at_zero : (x : ℕ) → x < g.order → at (residual k g.order P B w) x ≡ 0 → at (scaled k g.order a (residual k g.order P B w)) x ≡ 0
  at_zero x h z = at_scaled k g.order a (residual k g.order P B w) x h ∙ ap (k.product a) z ∙ product_zero laws a la

  pub new_row : Leads (residual k g.order P B w) p → NewRow k g e P p (scaled k g.order a (residual k g.order P B w))
  new_row leads = record {
    below = lp;
    keeps = scaled_keeps laws g e le a (residual k g.order P B w) la (residual_keeps laws reduced le w cw);
    one_here = at_scaled k g.order a (residual k g.order P B w) p lp ∙ inverse_left;
    zero_before = λ x lx. at_zero x (omega arith) (leads.1 x lx);
    zero_at_pivots = λ d h q. at_zero d h (at_residual_pivot laws reduced w cw.0 d h q);
  }

  residual_cleared : cleared k g.order p (scaled k g.order a (residual k g.order P B w)) (residual k g.order P B w) ≡ nought g.order
  residual_cleared =
      ap (less k g.order (residual k g.order P B w)) (scaled_back laws g.order a (at (residual k g.order P B w) p) (residual k g.order P B w) la (lawful_residual.1 p lp) inverse_left lawful_residual)
      ∙ less_self laws g.order (residual k g.order P B w) lawful_residual

  pub residual_extended_by : Leads (residual k g.order P B w) p → {Q : ℕ → Bool} {A : ℕ → List ℕ} → Extended k g.order P B p (scaled k g.order a (residual k g.order P B w)) Q A → residual k g.order Q A w ≡ nought g.order
  residual_extended_by leads extended = residual_extended laws reduced (new_row leads) extended le w cw.0 ∙ residual_cleared
