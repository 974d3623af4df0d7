-- Sums, differences, multiples and products of lawful words, and the syndrome.
use Rattle.std.proofs.Common.{◌≡◌, ℕ, ◌<◌, cond, eqb, ◌≢◌, List, sym, ap, ◌∙◌, ap₂, inl, inr, arith}
use Rattle.std.proofs.lemmas.Bool.{cases_lt, ne_eqb, cond_both, cond-false}
use Rattle.algebra.specs.Fields.{Symbols, SumProductLaws}
use Rattle.algebra.specs.Groups.{Dots, GroupLaws}
use Rattle.words.specs.Words.{at, tabulate, total, Lawful, nought, one, plus, less, scaled, times, turned, Keeps, syndrome}
use Rattle.algebra.proofs.SumProducts.{zero_below, one_below, zero_sum, sum_opposite_cancels, opposite_sum_cancels, product_zero, zero_product, one_product, sum_product, product_exchange, opposite_product}
use Rattle.words.proofs.Groups.{identity_below, product_forth, inverse_identity}
use Rattle.words.proofs.Tabulate.{length_tabulate, at_tabulate, at_past, tabulate_is, tabulate_ext}
use Rattle.words.proofs.Totals.{total_cong, total_zero, total_sum, total_one_term, field_adds, total_below, product_total}

-- the dot h for which j times h is d
abbrev pub back : Dots → ℕ → ℕ → ℕ
back g j d = g.product (g.inverse j) d

-- what dot h adds to the product of u and v at x
abbrev pub term : Symbols → Dots → List ℕ → List ℕ → ℕ → ℕ → ℕ
term k g u v x h = k.product (at u h) (at v (back g h x))

pub at_nought : (n d : ℕ) → d < n → at (nought n) d ≡ 0
unfolding nought
at_nought n d h = at_tabulate n (λ d. 0) d h

pub at_one_zero : (n : ℕ) → 0 < n → at (one n) 0 ≡ 1
unfolding one
at_one_zero n h = at_tabulate n (λ d. cond (eqb d 0) 1 0) 0 h

pub at_one_other : (n d : ℕ) → d < n → d ≢ 0 → at (one n) d ≡ 0
unfolding one
at_one_other n d h ne = at_tabulate n (λ d. cond (eqb d 0) 1 0) d h ∙ cond-false (eqb d 0) 1 0 (ne_eqb d 0 ne)

pub at_plus : (k : Symbols) (n : ℕ) (u v : List ℕ) (d : ℕ) → d < n → at (plus k n u v) d ≡ k.sum (at u d) (at v d)
unfolding plus
at_plus k n u v d h = at_tabulate n (λ d. k.sum (at u d) (at v d)) d h

pub at_less : (k : Symbols) (n : ℕ) (u v : List ℕ) (d : ℕ) → d < n → at (less k n u v) d ≡ k.sum (at u d) (k.opposite (at v d))
unfolding less
at_less k n u v d h = at_tabulate n (λ d. k.sum (at u d) (k.opposite (at v d))) d h

pub at_scaled : (k : Symbols) (n a : ℕ) (w : List ℕ) (d : ℕ) → d < n → at (scaled k n a w) d ≡ k.product a (at w d)
unfolding scaled
at_scaled k n a w d h = at_tabulate n (λ d. k.product a (at w d)) d h

pub at_times : (k : Symbols) (g : Dots) (u v : List ℕ) (x : ℕ) → x < g.order → at (times k g u v) x ≡ total k (term k g u v x) g.order
unfolding times
at_times k g u v x h = at_tabulate g.order (λ x. total k (term k g u v x) g.order) x h

pub at_turned : (g : Dots) (j : ℕ) (w : List ℕ) (d : ℕ) → d < g.order → at (turned g j w) d ≡ at w (back g j d)
unfolding turned
at_turned g j w d h = at_tabulate g.order (λ d. at w (back g j d)) d h

pub tabulate_lawful : (k : Symbols) (n : ℕ) (f : ℕ → ℕ) → ((d : ℕ) → d < n → f d < k.order) → Lawful k n (tabulate n f)
tabulate_lawful k n f below = (length_tabulate n f, λ d h. rw (at_tabulate n f d h) (below d h))

module _ {k : Symbols} (laws : SumProductLaws k) (n : ℕ) where
  pub lawful_at : (w : List ℕ) → Lawful k n w → (d : ℕ) → at w d < k.order
  lawful_at w l d = elim (cases_lt d n) [
    | inl h ↦ l.1 d h
    | inr h ↦ rw (at_past w d (omega (arith, l.0))) (zero_below laws)
  ]

  pub nought_lawful : Lawful k n (nought n)
  unfolding nought
  nought_lawful = tabulate_lawful k n (λ d. 0) (λ d h. zero_below laws)

  pub one_lawful : Lawful k n (one n)
  unfolding one
  one_lawful = tabulate_lawful k n (λ d. cond (eqb d 0) 1 0) (λ d h. cond_both (eqb d 0) 1 0 (λ x. x < k.order) (λ _. one_below laws) (λ _. zero_below laws))

  pub plus_lawful : (u v : List ℕ) → Lawful k n (plus k n u v)
  unfolding plus
  plus_lawful u v = tabulate_lawful k n (λ d. k.sum (at u d) (at v d)) (λ d h. laws.sum_below (at u d) (at v d))

  pub less_lawful : (u v : List ℕ) → Lawful k n (less k n u v)
  unfolding less
  less_lawful u v = tabulate_lawful k n (λ d. k.sum (at u d) (k.opposite (at v d))) (λ d h. laws.sum_below (at u d) (k.opposite (at v d)))

  pub scaled_lawful : (a : ℕ) (w : List ℕ) → Lawful k n (scaled k n a w)
  unfolding scaled
  scaled_lawful a w = tabulate_lawful k n (λ d. k.product a (at w d)) (λ d h. laws.product_below a (at w d))

  pub plus_commutative : (u v : List ℕ) → Lawful k n u → Lawful k n v → plus k n u v ≡ plus k n v u
  unfolding plus
  plus_commutative u v lu lv = tabulate_ext n _ _ (λ d h. laws.sum_commutative (at u d) (at v d) (lu.1 d h) (lv.1 d h))

  pub plus_associative : (u v w : List ℕ) → Lawful k n u → Lawful k n v → Lawful k n w → plus k n (plus k n u v) w ≡ plus k n u (plus k n v w)
  unfolding plus
  plus_associative u v w lu lv lw = tabulate_ext n _ _ (λ d h.
      ap (λ x. k.sum x (at w d)) (at_plus k n u v d h)
      ∙ laws.sum_associative (at u d) (at v d) (at w d) (lu.1 d h) (lv.1 d h) (lw.1 d h)
      ∙ ap (k.sum (at u d)) (sym (at_plus k n v w d h)))

  pub nought_plus : (w : List ℕ) → Lawful k n w → plus k n (nought n) w ≡ w
  unfolding plus
  nought_plus w l = sym (tabulate_is n _ w l.0 (λ d h. sym (ap (λ x. k.sum x (at w d)) (at_nought n d h) ∙ zero_sum laws (at w d) (l.1 d h))))

  pub plus_nought : (w : List ℕ) → Lawful k n w → plus k n w (nought n) ≡ w
  plus_nought w l = plus_commutative w (nought n) l nought_lawful ∙ nought_plus w l

  pub less_self : (w : List ℕ) → Lawful k n w → less k n w w ≡ nought n
  unfolding less nought
  less_self w l = tabulate_ext n _ _ (λ d h. laws.sum_opposite (at w d) (l.1 d h))

  pub less_plus : (u v : List ℕ) → Lawful k n u → Lawful k n v → less k n (plus k n u v) v ≡ u
  unfolding less
  less_plus u v lu lv = sym (tabulate_is n _ u lu.0 (λ d h. sym (
      ap (λ x. k.sum x (k.opposite (at v d))) (at_plus k n u v d h) ∙ sum_opposite_cancels laws (at u d) (at v d) (lu.1 d h) (lv.1 d h))))

  pub plus_less : (u v : List ℕ) → Lawful k n u → Lawful k n v → plus k n (less k n u v) v ≡ u
  unfolding plus
  plus_less u v lu lv = sym (tabulate_is n _ u lu.0 (λ d h. sym (
      ap (λ x. k.sum x (at v d)) (at_less k n u v d h) ∙ opposite_sum_cancels laws (at u d) (at v d) (lu.1 d h) (lv.1 d h))))

  pub less_is_plus : (u v : List ℕ) → Lawful k n v → less k n u v ≡ plus k n u (scaled k n (k.opposite 1) v)
  unfolding less plus
  less_is_plus u v lv = tabulate_ext n _ _ (λ d h.
      ap (k.sum (at u d)) (opposite_product laws (at v d) (lv.1 d h) ∙ sym (at_scaled k n (k.opposite 1) v d h)))

  pub same_from_less : (u v : List ℕ) → Lawful k n u → Lawful k n v → less k n u v ≡ nought n → u ≡ v
  same_from_less u v lu lv e = sym (plus_less u v lu lv) ∙ ap (λ x. plus k n x v) e ∙ nought_plus v lv

-- the product is linear in its left word
module _ {k : Symbols} (laws : SumProductLaws k) (g : Dots) where
  pub times_lawful : (u v : List ℕ) → Lawful k g.order (times k g u v)
  unfolding times
  times_lawful u v = tabulate_lawful k g.order (λ x. total k (term k g u v x) g.order) (λ x h. total_below laws (term k g u v x) g.order)

  pub term_below : (u v : List ℕ) (x h : ℕ) → term k g u v x h < k.order
  term_below u v x h = laws.product_below (at u h) (at v (back g h x))

  pub times_is_plus : (u v u₁ v₁ u₂ v₂ : List ℕ) → ((x h : ℕ) → h < g.order → term k g u v x h ≡ k.sum (term k g u₁ v₁ x h) (term k g u₂ v₂ x h)) → times k g u v ≡ plus k g.order (times k g u₁ v₁) (times k g u₂ v₂)
  unfolding times plus
  times_is_plus u v u₁ v₁ u₂ v₂ same = tabulate_ext g.order _ _ (λ x h.
      total_cong k (term k g u v x) (λ h. k.sum (term k g u₁ v₁ x h) (term k g u₂ v₂ x h)) g.order (same x)
      ∙ total_sum (field_adds laws) (term k g u₁ v₁ x) (term k g u₂ v₂ x) g.order (term_below u₁ v₁ x) (term_below u₂ v₂ x)
      ∙ ap₂ k.sum (sym (at_times k g u₁ v₁ x h)) (sym (at_times k g u₂ v₂ x h)))

  pub times_is_scaled : (a : ℕ) (u v u₁ v₁ : List ℕ) → a < k.order → ((x h : ℕ) → h < g.order → term k g u v x h ≡ k.product a (term k g u₁ v₁ x h)) → times k g u v ≡ scaled k g.order a (times k g u₁ v₁)
  unfolding times scaled
  times_is_scaled a u v u₁ v₁ la same = tabulate_ext g.order _ _ (λ x h.
      total_cong k (term k g u v x) (λ h. k.product a (term k g u₁ v₁ x h)) g.order (same x)
      ∙ sym (product_total laws a (term k g u₁ v₁ x) g.order la (term_below u₁ v₁ x))
      ∙ ap (k.product a) (sym (at_times k g u₁ v₁ x h)))

  pub plus_times : (u v w : List ℕ) → Lawful k g.order u → Lawful k g.order v → Lawful k g.order w → times k g (plus k g.order u v) w ≡ plus k g.order (times k g u w) (times k g v w)
  plus_times u v w lu lv lw = times_is_plus (plus k g.order u v) w u w v w (λ x h l.
      ap (λ y. k.product y (at w (back g h x))) (at_plus k g.order u v h l)
      ∙ sum_product laws (at u h) (at v h) (at w (back g h x)) (lu.1 h l) (lv.1 h l) (lawful_at laws g.order w lw (back g h x)))

  pub scaled_times : (a : ℕ) (u w : List ℕ) → a < k.order → Lawful k g.order u → Lawful k g.order w → times k g (scaled k g.order a u) w ≡ scaled k g.order a (times k g u w)
  scaled_times a u w la lu lw = times_is_scaled a (scaled k g.order a u) w u w la (λ x h l.
      ap (λ y. k.product y (at w (back g h x))) (at_scaled k g.order a u h l)
      ∙ laws.product_associative a (at u h) (at w (back g h x)) la (lu.1 h l) (lawful_at laws g.order w lw (back g h x)))

  pub less_times : (u v w : List ℕ) → Lawful k g.order u → Lawful k g.order v → Lawful k g.order w → times k g (less k g.order u v) w ≡ less k g.order (times k g u w) (times k g v w)
  less_times u v w lu lv lw =
      ap (λ x. times k g x w) (less_is_plus laws g.order u v lv)
      ∙ plus_times u (scaled k g.order (k.opposite 1) v) w lu (scaled_lawful laws g.order (k.opposite 1) v) lw
      ∙ ap (plus k g.order (times k g u w)) (scaled_times (k.opposite 1) v w (laws.opposite_below 1) lv lw)
      ∙ sym (less_is_plus laws g.order (times k g u w) (times k g v w) (times_lawful v w))

  pub nought_times : (w : List ℕ) → Lawful k g.order w → times k g (nought g.order) w ≡ nought g.order
  unfolding times nought
  nought_times w lw = tabulate_ext g.order _ _ (λ x _. total_zero (field_adds laws) (term k g (nought g.order) w x) g.order (λ h l.
      ap (λ y. k.product y (at w (back g h x))) (at_nought g.order h l) ∙ zero_product laws (at w (back g h x)) (lawful_at laws g.order w lw (back g h x))))

-- and in its right word, and one is neutral
module _ {k : Symbols} (laws : SumProductLaws k) {g : Dots} (group : GroupLaws g) where
  pub times_plus : (u v w : List ℕ) → Lawful k g.order u → Lawful k g.order v → Lawful k g.order w → times k g u (plus k g.order v w) ≡ plus k g.order (times k g u v) (times k g u w)
  times_plus u v w lu lv lw = times_is_plus laws g u (plus k g.order v w) u v u w (λ x h l.
      ap (k.product (at u h)) (at_plus k g.order v w (back g h x) (group.product_below (g.inverse h) x))
      ∙ laws.distributive (at u h) (at v (back g h x)) (at w (back g h x)) (lu.1 h l) (lawful_at laws g.order v lv (back g h x)) (lawful_at laws g.order w lw (back g h x)))

  pub times_scaled : (a : ℕ) (u w : List ℕ) → a < k.order → Lawful k g.order u → Lawful k g.order w → times k g u (scaled k g.order a w) ≡ scaled k g.order a (times k g u w)
  times_scaled a u w la lu lw = times_is_scaled laws g a u (scaled k g.order a w) u w la (λ x h l.
      ap (k.product (at u h)) (at_scaled k g.order a w (back g h x) (group.product_below (g.inverse h) x))
      ∙ product_exchange laws (at u h) a (at w (back g h x)) (lu.1 h l) la (lawful_at laws g.order w lw (back g h x)))

  pub times_one : (w : List ℕ) → Lawful k g.order w → times k g w (one g.order) ≡ w
  unfolding times
  times_one w lw = sym (tabulate_is g.order _ w lw.0 (λ x lx. sym (
      total_one_term (field_adds laws) (term k g w (one g.order) x) x g.order lx (term_below laws g w (one g.order) x x) (λ h l ne.
      ap (k.product (at w h)) (at_one_other g.order (back g h x) (group.product_below (g.inverse h) x) (λ e. ne (
      sym (group.right_identity h l) ∙ ap (g.product h) (sym e) ∙ product_forth group h x l lx)))
      ∙ product_zero laws (at w h) (lw.1 h l))
      ∙ ap (k.product (at w x)) (ap (at (one g.order)) (group.left_inverse x lx) ∙ at_one_zero g.order (identity_below group))
      ∙ laws.product_one (at w x) (lw.1 x lx))))

  pub one_times : (w : List ℕ) → Lawful k g.order w → times k g (one g.order) w ≡ w
  unfolding times
  one_times w lw = sym (tabulate_is g.order _ w lw.0 (λ x lx. sym (
      total_one_term (field_adds laws) (term k g (one g.order) w x) 0 g.order (identity_below group) (term_below laws g (one g.order) w x 0) (λ h l ne.
      ap (λ y. k.product y (at w (back g h x))) (at_one_other g.order h l ne) ∙ zero_product laws (at w (back g h x)) (lawful_at laws g.order w lw (back g h x)))
      ∙ ap₂ k.product (at_one_zero g.order (identity_below group)) (ap (at w) (ap (λ y. g.product y x) (inverse_identity group) ∙ group.left_identity x lx))
      ∙ one_product laws (at w x) (lw.1 x lx))))

  pub times_one_less : (e w : List ℕ) → Lawful k g.order e → Lawful k g.order w → times k g w (less k g.order (one g.order) e) ≡ less k g.order w (times k g w e)
  times_one_less e w le lw =
      ap (times k g w) (less_is_plus laws g.order (one g.order) e le)
      ∙ times_plus w (one g.order) (scaled k g.order (k.opposite 1) e) lw (one_lawful laws g.order) (scaled_lawful laws g.order (k.opposite 1) e)
      ∙ ap₂ (plus k g.order) (times_one w lw) (times_scaled (k.opposite 1) w e (laws.opposite_below 1) lw le)
      ∙ sym (less_is_plus laws g.order w (times k g w e) (times_lawful laws g w e))

-- the syndrome is linear
module _ {k : Symbols} (laws : SumProductLaws k) (g : Dots) (e : List ℕ) where
  one_less_lawful : Lawful k g.order (less k g.order (one g.order) e)
  one_less_lawful = less_lawful laws g.order (one g.order) e

  pub syndrome_lawful : (w : List ℕ) → Lawful k g.order (syndrome k g e w)
  unfolding syndrome
  syndrome_lawful w = times_lawful laws g w (less k g.order (one g.order) e)

  pub syndrome_plus : (u v : List ℕ) → Lawful k g.order u → Lawful k g.order v → syndrome k g e (plus k g.order u v) ≡ plus k g.order (syndrome k g e u) (syndrome k g e v)
  unfolding syndrome
  syndrome_plus u v lu lv = plus_times laws g u v (less k g.order (one g.order) e) lu lv one_less_lawful

  pub syndrome_less : (u v : List ℕ) → Lawful k g.order u → Lawful k g.order v → syndrome k g e (less k g.order u v) ≡ less k g.order (syndrome k g e u) (syndrome k g e v)
  unfolding syndrome
  syndrome_less u v lu lv = less_times laws g u v (less k g.order (one g.order) e) lu lv one_less_lawful

  pub syndrome_scaled : (a : ℕ) (w : List ℕ) → a < k.order → Lawful k g.order w → syndrome k g e (scaled k g.order a w) ≡ scaled k g.order a (syndrome k g e w)
  unfolding syndrome
  syndrome_scaled a w la lw = scaled_times laws g a w (less k g.order (one g.order) e) la lw one_less_lawful

  pub syndrome_nought : syndrome k g e (nought g.order) ≡ nought g.order
  unfolding syndrome
  syndrome_nought = nought_times laws g (less k g.order (one g.order) e) one_less_lawful

-- and nought exactly of the code words
module _ {k : Symbols} (laws : SumProductLaws k) {g : Dots} (group : GroupLaws g) (e w : List ℕ) (le : Lawful k g.order e) (lw : Lawful k g.order w) where
  pub syndrome_is_less : syndrome k g e w ≡ less k g.order w (times k g w e)
  unfolding syndrome
  syndrome_is_less = times_one_less laws group e w le lw

  pub keeps_from_syndrome : syndrome k g e w ≡ nought g.order → Keeps k g e w
  keeps_from_syndrome s = (lw, sym (same_from_less laws g.order w (times k g w e) lw (times_lawful laws g w e) (sym syndrome_is_less ∙ s)))

  pub syndrome_from_keeps : Keeps k g e w → syndrome k g e w ≡ nought g.order
  syndrome_from_keeps c = syndrome_is_less ∙ ap (less k g.order w) c.1 ∙ less_self laws g.order w lw
