-- Turned words: turning is linear, follows the group, and commutes with the product.
use Rattle.std.proofs.Common.{◌≡◌, ℕ, ◌<◌, List, length, sym, ap, ◌∙◌, ap₂}
use Rattle.algebra.specs.Fields.{Symbols, SumProductLaws}
use Rattle.algebra.specs.Groups.{Dots, GroupLaws}
use Rattle.words.specs.Words.{at, Lawful, nought, one, plus, less, scaled, times, turned, Keeps, syndrome}
use Rattle.words.proofs.Groups.{product_back, product_forth, inverse_identity, inverse_product_times}
use Rattle.words.proofs.Tabulate.{length_tabulate, tabulate_is, tabulate_ext}
use Rattle.words.proofs.Totals.{total_cong, total_renumbered, field_adds}
use Rattle.words.proofs.Linear.{back, term, at_nought, at_plus, at_less, at_scaled, at_times, at_turned, tabulate_lawful, lawful_at, term_below}

pub length_turned : (g : Dots) (j : ℕ) (w : List ℕ) → length (turned g j w) ≡ g.order
unfolding turned
length_turned g j w = length_tabulate g.order (λ d. at w (back g j d))

pub turned_lawful : {k : Symbols} → SumProductLaws k → (g : Dots) (j : ℕ) (w : List ℕ) → Lawful k g.order w → Lawful k g.order (turned g j w)
unfolding turned
turned_lawful {k} laws g j w lw = tabulate_lawful k g.order (λ d. at w (back g j d)) (λ d h. lawful_at laws g.order w lw (back g j d))

module _ {g : Dots} (group : GroupLaws g) where
  back_below : (j d : ℕ) → back g j d < g.order
  back_below j d = group.product_below (g.inverse j) d

  -- what hung on dot h hangs on j times h
  pub at_turned_product : (j : ℕ) (w : List ℕ) (h : ℕ) → j < g.order → h < g.order → at (turned g j w) (g.product j h) ≡ at w h
  at_turned_product j w h lj lh = at_turned g j w (g.product j h) (group.product_below j h) ∙ ap (at w) (product_back group j h lj lh)

  pub turned_turned : (i j : ℕ) (w : List ℕ) → i < g.order → j < g.order → turned g j (turned g i w) ≡ turned g (g.product j i) w
  unfolding turned
  turned_turned i j w li lj = tabulate_ext g.order _ _ (λ d h.
      at_turned g i w (back g j d) (back_below j d) ∙ ap (at w) (sym (inverse_product_times group j i d lj li h)))

  pub turned_zero : (w : List ℕ) → length w ≡ g.order → turned g 0 w ≡ w
  unfolding turned
  turned_zero w l = sym (tabulate_is g.order _ w l (λ d h.
      ap (at w) (sym (ap (λ x. g.product x d) (inverse_identity group) ∙ group.left_identity d h))))

  pub turned_back : (j : ℕ) (w : List ℕ) → j < g.order → length w ≡ g.order → turned g (g.inverse j) (turned g j w) ≡ w
  turned_back j w lj l =
      turned_turned j (g.inverse j) w lj (group.inverse_below j) ∙ ap (λ i. turned g i w) (group.left_inverse j lj) ∙ turned_zero w l

  pub turned_forth : (j : ℕ) (w : List ℕ) → j < g.order → length w ≡ g.order → turned g j (turned g (g.inverse j) w) ≡ w
  turned_forth j w lj l =
      turned_turned (g.inverse j) j w (group.inverse_below j) lj ∙ ap (λ i. turned g i w) (group.right_inverse j lj) ∙ turned_zero w l

  pub turned_nought : (j : ℕ) → turned g j (nought g.order) ≡ nought g.order
  unfolding turned nought
  turned_nought j = tabulate_ext g.order _ _ (λ d h. at_nought g.order (back g j d) (back_below j d))

  pub turned_plus : (k : Symbols) (j : ℕ) (u v : List ℕ) → turned g j (plus k g.order u v) ≡ plus k g.order (turned g j u) (turned g j v)
  unfolding turned plus
  turned_plus k j u v = tabulate_ext g.order _ _ (λ d h.
      at_plus k g.order u v (back g j d) (back_below j d) ∙ ap₂ k.sum (sym (at_turned g j u d h)) (sym (at_turned g j v d h)))

  pub turned_less : (k : Symbols) (j : ℕ) (u v : List ℕ) → turned g j (less k g.order u v) ≡ less k g.order (turned g j u) (turned g j v)
  unfolding turned less
  turned_less k j u v = tabulate_ext g.order _ _ (λ d h.
      at_less k g.order u v (back g j d) (back_below j d) ∙ ap₂ (λ x y. k.sum x (k.opposite y)) (sym (at_turned g j u d h)) (sym (at_turned g j v d h)))

  pub turned_scaled : (k : Symbols) (j a : ℕ) (w : List ℕ) → turned g j (scaled k g.order a w) ≡ scaled k g.order a (turned g j w)
  unfolding turned scaled
  turned_scaled k j a w = tabulate_ext g.order _ _ (λ d h.
      at_scaled k g.order a w (back g j d) (back_below j d) ∙ ap (k.product a) (sym (at_turned g j w d h)))

module _ {k : Symbols} (laws : SumProductLaws k) {g : Dots} (group : GroupLaws g) where
  pub turned_times : (j : ℕ) (u v : List ℕ) → j < g.order → times k g (turned g j u) v ≡ turned g j (times k g u v)
  unfolding times turned
  turned_times j u v lj = tabulate_ext g.order _ _ (λ x lx.
      sym (total_renumbered (field_adds laws) (term k g (turned g j u) v x) (g.product j) (back g j) g.order
      (term_below laws g (turned g j u) v x) (λ h _. group.product_below j h) (λ h _. back_below group j h) (λ h. product_back group j h lj) (λ h. product_forth group j h lj))
      ∙ total_cong k (λ h. term k g (turned g j u) v x (g.product j h)) (term k g u v (back g j x)) g.order (λ h lh.
      ap₂ k.product (at_turned_product group j u h lj lh) (ap (at v) (inverse_product_times group j h x lj lh lx)))
      ∙ sym (at_times k g u v (back g j x) (back_below group j x)))

  pub syndrome_turned : (e : List ℕ) (j : ℕ) (w : List ℕ) → j < g.order → syndrome k g e (turned g j w) ≡ turned g j (syndrome k g e w)
  unfolding syndrome
  syndrome_turned e j w lj = turned_times j w (less k g.order (one g.order) e) lj

  pub turned_keeps : (e : List ℕ) (j : ℕ) (w : List ℕ) → j < g.order → Keeps k g e w → Keeps k g e (turned g j w)
  turned_keeps e j w lj c = (turned_lawful laws g j w c.0, turned_times j w e lj ∙ ap (turned g j) c.1)
