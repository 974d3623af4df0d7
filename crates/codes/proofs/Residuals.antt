-- A reduced basis of the code: for each dot that P calls a pivot the code word B d, with 1 at d, and 0 before d and at the other pivots.
--     Reached k n P B s      s is the combination with its own symbols at the pivots
use Rattle.std.proofs.Common.{◌≡◌, ℕ, ◌<◌, Bool, true, false, cond, ◌≢◌, List, sym, refl, ap, ◌∙◌, subst, ap₂}
use Rattle.std.proofs.lemmas.Bool.{both_ways, cond-true, cond_both}
use Rattle.algebra.specs.Fields.{Symbols, SumProductLaws}
use Rattle.algebra.specs.Groups.{Dots}
use Rattle.words.specs.Words.{at, total, Lawful, nought, plus, less, scaled, Keeps}
use Rattle.codes.specs.Eliminations.{combination, residual, Reduced}
use Rattle.algebra.proofs.SumProducts.{zero_sum, product_zero, zero_product, one_product}
use Rattle.words.proofs.Tabulate.{at_tabulate, word_ext, tabulate_ext}
use Rattle.words.proofs.Totals.{total_cong, total_zero, total_one_term, field_adds, total_below}
use Rattle.words.proofs.Linear.{at_nought, at_plus, at_less, at_scaled, tabulate_lawful, nought_lawful, plus_lawful, less_lawful, scaled_lawful, less_self, less_plus, plus_less, same_from_less}
use Rattle.words.proofs.Spans.{spanned, spanned_sum, spanned_product, spanned_closed}
use Rattle.words.proofs.CodeWords.{nought_keeps, plus_keeps, less_keeps, scaled_keeps}

abbrev pub Reached : Symbols → ℕ → (ℕ → Bool) → (ℕ → List ℕ) → List ℕ → Type 0
Reached k n P B s = Lawful k n s × (combination k n P B (at s) ≡ s)

abbrev pub ZeroAtPivots : ℕ → (ℕ → Bool) → List ℕ → Type 0
ZeroAtPivots n P w = (d : ℕ) → d < n → P d ≡ true → at w d ≡ 0

-- B d at a pivot d, and nought elsewhere
abbrev row : ℕ → (ℕ → Bool) → (ℕ → List ℕ) → ℕ → List ℕ
row n P B d = cond (P d) (B d) (nought n)

cond_cong : {A : Type 0} (b : Bool) (x y z : A) → (b ≡ true → x ≡ y) → cond b x z ≡ cond b y z
cond_cong true x y z same = same refl
cond_cong false x y z same = refl

pub at_combination : (k : Symbols) (n : ℕ) (P : ℕ → Bool) (B : ℕ → List ℕ) (c : ℕ → ℕ) (x : ℕ) → x < n → at (combination k n P B c) x ≡ total k (λ d. cond (P d) (k.product (c d) (at (B d) x)) 0) n
unfolding combination
at_combination k n P B c x h = at_tabulate n (λ x. total k (λ d. cond (P d) (k.product (c d) (at (B d) x)) 0) n) x h

pub combination_cong : (k : Symbols) (n : ℕ) (P : ℕ → Bool) (B : ℕ → List ℕ) (a b : ℕ → ℕ) → ((d : ℕ) → d < n → P d ≡ true → a d ≡ b d) → combination k n P B a ≡ combination k n P B b
unfolding combination
combination_cong k n P B a b same = tabulate_ext n _ _ (λ x h. total_cong k _ _ n (λ d l.
    cond_cong (P d) (k.product (a d) (at (B d) x)) (k.product (b d) (at (B d) x)) 0 (λ p. ap (λ y. k.product y (at (B d) x)) (same d l p))))

module _ {k : Symbols} (laws : SumProductLaws k) (n : ℕ) (P : ℕ → Bool) (B : ℕ → List ℕ) where
  pub combination_lawful : (c : ℕ → ℕ) → Lawful k n (combination k n P B c)
  unfolding combination
  combination_lawful c = tabulate_lawful k n _ (λ x h. total_below laws (λ d. cond (P d) (k.product (c d) (at (B d) x)) 0) n)

  pub residual_lawful : (w : List ℕ) → Lawful k n (residual k n P B w)
  unfolding residual
  residual_lawful w = less_lawful laws n w (combination k n P B (at w))

  pub residual_plus_combination : (w : List ℕ) → Lawful k n w → plus k n (residual k n P B w) (combination k n P B (at w)) ≡ w
  unfolding residual
  residual_plus_combination w lw = plus_less laws n w (combination k n P B (at w)) lw (combination_lawful (at w))

  pub reached_from_residual : (w : List ℕ) → Lawful k n w → residual k n P B w ≡ nought n → Reached k n P B w
  unfolding residual
  reached_from_residual w lw e = (lw, sym (same_from_less laws n w (combination k n P B (at w)) lw (combination_lawful (at w)) e))

  pub residual_from_reached : (w : List ℕ) → Reached k n P B w → residual k n P B w ≡ nought n
  unfolding residual
  residual_from_reached w r = ap (less k n w) r.1 ∙ less_self laws n w r.0

  share_row : (b : Bool) (a x : ℕ) (w : List ℕ) → a < k.order → x < n → cond b (k.product a (at w x)) 0 ≡ k.product a (at (cond b w (nought n)) x)
  share_row true a x w la h = refl
  share_row false a x w la h = sym (ap (k.product a) (at_nought n x h) ∙ product_zero laws a la)

  combination_is_spanned : (c : ℕ → ℕ) → ((d : ℕ) → d < n → c d < k.order) → combination k n P B c ≡ spanned k n c (row n P B) n
  unfolding combination spanned
  combination_is_spanned c lc = tabulate_ext n _ _ (λ x h. total_cong k _ _ n (λ d l. share_row (P d) (c d) x (B d) (lc d l) h))

  -- what holds of nought, of sums, of multiples and of the words B d holds of each combination
  pub combination_closed : (C : List ℕ → Type 0) → C (nought n) → ((u v : List ℕ) → C u → C v → C (plus k n u v)) → ((a : ℕ) (u : List ℕ) → a < k.order → C u → C (scaled k n a u)) → ((d : ℕ) → d < n → P d ≡ true → C (B d)) → (c : ℕ → ℕ) → ((d : ℕ) → d < n → c d < k.order) → C (combination k n P B c)
  combination_closed C none sums multiples each c lc =
      subst C (sym (combination_is_spanned c lc)) (spanned_closed laws n C none sums multiples c (row n P B) n lc (λ d h. cond_both (P d) (B d) (nought n) C (each d h) (λ _. none)))

  pub at_combination_zero : (c : ℕ → ℕ) (x : ℕ) → x < n → ((d : ℕ) → d < n → P d ≡ true → k.product (c d) (at (B d) x) ≡ 0) → at (combination k n P B c) x ≡ 0
  at_combination_zero c x lx zeros =
      at_combination k n P B c x lx ∙ total_zero (field_adds laws) _ n (λ d h. cond_both (P d) (k.product (c d) (at (B d) x)) 0 (λ y. y ≡ 0) (zeros d h) (λ _. refl))

  at_combination_one : (c : ℕ → ℕ) (d x : ℕ) → d < n → x < n → P d ≡ true → ((i : ℕ) → i < n → P i ≡ true → i ≢ d → k.product (c i) (at (B i) x) ≡ 0) → at (combination k n P B c) x ≡ k.product (c d) (at (B d) x)
  at_combination_one c d x h lx p zeros =
      at_combination k n P B c x lx
      ∙ total_one_term (field_adds laws) (λ i. cond (P i) (k.product (c i) (at (B i) x)) 0) d n h (rw here (laws.product_below (c d) (at (B d) x))) (λ i l ne.
      cond_both (P i) (k.product (c i) (at (B i) x)) 0 (λ y. y ≡ 0) (λ q. zeros i l q ne) (λ _. refl))
      ∙ here
    where
      here : cond (P d) (k.product (c d) (at (B d) x)) 0 ≡ k.product (c d) (at (B d) x)
      here = cond-true (P d) (k.product (c d) (at (B d) x)) 0 p

  combination_is_nought : (c : ℕ → ℕ) → ((d : ℕ) → d < n → P d ≡ true → (x : ℕ) → x < n → k.product (c d) (at (B d) x) ≡ 0) → combination k n P B c ≡ nought n
  combination_is_nought c zeros = word_ext (combination k n P B c) (nought n) (combination_lawful c).0 (nought_lawful laws n).0 (λ x lx.
      at_combination_zero c x lx (λ d h p. zeros d h p x lx) ∙ sym (at_nought n x lx))

  module _ (lawful : (d : ℕ) → d < n → P d ≡ true → Lawful k n (B d)) where
    row_lawful : (d : ℕ) → d < n → Lawful k n (row n P B d)
    row_lawful d h = cond_both (P d) (B d) (nought n) (Lawful k n) (lawful d h) (λ _. nought_lawful laws n)

    pub combination_sum : (a b : ℕ → ℕ) → ((d : ℕ) → d < n → a d < k.order) → ((d : ℕ) → d < n → b d < k.order) → combination k n P B (λ d. k.sum (a d) (b d)) ≡ plus k n (combination k n P B a) (combination k n P B b)
    combination_sum a b la lb =
        combination_is_spanned (λ d. k.sum (a d) (b d)) (λ d h. laws.sum_below (a d) (b d))
        ∙ spanned_sum laws n (row n P B) n row_lawful a b la lb
        ∙ sym (ap₂ (plus k n) (combination_is_spanned a la) (combination_is_spanned b lb))

    pub combination_product : (a : ℕ) (c : ℕ → ℕ) → a < k.order → ((d : ℕ) → d < n → c d < k.order) → combination k n P B (λ d. k.product a (c d)) ≡ scaled k n a (combination k n P B c)
    combination_product a c la lc =
        combination_is_spanned (λ d. k.product a (c d)) (λ d h. laws.product_below a (c d))
        ∙ spanned_product laws n (row n P B) n row_lawful a c la lc
        ∙ ap (scaled k n a) (sym (combination_is_spanned c lc))

    pub reached_plus : (u v : List ℕ) → Reached k n P B u → Reached k n P B v → Reached k n P B (plus k n u v)
    reached_plus u v ru rv = (
      plus_lawful laws n u v,
      combination_cong k n P B (at (plus k n u v)) (λ d. k.sum (at u d) (at v d)) (λ d h _. at_plus k n u v d h)
          ∙ combination_sum (at u) (at v) ru.0.1 rv.0.1
          ∙ ap₂ (plus k n) ru.1 rv.1,
    )

    pub reached_scaled : (a : ℕ) (w : List ℕ) → a < k.order → Reached k n P B w → Reached k n P B (scaled k n a w)
    reached_scaled a w la r = (
      scaled_lawful laws n a w,
      combination_cong k n P B (at (scaled k n a w)) (λ d. k.product a (at w d)) (λ d h _. at_scaled k n a w d h)
          ∙ combination_product a (at w) la r.0.1
          ∙ ap (scaled k n a) r.1,
    )

    pub reached_nought : Reached k n P B (nought n)
    reached_nought = (
      nought_lawful laws n,
      combination_is_nought (at (nought n)) (λ d h p x lx.
          ap (λ y. k.product y (at (B d) x)) (at_nought n d h) ∙ zero_product laws (at (B d) x) ((lawful d h p).1 x lx)),
    )

pub reduced_without_pivots : (k : Symbols) (g : Dots) (e : List ℕ) (P : ℕ → Bool) (B : ℕ → List ℕ) → ((d : ℕ) → d < g.order → P d ≡ false) → Reduced k g e P B
reduced_without_pivots k g e P B none = record {
  keeps = λ d h p. absurd (both_ways (P d) (none d h) p);
  one_here = λ d h p. absurd (both_ways (P d) (none d h) p);
  zero_before = λ d h p. absurd (both_ways (P d) (none d h) p);
  zero_at_pivots = λ d h p. absurd (both_ways (P d) (none d h) p);
}

pub basis_lawful : {k : Symbols} {g : Dots} {e : List ℕ} {P : ℕ → Bool} {B : ℕ → List ℕ} → Reduced k g e P B → (d : ℕ) → d < g.order → P d ≡ true → Lawful k g.order (B d)
basis_lawful reduced d h p = (reduced.keeps d h p).0

module _ {k : Symbols} (laws : SumProductLaws k) {g : Dots} {e : List ℕ} {P : ℕ → Bool} {B : ℕ → List ℕ} (reduced : Reduced k g e P B) where
  pub at_combination_pivot : (c : ℕ → ℕ) → ((d : ℕ) → d < g.order → c d < k.order) → (d : ℕ) → d < g.order → P d ≡ true → at (combination k g.order P B c) d ≡ c d
  at_combination_pivot c lc d h p =
      at_combination_one laws g.order P B c d d h h p (λ i l q ne. ap (k.product (c i)) (reduced.zero_at_pivots i l q d h p (λ s. ne (sym s))) ∙ product_zero laws (c i) (lc i l))
      ∙ ap (k.product (c d)) (reduced.one_here d h p)
      ∙ laws.product_one (c d) (lc d h)

  pub combination_reached : (c : ℕ → ℕ) → ((d : ℕ) → d < g.order → c d < k.order) → Reached k g.order P B (combination k g.order P B c)
  combination_reached c lc =
      (combination_lawful laws g.order P B c, combination_cong k g.order P B (at (combination k g.order P B c)) c (at_combination_pivot c lc))

  -- each B d is the combination with 1 at d
  pub basis_reached : (d : ℕ) → d < g.order → P d ≡ true → Reached k g.order P B (B d)
  basis_reached d h p = (
    basis_lawful reduced d h p,
    word_ext (combination k g.order P B (at (B d))) (B d) (combination_lawful laws g.order P B (at (B d))).0 (basis_lawful reduced d h p).0 (λ x lx.
        at_combination_one laws g.order P B (at (B d)) d x h lx p (λ i l q ne. ap (λ y. k.product y (at (B i) x)) (reduced.zero_at_pivots d h p i l q ne) ∙ zero_product laws (at (B i) x) ((basis_lawful reduced i l q).1 x lx))
        ∙ ap (λ y. k.product y (at (B d) x)) (reduced.one_here d h p)
        ∙ one_product laws (at (B d) x) ((basis_lawful reduced d h p).1 x lx)),
  )

  pub at_residual_pivot : (w : List ℕ) → Lawful k g.order w → ZeroAtPivots g.order P (residual k g.order P B w)
  unfolding residual
  at_residual_pivot w lw d h p =
      at_less k g.order w (combination k g.order P B (at w)) d h
      ∙ ap (λ y. k.sum (at w d) (k.opposite y)) (at_combination_pivot (at w) lw.1 d h p)
      ∙ laws.sum_opposite (at w d) (lw.1 d h)

  -- a word that is 0 at the pivots is the residual of what it makes with a combination
  pub residual_unique : (v r s : List ℕ) → Lawful k g.order r → ZeroAtPivots g.order P r → Reached k g.order P B s → v ≡ plus k g.order r s → residual k g.order P B v ≡ r
  unfolding residual
  residual_unique v r s lr zeros rs e =
      ap₂ (less k g.order) e (combination_cong k g.order P B (at v) (at s) same ∙ rs.1) ∙ less_plus laws g.order r s lr rs.0
    where
      same : (d : ℕ) → d < g.order → P d ≡ true → at v d ≡ at s d
      same d h p =
          ap (λ u. at u d) e ∙ at_plus k g.order r s d h ∙ ap (λ y. k.sum y (at s d)) (zeros d h p) ∙ zero_sum laws (at s d) (rs.0.1 d h)

  module _ (le : Lawful k g.order e) where
    pub combination_keeps : (c : ℕ → ℕ) → ((d : ℕ) → d < g.order → c d < k.order) → Keeps k g e (combination k g.order P B c)
    combination_keeps c lc =
        combination_closed laws g.order P B (Keeps k g e) (nought_keeps laws g e le) (plus_keeps laws g e le) (scaled_keeps laws g e le) reduced.keeps c lc

    pub residual_keeps : (w : List ℕ) → Keeps k g e w → Keeps k g e (residual k g.order P B w)
    unfolding residual
    residual_keeps w cw = less_keeps laws g e le w (combination k g.order P B (at w)) cw (combination_keeps (at w) cw.0.1)
