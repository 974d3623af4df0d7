-- Totals over the numbers below n, of any sum that is associative and commutative on its codes, with 0 neutral.
--     Adds k Code           the sum of k has these laws on the numbers that are codes
use Rattle.std.proofs.Common.{◌≡◌, ℕ, zero, suc, ◌<◌, cond, eqb, ◌≢◌, sym, refl, ap, ◌∙◌, ap₂, inl, inr, arith, add-one, List, [], ◌∷◌, ◌++◌}
use Rattle.std.proofs.iter.Yields.{nat_range_steps}
use Rattle.std.proofs.lemmas.Fn.{fold_over}
use Rattle.std.proofs.lemmas.Grind.{fold-append}
use Rattle.std.proofs.lemmas.Iterator.{YieldsList-from_range}
use Rattle.std.specs.Fn.{Called}
use Rattle.std.specs.Iterator.{FoldsItems}
use denote.Param.Members.{Mut}
use Rattle.std.proofs.lemmas.List.{map-id}
use Rattle.std.proofs.lemmas.List.FromFn.{map-range_with_len_more}
use Rattle.std.specs.List.{fold, range_with_len}
use Rattle.std.proofs.lemmas.Bool.{cases_eq, eq-eqb, ne_eqb, cond-true, cond-false, cond_both}
use Rattle.algebra.specs.Fields.{Symbols, SumProductLaws}
use Rattle.words.specs.Words.{total}
use Rattle.algebra.proofs.SumProducts.{zero_below, product_zero}

pub record Adds (k : Symbols) (Code : ℕ → Type 0) : Type 0 where
  pub zero_code : Code 0
  pub sum_code : (a b : ℕ) → Code a → Code b → Code (k.sum a b)
  pub associative : (a b c : ℕ) → Code a → Code b → Code c → k.sum (k.sum a b) c ≡ k.sum a (k.sum b c)
  pub commutative : (a b : ℕ) → Code a → Code b → k.sum a b ≡ k.sum b a
  pub zero_neutral : (a : ℕ) → Code a → k.sum a 0 ≡ a

pub total_cong : (k : Symbols) (f g : ℕ → ℕ) (n : ℕ) → ((d : ℕ) → d < n → f d ≡ g d) → total k f n ≡ total k g n
unfolding total
total_cong k f g zero same = refl
total_cong k f g (suc n) same = ap₂ k.sum (total_cong k f g n (λ d h. same d (omega arith))) (same n (omega arith))

range_more : (n : ℕ) → range_with_len 0 (suc n) ≡ range_with_len 0 n ++ n ∷ []
range_more n = sym (map-id _) ∙ rw add-one at (map-range_with_len_more (λ x. x) 0 n n (omega arith)) ∙ ap (λ (l : List ℕ). l ++ n ∷ []) (map-id _)

-- a total, added up from the first number on
pub total_fold : (k : Symbols) (f : ℕ → ℕ) (n : ℕ) → total k f n ≡ fold (λ s d. k.sum s (f d)) 0 (range_with_len 0 n)
unfolding total
total_fold k f zero = refl
total_fold k f (suc n) =
    let step : ℕ → ℕ → ℕ = λ s d. k.sum s (f d) in
    ap (λ s. k.sum s (f n)) (total_fold k f n) ∙ sym (ap (fold step 0) (range_more n) ∙ fold-append step 0 (range_with_len 0 n) (n ∷ []))

-- a fold over the numbers below n whose closure adds f
pub total_folded : {F : Type 0} (g : Mut F (ℕ × (ℕ × Unit {0})) ℕ) (k : Symbols) (f : ℕ → ℕ) (n r : ℕ) (p : F) → ((a d b : ℕ) (q : F) → Called g p (a, (d, tt)) b q → (b ≡ k.sum a (f d)) × (q ≡ p)) → FoldsItems nat_range_steps g (record { start = 0; end = n }) p 0 r → r ≡ total k f n
total_folded g k f n r p adds ran =
    let step : ℕ → ℕ → ℕ = λ s d. k.sum s (f d) in
    fold_over nat_range_steps (λ d. d) g (λ ds a. a ≡ fold step 0 ds) p (λ ds a d b q before call.
    let (next, kept) = adds a d b q call in
    (next ∙ ap (λ s. step s d) before ∙ sym (fold-append step 0 ds (d ∷ [])), kept))
    _ (range_with_len 0 n) 0 r (YieldsList-from_range 0 n n refl (omega arith)).runs refl ran
    ∙ sym (total_fold k f n)

module _ {k : Symbols} {Code : ℕ → Type 0} (adds : Adds k Code) where
  pub sum_exchange : (a b c d : ℕ) → Code a → Code b → Code c → Code d → k.sum (k.sum a b) (k.sum c d) ≡ k.sum (k.sum a c) (k.sum b d)
  sum_exchange a b c d ca cb cc' cd =
      adds.associative a b (k.sum c d) ca cb (adds.sum_code c d cc' cd)
      ∙ ap (k.sum a) (sym (adds.associative b c d cb cc' cd) ∙ ap (λ x. k.sum x d) (adds.commutative b c cb cc') ∙ adds.associative c b d cc' cb cd)
      ∙ sym (adds.associative a c (k.sum b d) ca cc' (adds.sum_code b d cb cd))

  pub total_code : (f : ℕ → ℕ) (n : ℕ) → ((d : ℕ) → Code (f d)) → Code (total k f n)
  unfolding total
  total_code f zero c = adds.zero_code
  total_code f (suc n) c = adds.sum_code (total k f n) (f n) (total_code f n c) (c n)

  pub total_zero : (f : ℕ → ℕ) (n : ℕ) → ((d : ℕ) → d < n → f d ≡ 0) → total k f n ≡ 0
  unfolding total
  total_zero f zero none = refl
  total_zero f (suc n) none =
      ap₂ k.sum (total_zero f n (λ d h. none d (omega arith))) (none n (omega arith)) ∙ adds.zero_neutral 0 adds.zero_code

  pub total_sum : (f g : ℕ → ℕ) (n : ℕ) → ((d : ℕ) → Code (f d)) → ((d : ℕ) → Code (g d)) → total k (λ d. k.sum (f d) (g d)) n ≡ k.sum (total k f n) (total k g n)
  unfolding total
  total_sum f g zero cf cg = sym (adds.zero_neutral 0 adds.zero_code)
  total_sum f g (suc n) cf cg =
      ap (λ x. k.sum x (k.sum (f n) (g n))) (total_sum f g n cf cg)
      ∙ sum_exchange (total k f n) (total k g n) (f n) (g n) (total_code f n cf) (total_code g n cg) (cf n) (cg n)

  pub total_exchange : (f : ℕ → ℕ → ℕ) (m n : ℕ) → ((i j : ℕ) → Code (f i j)) → total k (λ i. total k (λ j. f i j) n) m ≡ total k (λ j. total k (λ i. f i j) m) n
  unfolding total
  total_exchange f zero n c = sym (total_zero (λ j. 0) n (λ j h. refl))
  total_exchange f (suc m) n c =
      ap (λ x. k.sum x (total k (f m) n)) (total_exchange f m n c)
      ∙ sym (total_sum (λ j. total k (λ i. f i j) m) (f m) n (λ j. total_code (λ i. f i j) m (λ i. c i j)) (c m))

  pub total_one_term : (f : ℕ → ℕ) (d n : ℕ) → d < n → Code (f d) → ((i : ℕ) → i < n → i ≢ d → f i ≡ 0) → total k f n ≡ f d
  unfolding total
  total_one_term f d zero h c none = absurd (omega arith)
  total_one_term f d (suc n) h c none = elim (cases_eq n d) [
    | inl e ↦
        ap₂ k.sum (total_zero f n (λ i l. none i (omega arith) (omega arith))) (ap f e)
        ∙ adds.commutative 0 (f d) adds.zero_code c
        ∙ adds.zero_neutral (f d) c
    | inr ne ↦
        ap₂ k.sum (total_one_term f d n (omega arith) c (λ i l. none i (omega arith))) (none n (omega arith) ne)
        ∙ adds.zero_neutral (f d) c
  ]

  -- f (p h) is the total over j of f j where j is p h, and 0 elsewhere
  pub total_renumbered : (f p back : ℕ → ℕ) (n : ℕ) → ((d : ℕ) → Code (f d)) → ((h : ℕ) → h < n → p h < n) → ((j : ℕ) → j < n → back j < n) → ((h : ℕ) → h < n → back (p h) ≡ h) → ((j : ℕ) → j < n → p (back j) ≡ j) → total k (λ h. f (p h)) n ≡ total k f n
  total_renumbered f p back n c p-below back_below back_p p_back =
      total_cong k (λ h. f (p h)) (λ h. total k (λ j. hit h j) n) n (λ h l. sym (over_j h l))
      ∙ total_exchange hit n n hit_code
      ∙ total_cong k (λ j. total k (λ h. hit h j) n) f n over_h
    where
      hit : ℕ → ℕ → ℕ
      hit h j = cond (eqb j (p h)) (f j) 0

      hit_code : (h j : ℕ) → Code (hit h j)
      hit_code h j = cond_both (eqb j (p h)) (f j) 0 Code (λ _. c j) (λ _. adds.zero_code)

      hit_same : (h j : ℕ) → j ≡ p h → hit h j ≡ f j
      hit_same h j e = cond-true (eqb j (p h)) (f j) 0 (eq-eqb j (p h) e)

      hit_other : (h j : ℕ) → j ≢ p h → hit h j ≡ 0
      hit_other h j ne = cond-false (eqb j (p h)) (f j) 0 (ne_eqb j (p h) ne)

      over_j : (h : ℕ) → h < n → total k (λ j. hit h j) n ≡ f (p h)
      over_j h l = total_one_term (hit h) (p h) n (p-below h l) (hit_code h (p h)) (λ j _ ne. hit_other h j ne) ∙ hit_same h (p h) refl

      over_h : (j : ℕ) → j < n → total k (λ h. hit h j) n ≡ f j
      over_h j l =
          total_one_term (λ h. hit h j) (back j) n (back_below j l) (hit_code (back j) j) (λ h lh ne. hit_other h j (λ e. ne (sym (back_p h lh) ∙ ap back (sym e))))
          ∙ hit_same (back j) j (sym (p_back j l))

module _ {k : Symbols} (laws : SumProductLaws k) where
  pub field_adds : Adds k (λ a. a < k.order)
  field_adds = record {
    zero_code = zero_below laws;
    sum_code = λ a b _ _. laws.sum_below a b;
    associative = laws.sum_associative;
    commutative = laws.sum_commutative;
    zero_neutral = laws.sum_zero;
  }

  pub total_below : (f : ℕ → ℕ) (n : ℕ) → total k f n < k.order
  unfolding total
  total_below f zero = zero_below laws
  total_below f (suc n) = laws.sum_below (total k f n) (f n)

  pub product_total : (a : ℕ) (f : ℕ → ℕ) (n : ℕ) → a < k.order → ((d : ℕ) → f d < k.order) → k.product a (total k f n) ≡ total k (λ d. k.product a (f d)) n
  unfolding total
  product_total a f zero la c = product_zero laws a la
  product_total a f (suc n) la c =
      laws.distributive a (total k f n) (f n) la (total_below f n) (c n) ∙ ap (λ x. k.sum x (k.product a (f n))) (product_total a f n la c)
