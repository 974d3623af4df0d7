-- Words as the program holds them.
use Rattle.std.proofs.Common.{◌≡◌, ℕ, ◌<◌, ◌≤◌, cond, eqb, List, length, take, set, replicate, sym, refl, ap, ◌∙◌, ap₂, ⊎_elim, arith, Option, Some, None, MatchOption, ◌≢◌}
use Rattle.std.proofs.lemmas.List.{get_or-set_same, get_or-set_other, get_or-take, length-take-le}
use Rattle.std.proofs.lemmas.Bool.{cases_eq, cases_lt, cond-true, cond-false, eq-eqb, ne_eqb}
use Rattle.algebra.specs.Checks.{FirstWithout}
use Rattle.words.specs.Stored.{Stores, word}
use Rattle.words.specs.Words.{at, nought, tabulate, unit}
use Rattle.words.specs.declared.word.Word.{Word}
use Rattle.words.proofs.Tabulate.{at_tabulate, at_tabulate_past, at_zeros, tabulate_ext, tabulate_is}

pub zero_stores : (n : ℕ) (z : Word) → z.symbols ≡ nought 64 → Stores n z (nought n)
unfolding nought
zero_stores n z e = record {
  value = tabulate_ext n _ _ (λ d l. zeros d);
  rest = λ d l. zeros d;
}
  where
    zeros : (d : ℕ) → at z.symbols d ≡ 0
    zeros d = ap (λ x. at x d) e ∙ ⊎_elim (at_tabulate 64 (λ _. 0) d) (at_tabulate_past 64 (λ _. 0) d) (cases_lt d 64)

pub at_word : (n : ℕ) (w : Word) (d : ℕ) → d < n → at w.symbols d ≡ at (word n w) d
at_word n w d l = sym (at_tabulate n (at w.symbols) d l)

pub stored_same : (n : ℕ) (r s : Word) (w : List ℕ) → Stores n r w → Stores n s w → word 64 r ≡ word 64 s
stored_same n r s w p q = tabulate_ext 64 (at r.symbols) (at s.symbols) (λ d _. same d)
  where
    same : (d : ℕ) → at r.symbols d ≡ at s.symbols d
    same d = ⊎_elim
        (λ lt. at_word n r d lt ∙ ap (λ x. at x d) (p.value ∙ sym q.value) ∙ sym (at_word n s d lt))
        (λ le. p.rest d le ∙ sym (q.rest d le)) (cases_lt d n)

pub same_front : (n : ℕ) (r s : Word) → n ≤ 64 → word 64 r ≡ word 64 s → word n r ≡ word n s
same_front n r s most e =
    tabulate_ext n (at r.symbols) (at s.symbols) (λ d l. at_word 64 r d (omega arith) ∙ ap (λ x. at x d) e ∙ sym (at_word 64 s d (omega arith)))

-- a word given by its symbols
pub given_stores : (n : ℕ) (r : Word) (f : ℕ → ℕ) → ((d : ℕ) → d < n → at r.symbols d ≡ f d) → ((d : ℕ) → n ≤ d → at r.symbols d ≡ 0) → Stores n r (tabulate n f)
given_stores n r f below rest = record { value = tabulate_ext n (at r.symbols) f below; rest = rest }

-- 64 zeros, and the same with a 1 at d
module _ (n d : ℕ) (r : Word) where
  pub unmarked_stores : n ≤ d → r.symbols ≡ replicate 64 0 → Stores n r (unit n d)
  unfolding unit
  unmarked_stores past is = given_stores n r _ (λ x l. zeros x ∙ sym (cond-false (eqb x d) 1 0 (ne_eqb x d (λ e. omega arith)))) (λ x l. zeros x)
    where
      zeros : (x : ℕ) → at r.symbols x ≡ 0
      zeros x = ap (λ ss. at ss x) is ∙ at_zeros 64 x

  pub marked_stores : d < n → n ≤ 64 → r.symbols ≡ set (replicate 64 0) d 1 → Stores n r (unit n d)
  unfolding unit
  marked_stores below most is = given_stores n r _ (λ x l. marked x) (λ x l. marked x ∙ cond-false (eqb x d) 1 0 (ne_eqb x d (λ e. omega arith)))
    where
      marked : (x : ℕ) → at r.symbols x ≡ cond (eqb x d) 1 0
      marked x =
          ap (λ ss. at ss x) is
          ∙ ⊎_elim
          (λ e. rw e (get_or-set_same (replicate 64 0) d 1 0 (omega arith) ∙ sym (cond-true (eqb d d) 1 0 (eq-eqb d d refl))))
          (λ ne. get_or-set_other (replicate 64 0) d x 1 0 ne ∙ at_zeros 64 x ∙ sym (cond-false (eqb x d) 1 0 (ne_eqb x d ne)))
          (cases_eq x d)

-- two words, symbol by symbol
pub paired_stores : (F : ℕ → ℕ → ℕ) (n : ℕ) (u v r : Word) → ((d : ℕ) → d < n → at r.symbols d ≡ F (at u.symbols d) (at v.symbols d)) → ((d : ℕ) → n ≤ d → at r.symbols d ≡ 0) → Stores n r (tabulate n (λ d. F (at (word n u) d) (at (word n v) d)))
paired_stores F n u v r below rest = given_stores n r _ (λ d l. below d l ∙ ap₂ F (at_word n u d l) (at_word n v d l)) rest

pub take_word : (n : ℕ) (w : Word) → n ≤ length w.symbols → take n w.symbols ≡ word n w
take_word n w h = tabulate_is n (at w.symbols) (take n w.symbols) (length-take-le n w.symbols h) (λ d l. get_or-take n w.symbols d 0 l)

pub difference_stored : (n : ℕ) (u v : Word) (i : ℕ) → i < n → FirstWithout (λ d. at u.symbols d ≡ at v.symbols d) i → FirstWithout (λ d. at (word n u) d ≡ at (word n v) d) i
difference_stored n u v i l (differs, before) =
    (λ e. differs (at_word n u i l ∙ e ∙ sym (at_word n v i l)), λ j lt. sym (at_word n u j (omega arith)) ∙ before j lt ∙ at_word n v j (omega arith))

-- the first number below n at which two words differ
pub first_difference : (n m : ℕ) (u v : Word) (o : Option ℕ) → m ≡ n → MatchOption o ((d : ℕ) → 0 ≤ d → d < m → at u.symbols d ≡ at v.symbols d) (λ i. (0 ≤ i) × (i < m) × (at u.symbols i ≢ at v.symbols i) × ((d : ℕ) → 0 ≤ d → d < i → at u.symbols d ≡ at v.symbols d))
    → MatchOption o (word n u ≡ word n v) (λ i. (i < n) × FirstWithout (λ d. at (word n u) d ≡ at (word n v) d) i)
first_difference n m u v None e same = tabulate_ext n _ _ (λ d l. same d (omega arith) (omega arith))
first_difference n m u v (Some i) e (_, l, differs, before) = (omega arith, difference_stored n u v i (omega arith) (differs, λ j lt. before j (omega arith) lt))
