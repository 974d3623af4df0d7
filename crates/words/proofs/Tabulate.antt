-- Words made of a function of the dot, and words with the same symbols.
use Rattle.std.proofs.Common.{◌≡◌, ℕ, zero, suc, ◌+◌, ◌-◌, ◌<◌, ◌≤◌, min, List, ◌++◌, length, take, drop, replicate, sym, refl, ap, ◌∙◌, ⊎_elim, arith}
use Rattle.std.proofs.lemmas.Bool.{cases_lt}
use Rattle.std.proofs.lemmas.List.FromFn.{length-map-range_with_len, get_or-map-range_with_len, fill_by_all}
use Rattle.std.proofs.lemmas.List.{get_or_past, ext_get_or, get_or_append_left, get_or-append_right, get_or-take, get_or-drop, length-append, length-drop, length-replicate, length-take-le}
use Rattle.words.specs.Words.{at, tabulate}

pub length_tabulate : (n : ℕ) (f : ℕ → ℕ) → length (tabulate n f) ≡ n
unfolding tabulate
length_tabulate n f = length-map-range_with_len f 0 n

pub at_tabulate : (n : ℕ) (f : ℕ → ℕ) (d : ℕ) → d < n → at (tabulate n f) d ≡ f d
unfolding tabulate
at_tabulate n f d h = get_or-map-range_with_len f 0 n d d 0 h (omega arith)

pub at_past : (w : List ℕ) (d : ℕ) → length w ≤ d → at w d ≡ 0
at_past w d h = get_or_past w d 0 h

pub at_tabulate_past : (n : ℕ) (f : ℕ → ℕ) (d : ℕ) → n ≤ d → at (tabulate n f) d ≡ 0
at_tabulate_past n f d h = at_past (tabulate n f) d (rw (length_tabulate n f) h)

pub word_ext : {n : ℕ} (u v : List ℕ) → length u ≡ n → length v ≡ n → ((d : ℕ) → d < n → at u d ≡ at v d) → u ≡ v
word_ext u v p q same = ext_get_or 0 u v (p ∙ sym q) (λ d h. same d (omega arith))

pub tabulate_is : (n : ℕ) (f : ℕ → ℕ) (w : List ℕ) → length w ≡ n → ((d : ℕ) → d < n → at w d ≡ f d) → w ≡ tabulate n f
unfolding tabulate
tabulate_is n f w p same = fill_by_all f w n 0 p same

pub tabulate_ext : (n : ℕ) (f g : ℕ → ℕ) → ((d : ℕ) → d < n → f d ≡ g d) → tabulate n f ≡ tabulate n g
tabulate_ext n f g same = tabulate_is n g (tabulate n f) (length_tabulate n f) (λ d h. at_tabulate n f d h ∙ same d h)

pub at_zeros : (n d : ℕ) → at (replicate n 0) d ≡ 0
at_zeros zero d = refl
at_zeros (suc n) zero = refl
at_zeros (suc n) (suc d) = at_zeros n d

-- m zeros, of which the first n are written over with those of w
pub front_tabulated : (m n : ℕ) (w front zeros : List ℕ) → n ≡ min (length w) m → front ≡ take n w → zeros ≡ replicate m 0 → front ++ drop n zeros ≡ tabulate m (at w)
front_tabulated m n w front zeros least copied cleared =
    tabulate_is m (at w) (front ++ drop n zeros) (omega (arith, length-append front (drop n zeros), length-drop n zeros, size, all)) (λ d l. ⊎_elim
    (λ (lt : d < n). get_or_append_left front (drop n zeros) 0 d (omega (arith, size)) ∙ ap (λ x. at x d) copied ∙ get_or-take n w d 0 lt)
    (λ (le : n ≤ d).
    get_or-append_right front (drop n zeros) n d 0 size le ∙ get_or-drop n zeros (d - n) 0
    ∙ ap (λ x. at x (n + (d - n))) cleared ∙ at_zeros m (n + (d - n)) ∙ sym (at_past w d (omega arith)))
    (cases_lt d n))
  where
    size : length front ≡ n
    size = ap length copied ∙ length-take-le n w (omega arith)

    all : length zeros ≡ m
    all = ap length cleared ∙ length-replicate m 0
