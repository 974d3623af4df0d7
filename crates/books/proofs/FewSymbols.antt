-- Words of small weight: a word with 1 at dot 0 and at most two more nonzero symbols is the word of a row.
--     clear d w             w with 0 at dot d
--     Listed n q t r        the book for radius t of n dots and q symbols has a row with the symbols of r
use Rattle.std.proofs.Common.{◌≡◌, ℕ, zero, suc, ◌<◌, ◌≤◌, eqb, ◌≢◌, ◌⊎◌, List, [], ◌∷◌, None, length, set, sym, refl, ap, ◌∙◌, inl, inr, arith}
use Rattle.std.proofs.lemmas.List.{get_or-set_same, get_or-set_other, length-set}
use Rattle.std.proofs.lemmas.Bool.{cases_eq, cases_lt, eq-eqb, ne_eqb, cond-true, cond-false, cond_both}
use Rattle.algebra.specs.Fields.{Symbols, SumProductLaws}
use Rattle.words.specs.Words.{at, Lawful, weight}
use Rattle.words.proofs.Counting.{mark_most, mark_other, mark_zero}
use Rattle.words.proofs.Linear.{tabulate_lawful}
use Rattle.words.proofs.Tabulate.{at_past, at_tabulate, at_tabulate_past, tabulate_is}
use Rattle.books.specs.Adding.{Exactly, FirstDots, LastDots}
use Rattle.books.specs.Books.{RowWord}
use Rattle.books.specs.Rows.{row_symbol, row_word}
use Rattle.books.specs.declared.book.Placed.{Placed}
use Rattle.books.specs.declared.book.Row.{Row}

abbrev clear : ℕ → List ℕ → List ℕ
clear d w = set w d 0

at_cleared : (d : ℕ) (w : List ℕ) → at (clear d w) d ≡ 0
at_cleared d w = elim (cases_lt d (length w)) [
  | inl h ↦ get_or-set_same w d 0 0 h
  | inr h ↦ at_past (clear d w) d (rw (length-set w d 0) h)
]

at_other : (d i : ℕ) (w : List ℕ) → i ≢ d → at (clear d w) i ≡ at w i
at_other d i w ne = get_or-set_other w d i 0 0 ne

cleared_zero : (d i : ℕ) (w : List ℕ) → at w i ≡ 0 → at (clear d w) i ≡ 0
cleared_zero d i w z = elim (cases_eq i d) [
  | inl e ↦ ap (at (clear d w)) e ∙ at_cleared d w
  | inr ne ↦ at_other d i w ne ∙ z
]

weight_clear_le : (d : ℕ) (w : List ℕ) → weight w ≤ suc (weight (clear d w))
unfolding weight
weight_clear_le d [] = omega arith
weight_clear_le zero (x ∷ w) = omega (arith, mark_most x)
weight_clear_le (suc d) (x ∷ w) = omega (arith, weight_clear_le d w)

weight_clear : (d : ℕ) (w : List ℕ) → at w d ≢ 0 → weight w ≡ suc (weight (clear d w))
unfolding weight
weight_clear d [] ne = absurd (ne refl)
weight_clear zero (x ∷ w) ne = omega (arith, mark_other x ne)
weight_clear (suc d) (x ∷ w) ne = omega (arith, weight_clear d w ne)

weight_zeros : (w : List ℕ) → ((d : ℕ) → at w d ≡ 0) → weight w ≡ 0
unfolding weight
weight_zeros [] z = refl
weight_zeros (x ∷ w) z = omega (arith, mark_zero x (z 0), weight_zeros w (λ d. z (suc d)))

-- the first nonzero symbol
first_symbol : (w : List ℕ) → ((d : ℕ) → at w d ≡ 0) ⊎ ((d : ℕ) × (at w d ≢ 0) × ((i : ℕ) → i < d → at w i ≡ 0))
first_symbol [] = inl (λ d. refl)
first_symbol (x ∷ w) = elim (cases_eq x 0) [
  | inr ne ↦ inr (0, ne, λ i h. absurd (omega arith))
  | inl e ↦ elim (first_symbol w) [
    | inl z ↦ inl (elim [ zero ↦ e | suc d ↦ z d ])
    | inr (d, ne, before) ↦ inr (suc d, ne, elim [ zero ↦ λ h. e | suc i ↦ λ h. before i (omega arith) ])
  ]
]

-- a row with these symbols
abbrev row_of : (d s c x : ℕ) → Row
row_of d s c x = record {
  first = record { dot = d; symbol = s };
  second = record { dot = c; symbol = x };
  syndrome = record { symbols = [] };
  earlier = None;
}

-- no symbol but 0
abbrev pub unplaced : Placed
unplaced = record { dot = 0; symbol = 0 }

abbrev pub Single : Row → Type 0
Single = Exactly unplaced unplaced

abbrev pub Listed : (n q t : ℕ) → Row → Type 0
Listed n q zero r = ⊥
Listed n q (suc zero) r = Single r
Listed n q (suc (suc zero)) r = Single r ⊎ LastDots unplaced n q r
Listed n q (suc (suc (suc t))) r = (Single r ⊎ LastDots unplaced n q r) ⊎ FirstDots n n q r

-- a function with the symbols of r
symbols_are : (r : Row) (f : ℕ → ℕ) → f 0 ≡ 1 → (r.first.dot ≢ 0 → f r.first.dot ≡ r.first.symbol) → (r.second.dot ≢ 0 → r.second.dot ≢ r.first.dot → f r.second.dot ≡ r.second.symbol) → ((i : ℕ) → i ≢ 0 → i ≢ r.first.dot → i ≢ r.second.dot → f i ≡ 0) → (i : ℕ) → f i ≡ row_symbol r i
symbols_are r f at_zero at_first at_second elsewhere i = elim (cases_eq i 0) [
  | inl e ↦ ap f e ∙ at_zero ∙ sym (cond-true (eqb i 0) 1 _ (eq-eqb i 0 e))
  | inr ne ↦ elim (cases_eq i r.first.dot) [
    | inl e ↦
        ap f e ∙ at_first (λ z. ne (e ∙ z))
        ∙ sym (cond-false (eqb i 0) 1 _ (ne_eqb i 0 ne) ∙ cond-true (eqb i r.first.dot) r.first.symbol _ (eq-eqb _ _ e))
    | inr nf ↦ elim (cases_eq i r.second.dot) [
      | inl e ↦
          ap f e ∙ at_second (λ z. ne (e ∙ z)) (λ z. nf (e ∙ z))
          ∙ sym (cond-false (eqb i 0) 1 _ (ne_eqb i 0 ne) ∙ cond-false (eqb i r.first.dot) r.first.symbol _ (ne_eqb _ _ nf) ∙ cond-true (eqb i r.second.dot) r.second.symbol 0 (eq-eqb _ _ e))
      | inr ns ↦
          elsewhere i ne nf ns
          ∙ sym (cond-false (eqb i 0) 1 _ (ne_eqb i 0 ne) ∙ cond-false (eqb i r.first.dot) r.first.symbol _ (ne_eqb _ _ nf) ∙ cond-false (eqb i r.second.dot) r.second.symbol 0 (ne_eqb _ _ ns))
    ]
  ]
]

symbol_elsewhere : (r : Row) (i : ℕ) → i ≢ 0 → i ≢ r.first.dot → i ≢ r.second.dot → row_symbol r i ≡ 0
symbol_elsewhere r i ne nf ns =
    cond-false (eqb i 0) 1 _ (ne_eqb i 0 ne) ∙ cond-false (eqb i r.first.dot) r.first.symbol _ (ne_eqb _ _ nf) ∙ cond-false (eqb i r.second.dot) r.second.symbol 0 (ne_eqb _ _ ns)

module _ (n : ℕ) (r : Row) where
  at_elsewhere : (i : ℕ) → i ≢ 0 → i ≢ r.first.dot → i ≢ r.second.dot → at (row_word n r) i ≡ 0
  at_elsewhere i ne nf ns = elim (cases_lt i n) [
    | inl h ↦ at_tabulate n (row_symbol r) i h ∙ symbol_elsewhere r i ne nf ns
    | inr h ↦ at_tabulate_past n (row_symbol r) i h
  ]

  weight_one : r.first.dot ≡ 0 → r.second.dot ≡ 0 → weight (row_word n r) ≤ 1
  weight_one zf zs =
      omega (
        arith,
        weight_clear_le 0 (row_word n r),
        weight_zeros (clear 0 (row_word n r)) (λ i. elim (cases_eq i 0) [
          | inl e ↦ ap (at (clear 0 (row_word n r))) e ∙ at_cleared 0 (row_word n r)
          | inr ne ↦ at_other 0 i (row_word n r) ne ∙ at_elsewhere i ne (λ e. ne (e ∙ zf)) (λ e. ne (e ∙ zs))
        ]),
      )

  weight_two : r.first.dot ≡ 0 → weight (row_word n r) ≤ 2
  weight_two zf =
      let w = row_word n r in
      let c = r.second.dot in
      omega (
        arith,
        weight_clear_le c w,
        weight_clear_le 0 (clear c w),
        weight_zeros (clear 0 (clear c w)) (λ i. elim (cases_eq i 0) [
          | inl e ↦ ap (at (clear 0 (clear c w))) e ∙ at_cleared 0 (clear c w)
          | inr ne ↦ at_other 0 i (clear c w) ne ∙ elim (cases_eq i c) [
            | inl e ↦ ap (at (clear c w)) e ∙ at_cleared c w
            | inr ns ↦ at_other c i w ns ∙ at_elsewhere i ne (λ e. ne (e ∙ zf)) ns
          ]
        ]),
      )

  weight_three : weight (row_word n r) ≤ 3
  weight_three =
      let w = row_word n r in
      let c = r.second.dot in
      let d = r.first.dot in
      omega (
        arith,
        weight_clear_le c w,
        weight_clear_le d (clear c w),
        weight_clear_le 0 (clear d (clear c w)),
        weight_zeros (clear 0 (clear d (clear c w))) (λ i. elim (cases_eq i 0) [
          | inl e ↦ ap (at (clear 0 (clear d (clear c w)))) e ∙ at_cleared 0 (clear d (clear c w))
          | inr ne ↦ at_other 0 i (clear d (clear c w)) ne ∙ elim (cases_eq i d) [
            | inl e ↦ ap (at (clear d (clear c w))) e ∙ at_cleared d (clear c w)
            | inr nf ↦ at_other d i (clear c w) nf ∙ elim (cases_eq i c) [
              | inl e ↦ ap (at (clear c w)) e ∙ at_cleared c w
              | inr ns ↦ at_other c i w ns ∙ at_elsewhere i ne nf ns
            ]
          ]
        ]),
      )

module _ {k : Symbols} (laws : SumProductLaws k) (n : ℕ) (least : 1 ≤ n) where
  row_word_lawful : (r : Row) → r.first.symbol < k.order → r.second.symbol < k.order → Lawful k n (row_word n r) × (at (row_word n r) 0 ≡ 1)
  row_word_lawful r lf ls = (
    tabulate_lawful k n (row_symbol r) (λ d h.
        cond_both (eqb d 0) 1 _ (λ x. x < k.order) (λ _. omega (arith, laws.least)) (λ _.
        cond_both (eqb d r.first.dot) r.first.symbol _ (λ x. x < k.order) (λ _. lf) (λ _.
        cond_both (eqb d r.second.dot) r.second.symbol 0 (λ x. x < k.order) (λ _. ls) (λ _. omega (arith, laws.least))))),
    at_tabulate n (row_symbol r) 0 (omega arith),
  )

  single_row : (t : ℕ) (r : Row) → 1 ≤ t → Single r → RowWord k n t (row_word n r)
  single_row t r h (zf, sf, zs, ss) =
      let (lawful, one) = row_word_lawful r (omega (arith, laws.least)) (omega (arith, laws.least)) in
      (lawful, one, omega (arith, weight_one n r zf zs))

  two_row : (t : ℕ) (r : Row) → 2 ≤ t → LastDots unplaced n k.order r → RowWord k n t (row_word n r)
  two_row t r h (zf, sf, lc, cn, lx, xq) =
      let (lawful, one) = row_word_lawful r (omega (arith, laws.least)) xq in
      (lawful, one, omega (arith, weight_two n r zf))

  three_row : (t : ℕ) (r : Row) → 3 ≤ t → FirstDots n n k.order r → RowWord k n t (row_word n r)
  three_row t r h (ld, dn, ls, sq, lc, cn, lx, xq) =
      let (lawful, one) = row_word_lawful r sq xq in
      (lawful, one, omega (arith, weight_three n r))

  pub listed_row_word : (t : ℕ) (r : Row) → Listed n k.order t r → RowWord k n t (row_word n r)
  listed_row_word zero r h = absurd h
  listed_row_word (suc zero) r h = single_row 1 r (omega arith) h
  listed_row_word (suc (suc zero)) r (inl h) = single_row 2 r (omega arith) h
  listed_row_word (suc (suc zero)) r (inr h) = two_row 2 r (omega arith) h
  listed_row_word (suc (suc (suc t))) r (inl (inl h)) = single_row (suc (suc (suc t))) r (omega arith) h
  listed_row_word (suc (suc (suc t))) r (inl (inr h)) = two_row (suc (suc (suc t))) r (omega arith) h
  listed_row_word (suc (suc (suc t))) r (inr h) = three_row (suc (suc (suc t))) r (omega arith) h

zeros_from_weight : (w : List ℕ) → weight w ≡ 0 → (d : ℕ) → at w d ≡ 0
zeros_from_weight w z = elim (first_symbol w) [
  | inl zeros ↦ zeros
  | inr (d, ne, before) ↦ absurd (omega (arith, weight_clear d w ne))
]

listed_single : (n q t : ℕ) (r : Row) → 1 ≤ t → Single r → Listed n q t r
listed_single n q zero r h s = absurd (omega arith)
listed_single n q (suc zero) r h s = s
listed_single n q (suc (suc zero)) r h s = inl s
listed_single n q (suc (suc (suc t))) r h s = inl (inl s)

listed_two : (n q t : ℕ) (r : Row) → 2 ≤ t → LastDots unplaced n q r → Listed n q t r
listed_two n q zero r h s = absurd (omega arith)
listed_two n q (suc zero) r h s = absurd (omega arith)
listed_two n q (suc (suc zero)) r h s = inr s
listed_two n q (suc (suc (suc t))) r h s = inl (inr s)

listed_three : (n q t : ℕ) (r : Row) → 3 ≤ t → FirstDots n n q r → Listed n q t r
listed_three n q zero r h s = absurd (omega arith)
listed_three n q (suc zero) r h s = absurd (omega arith)
listed_three n q (suc (suc zero)) r h s = absurd (omega arith)
listed_three n q (suc (suc (suc t))) r h s = inr s

other_dot : (d i : ℕ) (w : List ℕ) → at (clear d w) i ≢ 0 → i ≢ d
other_dot d i w ne e = ne (ap (at (clear d w)) e ∙ at_cleared d w)

within : (w : List ℕ) (d : ℕ) → at w d ≢ 0 → d < length w
within w d ne = elim (cases_lt d (length w)) [ inl h ↦ h | inr h ↦ absurd (ne (at_past w d h)) ]

module _ (k : Symbols) (n t : ℕ) (few : t ≤ 3) (a : List ℕ) (row : RowWord k n t a) where
  abbrev Found : Type 0
  Found = (r : Row) × Listed n k.order t r × (row_word n r ≡ a)

  same_word : (r : Row) → ((i : ℕ) → at a i ≡ row_symbol r i) → row_word n r ≡ a
  same_word r same = sym (tabulate_is n (row_symbol r) a row.0.0 (λ i _. same i))

  abbrev rest : List ℕ
  rest = clear 0 a

  weight_rest : weight a ≡ suc (weight rest)
  weight_rest = weight_clear 0 a (λ z. omega (arith, row.1))

  found_single : ((i : ℕ) → at rest i ≡ 0) → Found
  found_single z =
      let r = row_of 0 0 0 0 in (
        r,
        listed_single n k.order t r (omega (arith, row.2, weight_rest)) (refl, refl, refl, refl),
        same_word r (
            symbols_are r (at a) row.1 (λ ne. absurd (ne refl)) (λ ne _. absurd (ne refl)) (λ i ne _ _. sym (at_other 0 i a ne) ∙ z i)),
      )

  module _ (c : ℕ) (nc : at rest c ≢ 0) where
    not_zero : c ≢ 0
    not_zero = other_dot 0 c a nc

    not_none : at a c ≢ 0
    not_none z = nc (cleared_zero 0 c a z)

    below : c < n
    below = rw row.0.0 at (within a c not_none)

    coded : at a c < k.order
    coded = row.0.1 c below

  found_two : (c : ℕ) → at rest c ≢ 0 → ((i : ℕ) → at (clear c rest) i ≡ 0) → Found
  found_two c nc z =
      let r = row_of 0 0 c (at a c) in
      let nz : c ≢ 0 = not_zero c nc in
      let na : at a c ≢ 0 = not_none c nc in (
        r,
        listed_two n k.order t r (omega (arith, row.2, weight_rest, weight_clear c rest nc)) (refl, refl, omega arith, below c nc, omega arith, coded c nc),
        same_word r (
            symbols_are r (at a) row.1 (λ ne. absurd (ne refl)) (λ _ _. refl) (λ i ne _ ns. sym (at_other 0 i a ne) ∙ sym (at_other c i rest ns) ∙ z i)),
      )

  found_three : (d c : ℕ) → at rest d ≢ 0 → at (clear d rest) c ≢ 0 → ((i : ℕ) → i < d → at rest i ≡ 0) → Found
  found_three d c nd nc before =
      let r = row_of d (at a d) c (at a c) in
      let apart : c ≢ d = other_dot d c rest nc in
      let nr : at rest c ≢ 0 = λ z. nc (cleared_zero d c rest z) in
      let later : d < c = elim (cases_lt d c) [ inl h ↦ h | inr h ↦ absurd (nr (before c (omega arith))) ] in
      let zd : d ≢ 0 = not_zero d nd in
      let ad : at a d ≢ 0 = not_none d nd in
      let ac : at a c ≢ 0 = not_none c nr in
      let w1 = weight_clear d rest nd in
      let w2 = weight_clear c (clear d rest) nc in
      let z = zeros_from_weight (clear c (clear d rest)) (omega (arith, row.2, weight_rest)) in (
        r,
        listed_three n k.order t r (omega (arith, row.2, weight_rest)) (omega arith, below d nd, omega arith, coded d nd, later, below c nr, omega arith, coded c nr),
        same_word r (
            symbols_are r (at a) row.1 (λ _. refl) (λ _ _. refl) (λ i ne nf ns.
            sym (at_other 0 i a ne) ∙ sym (at_other d i rest nf) ∙ sym (at_other c i (clear d rest) ns) ∙ z i)),
      )

  pub row_word_listed : Found
  row_word_listed = elim (first_symbol rest) [
    | inl z ↦ found_single z
    | inr (d, nd, before) ↦ elim (first_symbol (clear d rest)) [
      | inl z ↦ found_two d nd z
      | inr (c, nc, _) ↦ found_three d c nd nc before
    ]
  ]
