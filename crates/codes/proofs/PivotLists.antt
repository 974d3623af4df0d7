-- The pivots as a rising list, and rising lists with the same members.
-- A pivot d stands in the list at the index length (pivots d P).
use Rattle.std.proofs.Common.{◌≡◌, ℕ, zero, suc, ◌+◌, ◌<◌, ◌≤◌, Bool, true, false, List, [], ◌∷◌, ◌++◌, length, get_or, sym, refl, ap, ◌∙◌, subst, ap₂, inl, inr, add-one, arith}
use Rattle.std.proofs.lemmas.List.{append-nil, length_push, get_or_push, get_or_append_left}
use Rattle.std.proofs.lemmas.Bool.{cases_eq, cases_lt, cases_Bool, cond-true, cond-false}
use Rattle.codes.specs.Eliminations.{pivots}
use Rattle.codes.specs.GroupCodes.{Rising}

pub pivots_none : (P : ℕ → Bool) → pivots 0 P ≡ []
unfolding pivots
pivots_none P = refl

module _ (P : ℕ → Bool) where
  pub pivots_more : (n : ℕ) → P n ≡ true → pivots (n + 1) P ≡ pivots n P ++ n ∷ []
  unfolding pivots
  pivots_more n p = rw add-one (ap (λ t. pivots n P ++ t) (cond-true (P n) (n ∷ []) [] p))

  pub pivots_skip : (n : ℕ) → P n ≡ false → pivots (n + 1) P ≡ pivots n P
  unfolding pivots
  pivots_skip n p = rw add-one (ap (λ t. pivots n P ++ t) (cond-false (P n) (n ∷ []) [] p) ∙ append-nil (pivots n P))

  longer : (n : ℕ) → length (pivots n P) ≤ length (pivots (n + 1) P)
  longer n = elim (cases_Bool (P n)) [
    | inl p ↦ rw (pivots_more n p, length_push (pivots n P) n) (omega arith)
    | inr p ↦ rw (pivots_skip n p) (omega arith)
  ]

  pub length_pivots_rises : (a b : ℕ) → a ≤ b → length (pivots a P) ≤ length (pivots b P)
  length_pivots_rises a zero h = let s : a ≡ 0 = omega arith in rw s (omega arith)
  length_pivots_rises a (suc b) h = elim (cases_eq a (suc b)) [
    | inl s ↦ rw s (omega arith)
    | inr ne ↦ omega (arith, length_pivots_rises a b (omega arith), rw add-one at (longer b))
  ]

  pub length_pivots_le : (n : ℕ) → length (pivots n P) ≤ n
  length_pivots_le zero = rw pivots_none (omega arith)
  length_pivots_le (suc n) = elim (cases_Bool (P n)) [
    | inl p ↦ omega (arith, length_pivots_le n, ap length (rw add-one at (pivots_more n p)), length_push (pivots n P) n)
    | inr p ↦ omega (arith, length_pivots_le n, ap length (rw add-one at (pivots_skip n p)))
  ]

  pub length_pivots_below : (n d : ℕ) → d < n → P d ≡ true → length (pivots d P) < length (pivots n P)
  length_pivots_below n d h p = omega (arith, ap length (pivots_more d p), length_push (pivots d P) d, length_pivots_rises (d + 1) n (omega arith))

  get_or_more : (n i : ℕ) → i < length (pivots n P) → get_or (pivots (n + 1) P) i 0 ≡ get_or (pivots n P) i 0
  get_or_more n i h = elim (cases_Bool (P n)) [
    | inl p ↦ rw (pivots_more n p) (get_or_append_left (pivots n P) (n ∷ []) 0 i h)
    | inr p ↦ rw (pivots_skip n p) refl
  ]

  get_or_last : (n : ℕ) → P n ≡ true → get_or (pivots (n + 1) P) (length (pivots n P)) 0 ≡ n
  get_or_last n p = rw (pivots_more n p) (get_or_push (pivots n P) n 0 (length (pivots n P)) refl)

  pub get_or_pivots : (n d : ℕ) → d < n → P d ≡ true → get_or (pivots n P) (length (pivots d P)) 0 ≡ d
  get_or_pivots zero d h p = absurd (omega arith)
  get_or_pivots (suc n) d h p = elim (cases_eq d n) [
    | inl s ↦ subst (λ i. get_or (pivots (suc n) P) (length (pivots i P)) 0 ≡ i) (sym s) (rw (← add-one) (get_or_last n (sym (ap P s) ∙ p)))
    | inr ne ↦ rw (← add-one) (get_or_more n (length (pivots d P)) (length_pivots_below n d (omega arith) p) ∙ get_or_pivots n d (omega arith) p)
  ]

  abbrev pub Listed : ℕ → ℕ → ℕ → Type 0
  Listed n i d = (d < n) × (P d ≡ true) × (length (pivots d P) ≡ i)

  pub pivots_listed : (n i : ℕ) → i < length (pivots n P) → Listed n i (get_or (pivots n P) i 0)
  pivots_listed zero i h = absurd (omega (arith, ap length (pivots_none P)))
  pivots_listed (suc n) i h = elim (cases_lt i (length (pivots n P))) [
    | inl l ↦
        let (ld, p, s) = pivots_listed n i l in
        subst (Listed (suc n) i) (sym (rw (← add-one) (get_or_more n i l))) (omega arith, p, s)
    | inr l ↦ elim (cases_Bool (P n)) [
      | inl p ↦
          let s : length (pivots n P) ≡ i = omega (arith, ap length (rw add-one at (pivots_more n p)), length_push (pivots n P) n) in
          subst (Listed (suc n) i) (sym (rw (← add-one, ← s) (get_or_last n p))) (omega arith, p, s)
      | inr p ↦ absurd (omega (arith, ap length (rw add-one at (pivots_skip n p))))
    ]
  ]

  pub pivots_rising : (n : ℕ) → Rising (pivots n P)
  pivots_rising n i j h l =
      let (_, _, si) = pivots_listed n i (omega arith) in
      let (_, _, sj) = pivots_listed n j l in
      elim (cases_lt (get_or (pivots n P) i 0) (get_or (pivots n P) j 0)) [
        | inl r ↦ r
        | inr r ↦ absurd (omega (arith, length_pivots_rises (get_or (pivots n P) j 0) (get_or (pivots n P) i 0) r))
      ]

-- each number of xs stands in ys
abbrev pub Within : List ℕ → List ℕ → Type 0
Within xs ys = (i : ℕ) → i < length xs → (j : ℕ) × (j < length ys) × (get_or ys j 0 ≡ get_or xs i 0)

first_least : (x : ℕ) (xs : List ℕ) → Rising (x ∷ xs) → (i : ℕ) → i < length (x ∷ xs) → x ≤ get_or (x ∷ xs) i 0
first_least x xs r zero h = omega arith
first_least x xs r (suc i) h = omega (arith, r 0 (suc i) (omega arith) h)

rest_rising : (x : ℕ) (xs : List ℕ) → Rising (x ∷ xs) → Rising xs
rest_rising x xs r i j h l = r (suc i) (suc j) (omega arith) (omega arith)

rest_within : (x : ℕ) (xs : List ℕ) (y : ℕ) (ys : List ℕ) → Rising (x ∷ xs) → x ≡ y → Within (x ∷ xs) (y ∷ ys) → Within xs ys
rest_within x xs y ys r s within i h = let (j, l, e) = within (suc i) (omega arith) in go j l e
  where
    go : (j : ℕ) → j < length (y ∷ ys) → get_or (y ∷ ys) j 0 ≡ get_or xs i 0 → (j : ℕ) × (j < length ys) × (get_or ys j 0 ≡ get_or xs i 0)
    go zero l e = absurd (omega (arith, r 0 (suc i) (omega arith) (omega arith)))
    go (suc j) l e = (j, omega arith, e)

pub same_from_rising : (xs ys : List ℕ) → Rising xs → Rising ys → Within xs ys → Within ys xs → xs ≡ ys
same_from_rising [] [] rx ry wx wy = refl
same_from_rising [] (y ∷ ys) rx ry wx wy = let (j, l, _) = wy 0 (omega arith) in absurd (omega arith)
same_from_rising (x ∷ xs) [] rx ry wx wy = let (j, l, _) = wx 0 (omega arith) in absurd (omega arith)
same_from_rising (x ∷ xs) (y ∷ ys) rx ry wx wy =
    let (i, li, ei) = wy 0 (omega arith) in
    let (j, lj, ej) = wx 0 (omega arith) in
    let s : x ≡ y = omega (arith, first_least x xs rx i li, first_least y ys ry j lj) in
    ap₂ ◌∷◌ s (same_from_rising xs ys (rest_rising x xs rx) (rest_rising y ys ry) (rest_within x xs y ys rx s wx) (rest_within y ys x xs ry (sym s) wy))
