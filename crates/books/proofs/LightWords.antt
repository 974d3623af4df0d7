-- When some code word is too light: two light words with one syndrome, and how rows show it.
use Rattle.std.proofs.Common.{◌≡◌, ℕ, ◌+◌, ◌<◌, ◌≤◌, ◌≢◌, ◌⊎◌, List, sym, ap, ◌∙◌, inl, inr, arith}
use Rattle.std.proofs.lemmas.Bool.{cases_lt}
use Rattle.algebra.specs.Fields.{Symbols, FieldLaws}
use Rattle.algebra.specs.Groups.{Dots, GroupLaws}
use Rattle.words.specs.Words.{at, Lawful, nought, less, scaled, turned, weight, Keeps, syndrome}
use Rattle.words.proofs.Groups.{identity_below}
use Rattle.words.proofs.Linear.{at_less, less_lawful, scaled_lawful, same_from_less, syndrome_nought, keeps_from_syndrome}
use Rattle.words.proofs.Turning.{turned_lawful, turned_keeps}
use Rattle.words.proofs.Weights.{nought_from_weight, weight_less, weight_scaled_le, weight_turned}
use Rattle.words.proofs.CodeWords.{scaled_keeps}
use Rattle.words.proofs.Counting.{weight_split}
use Rattle.words.proofs.Differences.{nought_decided, same_decided}
use Rattle.words.proofs.Syndromes.{same_syndrome_keeps, syndrome_less_keeps}
use Rattle.words.proofs.Turns.{same_from_turned, least_turn}
use Rattle.codes.specs.GroupCodes.{TooClose, Pattern}
use Rattle.books.specs.Books.{RowWord}
use Rattle.books.proofs.Rows.{other_than_nought, inverse_code, scaled_turned_is_row, row_from_turn, syndromes_fit, syndromes_from_fit}

module _ {k : Symbols} (field : FieldLaws k) {g : Dots} (group : GroupLaws g) (e : List ℕ) (le : Lawful k g.order e) (t : ℕ) where
  pub close_from_same_syndrome : (u v : List ℕ) → Lawful k g.order u → Lawful k g.order v → weight u ≤ t → weight v ≤ t → u ≢ v → syndrome k g e u ≡ syndrome k g e v → TooClose k g e t
  close_from_same_syndrome u v lu lv hu hv ne same =
      let laws = field.sums in (
        less k g.order u v,
        same_syndrome_keeps laws group e le u v lu lv same,
        (λ z. ne (same_from_less laws g.order u v lu lv z)),
        omega (arith, weight_less laws g.order u v lu.0 lv.0),
      )

  pub pattern_unique : (TooClose k g e t → ⊥) → (r p p' : List ℕ) → Pattern k g e t r p → Pattern k g e t r p' → p ≡ p'
  pattern_unique apart r p p' h h' = elim (same_decided field.sums g.order p p' h.0 h'.0) [
    | inl same ↦ same
    | inr ne ↦ absurd (apart (close_from_same_syndrome p p' h.0 h'.0 h.1 h'.1 ne (h.2 ∙ sym h'.2)))
  ]

  abbrev Collision : Type 0
  Collision = (a : List ℕ) × (b : List ℕ) × RowWord k g.order t a × Lawful k g.order b × (weight b ≤ t) × (b ≢ a) × (syndrome k g e a ≡ syndrome k g e b)

  -- the first c nonzero symbols of a code word with 1 at dot 0, and the opposite of the rest
  collision_from_part : (w : List ℕ) (c : ℕ) → Keeps k g e w → at w 0 ≡ 1 → c ≢ 0 → c ≤ weight w → c ≤ t → weight w ≤ c + t → Collision
  collision_from_part w c keeps one_at ne lc ct rest =
      let (a, la, wa, sums, first) = weight_split field.sums g.order c w keeps.0 lc in (
        a,
        less k g.order a w,
        (la, first ne ∙ one_at, omega arith),
        less_lawful field.sums g.order a w,
        omega arith,
        (λ same. zero_one (sym (first ne ∙ one_at) ∙ ap (λ x. at x 0) (sym same) ∙ other_zero a (first ne ∙ one_at))),
        sym (syndrome_less_keeps field.sums group e le a w la keeps),
      )
    where
      zero_one : ◌≡◌ {A = ℕ} 1 0 → ⊥
      zero_one z = omega arith

      other_zero : (a : List ℕ) → at a 0 ≡ 1 → at (less k g.order a w) 0 ≡ 0
      other_zero a first =
          at_less k g.order a w 0 (identity_below group)
          ∙ ap (λ x. k.sum x (k.opposite (at w 0))) (first ∙ sym one_at)
          ∙ field.sums.sum_opposite (at w 0) (keeps.0.1 0 (identity_below group))

  collision_from_row : (w : List ℕ) → Keeps k g e w → at w 0 ≡ 1 → weight w ≤ t + t → Collision
  collision_from_row w keeps one_at light =
      let heavy : weight w ≢ 0 = λ z. other_than_nought group w one_at (nought_from_weight g.order w keeps.0.0 z) in
      elim (cases_lt t (weight w)) [
        | inl h ↦ collision_from_part w t keeps one_at (omega arith) (omega arith) (omega arith) light
        | inr h ↦ collision_from_part w (weight w) keeps one_at heavy (omega arith) h (omega arith)
      ]

  pub collision_from_close : TooClose k g e t → (a : List ℕ) × (b : List ℕ) × RowWord k g.order t a × Lawful k g.order b × (weight b ≤ t) × (b ≢ a) × (syndrome k g e a ≡ syndrome k g e b)
  collision_from_close (w, keeps, ne, light) =
      let (j, lj, nz, _) = least_turn group w keeps.0.0 ne in
      let (s, ls, one_at) = inverse_code field (at (turned g j w) 0) ((turned_lawful field.sums g j w keeps.0).1 0 (identity_below group)) nz in
      let row = scaled_turned_is_row field group w j s keeps.0 lj ls one_at in
      collision_from_row (scaled k g.order s (turned g j w)) (scaled_keeps field.sums g e le s (turned g j w) ls (turned_keeps field.sums group e j w lj keeps)) row.0.1 (omega arith)

  pub rows_from_close : TooClose k g e t → (a : List ℕ) × RowWord k g.order t a × ((syndrome k g e a ≡ nought g.order) ⊎ ((a' : List ℕ) × (j : ℕ) × (s : ℕ) × RowWord k g.order t a' × (j < g.order) × (s < k.order) × (s ≢ 0) × (turned g j (syndrome k g e a) ≡ scaled k g.order s (syndrome k g e a')) × (turned g j a ≢ scaled k g.order s a')))
  rows_from_close close =
      let (a, b, row, lb, hb, other, same) = collision_from_close close in (
        a,
        row,
        elim (nought_decided field.sums g.order b lb) [
          | inl z ↦ inl (same ∙ ap (syndrome k g e) z ∙ syndrome_nought field.sums g e)
          | inr ne ↦
              let (j, lj, nz, _) = least_turn group b lb.0 ne in
              let (a', row', turn) = row_from_turn field group b j lb lj nz in
              let ls = (turned_lawful field.sums g j b lb).1 0 (identity_below group) in
              inr (
                a',
                j,
                at (turned g j b) 0,
                (row'.0, row'.1, omega arith),
                lj,
                ls,
                nz,
                ap (turned g j) same ∙ syndromes_fit field group e a' b j (at (turned g j b) 0) row'.0 lj ls (ap (syndrome k g e) turn),
                (λ h. other (same_from_turned group j b a lj lb.0 row.0.0 (turn ∙ sym h))),
              )
        ],
      )

  pub close_from_code_row : (a : List ℕ) → RowWord k g.order t a → syndrome k g e a ≡ nought g.order → TooClose k g e t
  close_from_code_row a row zeros =
      (a, keeps_from_syndrome field.sums group e a le row.0 zeros, other_than_nought group a row.1, omega arith)

  pub close_from_rows : (a a' : List ℕ) (j s : ℕ) → RowWord k g.order t a → RowWord k g.order t a' → j < g.order → s < k.order → turned g j (syndrome k g e a) ≡ scaled k g.order s (syndrome k g e a') → turned g j a ≢ scaled k g.order s a' → TooClose k g e t
  close_from_rows a a' j s row row' lj ls fit ne =
      let laws = field.sums in
      close_from_same_syndrome (turned g j a) (scaled k g.order s a') (turned_lawful laws g j a row.0) (scaled_lawful laws g.order s a')
      (omega (arith, weight_turned group j a lj row.0.0)) (omega (arith, weight_scaled_le laws g.order s a' ls row'.0.0))
      ne (syndromes_from_fit field group e a' a j s row'.0 lj ls fit)
