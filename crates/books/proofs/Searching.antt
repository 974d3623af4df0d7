-- What the search for a pattern finds, and where.
use Rattle.std.proofs.Common.{◌≡◌, ℕ, ◌<◌, ◌≤◌, ◌≢◌, List, sym, ap, ◌∙◌, arith}
use Rattle.algebra.specs.Fields.{Symbols, FieldLaws}
use Rattle.algebra.specs.Groups.{Dots, GroupLaws}
use Rattle.words.specs.Words.{at, Lawful, nought, less, scaled, turned, Keeps, syndrome}
use Rattle.words.proofs.Groups.{identity_below}
use Rattle.words.proofs.Linear.{at_scaled, nought_lawful, less_lawful, scaled_lawful, syndrome_lawful, syndrome_scaled, syndrome_nought}
use Rattle.words.proofs.Turning.{turned_lawful, turned_back, turned_forth, syndrome_turned, turned_keeps}
use Rattle.words.proofs.Weights.{weight_nought, weight_scaled_le, weight_turned}
use Rattle.words.proofs.Differences.{less_less}
use Rattle.words.proofs.Syndromes.{same_syndrome_keeps, syndrome_less_keeps}
use Rattle.codes.specs.GroupCodes.{distance, TooClose, Pattern}
use Rattle.books.specs.Books.{RowWord}
use Rattle.codes.proofs.Distances.{distance_is_weight}
use Rattle.books.proofs.Rows.{row_from_turn, syndromes_fit}
use Rattle.books.proofs.LightWords.{pattern_unique}

module _ {k : Symbols} (field : FieldLaws k) {g : Dots} (group : GroupLaws g) (e : List ℕ) (le : Lawful k g.order e) (t : ℕ) (r : List ℕ) where
  -- a row word and a turn that fit r
  pub pattern_from_fit : (a : List ℕ) (j s : ℕ) → RowWord k g.order t a → j < g.order → s < k.order → turned g j (syndrome k g e r) ≡ scaled k g.order s (syndrome k g e a) → Pattern k g e t r (turned g (g.inverse j) (scaled k g.order s a))
  pattern_from_fit a j s row lj ls fit =
      let laws = field.sums in
      let lawful = scaled_lawful laws g.order s a in (
        turned_lawful laws g (g.inverse j) (scaled k g.order s a) lawful,
        omega (arith, weight_turned group (g.inverse j) (scaled k g.order s a) (group.inverse_below j) lawful.0, weight_scaled_le laws g.order s a ls row.0.0),
        syndrome_turned laws group e (g.inverse j) (scaled k g.order s a) (group.inverse_below j)
            ∙ ap (turned g (g.inverse j)) (syndrome_scaled laws g e s a ls row.0 ∙ sym fit)
            ∙ turned_back group j (syndrome k g e r) lj (syndrome_lawful laws g e r).0,
      )

  pub fit_from_pattern : (p : List ℕ) (j : ℕ) → Pattern k g e t r p → j < g.order → at (turned g j p) 0 ≢ 0 → (a : List ℕ) × RowWord k g.order t a × (turned g j (syndrome k g e r) ≡ scaled k g.order (at (turned g j p) 0) (syndrome k g e a)) × (turned g j p ≡ scaled k g.order (at (turned g j p) 0) a)
  fit_from_pattern p j pattern lj nz =
      let (a, row, turn) = row_from_turn field group p j pattern.0 lj nz in
      let ls = (turned_lawful field.sums g j p pattern.0).1 0 (identity_below group) in (
        a,
        (row.0, row.1, omega arith),
        ap (turned g j) (sym pattern.2) ∙ syndromes_fit field group e a p j (at (turned g j p) 0) row.0 lj ls (ap (syndrome k g e) turn),
        turn,
      )

  pub pattern_of_fit : (TooClose k g e t → ⊥) → (p a : List ℕ) (j s : ℕ) → Pattern k g e t r p → RowWord k g.order t a → j < g.order → s < k.order → turned g j (syndrome k g e r) ≡ scaled k g.order s (syndrome k g e a) → (turned g j p ≡ scaled k g.order s a) × (at (turned g j p) 0 ≡ s)
  pattern_of_fit apart p a j s pattern row lj ls fit =
      let found = turned g (g.inverse j) (scaled k g.order s a) in
      let turn : turned g j p ≡ scaled k g.order s a =
      ap (turned g j) (pattern_unique field group e le t apart r p found pattern (pattern_from_fit a j s row lj ls fit))
      ∙ turned_forth group j (scaled k g.order s a) lj (scaled_lawful field.sums g.order s a).0 in
      (turn, ap (λ x. at x 0) turn ∙ at_scaled k g.order s a 0 (identity_below group) ∙ ap (k.product s) row.1 ∙ field.sums.product_one s ls)

  pub no_fit_at_zero : (TooClose k g e t → ⊥) → (p a : List ℕ) (i s : ℕ) → Pattern k g e t r p → RowWord k g.order t a → i < g.order → s < k.order → s ≢ 0 → at (turned g i p) 0 ≡ 0 → turned g i (syndrome k g e r) ≡ scaled k g.order s (syndrome k g e a) → ⊥
  no_fit_at_zero apart p a i s pattern row li ls nz z fit = nz (sym (pattern_of_fit apart p a i s pattern row li ls fit).1 ∙ z)

  pub nought_is_pattern : syndrome k g e r ≡ nought g.order → Pattern k g e t r (nought g.order)
  nought_is_pattern zeros =
      (nought_lawful field.sums g.order, omega (arith, weight_nought g.order), syndrome_nought field.sums g e ∙ sym zeros)

  pub syndrome_from_nought_pattern : Pattern k g e t r (nought g.order) → syndrome k g e r ≡ nought g.order
  syndrome_from_nought_pattern pattern = sym pattern.2 ∙ syndrome_nought field.sums g e

  pub pattern_is_nought : (TooClose k g e t → ⊥) → (p : List ℕ) → syndrome k g e r ≡ nought g.order → Pattern k g e t r p → p ≡ nought g.order
  pattern_is_nought apart p zeros pattern = pattern_unique field group e le t apart r p (nought g.order) pattern (nought_is_pattern zeros)

  pub turned_mark_pattern : (w : List ℕ) (j : ℕ) → Keeps k g e w → Lawful k g.order r → j < g.order → distance g.order r (turned g j w) ≤ t → Pattern k g e t r (less k g.order r (turned g j w))
  turned_mark_pattern w j keeps lr lj near =
      let laws = field.sums in
      let turn = turned_keeps laws group e j w lj keeps in (
        less_lawful laws g.order r (turned g j w),
        omega (arith, distance_is_weight laws g.order r (turned g j w) lr turn.0),
        syndrome_less_keeps laws group e le r (turned g j w) lr turn,
      )

  pub turned_mark_back : (w : List ℕ) (j : ℕ) → Keeps k g e w → Lawful k g.order r → less k g.order r (less k g.order r (turned g j w)) ≡ turned g j w
  turned_mark_back w j keeps lr = less_less field.sums g.order r (turned g j w) lr (turned_lawful field.sums g j w keeps.0)

  pub less_pattern_keeps : (p : List ℕ) → Lawful k g.order r → Pattern k g e t r p → Keeps k g e (less k g.order r p)
  less_pattern_keeps p lr pattern = same_syndrome_keeps field.sums group e le r p lr pattern.0 (sym pattern.2)
