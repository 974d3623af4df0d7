-- Row words: each word that is not zero is a turn of a multiple of one.
use Rattle.std.proofs.Common.{◌≡◌, ℕ, ◌<◌, ◌≢◌, List, length, sym, ap, ◌∙◌, arith}
use Rattle.algebra.specs.Fields.{Symbols, FieldLaws}
use Rattle.algebra.specs.Groups.{Dots, GroupLaws}
use Rattle.words.specs.Words.{at, Lawful, nought, scaled, turned, weight, syndrome}
use Rattle.algebra.proofs.SumProducts.{zero_product}
use Rattle.words.proofs.Groups.{identity_below}
use Rattle.words.proofs.Linear.{at_nought, at_scaled, scaled_lawful, syndrome_scaled}
use Rattle.words.proofs.Turning.{turned_lawful, turned_back, syndrome_turned}
use Rattle.words.proofs.Weights.{weight_turned, weight_scaled, scaled_back}
use Rattle.books.specs.Books.{RowWord}

pub other_than_nought : {g : Dots} → GroupLaws g → (a : List ℕ) → at a 0 ≡ 1 → a ≢ nought g.order
other_than_nought {g} group a one_at z =
    let e : ◌≡◌ {A = ℕ} 1 0 = sym one_at ∙ ap (λ x. at x 0) z ∙ at_nought g.order 0 (identity_below group) in omega arith

pub turned_over : {g : Dots} → GroupLaws g → (j : ℕ) (u v : List ℕ) → j < g.order → length u ≡ g.order → turned g j u ≡ v → u ≡ turned g (g.inverse j) v
turned_over {g} group j u v lj lu e = sym (turned_back group j u lj lu) ∙ ap (turned g (g.inverse j)) e

module _ {k : Symbols} (field : FieldLaws k) where
  other_from_inverse : (a s : ℕ) → a < k.order → k.product s a ≡ 1 → s ≢ 0
  other_from_inverse a s la one_at z =
      let e : ◌≡◌ {A = ℕ} 1 0 = sym one_at ∙ ap (λ x. k.product x a) z ∙ zero_product field.sums a la in omega arith

  pub inverse_code : (a : ℕ) → a < k.order → a ≢ 0 → (s : ℕ) × (s < k.order) × (k.product s a ≡ 1)
  inverse_code a la ne =
      let (s, _, ls, e) = field.inverse_cancels a la ne in
      (s, ls, field.sums.product_commutative s a ls la ∙ e)

module _ {k : Symbols} (field : FieldLaws k) {g : Dots} (group : GroupLaws g) where
  pub scaled_turned_is_row : (b : List ℕ) (j s : ℕ) → Lawful k g.order b → j < g.order → s < k.order → k.product s (at (turned g j b) 0) ≡ 1 → RowWord k g.order (weight b) (scaled k g.order s (turned g j b)) × (weight (scaled k g.order s (turned g j b)) ≡ weight b) × (turned g j b ≡ scaled k g.order (at (turned g j b) 0) (scaled k g.order s (turned g j b)))
  scaled_turned_is_row b j s lb lj ls one_at = (
    (scaled_lawful field.sums g.order s (turned g j b), at_scaled k g.order s (turned g j b) 0 (identity_below group) ∙ one_at, omega (arith, same_weight)),
    same_weight,
    sym (scaled_back field.sums g.order s (at (turned g j b) 0) (turned g j b) ls la one_at lawful),
  )
    where
      lawful : Lawful k g.order (turned g j b)
      lawful = turned_lawful field.sums g j b lb

      la : at (turned g j b) 0 < k.order
      la = lawful.1 0 (identity_below group)

      same_weight : weight (scaled k g.order s (turned g j b)) ≡ weight b
      same_weight =
          weight_scaled field g.order s (turned g j b) ls (other_from_inverse field (at (turned g j b) 0) s la one_at) lawful
          ∙ weight_turned group j b lj lb.0

  pub row_from_turn : (b : List ℕ) (j : ℕ) → Lawful k g.order b → j < g.order → at (turned g j b) 0 ≢ 0 → (a : List ℕ) × RowWord k g.order (weight b) a × (turned g j b ≡ scaled k g.order (at (turned g j b) 0) a)
  row_from_turn b j lb lj ne =
      let (s, ls, one_at) = inverse_code field (at (turned g j b) 0) ((turned_lawful field.sums g j b lb).1 0 (identity_below group)) ne in
      let row = scaled_turned_is_row b j s lb lj ls one_at in
      (scaled k g.order s (turned g j b), row.0, row.2)

  -- a turn of b and a multiple of a with one syndrome
  module _ (e a b : List ℕ) (j s : ℕ) (la : Lawful k g.order a) (lj : j < g.order) (ls : s < k.order) where
    pub syndromes_fit : syndrome k g e (turned g j b) ≡ syndrome k g e (scaled k g.order s a) → turned g j (syndrome k g e b) ≡ scaled k g.order s (syndrome k g e a)
    syndromes_fit h = sym (syndrome_turned field.sums group e j b lj) ∙ h ∙ syndrome_scaled field.sums g e s a ls la

    pub syndromes_from_fit : turned g j (syndrome k g e b) ≡ scaled k g.order s (syndrome k g e a) → syndrome k g e (turned g j b) ≡ syndrome k g e (scaled k g.order s a)
    syndromes_from_fit h = syndrome_turned field.sums group e j b lj ∙ h ∙ sym (syndrome_scaled field.sums g e s a ls la)
