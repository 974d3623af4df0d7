-- What the checks of a table give.
use Rattle.std.specs.Prelude.{◌≡◌, ℕ, zero, suc, ◌+◌, ◌*◌, ◌<◌, ◌≤◌, ◌⊎◌, List, replicate, slice_index, slice_index_or, refl}
use Rattle.std.proofs.Common.{sym, ap, subst, ◌∙◌, ⊎_elim, arith}
use Rattle.algebra.specs.Checks.{FirstWithout}
use Rattle.algebra.specs.Codes.{at_codes}
use Rattle.tables.specs.Tables.{Associates, AssociatesAt, Associative, Cancels, Kept, entry}
use Rattle.algebra.proofs.Coded.{at_codes_cong}
use Rattle.algebra.proofs.GroupLaws.{LawsInside}
use Rattle.tables.specs.Places.{place_below, triple_below, triple_order}

pub index_zeros : (n i : ℕ) → slice_index_or {A = ℕ} (replicate n 0) i 0 ≡ 0
index_zeros zero i = refl
index_zeros (suc n) zero = refl
index_zeros (suc n) (suc i) = index_zeros n i

-- a table of zeros is that of the group of one dot
module _ (t : List ℕ) (zeros : (i : ℕ) → slice_index t i ≡ 0) where
  pub one_kept : (a : ℕ) → a < 1 → Kept 1 t a
  one_kept a h = let e : a ≡ 0 = omega arith in (zeros (0 * 1 + a) ∙ sym e, zeros (a * 1 + 0) ∙ sym e)

  pub one_cancels : (a b : ℕ) → Cancels 1 t a b
  one_cancels a b = (zeros (a * 1 + b), zeros (b * 1 + a))

  pub one_associative : Associative 1 t
  one_associative a b c ha hb hc = zeros (entry 1 t a b * 1 + c) ∙ sym (zeros (a * 1 + entry 1 t b c))

module _ (n : ℕ) (t : List ℕ) where
  -- a triple that fails, while all before it in the order of the three loops associate
  pub first_unassociative : (a b c : ℕ) → b < n → c < n → ((x y z : ℕ) → x < a → y < n → z < n → Associates n t x y z)
      → ((y z : ℕ) → y < b → z < n → Associates n t a y z) → ((z : ℕ) → z < c → Associates n t a b z) → (Associates n t a b c → ⊥) → a < n
      → FirstWithout (AssociatesAt n t) (a * (n * n) + b * n + c)
  first_unassociative a b c hb hc rows columns places fails ha = (
    (λ holds. fails (holds a b c ha hb hc refl)),
    λ j before x y z hx hy hz e.
        ⊎_elim (λ (lt : x < a). rows x y z lt hy hz)
        (λ (same : (x ≡ a) × ((y < b) ⊎ ((y ≡ b) × (z < c)))).
        subst (λ (v : ℕ). Associates n t v y z) (sym same.0)
        (⊎_elim (λ (lt : y < b). columns y z lt hz)
        (λ (last : (y ≡ b) × (z < c)). subst (λ (v : ℕ). Associates n t a v z) (sym last.0) (places z last.1))
        same.1))
        (triple_order x y z a b c hy hz hb hc (omega arith)),
  )

  pub associative : ((i : ℕ) → i < n * (n * n) → AssociatesAt n t i) → Associative n t
  associative holds a b c ha hb hc = holds (a * (n * n) + b * n + c) (triple_below a b c ha hb hc) a b c ha hb hc refl

  pub table_laws : (v : List ℕ) → 1 ≤ n → n ≤ 64 → ((i : ℕ) → i < n * n → slice_index t i < n) → ((a : ℕ) → a < n → Kept n t a)
      → ((a : ℕ) → a < n → slice_index v a < n) → ((a : ℕ) → a < n → Cancels n t a (slice_index v a)) → Associative n t
      → LawsInside n (entry n t) (λ a. slice_index v a)
  table_laws v least most entries kept within cancels associates = record {
    least = least;
    most = most;
    product_below = λ a b ha hb. entries (a * n + b) (place_below a b ha hb);
    inverse_below = within;
    associative = associates;
    left_identity = λ a h. (kept a h).0;
    right_identity = λ a h. (kept a h).1;
    left_inverse = λ a h. (cancels a h).1;
    right_inverse = λ a h. (cancels a h).0;
  }

-- a copy p of the table t
module _ (n : ℕ) (p t : List ℕ) (same : (i : ℕ) → i < n * n → slice_index p i ≡ slice_index t i) where
  same_entry : (a b : ℕ) → a < n → b < n → entry n p a b ≡ entry n t a b
  same_entry a b ha hb = same (a * n + b) (place_below a b ha hb)

  pub same_kept : (a : ℕ) → a < n → Kept n t a → Kept n p a
  same_kept a h k = (same_entry 0 a (omega arith) h ∙ k.0, same_entry a 0 h (omega arith) ∙ k.1)

  pub same_cancels : (a b : ℕ) → a < n → b < n → Cancels n t a b → Cancels n p a b
  same_cancels a b ha hb k = (same_entry a b ha hb ∙ k.0, same_entry b a hb ha ∙ k.1)

  pub same_associative : ((i : ℕ) → i < n * n → slice_index t i < n) → Associative n t → Associative n p
  same_associative entries holds a b c ha hb hc =
      ap (λ (x : ℕ). entry n p x c) (same_entry a b ha hb)
      ∙ same_entry (entry n t a b) c (entries _ (place_below a b ha hb)) hc
      ∙ holds a b c ha hb hc
      ∙ sym (ap (entry n p a) (same_entry b c hb hc) ∙ same_entry a (entry n t b c) ha (entries _ (place_below b c hb hc)))

  pub same_products : (a b : ℕ) → at_codes n (entry n p) a b ≡ at_codes n (entry n t) a b
  same_products = at_codes_cong n (entry n p) (entry n t) same_entry
