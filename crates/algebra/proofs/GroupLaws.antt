-- Products and inverses of codes make a group if they do so inside the codes.
use Rattle.std.proofs.Common.{◌≡◌, ℕ, ◌<◌, ◌≤◌, sym, refl, ap, ◌∙◌}
use Rattle.algebra.specs.Codes.{at_codes}
use Rattle.algebra.specs.Groups.{GroupLaws, group_of}
use Rattle.algebra.proofs.Coded.{at_code_inside, at_code_outside, at_code_below, at_codes_inside, at_codes_outside_left, at_codes_outside_right, at_codes_below}

pub record LawsInside (n : ℕ) (p : ℕ → ℕ → ℕ) (i : ℕ → ℕ) : Type 0 where
  pub least : 1 ≤ n
  pub most : n ≤ 64
  pub product_below : (a b : ℕ) → a < n → b < n → p a b < n
  pub inverse_below : (a : ℕ) → a < n → i a < n
  pub associative : (a b c : ℕ) → a < n → b < n → c < n → p (p a b) c ≡ p a (p b c)
  pub left_identity : (a : ℕ) → a < n → p 0 a ≡ a
  pub right_identity : (a : ℕ) → a < n → p a 0 ≡ a
  pub left_inverse : (a : ℕ) → a < n → p (i a) a ≡ 0
  pub right_inverse : (a : ℕ) → a < n → p a (i a) ≡ 0

module _ (n : ℕ) (p : ℕ → ℕ → ℕ) (i : ℕ → ℕ) (laws : LawsInside n p i) where
  -- a product of codes, when its factors are codes under other names
  at : (a b x y : ℕ) → a ≡ x → b ≡ y → x < n → y < n → at_codes n p a b ≡ p x y
  at a b x y e f h k = ap (λ z. at_codes n p z b) e ∙ ap (at_codes n p x) f ∙ at_codes_inside n p x y h k

  pub group_laws : GroupLaws (group_of n p i)
  group_laws =
      let inside = at_codes_inside n p in
      let turned = at_code_inside n i in
      record {
        least = laws.least;
        most = laws.most;
        product_below = at_codes_below n laws.least p (λ a b h k. rw (inside a b h k) (laws.product_below a b h k));
        inverse_below = at_code_below n laws.least i (λ a h. rw (turned a h) (laws.inverse_below a h));
        product_outside_left = at_codes_outside_left n p;
        product_outside_right = at_codes_outside_right n p;
        inverse_outside = at_code_outside n i;
        associative = λ a b c ha hb hc.
            at _ c (p a b) c (inside a b ha hb) refl (laws.product_below a b ha hb) hc
            ∙ laws.associative a b c ha hb hc
            ∙ sym (at a _ a (p b c) refl (inside b c hb hc) ha (laws.product_below b c hb hc));
        left_identity = λ a h. inside 0 a laws.least h ∙ laws.left_identity a h;
        right_identity = λ a h. inside a 0 h laws.least ∙ laws.right_identity a h;
        left_inverse = λ a h. at _ a (i a) a (turned a h) refl (laws.inverse_below a h) h ∙ laws.left_inverse a h;
        right_inverse = λ a h. at a _ a (i a) refl (turned a h) h (laws.inverse_below a h) ∙ laws.right_inverse a h;
      }
