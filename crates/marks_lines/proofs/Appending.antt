-- Writing to a buffer one part after another.
use Rattle.std.proofs.Common.{◌≡◌, ℕ, zero, suc, ◌+◌, ◌-◌, ◌/◌, ◌%◌, ◌^◌, ◌<◌, ◌≤◌, List, [], ◌∷◌, ◌++◌, length, take, drop, set, replicate, decimal, sym, refl, ap, ◌∙◌, subst, mod-eq_of_lt, arith, length-take}
use Rattle.std.proofs.lemmas.Fmt.{decimal_digit, decimal_step, length-decimal-le}
use Rattle.std.proofs.lemmas.List.{append_assoc, drop-drop, drop-replicate, drop-set-lt, length-append, length-map, take_all}
use Rattle.marks_lines.specs.Held.{Appends, text}
use Rattle.marks_lines.specs.Replies.{number, word}
use Rattle.marks_lines.specs.declared.digits.Digits.{Digits}
use Rattle.marks_lines.specs.declared.held.Held.{Held}

pub take_take_append : (n : ℕ) (xs ys : List ℕ) → take n (take n xs ++ ys) ≡ take n (xs ++ ys)
take_take_append zero xs ys = refl
take_take_append (suc n) [] ys = refl
take_take_append (suc n) (x ∷ xs) ys = ap (λ zs. x ∷ zs) (take_take_append n xs ys)

pub appends_more : {n : ℕ} {k l m : Held n} {xs ys : List ℕ} → Appends k xs l → Appends l ys m → Appends k (xs ++ ys) m
appends_more {n} {k} {l} {m} {xs} {ys} p q = record {
  all = q.all ∙ ap (λ t. take n (t ++ ys)) p.all ∙ take_take_append n (text k ++ xs) ys ∙ ap (λ t. take n t) (append_assoc (text k) xs ys);
}

pub appends_same : {n : ℕ} {k l : Held n} {xs ys : List ℕ} → xs ≡ ys → Appends k xs l → Appends k ys l
appends_same {n} {k} {l} e p = subst (λ zs. Appends k zs l) e p

pub whole_line : {n : ℕ} (k l : Held n) {m : Held n} {xs : List ℕ} (byte : ℕ) → text k ≡ [] → length xs < n → Appends k xs l → Appends l (byte ∷ []) m → text m ≡ xs ++ byte ∷ []
whole_line {n} k l {m} {xs} byte none short p q =
    (appends_more p q).all ∙ ap (λ t. take n (t ++ (xs ++ byte ∷ []))) none ∙ take_all n (xs ++ byte ∷ []) (omega (arith, length-append xs (byte ∷ [])))

module _ {n : ℕ} {l m s : Held n} (x : ℕ) (same : s ≡ m) (last : Appends s ((48 + x % 10) ∷ []) l) where
  pub decimal_more : {k : Held n} → 10 ≤ x → x < 2 ^ 64 → Appends k (decimal (x / 10)) m → Appends k (decimal x) l
  decimal_more h small front = appends_same (sym (decimal_step x h small)) (appends_more front (subst (λ z. Appends z ((48 + x % 10) ∷ []) l) same last))

  pub decimal_first : x < 10 → Appends m (decimal x) l
  decimal_first h = appends_same (ap (λ y. (48 + y) ∷ []) (mod-eq_of_lt h) ∙ sym (decimal_digit x h)) (subst (λ z. Appends z ((48 + x % 10) ∷ []) l) same last)

pub length_number : (n : ℕ) → n < 2 ^ 64 → length (number n) ≤ 21
length_number n h = omega (arith, length-decimal-le 20 n (omega arith) (omega arith) h)

pub length_word : (d : Digits) → length (word d) ≤ 65
length_word d = simp (length-map, length-take) (omega (arith, d.symbols.short))

-- A buffer of N bytes that is 0 past the first len of them.
module _ (N len : ℕ) (bytes : List ℕ) (zeros : drop len bytes ≡ replicate (N - len) 0) where
  pub zeros_later : (n : ℕ) → drop (len + n) bytes ≡ replicate (N - (len + n)) 0
  zeros_later n =
      sym (drop-drop n len bytes) ∙ ap (λ (zs : List ℕ). drop n zs) zeros ∙ drop-replicate n (N - len) 0 ∙ ap (λ k. replicate k 0) (omega arith)

  pub zeros_set : (byte : ℕ) → drop (len + 1) (set bytes len byte) ≡ replicate (N - (len + 1)) 0
  zeros_set byte = drop-set-lt (len + 1) bytes len byte (omega arith) ∙ zeros_later 1
