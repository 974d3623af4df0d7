-- Symbols that a loop takes over one by one from bytes.
--     Taken gives bytes i s     s are the symbols that the first i bytes stand for, each below 10
use Rattle.std.proofs.Common.{◌≡◌, ℕ, zero, suc, ◌+◌, ◌-◌, ◌<◌, List, [], ◌∷◌, ◌++◌, map, length, get_or, Some, None, Option, MatchOption, ap, ◌∙◌, sym, refl, inl, inr, arith, below_more}
use Rattle.std.proofs.ByRecursion.{All-from_get_or, All-get_or}
use Rattle.std.proofs.lemmas.List.{ext_get_or, get_or-append_right, get_or_append_left, get_or-map, get_or_push, length-append, length-map, length-take}
use Rattle.std.proofs.lemmas.Bool.{cases_lt}
use Rattle.marks_lines.specs.Symbols.{Symbols}
use Rattle.marks_lines.specs.Held.{held}
use Rattle.marks_lines.specs.declared.digits.Digits.{Digits}

pub record Taken (gives : ℕ → Option ℕ → Type 0) (bytes : List ℕ) (i : ℕ) (s : List ℕ) : Type 0 where
  pub size : length s ≡ i
  pub small : (k : ℕ) → get_or s k 0 < 10
  pub same : (k : ℕ) → k < i → gives (get_or bytes k 0) (Some (get_or s k 0))

module _ {gives : ℕ → Option ℕ → Type 0} {bytes s : List ℕ} {i v : ℕ} (w : Taken gives bytes i s) (small : v < 10) where
  last_small : (k : ℕ) → get_or (v ∷ []) k 0 < 10
  last_small zero = small
  last_small (suc k) = omega arith

  longer_small : (k : ℕ) → get_or (s ++ v ∷ []) k 0 < 10
  longer_small k = elim (cases_lt k (length s)) [
    | inl h ↦ rw (get_or_append_left s (v ∷ []) 0 k h) (w.small k)
    | inr h ↦ rw (get_or-append_right s (v ∷ []) (length s) k 0 refl h) (last_small (k - length s))
  ]

  pub taken_more : gives (get_or bytes i 0) (Some v) → Taken gives bytes (i + 1) (s ++ v ∷ [])
  taken_more e = record {
    size = omega (arith, length-append s (v ∷ []), w.size);
    small = longer_small;
    same = below_more _ _ (λ k l. rw (get_or_append_left s (v ∷ []) 0 k (omega (arith, w.size))) (w.same k l)) (rw (get_or_push s v 0 i w.size) e);
  }

pub lawful : (d : Digits) → Symbols (held d)
lawful d = (simp length-take (omega (arith, d.symbols.short)), All-from_get_or (λ x. x < 10) (held d) 0 (λ i h. d.small i))

pub by_cases : {N M : Type 0} {S T : Digits → Type 0} (o : Option Digits) → MatchOption o N S → (N → M) → ((d : Digits) → S d → T d) → MatchOption o M T
by_cases (Some d) p none some = some d p
by_cases None p none some = none p

-- Bytes that stand for symbols are the codes f of these.
module _ (bytes : List ℕ) (f : ℕ → ℕ) where
  pub coded : (s : List ℕ) → length s ≡ length bytes → ((i : ℕ) → i < length bytes → get_or bytes i 0 ≡ f (get_or s i 0)) → bytes ≡ map f s
  coded s size same = ext_get_or 0 bytes (map f s) (sym (length-map s f ∙ size)) (λ i h. same i h ∙ sym (get_or-map f s i 0 0 (omega arith)))

  pub too_long : 64 < length bytes → (s : List ℕ) → Symbols s → bytes ≡ map f s → ⊥
  too_long long s small e = omega (arith, small.0, ap length e, length-map s f)

  pub no_code : (i : ℕ) → i < length bytes → ((v : ℕ) → v < 10 → get_or bytes i 0 ≡ f v → ⊥) → (s : List ℕ) → Symbols s → bytes ≡ map f s → ⊥
  no_code i h none s small e =
      let n : i < length s = omega (arith, ap length e, length-map s f) in
      none (get_or s i 0) (All-get_or (λ x. x < 10) s i 0 n small.1) (ap (λ (t : List ℕ). get_or t i 0) e ∙ get_or-map f s i 0 0 n)
