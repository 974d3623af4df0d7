-- What `any` and `find_map` over a range of numbers say of the numbers in it, and what an Option's `map` says of its item.
use Rattle.std.proofs.Common.{◌≡◌, ℕ, ◌+◌, ◌-◌, ◌<◌, ◌≤◌, Bool, true, false, IsTrue, List, length, Some, None, Option, MatchBool, MatchOption, sym, ap, ◌∙◌, subst, refl, unwrap_or, arith}
use Rattle.std.proofs.lemmas.Iterator.{YieldsList-from_range, cases_from_any}
use Rattle.std.proofs.lemmas.Iterator.Adapters.{option_map_id}
use Rattle.std.proofs.lemmas.Option.{none-some}
use Rattle.std.proofs.lemmas.List.FromFn.{length-range_with_len, get_or-range_with_len}
use Rattle.std.proofs.iter.Yields.{nat_range_steps}
use Rattle.std.proofs.iter.runs.Sources.{range_runs}
use Rattle.std.specs.Fn.{Called}
use Rattle.std.specs.Iterator.{ChecksAny}
use Rattle.std.specs.Iterator.Runs.{Run, SomeRun, AllItemsGive, IsFirstToGive, CallKeepsClosure}
use Rattle.std.specs.List.{range_with_len, AllWithin, HoldsAt}
use Rattle.std.specs.Option.{IsSomeAnd}
use Rattle.std.specs.declared.ops.Range.{Range}
use denote.Param.Members.{Mut}

module _ (s : Range ℕ) (Yes No : ℕ → Type 0) where
  abbrev all : List ℕ
  all = range_with_len s.start (s.end - s.start)

  in_range : (r : Bool) → MatchBool r ((k : ℕ) × (k < length all) × HoldsAt Yes all k) (AllWithin No all 0 (length all)) → MatchBool r ((k : ℕ) × (s.start ≤ k) × (k < s.end) × Yes k) ((k : ℕ) → s.start ≤ k → k < s.end → No k)
  in_range true (k, l, at) =
      let below : k < s.end - s.start = omega (arith, length-range_with_len s.start (s.end - s.start)) in
      (s.start + k, omega arith, omega arith, subst Yes (get_or-range_with_len s.start (s.end - s.start) k 0 below) (at 0))
  in_range false none = λ k lo hi.
      let here : s.start + (k - s.start) ≡ k = omega arith in
      subst No (get_or-range_with_len s.start (s.end - s.start) (k - s.start) 0 (omega arith) ∙ here)
      (none (k - s.start) 0 (omega arith) (omega (arith, length-range_with_len s.start (s.end - s.start))))

  pub any_in_range : {F : Type 0} {g : Mut F (ℕ × Unit {0}) Bool} (u : Range ℕ) (f : F) (r : Bool) → ChecksAny nat_range_steps g s f r u → ((x : ℕ) (q : F) → Called g f (x, tt) true q → Yes x) → ((x : ℕ) (q : F) → Called g f (x, tt) false q → (q ≡ f) × No x) → MatchBool r ((k : ℕ) × (s.start ≤ k) × (k < s.end) × Yes k) ((k : ℕ) → s.start ≤ k → k < s.end → No k)
  any_in_range u f r ran at_true at_false = in_range r (cases_from_any u f r Yes No ran (YieldsList-from_range s.start s.end (s.end - s.start) refl refl) at_true at_false)

module _ {F B : Type 0} {g : Mut F (ℕ × Unit {0}) (Option B)} (s : Range ℕ) (f : F) (Yes : ℕ → B → Type 0) (No : ℕ → Type 0) (keeps : CallKeepsClosure g f) (gives_some : (x : ℕ) (y : B) → Called g f (x, tt) (Some y) f → Yes x y) (gives_none : (x : ℕ) → Called g f (x, tt) None f → No x) where
  placed : (p : Run nat_range_steps) → p.from ≡ s → (j k : ℕ) → j < p.len → s.start + j ≡ k → p.at j ≡ Some k
  placed p from j k l e = sym (option_map_id (p.at j)) ∙ (range_runs p p.seen).3 j l ∙ ap Some (omega (arith, ap (λ (r : Range ℕ). r.start) from))

  pub find_map_in_range : (r : Option B) → SomeRun nat_range_steps s (λ p. MatchOption r (IsTrue p.whole × AllItemsGive p g f None) (λ y. (i : ℕ) × (i < p.len) × (p.len ≡ i + 1) × IsFirstToGive p g f (Some y) None i))
      → MatchOption r ((k : ℕ) → s.start ≤ k → k < s.end → No k) (λ y. (i : ℕ) × (s.start ≤ i) × (i < s.end) × Yes i y × ((k : ℕ) → s.start ≤ k → k < i → No k))
  find_map_in_range None (p, from, (whole, each)) = λ k lo hi.
      let long = (range_runs p p.seen).1 whole in
      let below : k - s.start < p.len = omega (arith, long, ap (λ (r : Range ℕ). r.start) from, ap (λ (r : Range ℕ). r.end) from) in
      let here = placed p from (k - s.start) k below (omega arith) in
      gives_none k (subst (λ o. MatchOption o (Unit {0}) (λ x. Called g f (x, tt) None f)) here (each keeps (k - s.start)))
  find_map_in_range (Some y) (p, from, (i, li, len, first)) =
      let short = (range_runs p p.seen).0 in
      let found = first keeps in (
        s.start + i,
        omega arith,
        omega (arith, short, ap (λ (r : Range ℕ). r.start) from, ap (λ (r : Range ℕ). r.end) from),
        gives_some (s.start + i) y (subst (λ o. IsSomeAnd o (λ x. Called g f (x, tt) (Some y) f)) (placed p from i (s.start + i) li refl) found.0),
        λ k lo hi.
            let here = placed p from (k - s.start) k (omega arith) (omega arith) in
            gives_none k (subst (λ o. IsSomeAnd o (λ x. Called g f (x, tt) None f)) here (found.1 (k - s.start) (omega arith))),
      )

-- q is what `map` makes of o: `from` takes its item back to that of o, and P holds of its item
module _ {A B : Type 0} (from : B → A) (P : B → Type 0) where
  abbrev pub Mapped : Option A → Option B → Type 0
  Mapped o q = MatchOption o (q ≡ None) (λ a. (b : B) × (q ≡ Some b) × (from b ≡ a) × P b)

  pub mapped_some : (S : Option A → Type 0) (o : Option A) (b : B) → S o → Mapped o (Some b) → S (Some (from b)) × P b
  mapped_some S None b told none = absurd (none-some b (sym none))
  mapped_some S (Some a) b told (c, is, at, p) =
      let same : b ≡ c = ap (λ o. unwrap_or o b) is in
      (subst (λ x. S (Some x)) (sym (ap from same ∙ at)) told, subst P (sym same) p)

  pub mapped_none : (S : Option A → Type 0) (o : Option A) → S o → Mapped o None → S None
  mapped_none S None told none = told
  mapped_none S (Some a) told made = absurd (none-some made.0 made.1)
