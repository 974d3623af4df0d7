use Rattle.std.proofs.Common.{◌≡◌, ℕ, ◌*◌, ◌<◌, List, [], ◌∷◌, ◌++◌, length, slice_index, refl, inl, inr, ap, ◌∙◌, ⊎_elim, arith}
use Rattle.std.proofs.lemmas.List.{get_or_append_left}
use Rattle.algebra.proofs.Handed.{handed}
use Rattle.algebra.specs.Checks.{Passed}
use Rattle.tables.specs.Tables.{entry_check, identity_check, inverse_check, size_check}
use Rattle.tables.specs.TablesLemmas.{associative, same_associative, same_cancels, same_kept, same_products}
use Rattle.tables.proofs.table.TableGroup.adopt.Goals.{In_ok-inverses}
use Rattle.tables.proofs.table.TableGroup.adopt.Goals as goal

-- the checks that the table has passed when its inverses are found
passed : (c : In_ok-inverses) → let n = c.args.n in let t = c.args.table.now in Passed (size_check n t ∷ entry_check n t ∷ identity_check n t ∷ inverse_check n t ∷ [])
passed c =
    let given = c.in_ok-given.ensures in
    let kept = rw (given.1.0, given.1.1) at c.in_ok-check_identity.ensures.0.0 in
    let inverses = rw (given.1.0, given.1.1) at c.in_ok-inverses.ensures.0.0 in
    (given.0.0, (given.0.1.0, (kept, (inverses, tt))))

pub returns-in_err-inverses-clause-answer : goal.returns-in_err-inverses-clause-answer
returns-in_err-inverses-clause-answer c =
    let given = c.in_ok-given.ensures in
    let kept = rw (given.1.0, given.1.1) at c.in_ok-check_identity.ensures.0.0 in
    let refused = rw (given.1.0, given.1.1) at c.in_err-inverses.ensures in
    rw (handed _ c.from_residual-in_err-inverses.ensures.1) (inr (given.0.0, inr (given.0.1.0, inr (kept, ⊎_elim inl (λ x. absurd x.1) refused))))

pub returns-in_err-check_association-clause-answer : goal.returns-in_err-check_association-clause-answer
returns-in_err-check_association-clause-answer c =
    let given = c.in_ok-given.ensures in
    let (sized, (entries, (kept, (inverses, _)))) = passed (goal.at.returns-in_err-check_association-clause-answer c).In_ok-inverses in
    let refused = rw (given.1.0, given.1.1) at c.in_err-check_association.ensures in
    rw (handed _ c.from_residual-in_err-check_association.ensures.1) (inr (sized, inr (entries, inr (kept, inr (inverses, refused)))))

-- a copy s of the table t, with more behind it
copied : (n : ℕ) (t s more : List ℕ) → s ≡ t → length t ≡ n * n → (i : ℕ) → i < n * n → slice_index (s ++ more) i ≡ slice_index t i
copied n t s more e l i h = get_or_append_left s more 0 i (rw e (omega arith)) ∙ ap (λ (x : List ℕ). slice_index x i) e

pub invariant_of-self : goal.invariant_of-self
invariant_of-self c =
    let given = c.in_ok-given.ensures in
    let (sized, (entries, (kept, _))) = passed (goal.at.invariant_of-self c).In_ok-inverses in
    let inverses = rw (given.1.0, given.1.1) at c.in_ok-inverses.ensures.1 in
    let associates = associative _ _ (rw (given.1.0, given.1.1) at c.in_ok-check_association.ensures.0.0) in
    let same = λ (more : List ℕ). copied c.args.n c.args.table.now c.copy_from_slice.new.self more c.copy_from_slice.ensures.after sized.2 in
    record {
      sized = (sized.0, sized.1);
      entries = λ i h. rw (same _ i h) (entries i h);
      identity = λ a h. same_kept _ _ _ (same _) a h (kept a h);
      inverses_within = λ a h. (inverses a h).0;
      cancels = λ a h. same_cancels _ _ _ (same _) a _ h (inverses a h).0 (inverses a h).1;
      associates = ∣ same_associative _ _ _ (same _) entries associates ∣₁;
    }

pub returns-clause-answer : goal.returns-clause-answer
returns-clause-answer c =
    let given = c.in_ok-given.ensures in
    let (sized, (entries, (kept, (inverses, _)))) = passed (goal.at.returns-clause-answer c).In_ok-inverses in
    let associates = rw (given.1.0, given.1.1) at c.in_ok-check_association.ensures.0 in (
      (sized, (entries, (kept, (inverses, associates)))),
      (refl, same_products _ _ _ (copied c.args.n c.args.table.now c.copy_from_slice.new.self _ c.copy_from_slice.ensures.after sized.2)),
    )
