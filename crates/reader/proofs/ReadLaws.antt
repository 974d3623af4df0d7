-- The law of reads, from what a read answers.
use Rattle.std.proofs.Common.{◌≡◌, ℕ, zero, suc, ◌+◌, ◌<◌, ◌≤◌, ◌≢◌, List, length, IfOk, Some, None, Ok, Err, Option, Result, sym, refl, ap, ◌∙◌, subst, inl, inr, arith}
use Rattle.std.proofs.lemmas.Bool.{cases_lt}
use Rattle.algebra.specs.Checks.{Refused}
use Rattle.algebra.specs.Fields.{Symbols, FieldLaws}
use Rattle.algebra.specs.Groups.{Dots, GroupLaws}
use Rattle.algebra.specs.Refusals.{reach_refused}
use Rattle.algebra.specs.declared.fault.Fault.{Fault}
use Rattle.words.specs.Words.{at, Lawful, Keeps, less, nought, syndrome, turned, weight}
use Rattle.words.proofs.Differences.{less_less, less_nought}
use Rattle.words.proofs.Linear.{at_nought, syndrome_from_keeps}
use Rattle.words.proofs.Weights.{weight_nought}
use Rattle.reader.specs.Calls.{Code, Mended, Reads, read_checks}
use Rattle.codes.specs.GroupCodes.{Pattern, TurnCount, WrittenAs, chosen}
use Rattle.reader.specs.Histories.{Call, CountsTurns, InForce, ReadLaw, Readable, ReadsLawfully}
use Rattle.reader.specs.Loads.{Passes}
use Rattle.reader.specs.declared.record.ReadRecord.{ReadRecord}
use Rattle.reader.proofs.InForce.{in_force_passes, in_force_unique}
use Rattle.codes.proofs.MessageSymbols.{same_from_message_dots}
use Rattle.codes.proofs.MessageWords.{message_dots_unique}
use Rattle.books.proofs.Searching.{nought_is_pattern, turned_mark_back, turned_mark_pattern}
use Rattle.codes.proofs.TurnCounts.{turn_count_is_inverse, turn_count_is_least, weight_and_turn_count}

pub passes_lawful : (k : Symbols) (g : Dots) (e : List ℕ) (t : ℕ) → Passes k g e t → Lawful k g.order e
passes_lawful k g e t (size, (range, _)) = (size, λ d h. range d (omega arith))

pub counts_turns : {g : Dots} (k : Symbols) → GroupLaws g → (p : List ℕ) (c : ℕ) → TurnCount g p c → CountsTurns k g p c
counts_turns {g} k group p zero count = λ d h. ap (λ w. at w d) count ∙ at_nought g.order d h
counts_turns k group p (suc j) count = (turn_count_is_inverse group p j count, turn_count_is_least group p j count)

module _ {k : Symbols} (field : FieldLaws k) {g : Dots} (group : GroupLaws g) where
  pub reads_bound : (o : Option Code) (r b m : List ℕ) (a : Result ReadRecord Fault) (b' m' : List ℕ) → Reads k g o r b m a b' m' → IfOk a (λ x. x.wrong + x.turns ≤ g.order + 1)
  reads_bound None r b m a b' m' answer = subst (λ y. IfOk y (λ x. x.wrong + x.turns ≤ g.order + 1)) (sym answer.0) tt
  reads_bound (Some c) r b m (Err f) b' m' answer = tt
  reads_bound (Some c) r b m (Ok x) b' m' (ds, dots, (passed, (p, mended)), kept) =
      omega (arith, mended.wrong, weight_and_turn_count group p x.turns mended.pattern.0.0 mended.turns)

  -- a read that passes its other checks is refused only for want of a pattern
  only_reach : (c : Code) (ds r b m : List ℕ) (f : Fault) → Readable k g c.word ds r (length b) (length m) → Refused (read_checks k g c ds r b m) f → (((p : List ℕ) → Pattern k g c.word c.radius r p → ⊥) × (f ≡ reach_refused))
  only_reach c ds r b m f fit refused = elim refused [
    | inl (fails, _) ↦ absurd (fails fit.received.0)
    | inr (_, inl (fails, _)) ↦ absurd (fails fit.mended_length)
    | inr (_, inr (_, inl (fails, _))) ↦ absurd (fails fit.message_length)
    | inr (_, inr (_, inr (_, inl (i, h, (fails, _), _)))) ↦ absurd (fails (fit.received.1 i (omega (arith, fit.received.0))))
    | inr (_, inr (_, inr (_, inr (_, inl (fails, is))))) ↦ (λ p pattern. fails (p, pattern), is)
    | inr (_, inr (_, inr (_, inr (_, inr (_, none))))) ↦ absurd none
  ]

  module _ (c : Code) (le : Lawful k g.order c.word) (ds r b m : List ℕ) (b' m' : List ℕ) (fit : Readable k g c.word ds r (length b) (length m)) where
    code_word_pattern : Keeps k g c.word r → Pattern k g c.word c.radius r (nought g.order)
    code_word_pattern keeps = nought_is_pattern field group c.word le c.radius r (syndrome_from_keeps field.sums group c.word r le keeps.0 keeps)

    -- a code word is read as it is
    read_unaltered : (x : ReadRecord) (p : List ℕ) → Mended k g c ds r p x b' m' → Keeps k g c.word r → (x.wrong ≡ 0) × (b' ≡ r) × WrittenAs k g c.word ds m' r
    read_unaltered x p mended keeps =
        let none = mended.only (nought g.order) (code_word_pattern keeps) in
        let whole : b' ≡ r = mended.mended ∙ ap (less k g.order r) (sym none) ∙ less_nought field.sums g.order r keeps.0 in
        let message : m' ≡ chosen ds r = mended.message ∙ ap (chosen ds) whole in (
          mended.wrong ∙ ap weight (sym none) ∙ weight_nought g.order,
          whole,
          (keeps, sym message, λ v kv same. same_from_message_dots field.sums g c.word le ds fit.dots v r kv keeps (same ∙ message)),
        )

    mended_law : (x : ReadRecord) (p : List ℕ) → Mended k g c ds r p x b' m' → ReadLaw k g c.word c.radius ds r (Ok x) b' m'
    mended_law x p mended =
        let lr = fit.received in
        let back : p ≡ less k g.order r b' = sym (ap (less k g.order r) mended.mended ∙ less_less field.sums g.order r p lr mended.pattern.0) in
        record {
          refused_without = λ e. let z : ◌≡◌ {A = ℕ} 0 1 = cc in absurd (omega arith);
          without_refused = λ none. absurd (none p mended.pattern);
          takes_off = λ y e. let same : x ≡ y = cc in
              subst (λ q. Pattern k g c.word c.radius r q × (weight q ≡ y.wrong)
              × ((o : List ℕ) → Lawful k g.order o → syndrome k g c.word o ≡ syndrome k g c.word r → o ≢ q → c.radius < weight o)
              × CountsTurns k g q y.turns) back (
                mended.pattern,
                sym mended.wrong ∙ ap (λ z. z.wrong) same,
                λ o lo alike other. elim (cases_lt c.radius (weight o)) [
                  | inl h ↦ h
                  | inr h ↦ absurd (other (mended.only o (lo, h, alike)))
                ],
                subst (λ z. CountsTurns k g p z.turns) same (counts_turns k group p x.turns mended.turns),
              );
          comes_back = λ w j keeps lj near.
              let one = mended.only (less k g.order r (turned g j w)) (turned_mark_pattern field group c.word le c.radius r w j keeps lr lj near) in
              let whole : b' ≡ turned g j w = mended.mended ∙ ap (less k g.order r) (sym one) ∙ turned_mark_back field group c.word le c.radius r w j keeps lr in
              ((x, refl), whole, mended.message ∙ ap (chosen ds) whole);
          undamaged = λ keeps. let (none, whole, written) = read_unaltered x p mended keeps in ((x, refl, none), whole, written);
          gives_back = λ o written. sym (read_unaltered x p mended written.0).2.1 ∙ written.1;
        }

    unreached_law : (f : Fault) → ((p : List ℕ) → Pattern k g c.word c.radius r p → ⊥) → f ≡ reach_refused → ReadLaw k g c.word c.radius ds r (Err f) b' m'
    unreached_law f none is = record {
      refused_without = λ _. none;
      without_refused = λ _. ap Err is;
      takes_off = λ y e. let z : ◌≡◌ {A = ℕ} 0 1 = cc in absurd (omega arith);
      comes_back = λ w j keeps lj near. absurd (none _ (turned_mark_pattern field group c.word le c.radius r w j keeps fit.received lj near));
      undamaged = λ keeps. absurd (none _ (code_word_pattern keeps));
      gives_back = λ o written. absurd (none _ (code_word_pattern written.0));
    }

    read_law : (a : Result ReadRecord Fault) → Reads k g (Some c) r b m a b' m' → ReadLaw k g c.word c.radius ds r a b' m'
    read_law (Ok x) (es, dots, (passed, (p, mended)), kept) =
        mended_law x p (subst (λ l. Mended k g c l r p x b' m') (message_dots_unique k g c.word es ds dots fit.dots) mended)
    read_law (Err f) (es, dots, refused, kept) =
        let (none, is) = only_reach c ds r b m f fit (subst (λ l. Refused (read_checks k g c l r b m) f) (message_dots_unique k g c.word es ds dots fit.dots) refused) in
        unreached_law f none is

  pub reads_lawful : (past : List Call) (o : Option Code) (r b m : List ℕ) (a : Result ReadRecord Fault) (b' m' : List ℕ) → InForce k g past o → Reads k g o r b m a b' m' → ReadsLawfully k g past r (length b) (length m) a b' m'
  reads_lawful past o r b m a b' m' left answer = λ c ds force fit.
      read_law c (passes_lawful k g c.word c.radius (in_force_passes force)) ds r b m b' m' fit a
      (subst (λ x. Reads k g x r b m a b' m') (in_force_unique left force) answer)
