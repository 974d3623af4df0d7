-- What shows that a specimen holds: a certificate, and a test.
--     Certificate s         what the test of s needs: the laws of the field, a basis of the code, or a light code word
--     tests s c             the tests of s with the certificate c
--     holds s c             s holds if they pass
use Rattle.std.proofs.Common.{◌≡◌, ℕ, Bool, true, not, ◌||◌, eqb, ltb, leb, List, [], ◌∷◌, length, Some, sym, refl, ap, ◌∙◌, subst, ap₂, inl, inr, arith}
use Rattle.std.proofs.lemmas.List.{length-map}
use Rattle.std.proofs.lemmas.Bool.{and_parts, eqb-true, eq-eqb, leb-true, ltb-true}
use Rattle.algebra.specs.Fields.{Symbols, SumProductLaws}
use Rattle.algebra.specs.Groups.{Dots}
use Rattle.algebra.specs.Checks.{Refused}
use Rattle.algebra.specs.Refusals.{central_refused, close_refused, idempotent_refused, reach_refused}
use Rattle.algebra.specs.declared.fault.Fault.{Fault}
use Rattle.words.specs.Words.{at, Lawful, less, weight}
use Rattle.codes.specs.GroupCodes.{MessageDots, chosen, rows}
use Rattle.reader.specs.Loads.{Passes, load_checks}
use Rattle.codes.proofs.MessageSymbols.{same_from_message_dots}
use Rattle.fields.specs.SmallFields.{all, all_true, every, every_at}
use Rattle.specimens.specs.Specimens.{Specimen, inverse_is, product_is, dots_product_is, loads, load_refused, writes, reads, read_refused, alike_by, Holds, AllHold}
use Rattle.specimens.proofs.CodeTests.{passes_tests, passes_from, basis_test, found_dots, dots_from, idempotent_refusal_tests, idempotent_refusal, central_refusal_tests, central_refusal, close_refusal_tests, close_refusal}
use Rattle.specimens.proofs.ReadTests.{pattern_tests, pattern_from, none_at, none_from, only_at, only_from, turn_tests, turns_from, least_turn_tests, least_turn_from}
use Rattle.specimens.proofs.WordTests.{same, same_true, implied, every_light, lawful_test, lawful_from, keeps_test, keeps_from}

-- the laws of the field, and a basis of the code
pub record Basis (k : Symbols) : Type 0 where
  pub laws : SumProductLaws k
  pub words : List (List ℕ)

-- the check that refuses a load, with the dot or the code word that shows it
pub data Refusal (fault : Fault) : Type 0 where
  not_idempotent : (d : ℕ) → fault ≡ idempotent_refused d → Refusal fault
  not_central : (d : ℕ) → fault ≡ central_refused d → Refusal fault
  too_close : (w : List ℕ) → fault ≡ close_refused → Refusal fault

abbrev pub Certificate : Specimen → Type 0
Certificate (inverse_is k a b) = k.inverse a ≡ Some b
Certificate (product_is k a b c) = Unit {0}
Certificate (dots_product_is g a b c) = Unit {0}
Certificate (loads k g e t dots rs) = Basis k
Certificate (load_refused k g e t fault) = Refusal fault
Certificate (writes k g e t message mark) = Basis k
Certificate (reads k g e t received mended message wrong turns) = Basis k
Certificate (read_refused k g e t received dots fault) = Basis k × (fault ≡ reach_refused)
Certificate (alike_by k g u v turn) = Unit {0}

module _ (k : Symbols) (g : Dots) (e : List ℕ) (t : ℕ) where
  abbrev pub refusal_tests : {fault : Fault} → Refusal fault → List Bool
  refusal_tests (not_idempotent d s) = idempotent_refusal_tests k g e t d
  refusal_tests (not_central d s) = central_refusal_tests k g e t d
  refusal_tests (too_close w s) = close_refusal_tests k g e t w

  refused_from : {fault : Fault} (c : Refusal fault) → all (refusal_tests c) ≡ true → Refused (load_checks k g e t) fault
  refused_from (not_idempotent d s) h = subst (Refused (load_checks k g e t)) (sym s) (idempotent_refusal k g e t d h)
  refused_from (not_central d s) h = subst (Refused (load_checks k g e t)) (sym s) (central_refusal k g e t d h)
  refused_from (too_close w s) h = subst (Refused (load_checks k g e t)) (sym s) (close_refusal k g e t w h)

  -- the code with its basis
  abbrev pub code_tests : Basis k → List Bool
  code_tests c = all (passes_tests k g e t) ∷ basis_test k g e c.words ∷ []

  code_from : (c : Basis k) → all (code_tests c) ≡ true → Lawful k g.order e × Passes k g e t × MessageDots k g e (found_dots k g e c.words)
  code_from c h =
      let (passed, (basis, _)) = all_true (code_tests c) h in
      let passes = passes_from k g e t passed in
      let le : Lawful k g.order e = (passes.0, λ d l. passes.1.0 d (omega (arith, passes.0))) in
      (le, passes, dots_from k g e c.words c.laws le basis)

  abbrev pub write_tests : Basis k → List ℕ → List ℕ → List Bool
  write_tests c message mark =
      all (code_tests c) ∷ keeps_test k g e mark ∷ same (chosen (found_dots k g e c.words) mark) message
      ∷ every (length message) (λ i. ltb (at message i) k.order) ∷ []

  writes_from : (c : Basis k) (message mark : List ℕ) → all (write_tests c message mark) ≡ true → Holds (writes k g e t message mark)
  writes_from c message mark h =
      let (passed, (keeps, (marked, (below, _)))) = all_true (write_tests c message mark) h in
      let (le, passes, dots) = code_from c passed in
      let ds = found_dots k g e c.words in
      let is : chosen ds mark ≡ message = same_true _ _ marked in
      let kept = keeps_from k g e mark keeps in (
        passes,
        λ w l. (
          ds,
          dots,
          (
            (sym (ap length is) ∙ length-map ds (at mark), (l, ((λ i li. ltb-true _ _ (every_at (λ i. ltb (at message i) k.order) (length message) i below li)), tt))),
            (kept, is, λ v kv alike. same_from_message_dots c.laws g e le ds dots v mark kv kept (alike ∙ sym is)),
          ),
          tt,
        ),
      )

  abbrev pub read_tests : Basis k → (r mended message p : List ℕ) (wrong turns : ℕ) → List Bool
  read_tests c r mended message p wrong turns =
      all (code_tests c) ∷ lawful_test k g r ∷ all (pattern_tests k g e t r p) ∷ every_light k.order g.order t (only_at k g e t r p)
      ∷ eqb wrong (weight p) ∷ all (turn_tests g p turns) ∷ same mended (less k g.order r p) ∷ same message (chosen (found_dots k g e c.words) mended)
      ∷ leb wrong 3 ∷ (not (eqb wrong 0) || eqb turns 0) ∷ (not (eqb turns 0) || eqb wrong 0) ∷ []

  reads_from : (c : Basis k) (r mended message p : List ℕ) (wrong turns : ℕ) → all (read_tests c r mended message p wrong turns) ≡ true → Holds (reads k g e t r mended message wrong turns)
  reads_from c r mended message p wrong turns h =
      let (passed, (received, (found, (only, (weighs, (count, (mends, (tells, (few, (none-wrong, (none-turned, _))))))))))) = all_true (read_tests c r mended message p wrong turns) h in
      let (le, passes, dots) = code_from c passed in
      let ds = found_dots k g e c.words in
      let lr = lawful_from k g r received in
      let pattern = pattern_from k g e t r p found in
      let told : message ≡ chosen ds mended = same_true _ _ tells in (
        passes,
        λ b m lb lm. (
          record {
            wrong = wrong;
            turns = turns;
            few = leb-true _ _ few;
            none_wrong = λ z. eqb-true _ _ (implied _ _ none-wrong (eq-eqb _ _ z));
            none_turned = λ z. eqb-true _ _ (implied _ _ none-turned (eq-eqb _ _ z));
          },
          refl,
          refl,
          (
            ds,
            dots,
            (
              (lr.0, (lb, (lm ∙ ap length told ∙ length-map ds (at mended), ((λ i l. lr.1 i (omega (arith, lr.0))), ((p, pattern), tt))))),
              (
                p,
                record {
                  pattern = pattern;
                  only = only_from k g e t r p only;
                  wrong = eqb-true _ _ weighs;
                  turns = turns_from g p turns count;
                  mended = same_true _ _ mends;
                  message = told;
                },
              ),
            ),
            tt,
          ),
        ),
      )

  abbrev pub unread_tests : Basis k → List ℕ → ℕ → List Bool
  unread_tests c r dots =
      all (code_tests c) ∷ lawful_test k g r ∷ eqb dots (length (found_dots k g e c.words)) ∷ every_light k.order g.order t (none_at k g e t r) ∷ []

  unread_from : (c : Basis k) (r : List ℕ) (dots : ℕ) → all (unread_tests c r dots) ≡ true → Holds (read_refused k g e t r dots reach_refused)
  unread_from c r dots h =
      let (passed, (received, (many, (none, _)))) = all_true (unread_tests c r dots) h in
      let (le, passes, listed) = code_from c passed in
      let lr = lawful_from k g r received in (
        passes,
        λ b m lb lm. (
          found_dots k g e c.words,
          listed,
          inr (lr.0, inr (lb, inr (lm ∙ eqb-true _ _ many, inr ((λ i l. lr.1 i (omega (arith, lr.0))), inl ((λ (p, pattern). none_from k g e t r none p pattern), refl))))),
          (refl, refl),
        ),
      )

abbrev pub tests : (s : Specimen) → Certificate s → List Bool
tests (inverse_is k a b) c = []
tests (product_is k a b x) c = eqb (k.product a b) x ∷ []
tests (dots_product_is g a b x) c = eqb (g.product a b) x ∷ []
tests (loads k g e t dots rs) c = all (code_tests k g e t c) ∷ eqb dots (length (found_dots k g e c.words)) ∷ eqb rs (rows g.order k.order t) ∷ []
tests (load_refused k g e t fault) c = refusal_tests k g e t c
tests (writes k g e t message mark) c = write_tests k g e t c message mark
tests (reads k g e t r mended message wrong turns) c = read_tests k g e t c r mended message (less k g.order r mended) wrong turns
tests (read_refused k g e t r dots fault) c = unread_tests k g e t c.0 r dots
tests (alike_by k g u v turn) c = lawful_test k g u ∷ lawful_test k g v ∷ all (least_turn_tests g u v turn) ∷ []

pub holds : (s : Specimen) (c : Certificate s) → all (tests s c) ≡ true → Holds s
holds (inverse_is k a b) c h = c
holds (product_is k a b x) c h = eqb-true _ _ (all_true (eqb (k.product a b) x ∷ []) h).0
holds (dots_product_is g a b x) c h = eqb-true _ _ (all_true (eqb (g.product a b) x ∷ []) h).0
holds (loads k g e t dots rs) c h =
    let (passed, (many, (long, _))) = all_true (tests (loads k g e t dots rs) c) h in
    let (le, passes, listed) = code_from k g e t c passed in
    (passes, (found_dots k g e c.words, listed, ap₂ (λ x y. (x, y)) (eqb-true _ _ many) (eqb-true _ _ long)))
holds (load_refused k g e t fault) c h = refused_from k g e t c h
holds (writes k g e t message mark) c h = writes_from k g e t c message mark h
holds (reads k g e t r mended message wrong turns) c h = reads_from k g e t c r mended message (less k g.order r mended) wrong turns h
holds (read_refused k g e t r dots fault) c h = subst (λ f. Holds (read_refused k g e t r dots f)) (sym c.1) (unread_from k g e t c.0 r dots h)
holds (alike_by k g u v turn) c h =
    let (first, (second, (least, _))) = all_true (tests (alike_by k g u v turn) c) h in
    let lu = lawful_from k g u first in
    let lv = lawful_from k g v second in
    ((lu.0, (lv.0, ((λ i l. lu.1 i (omega (arith, lu.0))), ((λ i l. lv.1 i (omega (arith, lv.0))), tt)))), least_turn_from g u v lu.0 lv.0 turn least)

abbrev pub Certificates : List Specimen → Type 0
Certificates [] = Unit {0}
Certificates (s ∷ ss) = Certificate s × Certificates ss

abbrev pub all_tests : (ss : List Specimen) → Certificates ss → List Bool
all_tests [] c = []
all_tests (s ∷ ss) c = all (tests s c.0) ∷ all_tests ss c.1

pub all_hold : (ss : List Specimen) (c : Certificates ss) → all (all_tests ss c) ≡ true → AllHold ss
all_hold [] c h = tt
all_hold (s ∷ ss) c h = let (here, rest) = and_parts (all (tests s c.0)) (all (all_tests ss c.1)) h in (holds s c.0 here, all_hold ss c.1 rest)
