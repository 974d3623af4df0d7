-- Tests of a code with the word e and the radius t, over a field k and a group g, and what they show.
--     passes_tests t        e and t pass the checks of a load
--     basis_test bs         bs has a word for each message dot, and the empty word for the others: a reduced basis of the code
--     found_dots bs         the message dots of such a basis
use Rattle.std.proofs.Common.{◌≡◌, ℕ, ◌*◌, ◌<◌, Bool, true, not, ◌&&◌, ◌||◌, eqb, ltb, leb, List, [], ◌∷◌, get_or, refl, inl, inr, ⊎_elim, arith}
use Rattle.std.proofs.lemmas.Bool.{and_from, and_parts, or_cases, eqb-true, leb-true, ltb-true, ne_eqb, not_from_false}
use Rattle.algebra.specs.Checks.{Refused, asked, each}
use Rattle.algebra.specs.Fields.{Symbols, SumProductLaws}
use Rattle.algebra.specs.Groups.{Dots}
use Rattle.algebra.specs.Refusals.{central_refused, close_refused, idempotent_refused}
use Rattle.algebra.specs.declared.fault.Fault.{Fault}
use Rattle.words.specs.Words.{at, times, Lawful, nought, turned, unit, weight}
use Rattle.codes.specs.Eliminations.{Reduced, pivots, residual}
use Rattle.codes.specs.GroupCodes.{MessageDots, TooClose, rows}
use Rattle.reader.specs.Loads.{Commutes, Passes, central_check, idempotent_check, load_checks}
use Rattle.codes.proofs.MessageWords.{pivots_are_message_dots}
use Rattle.fields.specs.SmallFields.{AllTrue, all, all_true, every, every_at}
use Rattle.specimens.proofs.WordTests.{same, same_true, same_false, eqb_not, implied, every_light, light_at, lawful_test, lawful_from, keeps_test, keeps_from}

-- the first number at which a check of numbers fails, by a test
each_refuses : (n : ℕ) (P : ℕ → Type 0) (f : ℕ → Fault) (p : ℕ → Bool) → ((i : ℕ) → p i ≡ true → P i) → ((i : ℕ) → not (p i) ≡ true → P i → ⊥) → (i : ℕ) → all (ltb i n ∷ not (p i) ∷ every i p ∷ []) ≡ true → (each n P f).refuses (f i)
each_refuses n P f p passes fails i h =
    let (below, (here, (before, _))) = all_true (ltb i n ∷ not (p i) ∷ every i p ∷ []) h in
    (i, ltb-true i n below, (fails i here, λ j l. passes j (every_at p i j before l)), refl)

module _ (k : Symbols) (g : Dots) (e : List ℕ) where
  abbrev pub idempotent_at : ℕ → Bool
  idempotent_at d = eqb (at (times k g e e) d) (at e d)

  abbrev pub central_at : ℕ → Bool
  central_at d = same (times k g (unit g.order d) e) (times k g e (unit g.order d))

  central_from : (d : ℕ) → central_at d ≡ true → Commutes k g e d
  central_from d h = same_true _ _ h

  abbrev pub shape_tests : ℕ → List Bool
  shape_tests t = lawful_test k g e ∷ leb t 3 ∷ leb (rows g.order k.order t) 4096 ∷ []

  abbrev pub apart_at : List ℕ → Bool
  apart_at w = same w (nought g.order) || not (same (times k g w e) w)

  abbrev pub passes_tests : ℕ → List Bool
  passes_tests t =
      all (shape_tests t) ∷ every g.order idempotent_at ∷ every g.order central_at ∷ every_light k.order g.order (2 * t) apart_at ∷ []

  module _ (t : ℕ) where
    apart_from : every_light k.order g.order (2 * t) apart_at ≡ true → TooClose k g e t → ⊥
    apart_from h (w, keeps, other, light) =
        ⊎_elim (λ s. other (same_true _ _ s)) (λ s. same_false _ _ s keeps.1)
        (or_cases _ _ (light_at k.order g.order (2 * t) apart_at h w keeps.0.0 keeps.0.1 light))

    pub passes_from : all (passes_tests t) ≡ true → Passes k g e t
    passes_from h =
        let (shape, (idempotent, (central, (apart, _)))) = all_true (passes_tests t) h in
        let (lawful, (radius, (book, _))) = all_true (shape_tests t) shape in
        let le = lawful_from k g e lawful in (
          le.0,
          (
            (λ i l. le.1 i (omega (arith, le.0))),
            (
              leb-true _ _ radius,
              (
                leb-true _ _ book,
                (
                  (λ d l. eqb-true _ _ (every_at idempotent_at g.order d idempotent l)),
                  ((λ d l. central_from d (every_at central_at g.order d central l)), (apart_from apart, tt)),
                ),
              ),
            ),
          ),
        )

    refused_from : all (shape_tests t) ≡ true → (f : Fault) → Refused (idempotent_check k g e ∷ central_check k g e ∷ asked (TooClose k g e t → ⊥) close_refused ∷ []) f → Refused (load_checks k g e t) f
    refused_from shape f refused =
        let (lawful, (radius, (book, _))) = all_true (shape_tests t) shape in
        let le = lawful_from k g e lawful in
        inr (le.0, inr ((λ i l. le.1 i (omega (arith, le.0))), inr (leb-true _ _ radius, inr (leb-true _ _ book, refused))))

    abbrev pub idempotent_refusal_tests : ℕ → List Bool
    idempotent_refusal_tests d = all (shape_tests t) ∷ all (ltb d g.order ∷ not (idempotent_at d) ∷ every d idempotent_at ∷ []) ∷ []

    pub idempotent_refusal : (d : ℕ) → all (idempotent_refusal_tests d) ≡ true → Refused (load_checks k g e t) (idempotent_refused d)
    idempotent_refusal d h =
        let (shape, (first, _)) = all_true (idempotent_refusal_tests d) h in
        refused_from shape (idempotent_refused d) (inl (each_refuses g.order _ idempotent_refused idempotent_at (λ i s. eqb-true _ _ s) (λ i s. eqb_not _ _ s) d first))

    abbrev pub central_refusal_tests : ℕ → List Bool
    central_refusal_tests d =
        all (shape_tests t) ∷ every g.order idempotent_at ∷ all (ltb d g.order ∷ not (central_at d) ∷ every d central_at ∷ []) ∷ []

    pub central_refusal : (d : ℕ) → all (central_refusal_tests d) ≡ true → Refused (load_checks k g e t) (central_refused d)
    central_refusal d h =
        let (shape, (idempotent, (first, _))) = all_true (central_refusal_tests d) h in
        refused_from shape (central_refused d) (inr (
          (λ i l. eqb-true _ _ (every_at idempotent_at g.order i idempotent l)),
          inl (each_refuses g.order (Commutes k g e) central_refused central_at central_from (λ i s. same_false _ _ s) d first),
        ))

    -- w is a light code word
    abbrev pub close_refusal_tests : List ℕ → List Bool
    close_refusal_tests w =
        all (shape_tests t) ∷ every g.order idempotent_at ∷ every g.order central_at
        ∷ keeps_test k g e w ∷ not (same w (nought g.order)) ∷ leb (weight w) (2 * t) ∷ []

    pub close_refusal : (w : List ℕ) → all (close_refusal_tests w) ≡ true → Refused (load_checks k g e t) close_refused
    close_refusal w h =
        let (shape, (idempotent, (central, (keeps, (other, (light, _)))))) = all_true (close_refusal_tests w) h in
        refused_from shape close_refused (inr (
          (λ i l. eqb-true _ _ (every_at idempotent_at g.order i idempotent l)),
          inr (
            (λ d l. central_from d (every_at central_at g.order d central l)),
            inl ((λ apart. apart (w, keeps_from k g e w keeps, same_false _ _ other, leb-true _ _ light)), refl),
          ),
        ))

  module _ (bs : List (List ℕ)) where
    abbrev pub pivot : ℕ → Bool
    pivot d = not (same (get_or bs d []) [])

    abbrev pub basis_word : ℕ → List ℕ
    basis_word d = get_or bs d []

    abbrev pub found_dots : List ℕ
    found_dots = pivots g.order pivot

    abbrev pub reduced_tests : ℕ → List Bool
    reduced_tests d =
        keeps_test k g e (basis_word d) ∷ eqb (at (basis_word d) d) 1 ∷ every d (λ x. eqb (at (basis_word d) x) 0)
        ∷ every g.order (λ x. not (pivot x && not (eqb x d)) || eqb (at (basis_word d) x) 0) ∷ []

    abbrev pub reduced_at : ℕ → Bool
    reduced_at d = not (pivot d) || all (reduced_tests d)

    abbrev pub spans_at : ℕ → Bool
    spans_at j = same (residual k g.order pivot basis_word (turned g j e)) (nought g.order)

    abbrev pub basis_test : Bool
    basis_test = every g.order reduced_at && every g.order spans_at

    reduced_from : every g.order reduced_at ≡ true → Reduced k g e pivot basis_word
    reduced_from h = record {
      keeps = λ d l p. keeps_from k g e (basis_word d) (tests d l p).0;
      one_here = λ d l p. eqb-true _ _ (tests d l p).1.0;
      zero_before = λ d l p x lx. eqb-true _ _ (every_at (λ x. eqb (at (basis_word d) x) 0) d x (tests d l p).1.1.0 lx);
      zero_at_pivots = λ d l p x lx px ne.
          eqb-true _ _ (implied (pivot x && not (eqb x d)) _ (every_at (λ x. not (pivot x && not (eqb x d)) || eqb (at (basis_word d) x) 0) g.order x (tests d l p).1.1.1.0 lx) (and_from _ _ px (not_from_false _ (ne_eqb x d ne))));
    }
      where
        tests : (d : ℕ) → d < g.order → pivot d ≡ true → AllTrue (reduced_tests d)
        tests d l p = all_true (reduced_tests d) (implied (pivot d) _ (every_at reduced_at g.order d h l) p)

    pub dots_from : SumProductLaws k → Lawful k g.order e → basis_test ≡ true → MessageDots k g e found_dots
    dots_from laws le h =
        let (reduced, spans) = and_parts _ _ h in
        pivots_are_message_dots laws le (reduced_from reduced) (λ j l. same_true _ _ (every_at spans_at g.order j spans l))
