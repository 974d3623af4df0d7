-- Tests of writes, of reads and of comparisons, and what they show.
--     only_at p r w         w is p, or has not the syndrome of r
--     turn_tests p c        c is the count of turns of p
--     least_turn_tests o    o is the least dot by which u turns into v
use Rattle.std.proofs.Common.{◌≡◌, ℕ, zero, suc, Bool, true, not, ◌&&◌, ◌||◌, eqb, ltb, leb, List, [], ◌∷◌, length, Some, None, Option, ◌∙◌, ⊎_elim, arith}
use Rattle.std.proofs.lemmas.List.{get_or_default}
use Rattle.std.proofs.lemmas.Bool.{and_parts, or_cases, both_ways, not-true, eqb-true, eq-eqb, leb-true, ltb-true}
use Rattle.algebra.specs.Fields.{Symbols}
use Rattle.algebra.specs.Groups.{Dots}
use Rattle.words.specs.Turns.{LeastTurn, Turned}
use Rattle.words.specs.Words.{at, nought, syndrome, turned, weight}
use Rattle.codes.specs.GroupCodes.{Pattern, TurnCount}
use Rattle.fields.specs.SmallFields.{all, all_true, every, every_at}
use Rattle.specimens.proofs.WordTests.{same, same_true, same_false, eqb_not, every_from, every_light, light_at, lawful_test, lawful_from}

module _ (k : Symbols) (g : Dots) (e : List ℕ) (t : ℕ) (r : List ℕ) where
  abbrev pub pattern_tests : List ℕ → List Bool
  pattern_tests p = lawful_test k g p ∷ leb (weight p) t ∷ same (syndrome k g e p) (syndrome k g e r) ∷ []

  pub pattern_from : (p : List ℕ) → all (pattern_tests p) ≡ true → Pattern k g e t r p
  pattern_from p h =
      let (lawful, (light, (alike, _))) = all_true (pattern_tests p) h in
      (lawful_from k g p lawful, leb-true _ _ light, same_true _ _ alike)

  abbrev pub none_at : List ℕ → Bool
  none_at o = not (same (syndrome k g e o) (syndrome k g e r))

  pub none_from : every_light k.order g.order t none_at ≡ true → (o : List ℕ) → Pattern k g e t r o → ⊥
  none_from h o pattern =
      same_false _ _ (light_at k.order g.order t none_at h o pattern.0.0 pattern.0.1 pattern.1) pattern.2

  abbrev pub only_at : List ℕ → List ℕ → Bool
  only_at p o = same o p || none_at o

  pub only_from : (p : List ℕ) → every_light k.order g.order t (only_at p) ≡ true → (o : List ℕ) → Pattern k g e t r o → o ≡ p
  only_from p h o pattern =
      ⊎_elim (λ s. same_true o p s) (λ s. absurd (same_false _ _ s pattern.2))
      (or_cases _ _ (light_at k.order g.order t (only_at p) h o pattern.0.0 pattern.0.1 pattern.1))

module _ (g : Dots) (p : List ℕ) where
  abbrev pub turn_tests : ℕ → List Bool
  turn_tests zero = same p (nought g.order) ∷ []
  turn_tests (suc j) = ltb j g.order ∷ not (eqb (at (turned g j p) 0) 0) ∷ every j (λ i. eqb (at (turned g i p) 0) 0) ∷ []

  pub turns_from : (c : ℕ) → all (turn_tests c) ≡ true → TurnCount g p c
  turns_from zero h = same_true _ _ (all_true (turn_tests zero) h).0
  turns_from (suc j) h =
      let (below, (here, (before, _))) = all_true (turn_tests (suc j)) h in
      (ltb-true _ _ below, eqb_not _ _ here, λ i l. eqb-true _ _ (every_at (λ i. eqb (at (turned g i p) 0) 0) j i before l))

module _ (g : Dots) (u v : List ℕ) where
  abbrev pub hangs_at : ℕ → ℕ → Bool
  hangs_at j h = eqb (at v (g.product j h)) (at u h)

  abbrev pub turned_by : ℕ → Bool
  turned_by j = every g.order (λ h. ltb (g.product j h) g.order && hangs_at j h)

  turned_from : length u ≡ g.order → length v ≡ g.order → (j : ℕ) → turned_by j ≡ true → Turned g j u v
  turned_from lu lv j passed h d l =
      let (below, alike) = and_parts (ltb (g.product j h) g.order) (hangs_at j h) (every_at (λ h. ltb (g.product j h) g.order && hangs_at j h) g.order h passed l) in
      get_or_default v (g.product j h) d 0 (omega (arith, ltb-true _ _ below)) ∙ eqb-true _ _ alike ∙ get_or_default u h 0 d (omega arith)

  abbrev pub not_turned_by : ℕ → Bool
  not_turned_by j = not (every g.order (hangs_at j))

  not_turned : (j : ℕ) → not_turned_by j ≡ true → Turned g j u v → ⊥
  not_turned j failed turn = both_ways _ (not-true _ failed) (every_from _ g.order (λ h l. eq-eqb _ _ (turn h 0 l)))

  abbrev pub least_turn_tests : Option ℕ → List Bool
  least_turn_tests None = every g.order not_turned_by ∷ []
  least_turn_tests (Some j) = ltb j g.order ∷ turned_by j ∷ every j not_turned_by ∷ []

  pub least_turn_from : length u ≡ g.order → length v ≡ g.order → (o : Option ℕ) → all (least_turn_tests o) ≡ true → LeastTurn g u v o
  least_turn_from lu lv None h =
      λ j l. not_turned j (every_at not_turned_by g.order j (all_true (least_turn_tests None) h).0 l)
  least_turn_from lu lv (Some j) h =
      let (below, (here, (before, _))) = all_true (least_turn_tests (Some j)) h in
      (ltb-true _ _ below, turned_from lu lv j here, λ i l. not_turned i (every_at not_turned_by j i before l))
