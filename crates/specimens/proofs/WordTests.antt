-- Tests of words, and what they show.
--     same u v              u and v are the same word
--     every_light q n t p   p passes at each word of n symbols below q of weight at most t
use Rattle.std.proofs.Common.{◌≡◌, ℕ, zero, suc, ◌+◌, ◌-◌, ◌<◌, ◌≤◌, Bool, true, false, cond, not, ◌&&◌, ◌||◌, eqb, ltb, ◌≢◌, List, [], ◌∷◌, length, sym, refl, ap, ◌∙◌, ap₂, arith}
use Rattle.std.proofs.lemmas.Bool.{and_from, and_parts, both_ways, eqb-true, eqb-false, eq-eqb, ne_eqb, not-true, ltb-true}
use Rattle.algebra.specs.Fields.{Symbols}
use Rattle.algebra.specs.Groups.{Dots}
use Rattle.words.specs.Words.{at, times, Lawful, Keeps, weight}
use Rattle.fields.specs.SmallFields.{every, every_at}

abbrev pub same : List ℕ → List ℕ → Bool
same [] [] = true
same [] (y ∷ v) = false
same (x ∷ u) [] = false
same (x ∷ u) (y ∷ v) = eqb x y && same u v

pub same_true : (u v : List ℕ) → same u v ≡ true → u ≡ v
same_true [] [] h = refl
same_true [] (y ∷ v) h = absurd (both_ways false refl h)
same_true (x ∷ u) [] h = absurd (both_ways false refl h)
same_true (x ∷ u) (y ∷ v) h = let (p, q) = and_parts (eqb x y) (same u v) h in ap₂ ◌∷◌ (eqb-true x y p) (same_true u v q)

same_self : (u : List ℕ) → same u u ≡ true
same_self [] = refl
same_self (x ∷ u) = rw (eq-eqb x x refl) (same_self u)

pub same_false : (u v : List ℕ) → not (same u v) ≡ true → u ≢ v
same_false u v h s = both_ways (same u v) (not-true (same u v) h) (ap (same u) (sym s) ∙ same_self u)

pub eqb_not : (a b : ℕ) → not (eqb a b) ≡ true → a ≢ b
eqb_not a b h = eqb-false a b (not-true (eqb a b) h)

-- the test of b where a passes
pub implied : (a b : Bool) → (not a || b) ≡ true → a ≡ true → b ≡ true
implied true b h p = h
implied false b h p = absurd (both_ways false refl p)

-- the test of p at each word
abbrev pub every_light : ℕ → ℕ → ℕ → (List ℕ → Bool) → Bool
every_light q zero t p = p []
every_light q (suc n) zero p = every_light q n zero (λ w. p (0 ∷ w))
every_light q (suc n) (suc t) p = every_light q n (suc t) (λ w. p (0 ∷ w)) && every (q - 1) (λ s. every_light q n t (λ w. p (suc s ∷ w)))

weight_more : (x : ℕ) (w : List ℕ) → weight (suc x ∷ w) ≡ 1 + weight w
unfolding weight
weight_more x w = ap (λ b. cond b 0 1 + weight w) (ne_eqb (suc x) 0 (λ s. omega arith))

pub light_at : (q n t : ℕ) (p : List ℕ → Bool) → every_light q n t p ≡ true → (w : List ℕ) → length w ≡ n → ((d : ℕ) → d < n → at w d < q) → weight w ≤ t → p w ≡ true
unfolding weight
light_at q zero t p h [] l below light = h
light_at q zero t p h (x ∷ w) l below light = absurd (omega arith)
light_at q (suc n) t p h [] l below light = absurd (omega arith)
light_at q (suc n) zero p h (zero ∷ w) l below light = light_at q n zero (λ v. p (0 ∷ v)) h w (omega arith) (λ d hd. below (suc d) (omega arith)) (omega arith)
light_at q (suc n) zero p h (suc x ∷ w) l below light = absurd (omega (arith, weight_more x w))
light_at q (suc n) (suc t) p h (zero ∷ w) l below light =
    light_at q n (suc t) (λ v. p (0 ∷ v)) (and_parts _ _ h).0 w (omega arith) (λ d hd. below (suc d) (omega arith)) (omega arith)
light_at q (suc n) (suc t) p h (suc x ∷ w) l below light =
    light_at q n t (λ v. p (suc x ∷ v)) (every_at _ (q - 1) x (and_parts _ _ h).1 (omega (arith, below 0 (omega arith)))) w (omega arith) (λ d hd. below (suc d) (omega arith)) (omega (arith, weight_more x w))

pub every_from : (p : ℕ → Bool) (n : ℕ) → ((i : ℕ) → i < n → p i ≡ true) → every n p ≡ true
every_from p zero h = refl
every_from p (suc n) h = and_from (p n) (every n p) (h n (omega arith)) (every_from p n (λ i l. h i (omega arith)))

module _ (k : Symbols) (g : Dots) where
  abbrev pub lawful_test : List ℕ → Bool
  lawful_test w = eqb (length w) g.order && every g.order (λ d. ltb (at w d) k.order)

  pub lawful_from : (w : List ℕ) → lawful_test w ≡ true → Lawful k g.order w
  lawful_from w h =
      let (l, below) = and_parts _ _ h in
      (eqb-true _ _ l, λ d hd. ltb-true _ _ (every_at (λ d. ltb (at w d) k.order) g.order d below hd))

  abbrev pub keeps_test : List ℕ → List ℕ → Bool
  keeps_test e w = lawful_test w && same (times k g w e) w

  pub keeps_from : (e w : List ℕ) → keeps_test e w ≡ true → Keeps k g e w
  keeps_from e w h = let (l, s) = and_parts (lawful_test w) (same (times k g w e) w) h in (lawful_from w l, same_true _ _ s)
