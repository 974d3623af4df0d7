-- The chief laws of words over a field k and a group g.
--     AlgebraLaws k g       products and syndromes are linear, one is neutral, the syndrome is nought exactly of the code words,
--                           turning follows the group and commutes with products, and turning and scaling keep weights
use Rattle.std.specs.Prelude.{◌≡◌, ℕ, ◌<◌, ◌≢◌, List}
use Rattle.algebra.specs.Fields.{Symbols}
use Rattle.algebra.specs.Groups.{Dots}
use Rattle.words.specs.Words.{Lawful, nought, one, plus, scaled, times, turned, weight, Keeps, syndrome}

pub record AlgebraLaws (k : Symbols) (g : Dots) : Type 0 where
  pub plus_times : (u v w : List ℕ) → Lawful k g.order u → Lawful k g.order v → Lawful k g.order w → times k g (plus k g.order u v) w ≡ plus k g.order (times k g u w) (times k g v w)
  pub scaled_times : (a : ℕ) (u w : List ℕ) → a < k.order → Lawful k g.order u → Lawful k g.order w → times k g (scaled k g.order a u) w ≡ scaled k g.order a (times k g u w)
  pub times_one : (w : List ℕ) → Lawful k g.order w → times k g w (one g.order) ≡ w
  pub one_times : (w : List ℕ) → Lawful k g.order w → times k g (one g.order) w ≡ w
  pub syndrome_plus : (e u v : List ℕ) → Lawful k g.order e → Lawful k g.order u → Lawful k g.order v → syndrome k g e (plus k g.order u v) ≡ plus k g.order (syndrome k g e u) (syndrome k g e v)
  pub syndrome_scaled : (e : List ℕ) (a : ℕ) (w : List ℕ) → Lawful k g.order e → a < k.order → Lawful k g.order w → syndrome k g e (scaled k g.order a w) ≡ scaled k g.order a (syndrome k g e w)
  pub syndrome_nought : (e w : List ℕ) → Lawful k g.order e → Lawful k g.order w → (syndrome k g e w ≡ nought g.order → Keeps k g e w) × (Keeps k g e w → syndrome k g e w ≡ nought g.order)
  pub turned_times : (j : ℕ) (u v : List ℕ) → j < g.order → Lawful k g.order u → Lawful k g.order v → times k g (turned g j u) v ≡ turned g j (times k g u v)
  pub turned_turned : (i j : ℕ) (w : List ℕ) → i < g.order → j < g.order → Lawful k g.order w → turned g j (turned g i w) ≡ turned g (g.product j i) w
  pub turned_back : (j : ℕ) (w : List ℕ) → j < g.order → Lawful k g.order w → turned g (g.inverse j) (turned g j w) ≡ w
  pub turned_lawful : (j : ℕ) (w : List ℕ) → j < g.order → Lawful k g.order w → Lawful k g.order (turned g j w)
  pub turned_weight : (j : ℕ) (w : List ℕ) → j < g.order → Lawful k g.order w → weight (turned g j w) ≡ weight w
  pub scaled_weight : (a : ℕ) (w : List ℕ) → a < k.order → a ≢ 0 → Lawful k g.order w → weight (scaled k g.order a w) ≡ weight w
  pub scaled_back : (a b : ℕ) (w : List ℕ) → a < k.order → b < k.order → k.product a b ≡ 1 → Lawful k g.order w → scaled k g.order b (scaled k g.order a w) ≡ w
