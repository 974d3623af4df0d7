-- Code words: sums, differences and multiples of code words are code words.
use Rattle.std.proofs.Common.{ℕ, ◌<◌, List, ap, ◌∙◌, ap₂}
use Rattle.algebra.specs.Fields.{Symbols, SumProductLaws}
use Rattle.algebra.specs.Groups.{Dots}
use Rattle.words.specs.Words.{Lawful, nought, plus, less, scaled, Keeps}
use Rattle.words.proofs.Linear.{nought_lawful, plus_lawful, less_lawful, scaled_lawful, plus_times, scaled_times, less_times, nought_times}

module _ {k : Symbols} (laws : SumProductLaws k) (g : Dots) (e : List ℕ) (le : Lawful k g.order e) where
  pub nought_keeps : Keeps k g e (nought g.order)
  nought_keeps = (nought_lawful laws g.order, nought_times laws g e le)

  pub plus_keeps : (u v : List ℕ) → Keeps k g e u → Keeps k g e v → Keeps k g e (plus k g.order u v)
  plus_keeps u v cu cv = (plus_lawful laws g.order u v, plus_times laws g u v e cu.0 cv.0 le ∙ ap₂ (plus k g.order) cu.1 cv.1)

  pub less_keeps : (u v : List ℕ) → Keeps k g e u → Keeps k g e v → Keeps k g e (less k g.order u v)
  less_keeps u v cu cv = (less_lawful laws g.order u v, less_times laws g u v e cu.0 cv.0 le ∙ ap₂ (less k g.order) cu.1 cv.1)

  pub scaled_keeps : (a : ℕ) (w : List ℕ) → a < k.order → Keeps k g e w → Keeps k g e (scaled k g.order a w)
  scaled_keeps a w la c = (scaled_lawful laws g.order a w, scaled_times laws g a w e la c.0 le ∙ ap (scaled k g.order a) c.1)
