-- A product is spanned by the turns of its right word: w times e is the sum, over the dots h, of e turned by h, scaled by w at h.
use Rattle.std.proofs.Common.{◌≡◌, ℕ, ◌<◌, List, sym, ap, ◌∙◌}
use Rattle.algebra.specs.Fields.{Symbols}
use Rattle.algebra.specs.Groups.{Dots}
use Rattle.words.specs.Words.{at, total, times, turned, Keeps}
use Rattle.words.proofs.Totals.{total_cong}
use Rattle.words.proofs.Linear.{term, at_times, at_turned}

pub at_times_turned : (k : Symbols) (g : Dots) (w e : List ℕ) (x : ℕ) → x < g.order → at (times k g w e) x ≡ total k (λ h. k.product (at w h) (at (turned g h e) x)) g.order
at_times_turned k g w e x lx =
    at_times k g w e x lx ∙ total_cong k (term k g w e x) _ g.order (λ h _. ap (k.product (at w h)) (sym (at_turned g h e x lx)))

pub keeps_spanned : (k : Symbols) (g : Dots) (e w : List ℕ) → Keeps k g e w → (x : ℕ) → x < g.order → at w x ≡ total k (λ h. k.product (at w h) (at (turned g h e) x)) g.order
keeps_spanned k g e w c x lx = ap (λ u. at u x) (sym c.1) ∙ at_times_turned k g w e x lx
