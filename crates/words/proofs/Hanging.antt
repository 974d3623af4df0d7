-- One more dot of a turn.
use Rattle.std.proofs.Common.{◌≡◌, ℕ, ◌+◌, ◌<◌, ◌≢◌, List, length, get_or, set, sym, ap, ◌∙◌, arith, get_or-set_other, get_or-set_same, below_more}
use Rattle.std.proofs.lemmas.List.{get_or_read}
use Rattle.algebra.specs.Groups.{Dots, GroupLaws}
use Rattle.words.proofs.Groups.{product_cancel}

pub turned_more : {X : Type 0} {g : Dots} → GroupLaws g → (j h to : ℕ) (s t : List X) (x : X) → j < g.order → h < g.order → length s ≡ g.order → length t ≡ g.order
    → to ≡ g.product j h → x ≡ get_or s h x → ((k : ℕ) (d : X) → k < h → get_or t (g.product j k) d ≡ get_or s k d)
    → (k : ℕ) (d : X) → k < h + 1 → get_or (set t to x) (g.product j k) d ≡ get_or s k d
turned_more {X} {g} laws j h to s t x hj hh ls lt e read before k d less =
    let within : to < length t = omega (arith, laws.product_below j h) in
    below_more (λ (i : ℕ). (y : X) → get_or (set t to x) (g.product j i) y ≡ get_or s i y) h
    (λ i li y.
    let apart : g.product j i ≢ to = λ same. let back = product_cancel laws j i h hj (omega arith) hh (same ∙ e) in omega arith in
    get_or-set_other t to (g.product j i) x y apart ∙ before i y li)
    (λ y. ap (λ (i : ℕ). get_or (set t to x) i y) (sym e) ∙ get_or-set_same t to x y within ∙ get_or_read s h x (omega arith) read y)
    k less d
