use Rattle.std.proofs.Common.{◌≡◌, ℕ, ◌+◌, ◌-◌, List, ◌++◌, length, drop, replicate, ◌∙◌, arith}
use Rattle.std.proofs.lemmas.List.{get_or_append_left, get_or-append_right, get_or-drop, get_or-replicate, length-replicate, length-take-le}
use Rattle.books.proofs.BookRows.{tabulated_word}
use Rattle.books.proofs.book.Row.word.Goals as goal

pub returns : goal.returns
returns c most =
    let n = c.args.n in
    let m = c.min.result in
    let written = c.loop-d.symbol-items in
    let zeros : List ℕ = replicate 64 0 in
    let same : m ≡ n = omega arith in
    let size : length written ≡ n = omega (arith, c.loop-d.auto.symbol-items, length-take-le m zeros (omega (arith, length-replicate {A = ℕ} 64 0))) in
    tabulated_word _ n (written ++ drop m zeros) c.of.result most
    (λ d _ l. get_or_append_left written (drop m zeros) 0 d (omega arith) ∙ c.loop-d.invariant d (omega arith))
    (λ d l le. get_or-append_right written (drop m zeros) n d 0 size le ∙ get_or-drop m zeros (d - n) 0 ∙ get_or-replicate 64 (m + (d - n)) 0 0 (omega arith))
    c.of.ensures
