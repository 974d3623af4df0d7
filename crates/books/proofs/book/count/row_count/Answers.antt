use Rattle.std.proofs.Common.{◌≡◌, ◌+◌, ◌-◌, ◌*◌, ◌/◌, sym, ap, ◌∙◌, arith}
use Rattle.codes.specs.GroupCodes.{rows}
use Rattle.books.proofs.RowCounts.{rows_two, rows_three, pair_choices}
use Rattle.books.proofs.book.count.row_count.Goals as goal

pub returns-in-2-clause-inside : goal.returns-in-2-clause-inside
returns-in-2-clause-inside c _ _ _ _ _ =
    rw c.from-symbols.ensures (sym (ap (rows c.args.n c.args.q) c.in-2.is ∙ rows_two c.args.n c.args.q))

pub returns-in_default-clause-inside : goal.returns-in_default-clause-inside
returns-in_default-clause-inside c _ _ _ _ few =
    let most : c.args.t ≡ 3 = omega arith in
    let n = c.args.n - 1 in
    let q = c.from-symbols.result - 1 in
    ap (λ x. 1 + n * q + n * x / 2 * (q * q)) c.saturating_sub.ensures ∙ ap (λ x. 1 + n * q + x * (q * q)) (pair_choices n)
    ∙ rw c.from-symbols.ensures (sym (ap (rows c.args.n c.args.q) most ∙ rows_three c.args.n c.args.q))
