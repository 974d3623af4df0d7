use Rattle.std.proofs.Common.{◌≡◌, ◌+◌, ◌<◌, length, set, take, sym, ◌∙◌, subst, arith}
use Rattle.std.proofs.lemmas.List.{get_or-take, get_or_default, length-take-le}
use Rattle.runs.proofs.Running.{Ran, ran_more}
use Rattle.runs.proofs.runs.run.Goals as goal

pub loop-i-preserved : goal.loop-i-preserved
loop-i-preserved g c =
    let e = c.serve.ensures in
    let xs = c.args.calls.now in
    let i = c.loop-i.i in
    let k = g.F.Field.symbols c.loop-i.reader.algebra.field in
    let dots = g.G.Group.dots c.loop-i.reader.algebra.group in
    let n = c.min-count.result in
    let size : length (take n xs) ≡ n = length-take-le n xs (omega arith) in
    let below : i < n = omega (arith, size) in
    let short : i < length (take n xs) = omega (arith, size) in
    let more = ran_more k dots xs c.args.replies.now c.loop-i.replies c.loop-i.reader.code c.serve.new.reader.code i c.serve.result c.loop-i.invariant.1 (omega arith) _ (get_or_default (take n xs) i _ _ short ∙ get_or-take n xs i _ below) (e.answer, e.lived, e.law) in
    (e.same ∙ c.loop-i.invariant.0, subst (λ a. Ran (g.F.Field.symbols a.field) (g.G.Group.dots a.group) xs c.args.replies.now (set c.loop-i.replies i c.serve.result) c.serve.new.reader.code (i + 1)) (sym e.same) more)
