use Rattle.std.proofs.Common.{◌≡◌, replicate, take, rules}
use Rattle.reader.specs.Stored.{code_of}
use Rattle.runs.specs.Runs.{carried, reply, zeros}
use Rattle.runs.specs.declared.runs.Answer.TheVariants.{Mended}
use Rattle.runs.proofs.Outputs.{carried_mapped, cut_zeros, read_faithfully, read_served}
use Rattle.runs.proofs.runs.serve.serve_read.Given.{Over}
use Rattle.runs.proofs.runs.serve.serve_read.Goals.{After-shown}
use Rattle.runs.proofs.runs.serve.serve_read.Goals as goal

-- the read has two outputs of zeros, and the reply shows what it answered and what it left in them
replied : (g : Over) (c : After-shown g) → let out = c.read-mended.new in
    (take c.min.result (replicate 65 0) ≡ zeros c.args.mended) × (take c.min-2.result (replicate 65 0) ≡ zeros c.args.message)
    × (c.shown.result ≡ reply (carried Mended c.read-mended.result) out.mended out.message)
replied g c =
    let mapped = carried_mapped Mended c.read-mended.result c.map.result _ c.map.ensures.cases (λ x y call. search rules) in
    (cut_zeros c.args.mended c.min.result c.min.ensures, cut_zeros c.args.message c.min-2.result c.min-2.ensures, rw mapped at c.shown.ensures)

pub returns-clause-answer : goal.returns-clause-answer
returns-clause-answer g c =
    let dots = g.G.Group.dots c.args.reader.now.algebra.group in
    let out = c.read-mended.new in
    let (b, m, shown) = replied g (goal.at.returns-clause-answer g c).After-shown in
    read_served (g.F.Field.symbols c.args.reader.now.algebra.field) dots (code_of dots.order c.args.reader.now.code) c.args.received.now c.args.mended c.args.message _ _ c.read-mended.result out.mended out.message c.shown.result b m
    shown c.read-mended.ensures.answer

pub returns-clause-law : goal.returns-clause-law
returns-clause-law g c past lived =
    let dots = g.G.Group.dots c.args.reader.now.algebra.group in
    let few = (g.met.G.Group.lawful c.args.reader.now.algebra.group).most in
    let out = c.read-mended.new in
    let (b, m, shown) = replied g (goal.at.returns-clause-law g c).After-shown in
    read_faithfully (g.F.Field.symbols c.args.reader.now.algebra.field) dots few past c.args.received.now c.args.mended c.args.message _ _ c.read-mended.result out.mended out.message c.shown.result b m
    c.read-mended.auto.mended c.read-mended.auto.message shown (c.read-mended.ensures.law past lived)
