use Rattle.std.proofs.Common.{◌≡◌, ◌<◌, sym, ap, ◌∙◌}
use Rattle.words.specs.Stored.{word}
use Rattle.words.specs.Words.{at}
use Rattle.words.proofs.Stored.{at_word, zero_stores}
use Rattle.codes.specs.GroupCodes.{Leads}
use Rattle.codes.proofs.EliminationSteps.{absorbs_within, absorbs_extended, lead_has_inverse, leads_from_difference}
use Rattle.codes.proofs.basis.elimination.Elimination.absorb.Given.{Over}
use Rattle.codes.proofs.basis.elimination.Elimination.absorb.Goals.{After-inverse}
use Rattle.codes.proofs.basis.elimination.Elimination.absorb.Goals as goal

-- the residual leads at p, and the inverse is that of its symbol there
led : (g : Over) (c : After-inverse g) → let n = (g.G.Group.dots c.args.algebra.now.group).order in let rest = word n c.residual-rest.result in let p = c.in-Some.p in
    (p < n) × Leads rest p × ((g.F.Field.symbols c.args.algebra.now.field).inverse (at rest p) ≡ c.inverse.result)
led g c =
    let n = (g.G.Group.dots c.args.algebra.now.group).order in
    let (lp, differs) = c.in-Some.ensures in
    let here = c.symbol.ensures ∙ at_word n c.residual-rest.result c.in-Some.p lp in
    (lp, leads_from_difference n (word n c.residual-rest.result) c.zero.result c.in-Some.p c.zero.ensures lp differs, ap (g.F.Field.symbols c.args.algebra.now.field).inverse (sym here) ∙ sym c.inverse.ensures)

pub returns : goal.returns
returns g c e le reduced cw =
    let n = (g.G.Group.dots c.args.algebra.now.group).order in
    let (lp, leads, inverse) = led g (goal.at.returns g c).After-inverse in
    absorbs_extended (g.met.F.Field.lawful c.args.algebra.now.field) le c.args.self.now reduced (word n c.args.w.now) cw (word n c.residual-rest.result) (c.residual-rest.ensures e reduced cw.0)
    c.in-Some.p lp leads c.in-Some-inverse.a (inverse ∙ c.in-Some-inverse.is) (word n c.scaled.result) c.scaled.ensures.value c.extend.new.self c.extend.ensures

pub returns-in_default-inverse : goal.returns-in_default-inverse
returns-in_default-inverse g c e le reduced cw =
    let n = (g.G.Group.dots c.args.algebra.now.group).order in
    let (lp, leads, inverse) = led g (goal.at.returns-in_default-inverse g c).After-inverse in
    absurd (lead_has_inverse (g.met.F.Field.lawful c.args.algebra.now.field) le c.args.self.now reduced (word n c.args.w.now) cw (word n c.residual-rest.result) (c.residual-rest.ensures e reduced cw.0)
    c.in-Some.p lp leads (inverse ∙ c.in_default-inverse.is))

pub returns-in_default : goal.returns-in_default
returns-in_default g c e le reduced cw =
    let n = (g.G.Group.dots c.args.algebra.now.group).order in
    absorbs_within (g.met.F.Field.lawful c.args.algebra.now.field) le c.args.self.now reduced (word n c.args.w.now) cw (word n c.residual-rest.result) (c.residual-rest.ensures e reduced cw.0)
    (c.in_default.ensures ∙ (zero_stores n c.zero.result c.zero.ensures).value)
