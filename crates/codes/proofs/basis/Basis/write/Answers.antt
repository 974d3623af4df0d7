use Rattle.std.proofs.Common.{◌≡◌, length, take, sym, subst, arith, rules}
use Rattle.std.specs.List.{zip}
use Rattle.std.proofs.iter.Yields.{fronts}
use Rattle.std.proofs.lemmas.Fn.{fold_over}
use Rattle.std.proofs.lemmas.Iterator.{YieldsList-from_slice, YieldsList-from_zip, zips}
use Rattle.std.proofs.lemmas.List.{length-take}
use Rattle.words.specs.Stored.{Stores, word}
use Rattle.words.specs.Words.{plus, scaled}
use Rattle.words.specs.declared.word.Word.{Word}
use Rattle.codes.specs.GroupCodes.{WrittenAs}
use Rattle.codes.specs.Bases.{basis_dots}
use Rattle.codes.proofs.MessageSymbols.{Written, written_all, written_by_basis, written_more, written_none}
use Rattle.codes.proofs.basis.Basis.write.Goals as goal

pub returns : goal.returns
returns g c =
    let k = g.F.Field.symbols c.args.algebra.now.field in
    let p = g.G.Group.dots c.args.algebra.now.group in
    let n = p.order in
    let b = c.args.self.now in
    let m = c.args.message.now in
    let rows = take b.count b.rows in
    let most = b.most in
    let stored : length b.rows ≡ 64 = search rules in
    let many : length rows ≡ b.count = omega (arith, length-take b.count b.rows) in
    let first : c.zip.result.a.rest.now ≡ m = search rules in
    let second : c.zip.result.b.rest.now ≡ rows = search rules in
    let pairs = YieldsList-from_zip {s = c.zip.result} (YieldsList-from_slice m first) (YieldsList-from_slice rows second) in
    let all : Written k n (zip m rows) c.fold.result = fold_over (zips fronts fronts) (λ q. (q.0.now, q.1.now)) _ (Written k n) _ (λ ps mark q after f' before call.
    let step : (u : Word) × Stores n u (scaled k n q.0.now (word n q.1.now.word)) × Stores n after (plus k n (word n mark) (word n u)) = search rules in
    (written_more k n ps (q.0.now, q.1.now) mark step.0 after before step.1 step.2, search rules))
    c.zip.result (zip m rows) _ _ pairs.runs (written_none k n c.zero.result c.zero.ensures) c.fold.ensures.ran in
    record {
      written = λ e le basis lm.
          subst (WrittenAs k p e (basis_dots b) m) (sym (written_all k n b m c.fold.result lm.0 many all))
          (written_by_basis (g.met.F.Field.lawful c.args.algebra.now.field).sums le basis m lm);
      rest = all.rest;
    }
