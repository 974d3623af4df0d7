use Rattle.reader.proofs.MarkWords.{of_stores}
use Rattle.reader.proofs.code.judge.sized.Goals as goal

pub returns : goal.returns
returns g c =
    let passed = rw (c.dots.ensures, c.symbols.ensures) at c.in_ok-check_buffers.ensures.0 in (
      (passed.0, (passed.1.0, (c.in_ok-check_radius.ensures.0.0, c.in_ok-check_rows.ensures.0))),
      (of_stores _ _ _ (g.met.G.Group.lawful c.args.algebra.now.group).most passed.0 c.of.ensures).value,
    )
