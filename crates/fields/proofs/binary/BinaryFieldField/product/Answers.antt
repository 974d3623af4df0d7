use Rattle.std.proofs.Common.{refl}
use Rattle.fields.specs.FieldKinds.{times_power, times_bits}
use Rattle.fields.proofs.BinaryProducts.{times_power_more, times_bits_with, times_bits_without, times_z_below}
use Rattle.fields.proofs.binary.BinaryFieldField.product.Goals as goal
use Rattle.fields.proofs.binary.BinaryFieldField.product.Goals.{then-b-i-eq1, else-b-i-eq1}

pub loop-i-init : goal.loop-i-init
unfolding times_power times_bits
loop-i-init c = (refl, refl, c.if-a-self.false)

pub loop-i-preserved : goal.loop-i-preserved
loop-i-preserved c =
    let q = c.args.self.now.order in
    let more = times_power_more q c.args.a c.loop-i.i in (
      elim c.if-b-i-eq1.branch [
        | then-b-i-eq1 w ↦ cc (times_bits_with q c.args.a c.args.b c.loop-i.i w.if-b-i-eq1.true)
        | else-b-i-eq1 w ↦ cc (times_bits_without q c.args.a c.args.b c.loop-i.i w.if-b-i-eq1.false)
      ],
      cc,
      rw c.times_z-shifted.ensures (times_z_below q c.loop-i.shifted c.args.self.now.binary c.loop-i.invariant.2),
    )
