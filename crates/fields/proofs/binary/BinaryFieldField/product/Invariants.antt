use Rattle.std.proofs.Common.{◌≡◌, ◌<◌}
use Rattle.fields.specs.FieldKinds.{times_power, times_bits}
use Rattle.fields.proofs.binary.BinaryFieldField.product.Given as goal

abbrev pub invariant-loop-i : goal.invariant-loop-i
invariant-loop-i l =
    (l.product ≡ times_bits l.self.order l.a l.b l.i) × (l.shifted ≡ times_power l.self.order l.a l.i) × (l.shifted < l.self.order)
