use Rattle.std.proofs.Common.{◌≡◌, ◌+◌, refl, lit<}
use denote.Enum.Declared.{tag_of}
use Rattle.algebra.specs.Refusals.{Numbered, number}
use Rattle.algebra.specs.contracts.fault.Refusal.{the_type}
use Rattle.algebra.specs.declared.fault.Refusal.{Refusal}
use Rattle.algebra.specs.declared.fault.Refusal.TheVariants.{Order, TableSize, Entry, Identity, Inverse, Association, NoCode, Length, Range, Radius, Book, NotIdempotent, NotCentral, TooClose, OutOfReach}
use Rattle.algebra.proofs.fault.U8FromRefusal.from.Goals as goal

numbered : (x : Refusal) → (tag_of the_type x + 1 ≡ number x) × Numbered x (tag_of the_type x + 1)
numbered Order = (refl, (0, lit< tt, refl))
numbered TableSize = (refl, (1, lit< tt, refl))
numbered Entry = (refl, (2, lit< tt, refl))
numbered Identity = (refl, (3, lit< tt, refl))
numbered Inverse = (refl, (4, lit< tt, refl))
numbered Association = (refl, (5, lit< tt, refl))
numbered NoCode = (refl, (6, lit< tt, refl))
numbered Length = (refl, (7, lit< tt, refl))
numbered Range = (refl, (8, lit< tt, refl))
numbered Radius = (refl, (9, lit< tt, refl))
numbered Book = (refl, (10, lit< tt, refl))
numbered NotIdempotent = (refl, (11, lit< tt, refl))
numbered NotCentral = (refl, (12, lit< tt, refl))
numbered TooClose = (refl, (13, lit< tt, refl))
numbered OutOfReach = (refl, (14, lit< tt, refl))

pub returns : goal.returns
returns c = numbered c.args.refusal
