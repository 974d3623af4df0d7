use Rattle.std.proofs.Common.{inl}
use Rattle.tables.specs.Places.{triple_below}
use Rattle.tables.proofs.products.Products.check_association.Goals as goal

pub returns-in-Some : goal.returns-in-Some
returns-in-Some c =
    let found = c.in-Some.ensures in
    inl (_, triple_below _ _ _ found.0 found.1 found.2, found.3, c.refuses.ensures)
