use Rattle.std.proofs.Common.{rules}
use Rattle.std.specs.Cmp.Lexicographic.{told_text}
use Rattle.books.proofs.Chains.{words_told}
use Rattle.books.proofs.book.find.same.Goals as goal

pub returns : goal.returns
returns c = words_told c.args.u c.args.v (search rules) (search rules) c.eq.result (told_text _ _ _ c.eq.ensures)
