use Rattle.std.proofs.Common.{refl, rules}
use Rattle.books.proofs.Chains.{pushed_chained}
use Rattle.books.proofs.book.Book.push.Goals as goal

pub returns : goal.returns
returns c room = record {
  count = refl;
  kept = search rules;
  symbols = search rules;
  syndrome = search rules;
  chained = pushed_chained c.args.self.now _ _ c.bucket.result c.bucket.ensures.is (search rules) (search rules) refl refl (search rules) c.replace-row.ensures.value (search rules);
}
