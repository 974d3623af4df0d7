use Rattle.std.proofs.Common.{◌≡◌, ℕ, ◌<◌, ◌≢◌, Bool, true, false, rules}
use Rattle.words.specs.Stored.{word}
use Rattle.books.specs.Fitting.{Clash, SaysClash}
use Rattle.books.proofs.Clashes.{turn_clash_decided}
use Rattle.books.proofs.Ranges.{any_in_range}
use Rattle.books.proofs.book.Book.turn_clashes.Goals as goal

pub returns : goal.returns
returns g c =
    let k = g.F.Field.symbols c.args.algebra.now.field in
    let d = g.G.Group.dots c.args.algebra.now.group in
    let b = c.args.self.now in
    let w = word d.order c.args.word.now in
    let y = word d.order c.args.syndrome.now in
    let Decided : ℕ → Bool → Type 0 = λ s v. SaysClash k d b w y s v in record {
      of_book = λ e t book ly.
          turn_clash_decided k d e b w y c.any.result c.symbols.result c.symbols.ensures
          (any_in_range _ (λ s. s ≢ 0 → s < k.order → Clash k d e b w y s) (λ s. s ≢ 0 → s < k.order → Clash k d e b w y s → ⊥) _ _ _ c.any.ensures.ran
          (λ s q call. let (v, told, is) : (v : Bool) × Decided s v × (v ≡ true) = search rules in (rw is at told).of_book e t book ly)
          (λ s q call. let (v, told, is) : (v : Bool) × Decided s v × (v ≡ false) = search rules in (search rules, (rw is at told).of_book e t book ly)));
    }
