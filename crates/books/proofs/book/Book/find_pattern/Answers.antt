use Rattle.std.proofs.Common.{◌≡◌, ℕ, ◌+◌, ◌<◌, ◌≢◌, List, Some, None, Option, sym, ◌∙◌, subst, rules}
use Rattle.words.specs.Stored.{Stores, word}
use Rattle.words.specs.Words.{Lawful, scaled, turned}
use Rattle.words.specs.declared.word.Word.{Word}
use Rattle.words.proofs.Linear.{syndrome_lawful}
use Rattle.words.proofs.Stored.{zero_stores}
use Rattle.codes.specs.GroupCodes.{Pattern}
use Rattle.books.specs.Books.{row_at}
use Rattle.books.specs.Fitting.{Fits, NoFit, SaysPattern}
use Rattle.books.specs.Rows.{row_word}
use Rattle.books.specs.declared.patterns.Found.{Found}
use Rattle.books.proofs.FoundPatterns.{pattern_found}
use Rattle.books.proofs.Ranges.{find_map_in_range}
use Rattle.books.proofs.Searching.{nought_is_pattern}
use Rattle.books.proofs.book.Book.find_pattern.Goals as goal

pub returns-then-same : goal.returns-then-same
returns-then-same g c e t r le lr book apart stored =
    let k = g.F.Field.symbols c.args.algebra.now.field in
    let d = g.G.Group.dots c.args.algebra.now.group in
    let zeros = zero_stores d.order c.zero-zero.result c.zero-zero.ensures in
    let pattern = nought_is_pattern (g.met.F.Field.lawful c.args.algebra.now.field) (g.met.G.Group.lawful c.args.algebra.now.group) e le t r (sym stored.value ∙ c.if-same.ensures ∙ zeros.value) in
    (subst (Pattern k d e t r) (sym zeros.value) pattern, zeros.value, zeros.rest)

pub returns : goal.returns
returns g c e t r le lr book apart stored =
    let k = g.F.Field.symbols c.args.algebra.now.field in
    let d = g.G.Group.dots c.args.algebra.now.group in
    let n = d.order in
    let b = c.args.self.now in
    let field = g.met.F.Field.lawful c.args.algebra.now.field in
    let y = word n c.args.syndrome.now in
    let ly = subst (Lawful k n) (sym stored.value) (syndrome_lawful field.sums d e r) in
    let At : ℕ → Word → List ℕ → Type 0 = λ j p e. (s : ℕ) × (s < k.order) × (s ≢ 0) × ((i : ℕ) × Fits k d e b (turned d j y) s i × Stores n p (turned d (d.inverse j) (scaled k n s (row_word n (row_at b i))))) in
    let Told : ℕ → Option Word → Type 0 = λ j o. SaysPattern k d b j y o in
    pattern_found field (g.met.G.Group.lawful c.args.algebra.now.group) e t r le b book y stored.value apart
    (λ z. c.if-same.ensures (z ∙ sym (zero_stores n c.zero-zero.result c.zero-zero.ensures).value)) c.find_map.result c.dots.result c.dots.ensures
    (find_map_in_range _ _ (λ j (x : Found). (x.turns ≡ j + 1) × At j x.pattern e) (λ j. NoFit k d e b (turned d j y))
    (λ a o q call. search rules)
    (λ j x call. let (o, told, is, turns) : (o : Option Word) × Told j o × (o ≡ Some x.pattern) × (x.turns ≡ j + 1) = search rules in (turns, (rw is at told).of_book e t book ly))
    (λ j call. let (o, told, is) : (o : Option Word) × Told j o × (o ≡ None) = search rules in (rw is at told).of_book e t book ly) c.find_map.result c.find_map.ensures.runs)
