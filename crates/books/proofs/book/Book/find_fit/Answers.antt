use Rattle.std.proofs.Common.{◌≡◌, ℕ, ◌<◌, ◌≢◌, Some, None, Option, rules}
use Rattle.words.specs.Stored.{word}
use Rattle.books.specs.Fitting.{Fits, SaysFit}
use Rattle.books.specs.declared.fits.Fit.{Fit}
use Rattle.books.proofs.FitRows.{fit_found}
use Rattle.books.proofs.Ranges.{Mapped, find_map_in_range, mapped_none, mapped_some}
use Rattle.books.proofs.book.Book.find_fit.Goals as goal

pub returns : goal.returns
returns g c =
    let k = g.F.Field.symbols c.args.algebra.now.field in
    let d = g.G.Group.dots c.args.algebra.now.group in
    let b = c.args.self.now in
    let y = word d.order c.args.target.now in
    let Told : ℕ → Option ℕ → Type 0 = SaysFit k d b y in
    let row : Fit → ℕ = λ f. f.row in
    let At : ℕ → Fit → Type 0 = λ s f. f.scale ≡ s in record {
      of_book = λ e t book ly.
          fit_found k d e b y c.find_map.result c.symbols.result c.symbols.ensures
          (find_map_in_range _ _ (λ s (f : Fit). (f.scale ≡ s) × (s ≢ 0 → s < k.order → Fits k d e b y s f.row)) (λ s. s ≢ 0 → s < k.order → (i : ℕ) → Fits k d e b y s i → ⊥)
          (λ a r q call. search rules)
          (λ s f call. let (o, told, made) : (o : Option ℕ) × Told s o × Mapped row (At s) o (Some f) = search rules in let (told, scale) = mapped_some row (At s) (Told s) o f told made in (scale, λ ne ls. (told.of_book e t book ly ne ls).0))
          (λ s call. let (o, told, made) : (o : Option ℕ) × Told s o × Mapped row (At s) o None = search rules in (mapped_none row (At s) (Told s) o told made).of_book e t book ly) c.find_map.result c.find_map.ensures.runs);
    }
