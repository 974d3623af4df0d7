use Rattle.std.proofs.Common.{◌≡◌, ℕ, Bool, true, false, MatchBool, sym, ◌∙◌, subst, rules}
use Rattle.words.specs.Stored.{Stores, word}
use Rattle.words.specs.Words.{syndrome, turned}
use Rattle.words.specs.declared.word.Word.{Word}
use Rattle.words.proofs.Stored.{zero_stores}
use Rattle.books.specs.Books.{row_at}
use Rattle.books.specs.Fitting.{SaysTurnClash, TurnClash}
use Rattle.books.specs.Rows.{row_word}
use Rattle.books.proofs.Clashes.{row_clash_decided, row_clashes_at_zero, turn_decided}
use Rattle.books.proofs.Ranges.{any_in_range}
use Rattle.books.proofs.book.Book.row_clashes.Goals as goal

pub returns-then-same : goal.returns-then-same
returns-then-same g c = record {
  of_book = λ e t book i li is.
      row_clashes_at_zero (g.met.F.Field.lawful c.args.algebra.now.field) (g.met.G.Group.lawful c.args.algebra.now.group) e t c.args.self.now book _ i li is
      (c.if-same.ensures ∙ (zero_stores _ c.zero.result c.zero.ensures).value);
}

pub returns : goal.returns
returns g c =
    let k = g.F.Field.symbols c.args.algebra.now.field in
    let d = g.G.Group.dots c.args.algebra.now.group in
    let n = d.order in
    let field = g.met.F.Field.lawful c.args.algebra.now.field in
    let group = g.met.G.Group.lawful c.args.algebra.now.group in
    let b = c.args.self.now in
    let row = c.args.row.now in
    let own : Word = c.word-word.result in
    let stored : Stores n own (row_word n row) = search rules in
    let Decided : ℕ → Bool → Type 0 = λ j v. (w : Word) × (y : Word) × Stores n w (turned d j (word n own)) × Stores n y (turned d j (word n row.syndrome))
    × SaysTurnClash k d b (word n w) (word n y) v in record {
      of_book = λ e t book i li is.
          let a = row_word n (row_at b i) in
          let clashes : ℕ → Type 0 = λ j. TurnClash k d e b (turned d j a) (turned d j (syndrome k d e a)) in
          row_clash_decided field group e t b book row i li is c.any.result c.dots-2.result c.dots-2.ensures
          (λ z. c.if-same.ensures (z ∙ sym (zero_stores _ c.zero.result c.zero.ensures).value))
          (any_in_range _ clashes (λ j. clashes j → ⊥) _ _ _ c.any.ensures.ran
          (λ j q call. let (v, (w, y, ws, ys, told), same) : (v : Bool) × Decided j v × (v ≡ true) = search rules in subst (λ x. MatchBool x (clashes j) (clashes j → ⊥)) same (turn_decided field group e t b book row i li is v j own w y stored ws ys (told.of_book e t book)))
          (λ j q call. let (v, (w, y, ws, ys, told), same) : (v : Bool) × Decided j v × (v ≡ false) = search rules in (search rules, subst (λ x. MatchBool x (clashes j) (clashes j → ⊥)) same (turn_decided field group e t b book row i li is v j own w y stored ws ys (told.of_book e t book)))));
    }
