-- The rows of a book: words held alike, and rows added one after another.
use Rattle.std.proofs.Common.{◌≡◌, ℕ, ◌+◌, ◌<◌, ◌≤◌, ◌⊎◌, List, sym, refl, ap, ◌∙◌, subst, inl, inr, arith}
use Rattle.std.proofs.lemmas.Bool.{cases_lt}
use Rattle.algebra.specs.Fields.{Symbols}
use Rattle.algebra.specs.Groups.{Dots}
use Rattle.words.specs.Stored.{Stores}
use Rattle.words.specs.Words.{at, syndrome, tabulate}
use Rattle.words.specs.declared.word.Word.{Word}
use Rattle.words.proofs.Tabulate.{at_tabulate, at_tabulate_past, tabulate_ext}
use Rattle.books.specs.Adding.{Adds, Exactly, Pushed}
use Rattle.books.specs.Books.{row_at}
use Rattle.books.specs.Rows.{row_symbol, row_word}
use Rattle.books.specs.declared.book.Book.{Book}
use Rattle.books.specs.declared.book.Placed.{Placed}
use Rattle.books.specs.declared.book.Row.{Row}

pub tabulated_word : (f : ℕ → ℕ) (n : ℕ) (out : List ℕ) (r : Word) → n ≤ 64 → ((d : ℕ) → d < 64 → d < n → at out d ≡ f d) → ((d : ℕ) → d < 64 → n ≤ d → at out d ≡ 0) → r.symbols ≡ tabulate 64 (at out) → Stores n r (tabulate n f)
tabulated_word f n out r most each rest is = record {
  value = tabulate_ext n (at r.symbols) f (λ d l. here d (omega arith) ∙ each d (omega arith) l);
  rest = λ d l. elim (cases_lt d 64) [
    | inl h ↦ here d h ∙ rest d h l
    | inr h ↦ ap (λ x. at x d) is ∙ at_tabulate_past 64 (at out) d h
  ];
}
  where
    here : (d : ℕ) → d < 64 → at r.symbols d ≡ at out d
    here d l = ap (λ x. at x d) is ∙ at_tabulate 64 (at out) d l

module _ (k : Symbols) (g : Dots) (e : List ℕ) where
  pub adds_none : (P : Row → Type 0) (b : Book) → ((r : Row) → P r → ⊥) → Adds k g e 0 P b b
  adds_none P b none room = record {
    count = omega arith;
    kept = λ i h. refl;
    only = λ i h l. absurd (omega arith);
    all = λ r p. absurd (none r p);
    syndromes = λ i h l. absurd (omega arith);
    chained = λ c. c;
  }

  module _ (m l t : ℕ) (P Q R : Row → Type 0) (b c d : Book) (sums : t ≡ m + l) (left : (r : Row) → P r → R r) (right : (r : Row) → Q r → R r) (both : (r : Row) → R r → P r ⊎ Q r) where
    pub adds_then : Adds k g e m P b c → Adds k g e l Q c d → Adds k g e t R b d
    adds_then first second room =
        let one = first (omega arith) in
        let two = second (omega (arith, one.count)) in
        record {
          count = omega (arith, one.count, two.count);
          kept = λ i h. two.kept i (omega (arith, one.count)) ∙ one.kept i h;
          only = λ i h l. elim (cases_lt i c.count) [
            | inl lt ↦ rw (two.kept i lt) (left (row_at c i) (one.only i h lt))
            | inr le ↦ right (row_at d i) (two.only i le l)
          ];
          all = λ r p. elim (both r p) [
            | inl q ↦ let (i, li, s) = one.all r q in (i, omega (arith, two.count), ap (row_word g.order) (two.kept i li) ∙ s)
            | inr q ↦ two.all r q
          ];
          syndromes = λ i h l. elim (cases_lt i c.count) [
            | inl lt ↦ rw (two.kept i lt) (one.syndromes i h lt)
            | inr le ↦ two.syndromes i le l
          ];
          chained = λ ch. two.chained (one.chained ch);
        }

  module _ (p s : Placed) (r t : Row) (same_r : Exactly p s r) (same_t : Exactly p s t) where
    same_row : row_word g.order r ≡ row_word g.order t
    same_row = let (a, b, c, d) = same_r in let (a', b', c', d') = same_t in tabulate_ext g.order (row_symbol r) (row_symbol t) (λ i h. cc)

  -- one row with its syndrome
  pub adds_one : (r : Row) (b c : Book) → Stores g.order r.syndrome (syndrome k g e (row_word g.order r)) → (b.count < 4096 → Pushed r b c) → Adds k g e 1 (Exactly r.first r.second) b c
  adds_one r b c stores push room =
      let pushed = push (omega arith) in
      let here : (i : ℕ) → b.count ≤ i → i < c.count → b.count ≡ i = λ i h l. omega (arith, pushed.count) in
      let new : row_word g.order (row_at c b.count) ≡ row_word g.order r = same_row _ _ (row_at c b.count) r pushed.symbols (refl, refl, refl, refl) in
      let stored : Stores g.order (row_at c b.count).syndrome (syndrome k g e (row_word g.order (row_at c b.count))) = rw (pushed.syndrome, new) stores in
      record {
        count = pushed.count;
        kept = pushed.kept;
        only = λ i h l. subst (λ j. Exactly r.first r.second (row_at c j)) (here i h l) pushed.symbols;
        all = λ s p. (b.count, omega (arith, pushed.count), new ∙ sym (same_row _ _ s r p (refl, refl, refl, refl)));
        syndromes = λ i h l. subst (λ j. Stores g.order (row_at c j).syndrome (syndrome k g e (row_word g.order (row_at c j)))) (here i h l) stored;
        chained = pushed.chained;
      }
