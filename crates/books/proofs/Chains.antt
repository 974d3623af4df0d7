-- The chains of a book: one more row at the head of its bucket, where a walk along a chain stands, and the bucket in
-- which it begins.
--     Walked b w m o        a walk down the chain of w has met only other syndromes, and stands at row o below m
use Rattle.std.proofs.Common.{◌≡◌, ℕ, ◌+◌, ◌*◌, ◌%◌, ◌<◌, ◌≤◌, ◌≢◌, List, map, Some, None, Option, Bool, true, false, MatchBool, MatchOption, length, get_or, set, replicate, inl, inr, sym, refl, ap, ◌∙◌, subst, arith}
use Rattle.std.proofs.lemmas.Bool.{cases_eq}
use Rattle.std.proofs.lemmas.Grind.{common_steps}
use Rattle.std.proofs.lemmas.List.{get_or-replicate, get_or-set_same, get_or-set_other}
use Rattle.std.specs.List.{fold, range_with_len}
use Rattle.words.specs.Stored.{word}
use Rattle.words.specs.Words.{at, tabulate}
use Rattle.words.proofs.Tabulate.{tabulate_is}
use Rattle.words.specs.declared.word.Word.{Word}
use Rattle.books.specs.Books.{Chained, row_at}
use Rattle.books.specs.Rows.{LastBefore, bucket, no_row}
use Rattle.books.specs.declared.book.Book.{Book}
use Rattle.books.specs.declared.book.Row.{Row}

-- the bucket, one symbol on
abbrev pub mixed : ℕ → ℕ → ℕ
mixed h x = (h * 31 + x) % 1024

-- a book without rows
pub empty_chained : (b : Book) → b.count ≡ 0 → b.heads ≡ replicate 1024 None → Chained b
empty_chained b none empty = record {
  heads = λ h l. subst (LastBefore b.rows b.count h) (sym (ap (λ x. get_or x h None) empty ∙ get_or-replicate 1024 h None None l)) (λ i li. absurd (omega arith));
  earlier = λ i l. absurd (omega arith);
}

last_kept : (rows : List Row) (m n h : ℕ) (r : Row) (o : Option ℕ) → n ≤ m → LastBefore rows n h o → LastBefore (set rows m r) n h o
last_kept rows m n h r None le none = λ i l. grind (arith, common_steps, none i)
last_kept rows m n h r (Some x) le (l, is, none) = (l, grind (arith, common_steps), λ i li lx. grind (arith, common_steps, none i))

last_more : (rows : List Row) (m h : ℕ) (r : Row) (o : Option ℕ) → m < length rows → bucket r.syndrome ≢ h → LastBefore rows m h o → LastBefore (set rows m r) (m + 1) h o
last_more rows m h r None room ne none = λ i l. grind (arith, common_steps, none i)
last_more rows m h r (Some x) room ne (l, is, none) = (omega arith, grind (arith, common_steps), λ i li lx. grind (arith, common_steps, none i))

-- c has one more row than b: r, at the head of its bucket p
module _ (b c : Book) (r : Row) (p : ℕ) (is : p ≡ bucket r.syndrome) (room : b.count < length b.rows) (within : p < length b.heads) (rows : c.rows ≡ set b.rows b.count r) where
  new_row : row_at c b.count ≡ r
  new_row = rw rows (get_or-set_same b.rows b.count r no_row room)

  old_row : (i : ℕ) → i < b.count → row_at c i ≡ row_at b i
  old_row i l = rw rows (get_or-set_other b.rows b.count i r no_row (omega arith))

  pub pushed_chained : c.count ≡ b.count + 1 → c.heads ≡ set b.heads p (Some b.count) → r.earlier ≡ get_or b.heads p None → length b.heads ≡ 1024 → Chained b → Chained c
  pushed_chained count heads earlier size chain = record {
    heads = λ h l. elim (cases_eq h p) [
      | inl e ↦ rw (heads, e, get_or-set_same b.heads p (Some b.count) None within) (omega arith, rw new_row (sym is), λ i li lx. absurd (omega arith))
      | inr ne ↦ rw (heads, get_or-set_other b.heads p h (Some b.count) None ne, rows, count) (last_more b.rows b.count h r _ room (λ e. ne (sym e ∙ sym is)) (chain.heads h l))
    ];
    earlier = λ i l. elim (cases_eq i b.count) [
      | inl e ↦ rw (e, new_row, earlier, ← is, rows) (last_kept b.rows b.count b.count p r _ (omega arith) (chain.heads p (omega arith)))
      | inr ne ↦ rw (old_row i (omega arith), rows) (last_kept b.rows b.count i _ r _ (omega arith) (chain.earlier i (omega arith)))
    ];
  }

-- words of 64 symbols, compared symbol by symbol
pub words_told : (u v : Word) → length u.symbols ≡ 64 → length v.symbols ≡ 64 → (same : Bool) → MatchBool same (u.symbols ≡ v.symbols) (u.symbols ≢ v.symbols) → MatchBool same (word 64 u ≡ word 64 v) (word 64 u ≢ word 64 v)
words_told u v lu lv true e = ap (λ x. tabulate 64 (at x)) e
words_told u v lu lv false ne = λ e. ne (tabulate_is 64 (at u.symbols) u.symbols lu (λ d l. refl) ∙ e ∙ sym (tabulate_is 64 (at v.symbols) v.symbols lv (λ d l. refl)))

abbrev pub Walked : Book → Word → ℕ → Option ℕ → Type 0
Walked b w m o =
    MatchOption o ((j : ℕ) → j < b.count → word 64 (row_at b j).syndrome ≢ word 64 w)
    (λ i. (i < m) × (bucket (row_at b i).syndrome ≡ bucket w) × ((j : ℕ) → i < j → j < b.count → word 64 (row_at b j).syndrome ≢ word 64 w))

-- the symbols of a word, taken one by one
pub bucket_of_word : (w : Word) → fold mixed 0 (map (at w.symbols) (range_with_len 0 64)) ≡ bucket w
unfolding tabulate
bucket_of_word w = refl
