-- The rows of a book as they are stored, and the chains along which they are looked up.
--     row_symbol r d, row_word n r     the symbol at d of the word that the row r stands for; that word
--     row_of rows i         the i-th of the rows
--     bucket w              the bucket of the syndrome w
--     LastBefore rows m h o     o is the last row before m in the bucket h, or None if there is none
use Rattle.std.specs.Prelude.{◌≡◌, ℕ, ◌+◌, ◌*◌, ◌%◌, ◌<◌, cond, ◌≢◌, List, [], ◌==◌, None, Option, MatchOption, slice_index_or}
use Rattle.std.specs.List.{fold}
use Rattle.words.specs.Stored.{word}
use Rattle.words.specs.Words.{tabulate}
use Rattle.words.specs.declared.word.Word.{Word}
use Rattle.books.specs.declared.book.Row.{Row}

abbrev pub no_row : Row
no_row = record {
  first = record { dot = 0; symbol = 0 };
  second = record { dot = 0; symbol = 0 };
  syndrome = record { symbols = [] };
  earlier = None;
}

abbrev pub row_symbol : Row → ℕ → ℕ
row_symbol r d =
    cond (d == 0) 1 (cond (d == r.first.dot) r.first.symbol (cond (d == r.second.dot) r.second.symbol 0))

abbrev pub row_word : ℕ → Row → List ℕ
row_word n r = tabulate n (row_symbol r)

abbrev pub row_of : List Row → ℕ → Row
row_of rows i = slice_index_or rows i no_row

-- rows are looked up by buckets of their syndromes: each bucket is a chain from its last row back
abbrev pub bucket : Word → ℕ
bucket w = fold (λ h x. (h * 31 + x) % 1024) 0 (word 64 w)

abbrev pub LastBefore : List Row → ℕ → ℕ → Option ℕ → Type 0
LastBefore rows m h o =
    MatchOption o ((i : ℕ) → i < m → bucket (row_of rows i).syndrome ≢ h)
    (λ x. (x < m) × (bucket (row_of rows x).syndrome ≡ h) × ((i : ℕ) → i < m → x < i → bucket (row_of rows i).syndrome ≢ h))
