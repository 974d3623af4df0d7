-- The first 69 bytes of a line say what the line asks.
use Rattle.std.proofs.Common.{◌≡◌, ℕ, ◌+◌, ◌≤◌, List, ◌++◌, length, take, Some, None, Option, sym, ap, ◌∙◌, arith}
use Rattle.std.proofs.lemmas.List.{length-map, length-take, take_all}
use Rattle.marks_lines.proofs.Appending.{take_take_append}
use Rattle.marks_lines.specs.Lines.{Asked, Lawful, Means, spelling, load, write, read, clear}

spelling_short : (a : Asked) → Lawful a → length (spelling a) ≤ 68
spelling_short (load t s) lawful = omega (arith, length-map s (λ x. 48 + x), lawful.1.0)
spelling_short (write s) lawful = omega (arith, length-map s (λ x. 48 + x), lawful.0)
spelling_short (read s) lawful = omega (arith, length-map s (λ x. 48 + x), lawful.0)
spelling_short clear lawful = omega arith

whole : (line : List ℕ) → length (take 69 line) ≤ 68 → take 69 line ≡ line
whole line h = take_all 69 line (omega (arith, length-take 69 line))

pub means_whole : (line : List ℕ) (o : Option Asked) → Means (take 69 line) o → Means line o
means_whole line (Some a) means =
    (means.0, sym (whole line (omega (arith, spelling_short a means.0, ap length means.1))) ∙ means.1)
means_whole line None none =
    λ a lawful e. none a lawful (take_all 69 line (omega (arith, spelling_short a lawful, ap length e)) ∙ e)

pub start_more : (line more : List ℕ) → take 69 (take 69 line ++ more) ≡ take 69 (line ++ more)
start_more = take_take_append 69
