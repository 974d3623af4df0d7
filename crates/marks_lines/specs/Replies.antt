-- The lines that answer, as bytes with their last byte 10. A space is 32.
--     number n              a space and n in decimal
--     word d                a space and the digits of d
--     told a, declined d    the line of the answer a, and of a call that is declined, without its end
--     answer r              the line of the reply r, without its end
--     shown r               the line of the reply r
use Rattle.std.specs.Prelude.{ℕ, List, [], ◌∷◌, ◌++◌, Ok, Err, codes, decimal, Result}
use Rattle.marks_lines.specs.Held.{held}
use Rattle.marks_lines.specs.Symbols.{digits}
use Rattle.marks_lines.specs.declared.digits.Digits.{Digits}
use Rattle.marks_lines.specs.declared.reply.Answer.{Answer}
use Rattle.marks_lines.specs.declared.reply.Answer.TheVariants.{Loaded, Written, ReadBack, Cleared}
use Rattle.marks_lines.specs.declared.reply.Declined.{Declined}
use Rattle.marks_lines.specs.declared.reply.Declined.TheVariants.{Refused, Unknown}

abbrev pub number : ℕ → List ℕ
number n = 32 ∷ decimal n

abbrev pub word : Digits → List ℕ
word d = 32 ∷ digits (held d)

abbrev pub told : Answer → List ℕ
told (Loaded k rows) = codes "ok" ++ number k ++ number rows
told (Written mark) = codes "ok" ++ word mark
told (ReadBack wrong turns mended message) = codes "ok" ++ number wrong ++ number turns ++ word mended ++ word message
told Cleared = codes "ok"

abbrev pub declined : Declined → List ℕ
declined (Refused refusal) = codes "no" ++ number refusal
declined Unknown = codes "?"

abbrev pub answer : Result Answer Declined → List ℕ
answer (Ok a) = told a
answer (Err d) = declined d

abbrev pub shown : Result Answer Declined → List ℕ
shown r = answer r ++ 10 ∷ []
