use Rattle.std.proofs.Common.{◌+◌, inl, inr, rules}
use Rattle.marks_lines.specs.Held.{held}
use Rattle.marks_lines.proofs.Spelling.{by_cases, coded, lawful, no_code, too_long}
use Rattle.marks_lines.proofs.digits.Digits.read.Goals as goal

pub returns : goal.returns
returns c =
    let bytes = c.args.codes.now in
    by_cases c.collect.result c.collect.ensures
    (λ stray. elim stray [ inl long ↦ too_long bytes (λ x. 48 + x) long | inr p ↦ no_code bytes (λ x. 48 + x) p.0 p.1 (λ v h. let e = p.2 in search rules) ])
    (λ d stand. (lawful d, coded bytes (λ x. 48 + x) (held d) stand.0 (λ i h. let e = stand.1 i h in search rules)))
