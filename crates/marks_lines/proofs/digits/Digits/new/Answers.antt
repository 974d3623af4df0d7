use Rattle.std.proofs.Common.{inl, inr, ◌∙◌, sym, rules}
use Rattle.std.proofs.lemmas.List.{map-id}
use Rattle.marks_lines.specs.Held.{held}
use Rattle.marks_lines.proofs.Spelling.{by_cases, coded, lawful, no_code, too_long}
use Rattle.marks_lines.proofs.digits.Digits.new.Goals as goal

pub returns : goal.returns
returns c =
    let bytes = c.args.symbols.now in
    by_cases c.collect.result c.collect.ensures
    (λ stray small. elim stray [ inl long ↦ too_long bytes (λ x. x) long bytes small (sym (map-id bytes)) | inr p ↦ no_code bytes (λ x. x) p.0 p.1 (λ v h. let e = p.2 in search rules) bytes small (sym (map-id bytes)) ])
    (λ d stand. let e = coded bytes (λ x. x) (held d) stand.0 (λ i h. let e = stand.1 i h in search rules) ∙ map-id (held d) in (rw e (lawful d), e))
