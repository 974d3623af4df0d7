use Rattle.std.proofs.Common.{◌≡◌, ℕ, ◌<◌, List, [], ◌∷◌, map, rules, sym, ap, ◌∙◌, refl, arith}
use Rattle.std.proofs.iter.Yields.{nat_range_steps}
use Rattle.std.proofs.lemmas.Fn.{fold_over, serves_by}
use Rattle.std.proofs.lemmas.Iterator.{YieldsList-from_range}
use Rattle.std.proofs.lemmas.List.Sums.{fold-append}
use Rattle.std.proofs.lemmas.List.{map_push}
use Rattle.std.specs.List.{fold, range_with_len}
use Rattle.words.specs.Words.{at}
use Rattle.books.proofs.Chains.{bucket_of_word, mixed}
use Rattle.books.proofs.book.push.bucket.Goals as goal

pub fold-requires-clause-callable : goal.fold-requires-clause-callable
fold-requires-clause-callable c = serves_by _ (λ ds q. q.1 < 1024) (λ ds q d v before call. search rules) _ _ _ _ (omega arith) (λ ds t q d u came step before. search rules)

pub returns : goal.returns
returns c =
    let symbols = at c.args.syndrome.now.symbols in
    let J : List ℕ → ℕ → Type 0 = λ ds h. (h < 1024) × (h ≡ fold mixed 0 (map symbols ds)) in
    let all : J (range_with_len 0 64) c.fold.result = fold_over nat_range_steps (λ d. d) _ J _
    (λ ds h d v q before call.
    let step : v ≡ mixed h (symbols d) = search rules in
    ((omega (arith, step), step ∙ ap (λ x. mixed x (symbols d)) before.1 ∙ sym (fold-append mixed 0 (map symbols ds) (symbols d ∷ [])) ∙ ap (fold mixed 0) (sym (map_push symbols ds d))), search rules))
    _ (range_with_len 0 64) 0 c.fold.result (YieldsList-from_range 0 64 64 refl (omega arith)).runs (omega arith, refl) c.fold.ensures.ran in
    record { is = all.1 ∙ bucket_of_word c.args.syndrome.now; below = all.0 }
