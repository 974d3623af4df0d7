-- Words as a reader stores them, from a list of symbols.
use Rattle.std.proofs.Common.{◌≡◌, ℕ, ◌<◌, ◌≤◌, List, length, sym, ap, ◌∙◌, ⊎_elim, arith}
use Rattle.std.proofs.lemmas.Bool.{cases_lt}
use Rattle.words.specs.Stored.{Stores}
use Rattle.words.specs.Words.{at, tabulate}
use Rattle.words.specs.declared.word.Word.{Word}
use Rattle.words.proofs.Tabulate.{at_past, at_tabulate, at_tabulate_past, tabulate_is}

pub of_stores : (n : ℕ) (e : List ℕ) (r : Word) → n ≤ 64 → length e ≡ n → r.symbols ≡ tabulate 64 (at e) → Stores n r e
of_stores n e r few size made = record {
  value = sym (tabulate_is n (at r.symbols) e size (λ d h. sym (same d (omega arith))));
  rest = λ d h. ⊎_elim (λ l. same d l ∙ at_past e d (omega arith)) (λ l. ap (λ s. at s d) made ∙ at_tabulate_past 64 (at e) d l) (cases_lt d 64);
}
  where
    same : (d : ℕ) → d < 64 → at r.symbols d ≡ at e d
    same d h = ap (λ s. at s d) made ∙ at_tabulate 64 (at e) d h
