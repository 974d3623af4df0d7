-- What fits of the turned syndromes say of the pattern.
use Rattle.std.proofs.Common.{◌≡◌, ℕ, ◌+◌, ◌<◌, ◌≤◌, ◌≢◌, List, Some, None, Option, MatchOption, sym, ap, ◌∙◌, subst, inl, inr, add-one, arith}
use Rattle.std.proofs.lemmas.Bool.{cases_eq}
use Rattle.algebra.specs.Fields.{Symbols, SumProductLaws, FieldLaws}
use Rattle.algebra.specs.Groups.{Dots, GroupLaws}
use Rattle.words.specs.Stored.{Stores, word}
use Rattle.words.specs.Words.{at, Lawful, nought, scaled, syndrome, turned}
use Rattle.words.specs.declared.word.Word.{Word}
use Rattle.words.proofs.Groups.{identity_below}
use Rattle.words.proofs.Turning.{turned_lawful}
use Rattle.words.proofs.Turns.{nought_from_turns}
use Rattle.books.specs.Fitting.{Fits, NoFit}
use Rattle.codes.specs.GroupCodes.{Pattern, TooClose, TurnCount}
use Rattle.books.specs.Books.{BookOf, row_at}
use Rattle.books.specs.Rows.{row_word}
use Rattle.books.specs.declared.book.Book.{Book}
use Rattle.books.specs.declared.patterns.Found.{Found}
use Rattle.books.proofs.Searching.{fit_from_pattern, pattern_from_fit, pattern_of_fit, syndrome_from_nought_pattern}

pub turn_lawful : {k : Symbols} → SumProductLaws k → (g : Dots) (j : ℕ) (x y : Word) → Stores g.order y (turned g j (word g.order x)) → Lawful k g.order (word g.order x) → Lawful k g.order (word g.order y)
turn_lawful {k} laws g j x y stored lx = subst (Lawful k g.order) (sym stored.value) (turned_lawful laws g j (word g.order x) lx)

-- y is the syndrome of r
module _ {k : Symbols} (field : FieldLaws k) {g : Dots} (group : GroupLaws g) (e : List ℕ) (t : ℕ) (r : List ℕ) (le : Lawful k g.order e) (b : Book) (book : BookOf k g e t b) (y : List ℕ) (same : y ≡ syndrome k g e r) where
  zero_without_fit : (p : List ℕ) (j : ℕ) → Pattern k g e t r p → j < g.order → NoFit k g e b (turned g j y) → at (turned g j p) 0 ≡ 0
  zero_without_fit p j pattern lj none = elim (cases_eq (at (turned g j p) 0) 0) [
    | inl z ↦ z
    | inr nz ↦
        let (a, row, fit, _) = fit_from_pattern field group e le t r p j pattern lj nz in
        let (i, li, is) = book.complete a row in
        absurd (none (at (turned g j p) 0) ((turned_lawful field.sums g j p pattern.0).1 0 (identity_below group)) nz i
        (li, ap (turned g j) same ∙ fit ∙ ap (λ x. scaled k g.order (at (turned g j p) 0) (syndrome k g e x)) (sym is)))
  ]

  pub no_pattern : y ≢ nought g.order → ((j : ℕ) → j < g.order → NoFit k g e b (turned g j y)) → (p : List ℕ) → Pattern k g e t r p → ⊥
  no_pattern other none p pattern =
      let zeros = nought_from_turns group p pattern.0.0 (λ j lj. zero_without_fit p j pattern lj (none j lj)) in
      other (same ∙ syndrome_from_nought_pattern field group e le t r (subst (Pattern k g e t r) zeros pattern))

  pub found_pattern : (TooClose k g e t → ⊥) → (j s i : ℕ) → j < g.order → s < k.order → s ≢ 0 → Fits k g e b (turned g j y) s i → ((m : ℕ) → m < j → NoFit k g e b (turned g m y)) → (p : List ℕ) → p ≡ turned g (g.inverse j) (scaled k g.order s (row_word g.order (row_at b i))) → Pattern k g e t r p × TurnCount g p (j + 1)
  found_pattern apart j s i lj ls nz (li, fits) before p is =
      let a = row_word g.order (row_at b i) in
      let fit = ap (turned g j) (sym same) ∙ fits in
      let pattern = subst (Pattern k g e t r) (sym is) (pattern_from_fit field group e le t r a j s (book.row_words i li) lj ls fit) in
      let first = (pattern_of_fit field group e le t r apart p a j s pattern (book.row_words i li) lj ls fit).1 in
      (pattern, subst (TurnCount g p) (sym (add-one j)) (lj, (λ z. nz (sym first ∙ z)), λ m lm. zero_without_fit p m pattern (omega arith) (before m lm)))

  -- what a search over the turns 0, 1, .. below m says
  pub pattern_found : (TooClose k g e t → ⊥) → y ≢ nought g.order → (o : Option Found) (m : ℕ) → m ≡ g.order
      → MatchOption o ((j : ℕ) → 0 ≤ j → j < m → NoFit k g e b (turned g j y)) (λ x. (j : ℕ) × (0 ≤ j) × (j < m) × ((x.turns ≡ j + 1) × ((s : ℕ) × (s < k.order) × (s ≢ 0) × ((i : ℕ) × Fits k g e b (turned g j y) s i × Stores g.order x.pattern (turned g (g.inverse j) (scaled k g.order s (row_word g.order (row_at b i))))))) × ((l : ℕ) → 0 ≤ l → l < j → NoFit k g e b (turned g l y)))
      → MatchOption o ((p : List ℕ) → Pattern k g e t r p → ⊥) (λ x. Pattern k g e t r (word g.order x.pattern) × TurnCount g (word g.order x.pattern) x.turns × ((d : ℕ) → g.order ≤ d → at x.pattern.symbols d ≡ 0))
  pattern_found apart other None m end none = no_pattern other (λ j lj. none j (omega arith) (omega arith))
  pattern_found apart other (Some x) m end (j, _, hi, (turns, (s, ls, nz, (i, fit, stored))), before) =
      let found = found_pattern apart j s i (omega arith) ls nz fit (λ l ll. before l (omega arith) ll) (word g.order x.pattern) stored.value in
      (found.0, rw turns found.1, stored.rest)
