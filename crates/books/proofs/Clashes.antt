-- Rows that clash: there are some exactly where a code word is too light.
use Rattle.std.proofs.Common.{◌≡◌, ℕ, zero, suc, ◌<◌, ◌≤◌, Bool, true, false, not, ◌≢◌, ◌⊎◌, List, length, get_or, take, Some, None, Option, MatchBool, MatchOption, sym, ap, ◌∙◌, subst, subst₂, inl, inr, arith}
use Rattle.std.proofs.lemmas.Bool.{cases_eq, cases_order}
use Rattle.std.proofs.lemmas.List.{get_or-take, length-take-le}
use Rattle.std.specs.List.{AllWithin, HoldsAt}
use Rattle.algebra.specs.Fields.{Symbols, FieldLaws}
use Rattle.algebra.specs.Groups.{Dots, GroupLaws}
use Rattle.words.specs.Stored.{Stores, word}
use Rattle.words.specs.Words.{Lawful, nought, scaled, syndrome, turned}
use Rattle.words.specs.declared.word.Word.{Word}
use Rattle.words.proofs.Differences.{same_decided}
use Rattle.algebra.proofs.SumProducts.{one_below}
use Rattle.words.proofs.Groups.{identity_below}
use Rattle.words.proofs.Linear.{scaled_lawful, syndrome_lawful}
use Rattle.words.proofs.Turning.{turned_lawful, turned_zero}
use Rattle.words.proofs.Weights.{scaled_back, scaled_one}
use Rattle.books.specs.Fitting.{Fits, LastFit, Clash, TurnClash, RowClash}
use Rattle.codes.specs.GroupCodes.{TooClose}
use Rattle.books.specs.Books.{BookOf, row_at}
use Rattle.books.specs.Rows.{no_row, row_word}
use Rattle.books.specs.declared.book.Book.{Book}
use Rattle.books.specs.declared.book.Row.{Row}
use Rattle.books.proofs.LightWords.{rows_from_close, close_from_code_row, close_from_rows}

module _ (k : Symbols) (g : Dots) (e : List ℕ) (b : Book) (w y : List ℕ) (s i : ℕ) (last : LastFit k g e b y s (Some i)) where
  last_unique : (j : ℕ) → LastFit k g e b y s (Some j) → j ≡ i
  last_unique j other = elim (cases_order j i) [
    | inl same ↦ same
    | inr (inl h) ↦ absurd (other.1 i h last.0)
    | inr (inr h) ↦ absurd (last.1 j h other.0)
  ]

  pub clash_decided : (same : Bool) → MatchBool same (w ≡ scaled k g.order s (row_word g.order (row_at b i))) (w ≡ scaled k g.order s (row_word g.order (row_at b i)) → ⊥) → MatchBool (not same) (Clash k g e b w y s) (Clash k g e b w y s → ⊥)
  clash_decided true is = λ (j, other, ne). ne (is ∙ ap (λ x. scaled k g.order s (row_word g.order (row_at b x))) (sym (last_unique j other)))
  clash_decided false ne = (i, last, ne)

-- where the last row that fits is looked up, and the word compared with its multiple
pub clash_at_last : (k : Symbols) (g : Dots) (e : List ℕ) (b : Book) (w y : List ℕ) (s : ℕ) (o : Option ℕ) (found : Bool) (P : ℕ → Type 0) → LastFit k g e b y s o → MatchOption o (found ≡ false) P
    → ((i : ℕ) → P i → i < b.count → (same : Bool) × (found ≡ not same) × MatchBool same (w ≡ scaled k g.order s (row_word g.order (row_at b i))) (w ≡ scaled k g.order s (row_word g.order (row_at b i)) → ⊥))
    → MatchBool found (Clash k g e b w y s) (Clash k g e b w y s → ⊥)
clash_at_last k g e b w y s None found P none is told = subst (λ x. MatchBool x (Clash k g e b w y s) (Clash k g e b w y s → ⊥)) (sym is) (λ (i, last, _). none i last.0)
clash_at_last k g e b w y s (Some i) found P last call told =
    let (same, is, compared) = told i call last.0.0 in
    subst (λ x. MatchBool x (Clash k g e b w y s) (Clash k g e b w y s → ⊥)) (sym is) (clash_decided k g e b w y s i last same compared)

pub turn_clash_decided : (k : Symbols) (g : Dots) (e : List ℕ) (b : Book) (w y : List ℕ) (found : Bool) (q : ℕ) → q ≡ k.order → MatchBool found ((s : ℕ) × (1 ≤ s) × (s < q) × (s ≢ 0 → s < k.order → Clash k g e b w y s)) ((s : ℕ) → 1 ≤ s → s < q → s ≢ 0 → s < k.order → Clash k g e b w y s → ⊥) → MatchBool found (TurnClash k g e b w y) (TurnClash k g e b w y → ⊥)
turn_clash_decided k g e b w y true q end (s, lo, hi, clash) =
    let ls : s < k.order = omega arith in
    let ne : s ≢ 0 = omega arith in
    (s, ls, ne, clash ne ls)
turn_clash_decided k g e b w y false q end none = λ (s, ls, ne, clash). none s (omega arith) (omega arith) ne ls clash

-- the last number below n with P, if there is one
last_below : (P : ℕ → Type 0) → ((i : ℕ) → P i ⊎ (P i → ⊥)) → (n i : ℕ) → i < n → P i → (m : ℕ) × (m < n) × P m × ((j : ℕ) → m < j → j < n → P j → ⊥)
last_below P decided zero i li p = absurd (omega arith)
last_below P decided (suc n) i li p = elim (decided n) [
  | inl here ↦ (n, omega arith, here, λ j lj ln _. omega arith)
  | inr none ↦
      let other : i ≢ n = λ same. none (subst P same p) in
      let (m, lm, here, later) = last_below P decided n i (omega arith) p in (
        m,
        omega arith,
        here,
        λ j lj ln q. elim (cases_eq j n) [
          | inl same ↦ none (subst P same q)
          | inr ne ↦ later j lj (omega arith) q
        ],
      )
]

scaled_cancel : {k : Symbols} → FieldLaws k → (n s : ℕ) (u v : List ℕ) → s < k.order → s ≢ 0 → Lawful k n u → Lawful k n v → scaled k n s u ≡ scaled k n s v → u ≡ v
scaled_cancel {k} field n s u v ls nz lu lv same =
    let (a, _, la, one_at) = field.inverse_cancels s ls nz in
    sym (scaled_back field.sums n s a u ls la one_at lu) ∙ ap (scaled k n a) same ∙ scaled_back field.sums n s a v ls la one_at lv

abbrev own : Dots → Book → ℕ → List ℕ
own g b i = row_word g.order (row_at b i)

module _ {k : Symbols} (field : FieldLaws k) {g : Dots} (group : GroupLaws g) (e : List ℕ) (t : ℕ) (b : Book) (book : BookOf k g e t b) where
  pub close_from_clash : Lawful k g.order e → (i : ℕ) → i < b.count → RowClash k g e b i → TooClose k g e t
  close_from_clash le i li (inl z) = close_from_code_row field group e le t (own g b i) (book.row_words i li) z
  close_from_clash le i li (inr (j, lj, (s, ls, _, (m, last, ne)))) =
      close_from_rows field group e le t (own g b i) (own g b m) j s (book.row_words i li) (book.row_words m last.0.0) lj ls last.0.1 ne

  own_syndrome_lawful : (i : ℕ) → Lawful k g.order (syndrome k g e (own g b i))
  own_syndrome_lawful i = syndrome_lawful field.sums g e (own g b i)

  -- the row i as the program holds it, and its turns
  module _ (row : Row) (i : ℕ) (li : i < b.count) (is : row ≡ row_at b i) where
    pub read_syndrome : word g.order row.syndrome ≡ syndrome k g e (own g b i)
    read_syndrome = ap (λ (x : Row). word g.order x.syndrome) is ∙ (book.syndromes i li).value

    pub turn_decided : (found : Bool) (j : ℕ) (a w y : Word) → Stores g.order a (row_word g.order row) → Stores g.order w (turned g j (word g.order a)) → Stores g.order y (turned g j (word g.order row.syndrome))
        → (Lawful k g.order (word g.order y) → MatchBool found (TurnClash k g e b (word g.order w) (word g.order y)) (TurnClash k g e b (word g.order w) (word g.order y) → ⊥))
        → MatchBool found (TurnClash k g e b (turned g j (own g b i)) (turned g j (syndrome k g e (own g b i)))) (TurnClash k g e b (turned g j (own g b i)) (turned g j (syndrome k g e (own g b i))) → ⊥)
    turn_decided found j a w y a_stored w_stored y_stored decided =
        let value = y_stored.value ∙ ap (turned g j) read_syndrome in
        subst₂ (λ u v. MatchBool found (TurnClash k g e b u v) (TurnClash k g e b u v → ⊥)) (w_stored.value ∙ ap (turned g j) (a_stored.value ∙ ap (row_word g.order) is)) value
        (decided (subst (Lawful k g.order) (sym value) (turned_lawful field.sums g j (syndrome k g e (own g b i)) (own_syndrome_lawful i))))

    abbrev TurnClashes : ℕ → Type 0
    TurnClashes j = TurnClash k g e b (turned g j (own g b i)) (turned g j (syndrome k g e (own g b i)))

    pub row_clashes_at_zero : word g.order row.syndrome ≡ nought g.order → RowClash k g e b i
    row_clashes_at_zero z = inl (sym read_syndrome ∙ z)

    pub row_clash_decided : (found : Bool) (n : ℕ) → n ≡ g.order → word g.order row.syndrome ≢ nought g.order → MatchBool found ((j : ℕ) × (0 ≤ j) × (j < n) × TurnClashes j) ((j : ℕ) → 0 ≤ j → j < n → TurnClashes j → ⊥) → MatchBool found (RowClash k g e b i) (RowClash k g e b i → ⊥)
    row_clash_decided true n end ne (j, _, lj, clash) = inr (j, omega arith, clash)
    row_clash_decided false n end ne none = elim [ inl z ↦ ne (read_syndrome ∙ z) | inr (j, lj, clash) ↦ none j (omega arith) (omega arith) clash ]

  last_fit_exists : (y : List ℕ) (s i : ℕ) → Lawful k g.order y → Fits k g e b y s i → (m : ℕ) × LastFit k g e b y s (Some m)
  last_fit_exists y s i ly (li, fit) =
      let (m, lm, here, later) = last_below (λ j. y ≡ scaled k g.order s (syndrome k g e (own g b j)))
      (λ j. same_decided field.sums g.order y (scaled k g.order s (syndrome k g e (own g b j))) ly (scaled_lawful field.sums g.order s (syndrome k g e (own g b j))))
      b.count i li fit in
      (m, ((lm, here), λ j lj other. later j lj other.0 other.1))

  module _ (none : (i : ℕ) → i < b.count → RowClash k g e b i → ⊥) where
    turn_is_last : (i j s m : ℕ) → i < b.count → j < g.order → s < k.order → s ≢ 0 → LastFit k g e b (turned g j (syndrome k g e (own g b i))) s (Some m) → turned g j (own g b i) ≡ scaled k g.order s (own g b m)
    turn_is_last i j s m li lj ls nz last =
        let laws = field.sums in
        elim (same_decided laws g.order (turned g j (own g b i)) (scaled k g.order s (own g b m)) (turned_lawful laws g j (own g b i) (book.row_words i li).0) (scaled_lawful laws g.order s (own g b m))) [
          | inl same ↦ same
          | inr ne ↦ absurd (none i li (inr (j, lj, (s, ls, nz, (m, last, ne)))))
        ]

    row_is_last : (i m : ℕ) → i < b.count → LastFit k g e b (syndrome k g e (own g b i)) 1 (Some m) → own g b i ≡ own g b m
    row_is_last i m li last =
        sym (turned_zero group (own g b i) (book.row_words i li).0.0)
        ∙ turn_is_last i 0 1 m li (identity_below group) (one_below field.sums) (omega arith) (subst (λ y. LastFit k g e b y 1 (Some m)) (sym (turned_zero group (syndrome k g e (own g b i)) (own_syndrome_lawful i).0)) last)
        ∙ scaled_one field.sums g.order (own g b m) (book.row_words m last.0.0).0

    same_row : (i j : ℕ) → i < b.count → j < b.count → syndrome k g e (own g b i) ≡ syndrome k g e (own g b j) → own g b i ≡ own g b j
    same_row i j li lj same =
        let (m, last) = last_fit_exists (syndrome k g e (own g b i)) 1 i (own_syndrome_lawful i) (li, sym (scaled_one field.sums g.order (syndrome k g e (own g b i)) (own_syndrome_lawful i))) in
        row_is_last i m li last ∙ sym (row_is_last j m lj (subst (λ y. LastFit k g e b y 1 (Some m)) same last))

    pub apart_without_clash : Lawful k g.order e → TooClose k g e t → ⊥
    apart_without_clash le close =
        let (a, row, ways) = rows_from_close field group e le t close in
        let (i, li, is) = book.complete a row in
        elim ways [
          | inl z ↦ none i li (inl (ap (syndrome k g e) is ∙ z))
          | inr (a', j, s, row', lj, ls, nz, fit, ne) ↦
              let (i', li', is') = book.complete a' row' in
              let y = turned g j (syndrome k g e (own g b i)) in
              let fits : Fits k g e b y s i' = (li', ap (λ x. turned g j (syndrome k g e x)) is ∙ fit ∙ ap (λ x. scaled k g.order s (syndrome k g e x)) (sym is')) in
              let (m, last) = last_fit_exists y s i' (turned_lawful field.sums g j (syndrome k g e (own g b i)) (own_syndrome_lawful i)) fits in
              let same = scaled_cancel field g.order s (syndrome k g e (own g b m)) (syndrome k g e (own g b i')) ls nz (own_syndrome_lawful m) (own_syndrome_lawful i') (sym last.0.1 ∙ fits.1) in
              ne (ap (turned g j) (sym is) ∙ turn_is_last i j s m li lj ls nz last ∙ ap (scaled k g.order s) (same_row m i' last.0.0 li' same ∙ is'))
        ]

  -- what a test of the rows in turn says
  abbrev ClashOf : Row → Type 0
  ClashOf row = (i : ℕ) → i < b.count → row ≡ row_at b i → RowClash k g e b i

  abbrev NoClashOf : Row → Type 0
  NoClashOf row = (i : ℕ) → i < b.count → row ≡ row_at b i → RowClash k g e b i → ⊥

  module _ (le : Lawful k g.order e) (size : length b.rows ≡ 4096) where
    taken : (i : ℕ) → i < b.count → get_or (take b.count b.rows) i no_row ≡ row_at b i
    taken i l = get_or-take b.count b.rows i no_row l

    counted : length (take b.count b.rows) ≡ b.count
    counted = length-take-le b.count b.rows (omega (arith, b.most))

    pub close_decided : (found : Bool) → MatchBool found ((i : ℕ) × (i < length (take b.count b.rows)) × HoldsAt ClashOf (take b.count b.rows) i) (AllWithin NoClashOf (take b.count b.rows) 0 (length (take b.count b.rows))) → MatchBool found (TooClose k g e t) (TooClose k g e t → ⊥)
    close_decided true (i, l, clash) =
        let li : i < b.count = omega (arith, counted) in
        close_from_clash le i li (clash no_row i li (taken i li))
    close_decided false none = apart_without_clash (λ i li. none i no_row (omega arith) (omega (arith, counted)) i li (taken i li)) le
