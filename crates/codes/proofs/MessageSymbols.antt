-- The symbols at the message dots: they tell code words apart, and a basis makes the code word of each message.
--     Written k n ps mark   mark holds the sum, over the pairs of a symbol and a row, of the symbol times the row's word
use Rattle.std.proofs.Common.{◌≡◌, ℕ, zero, suc, ◌<◌, ◌≤◌, true, eqb, ◌⊎◌, List, [], ◌∷◌, ◌++◌, length, get_or, take, sym, refl, ap, ◌∙◌, subst, ap₂, inl, inr, arith}
use Rattle.std.specs.List.{zip}
use Rattle.std.proofs.lemmas.List.{get_or-map, get_or-take, get_or_append_left, get_or_push, length-map, length_push}
use Rattle.std.proofs.lemmas.Slice.Zip.{get_or-zip, length-zip}
use Rattle.std.proofs.lemmas.Bool.{cases_eq, cond-true, cond-false, eq-eqb, ne_eqb}
use Rattle.algebra.specs.Fields.{Symbols, SumProductLaws}
use Rattle.algebra.specs.Groups.{Dots}
use Rattle.words.specs.Stored.{Stores, word}
use Rattle.words.specs.Words.{at, Lawful, nought, plus, less, scaled, Keeps}
use Rattle.words.specs.declared.word.Word.{Word}
use Rattle.words.proofs.CodeWords.{nought_keeps, plus_keeps, less_keeps, scaled_keeps}
use Rattle.algebra.proofs.SumProducts.{product_zero}
use Rattle.words.proofs.Linear.{at_less, at_nought, lawful_at, nought_lawful, same_from_less}
use Rattle.words.proofs.Spans.{spanned, at_spanned, spanned_closed}
use Rattle.words.proofs.Stored.{at_word, zero_stores}
use Rattle.words.proofs.Tabulate.{tabulate_ext, word_ext}
use Rattle.words.proofs.Totals.{total_cong, total_one_term, field_adds}
use Rattle.codes.specs.GroupCodes.{Leads, MessageDots, WrittenAs, chosen}
use Rattle.codes.specs.Bases.{BasisOf, basis_dots, basis_word, no_row}
use Rattle.codes.specs.declared.basis.Basis.{Basis}
use Rattle.codes.specs.declared.basis.BasisRow.{BasisRow}
use Rattle.codes.proofs.BasisSteps.{combination_below, combination_below_none, combination_below_more}
use Rattle.codes.proofs.EliminationSteps.{get_or-basis_dots}

first_nonzero : (w : List ℕ) (m : ℕ) → ((d : ℕ) → d < m → at w d ≡ 0) ⊎ ((d : ℕ) × (d < m) × Leads w d)
first_nonzero w zero = inl (λ d h. absurd (omega arith))
first_nonzero w (suc m) = elim (first_nonzero w m) [
  | inl zeros ↦ elim (cases_eq (at w m) 0) [
    | inl z ↦ inl (λ d h. elim (cases_eq d m) [ inl s ↦ ap (at w) s ∙ z | inr ne ↦ zeros d (omega arith) ])
    | inr other ↦ inr (m, omega arith, (other, zeros))
  ]
  | inr (d, h, leads) ↦ inr (d, omega arith, leads)
]

at_chosen : (ds w : List ℕ) (i : ℕ) → i < length ds → at (chosen ds w) i ≡ at w (get_or ds i 0)
at_chosen ds w i h = get_or-map (at w) ds i 0 0 h

module _ {k : Symbols} (laws : SumProductLaws k) where
  -- the symbols of a lawful word are a lawful message
  pub chosen_lawful : (n : ℕ) (ds w : List ℕ) → Lawful k n w → Lawful k (length ds) (chosen ds w)
  chosen_lawful n ds w lw = (length-map ds (at w), λ i h. subst (λ x. x < k.order) (sym (at_chosen ds w i h)) (lawful_at laws n w lw (get_or ds i 0)))

  -- code words with the same symbols at the message dots are the same
  pub same_from_message_dots : (g : Dots) (e : List ℕ) → Lawful k g.order e → (ds : List ℕ) → MessageDots k g e ds → (u v : List ℕ) → Keeps k g e u → Keeps k g e v → chosen ds u ≡ chosen ds v → u ≡ v
  same_from_message_dots g e le ds dots u v ku kv same = same_from_less laws n u v ku.0 kv.0 (elim (first_nonzero w n) [
    | inl zeros ↦ word_ext w (nought n) kw.0.0 (nought_lawful laws n).0 (λ d h. zeros d h ∙ sym (at_nought n d h))
    | inr (d, h, leads) ↦ let (i, li, is) = dots.2 d (h, (w, kw, leads)) in absurd (leads.0 (
        at_less k n u v d h ∙ ap (λ x. k.sum (at u d) (k.opposite x)) (sym (at_same i li d is)) ∙ laws.sum_opposite (at u d) (ku.0.1 d h)))
  ])
    where
      n : ℕ
      n = g.order

      w : List ℕ
      w = less k g.order u v

      kw : Keeps k g e (less k g.order u v)
      kw = less_keeps laws g e le u v ku kv

      at_same : (i : ℕ) → i < length ds → (d : ℕ) → get_or ds i 0 ≡ d → at u d ≡ at v d
      at_same i li d is =
          ap (at u) (sym is) ∙ sym (at_chosen ds u i li) ∙ ap (λ m. at m i) same ∙ at_chosen ds v i li ∙ ap (at v) is

-- writing the symbols of a code word gives it back
pub written_chosen : (k : Symbols) (g : Dots) (e ds v w : List ℕ) → WrittenAs k g e ds (chosen ds w) v → Keeps k g e w → v ≡ w
written_chosen k g e ds v w written kw = sym (written.2 w kw refl)

module _ {k : Symbols} (laws : SumProductLaws k) {g : Dots} {e : List ℕ} (le : Lawful k g.order e) {b : Basis} (basis : BasisOf k g e b) (m : List ℕ) (lm : Lawful k b.count m) where
  at_written : (i : ℕ) → i < b.count → at (spanned k g.order (at m) (basis_word g.order b) b.count) (get_or (basis_dots b) i 0) ≡ at m i
  at_written i h =
      at_spanned k g.order (at m) (basis_word g.order b) b.count d (basis.dots.1 i (omega (arith, basis.many))).0
      ∙ total_one_term (field_adds laws) (λ j. k.product (at m j) (at (basis_word g.order b j) d)) i b.count h (laws.product_below (at m i) (at (basis_word g.order b i) d)) (λ j l ne.
      ap (k.product (at m j)) (basis.units j i l h ∙ cond-false (eqb j i) 1 0 (ne_eqb j i ne)) ∙ product_zero laws (at m j) (lm.1 j l))
      ∙ ap (k.product (at m i)) (basis.units i i h h ∙ cond-true (eqb i i) 1 0 (eq-eqb i i refl))
      ∙ laws.product_one (at m i) (lm.1 i h)
    where
      d : ℕ
      d = get_or (basis_dots b) i 0

  pub written_by_basis : WrittenAs k g e (basis_dots b) m (spanned k g.order (at m) (basis_word g.order b) b.count)
  written_by_basis = (kept, found, λ v kv same. same_from_message_dots laws g e le (basis_dots b) basis.dots v w kv kept (same ∙ sym found))
    where
      w : List ℕ
      w = spanned k g.order (at m) (basis_word g.order b) b.count

      kept : Keeps k g e (spanned k g.order (at m) (basis_word g.order b) b.count)
      kept = spanned_closed laws g.order (Keeps k g e) (nought_keeps laws g e le) (plus_keeps laws g e le) (scaled_keeps laws g e le) (at m) (basis_word g.order b) b.count lm.1 basis.keeps

      found : chosen (basis_dots b) (spanned k g.order (at m) (basis_word g.order b) b.count) ≡ m
      found = word_ext _ m (length-map (basis_dots b) (at (spanned k g.order (at m) (basis_word g.order b) b.count)) ∙ basis.many) lm.0 (λ i h.
          at_chosen (basis_dots b) _ i (omega (arith, basis.many)) ∙ at_written i h)

abbrev no_pair : ℕ × BasisRow
no_pair = (0, no_row)

abbrev symbols_of : List (ℕ × BasisRow) → ℕ → ℕ
symbols_of ps i = (get_or ps i no_pair).0

abbrev words_of : ℕ → List (ℕ × BasisRow) → ℕ → List ℕ
words_of n ps i = word n (get_or ps i no_pair).1.word

-- the fold that writes
pub record Written (k : Symbols) (n : ℕ) (ps : List (ℕ × BasisRow)) (mark : Word) : Type 0 where
  pub value : word n mark ≡ spanned k n (symbols_of ps) (words_of n ps) (length ps)
  pub rest : (d : ℕ) → n ≤ d → at mark.symbols d ≡ 0

module _ (k : Symbols) (n : ℕ) where
  spanned_cong : (c a : ℕ → ℕ) (W V : ℕ → List ℕ) (m : ℕ) → ((d : ℕ) → d < m → c d ≡ a d) → ((d : ℕ) → d < m → W d ≡ V d) → spanned k n c W m ≡ spanned k n a V m
  unfolding spanned
  spanned_cong c a W V m symbols words = tabulate_ext n _ _ (λ x h. total_cong k _ _ m (λ d l. ap₂ (λ y w. k.product y (at w x)) (symbols d l) (words d l)))

  pub written_none : (mark : Word) → mark.symbols ≡ nought 64 → Written k n [] mark
  unfolding spanned combination_below
  written_none mark is = let zero = zero_stores n mark is in record {
    value = zero.value ∙ sym (combination_below_none k n (λ _. true) (words_of n []) (symbols_of []));
    rest = zero.rest;
  }

  pub written_more : (ps : List (ℕ × BasisRow)) (p : ℕ × BasisRow) (before share after : Word) → Written k n ps before → Stores n share (scaled k n p.0 (word n p.1.word)) → Stores n after (plus k n (word n before) (word n share)) → Written k n (ps ++ p ∷ []) after
  unfolding spanned combination_below
  written_more ps p before share after w s a =
      let more = ps ++ p ∷ [] in
      let here = sym (get_or_push ps p no_pair (length ps) refl) in
      let earlier = λ (d : ℕ) (l : d < length ps). sym (get_or_append_left ps (p ∷ []) no_pair d l) in record {
        value =
            a.value
            ∙ ap₂ (plus k n) (w.value ∙ spanned_cong (symbols_of ps) (symbols_of more) (words_of n ps) (words_of n more) (length ps) (λ d l. ap (λ (q : ℕ × BasisRow). q.0) (earlier d l)) (λ d l. ap (λ (q : ℕ × BasisRow). word n q.1.word) (earlier d l)))
            (s.value ∙ ap (λ (q : ℕ × BasisRow). scaled k n q.0 (word n q.1.word)) here)
            ∙ sym (combination_below_more k n (λ _. true) (words_of n more) (symbols_of more) (length ps) refl)
            ∙ ap (spanned k n (symbols_of more) (words_of n more)) (sym (length_push ps p));
        rest = a.rest;
      }

  pub written_all : (b : Basis) (m : List ℕ) (mark : Word) → length m ≡ b.count → length (take b.count b.rows) ≡ b.count → Written k n (zip m (take b.count b.rows)) mark → word n mark ≡ spanned k n (at m) (basis_word n b) b.count
  written_all b m mark lm lb w =
      let rows = take b.count b.rows in
      let pair = λ (d : ℕ) (l : d < b.count). get_or-zip m rows d no_pair (omega arith) (omega arith) in
      w.value
      ∙ ap (spanned k n (symbols_of (zip m rows)) (words_of n (zip m rows))) (omega (arith, length-zip m rows))
      ∙ spanned_cong (symbols_of (zip m rows)) (at m) (words_of n (zip m rows)) (basis_word n b) b.count (λ d l. ap (λ (q : ℕ × BasisRow). q.0) (pair d l)) (λ d l.
      ap (λ (q : ℕ × BasisRow). word n q.1.word) (pair d l) ∙ ap (λ (r : BasisRow). word n r.word) (get_or-take b.count b.rows d no_row l))

-- what the loop that reads leaves
pub chosen_from_dots : (k : Symbols) (g : Dots) (e : List ℕ) (b : Basis) → BasisOf k g e b → (mark : Word) (m : List ℕ) → length m ≡ b.count → ((i : ℕ) → i < b.count → at m i ≡ at mark.symbols (get_or b.rows i no_row).dot) → m ≡ chosen (basis_dots b) (word g.order mark)
chosen_from_dots k g e b basis mark m many same = word_ext m _ many (length-map (basis_dots b) (at (word g.order mark)) ∙ basis.many) (λ i h.
    same i h
    ∙ ap (at mark.symbols) (sym (get_or-basis_dots b basis.many i h))
    ∙ at_word g.order mark (get_or (basis_dots b) i 0) (basis.dots.1 i (omega (arith, basis.many))).0
    ∙ sym (at_chosen (basis_dots b) (word g.order mark) i (omega (arith, basis.many))))
