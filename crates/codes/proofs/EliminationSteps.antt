-- The steps of the elimination as the program makes them.
--     Clearing k n p b s d t     t is s with the words of the pivots below d cleared
--     ListedBelow n s d rows m   the rows begin with the m pivots of s below d
use Rattle.std.proofs.Common.{◌≡◌, ℕ, zero, suc, ◌+◌, ◌<◌, ◌≤◌, true, false, cond, eqb, ◌≢◌, List, [], ◌∷◌, ◌++◌, map, length, get_or, take, set, replicate, Option, Some, None, is_some, unwrap_or, sym, refl, ap, ◌∙◌, subst, ap₂, inl, inr, arith}
use Rattle.std.proofs.lemmas.List.{get_or-map, get_or-set_same, get_or-set_other, get_or-take, length-map, length-set, length-take, length_push, map-append, take_more_set}
use Rattle.std.proofs.lemmas.Bool.{cases_eq, cond-true, cond-false, eq-eqb, ne_eqb}
use Rattle.algebra.specs.Checks.{FirstWithout}
use Rattle.algebra.specs.Fields.{Symbols, SumProductLaws, FieldLaws}
use Rattle.algebra.specs.Groups.{Dots}
use Rattle.words.specs.Stored.{Stores, word}
use Rattle.words.specs.Words.{at, Lawful, nought, less, scaled, turned, Keeps}
use Rattle.words.specs.declared.word.Word.{Word}
use Rattle.words.proofs.Linear.{at_nought}
use Rattle.words.proofs.Stored.{at_word, zero_stores}
use Rattle.words.proofs.Turning.{turned_lawful}
use Rattle.codes.specs.Eliminations.{Absorbs, Extended, Listed, Reduced, Spans, Within, cleared, pivot_at, pivots, residual, word_at}
use Rattle.codes.specs.GroupCodes.{Leads, MessageDots}
use Rattle.codes.specs.Bases.{BasisOf, basis_dots, no_row, no_word}
use Rattle.codes.specs.declared.basis.Basis.{Basis}
use Rattle.codes.specs.declared.basis.BasisRow.{BasisRow}
use Rattle.codes.specs.declared.basis.elimination.Elimination.{Elimination}
use Rattle.codes.proofs.BasisSteps.{residual_below, residual_below_more, residual_below_skip}
use Rattle.codes.proofs.Elimination.{extended_reduced, residual_extended_nought, new_row, residual_extended_by}
use Rattle.codes.proofs.MessageWords.{pivots_are_message_dots}
use Rattle.codes.proofs.PivotLists.{pivots_more, pivots_skip, pivots_none, pivots_listed}
use Rattle.codes.proofs.Residuals.{reduced_without_pivots, residual_lawful}

-- the word of n symbols that a row of the elimination holds, or zeros
abbrev pub row_word : ℕ → Option Word → List ℕ
row_word n r = word n (unwrap_or r no_word)

-- a row among the first n
pub row_read : (rows : List (Option Word)) (n d : ℕ) → d < length (take n rows) → (d < n) × (get_or rows d None ≡ get_or (take n rows) d None)
row_read rows n d h =
    let below : d < n = omega (arith, length-take n rows) in (below, sym (get_or-take n rows d None below))

abbrev row_dot : BasisRow → ℕ
row_dot r = r.dot

pub get_or-basis_dots : (b : Basis) → length (basis_dots b) ≡ b.count → (i : ℕ) → i < b.count → get_or (basis_dots b) i 0 ≡ (get_or b.rows i no_row).dot
get_or-basis_dots b many i h =
    get_or-map row_dot (take b.count b.rows) i no_row 0 (omega (arith, many, length-map (take b.count b.rows) row_dot)) ∙ ap row_dot (get_or-take b.count b.rows i no_row h)

pub record Clearing (k : Symbols) (n p : ℕ) (b : List ℕ) (s : Elimination) (d : ℕ) (t : Elimination) : Type 0 where
  pub many : length t.rows ≡ length s.rows
  pub pivots : (i : ℕ) → pivot_at t i ≡ pivot_at s i
  pub below : (i : ℕ) → i < d → pivot_at s i ≡ true → word_at n t i ≡ cleared k n p b (word_at n s i)
  pub rest : (i : ℕ) → d ≤ i → word_at n t i ≡ word_at n s i

-- a turn of the loop over the rows of s, at a pivot and elsewhere: u is left before it, and v after it
module _ {k : Symbols} (laws : SumProductLaws k) {g : Dots} {e : List ℕ} (s : Elimination) (reduced : Reduced k g e (pivot_at s) (word_at g.order s)) (w : List ℕ) (lw : Lawful k g.order w) (d : ℕ) (u v : List ℕ) (left : u ≡ residual_below k g.order (pivot_at s) (word_at g.order s) w d) where
  pub residual_taken : d < g.order → (b : Word) → get_or s.rows d None ≡ Some b → v ≡ cleared k g.order d (word g.order b) u → v ≡ residual_below k g.order (pivot_at s) (word_at g.order s) w (d + 1)
  residual_taken h b is same =
      same
      ∙ ap₂ (cleared k g.order d) (sym (ap (row_word g.order) is)) left
      ∙ sym (residual_below_more laws reduced w lw d h (ap is_some is))

  pub residual_kept : get_or s.rows d None ≡ None → v ≡ u → v ≡ residual_below k g.order (pivot_at s) (word_at g.order s) w (d + 1)
  residual_kept none same = same ∙ left ∙ sym (residual_below_skip laws g.order (pivot_at s) (word_at g.order s) w d (ap is_some none))

-- u less b scaled by the symbol of u at p, where that symbol is a
pub stores_cleared : (k : Symbols) (n p a : ℕ) (b u share r : Word) → p < n → a ≡ at u.symbols p → Stores n share (scaled k n a (word n b)) → Stores n r (less k n (word n u) (word n share)) → Stores n r (cleared k n p (word n b) (word n u))
stores_cleared k n p a b u share r h is s l = record {
  value = l.value ∙ ap (less k n (word n u)) (s.value ∙ ap (λ x. scaled k n x (word n b)) (is ∙ at_word n u p h));
  rest = l.rest;
}

-- the first dot at which a word differs from the zero word leads it
pub leads_from_difference : (n : ℕ) (u : List ℕ) (z : Word) (p : ℕ) → z.symbols ≡ nought 64 → p < n → FirstWithout (λ d. at u d ≡ at (word n z) d) p → Leads u p
leads_from_difference n u z p is h (differs, before) =
    let zero_at : (d : ℕ) → d < n → at (word n z) d ≡ 0 = λ d l. ap (λ v. at v d) (zero_stores n z is).value ∙ at_nought n d l in
    (λ zero_here. differs (zero_here ∙ sym (zero_at p h)), λ i l. before i l ∙ zero_at i (omega arith))

inverse_found : {k : Symbols} → FieldLaws k → (x a : ℕ) → x < k.order → x ≢ 0 → k.inverse x ≡ Some a → (a < k.order) × (k.product x a ≡ 1)
inverse_found laws x a lx ne found =
    let (b, is, below, one) = laws.inverse_cancels x lx ne in
    let same : a ≡ b = cc in
    (omega arith, cc)

inverse_there : {k : Symbols} → FieldLaws k → (x : ℕ) → x < k.order → x ≢ 0 → k.inverse x ≡ None → ⊥
inverse_there laws x lx ne none = let (b, is, _, _) = laws.inverse_cancels x lx ne in let z : ◌≡◌ {A = ℕ} 0 1 = cc in omega arith

-- u is the residual of the word w, which is to be absorbed
module _ {k : Symbols} (laws : FieldLaws k) {g : Dots} {e : List ℕ} (le : Lawful k g.order e) (s : Elimination) (reduced : Reduced k g e (pivot_at s) (word_at g.order s)) (w : List ℕ) (cw : Keeps k g e w) (u : List ℕ) (is : u ≡ residual k g.order (pivot_at s) (word_at g.order s) w) where
  pub absorbs_within : u ≡ nought g.order → Absorbs k g e s w s
  absorbs_within z = record { reduced = reduced; absorbed = sym is ∙ z; still = λ v _ y. y }

  module _ (p : ℕ) (lp : p < g.order) (leads : Leads u p) where
    lead_below : at u p < k.order
    lead_below = subst (λ v. at v p < k.order) (sym is) ((residual_lawful laws.sums g.order (pivot_at s) (word_at g.order s) w).1 p lp)

    pub lead_has_inverse : k.inverse (at u p) ≡ None → ⊥
    lead_has_inverse = inverse_there laws (at u p) lead_below leads.0

    pub absorbs_extended : (a : ℕ) → k.inverse (at u p) ≡ Some a → (b : List ℕ) → b ≡ scaled k g.order a u → (t : Elimination) → Extended k g.order (pivot_at s) (word_at g.order s) p b (pivot_at t) (word_at g.order t) → Absorbs k g e s w t
    absorbs_extended a found b same t extended =
        let (la, one) = inverse_found laws (at u p) a lead_below leads.0 found in
        let one' = subst (λ v. k.product (at v p) a ≡ 1) is one in
        let leads' = subst (λ v. Leads v p) is leads in
        let extended' = subst (λ v. Extended k g.order (pivot_at s) (word_at g.order s) p v (pivot_at t) (word_at g.order t)) (same ∙ ap (scaled k g.order a) is) extended in
        let new = new_row laws.sums le reduced w cw p lp a la one' leads' in record {
          reduced = extended_reduced laws.sums reduced new extended' le;
          absorbed = residual_extended_by laws.sums le reduced w cw p lp a la one' leads' extended';
          still = residual_extended_nought laws.sums reduced new extended' le;
        }

no_pivots : (m d : ℕ) → pivot_at (record { rows = replicate m None }) d ≡ false
no_pivots zero d = refl
no_pivots (suc m) zero = refl
no_pivots (suc m) (suc d) = no_pivots m d

pub spans_none : (k : Symbols) (g : Dots) (e : List ℕ) → Spans k g e 0 (record { rows = replicate 64 None })
spans_none k g e = record {
  reduced = reduced_without_pivots k g e _ _ (λ d _. no_pivots 64 d);
  turns = λ j h. absurd (omega arith);
}

pub spans_more : {k : Symbols} → SumProductLaws k → (g : Dots) (e : List ℕ) → Lawful k g.order e → (j : ℕ) (s t : Elimination) → Spans k g e j s → Absorbs k g e s (turned g j e) t → Spans k g e (j + 1) t
spans_more {k} laws g e le j s t spans absorbs = record {
  reduced = absorbs.reduced;
  turns = λ i h. elim (cases_eq i j) [
    | inl same ↦ subst (λ x. Within k g.order t (turned g x e)) (sym same) absorbs.absorbed
    | inr ne ↦ absorbs.still (turned g i e) (turned_lawful laws g i e le) (spans.turns i (omega arith))
  ];
}

pub record ListedBelow (n : ℕ) (s : Elimination) (d : ℕ) (rows : List BasisRow) (m : ℕ) : Type 0 where
  pub few : m ≤ d
  pub many : length rows ≡ 64
  pub count : m ≡ length (pivots d (pivot_at s))
  pub dots : map row_dot (take m rows) ≡ pivots d (pivot_at s)
  pub words : (i : ℕ) → i < m → word n (get_or rows i no_row).word ≡ word_at n s (get_or rows i no_row).dot

module _ (n : ℕ) (s : Elimination) where
  pub listed_none : (rows : List BasisRow) → length rows ≡ 64 → ListedBelow n s 0 rows 0
  listed_none rows many = record {
    few = omega arith;
    many = many;
    count = sym (ap length (pivots_none (pivot_at s)));
    dots = sym (pivots_none (pivot_at s));
    words = λ i h. absurd (omega arith);
  }

  pub listed_same : (d : ℕ) (rows others : List BasisRow) (m l : ℕ) → others ≡ rows → l ≡ m → ListedBelow n s d rows m → ListedBelow n s d others l
  listed_same d rows others m l p q h = subst (λ x. ListedBelow n s d x l) (sym p) (subst (ListedBelow n s d rows) (sym q) h)

  pub listed_skip : (d : ℕ) (rows : List BasisRow) (m : ℕ) → get_or s.rows d None ≡ None → ListedBelow n s d rows m → ListedBelow n s (d + 1) rows m
  listed_skip d rows m none l = let e = sym (pivots_skip (pivot_at s) d (ap is_some none)) in record {
    few = omega arith;
    many = l.many;
    count = l.count ∙ ap length e;
    dots = l.dots ∙ e;
    words = l.words;
  }

  pub listed_more : (d : ℕ) (rows : List BasisRow) (m : ℕ) (w : Word) → d < 64 → get_or s.rows d None ≡ Some w → ListedBelow n s d rows m → ListedBelow n s (d + 1) (set rows m (record { dot = d; word = w })) (m + 1)
  listed_more d rows m w h is l =
      let more = pivots_more (pivot_at s) d (ap is_some is) in
      let new : BasisRow = record { dot = d; word = w } in record {
        few = omega arith;
        many = length-set rows m new ∙ l.many;
        count = omega (arith, l.count, ap length more, length_push (pivots d (pivot_at s)) d);
        dots =
            ap (map row_dot) (take_more_set rows m new (omega (arith, l.many)))
            ∙ map-append row_dot (take m rows) (new ∷ [])
            ∙ ap (λ t. t ++ d ∷ []) l.dots
            ∙ sym more;
        words = λ i li. elim (cases_eq i m) [
          | inl same ↦
              subst (λ j. word n (get_or (set rows m new) j no_row).word ≡ word_at n s (get_or (set rows m new) j no_row).dot) (sym same)
              (subst (λ (r : BasisRow). word n r.word ≡ word_at n s r.dot) (sym (get_or-set_same rows m new no_row (omega (arith, l.many)))) (sym (ap (row_word n) is)))
          | inr ne ↦
              subst (λ (r : BasisRow). word n r.word ≡ word_at n s r.dot) (sym (get_or-set_other rows m i new no_row ne)) (l.words i (omega arith))
        ];
      }

abbrev dot : Basis → ℕ → ℕ
dot b i = get_or (basis_dots b) i 0

module _ {k : Symbols} (laws : SumProductLaws k) {g : Dots} {e : List ℕ} (le : Lawful k g.order e) {s : Elimination} (spans : Spans k g e g.order s) {b : Basis} (listed : Listed g.order s b) where
  dot_listed : (i : ℕ) → i < b.count → (dot b i < g.order) × (pivot_at s (dot b i) ≡ true) × (length (pivots (dot b i) (pivot_at s)) ≡ i)
  dot_listed i h =
      subst (λ ds. (get_or ds i 0 < g.order) × (pivot_at s (get_or ds i 0) ≡ true) × (length (pivots (get_or ds i 0) (pivot_at s)) ≡ i)) (sym listed.dots)
      (pivots_listed (pivot_at s) g.order i (omega (arith, listed.count)))

  pub basis_from_spans : BasisOf k g e b
  basis_from_spans = record {
    dots = subst (MessageDots k g e) (sym listed.dots) (pivots_are_message_dots laws le spans.reduced spans.turns);
    many = ap length listed.dots ∙ sym listed.count;
    keeps = λ i h. let (l, p, _) = dot_listed i h in subst (Keeps k g e) (sym (listed.words i h)) (spans.reduced.keeps (dot b i) l p);
    units = λ i j hi hj. let (li, pi, si) = dot_listed i hi in let (lj, pj, sj) = dot_listed j hj in
        ap (λ w. at w (dot b j)) (listed.words i hi) ∙ (elim (cases_eq i j) as (λ _. at (word_at g.order s (dot b i)) (dot b j) ≡ cond (eqb i j) 1 0) [
          | inl same ↦ ap (at (word_at g.order s (dot b i))) (ap (dot b) (sym same)) ∙ spans.reduced.one_here (dot b i) li pi ∙ sym (cond-true (eqb i j) 1 0 (eq-eqb i j same))
          | inr ne ↦
              spans.reduced.zero_at_pivots (dot b i) li pi (dot b j) lj pj (λ same. ne (sym si ∙ ap (λ d. length (pivots d (pivot_at s))) (sym same) ∙ sj))
              ∙ sym (cond-false (eqb i j) 1 0 (ne_eqb i j ne))
        ]);
  }
