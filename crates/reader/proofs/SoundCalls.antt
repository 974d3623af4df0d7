-- What the calls answer, by the code that a reader holds.
use Rattle.std.proofs.Common.{◌≡◌, ℕ, ◌<◌, ◌≤◌, List, [], ◌∷◌, length, Some, Ok, Err, sym, refl, ap, ◌∙◌, subst, inl, arith}
use Rattle.algebra.specs.Checks.{Check, Passed, Refused, asked}
use Rattle.algebra.specs.Fields.{Symbols, FieldLaws}
use Rattle.algebra.specs.Groups.{Dots, GroupLaws}
use Rattle.algebra.specs.Refusals.{reach_refused}
use Rattle.algebra.specs.declared.fault.Fault.{Fault}
use Rattle.words.specs.Buffers.{length_check, range_check}
use Rattle.words.specs.Stored.{Stores, word}
use Rattle.words.specs.Words.{at, Lawful, less, syndrome, tabulate, weight}
use Rattle.words.specs.declared.word.Word.{Word}
use Rattle.words.proofs.Weights.{nought_from_weight, weight_nought}
use Rattle.reader.specs.Calls.{Reads, Syndromes, Writes}
use Rattle.codes.specs.GroupCodes.{WrittenAs}
use Rattle.codes.specs.GroupCodes.{Pattern, TooClose, TurnCount, chosen}
use Rattle.codes.specs.Bases.{BasisOf, basis_dots}
use Rattle.books.specs.Books.{BookOf}
use Rattle.reader.specs.Stored.{SoundCode, code_of}
use Rattle.reader.specs.declared.code.Code.{Code}
use Rattle.reader.specs.declared.record.ReadRecord.{ReadRecord}
use Rattle.reader.proofs.CheckLists.{passed_both, refused_after, refused_before}
use Rattle.books.proofs.LightWords.{pattern_unique}
use Rattle.reader.proofs.MarkWords.{of_stores}
use Rattle.reader.proofs.ReadLaws.{passes_lawful}
use Rattle.codes.proofs.TurnCounts.{nought_from_turn_count, turn_count_of_nought}

pub lawful_from_checks : (k : Symbols) (n : ℕ) (w : List ℕ) → length w ≡ n → ((i : ℕ) → i < length w → at w i < k.order) → Lawful k n w
lawful_from_checks k n w size range = (size, λ d h. range d (omega arith))

copied : (n : ℕ) (w b b' : List ℕ) (s : Word) → length b ≡ n → word n s ≡ w → b' ≡ tabulate (length b) (at s.symbols) → b' ≡ w
copied n w b b' s size value copy = copy ∙ ap (λ x. tabulate x (at s.symbols)) size ∙ value

pub syndrome_copied : (k : Symbols) (g : Dots) → GroupLaws g → (c : Code) (w b b' : List ℕ) (mark s : Word) → Passed (length_check (length w) g.order 0 ∷ length_check (length b) g.order 1 ∷ range_check k.order w ∷ []) → mark.symbols ≡ tabulate 64 (at w) → Stores g.order s (syndrome k g (word g.order c.word) (word g.order mark)) → b' ≡ tabulate (length b) (at s.symbols) → Syndromes k g (code_of g.order (Some c)) w b (Ok tt) b'
syndrome_copied k g group c w b b' mark s passed of stores copy =
    ((passed, copied g.order _ b b' s passed.1.0 (stores.value ∙ ap (syndrome k g (word g.order c.word)) (of_stores g.order w mark group.most passed.0 of).value) copy), tt)

module _ {k : Symbols} {g : Dots} (c : Code) (sound : SoundCode k g c) where
  pub write_copied : (m w w' : List ℕ) (s : Word) → Passed (length_check (length m) c.basis.count 0 ∷ length_check (length w) g.order 1 ∷ range_check k.order m ∷ []) → ((e : List ℕ) → Lawful k g.order e → BasisOf k g e c.basis → Lawful k c.basis.count m → WrittenAs k g e (basis_dots c.basis) m (word g.order s)) → w' ≡ tabulate (length w) (at s.symbols) → Writes k g (code_of g.order (Some c)) m w (Ok tt) w'
  write_copied m w w' s (size, (room, (range, _))) written copy =
      let e = word g.order c.word in (
        basis_dots c.basis,
        sound.basis.dots,
        (
          (size ∙ sym sound.basis.many, (room, (range, tt))),
          subst (WrittenAs k g e (basis_dots c.basis) m) (sym (copied g.order _ w w' s room refl copy))
              (written e (passes_lawful k g e c.radius sound.passes) sound.basis (lawful_from_checks k c.basis.count m size range)),
        ),
        tt,
      )

  pub write_refused : (m w : List ℕ) (f : Fault) → Refused (length_check (length m) c.basis.count 0 ∷ length_check (length w) g.order 1 ∷ range_check k.order m ∷ []) f → Writes k g (code_of g.order (Some c)) m w (Err f) w
  write_refused m w f refused = (
    basis_dots c.basis,
    sound.basis.dots,
    subst (λ x. Refused (length_check (length m) x 0 ∷ length_check (length w) g.order 1 ∷ range_check k.order m ∷ []) f) (sym sound.basis.many) refused,
    refl,
  )

  abbrev pub first_checks : ℕ → List ℕ → List ℕ → List ℕ → List Check
  first_checks x r b m = length_check (length r) g.order 0 ∷ length_check (length b) g.order 1 ∷ length_check (length m) x 2 ∷ range_check k.order r ∷ []

  abbrev last_checks : List ℕ → List Check
  last_checks r = asked ((p : List ℕ) × Pattern k g (word g.order c.word) c.radius r p) reach_refused ∷ []

  pub read_refused : (r b m : List ℕ) (f : Fault) → Refused (first_checks c.basis.count r b m) f → Reads k g (code_of g.order (Some c)) r b m (Err f) b m
  read_refused r b m f refused = (
    basis_dots c.basis,
    sound.basis.dots,
    refused_before (first_checks (length (basis_dots c.basis)) r b m) (last_checks r) f (subst (λ x. Refused (first_checks x r b m) f) (sym sound.basis.many) refused),
    (refl, refl),
  )

  passed_first : (r b m : List ℕ) → Passed (first_checks c.basis.count r b m) → Passed (first_checks (length (basis_dots c.basis)) r b m)
  passed_first r b m passed = subst (λ x. Passed (first_checks x r b m)) (sym sound.basis.many) passed

  pub read_unreached : (r b m : List ℕ) → Passed (first_checks c.basis.count r b m) → ((p : List ℕ) → Pattern k g (word g.order c.word) c.radius r p → ⊥) → Reads k g (code_of g.order (Some c)) r b m (Err reach_refused) b m
  read_unreached r b m passed none = (
    basis_dots c.basis,
    sound.basis.dots,
    refused_after (first_checks (length (basis_dots c.basis)) r b m) (last_checks r) reach_refused (passed_first r b m passed) (inl ((λ found. none found.0 found.1), refl)),
    (refl, refl),
  )

  apart : TooClose k g (word g.order c.word) c.radius → ⊥
  apart = let (_, (_, (_, (_, (_, (_, (apart, _))))))) = sound.passes in apart

  few : c.radius ≤ 3
  few = let (_, (_, (few, _))) = sound.passes in few

  -- p is a pattern of r with its number of turns, of which a record can be made
  abbrev pub Found : List ℕ → List ℕ → ℕ → Type 0
  Found r p turns = Pattern k g (word g.order c.word) c.radius r p × TurnCount g p turns × (weight p ≤ 3) × (weight p ≡ 0 → turns ≡ 0) × (turns ≡ 0 → weight p ≡ 0)

  module _ (field : FieldLaws k) (group : GroupLaws g) (r b m : List ℕ) (passed : Passed (first_checks c.basis.count r b m)) (mark : Word) (of : mark.symbols ≡ tabulate 64 (at r)) where
    received_stored : word g.order mark ≡ r
    received_stored = (of_stores g.order r mark group.most passed.0 of).value

    -- what a search of the book finds for the syndrome of what was received
    pub searched : {X : List ℕ → ℕ → List ℕ → Type 0} (s : Word) → Stores g.order s (syndrome k g (word g.order c.word) (word g.order mark)) → ((e : List ℕ) (t : ℕ) (w : List ℕ) → Lawful k g.order e → Lawful k g.order w → BookOf k g e t c.book → (TooClose k g e t → ⊥) → Stores g.order s (syndrome k g e w) → X e t w) → X (word g.order c.word) c.radius r
    searched s stores search =
        let e = word g.order c.word in
        let (size, (_, (_, (range, _)))) = passed in
        search e c.radius r (passes_lawful k g e c.radius sound.passes) (lawful_from_checks k g.order r size range) sound.book apart
        (subst (λ w. Stores g.order s (syndrome k g e w)) received_stored stores)

    -- of what the search finds a record can be made
    pub recorded : (p : List ℕ) (turns : ℕ) → Pattern k g (word g.order c.word) c.radius r p → TurnCount g p turns → Found r p turns
    recorded p turns pattern count = (
      pattern,
      count,
      omega (arith, few, pattern.1),
      λ z. turn_count_of_nought group p turns count (nought_from_weight g.order p pattern.0.0 z),
      λ z. ap weight (nought_from_turn_count group p turns count z) ∙ weight_nought g.order,
    )

    pub read_mended : (p whole : Word) (a : ReadRecord) (b' m' : List ℕ) → Found r (word g.order p) a.turns → Stores g.order whole (less k g.order (word g.order mark) (word g.order p)) → a.wrong ≡ weight (word g.order p) → b' ≡ tabulate (length b) (at whole.symbols) → m' ≡ chosen (basis_dots c.basis) (word g.order whole) → Reads k g (code_of g.order (Some c)) r b m (Ok a) b' m'
    read_mended p whole a b' m' (pattern, count, _, _, _) stores weighed copy message =
        let q = word g.order p in
        let e = word g.order c.word in
        let taken : b' ≡ word g.order whole = copied g.order _ b b' whole passed.1.0 refl copy in (
          basis_dots c.basis,
          sound.basis.dots,
          (
            passed_both (first_checks (length (basis_dots c.basis)) r b m) (last_checks r) (passed_first r b m passed) ((q, pattern), tt),
            (
              q,
              record {
                pattern = pattern;
                only = λ o other. pattern_unique field group e (passes_lawful k g e c.radius sound.passes) c.radius apart r o q other pattern;
                wrong = weighed;
                turns = count;
                mended = taken ∙ stores.value ∙ ap (λ w. less k g.order w q) received_stored;
                message = message ∙ ap (chosen (basis_dots c.basis)) (sym taken);
              },
            ),
          ),
          tt,
        )
