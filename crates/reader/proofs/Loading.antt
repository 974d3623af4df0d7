-- What the checks of a load tell, and what a load leaves. Here w is what is stored of the word e.
--     Sizes k g e t         e and t pass the checks of sizes, which come first
use Rattle.std.proofs.Common.{◌≡◌, ℕ, ◌≤◌, List, [], ◌∷◌, length, Some, Option, sym, refl, ap, ◌∙◌, subst, ap₂, inl, inr}
use Rattle.algebra.specs.Checks.{Check, Passed, Refused, asked}
use Rattle.algebra.specs.Fields.{Symbols}
use Rattle.algebra.specs.Groups.{Dots}
use Rattle.algebra.specs.Refusals.{book_refused, close_refused, radius_refused}
use Rattle.algebra.specs.declared.fault.Fault.{Fault}
use Rattle.words.specs.Buffers.{length_check, range_check}
use Rattle.words.specs.Stored.{word}
use Rattle.words.specs.Words.{Keeps, Lawful, times}
use Rattle.words.specs.declared.word.Word.{Word}
use Rattle.words.proofs.Tabulate.{length_tabulate, word_ext}
use Rattle.codes.specs.GroupCodes.{MessageDots, TooClose, rows}
use Rattle.reader.specs.Histories.{Call, InForce, load, loaded, refused}
use Rattle.reader.specs.Loads.{Passes, central_check, idempotent_check, load_checks}
use Rattle.codes.specs.Bases.{basis_dots}
use Rattle.reader.specs.Stored.{Lived, SoundCode}
use Rattle.reader.specs.declared.code.Code.{Code}
use Rattle.reader.proofs.CheckLists.{refused_after, refused_before}
use Rattle.reader.proofs.Refusing.{load_fails}

abbrev size_checks : Symbols → Dots → List ℕ → ℕ → List Check
size_checks k g e t = length_check (length e) g.order 0 ∷ range_check k.order e ∷ asked (t ≤ 3) radius_refused ∷ asked (rows g.order k.order t ≤ 4096) book_refused ∷ []

abbrev pub Sizes : Symbols → Dots → List ℕ → ℕ → Type 0
Sizes k g e t = Passed (size_checks k g e t)

module _ (k : Symbols) (g : Dots) (w : Word) (e : List ℕ) (t : ℕ) (same : word g.order w ≡ e) (sizes : Sizes k g e t) where
  abbrev v : List ℕ
  v = word g.order w

  sizes_stored : Sizes k g v t
  sizes_stored = subst (λ u. Sizes k g u t) (sym same) sizes

  pub lawful : Lawful k g.order v
  lawful = let s = sizes_stored in (s.0, λ d h. s.1.0 d (rw s.0 h))

  pub keeps : (idempotent_check k g v).asks → Keeps k g v v
  unfolding times
  keeps square = (lawful, word_ext (times k g v v) v (length_tabulate _ _) lawful.0 square)

  abbrev last_checks : List Check
  last_checks = central_check k g v ∷ asked (TooClose k g v t → ⊥) close_refused ∷ []

  after_sizes : (f : Fault) → Refused (idempotent_check k g v ∷ last_checks) f → Refused (load_checks k g e t) f
  after_sizes f later =
      subst (λ u. Refused (load_checks k g u t) f) same (refused_after (size_checks k g v t) (idempotent_check k g v ∷ last_checks) f sizes_stored later)

  pub not_idempotent : (f : Fault) → Refused (idempotent_check k g v ∷ []) f → Refused (load_checks k g e t) f
  not_idempotent f fails = after_sizes f (refused_before (idempotent_check k g v ∷ []) last_checks f fails)

  pub not_central : (f : Fault) → (idempotent_check k g v).asks → Refused (central_check k g v ∷ []) f → Refused (load_checks k g e t) f
  not_central f square fails =
      after_sizes f (inr (square, refused_before (central_check k g v ∷ []) (asked (TooClose k g v t → ⊥) close_refused ∷ []) f fails))

  pub close : (idempotent_check k g v).asks → (central_check k g v).asks → TooClose k g v t → Refused (load_checks k g e t) close_refused
  close square central near = after_sizes close_refused (inr (square, inr (central, inl ((λ far. far near), refl))))

  pub passes : (idempotent_check k g v).asks → (central_check k g v).asks → (TooClose k g v t → ⊥) → Passes k g v t
  passes square central far =
      let s = sizes_stored in (s.0, (s.1.0, (s.1.1.0, (s.1.1.1.0, (square, (central, (far, tt)))))))

module _ (k : Symbols) (g : Dots) (e : List ℕ) (t : ℕ) where
  pub loaded_answer : (c : Code) → SoundCode k g c → word g.order c.word ≡ e → c.radius ≡ t → (ds : List ℕ) × MessageDots k g e ds × ◌≡◌ {A = ℕ × ℕ} (c.basis.count, c.book.count) (length ds, rows g.order k.order t)
  loaded_answer c sound same radius = (
    basis_dots c.basis,
    subst (λ u. MessageDots k g u (basis_dots c.basis)) same sound.basis.dots,
    ap₂ (λ x y. (x, y)) (sym sound.basis.many) (sound.book.count ∙ ap (rows g.order k.order) radius),
  )

  pub loaded_lived : (c : Code) → SoundCode k g c → word g.order c.word ≡ e → c.radius ≡ t → (past : List Call) → Lived k g (load e t ∷ past) (Some c)
  loaded_lived c sound same radius past = (
    subst (λ u. InForce k g (load u t ∷ past) (Some (record { word = word g.order c.word; radius = c.radius }))) same
        (subst (λ r. InForce k g (load (word g.order c.word) r ∷ past) (Some (record { word = word g.order c.word; radius = c.radius }))) radius
        (loaded _ _ sound.passes)),
    sound,
  )

  pub refused_lived : (f : Fault) → Refused (load_checks k g e t) f → (past : List Call) (o : Option Code) → Lived k g past o → Lived k g (load e t ∷ past) o
  refused_lived f fails past o (before, sound) = (refused e t (load_fails k g e t f fails) before, sound)
