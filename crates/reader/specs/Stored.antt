-- What a reader holds of a code, and when it is right, over a field k and a group g of n dots.
--     Held F G              what a reader over the types F and G holds, as the clauses have it
--     SoundCode k g c       c is a code that passed its load, with its own basis and book
--     Sound k g o           so is the code that is stored, if there is one
--     code_of n o           the code that is stored, if there is one
--     Lived k g past o      o is what the calls of past leave stored
use Rattle.std.specs.Prelude.{ℕ, List, Some, None, Option}
use Rattle.algebra.specs.Fields.{Symbols}
use Rattle.algebra.specs.Groups.{Dots}
use Rattle.words.specs.Stored.{word}
use Rattle.words.specs.declared.group_algebra.GroupAlgebra.{GroupAlgebra}
use Rattle.codes.specs.Bases.{BasisOf}
use Rattle.books.specs.Books.{BookOf}
use Rattle.reader.specs.Calls as calls
use Rattle.reader.specs.Histories.{Call, InForce}
use Rattle.reader.specs.Loads.{Passes}
use Rattle.reader.specs.declared.code.Code.{Code}

pub record Held (F G : Type 0) : Type 0 where
  pub algebra : GroupAlgebra F G
  pub code : Option Code

pub record SoundCode (k : Symbols) (g : Dots) (c : Code) : Type 0 where
  pub passes : Passes k g (word g.order c.word) c.radius
  pub basis : BasisOf k g (word g.order c.word) c.basis
  pub book : BookOf k g (word g.order c.word) c.radius c.book

abbrev pub Sound : Symbols → Dots → Option Code → Type 0
Sound k g None = Unit {0}
Sound k g (Some c) = SoundCode k g c

abbrev pub code_of : ℕ → Option Code → Option calls.Code
code_of n None = None
code_of n (Some c) = Some (record { word = word n c.word; radius = c.radius })

abbrev pub Lived : Symbols → Dots → List Call → Option Code → Type 0
Lived k g past o = InForce k g past (code_of g.order o) × Sound k g o
