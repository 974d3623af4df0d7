-- Words as the program holds them: the first n of 64 symbols count.
--     word n w              the word of n symbols that w stands for
--     Stores n r w          r stands for the word w of n symbols, and has zeros from n on
--     coefficient k g u v x the symbol at x of the product of u and v
use Rattle.std.specs.Prelude.{◌≡◌, ℕ, ◌≤◌, List}
use Rattle.algebra.specs.Fields.{Symbols}
use Rattle.algebra.specs.Groups.{Dots}
use Rattle.words.specs.Words.{at, tabulate, total}
use Rattle.words.specs.declared.word.Word.{Word}

abbrev pub word : ℕ → Word → List ℕ
word n w = tabulate n (at w.symbols)

pub record Stores (n : ℕ) (r : Word) (w : List ℕ) : Type 0 where
  pub value : word n r ≡ w
  pub rest : (d : ℕ) → n ≤ d → at r.symbols d ≡ 0

abbrev pub coefficient : Symbols → Dots → List ℕ → List ℕ → ℕ → ℕ
coefficient k g u v x = total k (λ h. k.product (at u h) (at v (g.product (g.inverse h) x))) g.order
