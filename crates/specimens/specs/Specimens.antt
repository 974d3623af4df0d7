-- Specimens: worked examples of fields, groups and codes, and when they hold.
--     Specimen              what is asked of a field k and a group g, and what must come
--     Holds s               by the definitions, what s asks comes as s says
--     digits text           the word with these digits as its symbols
--     specimens             the worked examples
--     AllHold ss            each specimen of ss holds
-- A specimen of a code has its word e and its radius t, and those of writes and reads ask that e and t pass the checks of a load.
use Rattle.std.specs.Prelude.{◌≡◌, ℕ, ◌-◌, List, [], ◌∷◌, map, length, Some, None, Ok, Err, codes, Option}
use Prim.Native.String.{String}
use Rattle.algebra.specs.Fields.{Symbols}
use Rattle.algebra.specs.Groups.{Dots}
use Rattle.algebra.specs.Refusals.{central_refused, close_refused, idempotent_refused, reach_refused}
use Rattle.algebra.specs.declared.fault.Fault.{Fault}
use Rattle.fields.specs.FieldKinds.{binary_symbols, prime_symbols}
use Rattle.groups.specs.GroupKinds.{double_ring_dots, ring_dots}
use Rattle.reader.specs.Calls.{Alikes, Code, Loads, Reads, Writes}
use Rattle.reader.specs.Loads.{Passes}
use Rattle.reader.specs.declared.record.ReadRecord.{ReadRecord}

pub data Specimen : Type 0 where
  inverse_is : (k : Symbols) (a b : ℕ) → Specimen
  product_is : (k : Symbols) (a b c : ℕ) → Specimen
  dots_product_is : (g : Dots) (a b c : ℕ) → Specimen
  loads : (k : Symbols) (g : Dots) (e : List ℕ) (t dots rows : ℕ) → Specimen
  load_refused : (k : Symbols) (g : Dots) (e : List ℕ) (t : ℕ) (fault : Fault) → Specimen
  writes : (k : Symbols) (g : Dots) (e : List ℕ) (t : ℕ) (message mark : List ℕ) → Specimen
  reads : (k : Symbols) (g : Dots) (e : List ℕ) (t : ℕ) (received mended message : List ℕ) (wrong turns : ℕ) → Specimen
  read_refused : (k : Symbols) (g : Dots) (e : List ℕ) (t : ℕ) (received : List ℕ) (dots : ℕ) (fault : Fault) → Specimen
  alike_by : (k : Symbols) (g : Dots) (u v : List ℕ) (turn : Option ℕ) → Specimen

abbrev pub code : List ℕ → ℕ → Option Code
code e t = Some (record { word = e; radius = t })

-- of writes and reads into whatever buffers of the right lengths
abbrev pub Holds : Specimen → Type 0
Holds (inverse_is k a b) = k.inverse a ≡ Some b
Holds (product_is k a b c) = k.product a b ≡ c
Holds (dots_product_is g a b c) = g.product a b ≡ c
Holds (loads k g e t dots rows) = Loads k g e t (Ok (dots, rows))
Holds (load_refused k g e t fault) = Loads k g e t (Err fault)
Holds (writes k g e t message mark) = Passes k g e t × ((w : List ℕ) → length w ≡ g.order → Writes k g (code e t) message w (Ok tt) mark)
Holds (reads k g e t received mended message wrong turns) =
    Passes k g e t
    × ((b m : List ℕ) → length b ≡ g.order → length m ≡ length message
    → (x : ReadRecord) × (x.wrong ≡ wrong) × (x.turns ≡ turns) × Reads k g (code e t) received b m (Ok x) mended message)
Holds (read_refused k g e t received dots fault) =
    Passes k g e t × ((b m : List ℕ) → length b ≡ g.order → length m ≡ dots → Reads k g (code e t) received b m (Err fault) b m)
Holds (alike_by k g u v turn) = Alikes k g u v (Ok turn)

abbrev pub AllHold : List Specimen → Type 0
AllHold [] = Unit {0}
AllHold (s ∷ ss) = Holds s × AllHold ss

abbrev pub digits : String → List ℕ
digits text = map (λ c. c - 48) (codes text)

abbrev pub specimens : List Specimen
specimens =
    inverse_is (prime_symbols 5) 2 3
    ∷ product_is (binary_symbols 16) 8 2 3
    ∷ dots_product_is (double_ring_dots 3) 4 1 3
    ∷ dots_product_is (double_ring_dots 3) 1 4 5
    ∷ loads (prime_symbols 2) (ring_dots 7) (digits "0001011") 1 4 1
    ∷ load_refused (prime_symbols 2) (ring_dots 7) (digits "0001011") 2 close_refused
    ∷ reads (prime_symbols 2) (ring_dots 7) (digits "0001011") 1 (digits "1001011") (digits "0001011") (digits "0001") 1 1
    ∷ reads (prime_symbols 2) (ring_dots 7) (digits "0001011") 1 (digits "0001000") (digits "0000000") (digits "0000") 1 5
    ∷ loads (prime_symbols 2) (ring_dots 5) (digits "11111") 2 1 5
    ∷ reads (prime_symbols 2) (ring_dots 5) (digits "11111") 2 (digits "00110") (digits "00000") (digits "0") 2 3
    ∷ reads (prime_symbols 2) (ring_dots 5) (digits "11111") 2 (digits "11100") (digits "11111") (digits "1") 2 2
    ∷ read_refused (prime_symbols 2) (ring_dots 5) (digits "11111") 1 (digits "11000") 1 reach_refused
    ∷ load_refused (prime_symbols 2) (ring_dots 5) (digits "11111") 3 close_refused
    ∷ reads (binary_symbols 4) (ring_dots 3) (digits "123") 1 (digits "120") (digits "123") (digits "1") 1 2
    ∷ read_refused (binary_symbols 4) (ring_dots 3) (digits "123") 1 (digits "111") 1 reach_refused
    ∷ writes (prime_symbols 5) (double_ring_dots 3) (digits "222000") 1 (digits "30") (digits "333000")
    ∷ reads (prime_symbols 5) (double_ring_dots 3) (digits "222000") 1 (digits "333040") (digits "333000") (digits "30") 1 5
    ∷ load_refused (prime_symbols 5) (double_ring_dots 3) (digits "300300") 1 (central_refused 1)
    ∷ alike_by (prime_symbols 5) (double_ring_dots 3) (digits "111000") (digits "000111") (Some 3)
    ∷ alike_by (prime_symbols 5) (double_ring_dots 3) (digits "111000") (digits "222000") None
    ∷ load_refused (prime_symbols 2) (ring_dots 7) (digits "1100000") 1 (idempotent_refused 1)
    ∷ loads (prime_symbols 2) (ring_dots 7) (digits "1000000") 0 7 0
    ∷ load_refused (prime_symbols 2) (ring_dots 7) (digits "1000000") 1 close_refused ∷ []
