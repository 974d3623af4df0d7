-- The refusals, and what each tells.
--     number x             the number of the refusal x
--     refusals             each refusal with its number, in their order
--     Numbered x n         n is the number of the refusal x
--     part_text p          the name of the part p
--     parts                each part with its name
--     Named p name         name is the name of the part p
--     fault_text f         what is printed of the fault f
--     order_refused p ..   the fault of each refusal, with its part and its place
use Rattle.std.specs.Prelude.{◌≡◌, ℕ, ◌<◌, List, [], ◌∷◌, ◌++◌, length, map, codes, slice_index_or}
use Rattle.std.specs.Fmt.{decimal}
use Rattle.algebra.specs.declared.fault.Refusal.{Refusal}
use Rattle.algebra.specs.declared.fault.Refusal.TheVariants.{Order, TableSize, Entry, Identity, Inverse, Association, NoCode, Length, Range, Radius, Book, NotIdempotent, NotCentral, TooClose, OutOfReach}
use Rattle.algebra.specs.declared.fault.Part.{Part}
use Rattle.algebra.specs.declared.fault.Part.TheVariants.{Symbols, Dots, Reader}
use Rattle.algebra.specs.declared.fault.Fault.{Fault}

abbrev pub number : Refusal → ℕ
number Order = 1
number TableSize = 2
number Entry = 3
number Identity = 4
number Inverse = 5
number Association = 6
number NoCode = 7
number Length = 8
number Range = 9
number Radius = 10
number Book = 11
number NotIdempotent = 12
number NotCentral = 13
number TooClose = 14
number OutOfReach = 15

abbrev pub refusals : List (Refusal × ℕ)
refusals =
    map (λ x. (x, number x))
    (Order ∷ TableSize ∷ Entry ∷ Identity ∷ Inverse ∷ Association ∷ NoCode ∷ Length ∷ Range
    ∷ Radius ∷ Book ∷ NotIdempotent ∷ NotCentral ∷ TooClose ∷ OutOfReach ∷ [])

abbrev pub Numbered : Refusal → ℕ → Type 0
Numbered x n = (i : ℕ) × (i < length refusals) × (slice_index_or refusals i (x, 0) ≡ (x, n))

abbrev pub part_text : Part → List ℕ
part_text Symbols = codes "symbols"
part_text Dots = codes "dots"
part_text Reader = codes "reader"

abbrev pub parts : List (Part × List ℕ)
parts = map (λ p. (p, part_text p)) (Symbols ∷ Dots ∷ Reader ∷ [])

abbrev pub Named : Part → List ℕ → Type 0
Named p name = (i : ℕ) × (i < length parts) × (slice_index_or parts i (p, []) ≡ (p, name))

abbrev pub fault_text : Fault → List ℕ
fault_text f = codes "rule " ++ decimal (number f.refusal) ++ codes ", part " ++ part_text f.part ++ codes ", place " ++ decimal f.place

abbrev pub fault : Refusal → Part → ℕ → Fault
fault r p i = record { refusal = r; part = p; place = i }

abbrev pub order_refused : Part → Fault
order_refused p = fault Order p 0

abbrev pub size_refused : Fault
size_refused = fault TableSize Dots 0

abbrev pub entry_refused : ℕ → Fault
entry_refused i = fault Entry Dots i

abbrev pub identity_refused : ℕ → Fault
identity_refused a = fault Identity Dots a

abbrev pub inverse_refused : ℕ → Fault
inverse_refused a = fault Inverse Dots a

abbrev pub association_refused : ℕ → Fault
association_refused i = fault Association Dots i

abbrev pub length_refused : ℕ → Fault
length_refused i = fault Length Reader i

abbrev pub symbol_refused : ℕ → Fault
symbol_refused i = fault Range Symbols i

abbrev pub dot_refused : Fault
dot_refused = fault Range Dots 0

abbrev pub no_code_refused : Fault
no_code_refused = fault NoCode Reader 0

abbrev pub radius_refused : Fault
radius_refused = fault Radius Reader 0

abbrev pub book_refused : Fault
book_refused = fault Book Reader 0

abbrev pub idempotent_refused : ℕ → Fault
idempotent_refused d = fault NotIdempotent Reader d

abbrev pub central_refused : ℕ → Fault
central_refused d = fault NotCentral Reader d

abbrev pub close_refused : Fault
close_refused = fault TooClose Reader 0

abbrev pub reach_refused : Fault
reach_refused = fault OutOfReach Reader 0
