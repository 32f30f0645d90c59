-- Document 01: reads and writes of elements in lent memory. "Lent memory is up to 65,536 bytes standing at a given first
-- address." "Order for all of these: 3, 6, 10, 11, 12." Assumes nothing.
use Rattle.std.specs.Prelude.{◌≡◌, Bool, List, [], ◌∷◌, ◌++◌, ℕ, ◌+◌, ◌-◌, ◌^◌, leb, eqb, length, take, drop}
use Rattle.laws.specs.Choice.{◌and◌, pick}
use Rattle.refusal.specs.Number.{number_of}
use Rattle.refusal.specs.Told.{Told, gives, refuses}
use Rattle.layout.specs.declared.Layout.{Layout}
use Rattle.address.specs.Address.{if_accepted, inside, address_of}
use Rattle.memory.specs.declared.Written.{Written}
use Rattle.memory.specs.declared.Written.TheVariants as written
use Rattle.memory.specs.declared.place.Place.{Place}
use Rattle.memory.specs.declared.place.Place.TheVariants as place

-- "Lent memory is up to 65,536 bytes"
abbrev pub most_bytes : ℕ
most_bytes = 2 ^ 16

-- 11: "memory is over 65,536 bytes or ends above 2^32; memory doesn't hold the whole element". Whether none of these is so, of `n`
-- bytes that stand at `first` and an element of `s` bytes at `a`.
unfoldable pub is_held : ℕ → ℕ → ℕ → ℕ → Bool
is_held first n a s = leb n most_bytes and leb (first + n) (2 ^ 32) and leb first a and leb (a + s) (first + n)

-- the same of a pair's element
abbrev pub held_at : Layout → ℕ → ℕ → ℕ → ℕ → Bool
held_at l x y first n = is_held first n (address_of l x y) l.size

-- "the s bytes from its address on", in memory `m` that stands at `first`
unfoldable pub bytes_at : ℕ → List ℕ → ℕ → ℕ → List ℕ
bytes_at first m a s = take s (drop (a - first) m)

abbrev pub element_of : Layout → ℕ → ℕ → ℕ → List ℕ → List ℕ
element_of l x y first m = bytes_at first m (address_of l x y) l.size

-- 10 where what is asked is outside, then 11 where memory or data aren't fit
unfoldable pub in_order : Bool → Bool → Told → Told
in_order is_inside is_fit answer = pick is_inside (pick is_fit answer (refuses 11)) (refuses 10)

-- "A read answers the element's s bytes as they stand."
unfoldable pub read_of : Layout → ℕ → ℕ → ℕ → List ℕ → Told
read_of l x y first m =
    if_accepted l (in_order (inside l x y) (held_at l x y first (length m)) (gives (element_of l x y first m)))

-- a write tells that it is done, or the refusal; 11 also where "element data isn't s bytes"
unfoldable pub write_of : Layout → ℕ → ℕ → ℕ → List ℕ → List ℕ → Told
write_of l x y first given m =
    if_accepted l
    (in_order (inside l x y) (eqb (length given) l.size and held_at l x y first (length m)) (gives []))

-- memory with new bytes in place of the bytes from place `a` on
unfoldable pub overwritten : ℕ → List ℕ → List ℕ → List ℕ
overwritten a given m = take a m ++ (given ++ drop (a + length given) m)

-- "Writing an element touches only the part of memory that holds that element"; a refusal touches nothing
unfoldable pub memory_after : Told → Layout → ℕ → ℕ → ℕ → List ℕ → List ℕ → List ℕ
memory_after (gives values) l x y first given m = overwritten (address_of l x y - first) given m
memory_after (refuses number) l x y first given m = m

-- a call of the writer: what it told, and memory before and after
pub record Wrote (l : Layout) (x y first : ℕ) (given : List ℕ) (told : Told) (before after : List ℕ) : Type 0 where
  pub answer : told ≡ write_of l x y first given before
  pub memory : after ≡ memory_after (write_of l x y first given before) l x y first given before

-- where the element at an address begins in memory, or 11
unfoldable pub start_of : ℕ → ℕ → ℕ → ℕ → Told
start_of a s first n = pick (is_held first n a s) (gives ((a - first) ∷ [])) (refuses 11)

-- where a pair's element begins in memory, or 3, 6, 10 or 11
unfoldable pub find_of : Layout → ℕ → ℕ → ℕ → ℕ → Told
find_of l x y first n =
    if_accepted l (in_order (inside l x y) (held_at l x y first n) (gives ((address_of l x y - first) ∷ [])))

-- what the answers tell, case by case
abbrev pub told_place : Place → Told
told_place (place.At a) = gives (a ∷ [])
told_place (place.Refused why) = refuses (number_of why)

abbrev pub told_written : Written → Told
told_written written.Done = gives []
told_written (written.Refused why) = refuses (number_of why)
