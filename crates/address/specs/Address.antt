-- Document 01, "Layouts and windows": what translation and the way back answer. "Order for all of these: 3, 6, 10, 11, 12."
-- Request 8: translation's answer "shall also say how many elements from this pair on, in the same row, lie at consecutive
-- addresses". Assumes nothing.
use Rattle.std.specs.Prelude.{ℕ, zero, suc, ◌+◌, ◌-◌, ◌/◌, ◌%◌, ◌^◌, Bool, false, not, ltb, [], ◌∷◌, ◌==◌, nat_le, nat_lt}
use Rattle.laws.specs.Below.{least}
use Rattle.laws.specs.Choice.{◌and◌, pick}
use Rattle.refusal.specs.Number.{number_of}
use Rattle.refusal.specs.Told.{Told, gives, refuses}
use Rattle.layout.specs.Layout.{well_formed, row_step, window_rule}
use Rattle.layout.specs.declared.Layout.{Layout}
use Rattle.address.specs.Offset.{offset_of, x_of, y_of, byte_place}
use Rattle.address.specs.declared.Translated.{Translated}
use Rattle.address.specs.declared.Located.{Located}
use Rattle.address.specs.declared.Translated.TheVariants as translated
use Rattle.address.specs.declared.Located.TheVariants as located

-- document 01's E of a layout
abbrev pub step_of : Layout → ℕ
step_of l = row_step l.tiled l.size l.pitch

-- "A layout ... is accepted when it gets neither 3 nor 6": `answer` where it is, else the refusal
unfoldable pub if_accepted : Layout → Told → Told
if_accepted l answer =
    pick (well_formed l.base.0 l.pitch l.size)
    (pick (window_rule l.base.0 l.tiled l.size (step_of l) l.height) answer (refuses 6))
    (refuses 3)

-- "A pair is inside when x < E and y < H."
unfoldable pub inside : Layout → ℕ → ℕ → Bool
inside l x y = ltb x (step_of l) and ltb y l.height

-- the address of a pair's element, by the formulas
unfoldable pub address_of : Layout → ℕ → ℕ → ℕ
address_of l x y = l.base.0 + offset_of l.tiled l.size (step_of l) x y

-- a run is broken `k` elements after the pair: that element isn't at the address of the one before plus the element's size
unfoldable pub breaks : Layout → ℕ → ℕ → ℕ → Bool
breaks l x y zero = false
breaks l x y (suc k) = not (address_of l (x + suc k) y == address_of l (x + k) y + l.size)

-- "how many elements from this pair on, in the same row, lie at consecutive addresses: at least 1, the longest such run that
-- stays in the window": up to the first element at which the run is broken, or to the row's end
unfoldable pub run_of : Layout → ℕ → ℕ → ℕ
run_of l x y = least (step_of l - x) (breaks l x y)

-- a pair's address and its run, or 3, 6, or 10: "a pair is outside its window"
unfoldable pub translate_of : Layout → ℕ → ℕ → Told
translate_of l x y = if_accepted l (pick (inside l x y) (gives (address_of l x y ∷ run_of l x y ∷ [])) (refuses 10))

-- the pair and the place of a byte `o` bytes from the base, or 12
unfoldable pub back_of : Layout → ℕ → Told
back_of l o =
    pick (nat_lt (y_of l.tiled l.size (step_of l) o) l.height)
    (gives
    (x_of l.tiled l.size (step_of l) o ∷ y_of l.tiled l.size (step_of l) o ∷ byte_place l.size o ∷ []))
    (refuses 12)

-- "The way back takes any byte address and gives the pair and the byte's place in its element", or 3, 6, or 12: "no pair of
-- the window owns the address". An address below the base is nobody's.
unfoldable pub locate_of : Layout → ℕ → Told
locate_of l a = if_accepted l (pick (nat_le l.base.0 a) (back_of l (a - l.base.0)) (refuses 12))

-- what the answers tell, case by case
abbrev pub told_translated : Translated → Told
told_translated (translated.At address run) = gives (address.0 ∷ run ∷ [])
told_translated (translated.Refused why) = refuses (number_of why)

abbrev pub told_located : Located → Told
told_located (located.Pair x y place) = gives (x ∷ y ∷ place ∷ [])
told_located (located.Refused why) = refuses (number_of why)

-- a layout from its numbers
abbrev pub layout_of : ℕ → ℕ → ℕ → ℕ → Bool → Layout
layout_of base pitch height size tiled =
    record { base = record { 0 = base }; pitch = pitch; height = height; size = size; tiled = tiled }

-- a refusal in one number, above every address with its run
abbrev pub refused_as : ℕ → ℕ
refused_as number = 2 ^ 63 + number

-- an answer in one number: an address below 2^32 with the run above it, or a refusal
unfoldable pub told_number : ℕ → Told
told_number n = pick (nat_lt n (2 ^ 63)) (gives (n % 2 ^ 32 ∷ n / 2 ^ 32 ∷ [])) (refuses (n - 2 ^ 63))
