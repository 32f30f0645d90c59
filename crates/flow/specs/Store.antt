-- Document 01, "Stepping a group": "A program is a store of 512 slots, all first set to the plain slot, of which the first N
-- run. It is loaded from a list of words, two a slot." Assumes nothing.
use Rattle.std.specs.Prelude.{Bool, List, [], ◌∷◌, ◌++◌, ℕ, ◌/◌, ◌%◌, eqb, leb, length, drop, replicate}
use Rattle.laws.specs.Choice.{◌and◌, pick}
use Rattle.refusal.specs.Told.{Told, gives, refuses}
use Rattle.group.specs.Group.{store_slots}

-- the first words of the slots, and the second ones
unfoldable pub first_words : List ℕ → List ℕ
first_words [] = []
first_words (a ∷ []) = []
first_words (a ∷ (b ∷ words)) = a ∷ first_words words

unfoldable pub second_words : List ℕ → List ℕ
second_words [] = []
second_words (a ∷ []) = []
second_words (a ∷ (b ∷ words)) = b ∷ second_words words

-- "15: .. a program of 0 or over 512 slots or of an odd number of words"
unfoldable pub is_program : List ℕ → Bool
is_program words = eqb (length words % 2) 0 and leb 1 (length words / 2) and leb (length words / 2) store_slots

-- the store's words: plain ones, of which the first are overwritten
unfoldable pub store_of : ℕ → List ℕ → List ℕ
store_of plain words = words ++ drop (length words) (replicate store_slots plain)

-- "The plain slot is 00000020, 0."
abbrev pub plain_first : ℕ
plain_first = 0x20

abbrev pub plain_second : ℕ
plain_second = 0

-- the number of slots, or 15; the store holds the program, or is left as it was
unfoldable pub load_told : List ℕ → Told
load_told words = pick (is_program words) (gives (length words / 2 ∷ [])) (refuses 15)

unfoldable pub firsts_left : List ℕ → List ℕ → List ℕ
firsts_left entry words = pick (is_program words) (store_of plain_first (first_words words)) entry

unfoldable pub seconds_left : List ℕ → List ℕ → List ℕ
seconds_left entry words = pick (is_program words) (store_of plain_second (second_words words)) entry
