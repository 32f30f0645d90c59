-- Request 12's conditions: "result v op b", and b, two bytes of lent memory. Assumes nothing.
use Rattle.std.specs.Prelude.{ℕ, ◌+◌, ◌*◌, Bool, true, false, not, List, [], ◌∷◌, ◌==◌, nat_le, nat_lt, slice_index, slice_index_or}

-- "Document 000's or 004's condition list decides the numbers; where it can't be read, house: 0 never, 1 less, 2 less or equal, 3 equal,
-- 4 at least, 5 greater, 6 not equal, 7 always". 0 and 1 can be read in 004 and are these; 2 to 7 are house. "result v op b".
unfoldable pub passes : ℕ → ℕ → ℕ → Bool
passes test v b = slice_index_or (false ∷ nat_lt v b ∷ nat_le v b ∷ (v == b) ∷ nat_le b v ∷ nat_lt b v ∷ not (v == b) ∷ true ∷ []) test false

-- "low byte first, from lent memory": the two bytes at a place of it
unfoldable pub word_in : List ℕ → ℕ → ℕ
word_in m at = slice_index m at + 256 * slice_index m (at + 1)
