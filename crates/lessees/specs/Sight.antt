-- Document 02, request 9: what a party sees of the settings: what it owns; all else is as if it weren't set, and the others' mask bits
-- are 0. Assumes nothing.
use Rattle.std.specs.Prelude.{◌≡◌, Bool, true, false, ℕ}
use Rattle.laws.specs.Choice.{pick}
use Rattle.laws.specs.Masks.{on}
use Rattle.owners.specs.Owners.{mask_by, owns_common}
use Rattle.state.specs.State.{Shared, Session, unset}
use Rattle.state.specs.Seen.{seen_inputs, seen_outputs}
use Rattle.state.specs.Effects.{with_shared}

unfoldable pub seen_shared : ℕ → Shared → Shared
seen_shared mine h =
    with_shared (mask_by mine h.mask 0) (pick (owns_common mine) h.conditional_mask_set 0)
    (pick (owns_common mine) h.conditional_mask 0) (pick (owns_common mine) h.test_set 0) (pick (owns_common mine) h.test 0)
    (pick (owns_common mine) h.floats unset) (pick (owns_common mine) h.integers unset)
    (pick (owns_common mine) h.booleans unset) (pick (owns_common mine) h.conditional unset)
    (seen_outputs mine h.outputs) (seen_inputs mine h.inputs)

-- a session as its party sees it
abbrev pub seen : Session → Session
seen s = record { party = s.party; shared = seen_shared s.party.birth.mine s.shared }

-- nothing is owned by both
abbrev pub Apart : ℕ → ℕ → Type 0
Apart a b = (k : ℕ) → on k a ≡ true → on k b ≡ false
