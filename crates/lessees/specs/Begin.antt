-- Document 02, requests 9 and 10: a session of two parties begins. "Each number is owned by party 0 or 1, fixed when the session
-- begins": bit n of `inputs` or `outputs` is set where input or output n is party 1's. Assumes nothing.
use Rattle.std.specs.Prelude.{Bool, [], ℕ, ◌+◌, ◌-◌, ◌*◌, ltb}
use Rattle.laws.specs.Choice.{◌and◌, pick}
use Rattle.refusal.specs.Told.{Told, gives, refuses}
use Rattle.owners.specs.Owners.{everything}
use Rattle.state.specs.State.{new_party_of, new_shared}
use Rattle.state.specs.Start.{is_edition}
use Rattle.lessees.specs.Pair.{Pair}

-- what party 1 owns, as one number
abbrev pub owners_of : ℕ → ℕ → ℕ
owners_of inputs outputs = inputs + 65536 * outputs

abbrev pub new_pair : ℕ → ℕ → ℕ → Pair
new_pair inputs outputs edition =
    record {
      party0 = new_party_of (everything - owners_of inputs outputs) edition;
      party1 = new_party_of (owners_of inputs outputs) edition;
      shared = new_shared;
    }

-- "A session's edition (1 or 2, else 3 before all else)"; a bit above the sixteen or the four names no number, and is reserved
unfoldable pub may_begin : ℕ → ℕ → ℕ → Bool
may_begin inputs outputs edition = is_edition edition and (ltb inputs 65536 and ltb outputs 16)

unfoldable pub begin_told : ℕ → ℕ → ℕ → Told
begin_told inputs outputs edition = pick (may_begin inputs outputs edition) (gives []) (refuses 3)
