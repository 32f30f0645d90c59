-- Request 8: "Superfine reads, element writes and the way back keep their answers, restated over the new one." What a read and a write
-- answer, said from translation's answer: its refusal, or what memory makes of the address; the run plays no part. The proof is
-- proofs/Restated.antt. Assumes nothing.
use Rattle.std.specs.Prelude.{List, [], ℕ, eqb, length, get_or}
use Rattle.laws.specs.Choice.{◌and◌, pick}
use Rattle.refusal.specs.Told.{Told, gives, refuses}
use Rattle.memory.specs.Elements.{is_held, bytes_at}

-- the refusal of a translation, or what is made of its first value, the address
unfoldable pub from_address : Told → (ℕ → Told) → Told
from_address (refuses number) answer = refuses number
from_address (gives values) answer = answer (get_or values 0 0)

-- a read of `s` bytes at an address, or 11
abbrev pub read_at : ℕ → List ℕ → ℕ → ℕ → Told
read_at first m s a = pick (is_held first (length m) a s) (gives (bytes_at first m a s)) (refuses 11)

-- a write of `s` bytes at an address, or 11
abbrev pub write_at : ℕ → List ℕ → List ℕ → ℕ → ℕ → Told
write_at first given m s a = pick (eqb (length given) s and is_held first (length m) a s) (gives []) (refuses 11)
