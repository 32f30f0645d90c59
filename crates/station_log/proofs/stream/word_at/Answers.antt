-- `log::stream::word_at` meets its contract. Assumes nothing.
use native.Mathlib.Omega.{arith}
use Rattle.std.proofs.Common.{◌≡◌, [], ◌∷◌, ◌+◌, ◌*◌, ℕ, w32}
use Rattle.std.specs.Int.{from_le_bytes}
use mathlib.Core.Path.{◌∙◌, refl}
use Rattle.replay.specs.Step.{number_from}
use Rattle.station_log.proofs.stream.word_at.Goals as goal

-- the number of four bytes, as the library reads it
read_by : (a b c d : ℕ) → from_le_bytes w32 (a ∷ b ∷ c ∷ d ∷ []) ≡ a + b * 256 + c * 65536 + d * 16777216
read_by a b c d = refl

word_of : (a b c d : ℕ) → a + b * 256 + c * 65536 + d * 16777216 ≡ number_from a b c d
word_of a b c d = unfold number_from in omega arith

pub returns : goal.returns
returns c =
    c.from_le_bytes.ensures ∙ read_by _ _ _ _ ∙ word_of _ _ _ _
