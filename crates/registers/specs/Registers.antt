-- Request 11, "Kill test on float registers": a register of four f32 channels, less than zero and at least zero, who is killed by its
-- register, the maximum and the choice. A float is the logic's (lib.Ieee), `lt` and `le` are IEEE 754's < and ≤; what these are of bit
-- patterns is specs/Pattern.antt. The maximum and the choice are of bit patterns, compared as their floats: the logic's one NaN has no
-- payload, and "copying bits exactly" is of payloads too. Assumes nothing.
use Rattle.std.specs.Prelude.{Bool, List, [], ◌∷◌, ℕ, zero, suc, ◌+◌, ◌*◌, get_or, Float}
use Rattle.std.specs.Float.{binary32, nan}
use Rattle.std.specs.Float.Ieee.{lt, le, of_bits}
use Rattle.laws.specs.Choice.{◌and◌, pick}
use Rattle.laws.specs.Below.{some}
use Rattle.laws.specs.Masks.{on, pack}
use Rattle.registers.specs.declared.Masked.{Masked}

-- "a register of four f32 channels": how many, and how many 32 registers have
abbrev pub channel_count : ℕ
channel_count = 4

abbrev pub most_channels : ℕ
most_channels = 128

-- the f32 whose bits are given
abbrev pub float : ℕ → Float
float bits = of_bits binary32 bits

-- "less than zero", and the choice's "at least zero"
abbrev pub less_than_zero : Float → Bool
less_than_zero x = lt x (float 0)

abbrev pub at_least_zero : Float → Bool
at_least_zero x = le (float 0) x

-- channel `c` of a register
abbrev pub channel : ℕ → Masked → Float
channel zero r = r.c0
channel (suc zero) r = r.c1
channel (suc (suc zero)) r = r.c2
channel (suc (suc (suc c))) r = r.c3

-- "the instruction has one write mask of four bits, bit c for channel c": "a channel under the mask less than zero"
unfoldable pub killed_by : Masked → Bool
killed_by r = some channel_count (λ c. on c r.mask and less_than_zero (channel c r))

-- "Each processor brings a register": processor i's in a list of floats, four a processor, under the write mask; past the list's end
-- there is no number
abbrev pub masked_at : List Float → ℕ → ℕ → Masked
masked_at l i mask =
    record {
      c0 = get_or l (i * channel_count) nan;
      c1 = get_or l (i * channel_count + 1) nan;
      c2 = get_or l (i * channel_count + 2) nan;
      c3 = get_or l (i * channel_count + 3) nan;
      mask = mask;
    }

-- those of the first n processors whose register kills, as a mask
abbrev pub kill_mask : ℕ → List Float → ℕ → ℕ
kill_mask n l mask = pack n (λ i. killed_by (masked_at l i mask))

-- "maximum of A and B is A if B < A, otherwise B", of bit patterns
abbrev pub maximum_of : ℕ → ℕ → ℕ
maximum_of a b = pick (lt (float b) (float a)) a b

-- "the choice by "third operand at least zero" (first operand if yes, second if no), copying bits exactly"
abbrev pub choice_of : ℕ → ℕ → ℕ → ℕ
choice_of a b third = pick (at_least_zero (float third)) a b

-- "channel by channel", of registers as four patterns each
abbrev pub each_of2 : (ℕ → ℕ → ℕ) → List ℕ → List ℕ → List ℕ
each_of2 f a b =
    f (get_or a 0 0) (get_or b 0 0) ∷ f (get_or a 1 0) (get_or b 1 0) ∷ f (get_or a 2 0) (get_or b 2 0) ∷ f (get_or a 3 0) (get_or b 3 0) ∷ []

abbrev pub each_of3 : (ℕ → ℕ → ℕ → ℕ) → List ℕ → List ℕ → List ℕ → List ℕ
each_of3 f a b third =
    f (get_or a 0 0) (get_or b 0 0) (get_or third 0 0) ∷ f (get_or a 1 0) (get_or b 1 0) (get_or third 1 0) ∷
    f (get_or a 2 0) (get_or b 2 0) (get_or third 2 0) ∷ f (get_or a 3 0) (get_or b 3 0) (get_or third 3 0) ∷ []
