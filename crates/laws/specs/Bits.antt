-- Single bits of a number. Assumes nothing.
use Rattle.std.specs.Prelude.{ℕ, ◌+◌, ◌/◌, ◌%◌, ◌^◌}

-- bit `k` of `n`, 0 or 1: document 01's x0, y3, c5 and so on
abbrev pub bit : ℕ → ℕ → ℕ
bit k n = n / 2 ^ k % 2

-- the exclusive or of two bits: 1 where just one of them is 1
unfoldable pub xor : ℕ → ℕ → ℕ
xor a b = (a + b) % 2
