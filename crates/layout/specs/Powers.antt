-- Powers of 2 in one number, three bits for each element size: the bits of size s begin at bit 3·s. Assumes nothing.
use Rattle.std.specs.Prelude.{◌≡◌, true, ℕ, ◌*◌, ◌/◌, ◌%◌, ◌^◌}
use Rattle.layout.specs.Sizes.{is_size}

-- the power that the number has for a size
abbrev pub power_at : ℕ → ℕ → ℕ
power_at n s = n / 2 ^ (3 * s) % 8

-- at each size the number has the power of 2 that `f` is there
pub record Powers (n : ℕ) (f : ℕ → ℕ) : Type 0 where
  pub at : (s : ℕ) → is_size s ≡ true → 2 ^ power_at n s ≡ f s
