-- The addresses of a row's pairs, one after the other. Assumes nothing.
use Rattle.std.specs.Prelude.{◌≡◌, Bool, true, List, [], ◌∷◌, ℕ, zero, suc, ◌+◌, ◌-◌, ◌*◌, ◌/◌, ◌%◌, ◌<◌, ◌≤◌, ◌^◌}
use Rattle.layout.specs.Sizes.{is_size}
use Rattle.address.specs.Offset.{offset_of}
use Rattle.address.specs.Run.{run_unit, run_number}
use Rattle.memory.specs.Elements.{overwritten}

-- the values f i, f (i + 1), and so on, `n` of them
abbrev pub listed : (ℕ → ℕ) → ℕ → ℕ → List ℕ
listed f i zero = []
listed f i (suc n) = f i ∷ listed f (suc i) n

-- the address of the pair `i` columns on, in the row y of a window whose row step is `e`
abbrev pub element_at : ℕ → ℕ → Bool → ℕ → ℕ → ℕ → ℕ → ℕ
element_at base s tiled e x y i = base + offset_of tiled s e (x + i) y

-- `count` pairs of a row from column x on, in a window of the row step stride / s: its runs are such that their addresses follow
pub record RowAsked (base s : ℕ) (tiled : Bool) (stride x y count : ℕ) : Type 0 where
  pub size : is_size s ≡ true
  pub least : 0 < s
  pub whole : stride / s * s ≡ stride
  pub step : stride / s ≤ 4096
  pub columns : x + count ≤ stride / s
  pub row : y < 4096
  pub some : (c : ℕ) → c < stride / s → 0 < run_number tiled s (stride / s) c
  pub follow :
      (c j : ℕ) → c < stride / s → j < run_number tiled s (stride / s) c →
      offset_of tiled s (stride / s) (c + j) y ≡ offset_of tiled s (stride / s) c y + j * s
  pub below : (c : ℕ) → c < stride / s → base + offset_of tiled s (stride / s) c y + s ≤ 2 ^ 32

-- the places from `i` up to `end` of a row's `count`, all in the run of the first of them
pub record RunAsked (tiled : Bool) (s e x count i end : ℕ) : Type 0 where
  pub some : i < end
  pub inside : end ≤ count
  pub within : end - i ≤ run_number tiled s e (x + i)

-- a room in which the places from `i` up to `end` have their values
abbrev pub written : (ℕ → ℕ) → ℕ → ℕ → List ℕ → List ℕ
written f i end room = overwritten i (listed f i (end - i)) room

-- in tiles, a place at which a whole run begins, or the row's end
pub record RunBegins (s x count i : ℕ) : Type 0 where
  pub inside : i ≤ count
  pub begins : i < count → (x + i) % run_unit s ≡ 0
