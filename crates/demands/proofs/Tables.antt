-- The table of places is of 2,048 and, corrected for x6 and y5, the bit rule at every pair; so the address of every pair of a one-byte tiled layout
-- is that by the table. Assumes nothing.
use mathlib.Core.Path.{◌≡◌, refl, sym, ap, ap₂, ◌∙◌}
use mathlib.Core.Bool.{Bool, true}
use Prim.Native.Nat.{ℕ, zero, suc, ◌+◌, ◌*◌, ◌/◌}
use lib.ListN.{length}
use Rattle.laws.specs.Choice.{pick, place_of}
use Rattle.layout.specs.Sizes.{width_of, height_of}
use Rattle.layout.specs.declared.Layout.{Layout}
use Rattle.address.specs.Offset.{inside_of, tiled_offset, offset_of}
use Rattle.address.specs.Address.{step_of, address_of}
use Rattle.places.specs.Places.{places_from, places}
use Rattle.places.proofs.Places.{corrected}
use Rattle.demands.specs.Tables.{place_by_table}

from_length : (k n : ℕ) → length (places_from k n) ≡ n
unfolding places_from
from_length k zero = refl
from_length k (suc n) = ap suc (from_length (suc k) n)

pub table_length : length places ≡ 2048
unfolding places
table_length = from_length 0 2048

-- "must agree with the bit rule at every pair"
pub table_agrees : (x y : ℕ) → place_by_table x y ≡ inside_of 1 x y
unfolding place_by_table
table_agrees x y = corrected x y _ _ refl refl

one_byte : (e x y : ℕ) → offset_of true 1 e x y ≡ 2048 * (y / 32 * (e / 64) + x / 64) + inside_of 1 x y
unfolding offset_of tiled_offset width_of height_of place_of pick
one_byte e x y = refl

pub table_address :
    (l : Layout) → l.size ≡ 1 → l.tiled ≡ true → (x y : ℕ) →
    address_of l x y ≡ l.base.0 + (2048 * (y / 32 * (step_of l / 64) + x / 64) + place_by_table x y)
unfolding address_of
table_address l s t x y =
    ap (λ (o : ℕ). l.base.0 + o)
    (ap₂ (λ (b : Bool) (n : ℕ). offset_of b n (step_of l) x y) t s ∙ one_byte (step_of l) x y ∙
    ap (λ (n : ℕ). 2048 * (y / 32 * (step_of l / 64) + x / 64) + n) (sym (table_agrees x y)))
