-- A scene that the theorem of Picture.antt speaks of: two outputs, one tiled and one linear, side by side in 4,096 bytes of memory from
-- address 0 on. proofs/Example.antt shows that it is one. Assumes nothing.
use Rattle.std.specs.Prelude.{Bool, true, false, List, ℕ, zero, suc, ◌+◌, ◌*◌, replicate}
use Rattle.layout.specs.declared.Layout.{Layout}
use Rattle.picture.specs.Picture.{Scene, Domain}

-- 32 by 16 elements of 4 bytes, one tile; and 16 by 4 elements of 2 bytes behind it
abbrev pub outputs : ℕ → Layout
outputs zero = record { base = record { 0 = 0 }; pitch = 32; height = 16; size = 4; tiled = true }
outputs (suc n) = record { base = record { 0 = 2048 }; pitch = 16; height = 4; size = 2; tiled = false }

-- a pair's element tells its output and its place
abbrev pub example : Scene
example = record { window = outputs; element = λ o x y. replicate (outputs o).size (64 * o + 16 * y + x) }

abbrev pub example_domain : Domain
example_domain = record { i0 = 1; j0 = 0; i1 = 14; j1 = 3 }
