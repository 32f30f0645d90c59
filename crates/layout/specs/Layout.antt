-- Document 01, "Layouts and windows": when a layout is accepted, its row step and its span. Assumes nothing.
use Rattle.std.specs.Prelude.{Bool, [], ◌∷◌, ℕ, ◌+◌, ◌-◌, ◌*◌, ◌/◌, ◌%◌, ◌^◌, leb, eqb}
use Rattle.laws.specs.Choice.{◌and◌, pick}
use Rattle.refusal.specs.Number.{number_of}
use Rattle.refusal.specs.Told.{Told, gives, refuses}
use Rattle.layout.specs.Sizes.{is_size, width_of, height_of}
use Rattle.layout.specs.declared.Judged.{Judged}
use Rattle.layout.specs.declared.Judged.TheVariants.{Accepted, Refused}

-- "Base is a multiple of 2,048, pitch a multiple of 4 up to 8,188, else 3"; a size is one of the five
unfoldable pub well_formed : ℕ → ℕ → ℕ → Bool
well_formed base pitch s = eqb (base % 2048) 0 and eqb (pitch % 4) 0 and leb pitch 8188 and is_size s

-- "a multiple of 32/s (linear) or of the tile's width (tiled)": what the row step is a multiple of
unfoldable pub unit_of : Bool → ℕ → ℕ
unit_of tiled s = pick tiled (width_of s) (32 / s)

-- "The row step E is the pitch cut down to a multiple": document 01's E
unfoldable pub row_step : Bool → ℕ → ℕ → ℕ
row_step tiled s pitch = pitch / unit_of tiled s * unit_of tiled s

-- "tile rows needed": the rows of tiles that `h` rows of elements touch
unfoldable pub tile_rows : ℕ → ℕ → ℕ
tile_rows s h = (h + (height_of s - 1)) / height_of s

-- "Span is H·E·s (linear) or tile rows needed · E/width · 2,048 (tiled)"; `e` is the row step, `h` the height
unfoldable pub span_of : Bool → ℕ → ℕ → ℕ → ℕ
span_of tiled s e h = pick tiled (tile_rows s h * (e / width_of s) * 2048) (h * e * s)

-- "E from 1 to 4,096, height H from 1 to 4,096"
unfoldable pub in_bounds : ℕ → ℕ → Bool
in_bounds e h = leb 1 e and leb e 4096 and leb 1 h and leb h 4096

-- "Window rule: E from 1 to 4,096, height H from 1 to 4,096, base plus span at most 2^32"
unfoldable pub window_rule : ℕ → Bool → ℕ → ℕ → ℕ → Bool
window_rule base tiled s e h = in_bounds e h and leb (base + span_of tiled s e h) (2 ^ 32)

-- the rows that a window's bytes make up: where tiled, those of whole tiles
unfoldable pub rows_taken : Bool → ℕ → ℕ → ℕ
rows_taken tiled s h = pick tiled (tile_rows s h * height_of s) h

-- the stride: the bytes from one row to the next, E·s; 0 where the window rule is broken
unfoldable pub stride_of : ℕ → ℕ → ℕ → ℕ → Bool → ℕ
stride_of base pitch h s tiled =
    pick (window_rule base tiled s (row_step tiled s pitch) h) (row_step tiled s pitch * s) 0

-- "A layout (base, pitch, height, size, linear or tiled) is accepted when it gets neither 3 nor 6": its row step and span
unfoldable pub judge_of : ℕ → ℕ → ℕ → ℕ → Bool → Told
judge_of base pitch h s tiled =
    pick (well_formed base pitch s)
    (pick (window_rule base tiled s (row_step tiled s pitch) h)
    (gives (row_step tiled s pitch ∷ span_of tiled s (row_step tiled s pitch) h ∷ []))
    (refuses 6))
    (refuses 3)

-- what the judgement of a layout tells, case by case
abbrev pub told_judged : Judged → Told
told_judged (Accepted step span) = gives (step ∷ span ∷ [])
told_judged (Refused why) = refuses (number_of why)
