-- `address::offset::tiled_back` meets its contract: each arm hands over its size's blocks. Assumes nothing.
use Rattle.std.proofs.Common.{ℕ, ◌/◌, sym, ap, ◌∙◌}
use Rattle.laws.specs.Choice.{pick, place_of}
use Rattle.layout.specs.Sizes.{width_of, height_of}
use Rattle.layout.proofs.Sizes.{sixteen}
use Rattle.address.specs.Offset.{block_width, block_height, tiled_x, tiled_y}
use Rattle.address.proofs.Sums.{step_arm}
use Rattle.address.proofs.offset.tiled_back.Goals as goal

pub back_in_tiles-requires : goal.back_in_tiles-requires
unfolding block_width block_height width_of height_of place_of pick
back_in_tiles-requires c = step_arm c.args.stride c.in-1.is c.requires

pub back_in_tiles-requires-in-2 : goal.back_in_tiles-requires-in-2
unfolding block_width block_height width_of height_of place_of pick
back_in_tiles-requires-in-2 c = step_arm c.args.stride c.in-2.is c.requires

pub back_in_tiles-requires-in-4 : goal.back_in_tiles-requires-in-4
unfolding block_width block_height width_of height_of place_of pick
back_in_tiles-requires-in-4 c = step_arm c.args.stride c.in-4.is c.requires

pub back_in_tiles-requires-in-8 : goal.back_in_tiles-requires-in-8
unfolding block_width block_height width_of height_of place_of pick
back_in_tiles-requires-in-8 c = step_arm c.args.stride c.in-8.is c.requires

pub back_in_tiles-requires-in_default : goal.back_in_tiles-requires-in_default
unfolding block_width block_height width_of height_of place_of pick
back_in_tiles-requires-in_default c =
    let sixteen-here =
    sixteen _ c.requires.size c.in_default.in_default-own.rest.0.0.0.1 c.in_default.in_default-own.rest.0.0.1 c.in_default.in_default-own.rest.0.1 c.in_default.in_default-own.rest.1 in
    step_arm c.args.stride sixteen-here c.requires

pub returns-in-1 : goal.returns-in-1
returns-in-1 c =
    let args = c.args in record { column = c.back_in_tiles.ensures.column ∙ ap (λ (n : ℕ). tiled_x n (args.stride / n) args.o) (sym c.in-1.is); row = c.back_in_tiles.ensures.row ∙ ap (λ (n : ℕ). tiled_y n (args.stride / n) args.o) (sym c.in-1.is) }

pub returns-in-2 : goal.returns-in-2
returns-in-2 c =
    let args = c.args in record { column = c.back_in_tiles-in-2.ensures.column ∙ ap (λ (n : ℕ). tiled_x n (args.stride / n) args.o) (sym c.in-2.is); row = c.back_in_tiles-in-2.ensures.row ∙ ap (λ (n : ℕ). tiled_y n (args.stride / n) args.o) (sym c.in-2.is) }

pub returns-in-4 : goal.returns-in-4
returns-in-4 c =
    let args = c.args in record { column = c.back_in_tiles-in-4.ensures.column ∙ ap (λ (n : ℕ). tiled_x n (args.stride / n) args.o) (sym c.in-4.is); row = c.back_in_tiles-in-4.ensures.row ∙ ap (λ (n : ℕ). tiled_y n (args.stride / n) args.o) (sym c.in-4.is) }

pub returns-in-8 : goal.returns-in-8
returns-in-8 c =
    let args = c.args in record { column = c.back_in_tiles-in-8.ensures.column ∙ ap (λ (n : ℕ). tiled_x n (args.stride / n) args.o) (sym c.in-8.is); row = c.back_in_tiles-in-8.ensures.row ∙ ap (λ (n : ℕ). tiled_y n (args.stride / n) args.o) (sym c.in-8.is) }

pub returns-in_default : goal.returns-in_default
returns-in_default c =
    let args = c.args in
    let size-told = sym (sixteen _ c.requires.size c.in_default.in_default-own.rest.0.0.0.1 c.in_default.in_default-own.rest.0.0.1
    c.in_default.in_default-own.rest.0.1 c.in_default.in_default-own.rest.1) in record { column = c.back_in_tiles-in_default.ensures.column ∙ ap (λ (n : ℕ). tiled_x n (args.stride / n) args.o) size-told; row = c.back_in_tiles-in_default.ensures.row ∙ ap (λ (n : ℕ). tiled_y n (args.stride / n) args.o) size-told }
