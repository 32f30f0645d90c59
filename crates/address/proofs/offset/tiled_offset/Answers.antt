-- `address::offset::tiled_offset` meets its contract: each arm hands over its size's blocks. Assumes nothing.
use Rattle.std.proofs.Common.{ℕ, ◌/◌, sym, ap, ◌∙◌}
use Rattle.laws.specs.Choice.{pick, place_of}
use Rattle.layout.specs.Sizes.{width_of, height_of}
use Rattle.layout.proofs.Sizes.{sixteen}
use Rattle.address.specs.Offset.{block_width, block_height, tiled_offset}
use Rattle.address.proofs.Sums.{pair_arm}
use Rattle.address.proofs.offset.tiled_offset.Goals as goal

pub in_tiles-requires : goal.in_tiles-requires
unfolding block_width block_height width_of height_of place_of pick
in_tiles-requires c = pair_arm c.args.stride c.in-1.is c.requires

pub in_tiles-requires-in-2 : goal.in_tiles-requires-in-2
unfolding block_width block_height width_of height_of place_of pick
in_tiles-requires-in-2 c = pair_arm c.args.stride c.in-2.is c.requires

pub in_tiles-requires-in-4 : goal.in_tiles-requires-in-4
unfolding block_width block_height width_of height_of place_of pick
in_tiles-requires-in-4 c = pair_arm c.args.stride c.in-4.is c.requires

pub in_tiles-requires-in-8 : goal.in_tiles-requires-in-8
unfolding block_width block_height width_of height_of place_of pick
in_tiles-requires-in-8 c = pair_arm c.args.stride c.in-8.is c.requires

pub in_tiles-requires-in_default : goal.in_tiles-requires-in_default
unfolding block_width block_height width_of height_of place_of pick
in_tiles-requires-in_default c =
    let sixteen-here =
    sixteen _ c.requires.size c.in_default.in_default-own.rest.0.0.0.1 c.in_default.in_default-own.rest.0.0.1 c.in_default.in_default-own.rest.0.1 c.in_default.in_default-own.rest.1 in
    pair_arm c.args.stride sixteen-here c.requires

pub returns-in-1 : goal.returns-in-1
returns-in-1 c =
    let args = c.args in
    c.in_tiles.ensures ∙ ap (λ (n : ℕ). tiled_offset n (args.stride / n) args.x args.y) (sym c.in-1.is)

pub returns-in-2 : goal.returns-in-2
returns-in-2 c =
    let args = c.args in
    c.in_tiles-in-2.ensures ∙ ap (λ (n : ℕ). tiled_offset n (args.stride / n) args.x args.y) (sym c.in-2.is)

pub returns-in-4 : goal.returns-in-4
returns-in-4 c =
    let args = c.args in
    c.in_tiles-in-4.ensures ∙ ap (λ (n : ℕ). tiled_offset n (args.stride / n) args.x args.y) (sym c.in-4.is)

pub returns-in-8 : goal.returns-in-8
returns-in-8 c =
    let args = c.args in
    c.in_tiles-in-8.ensures ∙ ap (λ (n : ℕ). tiled_offset n (args.stride / n) args.x args.y) (sym c.in-8.is)

pub returns-in_default : goal.returns-in_default
returns-in_default c =
    let args = c.args in
    let size-told = sym (sixteen _ c.requires.size c.in_default.in_default-own.rest.0.0.0.1 c.in_default.in_default-own.rest.0.0.1
    c.in_default.in_default-own.rest.0.1 c.in_default.in_default-own.rest.1) in
    c.in_tiles-in_default.ensures ∙ ap (λ (n : ℕ). tiled_offset n (args.stride / n) args.x args.y) size-told
