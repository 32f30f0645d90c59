-- Document 01's worked cases.
-- A page behind Demands.antt, made as that one is: each statement under its sentence, each proof a citation. Assumes nothing.
use mathlib.Core.Path.{refl}
use Rattle.laws.specs.Bits.{xor}
use Rattle.laws.specs.Choice.{◌and◌, pick, place_of}
use Rattle.laws.specs.Below.{some, every, least}
use Rattle.laws.specs.Masks.{◌or◌, differ, digit, on, pack}
use Rattle.layout.specs.Sizes.{is_size, width_of, height_of}
use Rattle.layout.specs.Layout.{well_formed, unit_of, row_step, tile_rows, span_of, in_bounds, window_rule, judge_of}
use Rattle.address.specs.Offset.{block_width, block_height, code_of, inside_of, tiled_offset, linear_offset, offset_of}
use Rattle.address.specs.Address.{if_accepted, inside, address_of, breaks, run_of, translate_of}
use Rattle.group.specs.Proc.{wants, decided, branched}
use Rattle.group.specs.Group.{allowed, fresh, turned_if, wish_of, over_limit, way_of, settled, jump_step, slot_step, ended, group_step as step_of_flow}
use Rattle.flow.specs.Cases.{one_word, c9, c10, c11, c12}
use Rattle.demands.specs.Cases.{Agree as Cases, cases}

-- THE WORKED CASES

-- The worked cases C1 to C12 of document 01, all together.
pub worked_cases : Cases cases
unfolding
    ◌and◌ pick place_of is_size width_of height_of well_formed unit_of row_step tile_rows span_of in_bounds window_rule judge_of xor block_width
    block_height code_of inside_of tiled_offset linear_offset offset_of if_accepted inside address_of breaks least run_of translate_of ◌or◌ differ digit
    on pack some every wants decided branched allowed fresh turned_if wish_of over_limit way_of settled jump_step slot_step ended step_of_flow
    one_word c9 c10 c11 c12
worked_cases =
    (refl, (refl, (refl, (refl, (refl, (refl, (refl, (refl, (refl, (refl, (refl, (refl, (refl, (refl, (refl, tt)))))))))))))))
