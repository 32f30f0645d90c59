-- `places::table` meets its contract: all 2,048 places are compared with the bit rule's, once. Assumes nothing.
use mathlib.Core.Path.{refl}
use Rattle.laws.specs.Bits.{xor}
use Rattle.laws.specs.Choice.{pick, place_of}
use Rattle.layout.specs.Sizes.{width_of, height_of}
use Rattle.address.specs.Offset.{block_width, block_height, code_of, inside_of}
use Rattle.places.specs.Places.{places_from, places}
use Rattle.places.proofs.table.Goals as goal

pub returns : goal.returns
unfolding places_from places inside_of code_of xor block_width block_height width_of height_of place_of pick
returns c = refl
