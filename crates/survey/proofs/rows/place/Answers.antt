-- `survey::rows::place` meets its contract: the address that the offset gives, in memory. Assumes nothing.
use Rattle.survey.proofs.Numbers.{pair_asked}
use Rattle.survey.proofs.rows.place.Goals as goal

pub offset-requires : goal.offset-requires
offset-requires c = (pair_asked _ _ _ c.requires.stride_is c.requires.column c.requires.row, c.requires.stride_is.whole)
