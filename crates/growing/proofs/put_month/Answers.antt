-- `growing::put_month` meets its contract. Assumes nothing.
use Rattle.growing.proofs.Adding.{put_asked, put_as}
use Rattle.growing.proofs.put_month.Goals as goal

pub add-fleet-requires : goal.add-fleet-requires
add-fleet-requires c = put_asked _ _ _ _ c.requires c.totals_in.ensures

pub returns : goal.returns
returns c =
    put_as _ _ _ _ c.requires c.totals_in.ensures c.add-fleet.ensures
    c.put.ensures
