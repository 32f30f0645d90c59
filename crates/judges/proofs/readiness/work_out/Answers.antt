-- `judges::readiness::work_out` meets its contract: four windows, then the gauge and the number. Assumes nothing.
use Rattle.judges.proofs.Windows.{renew_asked, worked_out_lem}
use Rattle.judges.proofs.readiness.work_out.Goals as goal

pub renew-requires : goal.renew-requires
renew-requires c =
    renew_asked _ _ _ _ _ _ c.keep_window.ensures c.keep_window-2.ensures
    c.keep_window-3.ensures c.keep_window-4.ensures c.requires

pub returns : goal.returns
returns c =
    worked_out_lem _ _ _ _ _ _ c.keep_window.ensures c.keep_window-2.ensures
    c.keep_window-3.ensures c.keep_window-4.ensures c.renew.ensures
