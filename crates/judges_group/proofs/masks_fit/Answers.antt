-- `judges_group::masks_fit` meets its contract: a word of the places whose bits don't go together. Assumes nothing.
use Rattle.judges_group.specs.Judged.{Words}
use Rattle.judges_group.proofs.Words.{stray_word}
use Rattle.judges_group.proofs.masks_fit.Goals as goal

pub returns : goal.returns
returns c =
    let a = c.args in
    let f = c.ranges in
    let words : Words a.live a.active a.p0 a.p1 a.p2 a.p3 a.p4 a.killed =
    record {
      live_fits = f.live.fits;
      active_fits = f.active.fits;
      fits0 = f.p0.fits;
      fits1 = f.p1.fits;
      fits2 = f.p2.fits;
      fits3 = f.p3.fits;
      fits4 = f.p4.fits;
      killed_fits = f.killed.fits;
    } in
    record { equal = stray_word a.live a.active a.p0 a.p1 a.p2 a.p3 a.p4 a.killed words; words = words }
