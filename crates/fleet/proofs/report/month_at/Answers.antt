-- `fleet::report::month_at` meets its contract: the station's four numbers, and its part of the slice. Assumes nothing.
use mathlib.Core.Path.{ap, ◌∙◌, refl}
use mathlib.Core.List.{List}
use Prim.Native.Nat.{ℕ}
use Rattle.score.specs.Score.{score_of_log}
use Rattle.fleet.specs.Fleet.{lease_at}
use Rattle.fleet.specs.Answers.{month_from}
use Rattle.fleet.proofs.Slices.{log_part}
use Rattle.fleet.proofs.station.month_of.Reads as month_of_reads
use Rattle.fleet.proofs.report.month_at.Goals as goal

pub returns : goal.returns
returns c =
    let args = c.args in
    c.month_of.ensures ∙
    ap (λ (x : List ℕ). month_from (lease_at args.numbers.now args.k) (score_of_log args.edition (lease_at args.numbers.now args.k) x))
    (log_part args.numbers.now args.logs.now args.k args.start _ c.requires.begins refl)
