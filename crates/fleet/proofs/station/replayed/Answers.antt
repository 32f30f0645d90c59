-- `fleet::station::replayed` meets its contract: the arrays hold the replay of the bytes. Assumes nothing.
use Rattle.score.specs.Lease.{lease_of}
use native.Mathlib.Omega.{arith}
use Rattle.station_log.proofs.Steps.{number_between}
use Rattle.fleet.proofs.Replays.{begun_fine, may_feed, replayed_month}
use Rattle.fleet.proofs.station.summed.Reads as summed_reads
use Rattle.station_log.proofs.stream.begin.Reads as begin_reads
use Rattle.station_log.proofs.stream.feed.Reads as feed_reads
use Rattle.fleet.proofs.station.replayed.Goals as goal

-- an edition that is known isn't refused
pub returns-in_err-begin : goal.returns-in_err-begin
returns-in_err-begin c =
    let none = begun_fine _ c.requires c.in_err-begin.ensures in
    absurd (omega (arith, none, (number_between c.in_err-begin.field-0.0).0))

pub feed-requires : goal.feed-requires
feed-requires c =
    may_feed _ c.requires c.in_ok-begin.ensures

pub returns : goal.returns
returns c =
    let args = c.args in
    replayed_month _ c.requires c.in_ok-begin.ensures (lease_of args.line) args.bytes.now
    c.feed.ensures c.summed.ensures
