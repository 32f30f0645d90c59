-- A replay that forgets its past days: of its midnights only the last one is kept, so that 399 more may come. Assumes nothing.
use Rattle.std.specs.Prelude.{List, ℕ, ◌-◌, eqb, replicate}
use Rattle.laws.specs.Choice.{pick}
use Rattle.state.specs.State.{Tally}
use Rattle.replay.specs.State.{WordRefused, Replay, marks_length}
use Rattle.replay.specs.Step.{marked}
use Rattle.replay.specs.Report.{mark_at}

-- the marks of a replay with one midnight, at which the tallies were these
abbrev pub only_mark : Tally → List ℕ
only_mark t = marked (replicate marks_length 0) 0 t

-- the first refused word where the first `cut` midnights are forgotten: a word that came before the first midnight that is kept
-- came before all that are left
abbrev pub cut_before : ℕ → WordRefused → WordRefused
cut_before cut f = record { number = f.number; midnights = f.midnights - cut }

-- of a replay's midnights the last one only: its day, and the tallies at it. All else stands.
abbrev pub last_only : Replay → Replay
last_only r =
    record {
      session = r.session;
      opened = r.opened;
      stopped_by = r.stopped_by;
      refused = cut_before (r.midnights - 1) r.refused;
      midnights = 1;
      last_day = r.last_day;
      marks = only_mark (mark_at r.marks (r.midnights - 1));
    }

-- a replay without a midnight has none to forget
unfoldable pub trimmed : Replay → Replay
trimmed r = pick (eqb r.midnights 0) r (last_only r)
