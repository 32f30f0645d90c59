-- A station's log as a status and rooms: what a piece of bytes is answered, and where a replay stands. Assumes nothing.
use Rattle.std.specs.Prelude.{◌≡◌, List, [], ◌∷◌, ℕ}
use Rattle.replay.specs.Cells.{ReplayHeld}
use Rattle.session.specs.Feed.{first_status}
use Rattle.station_log.specs.Feed.{Fed}
use Rattle.days.specs.declared.report.Standing.{Standing}

-- a piece: the refusal of its first refused byte or 0, and in any case the bytes taken
pub record FeedCrosses (f : Fed) (r : ℕ) (log marks own tallies shared taken : List ℕ) : Type 0 where
  pub status : r ≡ first_status f.refusal
  pub room : taken ≡ f.taken ∷ []
  pub held : ReplayHeld f.replay log marks own tallies shared

-- where a replay stands, in seven numbers
abbrev pub standing_numbers : Standing → List ℕ
standing_numbers s =
    s.stopped_by ∷ s.refused ∷ s.refused_after ∷ s.midnights ∷ s.first_day ∷ s.last_day ∷ s.unfinished ∷ []
