-- The whole product over the arrays: from a replay that was begun, through the pieces of a log, cut anywhere, to a month's rooms: they
-- hold the score of the uncut bytes. Assumes nothing.
use mathlib.Core.Path.{◌≡◌, subst}
use mathlib.Core.Bool.{true}
use mathlib.Core.List.{List}
use Prim.Native.Nat.{ℕ}
use Rattle.state.specs.Start.{is_edition}
use Rattle.session.specs.Feed.{uncut}
use Rattle.replay.specs.State.{Replay}
use Rattle.log_rooms.specs.Pieces.{Arrays, BeginsAt, Pieces}
use Rattle.log_rooms.proofs.Cut.{from_begin}
use Rattle.score.specs.Lease.{Lease}
use Rattle.score.specs.Score.{score_of, score_of_log}
use Rattle.score_rooms.specs.Rooms.{MonthCrosses, ScoreCrosses}

pub score_from_log :
    (edition : ℕ) → is_edition edition ≡ true → (l : Lease) (a0 a : Arrays) (b : ℕ) → BeginsAt edition b a0 a →
    (ps : List (List ℕ)) (status taken : ℕ) (a1 : Arrays) → Pieces a ps status taken a1 →
    (r : ℕ) (claimed served month claimed' served' month' : List ℕ) →
    ScoreCrosses l a1.log a1.marks a1.tallies r claimed served month claimed' served' month' →
    MonthCrosses (score_of_log edition l (uncut ps)) r claimed served month claimed' served' month'
score_from_log edition known l a0 a b begun ps status taken a1 fed r claimed served month claimed' served' month' c =
    subst (λ (x : Replay). MonthCrosses (score_of l x) r claimed served month claimed' served' month')
    (from_begin edition known a0 a b begun ps status taken a1 fed) (c.crosses a1.own a1.shared)
