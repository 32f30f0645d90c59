-- "Words of a log are party 0's, which there owns every number": no word of a log is refused with 20. Assumes nothing.
use mathlib.Core.Path.{◌≡◌, refl, sym, ap, ◌∙◌, subst}
use mathlib.Core.List.{List}
use Prim.Native.Nat.{ℕ}
use Rattle.laws.specs.Choice.{pick}
use Rattle.laws.proofs.Choice.{pick_yes}
use Rattle.state.specs.State.{new_session}
use Rattle.session.specs.Feed.{First, nothing, first, feed_of}
use Rattle.lessees.specs.Owning.{OwnerNumber, LogNumber}
use Rattle.lessees.specs.Owning as owning
use Rattle.lessees.proofs.Owning.{piece_number}
use Rattle.replay.specs.State.{new_replay}
use Rattle.station_log.specs.Feed.{replay_of}
use Rattle.station_log.specs.Words.{words_in, reported}
use Rattle.station_log.proofs.Words.{first_refusal}

reported_number : (f : First) → ((n : ℕ) → f ≡ first n → OwnerNumber n) → LogNumber (reported f 0)
unfolding reported pick
reported_number nothing h = owning.none
reported_number (first n) h = owning.refused (h n refl)

pub log_number : (edition : ℕ) (bytes : List ℕ) → LogNumber (replay_of (new_replay edition) bytes).replay.refused.number
log_number edition bytes =
    subst LogNumber (sym (first_refusal (new_replay edition) bytes))
    (reported_number (feed_of (new_session edition) (words_in (new_replay edition) bytes)).refusal
    (piece_number (new_session edition) refl refl (words_in (new_replay edition) bytes)))
