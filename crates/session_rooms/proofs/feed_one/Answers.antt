-- `session_rooms::feed_one` meets its contract: the word's step tells what a piece of it does. Assumes nothing.
use mathlib.Core.Path.{sym, ap, subst}
use Prim.Native.Nat.{ℕ}
use Rattle.session.proofs.Single.{one_open, one_completed, one_refused}
use Rattle.session_rooms.proofs.Words.{one_crosses}
use Rattle.session_rooms.proofs.feed_one.Goals as goal

-- the command is still open
pub returns-in-Ok-Open : goal.returns-in-Ok-Open
returns-in-Ok-Open c = one_crosses (one_open _ _ c.in-Ok-Open.field-0-is c.in-Ok-Open.ensures)

-- the word completed it
pub returns-in-Ok-Whole : goal.returns-in-Ok-Whole
returns-in-Ok-Whole c = one_crosses (one_completed _ _ c.in-Ok-Whole.field-0-is c.in-Ok-Whole.ensures)

-- the word is refused
pub returns-in-Err : goal.returns-in-Err
returns-in-Err c = one_crosses (one_refused _ _ _ _ c.from.ensures c.in-Err.ensures)
