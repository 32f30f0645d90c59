-- `session_rooms::feed` meets its contract: each answer crosses as it is told. Assumes nothing.
use mathlib.Core.Path.{sym, ap, ap₂, ◌∙◌}
use mathlib.Core.List.{[], ◌∷◌}
use Prim.Native.Nat.{ℕ}
use Rattle.session.specs.Answers.{first_of}
use Rattle.session.specs.Feed.{first_status}
use Rattle.session_rooms.proofs.Words.{one_piece}
use Rattle.session_rooms.proofs.feed.Goals as goal

-- a piece of one word
pub returns-then-words-eq1 : goal.returns-then-words-eq1
returns-then-words-eq1 c =
    one_piece _ _ c.if-words-eq1.true c.feed_one.ensures

-- no word of a longer piece is refused
pub returns-in-None : goal.returns-in-None
returns-in-None c =
    record {
      status = ap first_status (sym (ap first_of c.in-None.is) ∙ c.feed-piece.ensures.refusal);
      room = ap₂ (λ (a b : ℕ). a ∷ b ∷ []) c.feed-piece.ensures.taken c.feed-piece.ensures.commands;
      held = c.feed-piece.ensures.held;
    }

-- one is
pub returns-in-Some : goal.returns-in-Some
returns-in-Some c =
    record {
      status =
          c.from.ensures ∙ ap first_status
          (sym (ap first_of c.in-Some.is) ∙ c.feed-piece.ensures.refusal);
      room =
          ap₂ (λ (a b : ℕ). a ∷ b ∷ []) c.feed-piece.ensures.taken
          c.feed-piece.ensures.commands;
      held = c.feed-piece.ensures.held;
    }
