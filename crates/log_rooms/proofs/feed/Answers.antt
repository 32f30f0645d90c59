-- `log_rooms::feed` meets its contract: each answer crosses as it is told. Assumes nothing.
use Rattle.session.specs.Feed.{first_status}
use Rattle.session.specs.Answers.{first_of}
use Prim.Native.Nat.{ℕ}
use mathlib.Core.List.{[], ◌∷◌}
use mathlib.Core.Path.{sym, ap, ◌∙◌}
use Rattle.log_rooms.proofs.feed.Goals as goal

pub returns-in-None : goal.returns-in-None
returns-in-None c =
    record {
      status = ap first_status (sym (ap first_of c.in-None.is) ∙ c.feed-piece.ensures.refusal);
      room = ap (λ (a : ℕ). a ∷ []) c.feed-piece.ensures.taken;
      held = c.feed-piece.ensures.held;
    }

pub returns-in-Some : goal.returns-in-Some
returns-in-Some c =
    record {
      status =
          c.from.ensures ∙ ap first_status
          (sym (ap first_of c.in-Some.is) ∙ c.feed-piece.ensures.refusal);
      room = ap (λ (a : ℕ). a ∷ []) c.feed-piece.ensures.taken;
      held = c.feed-piece.ensures.held;
    }
