-- Document 01: "A piece of words answers as its words one after another do, up to the first refused one: it also says how many
-- words were taken and how many commands they completed, and those stand." Assumes nothing.
use Rattle.std.specs.Prelude.{Bool, true, false, List, [], ◌∷◌, ◌++◌, ℕ, suc, ◌+◌}
use Rattle.command.specs.Commands.{words_of}
use Rattle.command.specs.declared.commands.Command.{Command}
use Rattle.state.specs.State.{Session}
use Rattle.session.specs.Step.{Reply, still_open, completed, refused, step_of}

-- the first refusal of a piece, or none
pub data First : Type 0 where
  nothing : First
  first : ℕ → First

-- the same as a number: 0 for none
abbrev pub first_status : First → ℕ
first_status nothing = 0
first_status (first number) = number

pub record Fed : Type 0 where
  pub taken : ℕ
  pub commands : List Command
  pub refusal : First
  pub session : Session

-- a word that was taken, then the rest
abbrev pub onward : List Command → Fed → Fed
onward cs f = record { taken = suc f.taken; commands = cs ++ f.commands; refusal = f.refusal; session = f.session }

-- nothing more is looked at
abbrev pub ended : First → Session → Fed
ended r s = record { taken = 0; commands = []; refusal = r; session = s }

-- what the reply to the first word makes of the answer to the rest
unfoldable pub proceed : Reply → Session → Fed → Fed
proceed still_open s rest = onward [] rest
proceed (completed c) s rest = onward (c ∷ []) rest
proceed (refused n) s rest = ended (first n) s

unfoldable pub feed_of : Session → List ℕ → Fed
feed_of s [] = ended nothing s
feed_of s (w ∷ ws) = proceed (step_of s w).reply (step_of s w).session (feed_of (step_of s w).session ws)

-- the first refusal of two pieces, one after the other
abbrev pub earlier : First → First → First
earlier nothing r = r
earlier (first n) r = first n

-- the answers to two pieces, one after the other, as the answer to one: what was taken and completed adds up, the first refusal
-- stands
unfoldable pub joined : Fed → Fed → Fed
joined f g =
    record {
      taken = f.taken + g.taken;
      commands = f.commands ++ g.commands;
      refusal = earlier f.refusal g.refusal;
      session = g.session;
    }

-- what completed commands write, one after the other
unfoldable pub written : List Command → List ℕ
written [] = []
written (c ∷ cs) = words_of c ++ written cs

-- a stream in pieces, fed one after the other
unfoldable pub fed_pieces : Session → List (List ℕ) → Fed
fed_pieces s [] = ended nothing s
fed_pieces s (p ∷ ps) = joined (feed_of s p) (fed_pieces (feed_of s p).session ps)

-- the same stream uncut
unfoldable pub uncut : List (List ℕ) → List ℕ
uncut [] = []
uncut (p ∷ ps) = p ++ uncut ps

-- "An accepted word answers "open", or the command that it completes"
unfoldable pub accepts : Reply → Bool
accepts still_open = true
accepts (completed c) = true
accepts (refused n) = false

-- what the command writes that a word completes; nothing where it completes none
unfoldable pub emitted : Reply → List ℕ
emitted still_open = []
emitted (completed c) = words_of c
emitted (refused n) = []
