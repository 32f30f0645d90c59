-- Document 02, request 9, "Two lessees on one card": two parties over one session's settings. Assumes nothing.
use Rattle.std.specs.Prelude.{Bool, true, false, List, [], ◌∷◌, ◌++◌, ℕ, suc, ◌+◌, ◌/◌, ◌%◌, get_or}
use Rattle.laws.specs.Choice.{pick}
use Rattle.laws.specs.Masks.{on}
use Rattle.command.specs.declared.commands.Command.{Command}
use Rattle.state.specs.State.{Party, Shared, Session}
use Rattle.state.specs.Valid.{Valid}
use Rattle.session.specs.Step.{Reply, still_open, completed, refused, Stepped, step_of}
use Rattle.session.specs.Feed.{First, nothing, first, earlier, Fed}
use Rattle.lessees.specs.Sight.{Apart, seen}

pub record Pair : Type 0 where
  pub party0 : Party
  pub party1 : Party
  pub shared : Shared

-- "Each word carries its party (one bit)": false for party 0, true for party 1
pub record Sent : Type 0 where
  pub party : Bool
  pub word : ℕ

-- the session as one party has it
abbrev pub side : Bool → Pair → Session
side false q = record { party = q.party0; shared = q.shared }
side true q = record { party = q.party1; shared = q.shared }

-- a party's session put back
abbrev pub put_back : Bool → Session → Pair → Pair
put_back false s q = record { party0 = s.party; party1 = q.party1; shared = s.shared }
put_back true s q = record { party0 = q.party0; party1 = s.party; shared = s.shared }

-- what a party is told of a piece: "words taken, commands, first refusal"
pub record Part : Type 0 where
  pub taken : ℕ
  pub commands : List Command
  pub refusal : First

abbrev pub silence : Part
silence = record { taken = 0; commands = []; refusal = nothing }

-- a word's reply before what the party is told of the rest
unfoldable pub noted : Reply → Part → Part
noted still_open t = record { taken = suc t.taken; commands = t.commands; refusal = t.refusal }
noted (completed c) t = record { taken = suc t.taken; commands = c ∷ t.commands; refusal = t.refusal }
noted (refused n) t = record { taken = t.taken; commands = t.commands; refusal = first n }

pub record PairFed : Type 0 where
  pub told0 : Part
  pub told1 : Part
  pub pair : Pair

unfoldable pub noted_for : Bool → Reply → PairFed → PairFed
noted_for false r f = record { told0 = noted r f.told0; told1 = f.told1; pair = f.pair }
noted_for true r f = record { told0 = f.told0; told1 = noted r f.told1; pair = f.pair }

unfoldable pub pair_step : Pair → Sent → Stepped
pair_step q w = step_of (side w.party q) w.word

-- "A piece runs on past a refused word and answers for each party apart"
unfoldable pub piece_of : Pair → List Sent → PairFed
piece_of q [] = record { told0 = silence; told1 = silence; pair = q }
piece_of q (w ∷ ws) =
    noted_for w.party (pair_step q w).reply (piece_of (put_back w.party (pair_step q w).session q) ws)

-- the answers to two pieces, one after the other, as the answer to one
unfoldable pub joined_part : Part → Part → Part
joined_part a b =
    record { taken = a.taken + b.taken; commands = a.commands ++ b.commands; refusal = earlier a.refusal b.refusal }

unfoldable pub joined_pair : PairFed → PairFed → PairFed
joined_pair f g =
    record { told0 = joined_part f.told0 g.told0; told1 = joined_part f.told1 g.told1; pair = g.pair }

-- a party's words
unfoldable pub mine_of : Bool → Sent → List ℕ → List ℕ
mine_of false w rest = pick w.party rest (w.word ∷ rest)
mine_of true w rest = pick w.party (w.word ∷ rest) rest

unfoldable pub words_for : Bool → List Sent → List ℕ
words_for p [] = []
words_for p (w ∷ ws) = mine_of p w (words_for p ws)

abbrev pub told_for : Bool → PairFed → Part
told_for false f = f.told0
told_for true f = f.told1

-- a party's answers, its own part and what it sees of the settings
unfoldable pub alone : Bool → PairFed → Fed
alone p f =
    record {
      taken = (told_for p f).taken;
      commands = (told_for p f).commands;
      refusal = (told_for p f).refusal;
      session = seen (side p f.pair);
    }

-- words of one party, as they are sent
unfoldable pub sent_all : Bool → List ℕ → List Sent
sent_all p [] = []
sent_all p (w ∷ ws) = record { party = p; word = w } ∷ sent_all p ws

-- what holds of every pair that the entries give out: each party's session is valid, and nothing is owned by both
pub record PairValid (q : Pair) : Type 0 where
  pub valid0 : Valid (side false q)
  pub valid1 : Valid (side true q)
  pub apart01 : Apart q.party0.birth.mine q.party1.birth.mine
  pub apart10 : Apart q.party1.birth.mine q.party0.birth.mine
