-- Document 02, request 9, over the life of a pair: a stream of (party, word) in any number of pieces, the answers to a party's words one by
-- one and piece by piece, and two pairs that look alike to a party. Assumes nothing.
use Rattle.std.specs.Prelude.{◌≡◌, Bool, true, false, List, [], ◌∷◌, ◌++◌, ℕ}
use Rattle.laws.specs.Choice.{pick}
use Rattle.state.specs.State.{Session}
use Rattle.session.specs.Step.{Reply, step_of}
use Rattle.session.specs.Feed.{Fed, feed_of}
use Rattle.lessees.specs.Sight.{seen}
use Rattle.lessees.specs.Pair.{Pair, Sent, side, put_back, Part, silence, PairFed, pair_step, piece_of, joined_pair, told_for}

-- a stream in pieces, fed one after the other
unfoldable pub pair_pieces : Pair → List (List Sent) → PairFed
pair_pieces q [] = record { told0 = silence; told1 = silence; pair = q }
pair_pieces q (a ∷ rest) = joined_pair (piece_of q a) (pair_pieces (piece_of q a).pair rest)

-- the same stream uncut
unfoldable pub uncut_sent : List (List Sent) → List Sent
uncut_sent [] = []
uncut_sent (a ∷ rest) = a ++ uncut_sent rest

-- two pairs look alike to a party: its own part is the same, and so are the settings that it sees
abbrev pub LookAlike : Bool → Pair → Pair → Type 0
LookAlike p q q' = seen (side p q) ≡ seen (side p q')

-- the reply to a word, where the word is the party's, before those to the rest
unfoldable pub mine_reply : Bool → Bool → Reply → List Reply → List Reply
mine_reply false b r rest = pick b rest (r ∷ rest)
mine_reply true b r rest = pick b (r ∷ rest) rest

-- the replies to a party's words, one by one
unfoldable pub replies_for : Bool → Pair → List Sent → List Reply
replies_for p q [] = []
replies_for p q (w ∷ ws) = mine_reply p w.party (pair_step q w).reply (replies_for p (put_back w.party (pair_step q w).session q) ws)

-- the replies of a session to words, one by one
unfoldable pub replies_of : Session → List ℕ → List Reply
replies_of s [] = []
replies_of s (w ∷ ws) = (step_of s w).reply ∷ replies_of (step_of s w).session ws

-- what a party is told of each piece
unfoldable pub tolds_for : Bool → Pair → List (List Sent) → List Part
tolds_for p q [] = []
tolds_for p q (a ∷ rest) = told_for p (piece_of q a) ∷ tolds_for p (piece_of q a).pair rest

-- what a session tells of each piece
unfoldable pub tolds_of : Session → List (List ℕ) → List Part
tolds_of s [] = []
tolds_of s (a ∷ rest) =
    record { taken = (feed_of s a).taken; commands = (feed_of s a).commands; refusal = (feed_of s a).refusal } ∷ tolds_of (feed_of s a).session rest

-- a party is told the same, and the pairs look alike to it
pub record SameTo (p : Bool) (f g : PairFed) : Type 0 where
  pub told : told_for p f ≡ told_for p g
  pub looks : LookAlike p f.pair g.pair
