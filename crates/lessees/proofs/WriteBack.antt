-- Document 02, request 9: demand 2's rules are each party's: its accepted commands write back to its own words, and these read again, by a
-- session that has the settings which the party saw. Assumes nothing.
use mathlib.Core.Path.{◌≡◌, sym, ◌∙◌, subst}
use mathlib.Core.Bool.{Bool, true, false}
use mathlib.Core.List.{List, ◌++◌}
use Prim.Native.Nat.{ℕ, ◌+◌, ◌≤◌}
use lib.ListN.{length, take}
use Rattle.state.specs.State.{Session}
use Rattle.state.specs.Effects.{limit}
use Rattle.state.specs.Valid.{Valid, held_of}
use Rattle.state.proofs.Seen.{seen_length}
use Rattle.session.specs.Feed.{Fed, feed_of, written}
use Rattle.session.specs.Again.{Idle, SameSettings, ReadAgain}
use Rattle.session.proofs.WriteBack.{taken_back}
use Rattle.session.proofs.ReadAgain.{read_again}
use Rattle.lessees.specs.Sight.{seen_shared, seen}
use Rattle.lessees.specs.Pair.{Pair, Sent, side, piece_of, words_for, alone, PairValid}
use Rattle.lessees.proofs.Alike.{seen_worked}
use Rattle.lessees.proofs.Isolation.{isolated}
use Rattle.lessees.proofs.Lawful.{seen_lawful}

-- a valid session is valid as its party sees it
seen_valid : (s : Session) → Valid s → Valid (seen s)
unfolding seen_shared
seen_valid s u =
    let mine = s.party.birth.mine in
    record {
      flag = u.flag;
      full = u.full;
      line_most = u.line_most;
      closed = u.closed;
      dropped = u.dropped;
      opened = u.opened;
      counted = u.counted;
      domain = u.domain;
      domain_set_lem = u.domain_set_lem;
      instructions = u.instructions;
      tally = u.tally;
      mine_most = u.mine_most;
      owned = u.owned;
      edition = u.edition;
      readiness =
          u.readiness ∙
          sym (seen_worked mine s.shared s.party.birth.edition s.party.domain s.party.instructions);
      settings = seen_lawful mine s.shared u.settings;
      outputs = seen_length mine 16 s.shared.outputs ∙ u.outputs;
      inputs = seen_length mine 0 s.shared.inputs ∙ u.inputs;
    }

-- each side of a pair, as its party sees it
side_valid : (p : Bool) (q : Pair) → PairValid q → Valid (seen (side p q))
side_valid false q v = seen_valid (side false q) v.valid0
side_valid true q v = seen_valid (side true q) v.valid1

-- the words that a party's open command held before a piece, with those that were taken of it, are its commands' words and those that it
-- leaves held; also where a later word is refused
pub party_back :
    (p : Bool) (q : Pair) → PairValid q → (ws : List Sent) →
    held_of (seen (side p q)).party.opened ++ take (alone p (piece_of q ws)).taken (words_for p ws) ≡
    written (alone p (piece_of q ws)).commands ++
    held_of (feed_of (seen (side p q)) (take (alone p (piece_of q ws)).taken (words_for p ws))).session.party.opened
party_back p q v ws =
    subst
    (λ (f : Fed).
    held_of (seen (side p q)).party.opened ++ take f.taken (words_for p ws) ≡
    written f.commands ++ held_of (feed_of (seen (side p q)) (take f.taken (words_for p ws))).session.party.opened)
    (sym (isolated p q v ws)) (taken_back (seen (side p q)) (words_for p ws) (side_valid p q v))

-- these words, read again by a session between two commands that has the settings which the party saw, give its commands and its settings
pub party_again :
    (p : Bool) (q : Pair) → PairValid q → (ws : List Sent) → (u : Session) → SameSettings (seen (side p q)) u → Idle u →
    u.party.taken + length (written (alone p (piece_of q ws)).commands) ≤ limit →
    ReadAgain (alone p (piece_of q ws)).commands (alone p (piece_of q ws)).session
    (feed_of u (written (alone p (piece_of q ws)).commands))
party_again p q v ws =
    subst
    (λ (f : Fed).
    (u : Session) → SameSettings (seen (side p q)) u → Idle u → u.party.taken + length (written f.commands) ≤ limit →
    ReadAgain f.commands f.session (feed_of u (written f.commands)))
    (sym (isolated p q v ws)) (read_again (seen (side p q)) (words_for p ws) (side_valid p q v))
