-- Lessees: two parties on one card (request 9).
-- A page behind Demands.antt, made as that one is: each statement under its sentence, each proof a citation. Assumes nothing.
use mathlib.Core.Path.{◌≡◌}
use mathlib.Core.Bool.{Bool, true, false}
use mathlib.Core.List.{List, ◌++◌, map}
use Prim.Native.Nat.{ℕ, ◌+◌, ◌≤◌}
use lib.ListN.{length, take}
use Rattle.state.specs.State.{Session, new_session}
use Rattle.state.specs.Effects.{limit}
use Rattle.state.specs.Valid.{held_of}
use Rattle.session.specs.Step.{step_of}
use Rattle.session.specs.Feed.{feed_of, written}
use Rattle.session.specs.Again.{Idle, SameSettings, ReadAgain}
use Rattle.session_rooms.specs.Rooms.{WordCrosses}
use Rattle.lessees.specs.Pair.{Pair, Sent, side, piece_of, words_for, alone, sent_all, PairValid}
use Rattle.lessees.specs.Life.{pair_pieces, uncut_sent, replies_for, tolds_for}
use Rattle.lessees.specs.Life as lives
use Rattle.lessees.specs.Sight.{seen}
use Rattle.lessees.specs.Begin.{may_begin, new_pair}
use Rattle.lessees.specs.Rooms.{sent_of, groups_of}
use Rattle.lessees.proofs.Begun.{begun_valid}
use Rattle.lessees.proofs.Isolation.{isolated}
use Rattle.lessees.proofs.Life.{same_pieces, same_replies, same_tolds, cut_anywhere as pairs_cut_anywhere}
use Rattle.lessees.proofs.WriteBack.{party_back, party_again}
use Rattle.lessees.proofs.Runs.{ran_for, one_party, other_untouched0, other_untouched1}
use Rattle.demands.specs.Pairs.{PairArrays, PairGivenAt, PairFedAt, session_at}
use Rattle.demands.specs.Lives.{Life, LookAlike, AsOneCall, SameWord}
use Rattle.demands.proofs.Lives.{word_isolated, life_given, life_as_one}

-- REQUEST 9, "Two lessees on one card"

-- A session of two parties that may begin is one that its entries take.
pub lessees_begun : (inputs outputs edition : ℕ) → may_begin inputs outputs edition ≡ true → PairValid (new_pair inputs outputs edition)
lessees_begun = begun_valid

-- Word by word: the same word of the party has the same status, and where that is 0 the same answer in its room.
pub lessees_word :
    (p : Bool) {a a' : PairArrays} → PairGivenAt a → PairGivenAt a' → LookAlike p a a' →
    (w r r' : ℕ) (own tallies shared command command₁ own' tallies' shared' command' command₁' : List ℕ) →
    WordCrosses (step_of (session_at p a) w) r own tallies shared command command₁ →
    WordCrosses (step_of (session_at p a') w) r' own' tallies' shared' command' command₁' → SameWord r r' command₁ command₁'
lessees_word = word_isolated

-- What such calls leave is what they ask for.
pub lessees_given :
    {a : PairArrays} {ws : List Sent} {told : Bool → List ℕ} {b : PairArrays} → PairGivenAt a → Life a ws told b → PairGivenAt b
lessees_given = life_given

-- The same of records: pairs that look alike to a party, and each of its words has the same reply, and each piece the same answer.
pub lessees_pieces :
    (p : Bool) (q q' : Pair) → PairValid q → PairValid q' → lives.LookAlike p q q' →
    (ps ps' : List (List Sent)) → words_for p (uncut_sent ps) ≡ words_for p (uncut_sent ps') → lives.SameTo p (pair_pieces q ps) (pair_pieces q' ps')
lessees_pieces = same_pieces

pub lessees_replies :
    (p : Bool) (q q' : Pair) → PairValid q → PairValid q' → lives.LookAlike p q q' →
    (ws ws' : List Sent) → words_for p ws ≡ words_for p ws' → replies_for p q ws ≡ replies_for p q' ws'
lessees_replies = same_replies

pub lessees_each_piece :
    (p : Bool) (q q' : Pair) → PairValid q → PairValid q' → lives.LookAlike p q q' →
    (ps ps' : List (List Sent)) → map (words_for p) ps ≡ map (words_for p) ps' → tolds_for p q ps ≡ tolds_for p q' ps'
lessees_each_piece = same_tolds

-- Each party has and is told what its own words, fed by themselves to what it sees, leave and are told: so demand 2's rules are each
-- party's.
pub lessees_alone : (p : Bool) (q : Pair) → PairValid q → (ws : List Sent) → alone p (piece_of q ws) ≡ feed_of (seen (side p q)) (words_for p ws)
lessees_alone = isolated

-- So a party's accepted commands write back: the words that its open command held before a piece, with those that were taken of it, are its
-- commands' words and those of the command that it leaves open; also where a later word is refused.
pub lessees_write_back :
    (p : Bool) (q : Pair) → PairValid q → (ws : List Sent) →
    held_of (seen (side p q)).party.opened ++ take (alone p (piece_of q ws)).taken (words_for p ws) ≡
    written (alone p (piece_of q ws)).commands ++
    held_of (feed_of (seen (side p q)) (take (alone p (piece_of q ws)).taken (words_for p ws))).session.party.opened
lessees_write_back = party_back

-- These words, read again by a session between two commands that has the settings which the party saw and room for them, give its commands
-- and its settings.
pub lessees_read_again :
    (p : Bool) (q : Pair) → PairValid q → (ws : List Sent) → (u : Session) → SameSettings (seen (side p q)) u → Idle u →
    u.party.taken + length (written (alone p (piece_of q ws)).commands) ≤ limit →
    ReadAgain (alone p (piece_of q ws)).commands (alone p (piece_of q ws)).session
    (feed_of u (written (alone p (piece_of q ws)).commands))
lessees_read_again = party_again

-- "Demand 2's cut rule is read over the stream of (party, word).": pieces cut anywhere, into any number, answer and leave what the uncut
-- stream does.
pub lessees_cut : (q : Pair) (ps : List (List Sent)) → pair_pieces q ps ≡ piece_of q (uncut_sent ps)
lessees_cut = pairs_cut_anywhere

-- The same over the arrays: calls in any order leave the arrays, and tell each party in all, what one call of egretfold_pair_feed with all
-- their words leaves and tells.
pub lessees_cut_calls :
    {a : PairArrays} {ws : List Sent} {told : Bool → List ℕ} {b : PairArrays} → PairGivenAt a → Life a ws told b →
    (words parties : List ℕ) (r : ℕ) (fed : List ℕ) (c : PairArrays) (fed' : List ℕ) → length parties ≡ groups_of (length words) →
    sent_of words parties ≡ ws → PairFedAt words parties r a fed c fed' → AsOneCall told fed' b c
lessees_cut_calls = life_as_one

-- With party 0 owning all and no word of party 1, every answer is the old one.
pub lessees_one_party :
    (edition : ℕ) (ws : List ℕ) →
    piece_of (new_pair 0 0 edition) (sent_all false ws) ≡ ran_for false (feed_of (new_session edition) ws) (new_pair 0 0 edition)
lessees_one_party = one_party

-- "a stop stops only its party, and the word limit is per party": words of one party leave the other's own part as it is.
pub lessees_stop_0 : (q : Pair) (ws : List ℕ) → (piece_of q (sent_all true ws)).pair.party0 ≡ q.party0
lessees_stop_0 = other_untouched0

pub lessees_stop_1 : (q : Pair) (ws : List ℕ) → (piece_of q (sent_all false ws)).pair.party1 ≡ q.party1
lessees_stop_1 = other_untouched1
