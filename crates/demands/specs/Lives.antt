-- Request 9 over the life of two parties' arrays: calls of egretfold_pair_feed, and of egretfold_session_word and egretfold_session_feed with
-- one party's own arrays and the shared ones, in any order, each with its contract. Assumes nothing.
use Rattle.std.specs.Prelude.{◌≡◌, Bool, true, false, List, [], ◌∷◌, ◌++◌, ℕ, ◌+◌, eqb, length, get_or, take, drop}
use Rattle.laws.specs.Choice.{pick}
use Rattle.state.specs.Cells.{party_of, shared_of}
use Rattle.session.specs.Step.{step_of}
use Rattle.session.specs.Feed.{feed_of}
use Rattle.session_rooms.specs.Rooms.{WordCrosses, FeedCrosses}
use Rattle.lessees.specs.Sight.{seen_shared}
use Rattle.lessees.specs.Pair.{Sent, sent_all}
use Rattle.lessees.specs.Rooms.{sent_of, groups_of, earlier_number}
use Rattle.demands.specs.Pairs.{PairArrays, PairFedAt, own_at, tallies_at, session_at, with_party}

-- what a party is told in three numbers: words taken, commands completed, the first refusal or 0
abbrev pub untold : List ℕ
untold = 0 ∷ 0 ∷ 0 ∷ []

-- by egretfold_pair_feed, in its room of six
abbrev pub piece_told : List ℕ → Bool → List ℕ
piece_told fed false = take 3 fed
piece_told fed true = drop 3 fed

-- one party alone is told
abbrev pub told_to : Bool → List ℕ → Bool → List ℕ
told_to false told false = told
told_to false told true = untold
told_to true told false = untold
told_to true told true = told

-- by egretfold_session_word: its status, and where that is 0 whether the room shows a command
abbrev pub word_told : ℕ → List ℕ → List ℕ
word_told r command = pick (eqb r 0) (1 ∷ get_or command 0 0 ∷ 0 ∷ []) (0 ∷ 0 ∷ r ∷ [])

-- by egretfold_session_feed: its room of two, and its status
abbrev pub feed_told : ℕ → List ℕ → List ℕ
feed_told r fed = get_or fed 0 0 ∷ get_or fed 1 0 ∷ r ∷ []

-- what a call tells, and what the calls after it tell
abbrev pub both_told : (Bool → List ℕ) → (Bool → List ℕ) → Bool → List ℕ
both_told now later p =
    (get_or (now p) 0 0 + get_or (later p) 0 0) ∷ (get_or (now p) 1 0 + get_or (later p) 1 0) ∷
    earlier_number (get_or (now p) 2 0) (get_or (later p) 2 0) ∷ []

-- calls one after the other: from which arrays, the words sent with their parties, what each party is told in all, and to which arrays
pub data Life : PairArrays → List Sent → (Bool → List ℕ) → PairArrays → Type 0 where
  no_more : {a : PairArrays} → Life a [] (λ p. untold) a
  -- egretfold_pair_feed
  piece :
      {a : PairArrays} (words parties : List ℕ) (r : ℕ) (fed : List ℕ) (b : PairArrays) (fed' : List ℕ) →
      length parties ≡ groups_of (length words) → PairFedAt words parties r a fed b fed' → {ws : List Sent} {told : Bool → List ℕ} {c : PairArrays} →
      Life b ws told c → Life a (sent_of words parties ++ ws) (both_told (piece_told fed') told) c
  -- the same with too many or too few numbers for the parties: 11
  refused_piece :
      {a : PairArrays} (words parties : List ℕ) (r : ℕ) (fed : List ℕ) (b : PairArrays) (fed' : List ℕ) →
      (length parties ≡ groups_of (length words) → ⊥) → PairFedAt words parties r a fed b fed' →
      {ws : List Sent} {told : Bool → List ℕ} {c : PairArrays} → Life b ws told c → Life a ws told c
  -- egretfold_session_word with a party's own arrays and the shared ones
  word :
      {a : PairArrays} (party : Bool) (w r : ℕ) (own tallies shared command command' : List ℕ) →
      WordCrosses (step_of (session_at party a) w) r own tallies shared command command' →
      {ws : List Sent} {told : Bool → List ℕ} {c : PairArrays} → Life (with_party party own tallies shared a) ws told c →
      Life a (sent_all party (w ∷ []) ++ ws) (both_told (told_to party (word_told r command')) told) c
  -- egretfold_session_feed with them
  feed :
      {a : PairArrays} (party : Bool) (words : List ℕ) (r : ℕ) (own tallies shared fed : List ℕ) →
      FeedCrosses (feed_of (session_at party a) words) r own tallies shared fed →
      {ws : List Sent} {told : Bool → List ℕ} {c : PairArrays} → Life (with_party party own tallies shared a) ws told c →
      Life a (sent_all party words ++ ws) (both_told (told_to party (feed_told r fed)) told) c

-- two callers' arrays look alike to a party: its own cells and its tallies are the same, and so are the settings that it sees
pub record LookAlike (p : Bool) (a a' : PairArrays) : Type 0 where
  pub own_same : own_at p a ≡ own_at p a'
  pub tallies_same : tallies_at p a ≡ tallies_at p a'
  pub settings_same :
      seen_shared (party_of (own_at p a) (tallies_at p a)).birth.mine (shared_of a.shared) ≡
      seen_shared (party_of (own_at p a) (tallies_at p a)).birth.mine (shared_of a'.shared)

-- a party was told the same, and still the arrays look alike to it
pub record SameTo (p : Bool) (told told' : Bool → List ℕ) (a a' : PairArrays) : Type 0 where
  pub told_same : told p ≡ told' p
  pub looks : LookAlike p a a'

-- calls leave what one call with all their words leaves: the arrays, and what each party is told
pub record AsOneCall (told : Bool → List ℕ) (fed : List ℕ) (a a' : PairArrays) : Type 0 where
  pub told_same : (p : Bool) → told p ≡ piece_told fed p
  pub arrays_same : a ≡ a'

-- the answers of two calls of egretfold_session_word: the status, and where it is 0 the room
pub record SameWord (r r' : ℕ) (command command' : List ℕ) : Type 0 where
  pub status_same : r ≡ r'
  pub room_same : r ≡ 0 → command ≡ command'
