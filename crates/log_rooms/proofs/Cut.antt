-- "Demand 2's cut rule then also holds for bytes", over the arrays: two pieces through `feed`, one after the other, leave what the
-- joined piece leaves, with the sum of what they took and the first refusal; so does any list of pieces. A byte through `take_byte` is a
-- piece of one byte. Assumes nothing.
use mathlib.Core.Path.{◌≡◌, refl, sym, ap, ap₂, ◌∙◌, subst}
use mathlib.Core.Bool.{true}
use mathlib.Core.List.{List, [], ◌∷◌, ◌++◌}
use Prim.Native.Nat.{ℕ, ◌+◌}
use borrow.Author.Tests.{ne_eqb}
use Rattle.laws.specs.Choice.{pick}
use Rattle.laws.proofs.Choice.{pick_no}
use Rattle.state.specs.Start.{is_edition}
use Rattle.session.specs.Feed.{First, nothing, first, earlier, uncut, first_status}
use Rattle.replay.specs.State.{Replay, new_replay}
use Rattle.replay.specs.Step.{Reply}
use Rattle.replay.specs.Step as step
use Rattle.station_log.specs.Asked.{Bytes8}
use Rattle.station_log.specs.Bytes.{byte_step}
use Rattle.station_log.specs.Feed.{Fed, ended, proceed, joined, replay_of, replay_pieces}
use Rattle.station_log.proofs.Cut.{Stopping, stopping, cut, cut_anywhere}
use Rattle.station_log.proofs.Feeding.{held_view}
use Rattle.station_log.proofs.Handed.{held_same, begun_given, piece_given}
use Rattle.station_log.proofs.Kept.{new_replay_valid, piece_valid}
use Rattle.log_rooms.specs.Pieces.{Arrays, replay_at, GivenAt, BeginsAt, FedAt, ByteAt, taken_by, first_of_two, Pieces, none, more}

-- the status of two pieces: a refusal's number is never 0
first_status_lem : (r : Replay) (f : Fed) (y : First) → Stopping r f → first_of_two (first_status f.refusal) (first_status y) ≡
    first_status (earlier f.refusal y)
first_status_lem r f y s = go f.refusal refl
  where
    go : (x : First) → f.refusal ≡ x → first_of_two (first_status x) (first_status y) ≡ first_status (earlier x y)
    go nothing e = unfold pick in refl
    go (first n) e = pick_no _ _ (ne_eqb n 0 (s.not_none n e))

number : {x y : ℕ} → ◌≡◌ {A = List ℕ} (x ∷ []) (y ∷ []) → x ≡ y
number e = cc

-- the answers to two pieces as the answer to one
both : (r : Replay) (f h : Fed) → Stopping r f → (status taken : ℕ) (a1 : Arrays) → FedAt f status taken a1 →
    (status1 taken1 : ℕ) (a2 : Arrays) → FedAt h status1 taken1 a2 →
    FedAt (joined f h) (first_of_two status status1) (taken + taken1) a2
unfolding joined
both r f h s status taken a1 c status1 taken1 a2 d =
    record {
      status = ap₂ first_of_two c.status d.status ∙ first_status_lem r f h.refusal s;
      room = ap₂ (λ (x y : ℕ). (x + y) ∷ []) (number c.room) (number d.room);
      held = d.held;
    }

module _ (a : Arrays) (g : GivenAt a) (p : List ℕ) (small : Bytes8 p) (status taken : ℕ) (a1 : Arrays)
    (c : FedAt (replay_of (replay_at a) p) status taken a1)
  where
    pub after_piece : replay_at a1 ≡ (replay_of (replay_at a) p).replay
    after_piece =
        held_same (replay_of (replay_at a) p).replay (piece_valid (replay_at a) g.valid p small) a1.log a1.marks a1.own
        a1.tallies a1.shared c.held

    pub given_after : GivenAt a1
    given_after = piece_given g p small c.held

    -- two pieces are the joined one: the second met the replay that the first left
    pub two_pieces : (q : List ℕ) (status1 taken1 : ℕ) (a2 : Arrays) → FedAt (replay_of (replay_at a1) q) status1 taken1 a2 →
        FedAt (replay_of (replay_at a) (p ++ q)) (first_of_two status status1) (taken + taken1) a2
    two_pieces q status1 taken1 a2 d =
        subst (λ (f : Fed). FedAt f (first_of_two status status1) (taken + taken1) a2) (sym (cut (replay_at a) p q))
        (both (replay_at a) (replay_of (replay_at a) p) (replay_of (replay_of (replay_at a) p).replay q) (stopping (replay_at a) p) status
        taken a1 c status1 taken1 a2
        (subst (λ (r : Replay). FedAt (replay_of r q) status1 taken1 a2) after_piece d))

-- a byte by itself takes one byte, or none where it is refused
one_taken : (y : Reply) (u : Replay) → ((n : ℕ) → y ≡ step.refused n → n ≡ 0 → ⊥) →
    (proceed y u (ended nothing u)).taken ≡ taken_by (first_status (proceed y u (ended nothing u)).refusal)
unfolding proceed pick
one_taken step.taken u refusing = refl
one_taken (step.refused n) u refusing = sym (pick_no 1 0 (ne_eqb n 0 (refusing n refl)))

taken_by_status : (r : Replay) (b : ℕ) → (replay_of r (b ∷ [])).taken ≡ taken_by (first_status (replay_of r (b ∷ [])).refusal)
unfolding replay_of proceed
taken_by_status r b =
    one_taken (byte_step r b).reply (byte_step r b).replay
    (λ n e.
    (stopping r (b ∷ [])).not_none n
    (ap (λ (y : Reply). (proceed y (byte_step r b).replay (ended nothing (byte_step r b).replay)).refusal) e))

-- so through `take_byte` it is the piece of one byte
pub byte_piece : (r : Replay) (b status : ℕ) (a : Arrays) → ByteAt (replay_of r (b ∷ [])) status a →
    FedAt (replay_of r (b ∷ [])) status (taken_by status) a
byte_piece r b status a c =
    record {
      status = c.status;
      room = ap (λ (n : ℕ). taken_by n ∷ []) c.status ∙ ap (λ (n : ℕ). n ∷ []) (sym (taken_by_status r b));
      held = c.held;
    }

-- any pieces, empty ones among them, are the uncut bytes
pub any_pieces : (a : Arrays) → GivenAt a → (ps : List (List ℕ)) (status taken : ℕ) (a1 : Arrays) → Pieces a ps status taken a1 →
    FedAt (replay_of (replay_at a) (uncut ps)) status taken a1
unfolding uncut
any_pieces a g ps status taken a1 (none b) =
    unfold replay_of in
    record { status = refl; room = refl; held = held_view a.log a.marks a.own a.tallies a.shared g }
any_pieces a g ps status taken a1 (more b p s n b1 qs s1 n1 b2 small c rest) =
    two_pieces a g p small s n b1 c (uncut qs) s1 n1 b2 (any_pieces b1 (given_after a g p small s n b1 c) qs s1 n1 b2 rest)

-- and leave arrays that may be handed in again
pub pieces_given : (a : Arrays) → GivenAt a → (ps : List (List ℕ)) (status taken : ℕ) (a1 : Arrays) → Pieces a ps status taken a1 →
    GivenAt a1
pieces_given a g ps status taken a1 (none b) = g
pieces_given a g ps status taken a1 (more b p s n b1 qs s1 n1 b2 small c rest) =
    pieces_given b1 (given_after a g p small s n b1 c) qs s1 n1 b2 rest

pieces_leave : (a : Arrays) → GivenAt a → (ps : List (List ℕ)) (status taken : ℕ) (a1 : Arrays) → Pieces a ps status taken a1 →
    replay_at a1 ≡ (replay_pieces (replay_at a) ps).replay
unfolding replay_pieces joined
pieces_leave a g ps status taken a1 (none b) = refl
pieces_leave a g ps status taken a1 (more b p s n b1 qs s1 n1 b2 small c rest) =
    pieces_leave b1 (given_after a g p small s n b1 c) qs s1 n1 b2 rest ∙
    ap (λ (r : Replay). (replay_pieces r qs).replay) (after_piece a g p small s n b1 c)

-- from `begin` through any pieces: the replay of the uncut bytes
pub from_begin : (edition : ℕ) → is_edition edition ≡ true → (a0 a : Arrays) (r : ℕ) → BeginsAt edition r a0 a →
    (ps : List (List ℕ)) (status taken : ℕ) (a1 : Arrays) → Pieces a ps status taken a1 →
    replay_at a1 ≡ (replay_of (new_replay edition) (uncut ps)).replay
from_begin edition known a0 a r b ps status taken a1 h =
    pieces_leave a (begun_given edition known (b.held known)) ps status taken a1 h ∙
    ap (λ (u : Replay). (replay_pieces u ps).replay)
    (held_same (new_replay edition) (new_replay_valid edition known) a.log a.marks a.own a.tallies a.shared (b.held known)) ∙
    ap (λ (f : Fed). f.replay) (cut_anywhere (new_replay edition) ps)
