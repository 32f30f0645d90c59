-- A run of one party's words is that party's piece: those after a refused one are refused with 1 and change nothing. Assumes nothing.
use mathlib.Core.Path.{◌≡◌, refl, ap, ◌∙◌}
use mathlib.Core.Bool.{Bool, true, false}
use mathlib.Core.List.{List, [], ◌∷◌}
use Prim.Native.Nat.{ℕ}
use lib.Dec.{eqb}
use Rattle.state.specs.State.{Session, new_session}
use Rattle.session.specs.Step.{Reply, still_open, completed, refused, step_of}
use Rattle.session.specs.Feed.{first, Fed, proceed, feed_of}
use Rattle.session.proofs.Ways.{way}
use Rattle.lessees.specs.Begin.{new_pair}
use Rattle.lessees.specs.Pair.{Pair, Sent, side, put_back, Part, silence, noted, PairFed, noted_for, pair_step, piece_of, sent_all}
use Rattle.lessees.proofs.Isolation.{stopped_piece, stop_way, part_of}

-- what a party's piece tells, and the other party told nothing
unfoldable pub ran_for : Bool → Fed → Pair → PairFed
ran_for false f q = record { told0 = part_of f; told1 = silence; pair = put_back false f.session q }
ran_for true f q = record { told0 = silence; told1 = part_of f; pair = put_back true f.session q }

ran_word : (p : Bool) (r : Reply) (u : Session) (ws : List ℕ) (q : Pair) → ((n : ℕ) → r ≡ refused n → eqb u.party.stopped 1 ≡ true) →
    noted_for p r (ran_for p (feed_of u ws) (put_back p u q)) ≡ ran_for p (proceed r u (feed_of u ws)) q
unfolding noted_for ran_for noted proceed
ran_word false still_open u ws q z = refl
ran_word false (completed c) u ws q z = refl
ran_word false (refused n) u ws q z =
    ap (λ (f : Fed). record { told0 = record { taken = f.taken; commands = f.commands; refusal = first n }; told1 = silence; pair = put_back false f.session q })
    (stopped_piece u ws (z n refl))
ran_word true still_open u ws q z = refl
ran_word true (completed c) u ws q z = refl
ran_word true (refused n) u ws q z =
    ap (λ (f : Fed). record { told0 = silence; told1 = record { taken = f.taken; commands = f.commands; refusal = first n }; pair = put_back true f.session q })
    (stopped_piece u ws (z n refl))

pub ran : (p : Bool) (q : Pair) (ws : List ℕ) → piece_of q (sent_all p ws) ≡ ran_for p (feed_of (side p q) ws) q
unfolding piece_of sent_all feed_of pair_step
ran false q [] = unfold ran_for in refl
ran true q [] = unfold ran_for in refl
ran false q (w ∷ ws) =
    ap (noted_for false (step_of (side false q) w).reply) (ran false (put_back false (step_of (side false q) w).session q) ws) ∙
    ran_word false (step_of (side false q) w).reply (step_of (side false q) w).session ws q (stop_way (side false q) w (way (side false q) w))
ran true q (w ∷ ws) =
    ap (noted_for true (step_of (side true q) w).reply) (ran true (put_back true (step_of (side true q) w).session q) ws) ∙
    ran_word true (step_of (side true q) w).reply (step_of (side true q) w).session ws q (stop_way (side true q) w (way (side true q) w))

-- where party 0 owns all and no word is party 1's, every answer is the one that a session gives
pub one_party : (edition : ℕ) (ws : List ℕ) →
    piece_of (new_pair 0 0 edition) (sent_all false ws) ≡ ran_for false (feed_of (new_session edition) ws) (new_pair 0 0 edition)
one_party edition ws = ran false (new_pair 0 0 edition) ws

-- words of one party, a refused one too, leave the other's own part as it is: a stop and 17 are that party's alone
pub other_untouched0 : (q : Pair) (ws : List ℕ) → (piece_of q (sent_all true ws)).pair.party0 ≡ q.party0
unfolding ran_for
other_untouched0 q ws = ap (λ (f : PairFed). f.pair.party0) (ran true q ws)

pub other_untouched1 : (q : Pair) (ws : List ℕ) → (piece_of q (sent_all false ws)).pair.party1 ≡ q.party1
unfolding ran_for
other_untouched1 q ws = ap (λ (f : PairFed). f.pair.party1) (ran false q ws)
