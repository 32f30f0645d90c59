-- Document 02, request 9: "Change party 1's words and their places at will: party 0's answers, settings and tallies stay the same." Each
-- party is told and keeps what its own words, fed alone to what it sees of the settings, are told and leave. Assumes nothing.
use mathlib.Core.Path.{◌≡◌, refl, sym, ap, ◌∙◌, subst}
use mathlib.Core.Bool.{Bool, true, false, not}
use mathlib.Core.List.{List, [], ◌∷◌, ◌++◌}
use Prim.Native.Nat.{ℕ, zero, suc, ◌+◌}
use native.Mathlib.Omega.{arith}
use lib.Dec.{eqb}
use Rattle.laws.specs.Choice.{pick}
use Rattle.command.specs.declared.commands.Command.{Command}
use Rattle.state.specs.State.{Birth, Party, Shared, Session}
use Rattle.state.specs.Valid.{Valid}
use Rattle.session.specs.Step.{Reply, still_open, completed, refused, Stepped, step_of}
use Rattle.session.specs.Feed.{First, nothing, first, Fed, onward, ended, proceed, feed_of}
use Rattle.session.proofs.Cut.{stopped_word}
use Rattle.session.proofs.Kept.{kept}
use Rattle.session.proofs.Ways.{Way, was_stopped, stops, opens, fills, ends, way}
use Rattle.lessees.specs.Sight.{Apart, seen, seen_shared}
use Rattle.lessees.specs.Pair.{
  Pair,
  Sent,
  side,
  put_back,
  Part,
  silence,
  noted,
  PairFed,
  noted_for,
  pair_step,
  piece_of,
  mine_of,
  words_for,
  told_for,
  alone,
  PairValid,
}
use Rattle.lessees.proofs.Steps.{seen_stepped, seen_step, hidden_step, other_kept, same_birth}

-- a refused word leaves a stopped session
abbrev pub Stops : Stepped → Type 0
Stops t = (n : ℕ) → t.reply ≡ refused n → eqb t.session.party.stopped 1 ≡ true

not_refused : {n : ℕ} → still_open ≡ refused n → ⊥
not_refused p = let z : ◌≡◌ {A = ℕ} 0 1 = cc in omega arith

not_refused' : {c : Command} {n : ℕ} → completed c ≡ refused n → ⊥
not_refused' p = let z : ◌≡◌ {A = ℕ} 0 1 = cc in omega arith

pub stop_way : (s : Session) (w : ℕ) {t : Stepped} → Way s w t → Stops t
stop_way s w (was_stopped e) n p = e
stop_way s w (stops k e) n p = refl
stop_way s w (opens r i k m) n p = absurd (not_refused p)
stop_way s w (fills q l) n p = absurd (not_refused p)
stop_way s w (ends q l c e u u' r z) n p = absurd (not_refused' p)

pub first_of : List ℕ → First
first_of [] = nothing
first_of (w ∷ ws) = first 1

pub stopped_piece : (s : Session) (ws : List ℕ) → eqb s.party.stopped 1 ≡ true → feed_of s ws ≡ ended (first_of ws) s
unfolding feed_of first_of proceed
stopped_piece s [] e = refl
stopped_piece s (w ∷ ws) e =
    ap (λ (t : Stepped). proceed t.reply t.session (feed_of t.session ws)) (stopped_word s w e)

abbrev fed_with : Part → Session → Fed
fed_with t s = record { taken = t.taken; commands = t.commands; refusal = t.refusal; session = s }

abbrev pub part_of : Fed → Part
part_of f = record { taken = f.taken; commands = f.commands; refusal = f.refusal }

-- one's own word: what is noted of it before the rest is what feeding it tells
own_word : (r : Reply) (u : Session) (ws : List ℕ) (rest : Fed) → ((n : ℕ) → r ≡ refused n → eqb u.party.stopped 1 ≡ true) →
    rest ≡ feed_of u ws → fed_with (noted r (part_of rest)) rest.session ≡ proceed r u (feed_of u ws)
unfolding noted proceed
own_word still_open u ws rest z e = ap (onward []) e
own_word (completed c) u ws rest z e = ap (onward (c ∷ [])) e
own_word (refused n) u ws rest z e =
    ap (λ (f : Fed). record { taken = f.taken; commands = f.commands; refusal = first n; session = f.session }) (e ∙ stopped_piece u ws (z n refl))

module _ (q : Pair) (v : PairValid q) where
  -- a word keeps a pair valid
  pub pair_kept : (b : Bool) (w : ℕ) → PairValid (put_back b (step_of (side b q) w).session q)
  pair_kept false w =
      let k : (step_of (side false q) w).session.party.birth.mine ≡ q.party0.birth.mine = ap (λ (b : Birth). b.mine) (same_birth (side false q) w) in
      record {
        valid0 = kept (side false q) w v.valid0;
        valid1 = other_kept (side false q) w v.valid0 q.party1 v.apart01 v.valid1;
        apart01 = subst (λ (m : ℕ). Apart m q.party1.birth.mine) (sym k) v.apart01;
        apart10 = subst (λ (m : ℕ). Apart q.party1.birth.mine m) (sym k) v.apart10;
      }
  pair_kept true w =
      let k : (step_of (side true q) w).session.party.birth.mine ≡ q.party1.birth.mine = ap (λ (b : Birth). b.mine) (same_birth (side true q) w) in
      record {
        valid0 = other_kept (side true q) w v.valid1 q.party0 v.apart10 v.valid0;
        valid1 = kept (side true q) w v.valid1;
        apart01 = subst (λ (m : ℕ). Apart q.party0.birth.mine m) (sym k) v.apart01;
        apart10 = subst (λ (m : ℕ). Apart m q.party0.birth.mine) (sym k) v.apart10;
      }

  -- what the other party sees after a word: as before
  pub unmoved : (b : Bool) (w : ℕ) → seen (side (not b) (put_back b (step_of (side b q) w).session q)) ≡ seen (side (not b) q)
  unmoved false w = λ i. record { party = q.party1; shared = hidden_step (side false q) w v.valid0 q.party1.birth.mine v.apart01 i }
  unmoved true w = λ i. record { party = q.party0; shared = hidden_step (side true q) w v.valid1 q.party0.birth.mine v.apart10 i }

  pub own_side : (b : Bool) (w : ℕ) → side b (put_back b (step_of (side b q) w).session q) ≡ (step_of (side b q) w).session
  own_side false w = refl
  own_side true w = refl

  pub side_valid : (b : Bool) → Valid (side b q)
  side_valid false = v.valid0
  side_valid true = v.valid1

-- one's own word: the session after it, as seen, then the rest
module _ (p : Bool) (q : Pair) (v : PairValid q) (x : ℕ) where
  abbrev next : Pair
  next = put_back p (step_of (side p q) x).session q

  own_fed : (ws : List ℕ) (rest : Fed) → rest ≡ feed_of (seen (side p next)) ws →
      fed_with (noted (step_of (side p q) x).reply (part_of rest)) rest.session ≡ feed_of (seen (side p q)) (x ∷ ws)
  unfolding feed_of
  own_fed ws rest e =
      own_word (step_of (side p q) x).reply (seen (step_of (side p q) x).session) ws rest
      (stop_way (side p q) x (way (side p q) x))
      (e ∙ ap (λ (s : Session). feed_of (seen s) ws) (own_side q v p x)) ∙
      ap (λ (t : Stepped). proceed t.reply t.session (feed_of t.session ws)) (sym (seen_step (side p q) x (side_valid q v p)))

-- each party by itself
pub isolated : (p : Bool) (q : Pair) → PairValid q → (ws : List Sent) →
    alone p (piece_of q ws) ≡ feed_of (seen (side p q)) (words_for p ws)
unfolding piece_of words_for pair_step
isolated p q v [] = nothing_sent p
  where
    nothing_sent : (p : Bool) → alone p (record { told0 = silence; told1 = silence; pair = q }) ≡ feed_of (seen (side p q)) []
    nothing_sent false = unfold alone feed_of in refl
    nothing_sent true = unfold alone feed_of in refl
isolated p q v (w ∷ ws) = sent p w.party w.word (isolated p (put_back w.party (step_of (side w.party q) w.word).session q) (pair_kept q v w.party w.word) ws)
  where
    sent : (p b : Bool) (x : ℕ) →
        alone p (piece_of (put_back b (step_of (side b q) x).session q) ws) ≡ feed_of (seen (side p (put_back b (step_of (side b q) x).session q))) (words_for p ws) →
        alone p (noted_for b (step_of (side b q) x).reply (piece_of (put_back b (step_of (side b q) x).session q) ws)) ≡
        feed_of (seen (side p q)) (mine_of p (record { party = b; word = x }) (words_for p ws))
    sent false false x ih = unfold alone noted_for mine_of pick in own_fed false q v x (words_for false ws) _ ih
    sent true true x ih = unfold alone noted_for mine_of pick in own_fed true q v x (words_for true ws) _ ih
    sent false true x ih = unfold alone noted_for mine_of pick in ih ∙ ap (λ (s : Session). feed_of s (words_for false ws)) (unmoved q v true x)
    sent true false x ih = unfold alone noted_for mine_of pick in ih ∙ ap (λ (s : Session). feed_of s (words_for true ws)) (unmoved q v false x)
