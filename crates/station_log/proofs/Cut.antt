-- "Demand 2's cut rule then also holds for bytes": a log that is cut in pieces anywhere, also inside a record, answers and leaves
-- what the uncut log does; the number that a piece is refused with stops the replay, which answers it again from then on and
-- changes nothing more. Assumes nothing.
use mathlib.Core.Path.{◌≡◌, refl, sym, ap, ◌∙◌, subst}
use mathlib.Core.List.{List, [], ◌∷◌, ◌++◌}
use Prim.Native.Nat.{ℕ, ◌+◌}
use native.Mathlib.Nat.{zero-add}
use native.Mathlib.Omega.{arith}
use borrow.Author.Tests.{ne_eqb, eqb-true, eqb-false}
use Rattle.laws.proofs.Choice.{by_pick, pick_no}
use Rattle.session.specs.Feed.{First, nothing, first, uncut}
use Rattle.replay.specs.State.{Replay}
use Rattle.replay.specs.Step.{by_kind, by_day, refused, Stepped, taking, kind_step, after_word, after_midnight, midnight_step}
use Rattle.station_log.specs.Bytes.{record_step, open_step, byte_step}
use Rattle.station_log.specs.Feed.{Fed, ahead, ended, proceed, replay_of, joined, replay_pieces}
use Rattle.station_log.specs.Refusals.{RefusedTo, again, newly}
use Rattle.station_log.proofs.Records.{stepped}

-- what a byte does: it is taken and stops nothing, or it is refused and leaves a stopped replay
pub data Went (r : Replay) : Stepped → Type 0 where
  on : (u : Replay) → u.stopped_by ≡ r.stopped_by → Went r (taking u)
  off : (n : ℕ) (u : Replay) → RefusedTo r n u → Went r (record { reply = refused n; replay = u })

module _ (r : Replay) where
  by_midnight : (day : ℕ) → (r.stopped_by ≡ 0) → Went r (midnight_step r day)
  unfolding midnight_step after_midnight
  by_midnight day e = by_pick (Went r) _ _ _ (λ a. on _ refl) (λ a. off 19 _ (newly e by_day))

  by_open : (b : ℕ) → (r.stopped_by ≡ 0) → Went r (open_step r b)
  unfolding open_step record_step after_word
  by_open b e =
      by_pick (Went r) _ _ _ (λ a. on _ refl) (λ a. by_pick (Went r) _ _ _ (λ c. on _ refl) (λ c. by_midnight _ e))

  by_kind_lem : (b : ℕ) → (r.stopped_by ≡ 0) → Went r (kind_step r b)
  unfolding kind_step
  by_kind_lem b e = by_pick (Went r) _ _ _ (λ a. on _ refl) (λ a. off 18 _ (newly e by_kind))

  pub went : (b : ℕ) → Went r (byte_step r b)
  unfolding byte_step
  went b =
      by_pick (Went r) _ _ _
      (λ a. by_pick (Went r) _ _ _ (λ c. by_kind_lem b (eqb-true _ _ a)) (λ c. by_open b (eqb-true _ _ a)))
      (λ a. off r.stopped_by r (again (eqb-false _ _ a)))

  -- a refused byte: where the replay was stopped, with the same number, nothing at all has changed; else it is stopped by 18 or 19,
  -- the open record is dropped, and all else stands
  pub refused_byte : (b n : ℕ) → (byte_step r b).reply ≡ refused n → RefusedTo r n (byte_step r b).replay
  refused_byte b n e = go (byte_step r b) (went b) e
    where
      go : (t : Stepped) → Went r t → t.reply ≡ refused n → RefusedTo r n t.replay
      go t (on u same) p = absurd (let z : ◌≡◌ {A = ℕ} 0 1 = cc in omega arith)
      go t (off m u k) p = subst (λ (x : ℕ). RefusedTo r x u) (number p) k
        where
          number : refused m ≡ refused n → m ≡ n
          number q = cc

-- "later bytes get that number again"
pub stopped_piece : (r : Replay) (b : ℕ) (bs : List ℕ) → (r.stopped_by ≡ 0 → ⊥) → replay_of r (b ∷ bs) ≡ ended (first r.stopped_by) r
stopped_piece r b bs h =
    stepped r b bs (record { reply = refused r.stopped_by; replay = r }) (unfold byte_step in pick_no _ _ (ne_eqb r.stopped_by 0 h)) ∙
    unfold proceed in refl

-- a refused byte leaves a stopped replay
off_for_good : {r : Replay} {n : ℕ} {u : Replay} → RefusedTo r n u → u.stopped_by ≡ 0 → ⊥
off_for_good (again h) e = h e
off_for_good (newly h by_kind) e = omega arith
off_for_good (newly h by_day) e = omega arith

-- the number that a piece is refused with isn't 0 and stops the replay; a piece that isn't refused stops nothing
pub record Stopping (r : Replay) (f : Fed) : Type 0 where
  pub by_number : (n : ℕ) → f.refusal ≡ first n → f.replay.stopped_by ≡ n
  pub not_none : (n : ℕ) → f.refusal ≡ first n → n ≡ 0 → ⊥
  pub goes_on : f.refusal ≡ nothing → f.replay.stopped_by ≡ r.stopped_by

stops_with : {r : Replay} {n : ℕ} {u : Replay} → RefusedTo r n u → u.stopped_by ≡ n
stops_with (again h) = refl
stops_with (newly h number) = refl

module _ {r : Replay} {n : ℕ} {u : Replay} (k : RefusedTo r n u) where
  same_number : (m : ℕ) → first n ≡ first m → n ≡ m
  same_number m e = cc

  stopping_here : Stopping r (ended (first n) u)
  stopping_here =
      record {
        by_number = λ m e. stops_with k ∙ same_number m e;
        not_none = λ m e z. off_for_good k (stops_with k ∙ same_number m e ∙ z);
        goes_on = λ e. absurd (let z : ◌≡◌ {A = ℕ} 0 1 = cc in omega arith);
      }

byte_stopping : (r : Replay) (rest : Fed) (t : Stepped) → Went r t → Stopping t.replay rest →
    Stopping r (proceed t.reply t.replay rest)
unfolding proceed
byte_stopping r rest t (on u same) ih =
    record { by_number = ih.by_number; not_none = ih.not_none; goes_on = λ e. ih.goes_on e ∙ same }
byte_stopping r rest t (off n u k) ih = stopping_here k

none_refused : (n : ℕ) → nothing ≡ first n → ⊥
none_refused n e = let z : ◌≡◌ {A = ℕ} 0 1 = cc in omega arith

pub stopping : (r : Replay) (bs : List ℕ) → Stopping r (replay_of r bs)
unfolding replay_of
stopping r [] =
    record {
      by_number = λ n e. absurd (none_refused n e);
      not_none = λ n e. absurd (none_refused n e);
      goes_on = λ e. refl;
    }
stopping r (b ∷ bs) =
    byte_stopping r (replay_of (byte_step r b).replay bs) (byte_step r b) (went r b) (stopping (byte_step r b).replay bs)

first_of : Replay → List ℕ → First
first_of r [] = nothing
first_of r (b ∷ bs) = first r.stopped_by

stopped_any : (r : Replay) (bs : List ℕ) → (r.stopped_by ≡ 0 → ⊥) → replay_of r bs ≡ ended (first_of r bs) r
unfolding first_of
stopped_any r [] h = unfold replay_of in refl
stopped_any r (b ∷ bs) h = stopped_piece r b bs h

with_taken : (f : Fed) {m : ℕ} → m ≡ f.taken → record { taken = m; refusal = f.refusal; replay = f.replay } ≡ f
with_taken f p = λ i. record { taken = p i; refusal = f.refusal; replay = f.replay }

nothing_joined : (r : Replay) (f : Fed) → joined (ended nothing r) f ≡ f
unfolding joined
nothing_joined r f = with_taken f (zero-add f.taken)

ahead_joined : (f g : Fed) → ahead 1 (joined f g) ≡ joined (ahead 1 f) g
unfolding joined
ahead_joined f g = λ i. record { taken = plus i; refusal = (joined f g).refusal; replay = g.replay }
  where
    plus : 1 + (f.taken + g.taken) ≡ 1 + f.taken + g.taken
    plus = omega arith

byte_cut : (r : Replay) (a b : List ℕ) (t : Stepped) → Went r t →
    replay_of t.replay (a ++ b) ≡ joined (replay_of t.replay a) (replay_of (replay_of t.replay a).replay b) →
    proceed t.reply t.replay (replay_of t.replay (a ++ b)) ≡
    joined (proceed t.reply t.replay (replay_of t.replay a))
    (replay_of (proceed t.reply t.replay (replay_of t.replay a)).replay b)
unfolding proceed
byte_cut r a b t (on u same) ih = ap (ahead 1) ih ∙ ahead_joined _ _
byte_cut r a b t (off n u k) ih =
    unfold joined in sym (ap (joined (ended (first n) u)) (stopped_any u b (off_for_good k)))

pub cut : (r : Replay) (a b : List ℕ) → replay_of r (a ++ b) ≡ joined (replay_of r a) (replay_of (replay_of r a).replay b)
unfolding replay_of
cut r [] b = sym (nothing_joined r (replay_of r b))
cut r (x ∷ a) b = byte_cut r a b (byte_step r x) (went r x) (cut (byte_step r x).replay a b)

-- so for any way of cutting, into any number of pieces, empty ones among them
pub cut_anywhere : (r : Replay) (ps : List (List ℕ)) → replay_pieces r ps ≡ replay_of r (uncut ps)
unfolding replay_pieces uncut
cut_anywhere r [] = unfold replay_of in refl
cut_anywhere r (p ∷ ps) = ap (joined (replay_of r p)) (cut_anywhere (replay_of r p).replay ps) ∙ sym (cut r p (uncut ps))
