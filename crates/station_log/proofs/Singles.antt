-- A byte of a log by itself is a piece of one byte: it only added to a record, or it was read. Assumes nothing.
use mathlib.Core.Path.{◌≡◌, refl, sym, subst}
use mathlib.Core.Bool.{Bool, true, false, false≢true}
use mathlib.Core.List.{List, [], ◌∷◌}
use Prim.Native.Nat.{ℕ, ◌<◌}
use Rattle.refusal.specs.Number.{number_of}
use Rattle.refusal.specs.declared.Refusal.{Refusal}
use Rattle.state.specs.Cells.{session_of}
use Rattle.session.proofs.Taking.{same}
use Rattle.replay.specs.State.{Replay}
use Rattle.replay.specs.Step.{Reply, taken, refused, Stepped}
use Rattle.replay.specs.Cells.{viewed, replay_in, ReplayValid, ReplayGiven}
use Rattle.replay.specs.Own.{reply_of}
use Rattle.std.specs.Prelude.{Result, Ok, Err}
use Rattle.session.specs.Answers.{begun_status}
use Rattle.replay.proofs.Changes.{log_canon}
use Rattle.station_log.specs.Bytes.{byte_step}
use Rattle.station_log.specs.Feed.{proceed, replay_of}
use Rattle.station_log.specs.Feed as piece
use Rattle.station_log.specs.Asked.{Became, ByteLeft, Grew, grown, ungrown}
use Rattle.station_log.proofs.Kept.{byte_valid}
use Rattle.station_log.proofs.Records.{stepped}
use Rattle.station_log.proofs.Feeding.{given_from, held_view}

module _ (l m o t s : List ℕ) (g : ReplayGiven l m o t s) (b : ℕ) where
  abbrev start : Replay
  start = replay_in l m o t s

  abbrev Left : ℕ → List ℕ → List ℕ → List ℕ → List ℕ → List ℕ → Type 0
  Left = ByteLeft (replay_of start (b ∷ []))

  one : (y : Reply) (u : Replay) → byte_step start b ≡ record { reply = y; replay = u } → replay_of start (b ∷ []) ≡ proceed y u (replay_of u [])
  one y u e = stepped start b [] _ e

  -- it only added to a record
  grown_left : (r : Bool) (l1 : List ℕ) → Grew b l r l1 → r ≡ true → Left 0 l1 m o t s
  grown_left r l1 (grown l2 a) e =
      subst (λ (x : piece.Fed). ByteLeft x 0 l2 m o t s) (sym (one taken (viewed l2 m (session_of o t s)) (a.view m (session_of o t s))))
      (unfold proceed replay_of in
      record {
        status = refl;
        held =
            record {
              log_cells_lem = sym (log_canon l2 m (session_of o t s) a.log_length_lem);
              mark_cells = unfold viewed in refl;
              session_cells =
                  unfold viewed in same o t s 0 (record { sized = g.session_sized; valid = unfold viewed in g.valid.session });
            };
      })
  grown_left r l1 ungrown e = absurd (false≢true e)

  not_grown : (r : Bool) (l1 : List ℕ) → Grew b l r l1 → r ≡ false → l ≡ l1
  not_grown r l1 (grown l2 a) e = absurd (false≢true (sym e))
  not_grown r l1 ungrown e = refl

  -- it was read
  module _ (h : b < 256) (l1 m1 o1 t1 s1 : List ℕ) where
    given_after : (y : Reply) → Became (byte_step start b) y l1 m1 o1 t1 s1 → ReplayGiven l1 m1 o1 t1 s1
    given_after y d =
        given_from l1 m1 o1 t1 s1 d.sized
        (subst (λ (x : Stepped). ReplayValid x.replay) d.view (byte_valid start g.valid b h))

    taken_left : Became (byte_step start b) taken l1 m1 o1 t1 s1 → Left 0 l1 m1 o1 t1 s1
    taken_left d =
        subst (λ (x : piece.Fed). ByteLeft x 0 l1 m1 o1 t1 s1) (sym (one taken _ d.view))
        (unfold proceed replay_of in
        record { status = refl; held = held_view l1 m1 o1 t1 s1 (given_after taken d) })

    refused_left : (n k : ℕ) → k ≡ n → Became (byte_step start b) (refused n) l1 m1 o1 t1 s1 → Left k l1 m1 o1 t1 s1
    refused_left n k e d =
        subst (λ (x : piece.Fed). ByteLeft x k l1 m1 o1 t1 s1) (sym (one (refused n) _ d.view))
        (unfold proceed replay_of in
        record { status = e; held = held_view l1 m1 o1 t1 s1 (given_after (refused n) d) })

-- the same for the byte as the code widens it
module _ (l m o t s : List ℕ) (g : ReplayGiven l m o t s) (byte b : ℕ) (e : b ≡ byte) (r : Bool) (l1 : List ℕ) (w : Grew b l r l1) where
  abbrev Told : ℕ → List ℕ → List ℕ → List ℕ → List ℕ → List ℕ → Type 0
  Told = ByteLeft (replay_of (replay_in l m o t s) (byte ∷ []))

  as_told : (n : ℕ) (l2 m2 o2 t2 s2 : List ℕ) → ByteLeft (replay_of (replay_in l m o t s) (b ∷ [])) n l2 m2 o2 t2 s2 →
      Told n l2 m2 o2 t2 s2
  as_told n l2 m2 o2 t2 s2 c = subst (λ (x : ℕ). ByteLeft (replay_of (replay_in l m o t s) (x ∷ [])) n l2 m2 o2 t2 s2) e c

  pub byte_grown : r ≡ true → Told 0 l1 m o t s
  byte_grown k = as_told 0 l1 m o t s (grown_left l m o t s g b r l1 w k)

  module _ (k : r ≡ false) where
    unchanged : l ≡ l1
    unchanged = not_grown l m o t s g b r l1 w k

    pub still_given : ReplayGiven l1 m o t s
    still_given = subst (λ (x : List ℕ). ReplayGiven x m o t s) unchanged g

    module _ (h : b < 256) (a : Result (Unit {0}) Refusal) (l2 m2 o2 t2 s2 : List ℕ) (d : Became (byte_step (replay_in l1 m o t s) b) (reply_of a) l2 m2 o2 t2 s2) where
      read : Became (byte_step (replay_in l m o t s) b) (reply_of a) l2 m2 o2 t2 s2
      read = subst (λ (x : List ℕ). Became (byte_step (replay_in x m o t s) b) (reply_of a) l2 m2 o2 t2 s2) (sym unchanged) d

      byte_taken : (u : Unit {0}) → a ≡ Ok u → Told 0 l2 m2 o2 t2 s2
      byte_taken u q =
          as_told 0 l2 m2 o2 t2 s2
          (taken_left l m o t s g b h l2 m2 o2 t2 s2
          (subst (λ (x : Result (Unit {0}) Refusal). Became (byte_step (replay_in l m o t s) b) (reply_of x) l2 m2 o2 t2 s2) q read))

      byte_refused : (why : Refusal) → a ≡ Err why → (n : ℕ) → n ≡ number_of why → Told n l2 m2 o2 t2 s2
      byte_refused why q n f =
          as_told n l2 m2 o2 t2 s2
          (refused_left l m o t s g b h l2 m2 o2 t2 s2 (number_of why) n f
          (subst (λ (x : Result (Unit {0}) Refusal). Became (byte_step (replay_in l m o t s) b) (reply_of x) l2 m2 o2 t2 s2) q read))

      -- either way
      pub byte_read : Told (begun_status a) l2 m2 o2 t2 s2
      byte_read = go a refl
        where
          go : (x : Result (Unit {0}) Refusal) → a ≡ x → Told (begun_status x) l2 m2 o2 t2 s2
          go (Ok u) e = byte_taken u e
          go (Err why) e = byte_refused why e (number_of why) refl
