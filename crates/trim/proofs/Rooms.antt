-- A replay answers alike with less room and with more, until a midnight comes that has no place in the smaller one. Assumes nothing.
use mathlib.Core.Path.{◌≡◌, refl, sym, ap, ap₂, ◌∙◌, subst}
use mathlib.Core.Bool.{Bool, true, false}
use mathlib.Core.List.{List, [], ◌∷◌}
use Prim.Native.Nat.{ℕ, ◌+◌, ◌<◌}
use native.Mathlib.Omega.{arith}
use lib.Dec.{eqb}
use Rattle.laws.specs.Choice.{◌and◌, pick}
use Rattle.laws.proofs.Choice.{Tested, holds, fails, tested, pick_yes, pick_no, and_no_left}
use Rattle.session.specs.Feed.{first}
use Rattle.replay.specs.State.{Replay}
use Rattle.replay.specs.Step.{Reply, taken, refused, Stepped, stopping, taking}
use Rattle.station_log.specs.Feed.{Fed, proceed}
use Rattle.trim.specs.Free.{roomy_after, roomy_midnight, roomy_record, roomy_open, roomy_byte, roomy_of}

module _ (small large : ℕ → Bool) (inside : (m : ℕ) → small m ≡ true → large m ≡ true) where
  -- a step's answers: the same; or only the larger room has a place for a midnight
  data Steps (t u : Stepped) : Type 0 where
    alike : t ≡ u → Steps t u
    over : t.reply ≡ refused 19 → small t.replay.midnights ≡ false → u.reply ≡ taken → Steps t u

  -- the answers to a piece
  pub data Fits (f g : Fed) : Type 0 where
    in_both : f ≡ g → Fits f g
    in_large : f.refusal ≡ first 19 → small f.replay.midnights ≡ false → f.taken < g.taken → Fits f g

  either_way : (b : Bool) (t u v w : Stepped) → Steps t v → Steps u w → Steps (pick b t u) (pick b v w)
  either_way true t u v w x y = unfold pick in x
  either_way false t u v w x y = unfold pick in y

  module _ (r : Replay) where
    abbrev next : ℕ → Bool
    next d = pick (eqb r.midnights 0) true (eqb d (r.last_day + 1))

    by_midnight : (d : ℕ) → Steps (roomy_midnight small r d) (roomy_midnight large r d)
    unfolding roomy_midnight
    by_midnight d = go (tested (small r.midnights)) (tested (large r.midnights and next d))
      where
        refuses : small r.midnights ≡ false → roomy_midnight small r d ≡ stopping r 19
        refuses none = pick_no _ _ (and_no_left (next d) none)

        go : Tested (small r.midnights) → Tested (large r.midnights and next d) →
            Steps (roomy_midnight small r d) (roomy_midnight large r d)
        go (holds some) x =
            alike
            (ap (λ (b : Bool). pick (b and next d) (taking (roomy_after r d)) (stopping r 19)) (some ∙ sym (inside r.midnights some)))
        go (fails none) (fails x) = alike (refuses none ∙ sym (pick_no _ _ x))
        go (fails none) (holds x) =
            over (ap (λ (t : Stepped). t.reply) (refuses none))
            (ap (λ (t : Stepped). small t.replay.midnights) (refuses none) ∙ none) (ap (λ (t : Stepped). t.reply) (pick_yes _ _ x))

    by_byte : (b : ℕ) → Steps (roomy_byte small r b) (roomy_byte large r b)
    unfolding roomy_byte roomy_open roomy_record
    by_byte b =
        either_way _ _ _ _ _
        (either_way _ _ _ _ _ (alike refl)
        (either_way _ _ _ _ _ (alike refl) (either_way _ _ _ _ _ (alike refl) (by_midnight _))))
        (alike refl)

  -- a byte, then the rest
  ahead_same : (f g : Fed) (t u : Replay) → Fits f g → Fits (proceed taken t f) (proceed taken u g)
  unfolding proceed
  ahead_same f g t u (in_both a) = in_both (ap (proceed taken t) a)
  ahead_same f g t u (in_large a b c) = in_large a b (omega (arith, c))

  go_on : (t u : Stepped) → Steps t u → (bs : List ℕ) → ((x : Replay) → Fits (roomy_of small x bs) (roomy_of large x bs)) →
      Fits (proceed t.reply t.replay (roomy_of small t.replay bs)) (proceed u.reply u.replay (roomy_of large u.replay bs))
  go_on t u (alike e) bs rest =
      subst
      (λ (x : Stepped).
      Fits (proceed t.reply t.replay (roomy_of small t.replay bs)) (proceed x.reply x.replay (roomy_of large x.replay bs)))
      e (by_reply t.reply)
    where
      by_reply : (y : Reply) → Fits (proceed y t.replay (roomy_of small t.replay bs)) (proceed y t.replay (roomy_of large t.replay bs))
      by_reply taken = ahead_same _ _ t.replay t.replay (rest t.replay)
      by_reply (refused n) = unfold proceed in in_both refl
  go_on t u (over a b c) bs rest =
      subst
      (λ (x : Reply).
      Fits (proceed x t.replay (roomy_of small t.replay bs)) (proceed u.reply u.replay (roomy_of large u.replay bs))) (sym a)
      (subst
      (λ (x : Reply).
      Fits (proceed (refused 19) t.replay (roomy_of small t.replay bs)) (proceed x u.replay (roomy_of large u.replay bs))) (sym c)
      (unfold proceed in in_large refl b (omega arith)))

  pub pieces_fit : (bytes : List ℕ) (r : Replay) → Fits (roomy_of small r bytes) (roomy_of large r bytes)
  unfolding roomy_of
  pieces_fit [] r = in_both refl
  pieces_fit (b ∷ bs) r = go_on (roomy_byte small r b) (roomy_byte large r b) (by_byte r b) bs (pieces_fit bs)
