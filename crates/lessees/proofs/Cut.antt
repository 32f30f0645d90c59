-- The cut rule over a stream of (party, word): a piece cut in two anywhere answers each party, and leaves, what its two parts do.
-- Assumes nothing.
use mathlib.Core.Path.{◌≡◌, refl, sym, ap, ap₂, ◌∙◌, subst}
use mathlib.Core.Bool.{Bool, true, false}
use mathlib.Core.List.{List, [], ◌∷◌, ◌++◌}
use Prim.Native.Nat.{ℕ, zero, suc, ◌+◌}
use native.Mathlib.Nat.{zero-add, suc-add}
use Rattle.command.specs.declared.commands.Command.{Command}
use Rattle.session.specs.Step.{Reply, still_open, completed, refused}
use Rattle.session.specs.Feed.{First, nothing, first, earlier}
use Rattle.lessees.specs.Pair.{
  Pair,
  Sent,
  put_back,
  Part,
  silence,
  noted,
  PairFed,
  noted_for,
  pair_step,
  piece_of,
  joined_part,
  joined_pair,
}

abbrev part : ℕ → List Command → First → Part
part n c r = record { taken = n; commands = c; refusal = r }

silence_joined : (t : Part) → joined_part silence t ≡ t
unfolding joined_part
silence_joined t = ap (λ (n : ℕ). part n t.commands t.refusal) (zero-add t.taken)

noted_joined : (r : Reply) (a b : Part) → noted r (joined_part a b) ≡ joined_part (noted r a) b
unfolding joined_part noted
noted_joined still_open a b = ap (λ (n : ℕ). part n (a.commands ++ b.commands) (earlier a.refusal b.refusal)) (sym (suc-add a.taken b.taken))
noted_joined (completed c) a b =
    ap (λ (n : ℕ). part n (c ∷ (a.commands ++ b.commands)) (earlier a.refusal b.refusal)) (sym (suc-add a.taken b.taken))
noted_joined (refused n) a b = refl

noted_for_lem : (p : Bool) (r : Reply) (f g : PairFed) → noted_for p r (joined_pair f g) ≡ joined_pair (noted_for p r f) g
unfolding noted_for joined_pair
noted_for_lem false r f g =
    ap (λ (t : Part). record { told0 = t; told1 = joined_part f.told1 g.told1; pair = g.pair }) (noted_joined r f.told0 g.told0)
noted_for_lem true r f g =
    ap (λ (t : Part). record { told0 = joined_part f.told0 g.told0; told1 = t; pair = g.pair }) (noted_joined r f.told1 g.told1)

same_pair : (p : Bool) (r : Reply) (f : PairFed) → (noted_for p r f).pair ≡ f.pair
unfolding noted_for
same_pair false r f = refl
same_pair true r f = refl

pub cut : (q : Pair) (a b : List Sent) → piece_of q (a ++ b) ≡ joined_pair (piece_of q a) (piece_of (piece_of q a).pair b)
unfolding piece_of
cut q [] b =
    unfold joined_pair in
    λ i.
    record {
      told0 = sym (silence_joined (piece_of q b).told0) i;
      told1 = sym (silence_joined (piece_of q b).told1) i;
      pair = (piece_of q b).pair;
    }
cut q (w ∷ a) b =
    let n : Pair = put_back w.party (pair_step q w).session q in
    let r : Reply = (pair_step q w).reply in
    ap (noted_for w.party r) (cut n a b) ∙
    noted_for_lem w.party r (piece_of n a) (piece_of (piece_of n a).pair b) ∙
    ap (λ (m : Pair). joined_pair (noted_for w.party r (piece_of n a)) (piece_of m b)) (sym (same_pair w.party r (piece_of n a)))
