-- The loop over the days of a lease: what the rooms and the sum hold after each turn. Assumes nothing.
use mathlib.Core.Path.{◌≡◌, refl, sym, ap, ap₂, ◌∙◌}
use mathlib.Core.List.{List}
use Prim.Native.Nat.{ℕ, ◌+◌, ◌*◌, ◌<◌, ◌≤◌, min}
use native.Mathlib.Numerals.{add-one}
use native.Mathlib.Omega.{arith}
use lib.ListN.{length, set, replicate}
use Rattle.laws.specs.Below.{sum}
use Rattle.laws.proofs.Below.{sum_last}
use Rattle.replay.specs.State.{Replay}
use Rattle.score.specs.Lease.{Lease}
use Rattle.score.specs.Score.{claimed_at, served_at, room_for}
use Rattle.score.specs.Answers.{Bounded, Filled}
use Rattle.score.proofs.Rooms.{room_length, room_empty, room_more}
use Rattle.score.proofs.Sums.{sum_most}
use Rattle.score.proofs.Verdicts.{served_day}

-- the first `k` days are done
pub record Filling (l : Lease) (r : Replay) (claimed served : List ℕ) (total k : ℕ) : Type 0 where
  pub bounded : Bounded l
  pub reached : k ≤ l.days
  pub sum : total ≡ sum k (served_at l r)
  pub claimed_room : claimed ≡ room_for k (claimed_at l r)
  pub served_room : served ≡ room_for k (served_at l r)

module _ (l : Lease) (r : Replay) where
  pub filling_begins : Bounded l → Filling l r (replicate 31 0) (replicate 31 0) 0 0
  unfolding sum
  filling_begins b =
      record {
        bounded = b;
        reached = omega arith;
        sum = refl;
        claimed_room = room_empty (claimed_at l r);
        served_room = room_empty (served_at l r);
      }

  module _ {claimed served : List ℕ} {total k : ℕ} (f : Filling l r claimed served total k) where
    pub claimed_length : length claimed ≡ 31
    claimed_length = ap length f.claimed_room ∙ room_length (claimed_at l r) k

    pub served_length : length served ≡ 31
    served_length = ap length f.served_room ∙ room_length (served_at l r) k

    pub total_most : total ≤ k * 100000000
    total_most =
        omega (arith, f.sum, sum_most (served_at l r) 100000000 (λ j. omega (arith, served_day l r j, f.bounded.few_owed)) k)

    module _ (more : k < l.days) (number counted : ℕ)
        (is : number ≡ claimed_at l r k) (cap : counted ≡ min number l.owed)
      where
        capped : counted ≡ served_at l r k
        unfolding served_at
        capped = cap ∙ ap (λ (n : ℕ). min n l.owed) is

        pub counted_most : counted ≤ 100000000
        counted_most = omega (arith, capped, served_day l r k, f.bounded.few_owed)

        few : k < 31
        few = omega (arith, f.bounded.few_days)

        one_more : sum k (served_at l r) + served_at l r k ≡ sum (k + 1) (served_at l r)
        one_more = sym (sum_last k (served_at l r)) ∙ ap (λ (n : ℕ). sum n (served_at l r)) (sym (add-one k))

        pub filling_goes : Filling l r (set claimed k number) (set served k counted) (total + counted) (k + 1)
        filling_goes =
            record {
              bounded = f.bounded;
              reached = omega arith;
              sum = ap₂ ◌+◌ f.sum capped ∙ one_more;
              claimed_room =
                  ap₂ (λ (room : List ℕ) (n : ℕ). set room k n) f.claimed_room is ∙ room_more (claimed_at l r) k few;
              served_room =
                  ap₂ (λ (room : List ℕ) (n : ℕ). set room k n) f.served_room capped ∙ room_more (served_at l r) k few;
            }

    pub filling_ends : l.days ≤ k → Filled l r total claimed served
    filling_ends h =
        let all : k ≡ l.days = omega (arith, f.reached) in
        record {
          sum = f.sum ∙ ap (λ (n : ℕ). sum n (served_at l r)) all;
          claimed_room = f.claimed_room ∙ ap (λ (n : ℕ). room_for n (claimed_at l r)) all;
          served_room = f.served_room ∙ ap (λ (n : ℕ). room_for n (served_at l r)) all;
        }
