-- Request 10: the edition comes before the lease line, and 64 bits hold what a session can claim. Assumes nothing.
use mathlib.Core.Path.{◌≡◌, ap}
use mathlib.Core.Bool.{false}
use mathlib.Core.List.{[]}
use Prim.Native.Nat.{ℕ, ◌*◌, ◌^◌, ◌<◌, ◌≤◌}
use native.Mathlib.Nat.{mul-le-mul, le_refl, le_trans}
use native.Mathlib.Omega.{arith}
use Rattle.laws.proofs.Choice.{pick_no}
use Rattle.refusal.specs.Told.{Told, gives, refuses, then_told}
use Rattle.state.specs.State.{Session}
use Rattle.state.specs.Start.{is_edition, edition_told, claim_of, most_claim}
use Rattle.state.specs.Effects.{limit}
use Rattle.session.specs.Silent.{seen_by}
use Rattle.session.specs.Reached.{Reached}
use Rattle.session.proofs.Kept.{claim_most}
use Rattle.session.proofs.Reached.{reached_valid}
use Rattle.score.specs.Lease.{Lease, lease_told}
use Rattle.score_rooms.specs.Rooms.{line_told}
use Rattle.demands.specs.Editions.{FitTallies}

pub before_line : (edition : ℕ) → is_edition edition ≡ false → (l : Lease) → line_told edition l ≡ refuses 3
unfolding line_told edition_told then_told
before_line edition e l = ap (λ (t : Told). then_told t (lease_told l)) (pick_no (gives []) (refuses 3) e)

module _ (s : Session) (r : Reached s) where
  pub greatest : claim_of s.party.birth.edition s.party.domain s.shared.mask (seen_by s) ≤ most_claim
  greatest = claim_most s.party.birth.edition s.party.domain s.shared.mask (seen_by s) (reached_valid r).domain

  pub fit_tallies : FitTallies s
  fit_tallies =
      let v = reached_valid r in
      record {
        claims_most = le_trans v.tally.claims_most (mul-le-mul v.full (le_refl most_claim));
        claims_fit = omega arith;
        runs_fit = omega (arith, v.tally.runs_most, v.full);
      }
