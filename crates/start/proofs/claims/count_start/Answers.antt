-- `start::claims::count_start` meets its contract. Assumes nothing.
use Prim.Native.Nat.{◌+◌}
use native.Mathlib.Omega.{arith}
use lib.ListN.{get_or}
use Rattle.state.specs.Cells.{party_of, shared_of}
use Rattle.state.proofs.OwnPuts.{second_tally, start_tallies}
use Rattle.start.proofs.Readiness.{claim_asked, claim_kept}
use Rattle.start.proofs.claims.count_start.Goals as goal

pub claim-claimed-requires : goal.claim-claimed-requires
claim-claimed-requires c = claim_asked c.args.own.now c.args.tallies.now c.args.shared.now c.requires

pub overflow_add-tallies : goal.overflow_add-tallies
unfolding party_of
overflow_add-tallies c = omega (arith, c.requires.runs)

pub overflow_add-tallies-2 : goal.overflow_add-tallies-2
unfolding party_of
overflow_add-tallies-2 c =
    let args = c.args in
    omega (
      arith,
      second_tally args.own.now c.requires.sized.own_length_lem args.tallies.now c.requires.sized.tallies_length_lem
          (get_or args.tallies.now 0 0 + 1),
      c.claim-claimed.ensures.most,
      c.requires.claims,
    )

pub returns : goal.returns
returns c =
    let args = c.args in
    start_tallies args.own.now c.requires.sized.own_length_lem args.tallies.now c.requires.sized.tallies_length_lem
    (shared_of args.shared.now) _
    (claim_kept args.own.now args.tallies.now args.shared.now c.requires c.claim-claimed.ensures.value)
