-- `memory::copy::store_all` meets its contract: before byte i is copied, the part has the first i given bytes, then its own.
-- Assumes nothing.
use Prim.Native.Nat.{ℕ, ◌<◌, ◌≤◌}
use mathlib.Core.Path.{refl, ap, ◌∙◌, subst}
use mathlib.Core.List.{List}
use native.Mathlib.Omega.{arith}
use lib.ListN.{set, get_or, length-set}
use Rattle.memory.proofs.Copies.{copy_step, copy_done}
use Rattle.memory.proofs.copy.store_all.Goals as goal

pub loop-i-init : goal.loop-i-init
loop-i-init c = (omega arith, refl, refl)

pub bounds-given-i : goal.bounds-given-i
bounds-given-i c = omega arith

pub bounds-part-i : goal.bounds-part-i
bounds-part-i c = omega arith

pub overflow_add-i : goal.overflow_add-i
overflow_add-i c = omega arith

pub loop-i-smaller : goal.loop-i-smaller
loop-i-smaller c = omega arith

pub loop-i-preserved : goal.loop-i-preserved
loop-i-preserved c =
    let args = c.args in (
      omega arith,
      simp length-set c.loop-i.invariant.1,
      ap (λ (q : List ℕ). set q c.loop-i.i (get_or args.given.now c.loop-i.i 0)) c.loop-i.invariant.2
          ∙ copy_step args.part.now args.given.now c.loop-i.i c.requires.0
          (subst (λ (k : ℕ). c.loop-i.i < k) c.requires.1 c.loop-i-test.true),
    )

pub shape_of-part : goal.shape_of-part
shape_of-part c = c.loop-i.invariant.1

pub returns : goal.returns
returns c =
    c.loop-i.invariant.2 ∙ copy_done _ _ _ c.requires.0 (subst (λ (k : ℕ). k ≤ c.loop-i.i) c.requires.1 c.loop-i-test.false)
