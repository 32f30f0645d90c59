-- The number that the gauge gives by compares is the one that the settings give. Assumes nothing.
use mathlib.Core.Path.{◌≡◌, refl, sym, ap, ap₂, ◌∙◌}
use mathlib.Core.Bool.{Bool, true, false}
use mathlib.Core.List.{List, []}
use Prim.Native.Nat.{ℕ, zero, suc, ◌<◌}
use native.Mathlib.Omega.{arith}
use lib.Dec.{eqb, ltb}
use borrow.Author.Tests.{ltb-true, ltb-false, lt-ltb, le-ltb}
use Rattle.laws.specs.Choice.{◌and◌, pick}
use Rattle.laws.specs.Below.{some, every}
use Rattle.laws.specs.Masks.{digit}
use Rattle.laws.proofs.Choice.{pick_yes, pick_no, Tested, holds, fails, tested}
use Rattle.refusal.specs.Told.{gives, refuses}
use Rattle.state.specs.State.{Buffer, Domain, Readiness, Party, Shared, most_extent}
use Rattle.state.specs.Seen.{seen_outputs}
use Rattle.state.specs.Start.{step_of_buffer, output, is_set, counts, contains_domain, complete, covered, disjoint, ready_of, number_told, readiness_of}
use Rattle.state.specs.Readiness.{lesser, least_extent, columns_left, rows_left, gauge_of, worked_out}
use Rattle.state.specs.Effects.{with_number, with_readiness, renewed}
use Rattle.start.specs.Windows.{first_of}
use Rattle.start.specs.Gauge.{ready_by, settled}

-- below the lesser of two is below both
below_lesser : (i a b : ℕ) → ltb i (lesser a b) ≡ (ltb i a and ltb i b)
unfolding ◌and◌ lesser
below_lesser i a b = go (tested (ltb a b)) (tested (ltb i a))
  where
    go : Tested (ltb a b) → Tested (ltb i a) → ltb i (pick (ltb a b) a b) ≡ (ltb i a and ltb i b)
    go (holds e) (holds k) =
        rw (pick_yes a b e, k) (sym (lt-ltb i b (omega (arith, ltb-true a b e, ltb-true i a k))))
    go (holds e) (fails k) = rw (pick_yes a b e, k) refl
    go (fails e) (holds k) = rw (pick_no a b e, k) refl
    go (fails e) (fails k) =
        rw (pick_no a b e, k) (le-ltb i b (omega (arith, ltb-false a b e, ltb-false i a k)))

below_least : (k i : ℕ) (f : ℕ → ℕ) → i < most_extent → ltb i (least_extent k f) ≡ every k (λ n. ltb i (f n))
unfolding least_extent every
below_least zero i f h = lt-ltb i most_extent h
below_least (suc k) i f h =
    below_lesser i (f zero) (least_extent k (λ n. f (suc n))) ∙
    ap (λ (t : Bool). ltb i (f zero) and t) (below_least k i (λ n. f (suc n)) h)

-- two tests at every number
and_swap : (a b c d : Bool) → ((a and b) and (c and d)) ≡ ((a and c) and (b and d))
unfolding ◌and◌
and_swap true true c d = refl
and_swap true false true d = refl
and_swap true false false d = refl
and_swap false b c d = refl

every_both : (k : ℕ) (f g : ℕ → Bool) → (every k f and every k g) ≡ every k (λ n. f n and g n)
unfolding every ◌and◌
every_both zero f g = refl
every_both (suc k) f g =
    and_swap (f zero) (every k (λ n. f (suc n))) (g zero) (every k (λ n. g (suc n))) ∙
    ap (λ (t : Bool). (f zero and g zero) and t) (every_both k (λ n. f (suc n)) (λ n. g (suc n)))

every_each : (k : ℕ) (f g : ℕ → Bool) → ((n : ℕ) → f n ≡ g n) → every k f ≡ every k g
unfolding every
every_each zero f g h = refl
every_each (suc k) f g h = ap₂ ◌and◌ (h zero) (every_each k (λ n. f (suc n)) (λ n. g (suc n)) (λ n. h (suc n)))

-- what one output asks, by what it leaves
asks : (t : Bool) (i j e h : ℕ) → i < most_extent → j < most_extent →
    (ltb i (pick t e most_extent) and ltb j (pick t h most_extent)) ≡ pick t (ltb i e and ltb j h) true
unfolding pick ◌and◌
asks true i j e h p q = refl
asks false i j e h p q = rw (lt-ltb i most_extent p, lt-ltb j most_extent q) refl

digit_one : (t : Bool) → eqb (digit t) 1 ≡ t
unfolding digit
digit_one true = refl
digit_one false = refl

numbers : (x y z : Bool) → first_of x y z ≡ number_told (pick x (pick y (pick z (gives []) (refuses 9)) (refuses 8)) (refuses 7))
unfolding first_of number_told pick
numbers true true true = refl
numbers true true false = refl
numbers true false z = refl
numbers false y z = refl

module _ (edition mask : ℕ) (outputs : List Buffer) (d : Domain) (i : Buffer) (column : d.i1 < most_extent) (row : d.j1 < most_extent) where
  covered_gauged : (ltb d.i1 (gauge_of mask outputs edition).columns and ltb d.j1 (gauge_of mask outputs edition).rows) ≡ covered mask outputs d
  unfolding gauge_of columns_left rows_left covered contains_domain
  covered_gauged =
      ap₂ ◌and◌ (below_least 4 d.i1 _ column) (below_least 4 d.j1 _ row) ∙
      every_both 4 _ _ ∙
      every_each 4 _ _
      (λ n.
      asks (counts mask outputs n) d.i1 d.j1 (step_of_buffer (output outputs n)) (output outputs n).height column row)

  pub readiness_gauged : ready_by d i (gauge_of mask outputs edition) ≡ readiness_of d i mask outputs
  unfolding ready_by readiness_of ready_of complete
  readiness_gauged =
      (λ k. first_of (eqb d.is_set 1 and (eqb i.is_set 1 and some_path k)) (covered_gauged k) (apart_path k)) ∙ numbers _ _ _
    where
      some_path : eqb (gauge_of mask outputs edition).some 1 ≡ some 4 (is_set outputs)
      some_path = unfold gauge_of in digit_one (some 4 (is_set outputs))

      apart_path : eqb (gauge_of mask outputs edition).apart 1 ≡ disjoint mask outputs
      apart_path = unfold gauge_of in digit_one (disjoint mask outputs)

-- what was kept of the same mask and outputs, settled, is what the settings give
pub settled_kept : (p : Party) (h : Shared) (d : Domain) (i : Buffer) → p.domain.i1 < most_extent → p.domain.j1 < most_extent →
    p.readiness ≡ worked_out p.birth.edition d i h.mask (seen_outputs p.birth.mine h.outputs) → settled p ≡ renewed h p
unfolding worked_out
settled_kept p h d i column row e =
    let outputs = seen_outputs p.birth.mine h.outputs in
    ap (λ (r : Readiness). with_readiness (with_number (ready_by p.domain p.instructions r.gauge) r) p) e ∙
    ap (λ (n : ℕ). with_readiness (with_number n (worked_out p.birth.edition d i h.mask outputs)) p)
    (readiness_gauged p.birth.edition h.mask outputs p.domain p.instructions column row)
