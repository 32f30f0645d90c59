-- `conditional::survey_judged` meets its contract: what the survey of rows gives, in the words of the definitions. Assumes nothing.
use mathlib.Core.Path.{sym, ap, ◌∙◌}
use Prim.Native.Nat.{ℕ, ◌<◌}
use native.Mathlib.Omega.{arith}
use lib.ListN.{length, get_or}
use Rattle.laws.specs.Below.{sum}
use Rattle.laws.proofs.Below.{sum_same}
use Rattle.address.specs.Address.{layout_of}
use Rattle.conditions.specs.Spans.{written}
use Rattle.conditions.proofs.Written.{written_same}
use Rattle.conditional.specs.Conditional.{bit_at}
use Rattle.conditional.proofs.Rows.{stride_fits, held_asked, same_held, rows_asked, same_byte, pairs_are}
use Rattle.conditional.proofs.Surveys.{answers_refused, answers_given, not_held, all_surveyed, written_listed}
use Rattle.conditional.proofs.survey_judged.Goals as goal

pub overflow_add-columns : goal.overflow_add-columns
overflow_add-columns c =
    omega (arith, (held_asked _ _ _ _ _ _ _ _ _ _ _ c.requires).inside, stride_fits _ _ _ _ _ _ _ _ _ _ _ c.requires)

pub overflow_add-rows : goal.overflow_add-rows
overflow_add-rows c =
    omega (arith, (held_asked _ _ _ _ _ _ _ _ _ _ _ c.requires).last)

pub overflow_mul-stride : goal.overflow_mul-stride
overflow_mul-stride c =
    omega (arith, stride_fits _ _ _ _ _ _ _ _ _ _ _ c.requires)

pub all_held-requires : goal.all_held-requires
all_held-requires c =
    (held_asked _ _ _ _ _ _ _ _ _ _ _ c.requires, omega arith, omega arith)

-- memory doesn't hold all
pub returns-then-not-all_held : goal.returns-then-not-all_held
returns-then-not-all_held c =
    let args = c.args in
    let l = layout_of args.base args.pitch args.height 2 args.tiled in
    let m = args.memory.now in
    answers_refused _ _ _ _
    (not_held l args.test args.v args.first m args.i0 args.j0 args.i1 args.j1 _ c.requires.domain
    (sym (same_held _ _ _ _ _ _ _ _ _ _ _ c.requires args.first (length m)) ∙ sym c.all_held.ensures ∙ c.if-not-all_held.true))

pub rows-requires : goal.rows-requires
rows-requires c = (
  rows_asked _ _ _ _ _ _ _ _ _ _ _ c.requires _ _ (sym c.all_held.ensures ∙ c.if-not-all_held.false),
  omega arith,
)

-- surveyed
pub returns : goal.returns
returns c =
    let args = c.args in
    let asked = c.requires in
    let l = layout_of args.base args.pitch args.height 2 args.tiled in
    let m = args.memory.now in
    let few : (i : ℕ) → get_or m i 0 < 256 = λ i. omega (arith, c.shared_slice_known-1.given i) in
    let held = sym (same_held _ _ _ _ _ _ _ _ _ _ _ asked args.first (length m)) ∙ sym c.all_held.ensures ∙ c.if-not-all_held.false in
    let same = same_byte _ _ _ _ _ _ _ _ _ _ _ asked args.test args.v _ _ _ args.first m c.span_of-passing.ensures few in
    let many = pairs_are _ _ _ _ _ _ _ _ _ _ _ asked in
    let bit = bit_at l args.test args.v args.first m args.i0 args.j0 args.i1 args.j1 in
    answers_given _ _ _ _ _
    (all_surveyed l args.test args.v args.first m args.i0 args.j0 args.i1 args.j1 _ asked.domain _ asked.long held
    (c.rows.ensures.count ∙ sum_same _ _ bit (λ k h. same k) ∙ ap (λ (n : ℕ). sum n bit) many))
    (c.rows.ensures.bytes ∙ written_same 0 bit _ _ args.room.now (λ k h. same k) ∙ ap (λ (n : ℕ). written 0 bit n args.room.now) many ∙
    written_listed _ bit args.room.now asked.long)
