-- `loops::turn` meets its contract: each return is the turn as far as the tests on the op decide it. Assumes nothing.
use mathlib.Core.Path.{sym, ap, ◌∙◌}
use mathlib.Core.Bool.{Bool}
use borrow.Author.Tests.{eq-eqb, ne_eqb}
use Rattle.laws.proofs.Choice.{pick_yes, pick_no}
use Rattle.loops.specs.Loops.{loops_by, turned, closing, turn_of}
use Rattle.loops.proofs.turn.Goals as goal

-- LOOP
pub returns-then-op-eq-LOOP_OP : goal.returns-then-op-eq-LOOP_OP
unfolding turn_of
returns-then-op-eq-LOOP_OP c =
    c.open.ensures ∙
    sym (ap turned (pick_yes _ _ (eq-eqb _ _ c.if-op-eq-LOOP_OP.true)))

-- REP
pub returns-then-op-eq-REP_OP : goal.returns-then-op-eq-REP_OP
unfolding turn_of
returns-then-op-eq-REP_OP c =
    c.open-then-op-eq-REP_OP.ensures ∙
    sym
    (ap turned
    (pick_no _ _ (ne_eqb _ _ c.if-op-eq-LOOP_OP.false) ∙ pick_yes _ _ (eq-eqb _ _ c.if-op-eq-REP_OP.true)))

-- ENDLOOP
pub returns-then-op-eq-ENDLOOP_OP : goal.returns-then-op-eq-ENDLOOP_OP
unfolding turn_of
returns-then-op-eq-ENDLOOP_OP c =
    let ls = loops_by c.args.loops in
    c.close_loop.ensures ∙
    sym
    (ap turned
    (pick_no _ _ (ne_eqb _ _ c.if-op-eq-LOOP_OP.false) ∙ pick_no _ _ (ne_eqb _ _ c.if-op-eq-REP_OP.false) ∙
    ap (λ (b : Bool). closing b ls) (eq-eqb c.args.op 2 c.if-op-eq-ENDLOOP_OP.true)))

-- ENDREP
pub returns : goal.returns
unfolding turn_of
returns c =
    let ls = loops_by c.args.loops in
    c.close_rep.ensures ∙
    sym
    (ap turned
    (pick_no _ _ (ne_eqb _ _ c.if-op-eq-LOOP_OP.false) ∙ pick_no _ _ (ne_eqb _ _ c.if-op-eq-REP_OP.false) ∙
    ap (λ (b : Bool). closing b ls) (ne_eqb c.args.op 2 c.if-op-eq-ENDLOOP_OP.false)))
