-- `superfine::corners::addresses` meets its contract: a law for each return. Assumes nothing.
use mathlib.Core.Path.{sym, ◌∙◌}
use mathlib.Core.Bool.{true, false}
use Prim.Native.Nat.{◌+◌}
use native.Mathlib.Omega.{arith}
use Rattle.address.proofs.Answers.{bytes_fit}
use Rattle.superfine.proofs.Around.{corners_malformed, corners_ruleless, past_all_rows, past_the_row}
use Rattle.superfine.proofs.Around.{own_out, below_out, kind_asked, kind_found}
use Rattle.superfine.proofs.corners.addresses.Goals as goal

pub returns-then-not-well_formed : goal.returns-then-not-well_formed
returns-then-not-well_formed c =
    sym (corners_malformed c.args.layout _ _ (sym c.well_formed-2.ensures ∙ c.if-not-well_formed.true))

pub window_stride-stride-requires : goal.window_stride-stride-requires
window_stride-stride-requires c = sym c.well_formed-2.ensures ∙ c.if-not-well_formed.false

pub returns-then-stride-lt1 : goal.returns-then-stride-lt1
returns-then-stride-lt1 c =
    let well-formed-told = sym c.well_formed-2.ensures ∙ c.if-not-well_formed.false in
    sym (corners_ruleless c.args.layout _ _ well-formed-told _ c.window_stride-stride.ensures c.if-stride-lt1.true)

pub returns-then-x-ge-STEP_MOST : goal.returns-then-x-ge-STEP_MOST
returns-then-x-ge-STEP_MOST c =
    let well-formed-told = sym c.well_formed-2.ensures ∙ c.if-not-well_formed.false in
    sym (past_all_rows c.args.layout _ _ well-formed-told _ c.window_stride-stride.ensures c.if-stride-lt1.false c.if-x-ge-STEP_MOST.true)

pub overflow_mul-x : goal.overflow_mul-x
overflow_mul-x c =
    let well-formed-told = sym c.well_formed-2.ensures ∙ c.if-not-well_formed.false in
    omega (
      arith,
      bytes_fit c.args.layout well-formed-told _ c.window_stride-stride.ensures
          c.if-stride-lt1.false (c.args.x + 1) (omega (arith, c.if-x-ge-STEP_MOST.false)),
    )

pub returns-then-stride-x : goal.returns-then-stride-x
returns-then-stride-x c =
    let well-formed-told = sym c.well_formed-2.ensures ∙ c.if-not-well_formed.false in
    sym (past_the_row c.args.layout _ _ well-formed-told _ c.window_stride-stride.ensures c.if-stride-lt1.false c.if-stride-x.true)

pub returns-then-layout-y : goal.returns-then-layout-y
returns-then-layout-y c =
    let well-formed-told = sym c.well_formed-2.ensures ∙ c.if-not-well_formed.false in
    sym (own_out c.args.layout _ _ well-formed-told _ c.window_stride-stride.ensures c.if-stride-lt1.false c.if-layout-y.true)

pub returns-then-layout-y-2 : goal.returns-then-layout-y-2
returns-then-layout-y-2 c =
    let well-formed-told = sym c.well_formed-2.ensures ∙ c.if-not-well_formed.false in
    sym (below_out c.args.layout _ _ well-formed-told _ c.window_stride-stride.ensures c.if-stride-lt1.false c.if-layout-y-2.true)

pub tiled-requires : goal.tiled-requires
tiled-requires c =
    let well-formed-told = sym c.well_formed-2.ensures ∙ c.if-not-well_formed.false in
    kind_asked c.args.layout _ _ well-formed-told _ c.window_stride-stride.ensures
    c.if-stride-lt1.false c.if-stride-x.false c.if-layout-y-2.false true c.if-layout.true

pub linear-requires : goal.linear-requires
linear-requires c =
    let well-formed-told = sym c.well_formed-2.ensures ∙ c.if-not-well_formed.false in
    kind_asked c.args.layout _ _ well-formed-told _ c.window_stride-stride.ensures
    c.if-stride-lt1.false c.if-stride-x.false c.if-layout-y-2.false false c.if-layout.false

pub returns-then-layout : goal.returns-then-layout
returns-then-layout c =
    let well-formed-told = sym c.well_formed-2.ensures ∙ c.if-not-well_formed.false in
    c.tiled.ensures ∙ kind_found c.args.layout _ _ well-formed-told _ c.window_stride-stride.ensures
    c.if-stride-lt1.false c.if-stride-x.false c.if-layout-y-2.false true c.if-layout.true

pub returns-else-layout : goal.returns-else-layout
returns-else-layout c =
    let well-formed-told = sym c.well_formed-2.ensures ∙ c.if-not-well_formed.false in
    c.linear.ensures ∙ kind_found c.args.layout _ _ well-formed-told _ c.window_stride-stride.ensures
    c.if-stride-lt1.false c.if-stride-x.false c.if-layout-y-2.false false c.if-layout.false
