-- `rectangles::parts::four_pairs` meets its contract: each arm carries the same eight parts. Assumes nothing.
use mathlib.Core.Path.{refl}
use mathlib.Core.Bool.{true, false}
use Rattle.rectangles.proofs.Moves.{pairs_first, pairs_last, eight_moved}
use Rattle.rectangles.proofs.parts.four_pairs.Goals as goal

pub two_pairs-requires : goal.two_pairs-requires
two_pairs-requires c = pairs_first _ _ _ _ _ _ _ _ _ c.requires true 8 c.if-out.true c.in-8.is

pub two_pairs-requires-in-8 : goal.two_pairs-requires-in-8
two_pairs-requires-in-8 c =
    pairs_last _ _ _ _ _ _ _ _ _ c.requires true 8
    c.if-out.true c.in-8.is _
    c.to-1.given

pub two_pairs-requires-in-16 : goal.two_pairs-requires-in-16
two_pairs-requires-in-16 c = pairs_first _ _ _ _ _ _ _ _ _ c.requires true 16 c.if-out.true c.in-16.is

pub two_pairs-requires-in-16-2 : goal.two_pairs-requires-in-16-2
two_pairs-requires-in-16-2 c =
    pairs_last _ _ _ _ _ _ _ _ _ c.requires true 16
    c.if-out.true c.in-16.is _
    c.to-in-16-1.given

pub two_pairs-requires-in-32 : goal.two_pairs-requires-in-32
two_pairs-requires-in-32 c = pairs_first _ _ _ _ _ _ _ _ _ c.requires true 32 c.if-out.true c.in-32.is

pub two_pairs-requires-in-32-2 : goal.two_pairs-requires-in-32-2
two_pairs-requires-in-32-2 c =
    pairs_last _ _ _ _ _ _ _ _ _ c.requires true 32
    c.if-out.true c.in-32.is _
    c.to-in-32-1.given

pub two_pairs-requires-in_default : goal.two_pairs-requires-in_default
two_pairs-requires-in_default c = pairs_first _ _ _ _ _ _ _ _ _ c.requires true _ c.if-out.true refl

pub two_pairs-requires-in_default-2 : goal.two_pairs-requires-in_default-2
two_pairs-requires-in_default-2 c =
    pairs_last _ _ _ _ _ _ _ _ _ c.requires true _
    c.if-out.true refl _ c.to-in_default-1.given

pub two_pairs-requires-in-8-n : goal.two_pairs-requires-in-8-n
two_pairs-requires-in-8-n c = pairs_first _ _ _ _ _ _ _ _ _ c.requires false 8 c.if-out.false c.in-8-n.is

pub two_pairs-requires-in-8-n-2 : goal.two_pairs-requires-in-8-n-2
two_pairs-requires-in-8-n-2 c =
    pairs_last _ _ _ _ _ _ _ _ _ c.requires false 8
    c.if-out.false c.in-8-n.is _
    c.to-in-8-n-1.given

pub two_pairs-requires-in-16-n : goal.two_pairs-requires-in-16-n
two_pairs-requires-in-16-n c = pairs_first _ _ _ _ _ _ _ _ _ c.requires false 16 c.if-out.false c.in-16-n.is

pub two_pairs-requires-in-16-n-2 : goal.two_pairs-requires-in-16-n-2
two_pairs-requires-in-16-n-2 c =
    pairs_last _ _ _ _ _ _ _ _ _ c.requires false 16
    c.if-out.false c.in-16-n.is _
    c.to-in-16-n-1.given

pub two_pairs-requires-in-32-n : goal.two_pairs-requires-in-32-n
two_pairs-requires-in-32-n c = pairs_first _ _ _ _ _ _ _ _ _ c.requires false 32 c.if-out.false c.in-32-n.is

pub two_pairs-requires-in-32-n-2 : goal.two_pairs-requires-in-32-n-2
two_pairs-requires-in-32-n-2 c =
    pairs_last _ _ _ _ _ _ _ _ _ c.requires false 32
    c.if-out.false c.in-32-n.is _
    c.to-in-32-n-1.given

pub two_pairs-requires-in_default-n : goal.two_pairs-requires-in_default-n
two_pairs-requires-in_default-n c = pairs_first _ _ _ _ _ _ _ _ _ c.requires false _ c.if-out.false refl

pub two_pairs-requires-in_default-n-2 : goal.two_pairs-requires-in_default-n-2
two_pairs-requires-in_default-n-2 c =
    pairs_last _ _ _ _ _ _ _ _ _ c.requires false _
    c.if-out.false refl _ c.to-in_default-n-1.given

pub returns-in-8 : goal.returns-in-8
returns-in-8 c =
    eight_moved _ true _ 8 _ _ _ _ _ _ _ _ _ c.if-out.true
    c.in-8.is
    c.two_pairs.ensures c.two_pairs-in-8.ensures

pub returns-in-16 : goal.returns-in-16
returns-in-16 c =
    eight_moved _ true _ 16 _ _ _ _ _ _ _ _ _ c.if-out.true
    c.in-16.is
    c.two_pairs-in-16.ensures c.two_pairs-in-16-2.ensures

pub returns-in-32 : goal.returns-in-32
returns-in-32 c =
    eight_moved _ true _ 32 _ _ _ _ _ _ _ _ _ c.if-out.true
    c.in-32.is
    c.two_pairs-in-32.ensures c.two_pairs-in-32-2.ensures

pub returns-in_default : goal.returns-in_default
returns-in_default c =
    eight_moved _ true _ _ _ _ _ _ _ _ _ _ _ c.if-out.true refl
    c.two_pairs-in_default.ensures c.two_pairs-in_default-2.ensures

pub returns-in-8-n : goal.returns-in-8-n
returns-in-8-n c =
    eight_moved _ false _ 8 _ _ _ _ _ _ _ _ _ c.if-out.false
    c.in-8-n.is
    c.two_pairs-in-8-n.ensures c.two_pairs-in-8-n-2.ensures

pub returns-in-16-n : goal.returns-in-16-n
returns-in-16-n c =
    eight_moved _ false _ 16 _ _ _ _ _ _ _ _ _ c.if-out.false
    c.in-16-n.is
    c.two_pairs-in-16-n.ensures c.two_pairs-in-16-n-2.ensures

pub returns-in-32-n : goal.returns-in-32-n
returns-in-32-n c =
    eight_moved _ false _ 32 _ _ _ _ _ _ _ _ _ c.if-out.false
    c.in-32-n.is
    c.two_pairs-in-32-n.ensures c.two_pairs-in-32-n-2.ensures

pub returns-in_default-n : goal.returns-in_default-n
returns-in_default-n c =
    eight_moved _ false _ _ _ _ _ _ _ _ _ _ _ c.if-out.false refl
    c.two_pairs-in_default-n.ensures c.two_pairs-in_default-n-2.ensures
