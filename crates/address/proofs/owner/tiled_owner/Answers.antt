-- `address::owner::tiled_owner` meets its contract: each arm hands over its size. Assumes nothing.
use Rattle.std.proofs.Common.{ℕ, true, sym, refl, ap}
use Rattle.laws.specs.Choice.{place_of}
use Rattle.refusal.proofs.Crossings.{crosses_refuses, crosses_same}
use Rattle.layout.specs.Sizes.{is_size}
use Rattle.address.specs.Address.{locate_of, layout_of}
use Rattle.address.proofs.Answers.{malformed, form_at, none_form}
use Rattle.address.proofs.owner.tiled_owner.Goals as goal

pub tiled_1-requires : goal.tiled_1-requires
unfolding is_size place_of
tiled_1-requires c = form_at _ _ 1 _ c.requires refl

pub tiled_2-requires : goal.tiled_2-requires
unfolding is_size place_of
tiled_2-requires c = form_at _ _ 1 _ c.requires refl

pub tiled_4-requires : goal.tiled_4-requires
unfolding is_size place_of
tiled_4-requires c = form_at _ _ 1 _ c.requires refl

pub tiled_8-requires : goal.tiled_8-requires
unfolding is_size place_of
tiled_8-requires c = form_at _ _ 1 _ c.requires refl

pub tiled_16-requires : goal.tiled_16-requires
unfolding is_size place_of
tiled_16-requires c = form_at _ _ 1 _ c.requires refl

pub returns-in-1 : goal.returns-in-1
returns-in-1 c =
    let args = c.args in
    crosses_same
    (ap (λ (s : ℕ). locate_of (layout_of args.base args.pitch args.height s true) args.address) (sym c.in-1.is))
    c.tiled_1.ensures

pub returns-in-2 : goal.returns-in-2
returns-in-2 c =
    let args = c.args in
    crosses_same
    (ap (λ (s : ℕ). locate_of (layout_of args.base args.pitch args.height s true) args.address) (sym c.in-2.is))
    c.tiled_2.ensures

pub returns-in-4 : goal.returns-in-4
returns-in-4 c =
    let args = c.args in
    crosses_same
    (ap (λ (s : ℕ). locate_of (layout_of args.base args.pitch args.height s true) args.address) (sym c.in-4.is))
    c.tiled_4.ensures

pub returns-in-8 : goal.returns-in-8
returns-in-8 c =
    let args = c.args in
    crosses_same
    (ap (λ (s : ℕ). locate_of (layout_of args.base args.pitch args.height s true) args.address) (sym c.in-8.is))
    c.tiled_8.ensures

pub returns-in-16 : goal.returns-in-16
returns-in-16 c =
    let args = c.args in
    crosses_same
    (ap (λ (s : ℕ). locate_of (layout_of args.base args.pitch args.height s true) args.address) (sym c.in-16.is))
    c.tiled_16.ensures

-- it is no size
pub returns-in_default : goal.returns-in_default
unfolding locate_of
returns-in_default c =
    let args = c.args in
    let layout = layout_of args.base args.pitch args.height args.size true in
    crosses_refuses _ _ _ _ refl (malformed layout _ (none_form _ _ _ c.in_default.in_default-own.rest))
