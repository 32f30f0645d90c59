-- `places::by_table` meets its contract: the table's place, corrected, is the bit rule's. Assumes nothing.
use mathlib.Core.Path.{refl, sym, ap, ◌∙◌, subst}
use mathlib.Core.List.{List}
use Prim.Native.Nat.{ℕ, ◌+◌, ◌*◌, ◌%◌, ◌<◌}
use lib.ListN.{get_or}
use Rattle.places.proofs.Places.{corrected, inside_lt}
use Rattle.places.proofs.by_table.Goals as goal

pub returns : goal.returns
returns c =
    let args = c.args in
    let is = corrected args.x args.y _ _ refl
    (c.wide.ensures ∙ ap (λ (l : List ℕ). get_or l (args.y % 32 * 64 + args.x % 64) 0) c.requires) in
    record { place = is; most = subst (λ (n : ℕ). n < 2048) (sym is) (inside_lt args.x args.y) }
