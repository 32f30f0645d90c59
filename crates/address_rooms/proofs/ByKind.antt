-- What is told of a linear or a tiled layout is told of the layout whose kind that is. Assumes nothing.
use mathlib.Core.Path.{◌≡◌, sym, ap, ◌∙◌}
use mathlib.Core.Bool.{Bool}
use mathlib.Core.List.{List}
use Prim.Native.Nat.{ℕ}
use Rattle.refusal.specs.Crossing.{Crosses}
use Rattle.refusal.proofs.Crossings.{crosses_same}
use Rattle.address.specs.Address.{layout_of, translate_of, told_number}

pub by_kind_lem : (base pitch height size : ℕ) (tiled kind : Bool) (x y number : ℕ) {r : ℕ} {before after : List ℕ} → tiled ≡ kind →
    told_number number ≡ translate_of (layout_of base pitch height size kind) x y → Crosses (told_number number) r before after →
    Crosses (translate_of (layout_of base pitch height size tiled) x y) r before after
by_kind_lem base pitch height size tiled kind x y number same told c =
    crosses_same (told ∙ ap (λ (t : Bool). translate_of (layout_of base pitch height size t) x y) (sym same)) c
