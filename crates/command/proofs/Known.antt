-- What follows from a line that is known, and from none. Assumes nothing.
use mathlib.Core.Path.{◌≡◌, ap}
use mathlib.Core.List.{[], ◌∷◌}
use Prim.Native.Nat.{ℕ}
use Rattle.refusal.specs.Told.{Told, gives, refuses}
use Rattle.command.specs.Table.{line_with}
use Rattle.command.specs.Known.{on_line}

module _ {ℓ} {A : Type ℓ} (header : ℕ) (found : ℕ → A) (other : A) where
  pub on_line_lem : (line : ℕ) → line_with header ≡ gives (line ∷ []) → on_line (line_with header) found other ≡ found line
  on_line_lem line e = ap (λ (t : Told). on_line t found other) e

  pub off_line : line_with header ≡ refuses 2 → on_line (line_with header) found other ≡ other
  off_line e = ap (λ (t : Told). on_line t found other) e
