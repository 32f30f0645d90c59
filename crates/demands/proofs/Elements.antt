-- An element write that answers 0 was done. Assumes nothing.
use mathlib.Core.Path.{◌≡◌, refl, sym, ap, ◌∙◌}
use mathlib.Core.Bool.{Bool}
use mathlib.Core.List.{List, []}
use Prim.Native.Nat.{ℕ}
use native.Mathlib.Omega.{arith}
use Rattle.laws.specs.Choice.{pick}
use Rattle.laws.proofs.Choice.{by_pick}
use Rattle.refusal.specs.Told.{Told, gives, refuses}
use Rattle.layout.specs.declared.Layout.{Layout}
use Rattle.address.specs.Address.{if_accepted}
use Rattle.memory.specs.Elements.{in_order, write_of, Wrote}
use Rattle.refusal.specs.Crossing.{status_of}
use Rattle.element_rooms.specs.Rooms.{WriteCrosses}
use Rattle.demands.proofs.Numbers.{written_number}

-- a write tells nothing but that it is done
abbrev NothingMore : Told → Type 0
NothingMore t = (v : List ℕ) → t ≡ gives v → t ≡ gives []

denied : (n : ℕ) → NothingMore (refuses n)
denied n v e = absurd (let z : ◌≡◌ {A = ℕ} 0 1 = cc in omega arith)

either : (t : Bool) (a b : Told) → NothingMore a → NothingMore b → NothingMore (pick t a b)
either t a b x y = by_pick NothingMore t a b (λ e. x) (λ e. y)

nothing_more : (l : Layout) (x y first : ℕ) (given before : List ℕ) → NothingMore (write_of l x y first given before)
unfolding write_of if_accepted in_order
nothing_more l x y first given before =
    either _ _ _ (either _ _ _ (either _ _ _ (either _ _ _ (λ v e. refl) (denied 11)) (denied 10)) (denied 6)) (denied 3)

pub write_done : (l : Layout) (x y first : ℕ) (given before after : List ℕ) → WriteCrosses l x y first given 0 before after →
    Wrote l x y first given (gives []) before after
write_done l x y first given before after c = record { answer = sym (go (write_of l x y first given before) refl); memory = c.memory }
  where
    go : (t : Told) → write_of l x y first given before ≡ t → write_of l x y first given before ≡ gives []
    go (gives v) e = nothing_more l x y first given before v e
    go (refuses n) e =
        absurd (let z : 0 ≡ n = c.status ∙ ap status_of e in omega (arith, written_number l x y first given before n e))
