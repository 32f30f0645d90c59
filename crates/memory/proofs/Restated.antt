-- Reads and writes over translation's answer. Assumes nothing.
use mathlib.Core.Path.{◌≡◌, refl}
use mathlib.Core.Bool.{Bool, true, false}
use mathlib.Core.List.{List, [], ◌∷◌}
use Prim.Native.Nat.{ℕ}
use Rattle.laws.specs.Choice.{pick}
use Rattle.refusal.specs.Told.{Told, gives, refuses}
use Rattle.layout.specs.declared.Layout.{Layout}
use Rattle.address.specs.Address.{if_accepted, inside, address_of, run_of, translate_of}
use Rattle.memory.specs.Elements.{in_order, read_of, write_of}
use Rattle.memory.specs.Restated.{from_address, read_at, write_at}

-- layout, then pair, then memory: the answer is the translation's, and what memory makes of the address
same : (form rule in_window : Bool) (a run : ℕ) (answer : ℕ → Told) →
    pick form (pick rule (pick in_window (answer a) (refuses 10)) (refuses 6)) (refuses 3) ≡
    from_address (pick form (pick rule (pick in_window (gives (a ∷ run ∷ [])) (refuses 10)) (refuses 6)) (refuses 3)) answer
unfolding pick from_address
same true true true a run answer = refl
same true true false a run answer = refl
same true false i a run answer = refl
same false w i a run answer = refl

module _ (l : Layout) (x y first : ℕ) where
  pub read_restated : (m : List ℕ) → read_of l x y first m ≡ from_address (translate_of l x y) (read_at first m l.size)
  unfolding read_of translate_of if_accepted in_order
  read_restated m = same _ _ (inside l x y) (address_of l x y) (run_of l x y) (read_at first m l.size)

  pub write_restated :
      (given m : List ℕ) → write_of l x y first given m ≡ from_address (translate_of l x y) (write_at first given m l.size)
  unfolding write_of translate_of if_accepted in_order
  write_restated given m = same _ _ (inside l x y) (address_of l x y) (run_of l x y) (write_at first given m l.size)
