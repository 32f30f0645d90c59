-- The superfine read is the reads of its four pairs, one after the other. Assumes nothing.
use mathlib.Core.Path.{◌≡◌, refl, sym, ap, ◌∙◌}
use mathlib.Core.Bool.{Bool, true, false}
use mathlib.Core.List.{List, ◌++◌}
use Prim.Native.Nat.{ℕ, ◌+◌}
use Rattle.laws.specs.Choice.{◌and◌, pick}
use Rattle.laws.proofs.Choice.{pick_yes}
use Rattle.refusal.specs.Told.{Told, gives, refuses}
use Rattle.layout.specs.Layout.{well_formed, window_rule}
use Rattle.layout.specs.declared.Layout.{Layout}
use Rattle.address.specs.Address.{step_of, if_accepted}
use Rattle.memory.specs.Elements.{in_order, read_of}
use Rattle.superfine.specs.InLine.{joined}
use Rattle.superfine.specs.Superfine.{superfine_word, format_layout, four_inside, four_held, four_bytes, four_of, four_at_of, superfine_read_of}

both :
    (i j h k : Bool) (v w : List ℕ) →
    joined (in_order i h (gives v)) (in_order j k (gives w)) ≡ in_order (i and j) (h and k) (gives (v ++ w))
unfolding joined in_order pick ◌and◌
both true true true true v w = refl
both true true true false v w = refl
both true true false true v w = refl
both true true false false v w = refl
both true false true k v w = refl
both true false false k v w = refl
both false true h true v w = refl
both false true h false v w = refl
both false false h k v w = refl

module _ (l : Layout) where
  abbrev ask : Bool → Bool → List ℕ → Told
  ask i h v = if_accepted l (in_order i h (gives v))

  accepted_joined : (t u : Told) → joined (if_accepted l t) (if_accepted l u) ≡ if_accepted l (joined t u)
  unfolding if_accepted joined pick
  accepted_joined t u =
      go (well_formed l.base.0 l.pitch l.size) (window_rule l.base.0 l.tiled l.size (step_of l) l.height)
    where
      go :
          (f w : Bool) →
          joined (pick f (pick w t (refuses 6)) (refuses 3)) (pick f (pick w u (refuses 6)) (refuses 3)) ≡
          pick f (pick w (joined t u) (refuses 6)) (refuses 3)
      go true true = refl
      go true false = refl
      go false w = refl

  ask_joined : (i j h k : Bool) (v w : List ℕ) → joined (ask i h v) (ask j k w) ≡ ask (i and j) (h and k) (v ++ w)
  ask_joined i j h k v w = accepted_joined _ _ ∙ ap (if_accepted l) (both i j h k v w)

  module _ (x y first : ℕ) (m : List ℕ) where
    abbrev at : ℕ → ℕ → Told
    at x' y' = read_of l x' y' first m

    four_joined :
        four_at_of l x y first m ≡ joined (at (x + 1) y) (joined (at x (y + 1)) (joined (at (x + 1) (y + 1)) (at x y)))
    unfolding four_at_of four_of four_inside four_held four_bytes in_order read_of
    four_joined =
        sym
        (ap (joined (at (x + 1) y))
        (ap (joined (at x (y + 1))) (ask_joined _ _ _ _ _ _) ∙ ask_joined _ _ _ _ _ _) ∙
        ask_joined _ _ _ _ _ _)

-- where base and word are fit, channels 0 to 3 are the reads of (x+1, y), (x, y+1), (x+1, y+1) and (x, y)
pub four_reads :
    (base format height x y first : ℕ) (m : List ℕ) → superfine_word base format ≡ true →
    superfine_read_of base format height x y first m ≡
    joined (read_of (format_layout base format height) (x + 1) y first m)
    (joined (read_of (format_layout base format height) x (y + 1) first m)
    (joined (read_of (format_layout base format height) (x + 1) (y + 1) first m) (read_of (format_layout base format height) x y first m)))
unfolding superfine_read_of
four_reads base format height x y first m word =
    pick_yes _ _ word ∙ four_joined (format_layout base format height) x y first m
