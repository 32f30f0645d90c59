-- A write byte by byte: the element's bytes are those given, every other byte of memory is as before. Assumes nothing.
use mathlib.Core.Path.{◌≡◌, sym, ap, ◌∙◌, subst}
use mathlib.Core.List.{List, []}
use Prim.Native.Nat.{ℕ, ◌+◌, ◌-◌, ◌<◌, ◌≤◌}
use native.Mathlib.Nat.{add-zero}
use native.Mathlib.Omega.{arith}
use lib.Dec.{leb, ltb}
use lib.ListN.{length, get_or, take, drop}
use lib.Seq.{get_or-take, get_or-drop}
use borrow.Author.Tests.{leb-true, leb-false, ltb-true, ltb-false}
use Rattle.laws.proofs.Choice.{Tested, tested, holds, fails}
use Rattle.refusal.specs.Told.{Told, gives}
use Rattle.layout.specs.declared.Layout.{Layout}
use Rattle.address.specs.Address.{address_of}
use Rattle.address.specs.Inverse.{Owns}
use Rattle.memory.specs.Bytes.{byte_at, Touched}
use Rattle.memory.specs.Elements.{overwritten, memory_after, Wrote}
use Rattle.memory.proofs.ReadBack.{Done, done}
use Rattle.memory.proofs.Overwritten.{length_overwritten, part_overwritten, before_overwritten, after_overwritten}

-- an entry of a part is that of the list
entry : (m : List ℕ) (a n k : ℕ) → k < n → get_or (take n (drop a m)) k 0 ≡ get_or m (a + k) 0
entry m a n k h = get_or-take n (drop a m) k 0 h ∙ get_or-drop a m k 0

one : (m : List ℕ) (k : ℕ) → get_or (take 1 (drop k m)) 0 0 ≡ get_or m k 0
one m k = entry m k 1 0 (omega arith) ∙ ap (λ (n : ℕ). get_or m n 0) (add-zero k)

same_entry : (m n : List ℕ) (k : ℕ) → take 1 (drop k m) ≡ take 1 (drop k n) → get_or m k 0 ≡ get_or n k 0
same_entry m n k e = sym (one m k) ∙ ap (λ (l : List ℕ). get_or l 0 0) e ∙ one n k

module _ (l : Layout) (x y first : ℕ) (given before : List ℕ) (d : Done l x y first given before) where
  abbrev at : ℕ
  at = address_of l x y - first

  fits : at + length given ≤ length before
  fits = omega (arith, d.size, d.held.low, d.held.whole)

  own : (place : ℕ) → place < l.size → byte_at first (overwritten at given before) (address_of l x y + place) ≡ get_or given place 0
  own place h =
      ap (λ (n : ℕ). get_or (overwritten at given before) n 0) {x = address_of l x y + place - first} {y = at + place} (omega (arith, d.held.low)) ∙
      sym (entry (overwritten at given before) at (length given) place (omega (arith, d.size))) ∙
      ap (λ (m : List ℕ). get_or m place 0) (part_overwritten at given before fits)

  outside :
      (a : ℕ) → first ≤ a → ((place : ℕ) → Owns l a x y place → ⊥) →
      byte_at first (overwritten at given before) a ≡ byte_at first before a
  outside a low free = same_entry (overwritten at given before) before (a - first)
      (go (tested (ltb a (address_of l x y))) (tested (leb (address_of l x y + l.size) a)))
    where
      go :
          Tested (ltb a (address_of l x y)) → Tested (leb (address_of l x y + l.size) a) →
          take 1 (drop (a - first) (overwritten at given before)) ≡ take 1 (drop (a - first) before)
      go (holds e) f =
          let k : a < address_of l x y = ltb-true a (address_of l x y) e in
          before_overwritten at given before fits (a - first) 1 (omega arith)
      go (fails e) (holds f) =
          let k : address_of l x y + l.size ≤ a = leb-true (address_of l x y + l.size) a f in
          after_overwritten at given before fits (a - first) 1 (omega (arith, d.size, d.held.low))
      go (fails e) (fails f) =
          let j : address_of l x y ≤ a = ltb-false a (address_of l x y) e in
          let k : a < address_of l x y + l.size = leb-false (address_of l x y + l.size) a f in
          absurd (free (a - address_of l x y) (record { pair = d.pair; below = omega arith; byte = omega arith }))

-- after a write that was done
pub touched :
    (l : Layout) (x y first : ℕ) (given before now : List ℕ) → Wrote l x y first given (gives []) before now →
    Touched l x y first given before now
unfolding memory_after
touched l x y first given before now w =
    let d = done l x y first given before (sym w.answer) in
    let e : now ≡ overwritten (address_of l x y - first) given before =
    w.memory ∙ ap (λ (t : Told). memory_after t l x y first given before) (sym w.answer) in
    subst (Touched l x y first given before) (sym e)
    (record {
      same_length = length_overwritten (address_of l x y - first) given before (fits l x y first given before d);
      own = own l x y first given before d;
      outside = outside l x y first given before d;
    })
