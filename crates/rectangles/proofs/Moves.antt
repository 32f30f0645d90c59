-- Moves one after the other: their lengths, lists of moves side by side, and parts that are cut. Assumes nothing.
use mathlib.Core.Path.{◌≡◌, refl, sym, ap, ap₂, ◌∙◌, subst, subst₂}
use mathlib.Core.Bool.{Bool, true, false, false≢true}
use mathlib.Core.List.{List, [], ◌∷◌, ◌++◌, append_assoc}
use Prim.Native.Nat.{ℕ, zero, suc, ◌+◌, ◌-◌, ◌*◌, ◌<◌, ◌≤◌, ◌^◌}
use native.Mathlib.Nat.{add-mul, add-sub_cancel_left}
use native.Mathlib.Omega.{arith}
use lib.ListN.{length, take, drop, replicate, length-drop, length-append, length-replicate, take-append-drop}
use lib.Seq.{length-take-le, take-add, drop-drop, take_at, drop-append-add}
use Rattle.memory.specs.Elements.{overwritten}
use Rattle.memory.proofs.Overwritten.{length_overwritten, part_overwritten}
use Rattle.rectangles.specs.Moves.{Move, part_of, moved, turned, memory_of, room_of, PartAsked, PairsAsked, pairs_of, EightAsked, eight_of}

abbrev zeros : List ℕ
zeros = replicate 32 0

-- a part held apart is the part
pub held_part :
    (part held : List ℕ) (k n : ℕ) → held ≡ overwritten 0 part zeros → length part ≡ n → n ≤ 32 → k ≡ n → take k (drop 0 held) ≡ part
held_part part held k n e long few same =
    ap₂ (λ (i : ℕ) (l : List ℕ). take i (drop 0 l)) (same ∙ sym long) e ∙
    part_overwritten 0 part zeros (let z : length zeros ≡ 32 = refl in omega (arith, z, long, few))

pub part_length : (l : List ℕ) (a n : ℕ) → a + n ≤ length l → length (take n (drop a l)) ≡ n
part_length l a n fits = length-take-le n (drop a l) (omega (arith, length-drop a l))

-- the part of a list from `a` to `a + n`
pub part_to : (l : List ℕ) (a n : ℕ) → take (a + n - a) (drop a l) ≡ take n (drop a l)
part_to l a n = ap (λ (k : ℕ). take k (drop a l)) (add-sub_cancel_left a n)

pub part_long : (l : List ℕ) (a n : ℕ) → a + n ≤ length l → length (take (a + n - a) (drop a l)) ≡ n
part_long l a n fits = ap length (part_to l a n) ∙ part_length l a n fits

pub part_end : (l : List ℕ) (b a n : ℕ) → a + n ≤ length l → b + n ≡ b + length (take n (drop a l))
part_end l b a n fits = ap (λ (k : ℕ). b + k) (sym (part_length l a n fits))

-- moves in a row
pub moved_both :
    (vs ws : List Move) (source m : List ℕ) → moved (vs ++ ws) source m ≡ moved ws source (moved vs source m)
unfolding moved
moved_both [] ws source m = refl
moved_both (v ∷ vs) ws source m = moved_both vs ws source (overwritten v.to (part_of source v) m)

-- a move that fits
pub record MoveFits (v : Move) (source target : ℕ) : Type 0 where
  pub from_fits : v.from + v.bytes ≤ source
  pub to_fits : v.to + v.bytes ≤ target

pub length_one :
    (v : Move) (source m : List ℕ) → MoveFits v (length source) (length m) →
    length (overwritten v.to (part_of source v) m) ≡ length m
length_one v source m f =
    length_overwritten v.to (part_of source v) m
    (omega (arith, part_length source v.from v.bytes f.from_fits, f.to_fits))

pub turned_fits :
    (out : Bool) (place line n source target : ℕ) → place + n ≤ memory_of out source target → line + n ≤ room_of out source target →
    MoveFits (turned out place line n) source target
turned_fits true place line n source target p q = record { from_fits = p; to_fits = q }
turned_fits false place line n source target p q = record { from_fits = q; to_fits = p }

-- what a call of the part's mover asks for
pub out_asked :
    (out : Bool) (place line n source target : ℕ) → out ≡ true → PartAsked out place line n source target →
    (place + n ≤ source) × (line + n ≤ target) × (n ≤ 32)
out_asked true place line n source target e a = (a.place_fits, a.line_fits, a.few)
out_asked false place line n source target e a = absurd (false≢true e)

pub in_asked :
    (out : Bool) (place line n source target : ℕ) → out ≡ false → PartAsked out place line n source target →
    (line + n ≤ source) × (place + n ≤ target) × (n ≤ 32)
in_asked false place line n source target e a = (a.line_fits, a.place_fits, a.few)
in_asked true place line n source target e a = absurd (false≢true (sym e))

pub turned_out :
    (out : Bool) (place line n : ℕ) (source m m' : List ℕ) → out ≡ true → m' ≡ overwritten line (take n (drop place source)) m →
    m' ≡ moved (turned out place line n ∷ []) source m
unfolding moved
turned_out true place line n source m m' e same = same
turned_out false place line n source m m' e same = absurd (false≢true e)

pub turned_in :
    (out : Bool) (place line n : ℕ) (source m m' : List ℕ) → out ≡ false → m' ≡ overwritten place (take n (drop line source)) m →
    m' ≡ moved (turned out place line n ∷ []) source m
unfolding moved
turned_in false place line n source m m' e same = same
turned_in true place line n source m m' e same = absurd (false≢true (sym e))

-- two moves after two
pub four_moved :
    (a b c d : Move) (source m m1 m2 m3 m4 : List ℕ) → m1 ≡ moved (a ∷ []) source m → m2 ≡ moved (b ∷ []) source m1 →
    m3 ≡ moved (c ∷ []) source m2 → m4 ≡ moved (d ∷ []) source m3 → m4 ≡ moved (a ∷ b ∷ c ∷ d ∷ []) source m
unfolding moved
four_moved a b c d source m m1 m2 m3 m4 ea eb ec ed =
    ed ∙ ap (λ (l : List ℕ). moved (d ∷ []) source l) (ec ∙ ap (λ (l : List ℕ). moved (c ∷ []) source l) (eb ∙ ap (λ (l : List ℕ). moved (b ∷ []) source l) ea))

-- what is asked of a part, where the target has come back with its length
part_again :
    (out : Bool) (place line n source target target' : ℕ) → target' ≡ target → n ≤ 32 → place + n ≤ memory_of out source target →
    line + n ≤ room_of out source target → PartAsked out place line n source target'
part_again out place line n source target target' e few p q =
    subst (PartAsked out place line n source) (sym e) (record { few = few; place_fits = p; line_fits = q })

module _ (out : Bool) (n a b line source target target' : ℕ) (asked : PairsAsked out n a b line source target) (e : target' ≡ target) where
  pub second_asked : PartAsked out (a + 32) (line + n) n source target'
  second_asked =
      part_again out (a + 32) (line + n) n source target target' e asked.few asked.a_fits (omega (arith, asked.line_fits))

  pub third_asked : PartAsked out b (line + 2 * n) n source target'
  third_asked =
      part_again out b (line + 2 * n) n source target target' e asked.few (omega (arith, asked.b_fits)) (omega (arith, asked.line_fits))

  pub fourth_asked : PartAsked out (b + 32) (line + 3 * n) n source target'
  fourth_asked =
      part_again out (b + 32) (line + 3 * n) n source target target' e asked.few asked.b_fits (omega (arith, asked.line_fits))

module _ (out : Bool) (n a b c d line source target : ℕ) (asked : EightAsked out n a b c d line source target) (o : Bool) (k : ℕ) (eo : out ≡ o) (en : n ≡ k) where
  pub pairs_first : PairsAsked o k a b line source target
  pairs_first =
      subst₂ (λ (p : Bool) (q : ℕ). PairsAsked p q a b line source target) eo en
      (record {
        few = asked.few;
        memory_most = asked.memory_most;
        room_most = asked.room_most;
        a_fits = asked.a_fits;
        b_fits = asked.b_fits;
        line_fits = omega (arith, asked.line_fits);
      })

  pub pairs_last : (target' : ℕ) → target' ≡ target → PairsAsked o k c d (line + 4 * n) source target'
  pairs_last target' e =
      subst₂ (λ (p : Bool) (q : ℕ). PairsAsked p q c d (line + 4 * n) source target') eo en
      (subst (PairsAsked out n c d (line + 4 * n) source) (sym e)
      (record {
        few = asked.few;
        memory_most = asked.memory_most;
        room_most = asked.room_most;
        a_fits = asked.c_fits;
        b_fits = asked.d_fits;
        line_fits = omega (arith, asked.line_fits);
      }))

pub eight_moved :
    (out o : Bool) (n k a b c d line : ℕ) (source m m1 m2 : List ℕ) → out ≡ o → n ≡ k → m1 ≡ moved (pairs_of o k a b line) source m →
    m2 ≡ moved (pairs_of o k c d (line + 4 * n)) source m1 → m2 ≡ moved (eight_of out n a b c d line) source m
eight_moved out o n k a b c d line source m m1 m2 eo en e1 e2 =
    e2 ∙ ap (λ (l : List ℕ). moved (pairs_of o k c d (line + 4 * n)) source l) e1 ∙
    sym (moved_both (pairs_of o k a b line) (pairs_of o k c d (line + 4 * n)) source m) ∙
    ap₂ (λ (p : Bool) (q : ℕ). moved (pairs_of p q a b line ++ pairs_of p q c d (line + 4 * n)) source m) (sym eo) (sym en)
