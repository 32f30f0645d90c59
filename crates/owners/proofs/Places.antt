-- Laws of who may send what, by the lines and the places of the table. Assumes nothing.
use mathlib.Core.Path.{◌≡◌, refl, sym, ap, ◌∙◌}
use mathlib.Core.Bool.{Bool, true, false, not}
use mathlib.Core.List.{[], ◌∷◌}
use Prim.Native.Nat.{ℕ, ◌+◌, ◌*◌, ◌/◌, ◌%◌, ◌<◌}
use native.Mathlib.Omega.{arith}
use lib.Dec.{leb}
use borrow.Author.Tests.{leb-true}
use Rattle.laws.specs.Below.{every}
use Rattle.laws.specs.Choice.{◌and◌, pick, place_of}
use Rattle.laws.specs.Masks.{on}
use Rattle.laws.proofs.Choice.{pick_no, Tested, tested, holds, fails}
use Rattle.laws.proofs.Table.{NoneOf, named_or, otherwise, each, ◌&◌}
use Rattle.command.specs.Kinds.{allowed, fault_of, kind_of}
use Rattle.command.specs.declared.kinds.Kind.{Kind}
use Rattle.command.specs.declared.kinds.Kind.TheVariants as kind
use Rattle.command.proofs.Words.{kind_at, kind_at_place}
use Rattle.owners.specs.Owners.{sets_common, may_open, may_name, fault_at, blend, mask_by}

-- a kind that isn't a number's
is_plain : Kind → Bool
is_plain kind.Reserved = true
is_plain kind.InputNumber = false
is_plain kind.OutputNumber = false
is_plain kind.Base = true
is_plain kind.Format = true
is_plain kind.InputFormat = true
is_plain kind.Height = true
is_plain kind.Coordinate = true
is_plain kind.MaskBits = true
is_plain kind.ConditionalMaskBit = true
is_plain kind.TestBits = true

apart : {A : Type 0} → false ≡ true → A
apart e = absurd (let z : ◌≡◌ {A = ℕ} 0 1 = cc in omega arith)

plain_named : (mine : ℕ) (k : Kind) (w : ℕ) → is_plain k ≡ true → may_name mine k w ≡ true
unfolding is_plain may_name
plain_named mine kind.Reserved w e = refl
plain_named mine kind.InputNumber w e = apart e
plain_named mine kind.OutputNumber w e = apart e
plain_named mine kind.Base w e = refl
plain_named mine kind.Format w e = refl
plain_named mine kind.InputFormat w e = refl
plain_named mine kind.Height w e = refl
plain_named mine kind.Coordinate w e = refl
plain_named mine kind.MaskBits w e = refl
plain_named mine kind.ConditionalMaskBit w e = refl
plain_named mine kind.TestBits w e = refl

plain_fault : (k : Kind) → is_plain k ≡ true → fault_of k ≡ 3
unfolding is_plain fault_of
plain_fault kind.Reserved e = refl
plain_fault kind.InputNumber e = apart e
plain_fault kind.OutputNumber e = apart e
plain_fault kind.Base e = refl
plain_fault kind.Format e = refl
plain_fault kind.InputFormat e = refl
plain_fault kind.Height e = refl
plain_fault kind.Coordinate e = refl
plain_fault kind.MaskBits e = refl
plain_fault kind.ConditionalMaskBit e = refl
plain_fault kind.TestBits e = refl

is_plain_at : ℕ → Bool
is_plain_at n = is_plain (kind_at n)

plain_elsewhere : (n : ℕ) → n < 84 → NoneOf Unit (16 ∷ 20 ∷ []) n → is_plain_at n ≡ true
unfolding is_plain_at is_plain kind_at kind_of every named_or place_of pick ◌and◌
plain_elsewhere n h r = otherwise is_plain_at (16 ∷ 20 ∷ []) 84 refl n h r

-- parameter `k` of line `l`
module _ (l k w : ℕ) (line : l < 21) (h : k < 4) where
  here : kind_of l k ≡ kind_at (l * 4 + k)
  here = kind_at_place l k (l * 4 + k) h refl

  pub input_here : l * 4 + k ≡ 16 → kind_of l k ≡ kind.InputNumber
  unfolding kind_at kind_of
  input_here e = here ∙ ap kind_at e

  pub output_here : l * 4 + k ≡ 20 → kind_of l k ≡ kind.OutputNumber
  unfolding kind_at kind_of
  output_here e = here ∙ ap kind_at e

  plain_here : NoneOf Unit (16 ∷ 20 ∷ []) (l * 4 + k) → is_plain (kind_of l k) ≡ true
  unfolding is_plain_at
  plain_here r = ap is_plain here ∙ plain_elsewhere (l * 4 + k) (omega arith) r

  -- what `may_name` answers
  module _ (mine : ℕ) where
    pub input_named : l * 4 + k ≡ 16 → on w mine ≡ may_name mine (kind_of l k) w
    unfolding may_name
    input_named e = ap (λ (x : Kind). may_name mine x w) (sym (input_here e))

    pub output_named : l * 4 + k ≡ 20 → on (16 + w) mine ≡ may_name mine (kind_of l k) w
    unfolding may_name
    output_named e = ap (λ (x : Kind). may_name mine x w) (sym (output_here e))

    pub others_named : NoneOf Unit (16 ∷ 20 ∷ []) (l * 4 + k) → true ≡ may_name mine (kind_of l k) w
    others_named r = sym (plain_named mine (kind_of l k) w (plain_here r))

  -- the bounds of a number that its kind allows
  pub input_bound : l * 4 + k ≡ 16 → allowed (kind_of l k) w ≡ true → w < 16
  unfolding allowed
  input_bound e a = omega (arith, leb-true w 15 (ap (λ (x : Kind). allowed x w) (sym (input_here e)) ∙ a))

  pub output_bound : l * 4 + k ≡ 20 → allowed (kind_of l k) w ≡ true → w < 4
  unfolding allowed
  output_bound e a = omega (arith, leb-true w 3 (ap (λ (x : Kind). allowed x w) (sym (output_here e)) ∙ a))

  -- what `fault_at` answers
  pub input_fault : l * 4 + k ≡ 16 → pick (leb w 15) 20 4 ≡ fault_at (kind_of l k) w
  unfolding fault_at allowed fault_of
  input_fault e = ap (λ (x : Kind). fault_at x w) (sym (input_here e))

  pub output_fault : l * 4 + k ≡ 20 → pick (leb w 3) 20 4 ≡ fault_at (kind_of l k) w
  unfolding fault_at allowed fault_of
  output_fault e = ap (λ (x : Kind). fault_at x w) (sym (output_here e))

  pub other_fault : NoneOf Unit (16 ∷ 20 ∷ []) (l * 4 + k) → (mine : ℕ) →
      (allowed (kind_of l k) w and may_name mine (kind_of l k) w) ≡ false → 3 ≡ fault_at (kind_of l k) w
  unfolding fault_at
  other_fault r mine e = go (tested (allowed (kind_of l k) w))
    where
      go : Tested (allowed (kind_of l k) w) → 3 ≡ pick (allowed (kind_of l k) w) 20 (fault_of (kind_of l k))
      go (holds a) = apart (sym e ∙ both a (plain_named mine (kind_of l k) w (plain_here r)))
        where
          both : {p q : Bool} → p ≡ true → q ≡ true → (p and q) ≡ true
          both a b = unfold ◌and◌ in rw (a, b) refl
      go (fails a) = sym (pick_no _ _ a ∙ plain_fault (kind_of l k) (plain_here r))

-- the lines that set what is party 0's, as bits
common_bits : (line : ℕ) → line < 21 → on line 0x1803C0 ≡ sets_common line
unfolding on sets_common place_of pick
common_bits line h =
    each (λ n. on n 0x1803C0 ≡ sets_common n) 21
    (tt & refl & refl & refl & refl & refl & refl & refl & refl & refl & refl & refl & refl & refl & refl & refl & refl & refl & refl & refl & refl & refl)
    line h

module _ (mine line : ℕ) where
  pub common_owned : {t : Bool} → t ≡ on 20 mine → t ≡ true → true ≡ may_open mine line
  unfolding may_open pick
  common_owned {t} e y = go (sets_common line)
    where
      go : (s : Bool) → true ≡ pick s (on 20 mine) true
      go true = sym y ∙ e
      go false = refl

  pub common_asked : {t u : Bool} → line < 21 → t ≡ on 20 mine → t ≡ false → u ≡ on line 0x1803C0 → not u ≡ may_open mine line
  unfolding may_open pick
  common_asked {t} {u} h e n f = ap not (f ∙ common_bits line h) ∙ go (sets_common line)
    where
      go : (s : Bool) → not s ≡ pick s (on 20 mine) true
      go true = sym n ∙ e
      go false = refl

-- the four outputs' bits one after the other
pub blended_told : (mine new old : ℕ) {o0 o1 o2 o3 : Bool} {a b c d : ℕ} → o0 ≡ on 16 mine → o1 ≡ on 17 mine → o2 ≡ on 18 mine → o3 ≡ on 19 mine →
    a ≡ pick o0 (new % 16) (old % 16) → b ≡ pick o1 (new / 16 % 16) (old / 16 % 16) → c ≡ pick o2 (new / 256 % 16) (old / 256 % 16) →
    d ≡ pick o3 (new / 4096 % 16) (old / 4096 % 16) → a + 16 * b + 256 * c + 4096 * d ≡ mask_by mine new old
unfolding blend
blended_told mine new old {a = a} {b = b} {c = c} {d = d} e0 e1 e2 e3 ea eb ec ed =
    let n2 : new / 256 ≡ new / 16 / 16 = omega arith in
    let n3 : new / 4096 ≡ new / 16 / 16 / 16 = omega arith in
    let m2 : old / 256 ≡ old / 16 / 16 = omega arith in
    let m3 : old / 4096 ≡ old / 16 / 16 / 16 = omega arith in
    let fa : a ≡ pick (on 16 mine) (new % 16) (old % 16) = ea ∙ (λ i. pick (e0 i) (new % 16) (old % 16)) in
    let fb : b ≡ pick (on 17 mine) (new / 16 % 16) (old / 16 % 16) = eb ∙ (λ i. pick (e1 i) (new / 16 % 16) (old / 16 % 16)) in
    let fc : c ≡ pick (on 18 mine) (new / 16 / 16 % 16) (old / 16 / 16 % 16) = ec ∙ (λ i. pick (e2 i) (n2 i % 16) (m2 i % 16)) in
    let fd : d ≡ pick (on 19 mine) (new / 16 / 16 / 16 % 16) (old / 16 / 16 / 16 % 16) = ed ∙ (λ i. pick (e3 i) (n3 i % 16) (m3 i % 16)) in
    sums a b c d ∙ (λ i. fa i + 16 * (fb i + 16 * (fc i + 16 * (fd i + 16 * 0))))
  where
    sums : (a b c d : ℕ) → a + 16 * b + 256 * c + 4096 * d ≡ a + 16 * (b + 16 * (c + 16 * (d + 16 * 0)))
    sums a b c d = omega arith
