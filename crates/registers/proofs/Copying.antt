-- Floats are made of the patterns of numbers alone, and a NaN's float is the one NaN: so patterns may be compared as floats and copied as they
-- are, channel by channel. Assumes nothing.
use mathlib.Core.Path.{◌≡◌, refl, sym, ap, ◌∙◌, subst}
use mathlib.Core.Bool.{Bool, true, false, not}
use mathlib.Core.List.{List}
use Prim.Native.Nat.{ℕ, ◌%◌, ◌<◌}
use native.Mathlib.Omega.{arith}
use lib.Dec.{T}
use lib.Ieee.{Float, nan, inf, fin, binary32, is_nan, of_bits, nan_bits, div}
use lib.Ieee.Bits.{nan_bits_is, nan_bits_above}
use lib.ListN.{get_or}
use borrow.Author.Tests.{leb-true, leb-false, le-ltb, lt-ltb}
use Rattle.laws.proofs.Table.{each, ◌&◌}
use Rattle.registers.specs.Registers.{channel_count, float, maximum_of, choice_of, each_of2, each_of3}
use Rattle.registers.specs.Pattern.{is_number}

-- a number's pattern has a float
pub number_defined : (n : ℕ) → is_number n ≡ true → T (not (nan_bits binary32 n))
number_defined n e =
    subst (λ (b : Bool). T (not b))
    (sym (nan_bits_above binary32 n ∙ le-ltb 0x7F800000 (n % 0x80000000) (leb-true (n % 0x80000000) 0x7F800000 e))) tt

-- a NaN's pattern is the logic's one NaN, which 0/0 is too
is_nan_lem : (x : Float) → is_nan x ≡ true → x ≡ nan
unfolding is_nan
is_nan_lem nan e = refl
is_nan_lem (inf s) e = absurd (let z : ◌≡◌ {A = ℕ} 0 1 = cc in omega arith)
is_nan_lem (fin s m k) e = absurd (let z : ◌≡◌ {A = ℕ} 0 1 = cc in omega arith)

pub no_number : (n : ℕ) → is_number n ≡ false → div binary32 (float 0) (float 0) ≡ float n
no_number n e =
    zero_by_zero ∙
    sym
    (is_nan_lem (float n)
    (sym (nan_bits_is binary32 n) ∙ nan_bits_above binary32 n ∙ lt-ltb 0x7F800000 (n % 0x80000000) (leb-false (n % 0x80000000) 0x7F800000 e)))
  where
    zero_by_zero : div binary32 (float 0) (float 0) ≡ nan
    zero_by_zero = unfold div of_bits in refl

-- each channel of a room that has the maximum, or the choice
pub maximum_channel : (a b room : List ℕ) → room ≡ each_of2 maximum_of a b → (c : ℕ) → c < channel_count → get_or room c 0 ≡ maximum_of (get_or a c 0) (get_or b c 0)
maximum_channel a b room e c h =
    ap (λ (l : List ℕ). get_or l c 0) e ∙
    each (λ c. get_or (each_of2 maximum_of a b) c 0 ≡ maximum_of (get_or a c 0) (get_or b c 0)) 4 (tt & refl & refl & refl & refl) c h

pub choice_channel :
    (a b third room : List ℕ) → room ≡ each_of3 choice_of a b third → (c : ℕ) → c < channel_count →
    get_or room c 0 ≡ choice_of (get_or a c 0) (get_or b c 0) (get_or third c 0)
choice_channel a b third room e c h =
    ap (λ (l : List ℕ). get_or l c 0) e ∙
    each (λ c. get_or (each_of3 choice_of a b third) c 0 ≡ choice_of (get_or a c 0) (get_or b c 0) (get_or third c 0)) 4 (tt & refl & refl & refl & refl) c h
