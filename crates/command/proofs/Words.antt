-- Laws of parameter words: the check of a word case by case, and the kind of a parameter by its place in the table, four to
-- a line. Assumes nothing.
use mathlib.Core.Path.{◌≡◌, refl, sym, ap, ◌∙◌}
use mathlib.Core.Bool.{Bool, true, false}
use mathlib.Core.List.{List, [], ◌∷◌}
use Prim.Native.Nat.{ℕ, ◌+◌, ◌*◌, ◌/◌, ◌%◌, ◌<◌}
use native.Mathlib.Omega.{arith}
use lib.Dec.{leb}
use denote.Enum.Declared.{tag_of}
use types.Run.{OneOf, miss}
use Rattle.laws.specs.Below.{every}
use Rattle.laws.specs.Choice.{◌and◌, pick, place_of}
use Rattle.laws.proofs.Choice.{pick_yes, pick_no}
use Rattle.laws.proofs.Table.{NoneOf, named_or, otherwise}
use Rattle.refusal.specs.Told.{gives, refuses}
use Rattle.command.specs.contracts.kinds.Kind.{the_type}
use Rattle.command.specs.Format.{superfine_of, code_of, channels_of}
use Rattle.command.specs.Kinds.{superfine_allowed, allowed, fault_of, check_of, kind_of}
use Rattle.command.specs.declared.kinds.Kind.{Kind}
use Rattle.command.specs.declared.kinds.Kind.TheVariants.{
  Reserved,
  InputNumber,
  OutputNumber,
  Base,
  Format,
  InputFormat,
  Height,
  Coordinate,
  MaskBits,
  ConditionalMaskBit,
  TestBits,
}

-- the superfine rule from the fields as the code reads them
pub superfine_asked :
    (w code channels : ℕ) → superfine_of w ≡ true → code ≡ code_of w → channels ≡ channels_of code →
    leb channels 1 ≡ superfine_allowed w
unfolding superfine_allowed
superfine_asked w code channels s c e =
    ap (λ (n : ℕ). leb n 1) (e ∙ ap channels_of c) ∙ sym (pick_yes (leb (channels_of (code_of w)) 1) true s)

pub superfine_free : (w : ℕ) → superfine_of w ≡ false → true ≡ superfine_allowed w
unfolding superfine_allowed
superfine_free w s = sym (pick_no (leb (channels_of (code_of w)) 1) true s)

-- the kinds whose fault is 3, as a `match` that names the two others leaves them
pub fault_other : (k : Kind) → OneOf (0 ∷ 3 ∷ 4 ∷ 5 ∷ 6 ∷ 7 ∷ 8 ∷ 9 ∷ 10 ∷ []) (tag_of the_type k) → fault_of k ≡ 3
unfolding fault_of
fault_other Reserved e = refl
fault_other InputNumber e = absurd (miss (0 ∷ 3 ∷ 4 ∷ 5 ∷ 6 ∷ 7 ∷ 8 ∷ 9 ∷ 10 ∷ []) 1 tt e)
fault_other OutputNumber e = absurd (miss (0 ∷ 3 ∷ 4 ∷ 5 ∷ 6 ∷ 7 ∷ 8 ∷ 9 ∷ 10 ∷ []) 2 tt e)
fault_other Base e = refl
fault_other Format e = refl
fault_other InputFormat e = refl
fault_other Height e = refl
fault_other Coordinate e = refl
fault_other MaskBits e = refl
fault_other ConditionalMaskBit e = refl
fault_other TestBits e = refl

given_chosen : (t : Bool) (n : ℕ) → pick t (gives []) (refuses n) ≡ gives [] → t ≡ true
unfolding pick
given_chosen true n e = refl
given_chosen false n e = let z : ◌≡◌ {A = ℕ} 0 1 = cc in absurd (omega arith)

refused_chosen : (t : Bool) (m n : ℕ) → pick t (gives []) (refuses m) ≡ refuses n → n ≡ m
unfolding pick
refused_chosen true m n e = cc
refused_chosen false m n e = cc

module _ (k : Kind) (w : ℕ) where
  pub check_fine : allowed k w ≡ true → check_of k w ≡ gives []
  unfolding check_of
  check_fine e = pick_yes _ _ e

  pub check_refused : (n : ℕ) → allowed k w ≡ false → n ≡ fault_of k → check_of k w ≡ refuses n
  unfolding check_of
  check_refused n e f = pick_no _ _ e ∙ ap refuses (sym f)

  -- the other way: what passed is allowed, and a refusal is the kind's
  pub fine_allowed : check_of k w ≡ gives [] → allowed k w ≡ true
  unfolding check_of
  fine_allowed e = given_chosen (allowed k w) (fault_of k) e

  pub refused_by_kind : (n : ℕ) → check_of k w ≡ refuses n → n ≡ fault_of k
  unfolding check_of
  refused_by_kind n e = refused_chosen (allowed k w) (fault_of k) n e

-- the kind at a place of the table, four places to a line
unfoldable pub kind_at : ℕ → Kind
kind_at n = kind_of (n / 4) (n % 4)

pub kind_at_place : (l k n : ℕ) → k < 4 → l * 4 + k ≡ n → kind_of l k ≡ kind_at n
unfolding kind_at
kind_at_place l k n h e =
    let q : l ≡ n / 4 = omega arith in
    let r : k ≡ n % 4 = omega arith in
    cc

pub allowed_at_place : (l k n w : ℕ) → k < 4 → l * 4 + k ≡ n → allowed (kind_at n) w ≡ allowed (kind_of l k) w
allowed_at_place l k n w h e = ap (λ (x : Kind). allowed x w) (sym (kind_at_place l k n h e))

is_reserved : Kind → Bool
is_reserved Reserved = true
is_reserved InputNumber = false
is_reserved OutputNumber = false
is_reserved Base = false
is_reserved Format = false
is_reserved InputFormat = false
is_reserved Height = false
is_reserved Coordinate = false
is_reserved MaskBits = false
is_reserved ConditionalMaskBit = false
is_reserved TestBits = false

reserved_only : (k : Kind) → is_reserved k ≡ true → k ≡ Reserved
unfolding is_reserved
reserved_only Reserved e = refl
reserved_only InputNumber e = cc
reserved_only OutputNumber e = cc
reserved_only Base e = cc
reserved_only Format e = cc
reserved_only InputFormat e = cc
reserved_only Height e = cc
reserved_only Coordinate e = cc
reserved_only MaskBits e = cc
reserved_only ConditionalMaskBit e = cc
reserved_only TestBits e = cc

-- the places whose kind isn't reserved
abbrev pub named : List ℕ
named = 0 ∷ 1 ∷ 2 ∷ 3 ∷ 12 ∷ 13 ∷ 16 ∷ 17 ∷ 18 ∷ 19 ∷ 20 ∷ 21 ∷ 22 ∷ 23 ∷ 24 ∷ 25 ∷ 26 ∷ 28 ∷ 29 ∷ 32 ∷ 33 ∷ 36 ∷ 37 ∷ 72 ∷ 76 ∷ 80 ∷ []

reserved_at : ℕ → Bool
reserved_at n = is_reserved (kind_at n)

pub reserved_elsewhere : (n : ℕ) → n < 84 → NoneOf Unit named n → kind_at n ≡ Reserved
unfolding reserved_at is_reserved kind_at kind_of every named_or place_of pick ◌and◌
reserved_elsewhere n h r = reserved_only (kind_at n) (otherwise reserved_at named 84 refl n h r)
