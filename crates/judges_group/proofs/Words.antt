-- The tests on words of masks, place by place; and tests joined. Assumes nothing.
use mathlib.Core.Path.{◌≡◌, refl, sym, ap, ap₂, ◌∙◌}
use mathlib.Core.Bool.{Bool, true, false, not, ◌&&◌}
use Prim.Native.Nat.{ℕ, ◌-◌, ◌/◌, ◌%◌, ◌^◌, ◌<◌}
use native.Mathlib.Omega.{arith}
use lib.Dec.{eqb}
use lib.Bits.{bit_and, bit_or}
use Rattle.laws.specs.Choice.{◌and◌, pick}
use Rattle.laws.specs.Below.{some}
use Rattle.laws.specs.Masks.{◌or◌, on, pack, Places}
use Rattle.laws.proofs.Below.{some_same}
use Rattle.laws.proofs.Masks.{pack_on, and_places, or_places, not_places, on_zero, on_suc, none_zero}
use Rattle.judges_group.specs.Judged.{strays, in_aRow, too_high, Words}

own : (a : ℕ) → a < 2 ^ 32 → Places 32 (λ i. on i a) a
own a h = record { word = pack_on 32 a h }

-- a word is 0 where no place has its bit
none_in : {f : ℕ → Bool} {a : ℕ} → Places 32 f a → eqb a 0 ≡ not (some 32 f)
none_in {f} p = ap (λ (n : ℕ). eqb n 0) p.word ∙ none_zero 32 f

pub stray_word :
    (live active p0 p1 p2 p3 p4 killed : ℕ) → Words live active p0 p1 p2 p3 p4 killed →
    eqb
    (bit_or (bit_or (bit_and active (4294967295 - live)) (bit_and killed live))
    (bit_and (bit_or (bit_or (bit_or (bit_or p0 p1) p2) p3) p4) (4294967295 - bit_and live (4294967295 - active))))
    0 ≡
    not (some 32 (strays live active p0 p1 p2 p3 p4 killed))
unfolding strays
stray_word live active p0 p1 p2 p3 p4 killed w =
    let l = own live w.live_fits in
    let a = own active w.active_fits in
    let planes =
    or_places (or_places (or_places (or_places (own p0 w.fits0) (own p1 w.fits1)) (own p2 w.fits2)) (own p3 w.fits3))
    (own p4 w.fits4) in
    none_in
    (or_places (or_places (and_places a (not_places l)) (and_places (own killed w.killed_fits) l))
    (and_places planes (not_places (and_places l (not_places a)))))

pub starting_word : (a b : ℕ) → a < 2 ^ 32 → b < 2 ^ 32 → bit_or a b ≡ pack 32 (λ i. on i a or on i b)
starting_word a b ha hb = (or_places (own a ha) (own b hb)).word

pub high_word :
    (p1 p2 p3 p4 : ℕ) → p1 < 2 ^ 32 → p2 < 2 ^ 32 → p3 < 2 ^ 32 → p4 < 2 ^ 32 →
    eqb (bit_or (bit_or p3 p4) (bit_and p1 p2)) 0 ≡ not (some 32 (too_high p1 p2 p3 p4))
unfolding too_high
high_word p1 p2 p3 p4 h1 h2 h3 h4 = none_in (or_places (or_places (own p3 h3) (own p4 h4)) (and_places (own p1 h1) (own p2 h2)))

-- half a word has each bit one place lower
pub row_word :
    (all : ℕ) {r : Bool} → all < 2 ^ 32 → r ≡ (eqb (all % 2) 1 and eqb (bit_and (all / 2) (4294967295 - all)) 0) → r ≡ in_aRow all
unfolding in_aRow
row_word all h e =
    e ∙
    ap₂ ◌and◌ (sym (on_zero all))
    (none_in (and_places (own (all / 2) (half all h)) (not_places (own all h))) ∙
    ap not (some_same 32 _ _ (λ i k. ap (λ (b : Bool). b and not (on i all)) (sym (on_suc i all)))))
  where
    half : (n : ℕ) → n < 2 ^ 32 → n / 2 < 2 ^ 32
    half n h = omega arith

-- the code's `&` on tests
pub both_tests : (a b : Bool) → (a && b) ≡ (a and b)
unfolding ◌and◌
both_tests true b = refl
both_tests false b = refl

-- a test alone
pub one_test : (a : Bool) → a ≡ (a and true)
unfolding ◌and◌
one_test true = refl
one_test false = refl

-- tests joined
pub joined : {r a b a' b' : Bool} → r ≡ (a and b) → a ≡ a' → b ≡ b' → r ≡ (a' and b')
joined e f g = e ∙ ap₂ ◌and◌ f g

-- a stack from a cell on
pub stacked_on : {r none rest none' rest' : Bool} (c : ℕ) (good : Bool) → r ≡ pick (eqb c 0) none (good and rest) → none ≡ none' → rest ≡ rest' →
    r ≡ pick (eqb c 0) none' (good and rest')
stacked_on c good e f g = e ∙ ap₂ (λ (n : Bool) (m : Bool). pick (eqb c 0) n (good and m)) f g
