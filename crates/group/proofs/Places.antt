-- What the functions on masks work out, processor by processor. A law of a processor is a test that is computed for an
-- active and an absent one and for every counter from 0 to 31. Assumes nothing.
use mathlib.Core.Path.{◌≡◌, refl, sym, ap, ap₂, ◌∙◌, fun_ext}
use mathlib.Core.Bool.{Bool, true, false, not}
use Prim.Native.Nat.{ℕ, zero, suc, ◌-◌, ◌*◌, ◌/◌, ◌%◌, ◌^◌, ◌<◌, ◌≤◌}
use native.Mathlib.Nat.{div-one}
use native.Mathlib.Omega.{arith}
use lib.Dec.{eqb, leb}
use lib.Bits.{bit_and, bit_or, bit_xor}
use borrow.Author.Tests.{leb-true, ne_eqb}
use Rattle.laws.proofs.Choice.{pick_yes, pick_no, and_left, and_right}
use Rattle.laws.specs.Choice.{◌and◌, pick}
use Rattle.laws.specs.Below.{some, every}
use Rattle.laws.specs.Masks.{◌or◌, differ, digit, on, pack, Places}
use Rattle.laws.proofs.Below.{every_none, some_same, every_at, none_at}
use Rattle.laws.proofs.Masks.{pack_same, and_places, or_places, xor_places, not_places, on_zero, on_suc, pack_on, on_pack, none_zero}
use Rattle.group.specs.declared.planes.Branched.{Branched}
use Rattle.group.specs.Proc.{Proc, Active, Idle, Absent, is_live, is_active, counter_bit, within, turned, wants, decided, lowered}
use Rattle.group.specs.Proc.{raised, at_limit, branched, counter_limit}
use Rattle.group.specs.Modes.{partial_limit}
use Rattle.group.specs.Group.{turned_if, wish_of}
use Rattle.group.specs.Cells.{active_mask, plane, counter_of}
use Rattle.group.specs.Masks.{MasksOf, shown_as, some_at_limit, some_at_partial}

-- two tests agree
abbrev same : Bool → Bool → Bool
same true b = b
same false true = false
same false false = true

same_true : (a b : Bool) → same a b ≡ true → a ≡ b
same_true true b e = sym e
same_true false true e = e
same_true false false e = refl

-- a test on processors holds of an active and an absent one and at each counter from 0 to 31
abbrev every_proc : (Proc → Bool) → Bool
every_proc t = t Active and (t Absent and every 32 (λ n. t (Idle n)))

by_proc : (t : Proc → Bool) → every_proc t ≡ true → (p : Proc) → within counter_limit p ≡ true → t p ≡ true
by_proc t e Active w = and_left (t Active) _ e
by_proc t e (Idle n) w =
    let low : n ≤ 31 = leb-true n 31 w in
    every_at 32 (λ m. t (Idle m)) (and_right (t Absent) _ (and_right (t Active) _ e)) n (omega arith)
by_proc t e Absent w = and_left (t Absent) _ (and_right (t Active) _ e)

-- so two tests that agree there agree on every processor
agree :
    (f g : Proc → Bool) → every_proc (λ q. same (f q) (g q)) ≡ true → (p : Proc) → within counter_limit p ≡ true → f p ≡ g p
agree f g e p w = same_true (f p) (g p) (by_proc (λ q. same (f q) (g q)) e p w)

-- the same with a number below 32 beside the processor
agree_count :
    (f g : ℕ → Proc → Bool) → every 32 (λ k. every_proc (λ q. same (f k q) (g k q))) ≡ true →
    (k : ℕ) → k < 32 → (p : Proc) → within counter_limit p ≡ true → f k p ≡ g k p
agree_count f g e k h = agree (f k) (g k) (every_at 32 (λ j. every_proc (λ q. same (f j q) (g j q))) e k h)

-- a test holds both ways of a choice
abbrev both : (Bool → Bool) → Bool
both t = t true and t false

both_at : (t : Bool → Bool) → both t ≡ true → (b : Bool) → t b ≡ true
both_at t e true = and_left (t true) (t false) e
both_at t e false = and_right (t true) (t false) e

-- the same with a wish and a decision beside the processor
agree_wish :
    (f g : Bool → Bool → Proc → Bool) →
    both (λ j. both (λ w. every_proc (λ q. same (f j w q) (g j w q)))) ≡ true →
    (jump wish : Bool) (p : Proc) → within counter_limit p ≡ true → f jump wish p ≡ g jump wish p
agree_wish f g e jump wish =
    agree (f jump wish) (g jump wish)
    (both_at (λ w. every_proc (λ q. same (f jump w q) (g jump w q)))
    (both_at (λ j. both (λ w. every_proc (λ q. same (f j w q) (g j w q)))) e jump) wish)

-- the processor is in the group and not active
abbrev is_idle : Proc → Bool
is_idle q = is_live q and not (is_active q)

-- B_ELSE
turned_active :
    (p : Proc) → within counter_limit p ≡ true →
    (is_idle p and not ((((counter_bit 0 p or counter_bit 1 p) or counter_bit 2 p) or counter_bit 3 p) or counter_bit 4 p)) ≡ is_active (turned p)
unfolding ◌and◌ ◌or◌ on every
turned_active =
    agree
    (λ q. is_idle q and not ((((counter_bit 0 q or counter_bit 1 q) or counter_bit 2 q) or counter_bit 3 q) or counter_bit 4 q))
    (λ q. is_active (turned q)) refl

-- decrement: what each plane borrows from the next
abbrev lent : Bool → Bool → Bool → Bool
lent p c b = differ b (differ p c and differ b c)

module _ (k : ℕ) (q : Proc) where
  abbrev lent0 : Bool
  lent0 = not (counter_bit 0 q) and on 0 k

  abbrev lent1 : Bool
  lent1 = lent (counter_bit 1 q) (on 1 k) lent0

  abbrev lent2 : Bool
  lent2 = lent (counter_bit 2 q) (on 2 k) lent1

  abbrev lent3 : Bool
  lent3 = lent (counter_bit 3 q) (on 3 k) lent2

  abbrev lent4 : Bool
  lent4 = lent (counter_bit 4 q) (on 4 k) lent3

abbrev kept : ℕ → Proc → Bool
kept k q = is_idle q and not (lent4 k q)

module _ (k : ℕ) (h : k < 32) where
  lowered_active : (p : Proc) → within counter_limit p ≡ true → (is_active p or (is_idle p and lent4 k p)) ≡ is_active (lowered k p)
  unfolding ◌and◌ ◌or◌ differ on every pick
  lowered_active = agree_count (λ k q. is_active q or (is_idle q and lent4 k q)) (λ k q. is_active (lowered k q)) refl k h

  lowered0 : (p : Proc) → within counter_limit p ≡ true → (differ (counter_bit 0 p) (on 0 k) and kept k p) ≡ counter_bit 0 (lowered k p)
  unfolding ◌and◌ ◌or◌ differ on every pick
  lowered0 = agree_count (λ k q. differ (counter_bit 0 q) (on 0 k) and kept k q) (λ k q. counter_bit 0 (lowered k q)) refl k h

  lowered1 :
      (p : Proc) → within counter_limit p ≡ true →
      (differ (differ (counter_bit 1 p) (on 1 k)) (lent0 k p) and kept k p) ≡ counter_bit 1 (lowered k p)
  unfolding ◌and◌ ◌or◌ differ on every pick
  lowered1 =
      agree_count (λ k q. differ (differ (counter_bit 1 q) (on 1 k)) (lent0 k q) and kept k q)
      (λ k q. counter_bit 1 (lowered k q)) refl k h

  lowered2 :
      (p : Proc) → within counter_limit p ≡ true →
      (differ (differ (counter_bit 2 p) (on 2 k)) (lent1 k p) and kept k p) ≡ counter_bit 2 (lowered k p)
  unfolding ◌and◌ ◌or◌ differ on every pick
  lowered2 =
      agree_count (λ k q. differ (differ (counter_bit 2 q) (on 2 k)) (lent1 k q) and kept k q)
      (λ k q. counter_bit 2 (lowered k q)) refl k h

  lowered3 :
      (p : Proc) → within counter_limit p ≡ true →
      (differ (differ (counter_bit 3 p) (on 3 k)) (lent2 k p) and kept k p) ≡ counter_bit 3 (lowered k p)
  unfolding ◌and◌ ◌or◌ differ on every pick
  lowered3 =
      agree_count (λ k q. differ (differ (counter_bit 3 q) (on 3 k)) (lent2 k q) and kept k q)
      (λ k q. counter_bit 3 (lowered k q)) refl k h

  lowered4 :
      (p : Proc) → within counter_limit p ≡ true →
      (differ (differ (counter_bit 4 p) (on 4 k)) (lent3 k p) and kept k p) ≡ counter_bit 4 (lowered k p)
  unfolding ◌and◌ ◌or◌ differ on every pick
  lowered4 =
      agree_count (λ k q. differ (differ (counter_bit 4 q) (on 4 k)) (lent3 k q) and kept k q)
      (λ k q. counter_bit 4 (lowered k q)) refl k h

-- increment: what each plane carries to the next
module _ (q : Proc) where
  abbrev carry0 : Bool
  carry0 = counter_bit 0 q and is_idle q

  abbrev carry1 : Bool
  carry1 = counter_bit 1 q and carry0

  abbrev carry2 : Bool
  carry2 = counter_bit 2 q and carry1

  abbrev carry3 : Bool
  carry3 = counter_bit 3 q and carry2

module _ (jump wish : Bool) where
  raised_active :
      (p : Proc) → within counter_limit p ≡ true →
      (is_active p and not (is_active p and differ wish jump)) ≡ is_active (raised jump wish p)
  unfolding ◌and◌ ◌or◌ differ on every pick
  raised_active =
      agree_wish (λ j w q. is_active q and not (is_active q and differ w j)) (λ j w q. is_active (raised j w q)) refl jump wish

  raised0 : (p : Proc) → within counter_limit p ≡ true → differ (counter_bit 0 p) (is_idle p) ≡ counter_bit 0 (raised jump wish p)
  unfolding ◌and◌ ◌or◌ differ on every pick
  raised0 = agree_wish (λ j w q. differ (counter_bit 0 q) (is_idle q)) (λ j w q. counter_bit 0 (raised j w q)) refl jump wish

  raised1 : (p : Proc) → within counter_limit p ≡ true → differ (counter_bit 1 p) (carry0 p) ≡ counter_bit 1 (raised jump wish p)
  unfolding ◌and◌ ◌or◌ differ on every pick
  raised1 = agree_wish (λ j w q. differ (counter_bit 1 q) (carry0 q)) (λ j w q. counter_bit 1 (raised j w q)) refl jump wish

  raised2 : (p : Proc) → within counter_limit p ≡ true → differ (counter_bit 2 p) (carry1 p) ≡ counter_bit 2 (raised jump wish p)
  unfolding ◌and◌ ◌or◌ differ on every pick
  raised2 = agree_wish (λ j w q. differ (counter_bit 2 q) (carry1 q)) (λ j w q. counter_bit 2 (raised j w q)) refl jump wish

  raised3 : (p : Proc) → within counter_limit p ≡ true → differ (counter_bit 3 p) (carry2 p) ≡ counter_bit 3 (raised jump wish p)
  unfolding ◌and◌ ◌or◌ differ on every pick
  raised3 = agree_wish (λ j w q. differ (counter_bit 3 q) (carry2 q)) (λ j w q. counter_bit 3 (raised j w q)) refl jump wish

  raised4 : (p : Proc) → within counter_limit p ≡ true → differ (counter_bit 4 p) (carry3 p) ≡ counter_bit 4 (raised jump wish p)
  unfolding ◌and◌ ◌or◌ differ on every pick
  raised4 = agree_wish (λ j w q. differ (counter_bit 4 q) (carry3 q)) (λ j w q. counter_bit 4 (raised j w q)) refl jump wish

-- one bit at every place
pub spread_word : (b : ℕ) → b < 2 → b * 4294967295 ≡ pack 32 (λ i. eqb b 1)
unfolding pack digit
spread_word zero h = refl
spread_word (suc zero) h = refl
spread_word (suc (suc n)) h = absurd (two n h)
  where
    two : (n : ℕ) → suc (suc n) < 2 → ⊥
    two n h = omega arith

-- a choice by a bit, as the code makes it of words
abbrev muxed : Bool → Bool → Bool → Bool
muxed a t f = differ f (differ f t and a)

abbrev mux_word : ℕ → ℕ → ℕ → ℕ
mux_word a t f = bit_xor f (bit_and (bit_xor f t) a)

mux :
    {a t f : ℕ} {p q r : ℕ → Bool} → Places 32 p a → Places 32 q t → Places 32 r f →
    Places 32 (λ i. muxed (p i) (q i) (r i)) (mux_word a t f)
mux x y z = xor_places z (and_places (xor_places z y) x)

mux_pick : (a t f : Bool) → muxed a t f ≡ pick a t f
unfolding ◌and◌ differ pick
mux_pick true true true = refl
mux_pick true true false = refl
mux_pick true false true = refl
mux_pick true false false = refl
mux_pick false true true = refl
mux_pick false true false = refl
mux_pick false false true = refl
mux_pick false false false = refl

-- JUMP_FUNC's bit: three choices by the two masks' bits
chosen :
    (a p t0 t1 t2 t3 : Bool) →
    muxed a (muxed p t3 t2) (muxed p t1 t0) ≡ pick a (pick p t3 t2) (pick p t1 t0)
chosen a p t0 t1 t2 t3 =
    mux_pick a (muxed p t3 t2) (muxed p t1 t0) ∙ ap₂ (pick a) (mux_pick p t3 t2) (mux_pick p t1 t0)

wanted :
    (func boolean : ℕ) → boolean < 2 → (a p : Bool) →
    pick a
    (pick p (eqb (func / 2 ^ boolean / 64 % 2) 1) (eqb (func / 2 ^ boolean / 16 % 2) 1))
    (pick p (eqb (func / 2 ^ boolean / 4 % 2) 1) (eqb (func / 2 ^ boolean % 2) 1)) ≡
    wants func a p (eqb boolean 1)
unfolding pick wants on digit
wanted func zero h true true = ap (λ (n : ℕ). eqb (n / 64 % 2) 1) (div-one func)
wanted func zero h true false = ap (λ (n : ℕ). eqb (n / 16 % 2) 1) (div-one func)
wanted func zero h false true = ap (λ (n : ℕ). eqb (n / 4 % 2) 1) (div-one func)
wanted func zero h false false = refl
wanted func (suc zero) h true true = sym (on_suc 6 func)
wanted func (suc zero) h true false = sym (on_suc 4 func)
wanted func (suc zero) h false true = sym (on_suc 2 func)
wanted func (suc zero) h false false = refl
wanted func (suc (suc n)) h a p = absurd (two n h)
  where
    two : (n : ℕ) → suc (suc n) < 2 → ⊥
    two n h = omega arith

-- a word is known by its own bits
own : (a : ℕ) → a < 2 ^ 32 → Places 32 (λ i. on i a) a
own a h = record { word = pack_on 32 a h }

module _ (func alu boolean predicate : ℕ) (low : boolean < 2) (ha : alu < 2 ^ 32) (hp : predicate < 2 ^ 32)
    {s0 s1 s2 s3 : ℕ}
    (e0 : s0 ≡ pack 32 (λ i. eqb (func / 2 ^ boolean % 2) 1)) (e1 : s1 ≡ pack 32 (λ i. eqb (func / 2 ^ boolean / 4 % 2) 1))
    (e2 : s2 ≡ pack 32 (λ i. eqb (func / 2 ^ boolean / 16 % 2) 1))
    (e3 : s3 ≡ pack 32 (λ i. eqb (func / 2 ^ boolean / 64 % 2) 1)) where
  pub wishes_word :
      mux_word alu (mux_word predicate s3 s2) (mux_word predicate s1 s0) ≡ pack 32 (wish_of func (eqb boolean 1) alu predicate)
  unfolding wish_of
  wishes_word =
      let p = own predicate hp in
      (mux (own alu ha) (mux p (record { word = e3 }) (record { word = e2 })) (mux p (record { word = e1 }) (record { word = e0 }))).word ∙
      pack_same 32 _ (λ i. wants func (on i alu) (on i predicate) (eqb boolean 1))
      (λ i h. chosen (on i alu) (on i predicate) _ _ _ _ ∙ wanted func boolean low (on i alu) (on i predicate))

-- the decision
not_not : (b : Bool) → not (not b) ≡ b
not_not true = refl
not_not false = refl

unwilling : (a w : Bool) → not (not a or w) ≡ (a and not w)
unfolding ◌and◌ ◌or◌
unwilling true w = refl
unwilling false w = refl

module _ (active wish : ℕ) (ha : active < 2 ^ 32) (hw : wish < 2 ^ 32) where
  pub some_word : {any : Bool} → any ≡ true → not (eqb (bit_and active wish) 0) ≡ decided any (λ i. on i active) (λ i. on i wish)
  unfolding decided
  some_word {any} e =
      ap (λ (n : ℕ). not (eqb n 0)) (and_places (own active ha) (own wish hw)).word ∙
      ap not (none_zero 32 (λ i. on i active and on i wish)) ∙ not_not _ ∙ sym (pick_yes _ _ e)

  pub every_word_lem :
      {any : Bool} → any ≡ false →
      eqb (bit_and active (4294967295 - wish)) 0 ≡ decided any (λ i. on i active) (λ i. on i wish)
  unfolding decided
  every_word_lem {any} e =
      ap (λ (n : ℕ). eqb n 0) (and_places (own active ha) (not_places (own wish hw))).word ∙
      none_zero 32 (λ i. on i active and not (on i wish)) ∙
      ap not (some_same 32 _ (λ i. not (not (on i active) or on i wish)) (λ i h. sym (unwilling (on i active) (on i wish)))) ∙
      sym (every_none 32 (λ i. not (on i active) or on i wish)) ∙ sym (pick_no _ _ e)

  -- those whose wish differs from the decision
  pub leave_jump :
      {jump : Bool} → jump ≡ true →
      bit_and active (4294967295 - wish) ≡ pack 32 (λ i. on i active and differ (on i wish) jump)
  unfolding differ
  leave_jump {jump} e =
      (and_places (own active ha) (not_places (own wish hw))).word ∙
      pack_same 32 _ _ (λ i h. ap (λ (t : Bool). on i active and t) (other (on i wish) ∙ sym (ap (differ (on i wish)) e)))
    where
      other : (w : Bool) → not w ≡ differ w true
      other true = refl
      other false = refl

  pub leave_stay :
      {jump : Bool} → jump ≡ false →
      bit_and active wish ≡ pack 32 (λ i. on i active and differ (on i wish) jump)
  unfolding differ
  leave_stay {jump} e =
      (and_places (own active ha) (own wish hw)).word ∙
      pack_same 32 _ _ (λ i h. ap (λ (t : Bool). on i active and t) (other (on i wish) ∙ sym (ap (differ (on i wish)) e)))
    where
      other : (w : Bool) → w ≡ differ w false
      other true = refl
      other false = refl

-- a counter is 31 when each of its bits is set
full :
    (b0 b1 b2 b3 b4 : Bool) → ((((b0 and b1) and b2) and b3) and b4) ≡ eqb (counter_of b0 b1 b2 b3 b4) counter_limit
unfolding ◌and◌ digit
full b0 b1 b2 b3 b4 =
    same_true _ _
    (both_at (t5 b0 b1 b2 b3) (both_at (t4 b0 b1 b2) (both_at (t3 b0 b1) (both_at (t2 b0) (both_at t1 refl b0) b1) b2) b3) b4)
  where
    t5 : Bool → Bool → Bool → Bool → Bool → Bool
    t5 b0 b1 b2 b3 b4 = same ((((b0 and b1) and b2) and b3) and b4) (eqb (counter_of b0 b1 b2 b3 b4) counter_limit)

    t4 : Bool → Bool → Bool → Bool → Bool
    t4 b0 b1 b2 b3 = both (t5 b0 b1 b2 b3)

    t3 : Bool → Bool → Bool → Bool
    t3 b0 b1 b2 = both (t4 b0 b1 b2)

    t2 : Bool → Bool → Bool
    t2 b0 b1 = both (t3 b0 b1)

    t1 : Bool → Bool
    t1 b0 = both (t2 b0)

pub limit_word :
    (p0 p1 p2 p3 p4 : ℕ) → p0 < 2 ^ 32 → p1 < 2 ^ 32 → p2 < 2 ^ 32 → p3 < 2 ^ 32 → p4 < 2 ^ 32 →
    not (eqb (bit_and (bit_and (bit_and (bit_and p0 p1) p2) p3) p4) 0) ≡
    some_at_limit p0 p1 p2 p3 p4
limit_word p0 p1 p2 p3 p4 h0 h1 h2 h3 h4 =
    ap (λ (n : ℕ). not (eqb n 0))
    (and_places (and_places (and_places (and_places (own p0 h0) (own p1 h1)) (own p2 h2)) (own p3 h3)) (own p4 h4)).word ∙
    ap not (none_zero 32 _) ∙ not_not _ ∙
    some_same 32 _ _ (λ i h. full (on i p0) (on i p1) (on i p2) (on i p3) (on i p4))

-- it is 5 or above when bit 3 or 4 is set, or bit 2 and one below it
five : (b0 b1 b2 b3 b4 : Bool) → ((b3 or b4) or (b2 and (b0 or b1))) ≡ leb partial_limit (counter_of b0 b1 b2 b3 b4)
unfolding ◌and◌ ◌or◌ digit
five b0 b1 b2 b3 b4 =
    same_true _ _
    (both_at (t5 b0 b1 b2 b3) (both_at (t4 b0 b1 b2) (both_at (t3 b0 b1) (both_at (t2 b0) (both_at t1 refl b0) b1) b2) b3) b4)
  where
    t5 : Bool → Bool → Bool → Bool → Bool → Bool
    t5 b0 b1 b2 b3 b4 = same ((b3 or b4) or (b2 and (b0 or b1))) (leb partial_limit (counter_of b0 b1 b2 b3 b4))

    t4 : Bool → Bool → Bool → Bool → Bool
    t4 b0 b1 b2 b3 = both (t5 b0 b1 b2 b3)

    t3 : Bool → Bool → Bool → Bool
    t3 b0 b1 b2 = both (t4 b0 b1 b2)

    t2 : Bool → Bool → Bool
    t2 b0 b1 = both (t3 b0 b1)

    t1 : Bool → Bool
    t1 b0 = both (t2 b0)

pub partial_word :
    (p0 p1 p2 p3 p4 : ℕ) → p0 < 2 ^ 32 → p1 < 2 ^ 32 → p2 < 2 ^ 32 → p3 < 2 ^ 32 → p4 < 2 ^ 32 →
    not (eqb (bit_or (bit_or p3 p4) (bit_and p2 (bit_or p0 p1))) 0) ≡ some_at_partial p0 p1 p2 p3 p4
partial_word p0 p1 p2 p3 p4 h0 h1 h2 h3 h4 =
    ap (λ (n : ℕ). not (eqb n 0))
    (or_places (or_places (own p3 h3) (own p4 h4)) (and_places (own p2 h2) (or_places (own p0 h0) (own p1 h1)))).word ∙
    ap not (none_zero 32 _) ∙ not_not _ ∙
    some_same 32 _ _ (λ i h. five (on i p0) (on i p1) (on i p2) (on i p3) (on i p4))

and_no_part : (a b c : Bool) → (b and c) ≡ false → ((a and b) and c) ≡ false
unfolding ◌and◌
and_no_part true b c z = z
and_no_part false b c z = refl

-- the two upper bits of a counter, and where none has both, none is 31
pub upper_word :
    (p3 p4 : ℕ) → p3 < 2 ^ 32 → p4 < 2 ^ 32 → not (eqb (bit_and p3 p4) 0) ≡ some 32 (λ i. on i p3 and on i p4)
upper_word p3 p4 h3 h4 =
    ap (λ (n : ℕ). not (eqb n 0)) (and_places (own p3 h3) (own p4 h4)).word ∙ ap not (none_zero 32 _) ∙ not_not _

pub upper_clear :
    (p0 p1 p2 p3 p4 : ℕ) → some 32 (λ i. on i p3 and on i p4) ≡ false →
    some_at_limit p0 p1 p2 p3 p4 ≡ false
unfolding some ◌or◌
upper_clear p0 p1 p2 p3 p4 e =
    some_same 32 _ (λ i. false)
    (λ i h.
    sym (full (on i p0) (on i p1) (on i p2) (on i p3) (on i p4)) ∙
    and_no_part ((on i p0 and on i p1) and on i p2) (on i p3) (on i p4) (none_at 32 (λ j. on j p3 and on j p4) e i h))

-- the words as the code works them out
abbrev pub idle_word : ℕ → ℕ → ℕ
idle_word live active = bit_and live (4294967295 - active)

abbrev pub lend_word : ℕ → ℕ → ℕ → ℕ
lend_word p c b = bit_xor b (bit_and (bit_xor p c) (bit_xor b c))

module _ (p0 p1 p2 p3 p4 c0 c1 c2 c3 c4 : ℕ) where
  abbrev pub borrowed0 : ℕ
  borrowed0 = bit_and (4294967295 - p0) c0

  abbrev pub borrowed1 : ℕ
  borrowed1 = lend_word p1 c1 borrowed0

  abbrev pub borrowed2 : ℕ
  borrowed2 = lend_word p2 c2 borrowed1

  abbrev pub borrowed3 : ℕ
  borrowed3 = lend_word p3 c3 borrowed2

  abbrev pub borrowed4 : ℕ
  borrowed4 = lend_word p4 c4 borrowed3

module _ (live active p0 p1 p2 p3 p4 c0 c1 c2 c3 c4 : ℕ) where
  abbrev pub lowered_words : Branched
  lowered_words =
      let kept = bit_and (idle_word live active) (4294967295 - borrowed4 p0 p1 p2 p3 p4 c0 c1 c2 c3 c4) in
      record {
        active = bit_or active (bit_and (idle_word live active) (borrowed4 p0 p1 p2 p3 p4 c0 c1 c2 c3 c4));
        p0 = bit_and (bit_xor p0 c0) kept;
        p1 = bit_and (bit_xor (bit_xor p1 c1) (borrowed0 p0 p1 p2 p3 p4 c0 c1 c2 c3 c4)) kept;
        p2 = bit_and (bit_xor (bit_xor p2 c2) (borrowed1 p0 p1 p2 p3 p4 c0 c1 c2 c3 c4)) kept;
        p3 = bit_and (bit_xor (bit_xor p3 c3) (borrowed2 p0 p1 p2 p3 p4 c0 c1 c2 c3 c4)) kept;
        p4 = bit_and (bit_xor (bit_xor p4 c4) (borrowed3 p0 p1 p2 p3 p4 c0 c1 c2 c3 c4)) kept;
      }

abbrev pub raised_words : ℕ → ℕ → ℕ → ℕ → ℕ → ℕ → ℕ → ℕ → Branched
raised_words live active leave p0 p1 p2 p3 p4 =
    let c0 = bit_and p0 (idle_word live active) in
    let c1 = bit_and p1 c0 in
    let c2 = bit_and p2 c1 in
    let c3 = bit_and p3 c2 in
    record {
      active = bit_and active (4294967295 - leave);
      p0 = bit_xor p0 (idle_word live active);
      p1 = bit_xor p1 c0;
      p2 = bit_xor p2 c1;
      p3 = bit_xor p3 c2;
      p4 = bit_xor p4 c3;
    }

-- six words that are right place by place are what the processors show
shown :
    (procs : ℕ → Proc) {fa f0 f1 f2 f3 f4 : ℕ → Bool} {a q0 q1 q2 q3 q4 : ℕ} →
    Places 32 fa a → ((i : ℕ) → fa i ≡ is_active (procs i)) →
    Places 32 f0 q0 → ((i : ℕ) → f0 i ≡ counter_bit 0 (procs i)) →
    Places 32 f1 q1 → ((i : ℕ) → f1 i ≡ counter_bit 1 (procs i)) →
    Places 32 f2 q2 → ((i : ℕ) → f2 i ≡ counter_bit 2 (procs i)) →
    Places 32 f3 q3 → ((i : ℕ) → f3 i ≡ counter_bit 3 (procs i)) →
    Places 32 f4 q4 → ((i : ℕ) → f4 i ≡ counter_bit 4 (procs i)) →
    ◌≡◌ {A = Branched} (record { active = a; p0 = q0; p1 = q1; p2 = q2; p3 = q3; p4 = q4 }) (shown_as procs)
shown procs wa ea w0 e0 w1 e1 w2 e2 w3 e3 w4 e4 =
    λ j. record {
      active = (wa.word ∙ pack_same 32 _ _ (λ i h. ea i)) j;
      p0 = (w0.word ∙ pack_same 32 _ _ (λ i h. e0 i)) j;
      p1 = (w1.word ∙ pack_same 32 _ _ (λ i h. e1 i)) j;
      p2 = (w2.word ∙ pack_same 32 _ _ (λ i h. e2 i)) j;
      p3 = (w3.word ∙ pack_same 32 _ _ (λ i h. e3 i)) j;
      p4 = (w4.word ∙ pack_same 32 _ _ (λ i h. e4 i)) j;
    }

module _ {procs : ℕ → Proc} {live active p0 p1 p2 p3 p4 : ℕ} (m : MasksOf procs live active p0 p1 p2 p3 p4) where
  in_group : Places 32 (λ i. is_live (procs i)) live
  in_group = record { word = m.live_word }

  awake : Places 32 (λ i. is_active (procs i)) active
  awake = record { word = m.active_word }

  at0 : Places 32 (λ i. counter_bit 0 (procs i)) p0
  at0 = record { word = m.word0 }

  at1 : Places 32 (λ i. counter_bit 1 (procs i)) p1
  at1 = record { word = m.word1 }

  at2 : Places 32 (λ i. counter_bit 2 (procs i)) p2
  at2 = record { word = m.word2 }

  at3 : Places 32 (λ i. counter_bit 3 (procs i)) p3
  at3 = record { word = m.word3 }

  at4 : Places 32 (λ i. counter_bit 4 (procs i)) p4
  at4 = record { word = m.word4 }

  pub turn_word :
      bit_and (bit_and live (4294967295 - active)) (4294967295 - bit_or (bit_or (bit_or (bit_or p0 p1) p2) p3) p4) ≡
      active_mask (λ i. turned (procs i))
  turn_word =
      (and_places (and_places in_group (not_places awake)) (not_places (or_places (or_places (or_places (or_places at0 at1) at2) at3) at4))).word ∙
      pack_same 32 _ _ (λ i h. turned_active (procs i) (m.counters i))

  idle : Places 32 (λ i. is_idle (procs i)) (idle_word live active)
  idle = and_places in_group (not_places awake)

  -- decrement, with the bits of the count at every place
  module _ (k : ℕ) (h : k < 32) {c0 c1 c2 c3 c4 : ℕ}
      (e0 : c0 ≡ pack 32 (λ i. eqb (k % 2) 1)) (e1 : c1 ≡ pack 32 (λ i. eqb (k / 2 % 2) 1))
      (e2 : c2 ≡ pack 32 (λ i. eqb (k / 4 % 2) 1)) (e3 : c3 ≡ pack 32 (λ i. eqb (k / 8 % 2) 1))
      (e4 : c4 ≡ pack 32 (λ i. eqb (k / 16 % 2) 1)) where
    k0 : Places 32 (λ i. on 0 k) c0
    k0 = record { word = e0 ∙ pack_same 32 _ _ (λ i p. sym (on_zero k)) }

    k1 : Places 32 (λ i. on 1 k) c1
    unfolding on
    k1 = record { word = e1 }

    k2 : Places 32 (λ i. on 2 k) c2
    unfolding on
    k2 = record { word = e2 }

    k3 : Places 32 (λ i. on 3 k) c3
    unfolding on
    k3 = record { word = e3 }

    k4 : Places 32 (λ i. on 4 k) c4
    unfolding on
    k4 = record { word = e4 }

    b0 : Places 32 (λ i. lent0 k (procs i)) (borrowed0 p0 p1 p2 p3 p4 c0 c1 c2 c3 c4)
    b0 = and_places (not_places at0) k0

    -- one plane more
    lend :
        {p c b : ℕ} {f g e : ℕ → Bool} → Places 32 f p → Places 32 g c → Places 32 e b →
        Places 32 (λ i. lent (f i) (g i) (e i)) (lend_word p c b)
    lend x y z = xor_places z (and_places (xor_places x y) (xor_places z y))

    b1 : Places 32 (λ i. lent1 k (procs i)) (borrowed1 p0 p1 p2 p3 p4 c0 c1 c2 c3 c4)
    b1 = lend at1 k1 b0

    b2 : Places 32 (λ i. lent2 k (procs i)) (borrowed2 p0 p1 p2 p3 p4 c0 c1 c2 c3 c4)
    b2 = lend at2 k2 b1

    b3 : Places 32 (λ i. lent3 k (procs i)) (borrowed3 p0 p1 p2 p3 p4 c0 c1 c2 c3 c4)
    b3 = lend at3 k3 b2

    b4 : Places 32 (λ i. lent4 k (procs i)) (borrowed4 p0 p1 p2 p3 p4 c0 c1 c2 c3 c4)
    b4 = lend at4 k4 b3

    stays :
        Places 32 (λ i. kept k (procs i))
        (bit_and (idle_word live active) (4294967295 - borrowed4 p0 p1 p2 p3 p4 c0 c1 c2 c3 c4))
    stays = and_places idle (not_places b4)

    pub lower_words :
        lowered_words live active p0 p1 p2 p3 p4 c0 c1 c2 c3 c4 ≡ shown_as (λ i. lowered k (procs i))
    lower_words =
        shown (λ i. lowered k (procs i))
        (or_places awake (and_places idle b4)) (λ i. lowered_active k h (procs i) (m.counters i))
        (and_places (xor_places at0 k0) stays) (λ i. lowered0 k h (procs i) (m.counters i))
        (and_places (xor_places (xor_places at1 k1) b0) stays) (λ i. lowered1 k h (procs i) (m.counters i))
        (and_places (xor_places (xor_places at2 k2) b1) stays) (λ i. lowered2 k h (procs i) (m.counters i))
        (and_places (xor_places (xor_places at3 k3) b2) stays) (λ i. lowered3 k h (procs i) (m.counters i))
        (and_places (xor_places (xor_places at4 k4) b3) stays) (λ i. lowered4 k h (procs i) (m.counters i))

  -- increment, with those who leave
  module _ (jump : Bool) (wish : ℕ) {leave : ℕ} (e : leave ≡ pack 32 (λ i. on i active and differ (on i wish) jump)) where
    left : Places 32 (λ i. is_active (procs i) and differ (on i wish) jump) leave
    left =
        record {
          word =
              e ∙
              pack_same 32 _ _
              (λ i p. ap (λ (t : Bool). t and differ (on i wish) jump) (ap (on i) m.active_word ∙ on_pack 32 i (λ j. is_active (procs j)) p));
        }

    pub raise_words :
        raised_words live active leave p0 p1 p2 p3 p4 ≡ shown_as (λ i. raised jump (on i wish) (procs i))
    raise_words =
        let c0 = and_places at0 idle in
        let c1 = and_places at1 c0 in
        let c2 = and_places at2 c1 in
        let c3 = and_places at3 c2 in
        shown (λ i. raised jump (on i wish) (procs i))
        (and_places awake (not_places left)) (λ i. raised_active jump (on i wish) (procs i) (m.counters i))
        (xor_places at0 idle) (λ i. raised0 jump (on i wish) (procs i) (m.counters i))
        (xor_places at1 c0) (λ i. raised1 jump (on i wish) (procs i) (m.counters i))
        (xor_places at2 c1) (λ i. raised2 jump (on i wish) (procs i) (m.counters i))
        (xor_places at3 c2) (λ i. raised3 jump (on i wish) (procs i) (m.counters i))
        (xor_places at4 c3) (λ i. raised4 jump (on i wish) (procs i) (m.counters i))

-- the branch operation by its code
module _ (procs : ℕ → Proc) (op k wish : ℕ) (jump : Bool) where
  pub branch_lower :
      {x : Branched} → x ≡ shown_as (λ i. lowered k (procs i)) → op ≡ 1 →
      x ≡ shown_as (λ i. branched op k jump (on i wish) (procs i))
  unfolding branched pick
  branch_lower q e = q ∙ sym (ap (λ (n : ℕ). shown_as (λ i. branched n k jump (on i wish) (procs i))) e)

  pub branch_raise :
      {x : Branched} → x ≡ shown_as (λ i. raised jump (on i wish) (procs i)) → op ≡ 2 →
      x ≡ shown_as (λ i. branched op k jump (on i wish) (procs i))
  unfolding branched pick
  branch_raise q e = q ∙ sym (ap (λ (n : ℕ). shown_as (λ i. branched n k jump (on i wish) (procs i))) e)

  pub branch_none : (op ≡ 1 → ⊥) → (op ≡ 2 → ⊥) → shown_as procs ≡ shown_as (λ i. branched op k jump (on i wish) (procs i))
  unfolding branched
  branch_none n1 n2 =
      ap shown_as (fun_ext (λ i. sym (pick_no _ _ (ne_eqb op 1 n1) ∙ pick_no _ _ (ne_eqb op 2 n2))))

-- the words themselves, where nothing is done
pub masks_shown :
    {procs : ℕ → Proc} {live active p0 p1 p2 p3 p4 : ℕ} → MasksOf procs live active p0 p1 p2 p3 p4 →
    ◌≡◌ {A = Branched} (record { active = active; p0 = p0; p1 = p1; p2 = p2; p3 = p3; p4 = p4 }) (shown_as procs)
masks_shown m =
    λ j. record {
      active = m.active_word j;
      p0 = m.word0 j;
      p1 = m.word1 j;
      p2 = m.word2 j;
      p3 = m.word3 j;
      p4 = m.word4 j;
    }

-- B_ELSE where the slot has it
module _ (procs : ℕ → Proc) {else : Bool} where
  pub turned_yes : else ≡ true → active_mask (λ i. turned (procs i)) ≡ active_mask (turned_if else procs)
  unfolding turned_if
  turned_yes e = ap active_mask (fun_ext (λ i. sym (pick_yes (turned (procs i)) (procs i) e)))

  pub turned_no : else ≡ false → active_mask procs ≡ active_mask (turned_if else procs)
  unfolding turned_if
  turned_no e = ap active_mask (fun_ext (λ i. sym (pick_no (turned (procs i)) (procs i) e)))

-- the limits, processor by processor
module _ {procs : ℕ → Proc} {live active p0 p1 p2 p3 p4 : ℕ} (m : MasksOf procs live active p0 p1 p2 p3 p4) where
  bit : {w : ℕ} (k i : ℕ) → i < 32 → w ≡ plane k procs → on i w ≡ counter_bit k (procs i)
  bit k i h e = ap (on i) e ∙ on_pack 32 i (λ j. counter_bit k (procs j)) h

  pub limit_shown : some_at_limit p0 p1 p2 p3 p4 ≡ some 32 (λ i. at_limit counter_limit (procs i))
  unfolding ◌and◌ on every digit
  limit_shown =
      some_same 32 _ _
      (λ i h.
      rw (bit 0 i h m.word0, bit 1 i h m.word1, bit 2 i h m.word2, bit 3 i h m.word3, bit 4 i h m.word4)
      (agree
      (λ q. eqb (counter_of (counter_bit 0 q) (counter_bit 1 q) (counter_bit 2 q) (counter_bit 3 q) (counter_bit 4 q)) counter_limit)
      (at_limit counter_limit) refl (procs i) (m.counters i)))

  pub partial_shown : some_at_partial p0 p1 p2 p3 p4 ≡ some 32 (λ i. at_limit partial_limit (procs i))
  unfolding ◌and◌ on every digit
  partial_shown =
      some_same 32 _ _
      (λ i h.
      rw (bit 0 i h m.word0, bit 1 i h m.word1, bit 2 i h m.word2, bit 3 i h m.word3, bit 4 i h m.word4)
      (agree
      (λ q. leb partial_limit (counter_of (counter_bit 0 q) (counter_bit 1 q) (counter_bit 2 q) (counter_bit 3 q) (counter_bit 4 q)))
      (at_limit partial_limit) refl (procs i) (m.counters i)))
