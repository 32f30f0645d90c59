-- What a start asks of the settings and what it claims: each answer of the code, from what its tests found.
-- Assumes nothing.
use mathlib.Core.Path.{◌≡◌, refl, sym, ap, ◌∙◌}
use mathlib.Core.Bool.{Bool, true, false, ◌&&◌, ◌||◌}
use mathlib.Core.List.{List, []}
use Prim.Native.Nat.{ℕ, ◌+◌, ◌-◌, ◌*◌, ◌/◌, ◌<◌, ◌≤◌}
use native.Mathlib.Nat.{mul-le-mul}
use native.Mathlib.Omega.{arith}
use lib.Dec.{eqb, ltb}
use lib.ListN.{length, get_or}
use borrow.Author.Tests.{ltb-true, ltb-false, eq-eqb, ne_eqb}
use Rattle.laws.specs.Below.{some, every, sum, count}
use Rattle.laws.specs.Choice.{◌and◌, pick}
use Rattle.laws.specs.Masks.{◌or◌, digit, on}
use mir.Val.{bool_byte as from_bool}
use Rattle.std.specs.Prelude.{min}
use Rattle.laws.proofs.Choice.{Tested, holds, fails, tested, pick_yes, pick_no, and_no_right}
use Rattle.refusal.specs.Number.{IsNumber}
use Rattle.refusal.specs.Told.{Told, gives, refuses}
use Rattle.refusal.specs.declared.Refusal.TheVariants.{StartUnset, DomainOutside, SpansShared}
use Rattle.start.specs.declared.ready.Output.{Output}
use Rattle.state.specs.State.{Buffer, Domain, Gauge, Readiness, Party, unset, most_extent}
use Rattle.state.specs.Asked.{OwnAsked}
use Rattle.state.specs.Cells.{buffer_at, window_at, party_of, party_cells, shared_of, own_length}
use Rattle.state.specs.Seen.{seen_from, seen_outputs}
use Rattle.state.specs.Start.{output, is_set, channels_unmasked, counts, apart, disjoint, ready_of, number_told, readiness_of, pairs_of, credit_of, claim_of, most_claim, most_credit, most_pairs}
use Rattle.state.specs.Readiness.{lesser, least_extent, window_for, columns_left, rows_left, gauge_of, worked_out, readiness_for}
use Rattle.state.specs.Effects.{gauge_from, window_from, with_gauge, with_number, with_readiness, renewed, claim_for}
use Rattle.state.specs.Valid.{DomainValid}
use Rattle.start.specs.Gauge.{ready_by, settled, RenewAsked}
use Rattle.start.specs.Windows.{
  counts_by,
  muted,
  output_by,
  spans_apart,
  keeps_apart,
  extent_left,
  some_set,
  each_apart,
  columns_by,
  rows_by,
  channels_by,
  channels_in,
  count_by,
  credit_by,
  first_of,
}
use Rattle.start.proofs.Channels.{from_own, channels_own}
use Rattle.start.proofs.Editions.{credit_by_lem, credit_bounded}
use Rattle.start.proofs.Gauge.{readiness_gauged}

-- four tests, taken as the code takes them
some_of_four : (p q r s : Bool) → pick (pick (pick p true q) true r) true s ≡ (p or (q or (r or (s or false))))
unfolding pick ◌or◌
some_of_four true q r s = refl
some_of_four false true r s = refl
some_of_four false false true s = refl
some_of_four false false false true = refl
some_of_four false false false false = refl

pairs_of_four : (p q r s t u : Bool) →
    ((p and (q and r)) and ((s and t) and u)) ≡
    (true and ((p and true) and ((q and (r and true)) and ((s and (t and (u and true))) and true))))
unfolding ◌and◌
pairs_of_four false q r s t u = refl
pairs_of_four true false r s t u = refl
pairs_of_four true true false s t u = refl
pairs_of_four true true true false t u = refl
pairs_of_four true true true true false u = refl
pairs_of_four true true true true true false = refl
pairs_of_four true true true true true true = refl

-- two tests that the code joins by `&`, and by `|`
pub both_is : (a b : Bool) → (a && b) ≡ (a and b)
unfolding ◌and◌
both_is true b = refl
both_is false b = refl

pub either_is : (a b : Bool) → (a || b) ≡ pick a true b
unfolding pick
either_is true b = refl
either_is false b = refl

-- two outputs
pub apart_counted : (a b : Output) {t r : Bool} → t ≡ (a.counts and b.counts) → t ≡ true →
    r ≡ spans_apart a.base a.span b.base b.span → r ≡ keeps_apart a b
unfolding keeps_apart
apart_counted a b p e h = h ∙ sym (pick_yes _ true (sym p ∙ e))

pub apart_uncounted : (a b : Output) {t : Bool} → t ≡ (a.counts and b.counts) → t ≡ false → true ≡ keeps_apart a b
unfolding keeps_apart
apart_uncounted a b p e = sym (pick_no _ true (sym p ∙ e))

-- four outputs
module _ (a b c d : Output) where
  pub some_set_lem : {p q r : Bool} → p ≡ pick a.set true b.set → q ≡ pick p true c.set →
      r ≡ pick q true d.set → r ≡ some_set a b c d
  unfolding some_set
  some_set_lem e f g = g ∙ ap (λ (t : Bool). pick t true d.set) (f ∙ ap (λ (t : Bool). pick t true c.set) e)

  pub each_apart_lem : {ba ca cb da db dc third p fourth q r : Bool} → ba ≡ keeps_apart b a → ca ≡ keeps_apart c a →
      cb ≡ keeps_apart c b → third ≡ (ca and cb) → da ≡ keeps_apart d a → db ≡ keeps_apart d b → p ≡ (da and db) →
      dc ≡ keeps_apart d c → fourth ≡ (p and dc) → q ≡ (ba and third) → r ≡ (q and fourth) → r ≡ each_apart a b c d
  unfolding each_apart
  each_apart_lem e f g h k l m n o p q = cc

-- 7, 8 and 9
module _ (x y z : Bool) where
  pub first_seven : x ≡ false → 7 ≡ first_of x y z
  unfolding first_of
  first_seven e = sym (pick_no _ _ e)

  pub first_eight : x ≡ true → y ≡ false → 8 ≡ first_of x y z
  unfolding first_of
  first_eight e f = sym (pick_yes _ _ e ∙ pick_no _ _ f)

  pub first_nine : x ≡ true → y ≡ true → z ≡ false → 9 ≡ first_of x y z
  unfolding first_of
  first_nine e f g = sym (pick_yes _ _ e ∙ (pick_yes _ _ f ∙ pick_no _ _ g))

  pub first_fine : x ≡ true → y ≡ true → z ≡ true → 0 ≡ first_of x y z
  unfolding first_of
  first_fine e f g = sym (pick_yes _ _ e ∙ (pick_yes _ _ f ∙ pick_yes _ _ g))

abbrev told_first : Bool → Bool → Bool → Told
told_first x y z = pick x (pick y (pick z (gives []) (refuses 9)) (refuses 8)) (refuses 7)

told_first_lem : (x y z : Bool) → first_of x y z ≡ number_told (told_first x y z)
unfolding first_of number_told pick
told_first_lem true true true = refl
told_first_lem true true false = refl
told_first_lem true false z = refl
told_first_lem false y z = refl

-- the columns and the rows that four outputs leave, as the code finds them from the last output on
module _ (a b c d : Output) where
  pub columns_told : {z y x w q p o n : ℕ} → z ≡ extent_left d.counts d.step → y ≡ lesser z 4096 →
      x ≡ extent_left c.counts c.step → w ≡ lesser x y → q ≡ extent_left b.counts b.step → p ≡ lesser q w →
      o ≡ extent_left a.counts a.step → n ≡ lesser o p → n ≡ columns_by a b c d
  unfolding columns_by
  columns_told e f g h i j k l = cc

  pub rows_told : {z y x w q p o n : ℕ} → z ≡ extent_left d.counts d.height → y ≡ lesser z 4096 →
      x ≡ extent_left c.counts c.height → w ≡ lesser x y → q ≡ extent_left b.counts b.height → p ≡ lesser q w →
      o ≡ extent_left a.counts a.height → n ≡ lesser o p → n ≡ rows_by a b c d
  unfolding rows_by
  rows_told e f g h i j k l = cc

  pub count_told_lem : {w x y z : ℕ} → (w ≡ digit a.counts) × (w ≤ 1) → (x ≡ digit b.counts) × (x ≤ 1) →
      (y ≡ digit c.counts) × (y ≤ 1) → (z ≡ digit d.counts) × (z ≤ 1) → w + x + y + z ≡ count_by a b c d
  unfolding count_by
  count_told_lem e f g h = omega (arith, e.0, f.0, g.0, h.0)

  -- what a pair is credited, by the edition
  module _ (edition channels : ℕ) {n : ℕ} where
    pub credit_channels : edition ≡ 2 → n ≡ channels → n ≡ credit_by a b c d edition channels
    unfolding credit_by
    credit_channels e h = h ∙ sym (pick_yes _ _ (eq-eqb edition 2 e))

    pub credit_outputs : (edition ≡ 2 → ⊥) → n ≡ count_by a b c d → n ≡ credit_by a b c d edition channels
    unfolding credit_by
    credit_outputs e h = h ∙ sym (pick_no _ _ (ne_eqb edition 2 e))

-- an output of another party's that is shown as not set asks and gives what one that isn't set does
module _ (t : Bool) (o : Buffer) (bits : ℕ) where
  abbrev seen : Buffer
  seen = pick t o unset

  abbrev dim : Output
  dim = output_by bits (muted t o) (window_for seen)

  abbrev clear : Output
  clear = output_by bits seen (window_for seen)

dim_set : (t : Bool) (o : Buffer) (bits : ℕ) → (dim t o bits).set ≡ (clear t o bits).set
unfolding pick
dim_set true o bits = refl
dim_set false o bits = refl

dim_counts : (t : Bool) (o : Buffer) (bits : ℕ) → (dim t o bits).counts ≡ (clear t o bits).counts
unfolding pick counts_by ◌and◌
dim_counts true o bits = refl
dim_counts false o bits = refl

dim_columns : (t : Bool) (o : Buffer) (bits : ℕ) →
    extent_left (dim t o bits).counts (dim t o bits).step ≡ extent_left (clear t o bits).counts (clear t o bits).step
dim_columns t o bits = ap (λ (c : Bool). extent_left c (clear t o bits).step) (dim_counts t o bits)

dim_rows : (t : Bool) (o : Buffer) (bits : ℕ) →
    extent_left (dim t o bits).counts (dim t o bits).height ≡ extent_left (clear t o bits).counts (clear t o bits).height
unfolding pick counts_by extent_left ◌and◌
dim_rows true o bits = refl
dim_rows false o bits = refl

dim_apart : (t u : Bool) (o p : Buffer) (m n : ℕ) → keeps_apart (dim t o m) (dim u p n) ≡ keeps_apart (clear t o m) (clear u p n)
unfolding pick counts_by keeps_apart ◌and◌
dim_apart true true o p m n = refl
dim_apart true false o p m n =
    pick_no _ true (and_no_right (clear true o m).counts refl) ∙ sym (pick_no _ true (and_no_right (clear true o m).counts refl))
dim_apart false u o p m n = refl

abbrev dim_channels_of : Bool → Buffer → ℕ → ℕ
dim_channels_of t o bits = channels_by bits (pick t o.is_set 0) o.format

dim_channels : (t : Bool) (o : Buffer) (bits : ℕ) →
    dim_channels_of t o bits ≡ pick (eqb (seen t o bits).is_set 1) (channels_unmasked bits 0 (seen t o bits).format) 0
unfolding pick channels_by
dim_channels true o bits = refl
dim_channels false o bits = refl

-- the four outputs that a party sees in the shared cells, each with the mask's bits from its own on and with the window that is kept of
-- it, and what they ask of a domain and give for a pair
module _ (mine : ℕ) (shared : List ℕ) where
  abbrev mask : ℕ
  mask = (shared_of shared).mask

  abbrev outputs : List Buffer
  outputs = seen_outputs mine (shared_of shared).outputs

  abbrev at : ℕ → Buffer
  at k = buffer_at shared k

  abbrev m0 : ℕ
  m0 = get_or shared 0 0

  abbrev m1 : ℕ
  m1 = get_or shared 0 0 / 16

  abbrev m2 : ℕ
  m2 = get_or shared 0 0 / 256

  abbrev m3 : ℕ
  m3 = get_or shared 0 0 / 4096

  abbrev a : Output
  a = clear (on 16 mine) (at 21) m0

  abbrev b : Output
  b = clear (on 17 mine) (at 25) m1

  abbrev c : Output
  c = clear (on 18 mine) (at 29) m2

  abbrev d : Output
  d = clear (on 19 mine) (at 33) m3

  counts_0 : a.counts ≡ counts mask outputs 0
  unfolding counts_by counts is_set output shared_of seen_from
  counts_0 = refl

  counts_1 : b.counts ≡ counts mask outputs 1
  unfolding counts_by counts is_set output shared_of seen_from
  counts_1 = ap (λ (t : Bool). eqb (seen (on 17 mine) (at 25) 0).is_set 1 and t) (from_own m0 1 (seen (on 17 mine) (at 25) 0).format)

  counts_2 : c.counts ≡ counts mask outputs 2
  unfolding counts_by counts is_set output shared_of seen_from
  counts_2 = ap (λ (t : Bool). eqb (seen (on 18 mine) (at 29) 0).is_set 1 and t) (from_own m0 2 (seen (on 18 mine) (at 29) 0).format)

  counts_3 : d.counts ≡ counts mask outputs 3
  unfolding counts_by counts is_set output shared_of seen_from
  counts_3 = ap (λ (t : Bool). eqb (seen (on 19 mine) (at 33) 0).is_set 1 and t) (from_own m0 3 (seen (on 19 mine) (at 33) 0).format)

  some_seen : some_set a b c d ≡ some 4 (is_set outputs)
  unfolding some_set some is_set output shared_of seen_from
  some_seen = some_of_four _ _ _ _

  disjoint_seen : each_apart a b c d ≡ disjoint mask outputs
  unfolding each_apart keeps_apart spans_apart window_for disjoint every apart output shared_of seen_from ◌and◌
  disjoint_seen =
      let keep : ℕ → ℕ → Bool = λ n m. pick (counts mask outputs n and counts mask outputs m) (apart (output outputs n) (output outputs m)) true in
      rw (counts_0, counts_1, counts_2, counts_3)
      (pairs_of_four (keep 1 0) (keep 2 0) (keep 2 1) (keep 3 0) (keep 3 1) (keep 3 2))

  columns_seen : columns_by a b c d ≡ least_extent 4 (columns_left mask outputs)
  unfolding columns_by extent_left window_for least_extent columns_left output shared_of seen_from
  columns_seen = rw (counts_0, counts_1, counts_2, counts_3) refl

  rows_seen : rows_by a b c d ≡ least_extent 4 (rows_left mask outputs)
  unfolding rows_by extent_left least_extent rows_left output shared_of seen_from
  rows_seen = rw (counts_0, counts_1, counts_2, counts_3) refl

  count_seen : count_by a b c d ≡ count 4 (counts mask outputs)
  unfolding count_by count sum
  count_seen = rw (counts_0, counts_1, counts_2, counts_3) refl

  credit_seen : (edition : ℕ) → credit_by a b c d edition (channels_in mask outputs) ≡ credit_of edition mask outputs
  unfolding credit_by
  credit_seen edition =
      ap (λ (n : ℕ). pick (eqb edition 2) (channels_in mask outputs) n) count_seen ∙ sym (credit_by_lem edition mask outputs)

  -- the unmasked channels that the code sums up, output by output
  pub channels_told : {o p q r : Bool} {w x y z : ℕ} → o ≡ on 16 mine → p ≡ on 17 mine → q ≡ on 18 mine → r ≡ on 19 mine →
      (w ≡ channels_by m0 (pick o (get_or shared 21 0) 0) (get_or shared 23 0)) × (w ≤ 4) →
      (x ≡ channels_by m1 (pick p (get_or shared 25 0) 0) (get_or shared 27 0)) × (x ≤ 4) →
      (y ≡ channels_by m2 (pick q (get_or shared 29 0) 0) (get_or shared 31 0)) × (y ≤ 4) →
      (z ≡ channels_by m3 (pick r (get_or shared 33 0) 0) (get_or shared 35 0)) × (z ≤ 4) → w + x + y + z ≡ channels_in mask outputs
  unfolding channels_by channels_in sum is_set output shared_of seen_from
  channels_told o p q r e f g h =
      omega (
        arith,
        e.0 ∙ ap (λ (t : Bool). dim_channels_of t (at 21) m0) o ∙ dim_channels (on 16 mine) (at 21) m0,
        f.0 ∙ ap (λ (t : Bool). dim_channels_of t (at 25) m1) p ∙ dim_channels (on 17 mine) (at 25) m1 ∙
            ap (λ (n : ℕ). pick (eqb (seen (on 17 mine) (at 25) 0).is_set 1) n 0) (channels_own m0 1 (seen (on 17 mine) (at 25) 0).format),
        g.0 ∙ ap (λ (t : Bool). dim_channels_of t (at 29) m2) q ∙ dim_channels (on 18 mine) (at 29) m2 ∙
            ap (λ (n : ℕ). pick (eqb (seen (on 18 mine) (at 29) 0).is_set 1) n 0) (channels_own m0 2 (seen (on 18 mine) (at 29) 0).format),
        h.0 ∙ ap (λ (t : Bool). dim_channels_of t (at 33) m3) r ∙ dim_channels (on 19 mine) (at 33) m3 ∙
            ap (λ (n : ℕ). pick (eqb (seen (on 19 mine) (at 33) 0).is_set 1) n 0) (channels_own m0 3 (seen (on 19 mine) (at 33) 0).format),
      )

  -- those that aren't one's own, shown as not set
  abbrev da : Output
  da = dim (on 16 mine) (at 21) m0

  abbrev db : Output
  db = dim (on 17 mine) (at 25) m1

  abbrev dc : Output
  dc = dim (on 18 mine) (at 29) m2

  abbrev dd : Output
  dd = dim (on 19 mine) (at 33) m3

  some_dim : some_set da db dc dd ≡ some_set a b c d
  unfolding some_set
  some_dim = λ j.
      pick (pick (pick (dim_set (on 16 mine) (at 21) m0 j) true (dim_set (on 17 mine) (at 25) m1 j)) true (dim_set (on 18 mine) (at 29) m2 j)) true
      (dim_set (on 19 mine) (at 33) m3 j)

  columns_dim : columns_by da db dc dd ≡ columns_by a b c d
  unfolding columns_by
  columns_dim = λ j.
      lesser (dim_columns (on 16 mine) (at 21) m0 j)
      (lesser (dim_columns (on 17 mine) (at 25) m1 j)
      (lesser (dim_columns (on 18 mine) (at 29) m2 j) (lesser (dim_columns (on 19 mine) (at 33) m3 j) most_extent)))

  rows_dim : rows_by da db dc dd ≡ rows_by a b c d
  unfolding rows_by
  rows_dim = λ j.
      lesser (dim_rows (on 16 mine) (at 21) m0 j)
      (lesser (dim_rows (on 17 mine) (at 25) m1 j)
      (lesser (dim_rows (on 18 mine) (at 29) m2 j) (lesser (dim_rows (on 19 mine) (at 33) m3 j) most_extent)))

  apart_dim : each_apart da db dc dd ≡ each_apart a b c d
  unfolding each_apart
  apart_dim = λ j.
      (dim_apart (on 17 mine) (on 16 mine) (at 25) (at 21) m1 m0 j and
      (dim_apart (on 18 mine) (on 16 mine) (at 29) (at 21) m2 m0 j and dim_apart (on 18 mine) (on 17 mine) (at 29) (at 25) m2 m1 j)) and
      ((dim_apart (on 19 mine) (on 16 mine) (at 33) (at 21) m3 m0 j and dim_apart (on 19 mine) (on 17 mine) (at 33) (at 25) m3 m1 j) and
      dim_apart (on 19 mine) (on 18 mine) (at 33) (at 29) m3 m2 j)

  count_dim : count_by da db dc dd ≡ count_by a b c d
  unfolding count_by
  count_dim = λ j.
      digit (dim_counts (on 16 mine) (at 21) m0 j) + (digit (dim_counts (on 17 mine) (at 25) m1 j) + (digit (dim_counts (on 18 mine) (at 29) m2 j) +
      (digit (dim_counts (on 19 mine) (at 33) m3 j) + 0)))

  credit_dim : (edition channels : ℕ) → credit_by da db dc dd edition channels ≡ credit_by a b c d edition channels
  unfolding credit_by
  credit_dim edition channels = ap (λ (n : ℕ). pick (eqb edition 2) channels n) count_dim

-- own cells whose outputs' windows are kept
module _ (shared own : List ℕ) (asked : RenewAsked own shared) where
  abbrev party : Party
  party = party_of own []

  abbrev mine_of : ℕ
  mine_of = get_or own 17 0

  abbrev bits_of : ℕ
  bits_of = get_or shared 0 0

  abbrev seen_of : List Buffer
  seen_of = seen_outputs mine_of (shared_of shared).outputs

  -- an output with the window that is kept of it is the output with the window that it has
  window_0 : {o : Bool} {e : Output} → o ≡ on 16 mine_of → e ≡ output_by bits_of (muted o (buffer_at shared 21)) (window_at own 25) →
      e ≡ dim (on 16 mine_of) (buffer_at shared 21) bits_of
  unfolding party_of shared_of output seen_from
  window_0 q h =
      h ∙ ap (λ (t : Bool). output_by bits_of (muted t (buffer_at shared 21)) (window_at own 25)) q ∙
      ap (output_by bits_of (muted (on 16 mine_of) (buffer_at shared 21))) asked.windows.first

  window_1 : {o : Bool} {e : Output} → o ≡ on 17 mine_of → e ≡ output_by (bits_of / 16) (muted o (buffer_at shared 25)) (window_at own 27) →
      e ≡ dim (on 17 mine_of) (buffer_at shared 25) (bits_of / 16)
  unfolding party_of shared_of output seen_from
  window_1 q h =
      h ∙ ap (λ (t : Bool). output_by (bits_of / 16) (muted t (buffer_at shared 25)) (window_at own 27)) q ∙
      ap (output_by (bits_of / 16) (muted (on 17 mine_of) (buffer_at shared 25))) asked.windows.second

  window_2 : {o : Bool} {e : Output} → o ≡ on 18 mine_of → e ≡ output_by (bits_of / 256) (muted o (buffer_at shared 29)) (window_at own 29) →
      e ≡ dim (on 18 mine_of) (buffer_at shared 29) (bits_of / 256)
  unfolding party_of shared_of output seen_from
  window_2 q h =
      h ∙ ap (λ (t : Bool). output_by (bits_of / 256) (muted t (buffer_at shared 29)) (window_at own 29)) q ∙
      ap (output_by (bits_of / 256) (muted (on 18 mine_of) (buffer_at shared 29))) asked.windows.third

  window_3 : {o : Bool} {e : Output} → o ≡ on 19 mine_of → e ≡ output_by (bits_of / 4096) (muted o (buffer_at shared 33)) (window_at own 31) →
      e ≡ dim (on 19 mine_of) (buffer_at shared 33) (bits_of / 4096)
  unfolding party_of shared_of output seen_from
  window_3 q h =
      h ∙ ap (λ (t : Bool). output_by (bits_of / 4096) (muted t (buffer_at shared 33)) (window_at own 31)) q ∙
      ap (output_by (bits_of / 4096) (muted (on 19 mine_of) (buffer_at shared 33))) asked.windows.fourth

  -- the gauge that is stored is the outputs'
  pub gauge_told : {o0 o1 o2 o3 : Bool} {e f g h : Output} {some apart : Bool} {s x y z w : ℕ} →
      o0 ≡ on 16 mine_of → o1 ≡ on 17 mine_of → o2 ≡ on 18 mine_of → o3 ≡ on 19 mine_of →
      e ≡ output_by bits_of (muted o0 (buffer_at shared 21)) (window_at own 25) →
      f ≡ output_by (bits_of / 16) (muted o1 (buffer_at shared 25)) (window_at own 27) →
      g ≡ output_by (bits_of / 256) (muted o2 (buffer_at shared 29)) (window_at own 29) →
      h ≡ output_by (bits_of / 4096) (muted o3 (buffer_at shared 33)) (window_at own 31) →
      some ≡ some_set e f g h → s ≡ digit some → x ≡ columns_by e f g h → y ≡ rows_by e f g h →
      apart ≡ each_apart e f g h → z ≡ digit apart → w ≡ credit_by e f g h (get_or own 18 0) (channels_in (shared_of shared).mask seen_of) →
      gauge_from s x y z w ≡ gauge_of (shared_of shared).mask seen_of party.birth.edition
  unfolding gauge_of party_of
  gauge_told q0 q1 q2 q3 ea eb ec ed es e1 e2 e3 ep e4 e5 =
      let ka = window_0 q0 ea in
      let kb = window_1 q1 eb in
      let kc = window_2 q2 ec in
      let kd = window_3 q3 ed in
      λ k.
      gauge_from
      ((e1 ∙ ap digit (es ∙ (λ j. some_set (ka j) (kb j) (kc j) (kd j)) ∙ some_dim mine_of shared ∙ some_seen mine_of shared)) k)
      ((e2 ∙ (λ j. columns_by (ka j) (kb j) (kc j) (kd j)) ∙ columns_dim mine_of shared ∙ columns_seen mine_of shared) k)
      ((e3 ∙ (λ j. rows_by (ka j) (kb j) (kc j) (kd j)) ∙ rows_dim mine_of shared ∙ rows_seen mine_of shared) k)
      ((e4 ∙ ap digit (ep ∙ (λ j. each_apart (ka j) (kb j) (kc j) (kd j)) ∙ apart_dim mine_of shared ∙ disjoint_seen mine_of shared)) k)
      ((e5 ∙ (λ j. credit_by (ka j) (kb j) (kc j) (kd j) party.birth.edition (channels_in (shared_of shared).mask seen_of)) ∙
      credit_dim mine_of shared party.birth.edition (channels_in (shared_of shared).mask seen_of) ∙ credit_seen mine_of shared party.birth.edition) k)

  abbrev gauging : Gauge → Readiness
  gauging g = with_number (ready_by party.domain party.instructions g) (with_gauge g party.readiness)

  -- so what is kept is what the settings give
  gauged_kept : gauging (gauge_of (shared_of shared).mask seen_of party.birth.edition) ≡ readiness_for party (shared_of shared)
  unfolding worked_out party_of
  gauged_kept =
      λ k.
      record {
        number = readiness_gauged party.birth.edition (shared_of shared).mask seen_of party.domain party.instructions asked.domain.column_most asked.domain.row_most k;
        gauge = gauge_of (shared_of shared).mask seen_of party.birth.edition;
        window0 = asked.windows.first k;
        window1 = asked.windows.second k;
        window2 = asked.windows.third k;
        window3 = asked.windows.fourth k;
      }

  pub renew_told : {g : Gauge} → g ≡ gauge_of (shared_of shared).mask seen_of party.birth.edition → (l1 : List ℕ) →
      l1 ≡ party_cells (with_readiness (with_gauge g party.readiness) party) → (l2 : List ℕ) →
      l2 ≡ party_cells (settled (party_of l1 [])) → l2 ≡ party_cells (renewed (shared_of shared) party)
  renew_told e l1 e1 l2 e2 =
      e2 ∙ ap (λ (x : List ℕ). party_cells (settled (party_of x []))) e1 ∙
      unfold party_of party_cells in
      (ap (λ (x : Gauge). party_cells (with_readiness (gauging x) party)) e ∙
      ap (λ (r : Readiness). party_cells (with_readiness r party)) gauged_kept)

-- the number by compares, with what the code's tests found
pub settled_told : (own : List ℕ) {x y : Bool} {n : ℕ} →
    x ≡ (eqb (get_or own 8 0) 1 and (eqb (get_or own 13 0) 1 and eqb (get_or own 20 0) 1)) →
    y ≡ (ltb (get_or own 11 0) (get_or own 21 0) and ltb (get_or own 12 0) (get_or own 22 0)) →
    n ≡ first_of x y (eqb (get_or own 23 0) 1) → (l1 : List ℕ) →
    l1 ≡ party_cells (with_readiness (with_number n (party_of own []).readiness) (party_of own [])) →
    l1 ≡ party_cells (settled (party_of own []))
unfolding ready_by party_of
settled_told own ex ey en l1 e =
    e ∙
    ap (λ (m : ℕ). party_cells (with_readiness (with_number m (party_of own []).readiness) (party_of own [])))
    (en ∙ (λ k. first_of (ex k) (ey k) (eqb (get_or own 23 0) 1)))

pub kept_length : (p : Party) {l : List ℕ} → l ≡ party_cells p → length l ≡ own_length
unfolding party_cells
kept_length p e = ap length e

-- what an output leaves a domain
pub extent_counted : {t : Bool} (e : ℕ) → t ≡ true → e ≡ extent_left t e
unfolding extent_left
extent_counted e h = sym (pick_yes _ _ h)

pub extent_uncounted : {t : Bool} (e : ℕ) → t ≡ false → 4096 ≡ extent_left t e
unfolding extent_left
extent_uncounted e h = sym (pick_no _ _ h)

-- an output by its cells
pub output_told : (owned : Bool) (bits flag base format height step span : ℕ) {f : ℕ} {t : Bool} → f ≡ pick owned flag 0 → t ≡ counts_by bits f format →
    record { set = eqb f 1; counts = t; base = base; step = step; height = height; span = span } ≡
    output_by bits (muted owned (record { is_set = flag; base = base; format = format; height = height })) (window_from step span)
output_told owned bits flag base format height step span g e =
    λ k.
    record {
      set = eqb (g k) 1;
      counts = (e ∙ ap (λ (n : ℕ). counts_by bits n format) g) k;
      base = base;
      step = step;
      height = height;
      span = span;
    }

-- the lesser of two numbers, as the code takes it
pub lesser_min : (a b : ℕ) → min a b ≡ lesser a b
unfolding lesser pick
lesser_min a b = go (tested (ltb a b))
  where
    go : Tested (ltb a b) → min a b ≡ pick (ltb a b) a b
    go (holds t) = let less : a < b = ltb-true a b t in rw t (omega arith)
    go (fails t) = let most : b ≤ a = ltb-false a b t in rw t (omega arith)

-- a test as a digit, as the code converts it
pub digit_from : (t : Bool) → from_bool t ≡ digit t
unfolding digit
digit_from true = refl
digit_from false = refl

pub digit_told : (t : Bool) {n : ℕ} → n ≡ from_bool t → (n ≡ digit t) × (n ≤ 1)
unfolding digit
digit_told true e = (e, omega (arith, e))
digit_told false e = (e, omega (arith, e))

-- the number and the answer tell the same
first_given : (x y z : Bool) → number_told (told_first x y z) ≡ 0 → told_first x y z ≡ gives []
unfolding number_told pick
first_given true true true e = refl
first_given true true false e = absurd (omega arith)
first_given true false z e = absurd (omega arith)
first_given false y z e = absurd (omega arith)

first_refused_lem : (x y z : Bool) → (number_told (told_first x y z) ≡ 0 → ⊥) → told_first x y z ≡ refuses (number_told (told_first x y z))
unfolding number_told pick
first_refused_lem true true true n = absurd (n refl)
first_refused_lem true true false n = refl
first_refused_lem true false z n = refl
first_refused_lem false y z n = refl

first_number : (x y z : Bool) → (number_told (told_first x y z) ≡ 0 → ⊥) → IsNumber (number_told (told_first x y z))
unfolding number_told pick
first_number true true true n = absurd (n refl)
first_number true true false n = record { refusal = SpansShared; number = refl }
first_number true false z n = record { refusal = DomainOutside; number = refl }
first_number false y z n = record { refusal = StartUnset; number = refl }

module _ (d : Domain) (i : Buffer) (m : ℕ) (o : List Buffer) where
  pub number_given : readiness_of d i m o ≡ 0 → ready_of d i m o ≡ gives []
  unfolding readiness_of ready_of
  number_given e = first_given _ _ _ e

  pub number_refused : (readiness_of d i m o ≡ 0 → ⊥) → ready_of d i m o ≡ refuses (readiness_of d i m o)
  unfolding readiness_of ready_of
  number_refused n = first_refused_lem _ _ _ n

  -- so it is the number of a refusal where it isn't 0
  pub readiness_number : (readiness_of d i m o ≡ 0 → ⊥) → IsNumber (readiness_of d i m o)
  unfolding readiness_of ready_of
  readiness_number n = first_number _ _ _ n

-- what a start claims
pub pairs_most : (i0 j0 i1 j1 : ℕ) → ((i0 ≤ i1) × (i1 < 4096)) × ((j0 ≤ j1) × (j1 < 4096)) →
    (i1 - i0 + 1) * (j1 - j0 + 1) ≤ most_pairs
pairs_most i0 j0 i1 j1 h = mul-le-mul {n₂ = 4096} {m₂ = 4096} (omega (arith, h)) (omega (arith, h))

pub claim_fits : {p n : ℕ} → p ≤ most_pairs → n ≤ most_credit → p * n ≤ most_claim
claim_fits h k = mul-le-mul {n₂ = most_pairs} {m₂ = most_credit} h k

pub claim_told : (own : List ℕ) {p : ℕ} → (party_of own []).readiness.gauge.credit ≤ most_credit →
    (p ≡ (get_or own 11 0 - get_or own 9 0 + 1) * (get_or own 12 0 - get_or own 10 0 + 1)) × (p ≤ most_pairs) →
    (p * get_or own 24 0 ≡ pairs_of (party_of own []).domain * (party_of own []).readiness.gauge.credit) × (p * get_or own 24 0 ≤ most_claim)
unfolding pairs_of party_of
claim_told own k e = (ap (λ (x : ℕ). x * get_or own 24 0) e.0, claim_fits e.1 k)

-- the answer is the one that its number tells
first_answer : (x y z : Bool) →
    told_first x y z ≡ pick (eqb (number_told (told_first x y z)) 0) (gives []) (refuses (number_told (told_first x y z)))
unfolding number_told pick
first_answer true true true = refl
first_answer true true false = refl
first_answer true false z = refl
first_answer false y z = refl

pub readiness_answer : (d : Domain) (i : Buffer) (m : ℕ) (o : List Buffer) →
    ready_of d i m o ≡ pick (eqb (readiness_of d i m o) 0) (gives []) (refuses (readiness_of d i m o))
unfolding readiness_of ready_of
readiness_answer d i m o = first_answer _ _ _

-- the credit that is kept is the settings', so that the claim is
module _ (own tallies shared : List ℕ) (asked : OwnAsked own tallies shared) where
  abbrev edition : ℕ
  edition = (party_of own []).birth.edition

  abbrev seen_by : List Buffer
  seen_by = seen_outputs (party_of own []).birth.mine (shared_of shared).outputs

  credit_kept : (party_of own []).readiness.gauge.credit ≡ credit_of edition (shared_of shared).mask seen_by
  unfolding party_of worked_out gauge_of
  credit_kept = ap (λ (r : Readiness). r.gauge.credit) asked.kept

  pub claim_asked :
      ((party_of own []).readiness.gauge.credit ≤ most_credit) × DomainValid (party_of own []).domain
  claim_asked =
      (rw credit_kept (credit_bounded edition (shared_of shared).mask seen_by), unfold party_of in asked.domain)

  pub claim_kept : {n : ℕ} → n ≡ pairs_of (party_of own []).domain * (party_of own []).readiness.gauge.credit →
      n ≡ claim_for (party_of own []) (shared_of shared)
  unfolding claim_of
  claim_kept e = e ∙ ap (λ (x : ℕ). pairs_of (party_of own []).domain * x) credit_kept

pub credit_most : (own : List ℕ) → (party_of own []).readiness.gauge.credit ≤ most_credit → get_or own 24 0 ≤ most_credit
unfolding party_of
credit_most own k = k

pub domain_places : (own : List ℕ) → DomainValid (party_of own []).domain →
    ((get_or own 9 0 ≤ get_or own 11 0) × (get_or own 11 0 < 4096)) × ((get_or own 10 0 ≤ get_or own 12 0) × (get_or own 12 0 < 4096))
unfolding party_of
domain_places own v = ((v.columns, v.column_most), (v.rows, v.row_most))
