-- A run of a row's addresses: what its routines ask for, and what one run more leaves. Assumes nothing.
use mathlib.Core.Path.{◌≡◌, refl, sym, ap, ap₂, ◌∙◌, subst}
use mathlib.Core.Bool.{Bool, true, false}
use mathlib.Core.List.{List, [], ◌∷◌, ◌++◌, append_assoc}
use Prim.Native.Nat.{ℕ, zero, suc, ◌+◌, ◌-◌, ◌*◌, ◌/◌, ◌%◌, ◌<◌, ◌≤◌, ◌^◌}
use native.Mathlib.Nat.{add-mul, mul-le-mul_right, mod-lt, div-add-mod'}
use native.Mathlib.Omega.{arith}
use lib.Arith.{digits_mod}
use borrow.Rule.Slice.PartMut.{post_of}
use lib.ListN.{length, take, drop, length-append, length-drop, take-append-drop}
use lib.Seq.{drop-drop, length-take-le, drop-length}
use Rattle.address.specs.Offset.{offset_of}
use Rattle.laws.specs.Choice.{pick, place_of}
use Rattle.layout.specs.Sizes.{is_size}
use Rattle.layout.proofs.Sizes.{by_size}
use Rattle.address.specs.Run.{run_unit, run_number}
use Rattle.address.specs.Asked.{PairAsked}
use Rattle.memory.specs.Elements.{overwritten}
use Rattle.memory.proofs.Copies.{put_back, overwritten_front}
use Rattle.address_rows.specs.Rows.{listed, element_at, RowAsked, RunAsked, RunBegins, written}
use Rattle.address_rows.proofs.Listed.{listed_length, listed_both, listed_same}

-- a part put right after another
overwritten_next :
    (a b : ℕ) (p q l : List ℕ) → a ≤ length l → b ≡ a + length p →
    overwritten b q (overwritten a p l) ≡ overwritten a (p ++ q) l
unfolding overwritten
overwritten_next a b p q l h e =
    ap (overwritten b q) (sym (append_assoc (take a l) p (drop (a + length p) l))) ∙
    overwritten_front (take a l ++ p) (drop (a + length p) l) q b front ∙
    ap₂ (λ (u v : List ℕ). u ++ v) (append_assoc (take a l) p q) last ∙
    append_assoc (take a l) (p ++ q) (drop (a + length (p ++ q)) l)
  where
    front : length (take a l ++ p) ≡ b
    front = length-append (take a l) p ∙ ap (λ (n : ℕ). n + length p) (length-take-le a l h) ∙ sym e

    last : drop (length q) (drop (a + length p) l) ≡ drop (a + length (p ++ q)) l
    last = drop-drop (length q) (a + length p) l ∙ ap (λ (n : ℕ). drop n l) {x = a + length p + length q} {y = a + length (p ++ q)}
        (let j = length-append p q in omega (arith, j))

-- no place written yet, one stretch of places more, and all of them
pub written_none : (f : ℕ → ℕ) (i : ℕ) (l : List ℕ) → i ≤ length l → written f i i l ≡ l
unfolding overwritten
written_none f i l h =
    ap (λ (n : ℕ). overwritten i (listed f i n) l) {x = i - i} {y = 0} (omega arith) ∙
    ap (λ (n : ℕ). take i l ++ drop n l) {x = i + 0} {y = i} (omega arith) ∙ take-append-drop i l

pub written_next :
    (f : ℕ → ℕ) (from i end : ℕ) (l room room' : List ℕ) → from ≤ i → i ≤ end → from ≤ length l →
    room ≡ written f from i l → room' ≡ written f i end room → room' ≡ written f from end l
written_next f from i end l room room' h k few before after =
    after ∙ ap (overwritten i (listed f i (end - i))) before ∙
    overwritten_next from i (listed f from (i - from)) (listed f i (end - i)) l few
    (let n = listed_length f from (i - from) in omega (arith, n, h)) ∙
    ap (λ (p : List ℕ). overwritten from p l) (sym both)
  where
    both : listed f from (end - from) ≡ listed f from (i - from) ++ listed f i (end - i)
    both =
        ap (listed f from) {x = end - from} {y = (i - from) + (end - i)} (omega (arith, h, k)) ∙ listed_both f from (i - from) (end - i) ∙
        ap (λ (n : ℕ). listed f from (i - from) ++ listed f n (end - i)) {x = from + (i - from)} {y = i} (omega (arith, h))

written_length : (f : ℕ → ℕ) (i end : ℕ) (l : List ℕ) → i ≤ end → end ≤ length l → length (written f i end l) ≡ length l
unfolding overwritten
written_length f i end l h k =
    length-append (take i l) (listed f i (end - i) ++ drop (i + length (listed f i (end - i))) l) ∙
    (let a = length-take-le i l (omega (arith, h, k)) in
    let b = length-append (listed f i (end - i)) (drop (i + length (listed f i (end - i))) l) in
    let n = listed_length f i (end - i) in
    let d = length-drop (i + length (listed f i (end - i))) l in omega (arith, a, b, n, d, h, k))

pub written_long :
    (f : ℕ → ℕ) (i end : ℕ) (l room : List ℕ) → i ≤ end → end ≤ length l → room ≡ written f i end l → length room ≡ length l
written_long f i end l room h k left = ap length left ∙ written_length f i end l h k

pub written_all : (f : ℕ → ℕ) (l room : List ℕ) → room ≡ written f 0 (length l) l → room ≡ listed f 0 (length l)
unfolding overwritten
written_all f l room e =
    e ∙
    ap (λ (n : ℕ). listed f 0 (length l - 0) ++ drop n l) {x = 0 + length (listed f 0 (length l - 0))} {y = length l}
    (let n = listed_length f 0 (length l - 0) in omega (arith, n)) ∙
    ap₂ (λ (a : ℕ) (q : List ℕ). listed f 0 a ++ q) {x = length l - 0} {y = length l} (omega arith) (drop-length l) ∙
    mathlib.Core.List.append-nil (listed f 0 (length l))

-- a column of the row
module _ {base s : ℕ} {tiled : Bool} {stride x y count : ℕ} (asked : RowAsked base s tiled stride x y count) (i : ℕ) (more : i < count) where
  column : x + i < stride / s
  column = omega (arith, asked.columns, more)

  pub column_bytes : (x + i) * s < stride
  column_bytes =
      let up : (x + i + 1) * s ≤ stride / s * s = mul-le-mul_right s (let q : x + i + 1 ≤ stride / s = omega (arith, column) in q) in
      let g = add-mul (x + i) 1 s in
      omega (arith, up, g, asked.whole, asked.least)

  pub pair_asked : PairAsked s (stride / s) (x + i) y
  pair_asked = record { size = asked.size; step = asked.step; column = column; row = asked.row }

pub first_bytes : {base s : ℕ} {tiled : Bool} {stride x y count : ℕ} → RowAsked base s tiled stride x y count → 0 < count → x * s < stride
first_bytes {s = s} {stride = stride} {x = x} asked more = subst (λ (n : ℕ). n * s < stride) {x = x + 0} {y = x} (omega arith) (column_bytes asked 0 more)

module _
    {base s : ℕ} {tiled : Bool} {stride x y count i end : ℕ} (asked : RowAsked base s tiled stride x y count)
    (run : RunAsked tiled s (stride / s) x count i end) where
  abbrev e : ℕ
  e = stride / s

  abbrev f : ℕ → ℕ
  f = element_at base s tiled e x y

  more : i < count
  more = omega (arith, run.some, run.inside)

  module _ (off : ℕ) (off_is : off ≡ offset_of tiled s e (x + i) y) where
    -- the run's elements follow each other
    follows : (j : ℕ) → j < end - i → offset_of tiled s e (x + i + j) y ≡ off + j * s
    follows j h = asked.follow (x + i) j (column asked i more) (omega (arith, run.within, h)) ∙ ap (λ (q : ℕ). q + j * s) (sym off_is)

    pub end_fits : base + off + (end - i) * s ≤ 2 ^ 32
    end_fits =
        let many = end - i in
        let last = asked.below (x + i + (many - 1)) (omega (arith, asked.columns, run.some, run.inside)) in
        let at = follows (many - 1) (omega (arith, run.some)) in
        let h = add-mul (many - 1) 1 s in
        let g : (many - 1 + 1) * s ≡ many * s = ap (λ (q : ℕ). q * s) {x = many - 1 + 1} {y = many} (omega (arith, run.some)) in
        omega (arith, last, at, h, g)

    pub at_fits : base + off < 2 ^ 32
    at_fits =
        let up : 1 * s ≤ (end - i) * s = mul-le-mul_right s (let q : 1 ≤ end - i = omega (arith, run.some) in q) in
        omega (arith, end_fits, up, asked.least)

    -- the run's part of the room
    part_long : (room : List ℕ) → length room ≡ count → length (take (end - i) (drop i room)) ≡ end - i
    part_long room long =
        length-take-le (end - i) (drop i room) (omega (arith, length-drop i room, long, run.inside))

    pub fill_asked :
        (room : List ℕ) → length room ≡ count →
        (base + off + length (take (end - i) (drop i room)) * s ≤ 2 ^ 32) × (length (take (end - i) (drop i room)) ≤ 4096) × (0 < s)
    fill_asked room long =
        let n = part_long room long in
        (subst (λ (q : ℕ). base + off + q * s ≤ 2 ^ 32) (sym n) end_fits, omega (arith, n, run.inside, asked.columns, asked.step), asked.least)

    -- the room with the run put back
    pub put_in :
        (room last : List ℕ) → length room ≡ count →
        last ≡ listed (λ j. base + off + j * s) 0 (length (take (end - i) (drop i room))) →
        take i room ++ (last ++ post_of i (end - i) room) ≡ written f i end room
    put_in room last long told =
        put_back room (listed f i (end - i)) last i end (told ∙ ap (listed (λ j. base + off + j * s) 0) (part_long room long) ∙ part_is)
        (let n = listed_length f i (end - i) in omega (arith, n, run.some))
      where
        part_is : listed (λ j. base + off + j * s) 0 (end - i) ≡ listed f i (end - i)
        part_is =
            listed_same (λ j. base + off + j * s) f 0 i (end - i)
            (λ k hk.
            let at = follows k hk in
            let same : offset_of tiled s e (x + i + k) y ≡ offset_of tiled s e (x + (i + k)) y = ap (λ (q : ℕ). offset_of tiled s e q y) {x = x + i + k} {y = x + (i + k)} (omega arith) in
            let none : (0 + k) * s ≡ k * s = ap (λ (q : ℕ). q * s) {x = 0 + k} {y = k} (omega arith) in
            omega (arith, at, same, none))

-- what the smaller of a run and the places left has
abbrev pub Few : ℕ → ℕ → ℕ → Type 0
Few run left many = (many ≤ run) × (many ≤ left) × (many < left → many ≡ run)

some_many : (run left many : ℕ) → 0 < run → 0 < left → (many < left → many ≡ run) → 0 < many
some_many run left zero r l h = omega (arith, r, h l)
some_many run left (suc n) r l h = omega arith

-- the places from i on that are in its run
pub run_rest :
    {base s stride x y count i : ℕ} {tiled : Bool} (run many end : ℕ) → RowAsked base s tiled stride x y count → i < count →
    run ≡ run_number tiled s (stride / s) (x + i) → Few run (count - i) many → end ≡ i + many →
    RunAsked tiled s (stride / s) x count i end
run_rest {x = x} {count = count} {i = i} run many end asked more run_is few end_is =
    let least = asked.some (x + i) (omega (arith, asked.columns, more)) in
    let some = some_many run (count - i) many (omega (arith, run_is, least)) (omega (arith, more)) few.2 in
    record {
      some = omega (arith, end_is, some);
      inside = omega (arith, end_is, few.1, more);
      within = omega (arith, end_is, few.0, run_is);
    }

-- the same from the first place on
pub first_run :
    {base s stride x y count : ℕ} {tiled : Bool} (run head : ℕ) → RowAsked base s tiled stride x y count → 0 < count →
    run ≡ run_number tiled s (stride / s) x → Few run count head → RunAsked tiled s (stride / s) x count 0 head
first_run {s = s} {stride = stride} {x = x} {count = count} {tiled = tiled} run head asked some run_is few =
    run_rest run head head asked some (run_is ∙ ap (run_number tiled s (stride / s)) {x = x} {y = x + 0} (omega arith))
    (few.0, omega (arith, few.1), λ h. few.2 (omega (arith, h))) (omega arith)

-- a linear row is one run
pub linear_run :
    {base s stride x y count : ℕ} → RowAsked base s false stride x y count → 0 < count → RunAsked false s (stride / s) x count 0 count
unfolding run_number pick
linear_run asked some = record { some = some; inside = omega arith; within = omega (arith, asked.columns) }

-- in tiles a row stands in groups of so many elements
pub unit_some : (s : ℕ) → is_size s ≡ true → 0 < run_unit s
unfolding run_unit place_of pick
unit_some = by_size (λ s. 0 < run_unit s) (omega arith) (omega arith) (omega arith) (omega arith) (omega arith)

multiple : (n q u : ℕ) → 0 < u → n ≡ q * u → n % u ≡ 0
multiple n q u some e = ap (λ (k : ℕ). k % u) {x = n} {y = q * u + 0} (omega (arith, e)) ∙ digits_mod q some

module _ {base s stride x y count : ℕ} (asked : RowAsked base s true stride x y count) where
  abbrev u : ℕ
  u = run_unit s

  u_some : 0 < u
  u_some = unit_some s asked.size

  pub whole_run :
      {i : ℕ} (unit : ℕ) → unit ≡ run_unit s → RunBegins s x count i → unit ≤ count - i → RunAsked true s (stride / s) x count i (i + unit)
  unfolding run_number pick
  whole_run {i} unit unit_is begins fits =
      let here = begins.begins (omega (arith, u_some, unit_is, fits)) in
      record {
        some = omega (arith, u_some, unit_is);
        inside = omega (arith, u_some, unit_is, fits);
        within = omega (arith, here, unit_is);
      }

  pub begins_next :
      {i : ℕ} (unit : ℕ) → unit ≡ run_unit s → RunBegins s x count i → unit ≤ count - i → RunBegins s x count (i + unit)
  begins_next {i} unit unit_is begins fits =
      let here = begins.begins (omega (arith, u_some, unit_is, fits)) in
      let whole = div-add-mod' (x + i) u in
      let one_more = add-mul ((x + i) / u) 1 u in
      record {
        inside = omega (arith, u_some, unit_is, fits);
        begins = λ _. multiple (x + (i + unit)) ((x + i) / u + 1) u u_some (omega (arith, here, whole, one_more, unit_is));
      }

  -- behind the rest of the first run
  pub begins_first : (run head : ℕ) → run ≡ run_number true s (stride / s) x → Few run count head → RunBegins s x count head
  unfolding run_number pick
  begins_first run head run_is few =
      let whole = div-add-mod' x u in
      let rest = mod-lt x u_some in
      let one_more = add-mul (x / u) 1 u in
      record {
        inside = few.1;
        begins = λ h. multiple (x + head) (x / u + 1) u u_some (omega (arith, few.2 h, run_is, whole, rest, one_more));
      }

  -- what is left behind the last whole run
  pub last_run :
      (i : ℕ) → RunBegins s x count i → count - i < run_unit s → i < count → RunAsked true s (stride / s) x count i count
  unfolding run_number pick
  last_run i begins few more =
      let here = begins.begins more in record { some = more; inside = omega arith; within = omega (arith, here, few) }

-- an arm of a `match` on the size: s is the size, n the arm's number
pub row_arm :
    {base s stride x y count n : ℕ} {tiled : Bool} → s ≡ n → RowAsked base s tiled stride x y count → RowAsked base n tiled stride x y count
row_arm {base} {s} {stride} {x} {y} {count} {n} {tiled} is asked = subst (λ (k : ℕ). RowAsked base k tiled stride x y count) is asked

-- and of one on the kind
pub kind_arm :
    {base s stride x y count : ℕ} {tiled kind : Bool} → tiled ≡ kind → RowAsked base s tiled stride x y count → RowAsked base s kind stride x y count
kind_arm {base} {s} {stride} {x} {y} {count} is asked = subst (λ (k : Bool). RowAsked base s k stride x y count) is asked

pub begins_arm : {s x count i n : ℕ} → s ≡ n → RunBegins s x count i → RunBegins n x count i
begins_arm {s} {x} {count} {i} is begins = subst (λ (k : ℕ). RunBegins k x count i) is begins

-- a room of the same length asks for the same
pub long_row :
    {base s stride x y n m : ℕ} {tiled : Bool} → n ≡ m → RowAsked base s tiled stride x y m → RowAsked base s tiled stride x y n
long_row {base} {s} {stride} {x} {y} {n} {m} {tiled} same = subst (λ (k : ℕ). RowAsked base s tiled stride x y k) (sym same)

pub long_run : {s e x n m i end : ℕ} {tiled : Bool} → n ≡ m → RunAsked tiled s e x m i end → RunAsked tiled s e x n i end
long_run {s} {e} {x} {n} {m} {i} {end} {tiled} same = subst (λ (k : ℕ). RunAsked tiled s e x k i end) (sym same)

pub long_begins : {s x n m i : ℕ} → n ≡ m → RunBegins s x m i → RunBegins s x n i
long_begins {s} {x} {n} {m} {i} same = subst (λ (k : ℕ). RunBegins s x k i) (sym same)

-- the row in three stretches, or in two
pub in_three :
    (f : ℕ → ℕ) (head past : ℕ) (l a b room : List ℕ) → head ≤ past → past ≤ length l → a ≡ written f 0 head l → b ≡ written f head past a →
    room ≡ written f past (length l) b → room ≡ listed f 0 (length l)
in_three f head past l a b room h k first second third =
    written_all f l room
    (written_next f 0 past (length l) l b room (omega arith) k (omega arith)
    (written_next f 0 head past l a b (omega arith) h (omega arith) first second) third)

pub in_two :
    (f : ℕ → ℕ) (head past : ℕ) (l a room : List ℕ) → head ≤ past → past ≡ length l → a ≡ written f 0 head l → room ≡ written f head past a →
    room ≡ listed f 0 (length l)
in_two f head past l a room h k first second =
    written_all f l room
    (written_next f 0 head past l a room (omega arith) h (omega arith) first second ∙ ap (λ (n : ℕ). written f 0 n l) k)
