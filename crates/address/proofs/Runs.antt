-- Request 8's run: its length by the formula, and that it is the longest. The size is open but in two places: how many elements a
-- group has (`group_of`), and that a row step is a whole number of groups (`whole_groups`). Assumes nothing.
use Rattle.std.proofs.Common.{◌≡◌, ℕ, zero, suc, ◌+◌, ◌-◌, ◌*◌, ◌/◌, ◌%◌, ◌^◌, ◌<◌, ◌≤◌, Bool, true, false, not, eqb, ltb, [], ◌∷◌, sym, refl, ap, ◌∙◌, subst, mul-le-mul_right, mod-lt, mul_assoc, mul_comm, div-lt_iff_lt-mul, add-mul, lt_of_mul-lt-mul_right, div-add-mod', mul-div_cancel, arith, ltb-false, ltb-true, eq-eqb, ne_eqb}
use native.Mathlib.Nat.{div-div-eq-div-mul}
use lib.Arith.{digits_div, digits_mod}
use lib.Count.{count_trailing_zeros}
use Rattle.laws.specs.Below.{least}
use Rattle.laws.specs.Bits.{bit}
use Rattle.laws.specs.Choice.{pick, place_of}
use Rattle.laws.proofs.Below.{least_at, least_before}
use Rattle.laws.proofs.Choice.{pick_yes, pick_no, Tested, tested, holds, fails}
use Rattle.refusal.specs.Told.{gives}
use Rattle.layout.specs.Sizes.{is_size, width_of, height_of}
use Rattle.layout.specs.declared.Layout.{Layout}
use Rattle.layout.proofs.Sizes.{by_size, Tile}
use Rattle.address.specs.Offset.{block_width, block_height, code_of, inside_of, tiled_offset, linear_offset, offset_of}
use Rattle.address.specs.Address.{step_of, address_of, breaks, run_of, locate_of}
use Rattle.address.specs.Inverse.{Accepted, Inside}
use Rattle.address.specs.Run.{Run, Longest, run_unit, run_number}
use Rattle.address.proofs.Offsets.{blocks}
use Rattle.address.proofs.Inverse.{grid, inverse}

-- the elements of a row y: x = X·p + b, column b of the block X
module _ (s : ℕ) (t : Tile s (block_width s) (block_height s)) (e y : ℕ) where
  abbrev p : ℕ
  p = block_width s

  abbrev q : ℕ
  q = block_height s

  abbrev tiles : ℕ
  tiles = y / height_of s * (e / width_of s)

  -- an offset by the block's column X and the element's column b in it
  by_block :
      (X b : ℕ) → b < p →
      tiled_offset s e (X * p + b) y ≡ 2048 * (tiles + X / 8) + 32 * code_of X (y / q) + (y % q * p * s + b * s)
  unfolding tiled_offset inside_of
  by_block X b h =
      rw (t.width, sym (div-div-eq-div-mul (X * p + b) p 8), digits_div X h, digits_mod X h, add-mul (y % q * p) b s)
      (omega arith)

  abbrev start : ℕ → ℕ
  start X = 2048 * (tiles + X / 8) + 32 * code_of X (y / q) + y % q * p * s

  -- a row in groups of g elements that follow each other, and after each group the next doesn't
  pub record Groups (g : ℕ) : Type 0 where
    pub pos : 0 < g
    pub begin : ℕ → ℕ
    pub element : (Z b : ℕ) → b < g → tiled_offset s e (Z * g + b) y ≡ begin Z + b * s
    pub jump : (Z : ℕ) → begin (suc Z) ≡ begin Z + g * s → ⊥

  -- a group is a block's row where that is less than 32 bytes: blocks stand at multiples of 32
  narrow : 0 < p * s → p * s < 32 → Groups p
  narrow least most =
      record { pos = t.p_pos; begin = start; element = λ Z b h. by_block Z b h ∙ omega arith; jump = λ Z same. omega arith }

  -- Where a block's row is 32 bytes, a block with an even column and the one to its right are a group: their codes differ by 1
  half : (Z k : ℕ) → suc (Z * 2) / (2 * k) ≡ Z * 2 / (2 * k)
  half Z k =
      sym (div-div-eq-div-mul (suc (Z * 2)) 2 k) ∙ ap (λ (n : ℕ). n / k) {x = suc (Z * 2) / 2} {y = Z * 2 / 2} (omega arith) ∙
      div-div-eq-div-mul (Z * 2) 2 k

  next_code : (Z Y : ℕ) → code_of (suc (Z * 2)) Y ≡ suc (code_of (Z * 2) Y)
  unfolding code_of
  next_code Z Y = rw (bit3, bit2, bit1, odd, even) (omega arith)
    where
      bit3 : bit 3 (suc (Z * 2)) ≡ bit 3 (Z * 2)
      bit3 = ap (λ (n : ℕ). n % 2) (half Z 4)

      bit2 : bit 2 (suc (Z * 2)) ≡ bit 2 (Z * 2)
      bit2 = ap (λ (n : ℕ). n % 2) (half Z 2)

      bit1 : bit 1 (suc (Z * 2)) ≡ bit 1 (Z * 2)
      bit1 = ap (λ (n : ℕ). n % 2) (half Z 1)

      odd : bit 0 (suc (Z * 2)) ≡ 1
      odd = omega arith

      even : bit 0 (Z * 2) ≡ 0
      even = omega arith

  -- and the code of an even column is, but for bit 1, which is the row's, a multiple of 4: no two of them differ by 2
  low_code : (Z Y : ℕ) → code_of (Z * 2) Y % 4 ≡ 2 * bit 0 Y
  unfolding code_of
  low_code Z Y = rw even (rest _ _ _ _ (bit 0 Y) (omega arith))
    where
      even : bit 0 (Z * 2) ≡ 0
      even = omega arith

      rest : (a b c d f : ℕ) → f < 2 → (32 * a + 16 * b + 8 * c + 4 * d + 2 * f + 0) % 4 ≡ 2 * f
      rest a b c d f h = omega arith

  far : (M N c d f A : ℕ) → 2048 * N + 32 * d + A ≡ 2048 * M + 32 * c + A + 64 → c % 4 ≡ 2 * f → d % 4 ≡ 2 * f → ⊥
  far M N c d f A same hc hd = quarters (c / 4) (d / 4) (omega (arith, div-add-mod' c 4, div-add-mod' d 4))
    where
      quarters : (j k : ℕ) → 64 * N + 4 * k ≡ 64 * M + 4 * j + 2 → ⊥
      quarters j k h = omega arith

  wide : p * s ≡ 32 → Groups (p * 2)
  wide whole =
      record {
        pos = omega (arith, t.p_pos);
        begin = λ Z. start (Z * 2);
        element = λ Z b h. go Z b h (tested (ltb b p));
        jump = never;
      }
    where
      left : (Z b : ℕ) → Z * (p * 2) + b ≡ Z * 2 * p + b
      left Z b = omega (arith, mul_assoc Z p 2, mul_assoc Z 2 p)

      right : (Z b : ℕ) → p ≤ b → Z * (p * 2) + b ≡ suc (Z * 2) * p + (b - p)
      right Z b h = omega (arith, mul_assoc Z p 2, mul_assoc Z 2 p, add-mul (Z * 2) 1 p)

      go : (Z b : ℕ) → b < p * 2 → Tested (ltb b p) → tiled_offset s e (Z * (p * 2) + b) y ≡ start (Z * 2) + b * s
      go Z b h (holds c) =
          ap (λ (n : ℕ). tiled_offset s e n y) (left Z b) ∙ by_block (Z * 2) b (ltb-true b p c) ∙ omega arith
      go Z b h (fails c) =
          let k : p ≤ b = ltb-false b p c in
          let bytes : b * s ≡ (b - p) * s + p * s = ap (λ (n : ℕ). n * s) {x = b} {y = b - p + p} (omega arith) ∙ add-mul (b - p) p s in
          ap (λ (n : ℕ). tiled_offset s e n y) (right Z b k) ∙ by_block (suc (Z * 2)) (b - p) (omega arith) ∙
          omega (arith, next_code Z (y / q), half Z 4)

      never : (Z : ℕ) → start (suc Z * 2) ≡ start (Z * 2) + p * 2 * s → ⊥
      never Z same =
          far (tiles + Z * 2 / 8) (tiles + suc Z * 2 / 8) (code_of (Z * 2) (y / q)) (code_of (suc Z * 2) (y / q)) (bit 0 (y / q))
          (y % q * p * s) (same ∙ ap (λ (n : ℕ). start (Z * 2) + n) bytes) (low_code Z (y / q)) (low_code (suc Z) (y / q))
        where
          bytes : p * 2 * s ≡ 64
          bytes =
              mul_assoc p 2 s ∙ ap (λ (n : ℕ). p * n) (mul_comm 2 s) ∙ sym (mul_assoc p s 2) ∙ ap (λ (n : ℕ). n * 2) whole

-- which of the two a size is
data Group (s : ℕ) : Type 0 where
  one_block : run_unit s ≡ block_width s → 0 < block_width s * s → block_width s * s < 32 → Group s
  two_blocks : run_unit s ≡ block_width s * 2 → block_width s * s ≡ 32 → Group s

group_of : (s : ℕ) → is_size s ≡ true → Group s
unfolding run_unit block_width width_of place_of
group_of =
    by_size Group (one_block refl (omega arith) (omega arith)) (one_block refl (omega arith) (omega arith))
    (one_block refl (omega arith) (omega arith)) (one_block refl (omega arith) (omega arith)) (two_blocks refl refl)

pub groups : (s e y : ℕ) (size : is_size s ≡ true) → Groups s (blocks s size) e y (run_unit s)
groups s e y size = go (group_of s size)
  where
    go : Group s → Groups s (blocks s size) e y (run_unit s)
    go (one_block same least most) = subst (Groups s (blocks s size) e y) (sym same) (narrow s (blocks s size) e y least most)
    go (two_blocks same whole) = subst (Groups s (blocks s size) e y) (sym same) (wide s (blocks s size) e y whole)

-- a tiled row from column x on
module _ (s e x y : ℕ) (size : is_size s ≡ true) where
  abbrev g : ℕ
  g = run_unit s

  abbrev row : Groups s (blocks s size) e y g
  row = groups s e y size

  in_group : x % g < g
  in_group = mod-lt x row.pos

  here : tiled_offset s e x y ≡ row.begin (x / g) + x % g * s
  here = ap (λ (n : ℕ). tiled_offset s e n y) (sym (div-add-mod' x g)) ∙ row.element (x / g) (x % g) in_group

  -- the rest of the group follows
  pub tiled_at : (k : ℕ) → k < g - x % g → tiled_offset s e (x + k) y ≡ tiled_offset s e x y + k * s
  tiled_at k h =
      ap (λ (n : ℕ). tiled_offset s e n y) {x = x + k} {y = x / g * g + (x % g + k)} (omega (arith, div-add-mod' x g)) ∙
      row.element (x / g) (x % g + k) (omega (arith, h, in_group)) ∙ omega (arith, here, add-mul (x % g) k s)

  -- and the next group doesn't
  pub tiled_ends : tiled_offset s e (x + (g - x % g)) y ≡ tiled_offset s e x y + (g - x % g) * s → ⊥
  tiled_ends same = row.jump (x / g) (omega (arith, next, here, same, parts))
    where
      next : tiled_offset s e (x + (g - x % g)) y ≡ row.begin (suc (x / g)) + 0 * s
      next =
          ap (λ (n : ℕ). tiled_offset s e n y) {x = x + (g - x % g)} {y = suc (x / g) * g + 0}
          (omega (arith, div-add-mod' x g, in_group, add-mul 1 (x / g) g)) ∙
          row.element (suc (x / g)) 0 row.pos

      parts : x % g * s + (g - x % g) * s ≡ g * s
      parts = sym (add-mul (x % g) (g - x % g) s) ∙ ap (λ (n : ℕ). n * s) {x = x % g + (g - x % g)} {y = g} (omega (arith, in_group))

-- a row step is a whole number of groups
whole_groups : (s : ℕ) → is_size s ≡ true → (e : ℕ) → e / width_of s * width_of s ≡ e → e % run_unit s ≡ 0
unfolding run_unit width_of place_of
whole_groups =
    by_size (λ s. (e : ℕ) → e / width_of s * width_of s ≡ e → e % run_unit s ≡ 0) (λ e h. omega arith) (λ e h. omega arith)
    (λ e h. omega arith) (λ e h. omega arith) (λ e h. omega arith)

-- so the rest of a group stays in the row
group_fits : (e x : ℕ) → x < e → (g : ℕ) → 0 < g → e % g ≡ 0 → x + (g - x % g) ≤ e
group_fits e x hx g pos whole =
    omega (arith, div-add-mod' x g, div-add-mod' e g, mod-lt x pos, add-mul (x / g) 1 g, mul-le-mul_right g below, whole)
  where
    below : x / g + 1 ≤ e / g
    below = omega (arith, (div-lt_iff_lt-mul {x = x} {y = e / g} pos).1 (omega (arith, div-add-mod' e g, whole)))

-- a linear row
linear_at : (s e x y k : ℕ) → linear_offset s e (x + k) y ≡ linear_offset s e x y + k * s
unfolding linear_offset
linear_at s e x y k = ap (λ (n : ℕ). n * s) {x = y * e + (x + k)} {y = y * e + x + k} (omega arith) ∙ add-mul (y * e + x) k s

-- what the formula gives: elements that follow each other in the row, and the next doesn't
record Follows (tiled : Bool) (s e x y n : ℕ) : Type 0 where
  pub one : 1 ≤ n
  pub within : x + n ≤ e
  pub at : (k : ℕ) → k < n → offset_of tiled s e (x + k) y ≡ offset_of tiled s e x y + k * s
  pub ends : x + n < e → offset_of tiled s e (x + n) y ≡ offset_of tiled s e x y + n * s → ⊥

follows :
    (tiled : Bool) (s e x y : ℕ) → is_size s ≡ true → x < e → (tiled ≡ true → e / width_of s * width_of s ≡ e) →
    Follows tiled s e x y (run_number tiled s e x)
unfolding run_number offset_of pick
follows true s e x y size hx whole =
    record {
      one = omega (arith, in_group s e x y size);
      within = group_fits e x hx (run_unit s) (groups s e y size).pos (whole_groups s size e (whole refl));
      at = tiled_at s e x y size;
      ends = λ h. tiled_ends s e x y size;
    }
follows false s e x y size hx whole =
    record {
      one = omega arith;
      within = omega arith;
      at = λ k h. linear_at s e x y k;
      ends = λ h. absurd (past h);
    }
  where
    past : x + (e - x) < e → ⊥
    past h = omega arith

-- the first number at which a test holds
pub clash : true ≡ false → ⊥
clash e = let z : ◌≡◌ {A = ℕ} 0 1 = cc in omega arith

least_most : (k : ℕ) (f : ℕ → Bool) → least k f ≤ k
unfolding least pick
least_most zero f = omega arith
least_most (suc k) f = go (f zero) (least_most k (λ i. f (suc i)))
  where
    go : (b : Bool) → least k (λ i. f (suc i)) ≤ k → pick b 0 (suc (least k (λ i. f (suc i)))) ≤ suc k
    go true h = omega arith
    go false h = omega arith

least_is :
    (k n : ℕ) (f : ℕ → Bool) → n ≤ k → ((i : ℕ) → i < n → f i ≡ false) → (n < k → f n ≡ true) → least k f ≡ n
least_is k n f small before here = go (tested (ltb (least k f) n)) (tested (ltb n (least k f)))
  where
    go : Tested (ltb (least k f) n) → Tested (ltb n (least k f)) → least k f ≡ n
    go (holds a) b =
        let h : least k f < n = ltb-true _ _ a in
        absurd (clash (sym (least_at k f (omega arith)) ∙ before (least k f) h))
    go (fails a) (holds b) =
        let h : n < least k f = ltb-true _ _ b in
        absurd (clash (sym (here (omega (arith, least_most k f))) ∙ least_before k f n h))
    go (fails a) (fails b) =
        let h : n ≤ least k f = ltb-false _ _ a in
        let h' : least k f ≤ n = ltb-false _ _ b in
        omega arith

eq_not : (a b : ℕ) → a ≡ b → not (eqb a b) ≡ false
eq_not a b h = ap not (eq-eqb a b h)

ne_not : (a b : ℕ) → (a ≡ b → ⊥) → not (eqb a b) ≡ true
ne_not a b h = ap not (ne_eqb a b h)

-- a pair inside the window of an accepted layout
module _ (l : Layout) (accepted : Accepted l) (x y : ℕ) (i : Inside l x y) where
  abbrev e : ℕ
  e = step_of l

  abbrev n : ℕ
  n = run_number l.tiled l.size e x

  found : Follows l.tiled l.size e x y n
  found = follows l.tiled l.size e x y (grid l accepted).size i.column (grid l accepted).whole

  at : (k : ℕ) → k < n → address_of l (x + k) y ≡ address_of l x y + k * l.size
  unfolding address_of
  at k h = omega (arith, found.at k h)

  ends : x + n < e → address_of l (x + n) y ≡ address_of l x y + n * l.size → ⊥
  unfolding address_of
  ends h same = found.ends h (omega arith)

  -- from one element to the next
  follow : (k : ℕ) → suc k < n → address_of l (x + suc k) y ≡ address_of l (x + k) y + l.size
  follow k h = omega (arith, at (suc k) h, at k (omega arith), add-mul k 1 l.size)

  -- the run is the formula's
  pub run_number_lem : run_of l x y ≡ n
  unfolding run_of breaks
  run_number_lem = least_is (e - x) n (breaks l x y) (omega (arith, found.within)) before (λ h. here n refl found.one (omega arith))
    where
      before : (k : ℕ) → k < n → breaks l x y k ≡ false
      before zero h = refl
      before (suc k) h = eq_not _ _ (follow k h)

      here : (m : ℕ) → n ≡ m → 1 ≤ m → x + m < e → breaks l x y m ≡ true
      here zero same one h = absurd (none one)
        where
          none : 1 ≤ 0 → ⊥
          none h = omega arith
      here (suc m) same one h = ne_not _ _ (λ next. ends (rw same h) (broken next))
        where
          broken : address_of l (x + suc m) y ≡ address_of l (x + m) y + l.size → address_of l (x + n) y ≡ address_of l x y + n * l.size
          broken next = rw same (omega (arith, next, at m (omega (arith, same)), add-mul m 1 l.size))

  longest_number : Longest l x y n
  longest_number =
      record {
        least = found.one;
        run = shorter n (omega arith);
        shorter = shorter;
        most = λ m r. most m r (tested (ltb n m));
        ends = ends;
        at = at;
      }
    where
      shorter : (m : ℕ) → m ≤ n → Run l x y m
      shorter m h = record { window = omega (arith, found.within); follow = λ k h'. follow k (omega arith) }

      -- the elements of any run stand one size apart from the pair on
      apart : (m : ℕ) → Run l x y m → (k : ℕ) → k < m → address_of l (x + k) y ≡ address_of l x y + k * l.size
      apart m r zero h = ap (λ (z : ℕ). address_of l z y) {x = x + 0} {y = x} (omega arith) ∙ omega arith
      apart m r (suc k) h = omega (arith, r.follow k h, apart m r k (omega arith), add-mul k 1 l.size)

      most : (m : ℕ) → Run l x y m → Tested (ltb n m) → m ≤ n
      most m r (fails h) = ltb-false n m h
      most m r (holds h) =
          let longer : n < m = ltb-true n m h in
          absurd (ends (omega (arith, r.window)) (apart m r n longer))

  -- and it is the longest
  pub longest : Longest l x y (run_of l x y)
  longest = subst (Longest l x y) (sym run_number_lem) longest_number

  -- "the way back ... restated over the new one": each byte of each element of the run leads back to its pair and place
  pub run_back :
      (k place : ℕ) → k < run_of l x y → place < l.size →
      locate_of l (address_of l x y + k * l.size + place) ≡ gives ((x + k) ∷ y ∷ place ∷ [])
  run_back k place h below =
      (inverse l accepted).back _ (x + k) y place
      (record {
        pair = record { column = omega (arith, longest.run.window); row = i.row };
        below = below;
        byte = ap (λ (a : ℕ). a + place) (sym (longest.at k h));
      })

-- one law a return of the code
pub unit_rest : (s s' x : ℕ) → s ≡ s' → run_unit s' - x % run_unit s' ≡ run_unit s - x % run_unit s
unit_rest s s' x h = ap (λ (n : ℕ). run_unit n - x % run_unit n) (sym h)

-- a size is the power of two of its trailing zeros
pub size_power : (s : ℕ) → is_size s ≡ true → (count_trailing_zeros 32 s < 32) × (2 ^ count_trailing_zeros 32 s ≡ s)
unfolding count_trailing_zeros
size_power =
    by_size (λ s. (count_trailing_zeros 32 s < 32) × (2 ^ count_trailing_zeros 32 s ≡ s)) (omega arith, refl) (omega arith, refl)
    (omega arith, refl) (omega arith, refl) (omega arith, refl)

-- the elements from column x to the row's end, by the bytes d of the row
pub row_rest : (s d x : ℕ) → 0 < s → x * s < d → d / s * s ≡ d → (d - x * s) / s ≡ d / s - x
row_rest s d x pos h whole =
    ap (λ (n : ℕ). n / s) {x = d - x * s} {y = (d / s - x) * s} (omega (arith, parts)) ∙ mul-div_cancel (d / s - x) pos
  where
    below : x < d / s
    below = lt_of_mul-lt-mul_right s (rw whole h)

    parts : d ≡ (d / s - x) * s + x * s
    parts = sym whole ∙ ap (λ (n : ℕ). n * s) {x = d / s} {y = d / s - x + x} (omega (arith, below)) ∙ add-mul (d / s - x) x s

pub run_tiled : (tiled : Bool) (s e x : ℕ) → tiled ≡ true → run_unit s - x % run_unit s ≡ run_number tiled s e x
unfolding run_number
run_tiled tiled s e x h = sym (pick_yes _ _ h)

pub run_linear : (tiled : Bool) (s e x : ℕ) → tiled ≡ false → e - x ≡ run_number tiled s e x
unfolding run_number
run_linear tiled s e x h = sym (pick_no _ _ h)
