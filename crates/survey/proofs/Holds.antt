-- Whether memory holds the numbers of a row, run by run, and of rows. Assumes nothing.
use mathlib.Core.Path.{◌≡◌, sym, ap, ap₂, ◌∙◌, subst}
use mathlib.Core.Bool.{Bool, true, false}
use Prim.Native.Nat.{ℕ, ◌+◌, ◌-◌, ◌*◌, ◌/◌, ◌%◌, ◌^◌, ◌<◌, ◌≤◌}
use native.Mathlib.Nat.{add-mul, mul-le-mul, mod-lt, div-lt_iff_lt-mul}
use native.Mathlib.Omega.{arith}
use lib.Arith.{digits_div, digits_mod}
use lib.Dec.{ltb}
use borrow.Author.Tests.{ltb-true, ltb-false}
use Rattle.laws.specs.Below.{every}
use Rattle.laws.proofs.Below.{every_at, every_of}
use Rattle.laws.proofs.Choice.{Tested, tested, holds, fails}
use Rattle.address.specs.Offset.{offset_of}
use Rattle.address.specs.Run.{run_number}
use Rattle.address.proofs.Runs.{clash}
use Rattle.memory.specs.Elements.{is_held}
use Rattle.memory.proofs.Places.{is_held_lem, tests_held}
use Rattle.survey.specs.Asked.{RowHeldAsked}
use Rattle.survey.specs.Rows.{number_at, row_held, domain_held}
use Rattle.survey.proofs.Numbers.{run_follows}

-- one that isn't held is enough
pub one_unheld : (n : ℕ) (f : ℕ → Bool) (k : ℕ) → k < n → (f k ≡ true → ⊥) → false ≡ every n f
one_unheld n f k h never = go (tested (every n f))
  where
    go : Tested (every n f) → false ≡ every n f
    go (holds t) = absurd (never (every_at n f t k h))
    go (fails t) = sym t

pub all_so_far : (n : ℕ) (f : ℕ → Bool) (i : ℕ) → n ≤ i → ((k : ℕ) → k < i → f k ≡ true) → true ≡ every n f
all_so_far n f i h each = sym (every_of n f (λ k hk. each k (omega (arith, h, hk))))

pub none_yet : (f : ℕ → Bool) (k : ℕ) → k < 0 → f k ≡ true
none_yet f k h = absurd (omega (arith, h))

module _
    (base stride : ℕ) (tiled : Bool) (x y count first n : ℕ) (a : RowHeldAsked base stride tiled x y count first n)
  where
    abbrev e : ℕ
    e = stride / 2

    abbrev R : ℕ → Bool
    R = row_held base tiled e first n x y

    abbrev at : ℕ → ℕ
    at c = number_at base tiled e c y

    pub first_below : (i o : ℕ) → i < count → o ≡ offset_of tiled 2 e (x + i) y → base + o < first → false ≡ every count R
    first_below i o h eo below =
        one_unheld count R i h (λ t. omega (arith, below, eo, (is_held_lem first n (at (x + i)) 2 t).low))

    -- number i + d of a run that begins with number i
    follows : (i d : ℕ) → d < run_number tiled 2 e (x + i) → at (x + (i + d)) ≡ at (x + i) + d * 2
    follows i d h =
        ap at {x = x + (i + d)} {y = x + i + d} (omega arith) ∙ omega (arith, run_follows tiled e (x + i) y d h)

    module _ (i many : ℕ) (some : 0 < many) (few : many ≤ run_number tiled 2 e (x + i)) (rest : i + many ≤ count) where
      pub last_past : first + n < at (x + i) + 2 * many → false ≡ every count R
      last_past past =
          one_unheld count R (i + (many - 1)) (omega (arith, some, rest))
          (λ t.
          omega (
            arith,
            past,
            some,
            follows i (many - 1) (omega (arith, some, few)),
            (is_held_lem first n (at (x + (i + (many - 1)))) 2 t).whole,
          ))

      pub run_held :
          first ≤ at (x + i) → at (x + i) + 2 * many ≤ first + n → ((k : ℕ) → k < i → R k ≡ true) → (k : ℕ) → k < i + many → R k ≡ true
      run_held low whole each k h = go (tested (ltb k i))
        where
          go : Tested (ltb k i) → R k ≡ true
          go (holds t) = each k (ltb-true k i t)
          go (fails t) =
              let later : i ≤ k = ltb-false k i t in
              let apart : k ≡ i + (k - i) = omega (arith, later) in
              let here : at (x + k) ≡ at (x + i) + (k - i) * 2 =
              ap (λ (z : ℕ). at (x + z)) apart ∙ follows i (k - i) (omega (arith, later, h, few)) in
              tests_held first n (at (x + k)) 2
              record {
                long = a.long;
                high = a.end;
                low = omega (arith, here, low);
                whole = omega (arith, here, whole, later, h);
              }

-- rows
module _ (base : ℕ) (tiled : Bool) (e first n x y columns : ℕ) (some : 0 < columns) where
  abbrev D : ℕ → Bool
  D = domain_held base tiled e first n x y columns

  abbrev row : ℕ → ℕ → Bool
  row j = row_held base tiled e first n x (y + j)

  in_row : (j i : ℕ) → i < columns → D (j * columns + i) ≡ row j i
  in_row j i hi =
      ap₂ (λ (c d : ℕ). is_held first n (number_at base tiled e (x + c) (y + d)) 2) (digits_mod j hi) (digits_div j hi)

  module _ (rows j : ℕ) (h : j < rows) where
    below : (i : ℕ) → i < columns → j * columns + i < rows * columns
    below i hi =
        let q : (j * columns + i) / columns < rows = subst (λ (z : ℕ). z < rows) (sym (digits_div j hi)) h in
        (div-lt_iff_lt-mul {x = j * columns + i} {y = rows} some).0 q

    pub row_unheld : (r : Bool) → r ≡ every columns (row j) → r ≡ false → false ≡ every (rows * columns) D
    row_unheld r er h0 = go (tested (every (rows * columns) D))
      where
        go : Tested (every (rows * columns) D) → false ≡ every (rows * columns) D
        go (holds t) =
            absurd
            (clash
            (sym (every_of columns (row j) (λ i hi. sym (in_row j i hi) ∙ every_at (rows * columns) D t (j * columns + i) (below i hi))) ∙
            sym er ∙ h0))
        go (fails t) = sym t

  pub rows_so_far :
      (j : ℕ) (r : Bool) → r ≡ every columns (row j) → r ≡ true → ((k : ℕ) → k < j * columns → D k ≡ true) → (k : ℕ) →
      k < (j + 1) * columns → D k ≡ true
  rows_so_far j r er h1 each k h = go (tested (ltb k (j * columns)))
    where
      go : Tested (ltb k (j * columns)) → D k ≡ true
      go (holds t) = each k (ltb-true k (j * columns) t)
      go (fails t) =
          let later : j * columns ≤ k = ltb-false k (j * columns) t in
          let small : k - j * columns < columns = omega (arith, later, h, add-mul j 1 columns) in
          ap D {x = k} {y = j * columns + (k - j * columns)} (omega (arith, later)) ∙ in_row j (k - j * columns) small ∙
          every_at columns (row j) (sym er ∙ h1) (k - j * columns) small

  -- memory that isn't fit holds none, and memory that covers the window holds all
  module _ (rows : ℕ) (any : 0 < rows) where
    pairs_some : 0 < rows * columns
    pairs_some = omega (arith, mul-le-mul {n₂ = rows} {m₂ = columns} any some)

    pub too_long : 2 ^ 16 < n → false ≡ every (rows * columns) D
    too_long h =
        one_unheld (rows * columns) D 0 pairs_some
        (λ t. omega (arith, h, (is_held_lem first n (number_at base tiled e (x + 0 % columns) (y + 0 / columns)) 2 t).long))

    pub too_high_lem : 2 ^ 32 < first + n → false ≡ every (rows * columns) D
    too_high_lem h =
        one_unheld (rows * columns) D 0 pairs_some
        (λ t. omega (arith, h, (is_held_lem first n (number_at base tiled e (x + 0 % columns) (y + 0 / columns)) 2 t).high))

    pub covered :
        (span : ℕ) → ((i j : ℕ) → i < columns → j < rows → number_at base tiled e (x + i) (y + j) + 2 ≤ base + span) → n ≤ 2 ^ 16 →
        first + n ≤ 2 ^ 32 → first ≤ base → base + span ≤ first + n → true ≡ every (rows * columns) D
    covered span within long high low whole =
        sym
        (every_of (rows * columns) D
        (λ k h.
        tests_held first n (number_at base tiled e (x + k % columns) (y + k / columns)) 2
        record {
          long = long;
          high = high;
          low = omega (arith, low);
          whole =
              omega (arith, whole, within (k % columns) (k / columns) (mod-lt k some) ((div-lt_iff_lt-mul {x = k} {y = rows} some).1 h));
        }))
