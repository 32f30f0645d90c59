-- Moves of a row: stretches of it one after the other. Assumes nothing.
use mathlib.Core.Path.{◌≡◌, refl, sym, ap, ap₂, ◌∙◌, subst}
use mathlib.Core.Bool.{Bool, true, false}
use mathlib.Core.List.{List, [], ◌∷◌, ◌++◌}
use Prim.Native.Nat.{ℕ, zero, suc, ◌+◌, ◌-◌, ◌*◌, ◌<◌, ◌≤◌, ◌^◌}
use native.Mathlib.Nat.{add-mul}
use native.Mathlib.Omega.{arith}
use mir.Val.{Fits}
use mir.Syntax.{w64}
use lib.ListN.{length}
use Rattle.memory.specs.Elements.{overwritten}
use Rattle.rectangles.specs.Moves.{Move, part_of, moved, turned, memory_of, room_of, along, row_move, row_moves, TilesAsked, block_place}
use Rattle.rectangles.proofs.Moves.{moved_both, length_one, turned_fits, MoveFits}

pub along_add : (f : ℕ → Move) (i a b : ℕ) → along f i (a + b) ≡ along f i a ++ along f (i + a) b
along_add f i zero b = ap₂ (λ (p q : ℕ). along f p q) {x = i} {y = i + 0} {u = 0 + b} {v = b} (omega arith) (omega arith)
along_add f i (suc a) b =
    ap (λ (q : ℕ). along f i q) {x = suc a + b} {y = suc (a + b)} (omega arith) ∙
    ap (λ (q : List Move). f i ∷ q)
    (along_add f (suc i) a b ∙ ap (λ (q : ℕ). along f (suc i) a ++ along f q b) {x = suc i + a} {y = i + suc a} (omega arith))

pub along_same : (f g : ℕ → Move) (i k n : ℕ) → ((j : ℕ) → j < n → f (i + j) ≡ g (k + j)) → along f i n ≡ along g k n
along_same f g i k zero all = refl
along_same f g i k (suc n) all =
    ap₂ (λ (p : Move) (q : List Move). p ∷ q)
    (ap f {x = i} {y = i + 0} (omega arith) ∙ all 0 (omega arith) ∙ ap g {x = k + 0} {y = k} (omega arith))
    (along_same f g (suc i) (suc k) n
    (λ j h. ap f {x = suc i + j} {y = i + suc j} (omega arith) ∙ all (suc j) (omega (arith, h)) ∙ ap g {x = k + suc j} {y = suc k + j} (omega arith)))

module _ (out : Bool) (place : ℕ → ℕ) (n : ℕ) (source : List ℕ) where
  -- a row's moves are those of its first `a` columns, then those of the rest
  pub row_add :
      (x line a b x' line' : ℕ) (m : List ℕ) → x' ≡ x + a → line' ≡ line + a * n →
      moved (row_moves out place n x line (a + b)) source m ≡
      moved (row_moves out place n x' line' b) source (moved (row_moves out place n x line a) source m)
  row_add x line a b x' line' m ex el =
      ap (λ (q : List Move). moved q source m)
      (along_add (row_move out place n x line) 0 a b ∙ ap (λ (q : List Move). row_moves out place n x line a ++ q) rest) ∙
      moved_both (row_moves out place n x line a) (row_moves out place n x' line' b) source m
    where
      rest : along (row_move out place n x line) (0 + a) b ≡ row_moves out place n x' line' b
      rest =
          along_same (row_move out place n x line) (row_move out place n x' line') (0 + a) 0 b
          (λ j h.
          ap₂ (λ (p q : ℕ). turned out (place p) q n) {x = x + (0 + a + j)} {y = x' + (0 + j)} {u = line + (0 + a + j) * n} {v = line' + (0 + j) * n}
          (omega (arith, ex))
          (ap (λ (q : ℕ). line + q * n) {x = 0 + a + j} {y = a + j} (omega arith) ∙ omega (arith, add-mul a j n, el, zero_left j)))
        where
          zero_left : (j : ℕ) → (0 + j) * n ≡ j * n
          zero_left j = ap (λ (q : ℕ). q * n) {x = 0 + j} {y = j} (omega arith)

-- a loop along a row: `k` of its parts are moved
pub record RowGoing (out : Bool) (place : ℕ → ℕ) (n x line : ℕ) (source m₀ : List ℕ) (k at : ℕ) (m : List ℕ) : Type 0 where
  pub line_at : at ≡ line + k * n
  pub long : length m ≡ length m₀
  pub so_far : m ≡ moved (row_moves out place n x line k) source m₀

module _ (out : Bool) (place : ℕ → ℕ) (n x line : ℕ) (source m₀ : List ℕ) where
  pub row_start_lem : RowGoing out place n x line source m₀ 0 line m₀
  unfolding moved
  row_start_lem = record { line_at = omega arith; long = refl; so_far = refl }

  pub row_next :
      (k a at x' at' : ℕ) (m m' : List ℕ) → RowGoing out place n x line source m₀ k at m → x' ≡ x + k → at' ≡ at + a * n →
      length m' ≡ length m → m' ≡ moved (row_moves out place n x' at a) source m →
      RowGoing out place n x line source m₀ (k + a) at' m'
  row_next k a at x' at' m m' g ex ea same e =
      record {
        line_at = omega (arith, g.line_at, ea, add-mul k a n);
        long = same ∙ g.long;
        so_far =
            e ∙ ap (λ (q : List ℕ). moved (row_moves out place n x' at a) source q) g.so_far ∙
            sym (row_add out place n source x line k a x' at m₀ ex g.line_at);
      }

-- tiles one after the other
module _ (out : Bool) (n start row first count line source target : ℕ) (asked : TilesAsked out n start row first count line source target) where
  pub one_tile :
      (k at target' : ℕ) → k < count → target' ≡ target → at ≡ line + 8 * k * n →
      TilesAsked out n start row (first + k) 1 at source target'
  one_tile k at target' h e ea =
      subst (TilesAsked out n start row (first + k) 1 at source) (sym e)
      (record {
        few = asked.few;
        memory_most = asked.memory_most;
        room_most = asked.room_most;
        tiles_most = omega (arith, asked.tiles_most, h);
        places = λ j hj.
            subst (λ (q : ℕ). block_place start row q + n ≤ memory_of out source target) {x = 8 * first + (8 * k + j)} {y = 8 * (first + k) + j} (omega arith)
            (asked.places (8 * k + j) (omega (arith, h, hj)));
        line_fits =
            (let up : 8 * k + 8 ≤ 8 * count = omega (arith, h) in
            let rest : 8 * count ≡ 8 * k + 8 + (8 * count - (8 * k + 8)) = omega arith in
            let all : 8 * count * n ≡ 8 * k * n + 8 * n + (8 * count - (8 * k + 8)) * n =
            ap (λ (q : ℕ). q * n) rest ∙ add-mul (8 * k + 8) (8 * count - (8 * k + 8)) n ∙ ap (λ (q : ℕ). q + (8 * count - (8 * k + 8)) * n) (add-mul (8 * k) 8 n) in
            omega (arith, asked.line_fits, all, ea));
      })

  pub line_small : (k at : ℕ) → k < count → at ≡ line + 8 * k * n → Fits w64 (at + 8 * n)
  line_small k at h ea =
      let t = one_tile k at target h refl ea in omega (arith, t.line_fits, t.room_most)

module _ (out : Bool) (place : ℕ → ℕ) (n first line : ℕ) (source m₀ : List ℕ) where
  pub tiles_start : RowGoing out place n (8 * first) line source m₀ (8 * 0) line m₀
  tiles_start = row_start_lem out place n (8 * first) line source m₀

  pub tiles_next :
      (k at : ℕ) (m m' : List ℕ) → RowGoing out place n (8 * first) line source m₀ (8 * k) at m → length m' ≡ length m →
      m' ≡ moved (row_moves out place n (8 * (first + k)) at 8) source m →
      RowGoing out place n (8 * first) line source m₀ (8 * (k + 1)) (at + 8 * n) m'
  tiles_next k at m m' g same e =
      subst (λ (q : ℕ). RowGoing out place n (8 * first) line source m₀ q (at + 8 * n) m') {x = 8 * k + 8} {y = 8 * (k + 1)} (omega arith)
      (row_next out place n (8 * first) line source m₀ (8 * k) 8 at (8 * (first + k)) (at + 8 * n) m m' g (omega arith) refl same e)

  pub tiles_done :
      (count k at : ℕ) (m : List ℕ) → RowGoing out place n (8 * first) line source m₀ (8 * k) at m → k ≤ count → count ≤ k →
      m ≡ moved (row_moves out place n (8 * first) line (8 * count)) source m₀
  tiles_done count k at m g up h =
      g.so_far ∙ ap (λ (q : ℕ). moved (row_moves out place n (8 * first) line q) source m₀) {x = 8 * k} {y = 8 * count} (omega (arith, up, h))

-- a row's moves keep the target's length
pub row_long :
    (out : Bool) (place : ℕ → ℕ) (n x line : ℕ) (source m : List ℕ) (b : ℕ) →
    ((k : ℕ) → k < b → place (x + k) + n ≤ memory_of out (length source) (length m)) →
    line + b * n ≤ room_of out (length source) (length m) → length (moved (row_moves out place n x line b) source m) ≡ length m
unfolding moved
row_long out place n x line source m zero fits room = refl
row_long out place n x line source m (suc b) fits room =
    ap (λ (q : ℕ). length (moved (row_moves out place n x line q) source m)) {x = suc b} {y = b + 1} (omega arith) ∙
    ap length (row_add out place n source x line b 1 (x + b) (line + b * n) m refl refl) ∙
    last (row_long out place n x line source m b (λ k h. fits k (omega (arith, h))) (omega (arith, room, all)))
  where
    before : List ℕ
    before = moved (row_moves out place n x line b) source m

    all : suc b * n ≡ b * n + n
    all = ap (λ (q : ℕ). q * n) {x = suc b} {y = b + 1} (omega arith) ∙ add-mul b 1 n ∙ omega arith

    last : length before ≡ length m → length (moved (row_moves out place n (x + b) (line + b * n) 1) source before) ≡ length m
    last same =
        length_one (turned out (place (x + b + 0)) (line + b * n + 0 * n) n) source before
        (subst (MoveFits (turned out (place (x + b + 0)) (line + b * n + 0 * n) n) (length source)) (sym same)
        (turned_fits out (place (x + b + 0)) (line + b * n + 0 * n) n (length source) (length m)
        (subst (λ (q : ℕ). place q + n ≤ memory_of out (length source) (length m)) {x = x + b} {y = x + b + 0} (omega arith) (fits b (omega arith)))
        (omega (arith, room, all)))) ∙
        same
