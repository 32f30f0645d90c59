-- Loading a program: the words of the slots, and the store as the loop fills it. Assumes nothing.
use mathlib.Core.Path.{◌≡◌, refl, sym, ap, ap₂, ◌∙◌, subst}
use mathlib.Core.Bool.{true, false}
use mathlib.Core.List.{List, [], ◌∷◌, ◌++◌}
use Prim.Native.Nat.{ℕ, zero, suc, ◌+◌, ◌*◌, ◌/◌, ◌%◌, ◌<◌, ◌≤◌}
use native.Mathlib.Nat.{zero-add}
use native.Mathlib.Numerals.{add-one}
use native.Mathlib.Omega.{arith}
use lib.ListN.{length, get_or, take, drop, set, replicate, length-replicate}
use lib.Seq.{paste, paste-suc, take-length, length-paste}
use borrow.Author.Tests.{eq-eqb, ne_eqb, le-leb, lt-leb}
use Rattle.laws.proofs.Choice.{pick_yes, pick_no, and_intro, and_no_left, and_no_right}
use Rattle.refusal.specs.declared.Refusal.TheVariants.{PastEnd}
use Rattle.std.specs.Prelude.{Ok, Err}
use Rattle.flow.specs.Store.{first_words, second_words, is_program, store_of, plain_first, plain_second, load_told, firsts_left, seconds_left}
use Rattle.flow.specs.Answers.{LoadDone}

-- two words more are one slot more
slot_more : (n : ℕ) → suc (n / 2) ≡ suc (suc n) / 2
slot_more n = omega arith

pub firsts_length : (words : List ℕ) → length (first_words words) ≡ length words / 2
unfolding first_words
firsts_length [] = refl
firsts_length (a ∷ []) = refl
firsts_length (a ∷ (b ∷ words)) = ap suc (firsts_length words) ∙ slot_more (length words)

pub seconds_length : (words : List ℕ) → length (second_words words) ≡ length words / 2
unfolding second_words
seconds_length [] = refl
seconds_length (a ∷ []) = refl
seconds_length (a ∷ (b ∷ words)) = ap suc (seconds_length words) ∙ slot_more (length words)

slot_less : (k n : ℕ) → suc k < suc (suc n) / 2 → k < n / 2
slot_less k n h = omega arith

none_below : (k : ℕ) → k < 0 → ⊥
none_below k h = omega arith

two_on : (k : ℕ) → suc k * 2 ≡ suc (suc (k * 2))
two_on k = omega arith

-- slot `k` has the words at `k * 2` and `k * 2 + 1`
pub firsts_at : (words : List ℕ) (k : ℕ) → k < length words / 2 → get_or (first_words words) k 0 ≡ get_or words (k * 2) 0
unfolding first_words
firsts_at [] k h = absurd (none_below k h)
firsts_at (a ∷ []) k h = absurd (none_below k h)
firsts_at (a ∷ (b ∷ words)) zero h = refl
firsts_at (a ∷ (b ∷ words)) (suc k) h =
    firsts_at words k (slot_less k (length words) h) ∙ sym (ap (λ (n : ℕ). get_or (a ∷ (b ∷ words)) n 0) (two_on k))

pub seconds_at : (words : List ℕ) (k : ℕ) → k < length words / 2 → get_or (second_words words) k 0 ≡ get_or words (k * 2 + 1) 0
unfolding second_words
seconds_at [] k h = absurd (none_below k h)
seconds_at (a ∷ []) k h = absurd (none_below k h)
seconds_at (a ∷ (b ∷ words)) zero h = refl
seconds_at (a ∷ (b ∷ words)) (suc k) h =
    seconds_at words k (slot_less k (length words) h) ∙ sym (ap (λ (n : ℕ). get_or (a ∷ (b ∷ words)) n 0) (next k))
  where
    next : (k : ℕ) → suc k * 2 + 1 ≡ suc (suc (k * 2 + 1))
    next k = omega arith

-- the store with its first `k` words overwritten
unfoldable pub partly : ℕ → List ℕ → ℕ → List ℕ
partly plain ws k = take k ws ++ drop k (replicate 512 plain)

pub partly_none : (plain : ℕ) (ws : List ℕ) → replicate 512 plain ≡ partly plain ws 0
unfolding partly
partly_none plain ws = refl

as_paste : (plain : ℕ) (ws : List ℕ) (k : ℕ) → partly plain ws k ≡ paste (replicate 512 plain) 0 ws k
unfolding partly
as_paste plain ws k = ap (λ (n : ℕ). take k ws ++ drop n (replicate 512 plain)) (sym (zero-add k))

-- a turn of the loop
pub partly_more :
    (plain : ℕ) (ws : List ℕ) (k : ℕ) → k < length ws → k < 512 →
    set (partly plain ws k) k (get_or ws k 0) ≡ partly plain ws (k + 1)
partly_more plain ws k h low =
    ap₂ (λ (l : List ℕ) (n : ℕ). set l n (get_or ws k 0)) (as_paste plain ws k) (sym (zero-add k)) ∙
    paste-suc (replicate 512 plain) 0 ws k 0 (subst (λ (n : ℕ). 0 + k < n) (sym (length-replicate 512 plain)) (omega arith)) h ∙
    sym (as_paste plain ws (suc k)) ∙ ap (partly plain ws) (sym (add-one k))

pub partly_length : (plain : ℕ) (ws : List ℕ) (k : ℕ) → k ≤ length ws → k ≤ 512 → length (partly plain ws k) ≡ 512
partly_length plain ws k h low =
    ap length (as_paste plain ws k) ∙
    length-paste (replicate 512 plain) 0 ws k (subst (λ (n : ℕ). 0 + k ≤ n) (sym (length-replicate 512 plain)) (omega arith)) h ∙
    length-replicate 512 plain

pub partly_all : (plain : ℕ) (ws : List ℕ) (k : ℕ) → k ≡ length ws → partly plain ws k ≡ store_of plain ws
unfolding partly store_of
partly_all plain ws k e =
    ap (partly plain ws) e ∙ ap (λ (l : List ℕ). l ++ drop (length ws) (replicate 512 plain)) (take-length ws)

-- a turn of the loop, with the words as the list has them
module _ (words : List ℕ) (k : ℕ) (h : k < length words / 2) (low : length words / 2 ≤ 512) where
  pub firsts_turn :
      {l : List ℕ} → l ≡ partly plain_first (first_words words) k →
      set l k (get_or words (k * 2) 0) ≡ partly plain_first (first_words words) (k + 1)
  firsts_turn e =
      ap₂ (λ (x : List ℕ) (v : ℕ). set x k v) e (sym (firsts_at words k h)) ∙
      partly_more plain_first (first_words words) k (omega (arith, firsts_length words)) (omega arith)

  pub seconds_turn :
      {l : List ℕ} → l ≡ partly plain_second (second_words words) k →
      set l k (get_or words (k * 2 + 1) 0) ≡ partly plain_second (second_words words) (k + 1)
  seconds_turn e =
      ap₂ (λ (x : List ℕ) (v : ℕ). set x k v) e (sym (seconds_at words k h)) ∙
      partly_more plain_second (second_words words) k (omega (arith, seconds_length words)) (omega arith)

-- the answers
module _ (words firsts seconds : List ℕ) where
  refused_words : is_program words ≡ false → LoadDone words firsts firsts seconds seconds (Err PastEnd)
  unfolding load_told firsts_left seconds_left
  refused_words e =
      record { told = sym (pick_no _ _ e); left_firsts = sym (pick_no _ _ e); left_seconds = sym (pick_no _ _ e) }

  pub load_odd : (length words % 2 ≡ 0 → ⊥) → LoadDone words firsts firsts seconds seconds (Err PastEnd)
  unfolding is_program
  load_odd n = refused_words (and_no_left _ (ne_eqb _ 0 n))

  pub load_none : length words / 2 < 1 → LoadDone words firsts firsts seconds seconds (Err PastEnd)
  unfolding is_program
  load_none h = refused_words (and_no_right _ (and_no_left _ (lt-leb 1 (length words / 2) h)))

  pub load_many : 512 < length words / 2 → LoadDone words firsts firsts seconds seconds (Err PastEnd)
  unfolding is_program
  load_many h = refused_words (and_no_right _ (and_no_right _ (lt-leb (length words / 2) 512 h)))

  pub load_done :
      {firsts' seconds' : List ℕ} (k : ℕ) → length words % 2 ≡ 0 → 1 ≤ length words / 2 → length words / 2 ≤ 512 →
      k ≡ length words / 2 → firsts' ≡ partly plain_first (first_words words) k →
      seconds' ≡ partly plain_second (second_words words) k →
      LoadDone words firsts firsts' seconds seconds' (Ok (length words / 2))
  unfolding load_told firsts_left seconds_left is_program
  load_done k e1 e2 e3 ek ef es =
      let e : is_program words ≡ true = and_intro (eq-eqb _ 0 e1) (and_intro (le-leb 1 (length words / 2) e2) (le-leb (length words / 2) 512 e3)) in
      record {
        told = sym (pick_yes _ _ e);
        left_firsts = ef ∙ partly_all plain_first (first_words words) k (ek ∙ sym (firsts_length words)) ∙ sym (pick_yes _ _ e);
        left_seconds = es ∙ partly_all plain_second (second_words words) k (ek ∙ sym (seconds_length words)) ∙ sym (pick_yes _ _ e);
      }
