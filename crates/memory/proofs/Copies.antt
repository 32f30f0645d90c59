-- Copying byte by byte, and parts of a list that come back changed. Assumes nothing.
use mathlib.Core.Path.{◌≡◌, refl, sym, ap, ap₂, ◌∙◌, subst}
use mathlib.Core.List.{List, [], ◌∷◌, ◌++◌, append_assoc, append-nil}
use Prim.Native.Nat.{ℕ, suc, ◌+◌, ◌-◌, ◌<◌, ◌≤◌}
use native.Mathlib.Numerals.{add-one}
use native.Mathlib.Omega.{arith}
use lib.ListN.{length, take, drop, get_or, set, length-append, drop_of_length-le, replicate, length-replicate, replicate-append-replicate}
use lib.Seq.{take-suc, drop-cons, set_at, length-take-le, take_all, take-append_seam, drop-append-add, drop-drop, drop_at}
use borrow.Rule.Slice.PartMut.{post_of, Post-is}
use Rattle.refusal.specs.Told.{gives}
use Rattle.memory.specs.Answers.{filled, Answered}
use Rattle.memory.specs.Elements.{overwritten}
use Rattle.memory.specs.declared.Answer.TheVariants.{Bytes}

-- one byte more
pub copy_step :
    (p g : List ℕ) (i : ℕ) → length p ≡ length g → i < length g →
    set (take i g ++ drop i p) i (get_or g i 0) ≡ take (i + 1) g ++ drop (i + 1) p
copy_step p g i same h =
    let hp : i < length p = omega arith in
    let hl : length (take i g) ≡ i = length-take-le i g (omega arith) in
    ap (λ (q : List ℕ). set (take i g ++ q) i (get_or g i 0)) (drop-cons p i 0 hp) ∙
    set_at (take i g) (get_or p i 0) (drop (suc i) p) (get_or g i 0) i hl ∙
    sym
    (rw (add-one i)
    (ap (λ (q : List ℕ). q ++ drop (suc i) p) (take-suc g i 0 h) ∙ append_assoc (take i g) (get_or g i 0 ∷ []) (drop (suc i) p)))

-- all bytes
pub copy_done : (p g : List ℕ) (i : ℕ) → length p ≡ length g → length g ≤ i → take i g ++ drop i p ≡ g
copy_done p g i same h =
    let hp : length p ≤ i = omega arith in
    ap₂ (λ (a b : List ℕ). a ++ b) (take_all i g h) (drop_of_length-le p hp) ∙ append-nil g

-- a list whose part from `a` to `e` came back as `last`
pub put_back :
    (m g last : List ℕ) (a e : ℕ) → last ≡ g → e ≡ a + length g → take a m ++ (last ++ post_of a (e - a) m) ≡ overwritten a g m
unfolding overwritten
put_back m g last a e same he =
    ap₂ (λ (p q : List ℕ). take a m ++ (p ++ q)) same (Post-is a e m (omega arith) ∙ ap (λ (n : ℕ). drop n m) he)

-- a part put right after the front
pub overwritten_front :
    (front rest part : List ℕ) (at : ℕ) → length front ≡ at →
    overwritten at part (front ++ rest) ≡ (front ++ part) ++ drop (length part) rest
unfolding overwritten
overwritten_front front rest part at e =
    subst (λ (k : ℕ). take k (front ++ rest) ++ (part ++ drop (k + length part) (front ++ rest)) ≡ (front ++ part) ++ drop (length part) rest) e
    (ap₂ (λ (p q : List ℕ). p ++ (part ++ q)) (take-append_seam front rest) (drop-append-add front rest (length part)) ∙
    sym (append_assoc front part (drop (length part) rest)))

-- bytes `b` that begin with `front`, and are `z` after it, grow by a part
pub grown :
    (z front part b b' : List ℕ) (at : ℕ) → b ≡ front ++ drop (length front) z → length front ≡ at → b' ≡ overwritten at part b →
    b' ≡ (front ++ part) ++ drop (length (front ++ part)) z
grown z front part b b' at e he e' =
    e' ∙ ap (overwritten at part) e ∙ overwritten_front front (drop (length front) z) part at he ∙
    ap (λ (q : List ℕ). (front ++ part) ++ q)
    (drop-drop (length part) (length front) z ∙ ap (λ (n : ℕ). drop n z) (sym (length-append front part)))

abbrev pub zeros : ℕ → List ℕ
zeros n = replicate n 0

zeros_left : (k n : ℕ) → k ≤ n → drop k (zeros n) ≡ zeros (n - k)
zeros_left k n h =
    ap (λ (q : List ℕ). drop k q) (ap (λ (i : ℕ). zeros i) whole ∙ sym (replicate-append-replicate k (n - k) 0)) ∙
    drop_at (zeros k) (zeros (n - k)) k (length-replicate k 0)
  where
    whole : n ≡ k + (n - k)
    whole = omega arith

-- a reading whose bytes are `v`, then zeros
pub reading_of :
    (v b : List ℕ) (n : ℕ) → n ≡ length v → length v ≤ 16 → b ≡ v ++ drop (length v) (zeros 16) →
    Answered (gives v) (record { answer = Bytes n; bytes = b })
unfolding filled
reading_of v b n en fits eb =
    record {
      told = ap gives (ap₂ (λ (k : ℕ) (l : List ℕ). take k l) en eb ∙ take-append_seam v (drop (length v) (zeros 16)));
      count = ap (λ (k : ℕ). gives (k ∷ [])) en;
      whole = ap length filled_up_lem ∙ length-append v (zeros (16 - length v)) ∙ sixteen;
      bytes = filled_up_lem;
    }
  where
    filled_up_lem : b ≡ v ++ zeros (16 - length v)
    filled_up_lem = eb ∙ ap (λ (q : List ℕ). v ++ q) (zeros_left (length v) 16 fits)

    sixteen : length v + length (zeros (16 - length v)) ≡ 16
    sixteen = let e : length (zeros (16 - length v)) ≡ 16 - length v = length-replicate (16 - length v) 0 in omega arith

pub reading_of_one :
    (v b : List ℕ) → length v ≤ 16 → b ≡ overwritten 0 v (zeros 16) →
    Answered (gives v) (record { answer = Bytes (length v); bytes = b })
reading_of_one v b fits eb = reading_of v b (length v) refl fits (grown (zeros 16) [] v (zeros 16) b 0 refl refl eb)
