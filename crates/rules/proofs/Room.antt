-- The writer's room: what stores at its front make of it, and each answer of the writer with the room at return.
-- Assumes nothing.
use mathlib.Core.Path.{◌≡◌, refl, sym, ap, ap₂, ◌∙◌}
use mathlib.Core.List.{List, [], ◌∷◌, ◌++◌}
use Prim.Native.Nat.{ℕ, ◌+◌, ◌<◌, ◌≤◌}
use native.Mathlib.Omega.{arith}
use lib.ListN.{length, take, drop}
use lib.Seq.{sets, sets-eq, length-take-le}
use borrow.Author.Tests.{le-leb, lt-leb}
use Rattle.laws.proofs.Choice.{pick_yes, pick_no}
use Rattle.refusal.specs.Told.{Told, gives, refuses}
use Rattle.command.specs.Table.{header_of, count_of}
use Rattle.command.specs.Commands.{line_of, fields_of, words_of, places_of}
use Rattle.rules.specs.Writer.{judge_command_of, write_of, room_after, Wrote}
use Rattle.command.specs.declared.commands.Places.{Places}
use Rattle.command.specs.declared.commands.Command.{Command}
use Rattle.command.proofs.Headers.{count_least, count_most}
use Rattle.command.proofs.WriteBack.{lined}
use Rattle.rules.proofs.Judging.{then_refused, then_given}

-- a header and `k` parameters stored at the front
pub front :
    (l : List ℕ) (f n k : ℕ) (ps : List ℕ) → n ≡ k → k ≤ length ps → k < length l →
    sets l 0 (f ∷ take k ps) ≡ (f ∷ take n ps) ++ drop (n + 1) l
front l f n k ps e hk h =
    let len : length (take k ps) ≡ k = length-take-le k ps hk in
    let fits : 0 + length (f ∷ take k ps) ≤ length l = omega arith in
    let to : 0 + length (f ∷ take k ps) ≡ k + 1 = omega arith in
    rw e (sets-eq (f ∷ take k ps) l 0 fits ∙ ap (λ (m : ℕ). (f ∷ take k ps) ++ drop m l) to)

module _ (c : Command) (before : List ℕ) where
  count_words : length (words_of c) ≡ count_of (line_of c) + 1
  unfolding words_of
  count_words = let e : length (fields_of c) ≡ count_of (line_of c) = (lined c).fields_count in omega arith

  told : (t : Told) (after : List ℕ) → write_of c (length before) ≡ t → after ≡ room_after t c before → Wrote c t before after
  told t after w r = record { answer = sym w; room = r ∙ ap (λ (x : Told). room_after x c before) (sym w) }

  pub write_refused : (n : ℕ) → judge_command_of c ≡ refuses n → Wrote c (refuses n) before before
  unfolding write_of room_after
  write_refused n j = told (refuses n) before (then_refused _ j ∙ j) refl

  module _ (judged : judge_command_of c ≡ gives []) (l n : ℕ) (line : l ≡ line_of c) (count : n ≡ count_of l) where
    words : length (words_of c) ≡ n + 1
    words = count_words ∙ ap (λ (m : ℕ). m + 1) (sym (count ∙ ap count_of line))

    pub write_short : length before < n + 1 → Wrote c (refuses 11) before before
    unfolding write_of room_after
    write_short h =
        told (refuses 11) before
        (then_given _ judged ∙ pick_no _ _ (lt-leb (length (words_of c)) (length before) (let w : length (words_of c) ≡ n + 1 = words in omega arith)))
        refl

    pub write_done :
        (after : List ℕ) (h : ℕ) (f : Places) → n + 1 ≤ length before → h ≡ header_of l → f ≡ places_of c →
        after ≡ (h ∷ take n (f.0 ∷ f.1 ∷ f.2 ∷ f.3 ∷ [])) ++ drop (n + 1) before →
        Wrote c (gives ((n + 1) ∷ [])) before after
    unfolding write_of room_after words_of
    write_done after h f fits header places stored =
        let w : length (words_of c) ≡ n + 1 = words in
        let same : h ∷ take n (f.0 ∷ f.1 ∷ f.2 ∷ f.3 ∷ []) ≡ words_of c = written h f header places in
        told (gives ((n + 1) ∷ [])) after
        (then_given _ judged ∙ pick_yes _ _ (le-leb (length (words_of c)) (length before) (omega arith)) ∙ ap (λ (m : ℕ). gives (m ∷ [])) w)
        (stored ∙ ap₂ (λ (ws : List ℕ) (m : ℕ). ws ++ drop m before) same (sym w))
      where
        written : (h : ℕ) (f : Places) → h ≡ header_of l → f ≡ places_of c → h ∷ take n (f.0 ∷ f.1 ∷ f.2 ∷ f.3 ∷ []) ≡ words_of c
        written h f header places =
            ap₂ (λ (x : ℕ) (xs : List ℕ). x ∷ xs) (header ∙ ap header_of line)
            (ap₂ (λ (m : ℕ) (g : Places). take m (g.0 ∷ g.1 ∷ g.2 ∷ g.3 ∷ [])) (count ∙ ap count_of line) places ∙ (lined c).fields_taken)

-- what the stores ask for: a line's number of parameters, and room for them
pub room_fits :
    (c : Command) (l n size : ℕ) → l ≡ line_of c → n ≡ count_of l → n + 1 ≤ size → (1 ≤ n) × (n ≤ 4) × (n < size)
room_fits c l n size line count fits =
    let h : l < 21 = rw line (lined c).line_most in
    rw count (count_least l h, count_most l h, rw count at (below fits))
  where
    below : n + 1 ≤ size → n < size
    below k = omega arith
