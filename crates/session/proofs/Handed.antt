-- The entries give out only states that they take: a new session's cells, and the cells after any word, may be handed in
-- again. Assumes nothing.
use mathlib.Core.Path.{◌≡◌, refl}
use mathlib.Core.Bool.{true}
use mathlib.Core.List.{List}
use Prim.Native.Nat.{ℕ}
use Rattle.laws.specs.Choice.{pick}
use Rattle.state.specs.State.{new_session}
use Rattle.state.specs.Start.{is_edition}
use Rattle.session.specs.Step.{Reply, step_of}
use Rattle.session.specs.Feed.{feed_of}
use Rattle.state.specs.Cells.{session_of}
use Rattle.state.specs.Asked.{Given, Held}
use Rattle.session.specs.Asked.{Left}
use Rattle.session.specs.Answers.{Begins}
use Rattle.state.proofs.Cells.{held_given}
use Rattle.session.proofs.Kept.{new_valid, kept}
use Rattle.session.proofs.Refusals.{fed_valid}

pub begun_given : (edition : ℕ) → is_edition edition ≡ true → {l t s : List ℕ} → Held (new_session edition) l t s → Given l t s
begun_given edition known {l} {t} {s} h = held_given (new_session edition) (new_valid edition known) l t s h

-- the same of a session of edition 1
pub first_given : {r : ℕ} {l t s l1 t1 s1 : List ℕ} → Begins 1 r l t s l1 t1 s1 → Given l1 t1 s1
first_given b = let known : is_edition 1 ≡ true = unfold is_edition pick in refl in begun_given 1 known (b.held known)

pub word_given : {l t s : List ℕ} (w : ℕ) (r : Reply) {l1 t1 s1 : List ℕ} → Given l t s →
    Left (step_of (session_of l t s) w) r l1 t1 s1 → Given l1 t1 s1
word_given {l} {t} {s} w r {l1} {t1} {s1} g h =
    held_given (step_of (session_of l t s) w).session (kept (session_of l t s) w g.valid) l1 t1 s1 h.held

pub piece_given : {l t s : List ℕ} (ws : List ℕ) {l1 t1 s1 : List ℕ} → Given l t s →
    Held (feed_of (session_of l t s) ws).session l1 t1 s1 → Given l1 t1 s1
piece_given {l} {t} {s} ws {l1} {t1} {s1} g h =
    held_given (feed_of (session_of l t s) ws).session (fed_valid (session_of l t s) ws g.valid) l1 t1 s1 h
