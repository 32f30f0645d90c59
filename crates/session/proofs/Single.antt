-- A piece of one word, by its step. Assumes nothing.
use mathlib.Core.Path.{◌≡◌, refl, sym, ap, subst}
use mathlib.Core.List.{List, [], ◌∷◌}
use Prim.Native.Nat.{ℕ}
use lib.ListN.{length}
use Rattle.std.specs.Prelude.{Ok}
use Rattle.state.specs.State.{Session}
use Rattle.state.specs.Asked.{Held}
use Rattle.session.specs.Step.{Reply, still_open, completed, refused, step_of}
use Rattle.session.specs.Feed.{Fed, nothing, ended, proceed, feed_of, first_status}
use Rattle.session.specs.Asked.{Left, Told}
use Rattle.session.specs.declared.stream.Progress.{Progress}
use Rattle.session.specs.declared.stream.Progress.TheVariants.{Open, Whole}
use Rattle.session.proofs.Numbers.{told_open, told_whole}

-- a piece's answer in three numbers, and cells that hold the session after it
pub record Fed_in (f : Fed) (taken commands number : ℕ) (own tallies shared : List ℕ) : Type 0 where
  pub words : taken ≡ f.taken
  pub whole : commands ≡ length f.commands
  pub status : number ≡ first_status f.refusal
  pub held : Held f.session own tallies shared

module _ (s : Session) (w : ℕ) {l t c : List ℕ} where
  alone : (y : Reply) → Left (step_of s w) y l t c → feed_of s (w ∷ []) ≡ proceed y (step_of s w).session (ended nothing (step_of s w).session)
  unfolding feed_of
  alone y e = ap (λ (x : Reply). proceed x (step_of s w).session (ended nothing (step_of s w).session)) (sym e.reply)

  -- the command is still open
  pub one_open : {p : Progress} → p ≡ Open → Told (step_of s w) (Ok p) l t c → Fed_in (feed_of s (w ∷ [])) 1 0 0 l t c
  one_open e h =
      let left = told_open (step_of s w) e h in
      subst (λ (f : Fed). Fed_in f 1 0 0 l t c) (sym (alone still_open left))
      (unfold proceed in record { words = refl; whole = refl; status = refl; held = left.held })

  -- the word completed it
  pub one_completed : {p : Progress} → p ≡ Whole → Told (step_of s w) (Ok p) l t c → Fed_in (feed_of s (w ∷ [])) 1 1 0 l t c
  one_completed e h =
      let done = told_whole (step_of s w) e h in
      subst (λ (f : Fed). Fed_in f 1 1 0 l t c) (sym (alone (completed done.command) done.left))
      (unfold proceed in record { words = refl; whole = refl; status = refl; held = done.left.held })

  -- the word is refused
  pub one_refused : (n k : ℕ) → k ≡ n → Left (step_of s w) (refused n) l t c → Fed_in (feed_of s (w ∷ [])) 0 0 k l t c
  one_refused n k e h =
      subst (λ (f : Fed). Fed_in f 0 0 k l t c) (sym (alone (refused n) h))
      (unfold proceed in record { words = refl; whole = refl; status = e; held = h.held })
