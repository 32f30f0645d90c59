-- A session's runs and claims are those before, with the starts among the commands that a piece completed and what these
-- claimed; its count is the one before with the words taken. Assumes nothing.
use mathlib.Core.Path.{◌≡◌, refl, sym, ◌∙◌}
use mathlib.Core.List.{List, [], ◌∷◌}
use Prim.Native.Nat.{ℕ, ◌+◌}
use native.Mathlib.Nat.{add-zero, zero-add}
use native.Mathlib.Omega.{arith}
use Rattle.command.specs.declared.commands.Stored.TheVariants as stored
use Rattle.command.specs.declared.commands.Command.{Command}
use Rattle.command.specs.declared.commands.Command.TheVariants as command
use Rattle.state.specs.State.{Session, new_session}
use Rattle.state.specs.Effects.{own_after, shared_after, after}
use Rattle.session.specs.Step.{still_open, completed, refused, Stepped, step_of}
use Rattle.session.specs.Feed.{Fed, proceed, feed_of}
use Rattle.session.specs.Tallies.{run_of, claim_by, domain_after, mask_after, outputs_after, runs_of, claims_of}
use Rattle.session.proofs.Ways.{Way, was_stopped, stops, opens, fills, ends, way}

-- the tallies of a later session, from those of an earlier one and the commands between them
pub record Tallied (s : Session) (cs : List Command) (u : Session) : Type 0 where
  pub runs : u.party.tally.runs ≡ s.party.tally.runs + runs_of cs
  pub claims : u.party.tally.claims ≡ s.party.tally.claims + claims_of s.party.birth cs s.party.domain s.shared.mask s.shared.outputs

-- one command between them
record One (s : Session) (c : Command) (u : Session) : Type 0 where
  runs : u.party.tally.runs ≡ s.party.tally.runs + run_of c
  claims : u.party.tally.claims ≡ s.party.tally.claims + claim_by s.party.birth c s.party.domain s.shared.mask s.shared.outputs
  domain : u.party.domain ≡ domain_after c s.party.domain
  mask : u.shared.mask ≡ mask_after s.party.birth c s.shared.mask
  outputs : u.shared.outputs ≡ outputs_after c s.shared.outputs
  birth : u.party.birth ≡ s.party.birth
  count : u.party.taken ≡ s.party.taken + 1

-- none, with `n` words
record None (s : Session) (n : ℕ) (u : Session) : Type 0 where
  runs : u.party.tally.runs ≡ s.party.tally.runs
  claims : u.party.tally.claims ≡ s.party.tally.claims
  domain : u.party.domain ≡ s.party.domain
  mask : u.shared.mask ≡ s.shared.mask
  outputs : u.shared.outputs ≡ s.shared.outputs
  birth : u.party.birth ≡ s.party.birth
  count : u.party.taken ≡ s.party.taken + n

one : (s : Session) (c : Command) → One s c (after c s)
unfolding after own_after shared_after run_of claim_by domain_after mask_after outputs_after
one s (command.Domain i0 j0 i1 j1) = record { runs = sym (add-zero _); claims = sym (add-zero _); domain = refl; mask = refl; outputs = refl; birth = refl; count = refl }
one s command.Start = record { runs = refl; claims = refl; domain = refl; mask = refl; outputs = refl; birth = refl; count = refl }
one s (command.Effectless what) = record { runs = sym (add-zero _); claims = sym (add-zero _); domain = refl; mask = refl; outputs = refl; birth = refl; count = refl }
one s (command.Store stored.Instructions base format) =
    record { runs = sym (add-zero _); claims = sym (add-zero _); domain = refl; mask = refl; outputs = refl; birth = refl; count = refl }
one s (command.Store stored.Floats base format) =
    record { runs = sym (add-zero _); claims = sym (add-zero _); domain = refl; mask = refl; outputs = refl; birth = refl; count = refl }
one s (command.Store stored.Integers base format) =
    record { runs = sym (add-zero _); claims = sym (add-zero _); domain = refl; mask = refl; outputs = refl; birth = refl; count = refl }
one s (command.Store stored.Booleans base format) =
    record { runs = sym (add-zero _); claims = sym (add-zero _); domain = refl; mask = refl; outputs = refl; birth = refl; count = refl }
one s (command.Input number base format height) =
    record { runs = sym (add-zero _); claims = sym (add-zero _); domain = refl; mask = refl; outputs = refl; birth = refl; count = refl }
one s (command.Output number base format height) =
    record { runs = sym (add-zero _); claims = sym (add-zero _); domain = refl; mask = refl; outputs = refl; birth = refl; count = refl }
one s (command.Conditional base format height) =
    record { runs = sym (add-zero _); claims = sym (add-zero _); domain = refl; mask = refl; outputs = refl; birth = refl; count = refl }
one s (command.OutputMask mask) = record { runs = sym (add-zero _); claims = sym (add-zero _); domain = refl; mask = refl; outputs = refl; birth = refl; count = refl }
one s (command.ConditionalMask mask) = record { runs = sym (add-zero _); claims = sym (add-zero _); domain = refl; mask = refl; outputs = refl; birth = refl; count = refl }
one s (command.Test test) = record { runs = sym (add-zero _); claims = sym (add-zero _); domain = refl; mask = refl; outputs = refl; birth = refl; count = refl }

-- what a word does to the tallies, by its reply
data Moved (s : Session) : Stepped → Type 0 where
  on : (u : Session) → None s 1 u → Moved s (record { reply = still_open; session = u })
  whole : (c : Command) (u : Session) → One s c u → Moved s (record { reply = completed c; session = u })
  off : (n : ℕ) (u : Session) → None s 0 u → Moved s (record { reply = refused n; session = u })

moved : (s : Session) (w : ℕ) {t : Stepped} → Way s w t → Moved s t
moved s w (was_stopped e) = off 1 s (record { runs = refl; claims = refl; domain = refl; mask = refl; outputs = refl; birth = refl; count = sym (add-zero _) })
moved s w (stops n e) = off n _ (record { runs = refl; claims = refl; domain = refl; mask = refl; outputs = refl; birth = refl; count = sym (add-zero _) })
moved s w (opens r i k m) = on _ (record { runs = refl; claims = refl; domain = refl; mask = refl; outputs = refl; birth = refl; count = refl })
moved s w (fills p m) = on _ (record { runs = refl; claims = refl; domain = refl; mask = refl; outputs = refl; birth = refl; count = refl })
moved s w (ends p l c e u v r q) = whole c _ (one s c)

module _ (s u : Session) (cs : List Command) (f : Session) (r : Tallied u cs f) where
  after_none : (n : ℕ) → None s n u → Tallied s cs f
  after_none n e =
      let k : claims_of u.party.birth cs u.party.domain u.shared.mask u.shared.outputs
      ≡ claims_of s.party.birth cs s.party.domain s.shared.mask s.shared.outputs = λ j. claims_of (e.birth j) cs (e.domain j) (e.mask j) (e.outputs j) in
      record { runs = omega (arith, r.runs, e.runs); claims = omega (arith, r.claims, e.claims) }

  after_one : (c : Command) → One s c u → Tallied s (c ∷ cs) f
  unfolding runs_of claims_of
  after_one c e =
      let k :
      claims_of u.party.birth cs u.party.domain u.shared.mask u.shared.outputs ≡
      claims_of s.party.birth cs (domain_after c s.party.domain) (mask_after s.party.birth c s.shared.mask) (outputs_after c s.shared.outputs)
      = λ j. claims_of (e.birth j) cs (e.domain j) (e.mask j) (e.outputs j)
      in
      record { runs = omega (arith, r.runs, e.runs); claims = omega (arith, r.claims, e.claims) }

nothing_tallied : (s : Session) → Tallied s [] s
unfolding runs_of claims_of
nothing_tallied s = record { runs = sym (add-zero _); claims = sym (add-zero _) }

tallied_word : (s : Session) (t : Stepped) (f : Fed) → Moved s t → Tallied t.session f.commands f.session →
    Tallied s (proceed t.reply t.session f).commands (proceed t.reply t.session f).session
unfolding proceed
tallied_word s t f (on u e) r = after_none s u f.commands f.session r 1 e
tallied_word s t f (whole c u e) r = after_one s u f.commands f.session r c e
tallied_word s t f (off n u e) r = after_none s u [] u (nothing_tallied u) 0 e

pub tallied : (s : Session) (ws : List ℕ) → Tallied s (feed_of s ws).commands (feed_of s ws).session
unfolding feed_of
tallied s [] = nothing_tallied s
tallied s (w ∷ ws) =
    tallied_word s (step_of s w) (feed_of (step_of s w).session ws) (moved s w (way s w)) (tallied (step_of s w).session ws)

-- so from the beginning: the runs are the starts, and the claims what these claimed
module _ (edition : ℕ) (ws : List ℕ) where
  pub all_runs : (feed_of (new_session edition) ws).session.party.tally.runs ≡ runs_of (feed_of (new_session edition) ws).commands
  all_runs = (tallied (new_session edition) ws).runs ∙ zero-add _

  pub all_claims :
      (feed_of (new_session edition) ws).session.party.tally.claims ≡
      claims_of (new_session edition).party.birth (feed_of (new_session edition) ws).commands (new_session edition).party.domain
      (new_session edition).shared.mask (new_session edition).shared.outputs
  all_claims = (tallied (new_session edition) ws).claims ∙ zero-add _

-- "A refused word isn't counted as taken."
counted_word : (s : Session) (t : Stepped) (f : Fed) → Moved s t → f.session.party.taken ≡ t.session.party.taken + f.taken →
    (proceed t.reply t.session f).session.party.taken ≡ s.party.taken + (proceed t.reply t.session f).taken
unfolding proceed
counted_word s t f (on u e) r = omega (arith, e.count)
counted_word s t f (whole c u e) r = omega (arith, e.count)
counted_word s t f (off n u e) r = e.count

pub counted : (s : Session) (ws : List ℕ) → (feed_of s ws).session.party.taken ≡ s.party.taken + (feed_of s ws).taken
unfolding feed_of
counted s [] = sym (add-zero _)
counted s (w ∷ ws) =
    counted_word s (step_of s w) (feed_of (step_of s w).session ws) (moved s w (way s w)) (counted (step_of s w).session ws)

-- "A session's edition .. is fixed at its birth": no word changes what was fixed then
born_word : (s : Session) (t : Stepped) (f : Fed) → Moved s t → f.session.party.birth ≡ t.session.party.birth →
    (proceed t.reply t.session f).session.party.birth ≡ s.party.birth
unfolding proceed
born_word s t f (on u e) r = r ∙ e.birth
born_word s t f (whole c u e) r = r ∙ e.birth
born_word s t f (off n u e) r = e.birth

pub born : (s : Session) (ws : List ℕ) → (feed_of s ws).session.party.birth ≡ s.party.birth
unfolding feed_of
born s [] = refl
born s (w ∷ ws) =
    born_word s (step_of s w) (feed_of (step_of s w).session ws) (moved s w (way s w)) (born (step_of s w).session ws)
