-- The ways that a word can go: one case for each outcome of a step, with what the tests on the way showed. Every law on a step
-- goes by these cases. Assumes nothing.
use mathlib.Core.Path.{◌≡◌, refl, sym, ap, ◌∙◌, subst}
use mathlib.Core.Bool.{true, false}
use mathlib.Core.List.{List}
use Prim.Native.Nat.{ℕ}
use lib.Dec.{eqb, leb, ltb}
use lib.ListN.{length}
use Rattle.laws.specs.Choice.{place_of}
use Rattle.laws.proofs.Choice.{by_pick}
use Rattle.refusal.specs.Told.{Told, gives, refuses, then_told}
use Rattle.command.specs.Table.{headers, count_of}
use Rattle.command.specs.Kinds.{allowed, kind_of}
use Rattle.command.specs.Commands.{command_of}
use Rattle.rules.specs.Rules.{last_rule_of}
use Rattle.command.specs.declared.commands.Command.{Command}
use Rattle.owners.specs.Owners.{may_open, may_name}
use Rattle.state.specs.State.{Open, Session}
use Rattle.state.specs.Effects.{limit, opening, took, with_parameter, after}
use Rattle.session.specs.Step.{still_open, completed, refused, Stepped, refusing, start_rule_of, judged, completing, placing}
use Rattle.session.specs.Step.{parameter_step, header_step, step_of}

-- the command that an open command with all its parameters is
abbrev pub whole : Open → Command
whole o = command_of o.line o.p0 o.p1 o.p2 o.p3

-- the open command that a header begins
abbrev pub begun : ℕ → Open
begun w = record { line = place_of w headers; count = 0; p0 = 0; p1 = 0; p2 = 0; p3 = 0 }

-- a session that goes on with an open command, one word more taken
abbrev pub going_on : Open → Session → Session
going_on o s = record { party = opening o (took s.party); shared = s.shared }

-- a session that takes words
pub record Running (s : Session) : Type 0 where
  pub unstopped : eqb s.party.stopped 1 ≡ false
  pub unfilled : leb limit s.party.taken ≡ false

-- a parameter that its kind allows and that names nothing but one's own, with `o` the open command before it
pub record Placed (s : Session) (w : ℕ) : Type 0 where
  pub running : Running s
  pub is_open : eqb s.party.opened.line 21 ≡ false
  pub kind_allows : allowed (kind_of s.party.opened.line s.party.opened.count) w ≡ true
  pub named : may_name s.party.birth.mine (kind_of s.party.opened.line s.party.opened.count) w ≡ true

pub data Way (s : Session) (w : ℕ) : Stepped → Type 0 where
  -- 1
  was_stopped : eqb s.party.stopped 1 ≡ true → Way s w (record { reply = refused 1; session = s })
  -- 2 to 9, 17 and 20
  stops : (n : ℕ) → eqb s.party.stopped 1 ≡ false → Way s w (refusing s n)
  -- a header
  opens : Running s → eqb s.party.opened.line 21 ≡ true → ltb (place_of w headers) (length headers) ≡ true →
      may_open s.party.birth.mine (place_of w headers) ≡ true → Way s w (record { reply = still_open; session = going_on (begun w) s })
  -- a parameter that isn't the last
  fills : Placed s w → ltb (with_parameter s.party.opened w).count (count_of s.party.opened.line) ≡ true →
      Way s w (record { reply = still_open; session = going_on (with_parameter s.party.opened w) s })
  -- the last parameter
  ends : Placed s w → ltb (with_parameter s.party.opened w).count (count_of s.party.opened.line) ≡ false →
      (c : Command) → c ≡ whole (with_parameter s.party.opened w) → (u v : List ℕ) → last_rule_of c ≡ gives u →
      start_rule_of c s ≡ gives v → Way s w (record { reply = completed c; session = after c s })

-- an answer gives values or refuses
data Case (t : Told) : Type 0 where
  given : (values : List ℕ) → t ≡ gives values → Case t
  denied : (n : ℕ) → t ≡ refuses n → Case t

case : (t : Told) → Case t
case (gives values) = given values refl
case (refuses n) = denied n refl

module _ (s : Session) (w : ℕ) where
  abbrev o : Open
  o = with_parameter s.party.opened w

  module _ (p : Placed s w) (last : ltb o.count (count_of o.line) ≡ false) where
    judged_way : (c : Command) → c ≡ whole o → Case (last_rule_of c) → Case (start_rule_of c s) →
        Way s w (judged (then_told (last_rule_of c) (start_rule_of c s)) c s)
    unfolding then_told judged
    judged_way c e (given u r) (given v q) =
        subst (λ (t : Told). Way s w (judged t c s)) (sym (ap (λ (t : Told). then_told t (start_rule_of c s)) r ∙ q))
        (ends p last c e u v r q)
    judged_way c e (given u r) (denied n q) =
        subst (λ (t : Told). Way s w (judged t c s)) (sym (ap (λ (t : Told). then_told t (start_rule_of c s)) r ∙ q))
        (stops n p.running.unstopped)
    judged_way c e (denied n r) b =
        subst (λ (t : Told). Way s w (judged t c s)) (sym (ap (λ (t : Told). then_told t (start_rule_of c s)) r))
        (stops n p.running.unstopped)

  parameter_way : Running s → eqb s.party.opened.line 21 ≡ false → Way s w (parameter_step s w)
  unfolding parameter_step placing completing
  parameter_way r i =
      by_pick (Way s w) _ _ _
      (λ a.
      by_pick (Way s w) _ _ _
      (λ m.
      let p : Placed s w = record { running = r; is_open = i; kind_allows = a; named = m } in
      by_pick (Way s w) _ _ _ (λ more. fills p more) (λ last. judged_way p last (whole o) refl (case _) (case _)))
      (λ m. stops 20 r.unstopped))
      (λ a. stops _ r.unstopped)

  header_way : Running s → eqb s.party.opened.line 21 ≡ true → Way s w (header_step s w)
  unfolding header_step
  header_way r i =
      by_pick (Way s w) _ _ _ (λ k. by_pick (Way s w) _ _ _ (λ m. opens r i k m) (λ m. stops 20 r.unstopped)) (λ k. stops 2 r.unstopped)

  pub way : Way s w (step_of s w)
  unfolding step_of
  way =
      by_pick (Way s w) _ _ _ was_stopped
      (λ a.
      by_pick (Way s w) _ _ _ (λ b. stops 17 a)
      (λ b.
      let r : Running s = record { unstopped = a; unfilled = b } in by_pick (Way s w) _ _ _ (header_way r) (parameter_way r)))
