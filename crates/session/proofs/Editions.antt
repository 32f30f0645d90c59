-- Document 02, request 10: "all answers but claimed totals, and what is reckoned from those, agree": sessions that differ in nothing
-- but their edition, their claims and what a pair is credited answer alike, and go on to differ in nothing but these. Assumes nothing.
use mathlib.Core.Path.{◌≡◌, refl, sym, ap, ◌∙◌, subst}
use mathlib.Core.Bool.{Bool, true, false}
use mathlib.Core.List.{List, [], ◌∷◌}
use Prim.Native.Nat.{ℕ, suc}
use lib.Dec.{eqb, leb, ltb}
use lib.ListN.{length}
use Rattle.laws.specs.Choice.{pick, place_of}
use Rattle.refusal.specs.Told.{Told, gives, refuses, then_told}
use Rattle.command.specs.Table.{headers, count_of}
use Rattle.command.specs.Kinds.{allowed, fault_of, kind_of}
use Rattle.command.specs.Commands.{command_of}
use Rattle.rules.specs.Rules.{last_rule_of}
use Rattle.command.specs.declared.commands.Stored.TheVariants as stored
use Rattle.command.specs.declared.commands.Command.{Command}
use Rattle.command.specs.declared.commands.Command.TheVariants as command
use Rattle.owners.specs.Owners.{may_open, may_name}
use Rattle.state.specs.State.{Open, Session, at_line, new_session}
use Rattle.state.specs.Readiness.{worked_out, gauge_of}
use Rattle.state.specs.Effects.{limit, opening, took, own_after, after, with_parameter}
use Rattle.session.specs.Step.{Reply, still_open, completed, refused, Stepped, refusing, start_rule_of, judged, completing, placing, parameter_step, header_step, step_of}
use Rattle.session.specs.Feed.{Fed, proceed, feed_of}
use Rattle.session.specs.Editions.{unclaimed, SameButClaims}

-- what a step leaves, with the edition, the claims and the credit set aside
aside_of : Stepped → Stepped
aside_of t = record { reply = t.reply; session = unclaimed t.session }

either_way : (b : Bool) (x y u v : Stepped) → aside_of x ≡ aside_of u → aside_of y ≡ aside_of v →
    aside_of (pick b x y) ≡ aside_of (pick b u v)
unfolding pick
either_way true x y u v e f = e
either_way false x y u v e f = f

after_aside : (c : Command) (s : Session) → unclaimed (after c (unclaimed s)) ≡ unclaimed (after c s)
unfolding after own_after worked_out gauge_of
after_aside (command.Domain i0 j0 i1 j1) s = refl
after_aside command.Start s = refl
after_aside (command.Effectless what) s = refl
after_aside (command.Store stored.Instructions base format) s = refl
after_aside (command.Store stored.Floats base format) s = refl
after_aside (command.Store stored.Integers base format) s = refl
after_aside (command.Store stored.Booleans base format) s = refl
after_aside (command.Input number base format height) s = refl
after_aside (command.Output number base format height) s = refl
after_aside (command.Conditional base format height) s = refl
after_aside (command.OutputMask mask) s = refl
after_aside (command.ConditionalMask mask) s = refl
after_aside (command.Test test) s = refl

judged_aside : (t : Told) (c : Command) (s : Session) → aside_of (judged t c (unclaimed s)) ≡ aside_of (judged t c s)
unfolding judged aside_of
judged_aside (gives values) c s = λ k. record { reply = completed c; session = after_aside c s k }
judged_aside (refuses n) c s = refl

rule_aside : (c : Command) (s : Session) → start_rule_of c (unclaimed s) ≡ start_rule_of c s
unfolding start_rule_of
rule_aside (command.Domain i0 j0 i1 j1) s = refl
rule_aside command.Start s = refl
rule_aside (command.Effectless what) s = refl
rule_aside (command.Store what base format) s = refl
rule_aside (command.Input number base format height) s = refl
rule_aside (command.Output number base format height) s = refl
rule_aside (command.Conditional base format height) s = refl
rule_aside (command.OutputMask mask) s = refl
rule_aside (command.ConditionalMask mask) s = refl
rule_aside (command.Test test) s = refl

completing_aside : (o : Open) (s : Session) → aside_of (completing o (unclaimed s)) ≡ aside_of (completing o s)
unfolding completing
completing_aside o s =
    let c = command_of o.line o.p0 o.p1 o.p2 o.p3 in
    ap (λ (t : Told). aside_of (judged (then_told (last_rule_of c) t) c (unclaimed s))) (rule_aside c s) ∙
    judged_aside (then_told (last_rule_of c) (start_rule_of c s)) c s

-- the command stays open, or the word is refused
open_aside : (o : Open) (s : Session) →
    aside_of (record { reply = still_open; session = record { party = opening o (took (unclaimed s).party); shared = s.shared } }) ≡
    aside_of (record { reply = still_open; session = record { party = opening o (took s.party); shared = s.shared } })
unfolding aside_of
open_aside o s = refl

refusing_aside : (s : Session) (n : ℕ) → aside_of (refusing (unclaimed s) n) ≡ aside_of (refusing s n)
unfolding aside_of
refusing_aside s n = refl

stopped_aside : (s : Session) → aside_of (record { reply = refused 1; session = unclaimed s }) ≡ aside_of (record { reply = refused 1; session = s })
unfolding aside_of
stopped_aside s = refl

placing_aside : (o : Open) (s : Session) → aside_of (placing o (unclaimed s)) ≡ aside_of (placing o s)
unfolding placing
placing_aside o s = either_way (ltb o.count (count_of o.line)) _ _ _ _ (open_aside o s) (completing_aside o s)

parameter_aside : (s : Session) (w : ℕ) → aside_of (parameter_step (unclaimed s) w) ≡ aside_of (parameter_step s w)
unfolding parameter_step
parameter_aside s w =
    let o = s.party.opened in
    either_way (allowed (kind_of o.line o.count) w) _ _ _ _
    (either_way (may_name s.party.birth.mine (kind_of o.line o.count) w) _ _ _ _ (placing_aside (with_parameter o w) s)
    (refusing_aside s 20))
    (refusing_aside s (fault_of (kind_of o.line o.count)))

header_aside : (s : Session) (w : ℕ) → aside_of (header_step (unclaimed s) w) ≡ aside_of (header_step s w)
unfolding header_step
header_aside s w =
    either_way (ltb (place_of w headers) (length headers)) _ _ _ _
    (either_way (may_open s.party.birth.mine (place_of w headers)) _ _ _ _ (open_aside (at_line (place_of w headers)) s) (refusing_aside s 20))
    (refusing_aside s 2)

step_aside : (s : Session) (w : ℕ) → aside_of (step_of (unclaimed s) w) ≡ aside_of (step_of s w)
unfolding step_of
step_aside s w =
    either_way (eqb s.party.stopped 1) _ _ _ _ (stopped_aside s)
    (either_way (leb limit s.party.taken) _ _ _ _ (refusing_aside s 17)
    (either_way (eqb s.party.opened.line 21) _ _ _ _ (header_aside s w) (parameter_aside s w)))

-- sessions that differ in nothing but these get the same answers
step_alike : (s u : Session) (w : ℕ) → unclaimed s ≡ unclaimed u → aside_of (step_of s w) ≡ aside_of (step_of u w)
step_alike s u w e = sym (step_aside s w) ∙ ap (λ (x : Session). aside_of (step_of x w)) e ∙ step_aside u w

reply_alike : (t v : Stepped) → aside_of t ≡ aside_of v → t.reply ≡ v.reply
unfolding aside_of
reply_alike t v e = ap (λ (x : Stepped). x.reply) e

session_alike : (t v : Stepped) → aside_of t ≡ aside_of v → unclaimed t.session ≡ unclaimed v.session
unfolding aside_of
session_alike t v e = ap (λ (x : Stepped). x.session) e

go_on : (r q : Reply) (s u : Session) (f g : Fed) → r ≡ q → unclaimed s ≡ unclaimed u → SameButClaims f g →
    SameButClaims (proceed r s f) (proceed q u g)
unfolding proceed
go_on r q s u f g e a same = subst_reply q e
  where
    by_reply : (x : Reply) → SameButClaims (proceed x s f) (proceed x u g)
    by_reply still_open =
        record {
          taken = ap (λ (n : ℕ). suc n) same.taken;
          commands = same.commands;
          refusal = same.refusal;
          session = same.session;
        }
    by_reply (completed c) =
        record {
          taken = ap (λ (n : ℕ). suc n) same.taken;
          commands = ap {B = List Command} (λ (cs : List Command). c ∷ cs) same.commands;
          refusal = same.refusal;
          session = same.session;
        }
    by_reply (refused n) = record { taken = refl; commands = refl; refusal = refl; session = a }

    subst_reply : (x : Reply) → r ≡ x → SameButClaims (proceed r s f) (proceed x u g)
    subst_reply x k = subst (λ (y : Reply). SameButClaims (proceed r s f) (proceed y u g)) k (by_reply r)

pub editions_alike : (ws : List ℕ) (s u : Session) → unclaimed s ≡ unclaimed u → SameButClaims (feed_of s ws) (feed_of u ws)
unfolding feed_of
editions_alike [] s u e = record { taken = refl; commands = refl; refusal = refl; session = e }
editions_alike (w ∷ ws) s u e =
    let same = step_alike s u w e in
    let after = session_alike (step_of s w) (step_of u w) same in
    go_on (step_of s w).reply (step_of u w).reply (step_of s w).session (step_of u w).session (feed_of (step_of s w).session ws)
    (feed_of (step_of u w).session ws) (reply_alike (step_of s w) (step_of u w) same) after
    (editions_alike ws (step_of s w).session (step_of u w).session after)

-- "all answers but claimed totals .. agree": from the beginning on, whatever words come
pub editions_agree : (a b : ℕ) (ws : List ℕ) → SameButClaims (feed_of (new_session a) ws) (feed_of (new_session b) ws)
editions_agree a b ws = editions_alike ws (new_session a) (new_session b) refl
