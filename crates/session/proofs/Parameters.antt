-- The parameters of a command, fed one after the other to a session that holds the command open: all but the last leave it open, the
-- last completes it, unless 17 comes before. Assumes nothing.
use mathlib.Core.Path.{◌≡◌, refl, sym, ap, ap₂, ◌∙◌, subst}
use mathlib.Core.Bool.{true}
use mathlib.Core.List.{List, [], ◌∷◌, ◌++◌, append_assoc}
use Prim.Native.Nat.{ℕ, zero, suc, ◌+◌, ◌-◌, ◌<◌, ◌≤◌}
use native.Mathlib.Omega.{arith}
use lib.Dec.{eqb}
use lib.ListN.{length, get_or, length-append}
use borrow.Author.Tests.{eqb-true, eqb-false, ne_eqb, lt-ltb, le-ltb, le-leb, lt-leb}
use Rattle.laws.specs.Choice.{pick}
use Rattle.laws.proofs.Choice.{Tested, holds, fails, tested, pick_yes, pick_no}
use Rattle.refusal.specs.Told.{Told, gives, refuses, then_told}
use Rattle.command.specs.Table.{count_of}
use Rattle.command.specs.Kinds.{allowed, kind_of}
use Rattle.command.specs.Commands.{line_of, fields_of, EachAllowed}
use Rattle.rules.specs.Rules.{last_rule_of}
use Rattle.command.specs.declared.commands.Command.{Command}
use Rattle.command.specs.declared.commands.Command.TheVariants as command
use Rattle.command.proofs.WriteBack.{read_back, lined}
use Rattle.command.proofs.Headers.{count_most}
use Rattle.owners.specs.Owners.{may_name, owned}
use Rattle.owners.proofs.Commands.{owned_names}
use Rattle.state.specs.State.{Open, Session, none}
use Rattle.state.specs.Effects.{limit, with_parameter, after}
use Rattle.session.specs.Step.{completed, refused, Stepped, refusing, start_rule_of, judged, completing, placing, parameter_step, step_of}
use Rattle.session.specs.Feed.{nothing, first, Fed, onward, ended, proceed, feed_of}
use Rattle.session.specs.Again.{fed, holding, at_word}
use Rattle.session.proofs.Refusals.{going}

-- one parameter more
held_more : (l : ℕ) (ps : List ℕ) (w : ℕ) → length ps < 4 → with_parameter (holding l ps) w ≡ holding l (ps ++ (w ∷ []))
unfolding pick
held_more l [] w h = refl
held_more l (a ∷ []) w h = refl
held_more l (a ∷ b ∷ []) w h = refl
held_more l (a ∷ b ∷ c ∷ []) w h = refl
held_more l (a ∷ b ∷ c ∷ d ∷ ps) w h = absurd (omega arith)

-- the start rule asks of the settings alone
start_same : (c : Command) (s : Session) (n : ℕ) (o : Open) → start_rule_of c (at_word s n o) ≡ start_rule_of c s
unfolding start_rule_of
start_same (command.Domain i0 j0 i1 j1) s n o = refl
start_same command.Start s n o = refl
start_same (command.Effectless what) s n o = refl
start_same (command.Store what base format) s n o = refl
start_same (command.Input number base format height) s n o = refl
start_same (command.Output number base format height) s n o = refl
start_same (command.Conditional base format height) s n o = refl
start_same (command.OutputMask mask) s n o = refl
start_same (command.ConditionalMask mask) s n o = refl
start_same (command.Test test) s n o = refl

-- a whole command drops the open one, whatever it is
judged_same : (t : Told) (c : Command) (s : Session) (n : ℕ) (o p : Open) →
    judged t c (at_word s n o) ≡ judged t c (at_word s n p)
unfolding judged after
judged_same (gives values) c s n o p = refl
judged_same (refuses m) c s n o p = refl

at_end : (ps : List ℕ) (q : ℕ) (qs : List ℕ) → get_or (ps ++ (q ∷ qs)) (length ps) 0 ≡ q
at_end [] q qs = refl
at_end (p ∷ ps) q qs = at_end ps q qs

-- the answer to a piece of which all words but the last leave a command open
unfoldable pub lastly : ℕ → Stepped → Fed
lastly zero t = proceed t.reply t.session (ended nothing t.session)
lastly (suc n) t = onward [] (lastly n t)

module _ (s : Session) (unstopped : s.party.stopped ≡ 0) (c : Command) (a : EachAllowed (line_of c) (fields_of c))
    (own : owned s.party.birth.mine c ≡ true) where
  abbrev l : ℕ
  l = line_of c

  abbrev told : Told
  told = then_told (last_rule_of c) (start_rule_of c s)

  -- the answer where `m` words were taken before, and 17 comes
  abbrev filled_up_lem : ℕ → Fed
  filled_up_lem m = fed (limit - m) [] (first 17) (refusing (at_word s limit none) 17).session

  module _ (m : ℕ) (ps : List ℕ) (q : ℕ) (qs : List ℕ) (e : ps ++ (q ∷ qs) ≡ fields_of c) (less : m < limit) where
    sized : length ps + suc (length qs) ≡ count_of l
    sized = sym (length-append ps (q ∷ qs)) ∙ ap length e ∙ (lined c).fields_count

    placed : step_of (at_word s m (holding l ps)) q ≡ placing (holding l (ps ++ (q ∷ []))) (at_word s m (holding l ps))
    unfolding step_of parameter_step
    placed =
        pick_no _ _ (ne_eqb s.party.stopped 1 (λ k. omega (arith, unstopped))) ∙
        pick_no _ _ (lt-leb limit m less) ∙
        pick_no _ _ (ne_eqb l 21 (λ k. omega (arith, (lined c).line_most))) ∙
        pick_yes _ _ fits ∙ pick_yes _ _ names ∙
        ap (λ (o : Open). placing o (at_word s m (holding l ps))) (held_more l ps q (omega (arith, sized, count_most l (lined c).line_most)))
      where
        here : get_or (fields_of c) (length ps) 0 ≡ q
        here = ap (λ (fs : List ℕ). get_or fs (length ps) 0) (sym e) ∙ at_end ps q qs

        names : may_name s.party.birth.mine (kind_of l (length ps)) q ≡ true
        names =
            subst (λ (x : ℕ). may_name s.party.birth.mine (kind_of l (length ps)) x ≡ true) here
            (owned_names s.party.birth.mine c own (length ps) (omega (arith, sized)))

        fits : allowed (kind_of l (length ps)) q ≡ true
        fits =
            subst (λ (x : ℕ). allowed (kind_of l (length ps)) x ≡ true)
            here (a (length ps) (omega (arith, sized)))

    -- a parameter that isn't the last
    filled : 0 < length qs →
        step_of (at_word s m (holding l ps)) q ≡ going (at_word s (m + 1) (holding l (ps ++ (q ∷ []))))
    unfolding placing
    filled k =
        placed ∙
        pick_yes _ _ (lt-ltb (length (ps ++ (q ∷ []))) (count_of l) (omega (arith, sized, length-append ps (q ∷ []))))

  module _ (n : ℕ) (room : n < limit) where
    -- the last
    ended_with_lem : (ps : List ℕ) (q : ℕ) → ps ++ (q ∷ []) ≡ fields_of c →
        step_of (at_word s n (holding l ps)) q ≡ judged told c (at_word s n none)
    unfolding placing completing
    ended_with_lem ps q e =
        placed n ps q [] e room ∙
        pick_no _ _ (le-ltb (length (ps ++ (q ∷ []))) (count_of l) (omega (arith, sized n ps q [] e room, length-append ps (q ∷ [])))) ∙
        ap (λ (fs : List ℕ). completing (holding l fs) here) e ∙
        ap (λ (d : Command). judged (then_told (last_rule_of d) (start_rule_of d here)) d here) (read_back c) ∙
        ap (λ (t : Told). judged (then_told (last_rule_of c) t) c here) (start_same c s n (holding l ps)) ∙
        judged_same told c s n (holding l ps) none
      where
        here : Session
        here = at_word s n (holding l ps)

    pub rest : (qs : List ℕ) (q : ℕ) (ps : List ℕ) (m : ℕ) → ps ++ (q ∷ qs) ≡ fields_of c → m + length qs ≡ n →
        feed_of (at_word s m (holding l ps)) (q ∷ qs) ≡ lastly (length qs) (judged told c (at_word s n none))
    unfolding feed_of lastly proceed
    rest [] q ps m e k =
        let same : m ≡ n = omega arith in
        ap (λ (x : ℕ). lastly 0 (step_of (at_word s x (holding l ps)) q)) same ∙ ap (lastly 0) (ended_with_lem ps q e)
    rest (q' ∷ qs) q ps m e k =
        ap (λ (t : Stepped). proceed t.reply t.session (feed_of t.session (q' ∷ qs)))
        (filled m ps q (q' ∷ qs) e (omega arith) (omega arith)) ∙
        ap (onward []) (rest qs q' (ps ++ (q ∷ [])) (m + 1) (append_assoc ps (q ∷ []) (q' ∷ qs) ∙ e) (omega arith))

  -- where the words don't all fit, 17 comes with the first that doesn't
  pub full_piece : (m : ℕ) (o : Open) (q : ℕ) (qs : List ℕ) → m ≡ limit → feed_of (at_word s m o) (q ∷ qs) ≡ filled_up_lem m
  unfolding feed_of step_of proceed
  full_piece m o q qs e =
      ap (λ (t : Stepped). proceed t.reply t.session (feed_of t.session qs))
      (pick_no _ _ (ne_eqb s.party.stopped 1 (λ k. omega (arith, unstopped))) ∙
      pick_yes _ _ (le-leb limit m (omega arith))) ∙
      ap₂ (λ (x y : ℕ). fed x [] (first 17) (refusing (at_word s y none) 17).session) none_left e
    where
      none_left : 0 ≡ limit - m
      none_left = omega arith

  pub onward_full : (m : ℕ) → m < limit → onward [] (filled_up_lem (m + 1)) ≡ filled_up_lem m
  onward_full m h = ap (λ (x : ℕ). fed x [] (first 17) (refusing (at_word s limit none) 17).session) (one_more m h)
    where
      one_more : (m : ℕ) → m < limit → suc (limit - (m + 1)) ≡ limit - m
      one_more m h = omega arith

  pub overfull : (qs : List ℕ) (q : ℕ) (ps : List ℕ) (m : ℕ) → ps ++ (q ∷ qs) ≡ fields_of c → m ≤ limit → limit < m + suc (length qs) →
      feed_of (at_word s m (holding l ps)) (q ∷ qs) ≡ filled_up_lem m
  unfolding feed_of proceed
  overfull [] q ps m e h k = full_piece m (holding l ps) q [] (omega arith)
  overfull (q' ∷ qs) q ps m e h k =
      go (tested (eqb m limit)) (overfull qs q' (ps ++ (q ∷ [])) (m + 1) (append_assoc ps (q ∷ []) (q' ∷ qs) ∙ e))
    where
      go : Tested (eqb m limit) →
          (m + 1 ≤ limit → limit < m + 1 + suc (length qs) →
          feed_of (at_word s (m + 1) (holding l (ps ++ (q ∷ [])))) (q' ∷ qs) ≡ filled_up_lem (m + 1)) →
          feed_of (at_word s m (holding l ps)) (q ∷ q' ∷ qs) ≡ filled_up_lem m
      go (holds t) ih = full_piece m (holding l ps) q (q' ∷ qs) (eqb-true m limit t)
      go (fails t) ih =
          let ne : m ≡ limit → ⊥ = eqb-false m limit t in
          let less : m < limit = omega arith in
          ap (λ (t : Stepped). proceed t.reply t.session (feed_of t.session (q' ∷ qs)))
          (filled m ps q (q' ∷ qs) e less (omega arith)) ∙
          ap (onward []) (ih (omega arith) (omega arith)) ∙ onward_full m less

-- the answers that a last word can give
pub lastly_completed : (k : ℕ) (c : Command) (u : Session) →
    lastly k (record { reply = completed c; session = u }) ≡ fed (suc k) (c ∷ []) nothing u
unfolding lastly proceed
lastly_completed zero c u = refl
lastly_completed (suc k) c u = ap (onward []) (lastly_completed k c u)

pub lastly_refused : (k n : ℕ) (u : Session) → lastly k (record { reply = refused n; session = u }) ≡ fed k [] (first n) u
unfolding lastly proceed
lastly_refused zero n u = refl
lastly_refused (suc k) n u = ap (onward []) (lastly_refused k n u)
