-- What a session that refuses leaves: a refused word changes nothing but the stop and the dropped command, and a stopped session
-- changes nothing at all; the numbers that can come; which headers are accepted; a piece leaves a valid session. Assumes nothing.
use mathlib.Core.Path.{◌≡◌, refl, sym, ap, ◌∙◌, subst}
use mathlib.Core.Bool.{Bool, true, false}
use mathlib.Core.List.{List, [], ◌∷◌}
use Prim.Native.Nat.{ℕ, ◌<◌}
use native.Mathlib.Omega.{arith}
use lib.ListN.{take}
use borrow.Author.Tests.{eqb-true, eq-eqb, ne_eqb, lt-ltb, le-ltb, lt-leb}
use Rattle.laws.specs.Choice.{pick, place_of}
use Rattle.laws.proofs.Choice.{pick_yes, pick_no, by_pick}
use Rattle.refusal.specs.Told.{Told, gives, refuses, then_told}
use Rattle.command.specs.Table.{headers}
use Rattle.command.specs.declared.commands.Command.{Command}
use Rattle.command.specs.declared.commands.Command.TheVariants as command
use Rattle.command.proofs.Headers.{Accepted, listed, place_of_line}
use Rattle.rules.proofs.Judging.{Fault, three, four, fault}
use Rattle.rules.proofs.Rule.{Ruled, fine, five, six, ruled}
use Rattle.owners.specs.Owners.{may_open}
use Rattle.state.specs.State.{Open, Session, none}
use Rattle.state.specs.Start.{ready_of}
use Rattle.state.specs.Effects.{limit}
use Rattle.session.specs.Step.{Reply, still_open, completed, refused, Stepped, refusing, start_rule_of, judged, completing, placing}
use Rattle.session.specs.Step.{parameter_step, header_step, step_of}
use Rattle.session.specs.Feed.{first, Fed, ended, proceed, feed_of}
use Rattle.state.specs.Valid.{Valid}
use Rattle.session.specs.Refusals.{StopNumber, low, full, foreign, RefusedTo, unchanged, stopping}
use Rattle.session.specs.Again.{Idle, holding}
use Rattle.session.proofs.Ways.{going_on}
use Rattle.session.proofs.Kept.{kept}
use Rattle.session.proofs.Cut.{stopped_word}
use Rattle.session.proofs.WriteBack.{first_word}

-- every piece leaves a valid session
proceed_valid : (r : Reply) (u : Session) (f : Fed) → Valid u → Valid f.session → Valid (proceed r u f).session
unfolding proceed
proceed_valid still_open u f v k = k
proceed_valid (completed c) u f v k = k
proceed_valid (refused n) u f v k = v

pub fed_valid : (s : Session) (ws : List ℕ) → Valid s → Valid (feed_of s ws).session
unfolding feed_of
fed_valid s [] v = v
fed_valid s (w ∷ ws) v =
    proceed_valid (step_of s w).reply (step_of s w).session (feed_of (step_of s w).session ws) (kept s w v)
    (fed_valid (step_of s w).session ws (kept s w v))

-- where the reply is a refusal, the session is as one that was refused so
abbrev pub Told-so : Session → Stepped → Type 0
Told-so s t = (n : ℕ) → t.reply ≡ refused n → RefusedTo s n t.session

module _ (s : Session) where
  opens_on : (u : Session) → Told-so s (record { reply = still_open; session = u })
  opens_on u n p = absurd (let z : ◌≡◌ {A = ℕ} 0 1 = cc in omega arith)

  completes : (c : Command) (u : Session) → Told-so s (record { reply = completed c; session = u })
  completes c u n p = absurd (let z : ◌≡◌ {A = ℕ} 0 1 = cc in omega arith)

  number : {m k : ℕ} → refused m ≡ refused k → m ≡ k
  number e = cc

  refuses_so : {m : ℕ} → StopNumber m → Told-so s (refusing s m)
  refuses_so k n p = subst (λ (x : ℕ). RefusedTo s x (refusing s n).session) (number p) (stopping k)

  -- 3 and 4
  by_kind_lem : {m : ℕ} → Fault m → StopNumber m
  by_kind_lem {m} (three e) = low {n = m} (omega arith) (omega arith)
  by_kind_lem {m} (four e) = low {n = m} (omega arith) (omega arith)

  -- 7, 8 and 9
  by_start : (a b c : Bool) (d : Command) →
      Told-so s (judged (pick a (pick b (pick c (gives []) (refuses 9)) (refuses 8)) (refuses 7)) d s)
  unfolding pick judged
  by_start true true true d = completes d _
  by_start true true false d = refuses_so (low (omega arith) (omega arith))
  by_start true false c d = refuses_so (low (omega arith) (omega arith))
  by_start false b c d = refuses_so (low (omega arith) (omega arith))

  by_command : (d : Command) → Told-so s (judged (start_rule_of d s) d s)
  unfolding start_rule_of ready_of judged
  by_command (command.Domain i0 j0 i1 j1) = completes (command.Domain i0 j0 i1 j1) _
  by_command command.Start = by_start _ _ _ command.Start
  by_command (command.Effectless what) = completes (command.Effectless what) _
  by_command (command.Store what base format) = completes (command.Store what base format) _
  by_command (command.Input number base format height) = completes (command.Input number base format height) _
  by_command (command.Output number base format height) = completes (command.Output number base format height) _
  by_command (command.Conditional base format height) = completes (command.Conditional base format height) _
  by_command (command.OutputMask mask) = completes (command.OutputMask mask) _
  by_command (command.ConditionalMask mask) = completes (command.ConditionalMask mask) _
  by_command (command.Test test) = completes (command.Test test) _

  -- 5 to 9
  by_rules : (d : Command) (t : Told) → Ruled t → Told-so s (judged (then_told t (start_rule_of d s)) d s)
  unfolding then_told judged
  by_rules d t fine = by_command d
  by_rules d t five = refuses_so (low (omega arith) (omega arith))
  by_rules d t six = refuses_so (low (omega arith) (omega arith))

  pub completing_so : (o : Open) → Told-so s (completing o s)
  unfolding completing
  completing_so o = by_rules _ _ (ruled _)

  by_parameter : (w : ℕ) → Told-so s (parameter_step s w)
  unfolding parameter_step placing completing
  by_parameter w =
      by_pick (Told-so s) _ _ _
      (λ a.
      by_pick (Told-so s) _ _ _ (λ m. by_pick (Told-so s) _ _ _ (λ b. opens_on _) (λ b. by_rules _ _ (ruled _))) (λ m. refuses_so foreign))
      (λ a. refuses_so (by_kind_lem (fault _)))

  by_header : (w : ℕ) → Told-so s (header_step s w)
  unfolding header_step
  by_header w =
      by_pick (Told-so s) _ _ _ (λ a. by_pick (Told-so s) _ _ _ (λ m. opens_on _) (λ m. refuses_so foreign))
      (λ a. refuses_so (low (omega arith) (omega arith)))

  -- a refused word: with 1 nothing at all has changed; with any of 2 to 9, 17 and 20, and no other number comes, nothing but the stop
  -- and the dropped command
  pub refused_word : (w n : ℕ) → (step_of s w).reply ≡ refused n → RefusedTo s n (step_of s w).session
  unfolding step_of
  refused_word w =
      by_pick (Told-so s) _ _ _
      (λ a n p. subst (λ (x : ℕ). RefusedTo s x s) (number p) (unchanged (eqb-true _ _ a)))
      (λ a.
      by_pick (Told-so s) _ _ _ (λ b. refuses_so full) (λ b. by_pick (Told-so s) _ _ _ (λ c. by_header w) (λ c. by_parameter w)))

-- a stopped session answers 1 to every word and changes nothing at all
pub stopped_same : (s : Session) (w : ℕ) → s.party.stopped ≡ 1 → step_of s w ≡ record { reply = refused 1; session = s }
stopped_same s w e = stopped_word s w (eq-eqb _ _ e)

pub stopped_piece : (s : Session) (w : ℕ) (ws : List ℕ) → s.party.stopped ≡ 1 → feed_of s (w ∷ ws) ≡ ended (first 1) s
unfolding feed_of proceed
stopped_piece s w ws e =
    ap (λ (t : Stepped). proceed t.reply t.session (feed_of t.session ws)) (stopped_same s w e)

-- a refused word has stopped the session for good
pub stopped_for_good : (s : Session) (w n : ℕ) → (step_of s w).reply ≡ refused n → (step_of s w).session.party.stopped ≡ 1
stopped_for_good s w n e = go (refused_word s w n e)
  where
    go : {m : ℕ} {u : Session} → RefusedTo s m u → u.party.stopped ≡ 1
    go (unchanged k) = k
    go (stopping k) = refl

-- a piece with a refusal leaves what its refused word leaves of the session after the words that it took
refused_first : (n m : ℕ) → first n ≡ first m → n ≡ m
refused_first n m e = cc

module _ (s : Session) (w : ℕ) (ws : List ℕ) where
  abbrev u : Session
  u = (step_of s w).session

  -- what was taken, fed alone
  abbrev Left : Session → List ℕ → Fed → Type 0
  Left s ws f = (n : ℕ) → f.refusal ≡ first n → RefusedTo (feed_of s (take f.taken ws)).session n f.session

  left_word : (r : Reply) → (step_of s w).reply ≡ r → Left u ws (feed_of u ws) → Left s (w ∷ ws) (proceed r u (feed_of u ws))
  unfolding proceed feed_of
  left_word still_open e a n p =
      subst (λ (f : Fed). RefusedTo f.session n (feed_of u ws).session)
      (sym (first_word s w (take (feed_of u ws).taken ws) still_open e)) (a n p)
  left_word (completed c) e a n p =
      subst (λ (f : Fed). RefusedTo f.session n (feed_of u ws).session)
      (sym (first_word s w (take (feed_of u ws).taken ws) (completed c) e)) (a n p)
  left_word (refused m) e a n p = refused_word s w n (e ∙ ap refused (refused_first m n p))

pub refused_piece_lem :
    (s : Session) (ws : List ℕ) (n : ℕ) → (feed_of s ws).refusal ≡ first n →
    RefusedTo (feed_of s (take (feed_of s ws).taken ws)).session n (feed_of s ws).session
unfolding feed_of
refused_piece_lem s [] n p = absurd (let z : ◌≡◌ {A = ℕ} 0 1 = cc in omega arith)
refused_piece_lem s (w ∷ ws) n p =
    left_word s w ws (step_of s w).reply refl (refused_piece_lem (step_of s w).session ws) n p

abbrev pub going : Session → Stepped
going u = record { reply = still_open; session = u }

-- a header is accepted exactly when it stands in the table and sets nothing that is another's
module _ (s : Session) (w : ℕ) (i : Idle s) (room : s.party.taken < limit) where
  at_header : step_of s w ≡ header_step s w
  unfolding step_of
  at_header =
      pick_no _ _ (ne_eqb s.party.stopped 1 (λ e. omega (arith, i.unstopped))) ∙
      pick_no _ _ (lt-leb limit s.party.taken room) ∙
      pick_yes _ _ (eq-eqb s.party.opened.line 21 (ap (λ (o : Open). o.line) i.unopened))

  pub header_taken : (l : ℕ) → Accepted w l → may_open s.party.birth.mine l ≡ true → step_of s w ≡ going (going_on (holding l []) s)
  unfolding header_step
  header_taken l a m =
      at_header ∙ pick_yes _ _ (lt-ltb (place_of w headers) 21 (rw place a.line)) ∙ pick_yes _ _ (rw place m) ∙
      ap (λ (n : ℕ). going (going_on (holding n []) s)) place
    where
      place : place_of w headers ≡ l
      place = sym (ap (λ (x : ℕ). place_of x headers) a.header) ∙ place_of_line l a.line

  pub header_foreign : (l : ℕ) → Accepted w l → may_open s.party.birth.mine l ≡ false → step_of s w ≡ refusing s 20
  unfolding header_step
  header_foreign l a m =
      at_header ∙ pick_yes _ _ (lt-ltb (place_of w headers) 21 (rw place a.line)) ∙ pick_no _ _ (rw place m)
    where
      place : place_of w headers ≡ l
      place = sym (ap (λ (x : ℕ). place_of x headers) a.header) ∙ place_of_line l a.line

  pub header_refused : ((l : ℕ) → Accepted w l → ⊥) → step_of s w ≡ refusing s 2
  unfolding header_step
  header_refused none =
      at_header ∙
      pick_no _ _ (le-ltb (place_of w headers) 21
      (let k : place_of w headers < 21 → ⊥ = λ h. none (place_of w headers) (record { line = h; header = listed w h }) in omega arith))
