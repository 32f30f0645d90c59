-- The last word of an open command: the command is taken, or it is refused with the number of its line; both are the definition's
-- completion. Assumes nothing.
use mathlib.Core.Path.{◌≡◌, refl, sym, ap, ◌∙◌, subst}
use mathlib.Core.Bool.{Bool, true, false}
use mathlib.Core.List.{List, [], ◌∷◌, ◌++◌}
use Prim.Native.Nat.{ℕ, ◌+◌, ◌<◌, ◌≤◌}
use native.Mathlib.Omega.{arith}
use lib.Dec.{leb}
use lib.ListN.{get_or, drop, take-append-drop}
use borrow.Author.Tests.{eq-eqb, ne_eqb}
use Rattle.laws.specs.Choice.{◌and◌, pick}
use Rattle.laws.proofs.Choice.{pick_yes, pick_no}
use Rattle.refusal.specs.Number.{IsNumber}
use Rattle.refusal.specs.Told.{Told, gives, refuses, is_given, then_told}
use Rattle.command.specs.Format.{window_of}
use Rattle.command.specs.Table.{header_of, count_of}
use Rattle.command.specs.Commands.{stored_line, line_of, fields_of, words_of, command_of, EachAllowed}
use Rattle.command.specs.declared.commands.Stored.TheVariants as stored
use Rattle.command.specs.declared.commands.Command.{Command}
use Rattle.command.specs.declared.commands.Command.TheVariants as command
use Rattle.command.proofs.WriteBack.{made}
use Rattle.rules.specs.Rules.{domain_kept, window_kept, last_rule_of}
use Rattle.rules.proofs.Judging.{then_given}
use Rattle.rules.proofs.Readable.{readable, writable}
use Rattle.rules.proofs.Rule.{Ruled, fine, five, six, ruled}
use Rattle.owners.specs.Owners.{owned}
use Rattle.state.specs.Seen.{seen_outputs}
use Rattle.state.specs.State.{Readiness, Open, Session, none}
use Rattle.state.specs.Start.{readiness_of}
use Rattle.state.specs.Readiness.{worked_out}
use Rattle.state.specs.Effects.{opening, stop, after}
use Rattle.state.specs.Asked.{Held, OwnAsked}
use Rattle.state.specs.Cells.{party_of, party_cells, tally_cells, session_of}
use Rattle.start.proofs.Readiness.{number_given, number_refused, readiness_number}
use Rattle.accept.specs.Whole.{RoomFor, Denied, by_words, by_fields, by_owner, by_settings, Tried, untaken, accepted, LineTried, last_word}
use Rattle.session.specs.Step.{completed, refused, start_rule_of, completing}
use Rattle.session.specs.Again.{at_word}
use Rattle.session.specs.Asked.{Left, CompleteAsked, RefusalAsked, refusal_at, stored_in}
use Rattle.session.proofs.Kept.{whole_allowed}
use Rattle.session.proofs.ReadBack.{after_at_word}
use Rattle.session.proofs.Stepping.{whole_refused, whole_accepted}
use Rattle.session.proofs.Ways.{whole}

one_answer : {A : Type 0} → true ≡ false → A
one_answer e = absurd (let z : ◌≡◌ {A = ℕ} 0 1 = cc in omega arith)

-- the refusal by the line, as the code finds it
module _ (line readiness : ℕ) where
  pub refusal_domain : line ≡ 0 → 5 ≡ refusal_at line readiness
  unfolding refusal_at
  refusal_domain e = sym (pick_yes _ _ (eq-eqb line 0 e))

  pub refusal_start : line ≡ 1 → readiness ≡ refusal_at line readiness
  unfolding refusal_at
  refusal_start e = sym (pick_no _ _ (ne_eqb line 0 (λ z. omega (arith, e, z))) ∙ pick_yes _ _ (eq-eqb line 1 e))

  pub refusal_window : (line ≡ 0 → ⊥) → (line ≡ 1 → ⊥) → 6 ≡ refusal_at line readiness
  unfolding refusal_at
  refusal_window n m = sym (pick_no _ _ (ne_eqb line 0 n) ∙ pick_no _ _ (ne_eqb line 1 m))

pub start_number : (l : List ℕ) (line : ℕ) → RefusalAsked l line → line ≡ 1 → IsNumber (get_or l 19 0)
unfolding party_of
start_number l line a e = a.unready e

pub refusal_stored : (l : List ℕ) (line : ℕ) → line ≡ 1 → get_or l 19 0 ≡ refusal_at line (stored_in l)
unfolding party_of
refusal_stored l line e = refusal_start line (get_or l 19 0) e

-- what the rules on a whole command tell where it isn't accepted
abbrev rules : Command → Session → Told
rules c s = then_told (last_rule_of c) (start_rule_of c s)

abbrev readiness : Session → ℕ
readiness s =
    readiness_of s.party.domain s.party.instructions s.shared.mask (seen_outputs s.party.birth.mine s.shared.outputs)

unready : (s : Session) → is_given (rules command.Start s) ≡ false → readiness s ≡ 0 → ⊥
unfolding last_rule_of domain_kept window_kept start_rule_of then_told pick is_given
unready s e z = one_answer (sym (ap is_given (number_given _ _ _ _ z)) ∙ e)

-- one rule of its fields, and none of the settings
one_rule : (n : ℕ) (d : Bool) → is_given (then_told (pick d (gives []) (refuses n)) (gives [])) ≡ false →
    then_told (pick d (gives []) (refuses n)) (gives []) ≡ refuses n
unfolding then_told is_given pick
one_rule n true e = one_answer e
one_rule n false e = refl

domain_rule : (d : Bool) → is_given (then_told (pick d (pick true (gives []) (refuses 6)) (refuses 5)) (gives [])) ≡ false →
    then_told (pick d (pick true (gives []) (refuses 6)) (refuses 5)) (gives []) ≡ refuses 5
unfolding then_told is_given pick
domain_rule true e = one_answer e
domain_rule false e = refl

refused_by_line : (c : Command) (s : Session) → is_given (rules c s) ≡ false → rules c s ≡ refuses (refusal_at (line_of c) (readiness s))
unfolding last_rule_of domain_kept window_kept start_rule_of line_of stored_line refusal_at pick
refused_by_line (command.Domain i0 j0 i1 j1) s e = domain_rule (leb i0 i1 and leb j0 j1) e
refused_by_line command.Start s e = unfold then_told in number_refused _ _ _ _ (unready s e)
refused_by_line (command.Effectless what) s e = unfold then_told is_given in one_answer e
refused_by_line (command.Store stored.Instructions b f) s e = one_rule 6 (is_given (window_of b f 1)) e
refused_by_line (command.Store stored.Floats b f) s e = one_rule 6 (is_given (window_of b f 1)) e
refused_by_line (command.Store stored.Integers b f) s e = one_rule 6 (is_given (window_of b f 1)) e
refused_by_line (command.Store stored.Booleans b f) s e = one_rule 6 (is_given (window_of b f 1)) e
refused_by_line (command.Input n b f k) s e = one_rule 6 (is_given (window_of b f k)) e
refused_by_line (command.Output n b f k) s e = one_rule 6 (is_given (window_of b f k)) e
refused_by_line (command.Conditional b f k) s e = one_rule 6 (is_given (window_of b f k)) e
refused_by_line (command.OutputMask m) s e = unfold then_told is_given in one_answer e
refused_by_line (command.ConditionalMask m) s e = unfold then_told is_given in one_answer e
refused_by_line (command.Test n) s e = unfold then_told is_given in one_answer e

-- a command whose fields are allowed and which can't be accepted is refused by the rules
by_fields_lem : {x : Told} → Ruled x → (next : Told) → (x ≡ gives [] → ⊥) → is_given (then_told x next) ≡ false
unfolding then_told is_given
by_fields_lem fine next n = absurd (n refl)
by_fields_lem five next n = refl
by_fields_lem six next n = refl

by_settings_lem : {x : Told} → Ruled x → (next : Told) → is_given next ≡ false → is_given (then_told x next) ≡ false
unfolding then_told is_given
by_settings_lem fine next e = e
by_settings_lem five next e = refl
by_settings_lem six next e = refl

module _ (l t s : List ℕ) (a : CompleteAsked l t s) where
  abbrev o : Open
  o = (party_of l []).opened

  abbrev ss : Session
  ss = session_of l t s

  pub last_asked : (get_or l 2 0 < 21) × (RoomFor 1 l × OwnAsked l t s)
  unfolding party_of
  last_asked = (a.line, (record { own_length_lem = a.asked.sized.own_length_lem; room = omega (arith, a.taken) }, a.asked))

  abbrev Last : ℕ → List ℕ → List ℕ → List ℕ → Type 0
  Last = LineTried (get_or l 2 0) (get_or l 4 0) (get_or l 5 0) (get_or l 6 0) (get_or l 7 0) last_word l t s

  abbrev c : Command
  c = command_of (get_or l 2 0) (get_or l 4 0) (get_or l 5 0) (get_or l 6 0) (get_or l 7 0)

  abbrev ps : List ℕ
  ps = get_or l 4 0 ∷ get_or l 5 0 ∷ get_or l 6 0 ∷ get_or l 7 0 ∷ []

  abbrev here : List ℕ
  here = header_of (get_or l 2 0) ∷ get_or l 4 0 ∷ get_or l 5 0 ∷ get_or l 6 0 ∷ get_or l 7 0 ∷ []

  line_lt : get_or l 2 0 < 21
  line_lt = last_asked.0

  passed : EachAllowed (get_or l 2 0) ps
  passed = unfold party_of in a.passed

  its_words : here ≡ words_of c ++ drop (count_of (get_or l 2 0)) ps
  its_words =
      sym
      (ap (λ (ws : List ℕ). ws ++ drop (count_of (get_or l 2 0)) ps) ((made _ _ _ _ (get_or l 2 0) line_lt).words_back passed) ∙
      ap {B = List ℕ} (λ (ws : List ℕ). header_of (get_or l 2 0) ∷ ws) (take-append-drop (count_of (get_or l 2 0)) ps))

  -- not taken, so refused
  denied_told : Denied c here ss → is_given (rules c ss) ≡ false
  denied_told (by_words n) = absurd (n (drop (count_of (get_or l 2 0)) ps) its_words)
  denied_told (by_fields e) =
      by_fields_lem (ruled c) (start_rule_of c ss)
      (λ r. one_answer (unfold is_given in (sym (ap is_given (writable c fields r)) ∙ e)))
    where
      fields : EachAllowed (line_of c) (fields_of c)
      fields = unfold party_of in whole_allowed o line_lt passed
  denied_told (by_owner e) = one_answer (sym is_owned ∙ e)
    where
      is_owned : owned (party_of l t).birth.mine c ≡ true
      is_owned = unfold party_of in a.owner
  denied_told (by_settings e) = by_settings_lem (ruled c) (start_rule_of c ss) e

  -- the stored number is the one worked out from the settings
  stored_ready : stored_in l ≡ readiness ss
  unfolding party_of worked_out
  stored_ready = ap (λ (r : Readiness). r.number) a.asked.kept

  denied_refused : Denied c here ss → rules c ss ≡ refuses (refusal_at (get_or l 2 0) (stored_in l))
  denied_refused d =
      refused_by_line c ss (denied_told d) ∙
      ap (λ (n : ℕ). refuses (refusal_at n (readiness ss))) (made _ _ _ _ (get_or l 2 0) line_lt).line_back ∙
      ap (λ (n : ℕ). refuses (refusal_at (get_or l 2 0) n)) (sym stored_ready)

  denied_asked : Denied c here ss → RefusalAsked l (get_or l 2 0)
  denied_asked d =
      record {
        own_length_lem = a.asked.sized.own_length_lem;
        unready = λ e. subst IsNumber (sym stored_ready) (readiness_number _ _ _ _ (unready_at (get_or l 2 0) e (denied_told d)));
      }
    where
      unready_at : (n : ℕ) → n ≡ 1 →
          is_given (rules (command_of n (get_or l 4 0) (get_or l 5 0) (get_or l 6 0) (get_or l 7 0)) ss) ≡ false → readiness ss ≡ 0 → ⊥
      unready_at n e k =
          unfold command_of in
          unready ss (subst (λ (m : ℕ). is_given (rules (command_of m (get_or l 4 0) (get_or l 5 0) (get_or l 6 0) (get_or l 7 0)) ss) ≡ false) e k)

  -- nothing was changed
  unchanged : (P : List ℕ → List ℕ → List ℕ → Type 0) → (Denied c here ss → P l t s) → (m : ℕ) (l1 t1 s1 : List ℕ) → m ≤ 0 →
      Tried c here 1 l t s m l1 t1 s1 → P l1 t1 s1
  unchanged P p m l1 t1 s1 k (untaken d) = p d
  unchanged P p m l1 t1 s1 k (accepted rest l2 t2 s2 begins judged own rule held) = absurd (omega arith)

  module _ (m : ℕ) (l1 t1 s1 : List ℕ) (tried : Last m l1 t1 s1) (k : m ≤ 0) where
    pub refusal_asked : RefusalAsked l1 (get_or l 2 0)
    refusal_asked = unchanged (λ x y z. RefusalAsked x (get_or l 2 0)) denied_asked m l1 t1 s1 k (tried [])

    pub last_refused : (n : ℕ) → n ≡ refusal_at (get_or l 2 0) (stored_in l1) → (l2 : List ℕ) →
        l2 ≡ party_cells (stop (party_of l1 [])) → Left (completing o ss) (refused n) l2 t1 s1
    last_refused n e l2 f =
        unchanged
        (λ x y z.
        n ≡ refusal_at (get_or l 2 0) (stored_in x) → l2 ≡ party_cells (stop (party_of x [])) →
        Left (completing o ss) (refused n) l2 y z)
        (λ d q g.
        whole_refused l t s a n
        (unfold party_of in (denied_refused d ∙ sym (ap refuses q)))
        l2 g)
        m l1 t1 s1 k (tried []) e f

  -- taken at once: what is left is to close it
  abbrev left : Session
  left = at_word (after c ss) ((party_of l t).taken + 1) (party_of l t).opened

  left_closed : after c ss ≡ at_word (after c ss) ((party_of l t).taken + 1) none
  left_closed = after_at_word c ss (party_of l t).taken (party_of l t).opened

  closed : (l1 t1 s1 : List ℕ) → Held left l1 t1 s1 → (l2 : List ℕ) → l2 ≡ party_cells (opening none (party_of l1 [])) →
      Held (after c ss) l2 t1 s1
  unfolding party_of party_cells tally_cells
  closed l1 t1 s1 h l2 e =
      subst (λ (x : Session). Held x l2 t1 s1) (sym left_closed)
      (record {
        own_cells = e ∙ ap (λ (x : List ℕ). party_cells (opening none (party_of x []))) h.own_cells;
        tally_cells_lem = h.tally_cells_lem;
        shared_cells_lem = h.shared_cells_lem;
      })

  done : (ws : List ℕ) (m : ℕ) (l1 t1 s1 : List ℕ) → 0 < m → Tried c ws 1 l t s m l1 t1 s1 → (d : Command) → d ≡ whole o →
      (l2 : List ℕ) → l2 ≡ party_cells (opening none (party_of l1 [])) → Left (completing o ss) (completed d) l2 t1 s1
  unfolding party_of
  done ws m l1 t1 s1 k (untaken w) d e l2 f = absurd (omega arith)
  done ws m l1 t1 s1 k (accepted rest l3 t3 s3 begins judged own rule held) d e l2 f =
      whole_accepted l t s a [] (then_given (start_rule_of c ss) (readable c judged).rules_kept ∙ rule) d e l2 t3 s3
      (closed l3 t3 s3 held l2 f)

  module _ (m : ℕ) (l1 t1 s1 : List ℕ) (tried : Last m l1 t1 s1) where
    pub last_done : 0 < m → (d : Command) → d ≡ whole o → (l2 : List ℕ) → l2 ≡ party_cells (opening none (party_of l1 [])) →
        Left (completing o ss) (completed d) l2 t1 s1
    last_done k d e l2 f = done _ m l1 t1 s1 k (tried []) d e l2 f
