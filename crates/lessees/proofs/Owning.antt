-- A session whose party owns every number never answers 20, so its words are refused with 1 to 9 and 17 alone; the first
-- refusal of a piece is one of 2 to 9 and 17, where the session wasn't stopped before. -- Assumes nothing.
use mathlib.Core.Path.{◌≡◌, refl, sym, ap, ◌∙◌, subst}
use mathlib.Core.Bool.{Bool, true, false}
use mathlib.Core.List.{List, [], ◌∷◌}
use Prim.Native.Nat.{ℕ, ◌+◌, ◌<◌, ◌≤◌}
use native.Mathlib.Omega.{arith}
use lib.Dec.{eqb, leb, ltb}
use lib.ListN.{length}
use borrow.Author.Tests.{leb-true, leb-false, ltb-true, eqb-true, eqb-false, eq-eqb, ne_eqb, lt-ltb, lt-leb, le-leb}
use Rattle.laws.specs.Choice.{pick, place_of}
use Rattle.laws.specs.Masks.{on}
use Rattle.laws.proofs.Choice.{Tested, holds, fails, tested, pick_yes, pick_no, pick_same, by_pick}
use Rattle.laws.proofs.Table.{◌&◌, each}
use Rattle.refusal.specs.Told.{Told, gives, refuses, then_told}
use Rattle.command.specs.Table.{headers}
use Rattle.command.specs.Kinds.{allowed, kind_of}
use Rattle.command.specs.declared.kinds.Kind.{Kind}
use Rattle.command.specs.declared.kinds.Kind.TheVariants as kind
use Rattle.command.specs.declared.commands.Stored.TheVariants as stored
use Rattle.command.specs.declared.commands.Command.{Command}
use Rattle.command.specs.declared.commands.Command.TheVariants as command
use Rattle.rules.proofs.Judging.{Fault, three, four, fault}
use Rattle.rules.proofs.Rule.{Ruled, fine, five, six, ruled}
use Rattle.owners.specs.Owners.{everything, owns_common, sets_common, may_open, may_name}
use Rattle.state.specs.State.{Birth, Open, Party, Shared, Session, new_session}
use Rattle.state.specs.Start.{ready_of}
use Rattle.state.specs.Effects.{limit, with_parameter, own_after, after}
use Rattle.session.specs.Step.{Reply, still_open, completed, refused, Stepped, refusing, start_rule_of, judged, completing, placing, parameter_step, header_step, step_of}
use Rattle.session.specs.Feed.{First, nothing, first, Fed, proceed, feed_of}
use Rattle.session.specs.Refusals as session
use Rattle.session.specs.Refusals.{RefusedTo}
use Rattle.session.specs.Reached.{Reached}
use Rattle.session.specs.Reached as reached
use Rattle.session.proofs.Refusals.{refused_word}
use Rattle.session.proofs.Tallies.{born}
use Rattle.session.proofs.Ways.{Way, was_stopped, stops, opens, fills, ends, way}
use Rattle.lessees.proofs.Steps.{same_birth}
use Rattle.lessees.specs.Owning.{OwnsAll, OwnerNumber, low, full, OwnerRefused, unchanged, stopping, Takes, Foreign, header, input, output}

-- who owns all may open every line
opens_all : (line : ℕ) → may_open everything line ≡ true
unfolding may_open on
opens_all line = pick_same (sets_common line) true

-- and name every number that there is
input_owned : (w : ℕ) → w < 16 → on w everything ≡ true
unfolding on
input_owned =
    each (λ n. on n everything ≡ true) 16
    (tt & refl & refl & refl & refl & refl & refl & refl & refl & refl & refl & refl & refl & refl & refl & refl & refl)

output_owned : (w : ℕ) → w < 4 → on (16 + w) everything ≡ true
unfolding on
output_owned = each (λ n. on (16 + n) everything ≡ true) 4 (tt & refl & refl & refl & refl)

names_all : (k : Kind) (w : ℕ) → allowed k w ≡ true → may_name everything k w ≡ true
unfolding may_name allowed
names_all kind.Reserved w a = refl
names_all kind.InputNumber w a = let h : w ≤ 15 = leb-true w 15 a in input_owned w (omega arith)
names_all kind.OutputNumber w a = let h : w ≤ 3 = leb-true w 3 a in output_owned w (omega arith)
names_all kind.Base w a = refl
names_all kind.Format w a = refl
names_all kind.InputFormat w a = refl
names_all kind.Height w a = refl
names_all kind.Coordinate w a = refl
names_all kind.MaskBits w a = refl
names_all kind.ConditionalMaskBit w a = refl
names_all kind.TestBits w a = refl

-- the answer isn't 20
abbrev Not20 : Stepped → Type 0
Not20 t = t.reply ≡ refused 20 → ⊥

number : {m k : ℕ} → refused m ≡ refused k → m ≡ k
number e = cc

other : {n : ℕ} → (n ≡ 20 → ⊥) → refused n ≡ refused 20 → ⊥
other h e = h (number e)

goes : still_open ≡ refused 20 → ⊥
goes e = let z : ◌≡◌ {A = ℕ} 0 1 = cc in omega arith

done : {c : Command} → completed c ≡ refused 20 → ⊥
done e = let z : ◌≡◌ {A = ℕ} 0 1 = cc in omega arith

contrary : {A : Type 0} {t : Bool} → t ≡ true → t ≡ false → A
contrary a b = absurd (let z : ◌≡◌ {A = ℕ} 0 1 = cc in omega arith)

module _ (s : Session) where
  by_start : (a b c : Bool) (d : Command) → Not20 (judged (pick a (pick b (pick c (gives []) (refuses 9)) (refuses 8)) (refuses 7)) d s)
  unfolding pick judged
  by_start true true true d = done
  by_start true true false d = other (λ e. omega arith)
  by_start true false c d = other (λ e. omega arith)
  by_start false b c d = other (λ e. omega arith)

  by_command : (d : Command) → Not20 (judged (start_rule_of d s) d s)
  unfolding start_rule_of ready_of judged
  by_command (command.Domain i0 j0 i1 j1) = done
  by_command command.Start = by_start _ _ _ command.Start
  by_command (command.Effectless what) = done
  by_command (command.Store what base format) = done
  by_command (command.Input number base format height) = done
  by_command (command.Output number base format height) = done
  by_command (command.Conditional base format height) = done
  by_command (command.OutputMask mask) = done
  by_command (command.ConditionalMask mask) = done
  by_command (command.Test test) = done

  by_rules : (d : Command) (t : Told) → Ruled t → Not20 (judged (then_told t (start_rule_of d s)) d s)
  unfolding then_told judged
  by_rules d t fine = by_command d
  by_rules d t five = other (λ e. omega arith)
  by_rules d t six = other (λ e. omega arith)

  by_fault : {n : ℕ} → Fault n → n ≡ 20 → ⊥
  by_fault (three e) f = omega arith
  by_fault (four e) f = omega arith

  module _ (all : OwnsAll s) (w : ℕ) where
    named : (k : Kind) → allowed k w ≡ true → may_name s.party.birth.mine k w ≡ true
    named k a = ap (λ (x : ℕ). may_name x k w) all ∙ names_all k w a

    opened : (line : ℕ) → may_open s.party.birth.mine line ≡ true
    opened line = ap (λ (x : ℕ). may_open x line) all ∙ opens_all line

    by_parameter : Not20 (parameter_step s w)
    unfolding parameter_step placing completing
    by_parameter =
        by_pick Not20 _ _ _
        (λ a.
        by_pick Not20 _ _ _ (λ m. by_pick Not20 _ _ _ (λ b. goes) (λ b. by_rules _ _ (ruled _)))
        (λ m. contrary (named (kind_of s.party.opened.line s.party.opened.count) a) m))
        (λ a. other (by_fault (fault _)))

    by_header : Not20 (header_step s w)
    unfolding header_step
    by_header =
        by_pick Not20 _ _ _
        (λ a. by_pick Not20 _ _ _ (λ m. goes) (λ m. contrary (opened (place_of w headers)) m))
        (λ a. other (λ e. omega arith))

    -- owning everything never gets 20
    pub never_20 : Not20 (step_of s w)
    unfolding step_of
    never_20 =
        by_pick Not20 _ _ _ (λ a. other (λ e. omega arith))
        (λ a. by_pick Not20 _ _ _ (λ b. other (λ e. omega arith)) (λ b. by_pick Not20 _ _ _ (λ c. by_header) (λ c. by_parameter)))

    -- so its words are refused as document 01's table says
    pub owner_refused : (n : ℕ) → (step_of s w).reply ≡ refused n → OwnerRefused s n (step_of s w).session
    owner_refused n e = go (refused_word s w n e) (λ z. never_20 (e ∙ ap refused z))
      where
        go : {n : ℕ} {u : Session} → RefusedTo s n u → (n ≡ 20 → ⊥) → OwnerRefused s n u
        go (session.unchanged k) h = unchanged k
        go (session.stopping (session.low a b)) h = stopping (low a b)
        go (session.stopping session.full) h = stopping full
        go (session.stopping session.foreign) h = absurd (h refl)

-- 20 comes to a word just where it is foreign
module _ (s : Session) (w : ℕ) where
  abbrev Only : Stepped → Type 0
  Only t = t.reply ≡ refused 20 → Foreign s w

  abbrev mine : ℕ
  mine = s.party.birth.mine

  common : (line : ℕ) → may_open mine line ≡ false → (sets_common line ≡ true) × (owns_common mine ≡ false)
  unfolding may_open
  common line m = by (tested (sets_common line))
    where
      by : Tested (sets_common line) → (sets_common line ≡ true) × (owns_common mine ≡ false)
      by (holds t) = (t, sym (pick_yes (owns_common mine) true t) ∙ m)
      by (fails t) = contrary refl (sym (pick_no (owns_common mine) true t) ∙ m)

  placing_not : (o : Open) → Not20 (placing o s)
  unfolding placing completing
  placing_not o = by_pick Not20 _ _ _ (λ b. goes) (λ b. by_rules s _ _ (ruled _))

  module _ (takes : Takes s) where
    number_of :
        (s.party.opened.line ≡ 21 → ⊥) → (k : Kind) → kind_of s.party.opened.line s.party.opened.count ≡ k → allowed k w ≡ true →
        may_name mine k w ≡ false → Foreign s w
    unfolding may_name allowed
    number_of o kind.Reserved e a m = contrary refl m
    number_of o kind.InputNumber e a m = input takes o e (leb-true w 15 a) m
    number_of o kind.OutputNumber e a m = output takes o e (leb-true w 3 a) m
    number_of o kind.Base e a m = contrary refl m
    number_of o kind.Format e a m = contrary refl m
    number_of o kind.InputFormat e a m = contrary refl m
    number_of o kind.Height e a m = contrary refl m
    number_of o kind.Coordinate e a m = contrary refl m
    number_of o kind.MaskBits e a m = contrary refl m
    number_of o kind.ConditionalMaskBit e a m = contrary refl m
    number_of o kind.TestBits e a m = contrary refl m

    parameter_only : (s.party.opened.line ≡ 21 → ⊥) → Only (parameter_step s w)
    unfolding parameter_step
    parameter_only o =
        by_pick Only _ _ _
        (λ a.
        by_pick Only _ _ _ (λ m e. absurd (placing_not (with_parameter s.party.opened w) e))
        (λ m e. number_of o (kind_of s.party.opened.line s.party.opened.count) refl a m))
        (λ a e. absurd (other (by_fault s (fault (kind_of s.party.opened.line s.party.opened.count))) e))

    header_only : s.party.opened.line ≡ 21 → Only (header_step s w)
    unfolding header_step
    header_only l =
        by_pick Only _ _ _
        (λ a.
        by_pick Only _ _ _ (λ m e. absurd (goes e))
        (λ m e.
        let c = common (place_of w headers) m in header takes l (ltb-true (place_of w headers) (length headers) a) c.0 c.1))
        (λ a e. absurd (other (λ z. omega arith) e))

  pub foreign_only : Only (step_of s w)
  unfolding step_of
  foreign_only =
      by_pick Only _ _ _ (λ a e. absurd (other (λ z. omega arith) e))
      (λ a.
      by_pick Only _ _ _ (λ b e. absurd (other (λ z. omega arith) e))
      (λ b.
      let takes : Takes s = record { unstopped = eqb-false s.party.stopped 1 a; unfilled = leb-false limit s.party.taken b } in
      by_pick Only _ _ _ (λ c. header_only takes (eqb-true s.party.opened.line 21 c))
      (λ c. parameter_only takes (eqb-false s.party.opened.line 21 c))))

  -- and such a word gets it
  at_word_lem :
      Takes s → step_of s w ≡ pick (eqb s.party.opened.line 21) (header_step s w) (parameter_step s w)
  unfolding step_of
  at_word_lem t = pick_no _ _ (ne_eqb s.party.stopped 1 t.unstopped) ∙ pick_no _ _ (lt-leb limit s.party.taken t.unfilled)

  pub foreign_gets : Foreign s w → step_of s w ≡ refusing s 20
  unfolding header_step parameter_step may_open may_name allowed
  foreign_gets (header t l p c n) =
      at_word_lem t ∙ pick_yes _ _ (eq-eqb s.party.opened.line 21 l) ∙ pick_yes _ _ (lt-ltb (place_of w headers) (length headers) p) ∙
      pick_no _ _ (pick_yes (owns_common mine) true c ∙ n)
  foreign_gets (input t o e h n) =
      at_word_lem t ∙ pick_no _ _ (ne_eqb s.party.opened.line 21 o) ∙
      pick_yes _ _ (ap (λ (k : Kind). allowed k w) e ∙ le-leb w 15 h) ∙ pick_no _ _ (ap (λ (k : Kind). may_name mine k w) e ∙ n)
  foreign_gets (output t o e h n) =
      at_word_lem t ∙ pick_no _ _ (ne_eqb s.party.opened.line 21 o) ∙
      pick_yes _ _ (ap (λ (k : Kind). allowed k w) e ∙ le-leb w 3 h) ∙ pick_no _ _ (ap (λ (k : Kind). may_name mine k w) e ∙ n)

-- every session that the entries give out owns all
pub reached_owns : {s : Session} → Reached s → OwnsAll s
reached_owns (reached.begun edition known) = refl
reached_owns (reached.word {s = s} r w) = ap (λ (b : Birth). b.mine) (same_birth s w) ∙ reached_owns r
reached_owns (reached.piece {s = s} r ws) = ap (λ (b : Birth). b.mine) (born s ws) ∙ reached_owns r

-- an accepted word doesn't stop a session
own_flag : (c : Command) (h : Shared) (p : Party) → (own_after c h p).stopped ≡ p.stopped
unfolding own_after
own_flag (command.Domain i0 j0 i1 j1) h p = refl
own_flag command.Start h p = refl
own_flag (command.Effectless what) h p = refl
own_flag (command.Store stored.Instructions base format) h p = refl
own_flag (command.Store stored.Floats base format) h p = refl
own_flag (command.Store stored.Integers base format) h p = refl
own_flag (command.Store stored.Booleans base format) h p = refl
own_flag (command.Input number base format height) h p = refl
own_flag (command.Output number base format height) h p = refl
own_flag (command.Conditional base format height) h p = refl
own_flag (command.OutputMask mask) h p = refl
own_flag (command.ConditionalMask mask) h p = refl
own_flag (command.Test test) h p = refl

data Kept (s : Session) : Stepped → Type 0 where
  stays : (u : Session) → u.party.stopped ≡ s.party.stopped → Kept s (record { reply = still_open; session = u })
  whole : (c : Command) (u : Session) → u.party.stopped ≡ s.party.stopped → Kept s (record { reply = completed c; session = u })
  off : (n : ℕ) (u : Session) → Kept s (record { reply = refused n; session = u })

flag_way : (s : Session) (w : ℕ) {t : Stepped} → Way s w t → Kept s t
unfolding after
flag_way s w (was_stopped e) = off 1 s
flag_way s w (stops n e) = off n _
flag_way s w (opens r i k m) = stays _ refl
flag_way s w (fills p m) = stays _ refl
flag_way s w (ends p l c e u v r q) = whole c _ (own_flag c s.shared _)

-- the first refusal of a piece, where the session wasn't stopped before it
firsts : {n m : ℕ} → first n ≡ first m → n ≡ m
firsts e = cc

no_first : {A : Type 0} {n : ℕ} → nothing ≡ first n → A
no_first e = absurd (let z : ◌≡◌ {A = ℕ} 0 1 = cc in omega arith)

stop_number : (s : Session) → s.party.stopped ≡ 0 → {n : ℕ} {u : Session} → OwnerRefused s n u → OwnerNumber n
stop_number s z (unchanged k) = absurd (omega (arith, z, k))
stop_number s z (stopping k) = k

word_number :
    (s : Session) (ws : List ℕ) (n : ℕ) (t : Stepped) → Kept s t → s.party.stopped ≡ 0 → ((m : ℕ) → t.reply ≡ refused m → OwnerNumber m) →
    (t.session.party.stopped ≡ 0 → (feed_of t.session ws).refusal ≡ first n → OwnerNumber n) →
    (proceed t.reply t.session (feed_of t.session ws)).refusal ≡ first n → OwnerNumber n
unfolding proceed
word_number s ws n t (stays u e) z here later f = later (e ∙ z) f
word_number s ws n t (whole c u e) z here later f = later (e ∙ z) f
word_number s ws n t (off m u) z here later f = here n (ap refused (firsts f))

pub piece_number :
    (s : Session) → OwnsAll s → s.party.stopped ≡ 0 → (ws : List ℕ) (n : ℕ) → (feed_of s ws).refusal ≡ first n → OwnerNumber n
unfolding feed_of
piece_number s all z [] n e = no_first e
piece_number s all z (w ∷ ws) n e =
    word_number s ws n (step_of s w) (flag_way s w (way s w)) z (λ m q. stop_number s z (owner_refused s all w m q))
    (λ k f. piece_number (step_of s w).session (ap (λ (b : Birth). b.mine) (same_birth s w) ∙ all) k ws n f) e
