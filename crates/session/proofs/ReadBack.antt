-- Every command that the writer accepts is read back from any running session without an open command, unless 7, 8, 9 or 17 refuse
-- it. Assumes nothing.
use mathlib.Core.Path.{◌≡◌, refl, sym, ap, ◌∙◌, subst}
use mathlib.Core.Bool.{Bool, true, false}
use mathlib.Core.List.{List, [], ◌∷◌}
use Prim.Native.Nat.{ℕ, suc, ◌+◌, ◌-◌, ◌<◌, ◌≤◌}
use native.Mathlib.Omega.{arith}
use lib.Dec.{eqb, leb}
use lib.ListN.{length}
use borrow.Author.Tests.{eqb-true, eqb-false, leb-true, leb-false}
use Rattle.laws.specs.Choice.{pick}
use Rattle.laws.proofs.Choice.{Tested, holds, fails, tested}
use Rattle.refusal.specs.Told.{Told, gives, refuses, then_told}
use Rattle.command.specs.Table.{header_of}
use Rattle.command.specs.Commands.{line_of, fields_of, words_of, EachAllowed}
use Rattle.rules.specs.Rules.{last_rule_of}
use Rattle.rules.specs.Writer.{judge_command_of}
use Rattle.command.specs.declared.commands.Stored.TheVariants as stored
use Rattle.command.specs.declared.commands.Command.{Command}
use Rattle.command.specs.declared.commands.Command.TheVariants as command
use Rattle.command.proofs.WriteBack.{lined}
use Rattle.command.proofs.Headers.{count_least}
use Rattle.rules.proofs.Readable.{readable}
use Rattle.owners.specs.Owners.{owned}
use Rattle.owners.proofs.Commands.{owned_opens}
use Rattle.state.specs.State.{Open, Session, none}
use Rattle.state.specs.Start.{ready_of}
use Rattle.state.specs.Effects.{limit, own_after, shared_after, after}
use Rattle.session.specs.Step.{Stepped, refusing, start_rule_of, judged}
use Rattle.session.specs.Feed.{nothing, first, onward, proceed, feed_of}
use Rattle.session.specs.Again.{Idle, fed, holding, at_word, ReadAs, read_whole, denied_start, filled_up}
use Rattle.session.proofs.Refusals.{header_taken}
use Rattle.session.proofs.Parameters.{lastly, rest, full_piece, onward_full, overfull, lastly_completed, lastly_refused}

-- a command does the same whatever the count
pub after_at_word : (c : Command) (s : Session) (n : ℕ) (o : Open) → after c (at_word s n o) ≡ at_word (after c s) (n + 1) none
unfolding after own_after shared_after
after_at_word (command.Domain i0 j0 i1 j1) s n o = refl
after_at_word command.Start s n o = refl
after_at_word (command.Effectless what) s n o = refl
after_at_word (command.Store stored.Instructions base format) s n o = refl
after_at_word (command.Store stored.Floats base format) s n o = refl
after_at_word (command.Store stored.Integers base format) s n o = refl
after_at_word (command.Store stored.Booleans base format) s n o = refl
after_at_word (command.Input number base format height) s n o = refl
after_at_word (command.Output number base format height) s n o = refl
after_at_word (command.Conditional base format height) s n o = refl
after_at_word (command.OutputMask mask) s n o = refl
after_at_word (command.ConditionalMask mask) s n o = refl
after_at_word (command.Test test) s n o = refl

-- a start is refused with 7, 8 or 9, and no other command is refused so
record Number (n : ℕ) : Type 0 where
  least : 7 ≤ n
  most : n ≤ 9

ready_number : (a b c : Bool) (n : ℕ) → pick a (pick b (pick c (gives []) (refuses 9)) (refuses 8)) (refuses 7) ≡ refuses n → Number n
unfolding pick
ready_number true true true n k = absurd (let z : ◌≡◌ {A = ℕ} 0 1 = cc in omega arith)
ready_number true true false n k = let z : n ≡ 9 = cc in omega arith
ready_number true false c n k = let z : n ≡ 8 = cc in omega arith
ready_number false b c n k = let z : n ≡ 7 = cc in omega arith

start_number : (c : Command) (s : Session) (n : ℕ) → start_rule_of c s ≡ refuses n → Number n
unfolding start_rule_of ready_of
start_number (command.Domain i0 j0 i1 j1) s n e = absurd (let z : ◌≡◌ {A = ℕ} 0 1 = cc in omega arith)
start_number command.Start s n e = ready_number _ _ _ n e
start_number (command.Effectless what) s n e = absurd (let z : ◌≡◌ {A = ℕ} 0 1 = cc in omega arith)
start_number (command.Store what base format) s n e = absurd (let z : ◌≡◌ {A = ℕ} 0 1 = cc in omega arith)
start_number (command.Input number base format height) s n e = absurd (let z : ◌≡◌ {A = ℕ} 0 1 = cc in omega arith)
start_number (command.Output number base format height) s n e = absurd (let z : ◌≡◌ {A = ℕ} 0 1 = cc in omega arith)
start_number (command.Conditional base format height) s n e = absurd (let z : ◌≡◌ {A = ℕ} 0 1 = cc in omega arith)
start_number (command.OutputMask mask) s n e = absurd (let z : ◌≡◌ {A = ℕ} 0 1 = cc in omega arith)
start_number (command.ConditionalMask mask) s n e = absurd (let z : ◌≡◌ {A = ℕ} 0 1 = cc in omega arith)
start_number (command.Test test) s n e = absurd (let z : ◌≡◌ {A = ℕ} 0 1 = cc in omega arith)

-- a command that the writer accepts, fed to a running session without an open command
module _ (s : Session) (c : Command) (i : Idle s) (writes : judge_command_of c ≡ gives [])
    (own : owned s.party.birth.mine c ≡ true) where
  abbrev size : ℕ
  size = length (fields_of c)

  abbrev all_allowed : EachAllowed (line_of c) (fields_of c)
  all_allowed = (readable c writes).fields_allowed

  -- its header, where there is room for a word
  header_first : (fs : List ℕ) → s.party.taken < limit →
      feed_of s (header_of (line_of c) ∷ fs) ≡ onward [] (feed_of (at_word s (s.party.taken + 1) (holding (line_of c) [])) fs)
  unfolding feed_of proceed
  header_first fs room =
      ap (λ (t : Stepped). proceed t.reply t.session (feed_of t.session fs))
      (header_taken s (header_of (line_of c)) i room (line_of c) (record { line = (lined c).line_most; header = refl })
      (owned_opens s.party.birth.mine c own))

  no_fields : {A : Type 0} → fields_of c ≡ [] → A
  no_fields e = absurd (omega (arith, ap length e, (lined c).fields_count, count_least (line_of c) (lined c).line_most))

  told_start : then_told (last_rule_of c) (start_rule_of c s) ≡ start_rule_of c s
  unfolding then_told
  told_start = ap (λ (t : Told). then_told t (start_rule_of c s)) (readable c writes).rules_kept

  -- where there is room for all its words
  module _ (room : s.party.taken + length (words_of c) ≤ limit) where
    ends_as : feed_of s (words_of c) ≡ lastly size (judged (start_rule_of c s) c (at_word s (s.party.taken + size) none))
    unfolding words_of lastly
    ends_as = go (fields_of c) refl
      where
        go : (fs : List ℕ) → fields_of c ≡ fs →
            feed_of s (header_of (line_of c) ∷ fs) ≡
            lastly (length fs) (judged (start_rule_of c s) c (at_word s (s.party.taken + length fs) none))
        go [] e = no_fields e
        go (q ∷ qs) e =
            header_first (q ∷ qs) (omega arith) ∙
            ap (onward [])
            (rest s i.unstopped c all_allowed own (s.party.taken + suc (length qs)) (omega (arith, ap length e)) qs q []
            (s.party.taken + 1) (sym e) (omega arith) ∙
            ap (λ (t : Told). lastly (length qs) (judged t c (at_word s (s.party.taken + suc (length qs)) none))) told_start)

    -- it is read back: the command, as `after` says, with all its words taken
    pub reads_back : (v : List ℕ) → start_rule_of c s ≡ gives v →
        feed_of s (words_of c) ≡
        fed (length (words_of c)) (c ∷ []) nothing (at_word (after c s) (s.party.taken + length (words_of c)) none)
    unfolding words_of judged
    reads_back v r =
        ends_as ∙
        ap (λ (t : Told). lastly size (judged t c (at_word s (s.party.taken + size) none))) r ∙
        lastly_completed size c (after c (at_word s (s.party.taken + size) none)) ∙
        ap (fed (suc size) (c ∷ []) nothing) (after_at_word c s (s.party.taken + size) none) ∙
        ap (λ (n : ℕ). fed (suc size) (c ∷ []) nothing (at_word (after c s) n none)) counted
      where
        counted : s.party.taken + size + 1 ≡ s.party.taken + suc size
        counted = omega arith

    -- unless the settings refuse it: with 7, 8 or 9, at its last word
    pub refuses_start : (n : ℕ) → start_rule_of c s ≡ refuses n →
        feed_of s (words_of c) ≡ fed size [] (first n) (refusing (at_word s (s.party.taken + size) none) n).session
    unfolding judged
    refuses_start n r =
        ends_as ∙
        ap (λ (t : Told). lastly size (judged t c (at_word s (s.party.taken + size) none))) r ∙
        lastly_refused size n (refusing (at_word s (s.party.taken + size) none) n).session

  -- and 17, with the word that comes when the session is full
  pub refuses_full : s.party.taken ≤ limit → limit < s.party.taken + length (words_of c) →
      feed_of s (words_of c) ≡ fed (limit - s.party.taken) [] (first 17) (refusing (at_word s limit none) 17).session
  unfolding words_of
  refuses_full h k = go (fields_of c) refl (tested (eqb s.party.taken limit))
    where
      go : (fs : List ℕ) → fields_of c ≡ fs → Tested (eqb s.party.taken limit) →
          feed_of s (header_of (line_of c) ∷ fs) ≡ fed (limit - s.party.taken) [] (first 17) (refusing (at_word s limit none) 17).session
      go fs e (holds t) =
          full_piece s i.unstopped c all_allowed own s.party.taken s.party.opened (header_of (line_of c)) fs (eqb-true _ _ t)
      go [] e (fails t) = no_fields e
      go (q ∷ qs) e (fails t) =
          let ne : s.party.taken ≡ limit → ⊥ = eqb-false s.party.taken limit t in
          let less : s.party.taken < limit = omega arith in
          header_first (q ∷ qs) less ∙
          ap (onward [])
          (overfull s i.unstopped c all_allowed own qs q [] (s.party.taken + 1) (sym e) (omega arith) (omega (arith, ap length e))) ∙
          onward_full s i.unstopped c all_allowed own s.party.taken less

  -- so every command that the writer accepts is read back, unless 7, 8, 9 or 17 refuse it
  pub read_as : s.party.taken ≤ limit → ReadAs s c (feed_of s (words_of c))
  read_as h = go (start_rule_of c s) refl (tested (leb (s.party.taken + length (words_of c)) limit))
    where
      go : (t : Told) → start_rule_of c s ≡ t → Tested (leb (s.party.taken + length (words_of c)) limit) → ReadAs s c (feed_of s (words_of c))
      go t e (fails k) =
          subst (ReadAs s c) (sym (refuses_full h (leb-false _ _ k))) (filled_up (leb-false _ _ k))
      go (gives v) e (holds k) = subst (ReadAs s c) (sym (reads_back (leb-true _ _ k) v e)) (read_whole v e)
      go (refuses n) e (holds k) =
          subst (ReadAs s c) (sym (refuses_start (leb-true _ _ k) n e))
          (denied_start n e (start_number c s n e).least (start_number c s n e).most)
