-- Request 2: a start with every set output silent is a run of no elements; and under the mask 65535, which a new session has, every
-- start is document 01's, since the entries set no output with another code than 0 to 4. Assumes nothing.
use mathlib.Core.Path.{◌≡◌, refl, sym, ap, ap₂, ◌∙◌, subst}
use mathlib.Core.Bool.{Bool, true, false, not}
use mathlib.Core.List.{List, [], ◌∷◌}
use Prim.Native.Nat.{ℕ, ◌+◌, ◌*◌, ◌<◌, ◌≤◌}
use native.Mathlib.Nat.{add-zero, mul-zero}
use native.Mathlib.Omega.{arith}
use lib.Dec.{eqb}
use lib.ListN.{length, get_or, set}
use lib.Seq.{get_or-set_same, get_or-set_other}
use borrow.Author.Tests.{eq-eqb, eqb-true, eqb-false, leb-true}
use Rattle.laws.specs.Choice.{◌and◌, pick}
use Rattle.laws.specs.Below.{some, every, sum}
use Rattle.laws.specs.Masks.{◌or◌, on}
use Rattle.laws.proofs.Below.{every_at, every_of, every_same, some_at, sum_same, count_same}
use Rattle.laws.proofs.Choice.{Tested, holds, fails, tested, pick_yes, pick_no, and_intro, and_yes, and_right, and_no_left}
use Rattle.laws.proofs.Table.{each, ◌&◌}
use Rattle.refusal.specs.Told.{gives}
use Rattle.command.specs.Table.{count_of}
use Rattle.command.specs.Format.{channels_of, code_of}
use Rattle.command.specs.Kinds.{format_allowed, allowed, fault_of, kind_of}
use Rattle.command.specs.Commands.{line_of, fields_of, words_of, EachAllowed}
use Rattle.rules.specs.Rules.{domain_kept, window_kept, last_rule_of}
use Rattle.rules.specs.Writer.{unrefused, all_unrefused, fields_unrefused, judge_command_of}
use Rattle.command.specs.declared.commands.Stored.TheVariants as stored
use Rattle.command.specs.declared.commands.Command.{Command}
use Rattle.command.specs.declared.commands.Command.TheVariants as command
use Rattle.start.proofs.Editions.{first_claim}
use Rattle.owners.specs.Owners.{owned}
use Rattle.state.specs.Seen.{seen_outputs}
use Rattle.state.proofs.Seen.{seen_all}
use Rattle.session.proofs.Refusals.{fed_valid}
use Rattle.state.specs.State.{Buffer, Domain, Birth, Shared, Session, unset, none, new_shared, new_session}
use Rattle.state.specs.Start.{output, is_set, unmasked, silent, counts, contains_domain, apart, complete, covered, disjoint, ready_of, is_edition, credit_at, credit_of, pairs_of, claim_of}
use Rattle.state.specs.Effects.{limit, buffer, own_after, shared_after, after}
use Rattle.state.specs.Valid.{Valid}
use Rattle.session.specs.Step.{Reply, still_open, completed, refused, Stepped, start_rule_of, step_of}
use Rattle.session.specs.Feed.{nothing, Fed, proceed, feed_of}
use Rattle.session.specs.Again.{Idle, fed, at_word}
use Rattle.session.specs.Silent.{
  AllSilent,
  seen_by,
  SilentSettings,
  start_words,
  EmptyRun,
  Coded,
  counts_in_full,
  covered_in_full,
  disjoint_in_full,
  ready_in_full,
  claim_in_full,
  AsBefore,
}
use Rattle.session.proofs.Ways.{Way, was_stopped, stops, opens, fills, ends, way}
use Rattle.session.proofs.Kept.{new_valid, each_allowed, kept}
use Rattle.session.proofs.ReadBack.{reads_back}
use Rattle.session.proofs.Tallies.{born}

-- settings with every set output silent: none counts, so 8 and 9 have nothing to refuse and nothing is claimed
module _ (mask : ℕ) (outputs : List Buffer) (a : AllSilent mask outputs) where
  none_counts : (n : ℕ) → n < 4 → counts mask outputs n ≡ false
  unfolding counts silent
  none_counts n h = go (tested (is_set outputs n))
    where
      masked : (t : Bool) → not t ≡ true → t ≡ false
      masked true e = sym e
      masked false e = refl

      go : Tested (is_set outputs n) → (is_set outputs n and unmasked mask n (output outputs n).format) ≡ false
      go (holds e) = and_yes _ e ∙ masked _ (a.each_silent n h e)
      go (fails e) = and_no_left _ e

  covered_silent : (d : Domain) → covered mask outputs d ≡ true
  unfolding covered
  covered_silent d = every_of 4 _ (λ n h. pick_no _ true (none_counts n h))

  disjoint_silent : disjoint mask outputs ≡ true
  unfolding disjoint
  disjoint_silent =
      every_of 4 _ (λ n h. every_of n _ (λ m k. pick_no _ true (and_no_left _ (none_counts n h))))

  pub claim_silent : (edition : ℕ) (d : Domain) → claim_of edition d mask outputs ≡ 0
  unfolding claim_of credit_of credit_at
  claim_silent edition d =
      ap (λ (n : ℕ). pairs_of d * n) (sum_same 4 _ (λ n. 0) (λ n h. pick_no _ 0 (none_counts n h))) ∙
      unfold sum in mul-zero (pairs_of d)

  pub ready_silent : (d : Domain) (instructions : Buffer) → complete d instructions outputs ≡ true →
      ready_of d instructions mask outputs ≡ gives []
  unfolding ready_of
  ready_silent d instructions e = pick_yes _ _ e ∙ pick_yes _ _ (covered_silent d) ∙ pick_yes _ _ disjoint_silent

-- "7 is as before, so a start with every output silent is a run of no elements": fed to a running session without an open command,
-- where there is room for its two words
module _ (s : Session) (i : Idle s) (room : s.party.taken + 2 ≤ limit) (q : SilentSettings s) where
  complete_silent : complete s.party.domain s.party.instructions (seen_by s) ≡ true
  unfolding complete
  complete_silent =
      and_intro (eq-eqb _ 1 q.domain_set_lem)
      (and_intro (eq-eqb _ 1 q.instructions_set) (some_at 4 _ q.number q.number_most q.output_set))

  start_passes : start_rule_of command.Start s ≡ gives []
  unfolding start_rule_of
  start_passes = ready_silent s.shared.mask (seen_by s) q.all_silent s.party.domain s.party.instructions complete_silent

  start_writes : judge_command_of command.Start ≡ gives []
  unfolding judge_command_of fields_unrefused all_unrefused unrefused fault_of line_of fields_of last_rule_of domain_kept window_kept pick ◌and◌ allowed
  start_writes = refl

  start_read : feed_of s start_words ≡
      fed 2 (command.Start ∷ []) nothing (at_word (after command.Start s) (s.party.taken + 2) none)
  unfolding words_of fields_of
  start_read = reads_back s command.Start i start_writes (unfold owned in refl) room [] start_passes

  pub silent_start : EmptyRun s (feed_of s start_words)
  unfolding after own_after
  silent_start =
      rw start_read
      (record {
        commands = refl;
        unrefused = refl;
        runs = refl;
        claims =
            ap (λ (n : ℕ). s.party.tally.claims + n) (claim_silent s.shared.mask (seen_by s) q.all_silent s.party.birth.edition s.party.domain) ∙
            add-zero _;
      })

-- the mask 65535 has a bit for each channel of each code
heard : ℕ → ℕ → Bool
heard n code = some (channels_of code) (λ c. on (4 * n + c) 65535)

all_heard : (n code : ℕ) → n < 4 → code < 5 → heard n code ≡ true
unfolding heard channels_of some on every ◌and◌ ◌or◌
all_heard n code h k = every_at 5 (heard n) (every_at 4 (λ m. every 5 (heard m)) refl n h) code k

-- so under it every set output counts, and a start is document 01's
module _ (outputs : List Buffer) (a : Coded outputs) where
  pub counts_in_full_lem : (n : ℕ) → n < 4 → counts 65535 outputs n ≡ counts_in_full outputs n
  unfolding counts counts_in_full unmasked heard
  counts_in_full_lem n h = go (tested (is_set outputs n))
    where
      go : Tested (is_set outputs n) → (is_set outputs n and unmasked 65535 n (output outputs n).format) ≡ is_set outputs n
      go (holds e) = and_yes _ e ∙ all_heard n (code_of (output outputs n).format) h (omega (arith, a.code_most n h e)) ∙ sym e
      go (fails e) = and_no_left _ e ∙ sym e

  covered_in_full_lem : (d : Domain) → covered 65535 outputs d ≡ covered_in_full outputs d
  unfolding covered covered_in_full
  covered_in_full_lem d = every_same 4 _ _ (λ n h. ap (λ (t : Bool). pick t (contains_domain d (output outputs n)) true) (counts_in_full_lem n h))

  disjoint_in_full_lem : disjoint 65535 outputs ≡ disjoint_in_full outputs
  unfolding disjoint disjoint_in_full
  disjoint_in_full_lem =
      every_same 4 _ _
      (λ n h. every_same n _ _
      (λ m k. ap₂ (λ (t u : Bool). pick (t and u) (apart (output outputs n) (output outputs m)) true) (counts_in_full_lem n h) (counts_in_full_lem m (omega arith))))

  pub ready_in_full_lem : (d : Domain) (instructions : Buffer) → ready_of d instructions 65535 outputs ≡ ready_in_full d instructions outputs
  unfolding ready_of ready_in_full
  ready_in_full_lem d instructions = cc (covered_in_full_lem d, disjoint_in_full_lem)

  pub claim_in_full_lem : (d : Domain) → claim_of 1 d 65535 outputs ≡ claim_in_full d outputs
  unfolding claim_in_full
  claim_in_full_lem d = first_claim d 65535 outputs ∙ ap (λ (n : ℕ). pairs_of d * n) (count_same 4 _ _ counts_in_full_lem)

-- a command that was accepted keeps every set output's code among 0 to 4
allowed_code : (w : ℕ) → format_allowed w ≡ true → code_of w ≤ 4
unfolding format_allowed
allowed_code w e = leb-true _ _ (and_right _ _ (and_right _ _ (and_right _ _ (and_right _ _ e))))

module _ (outputs : List Buffer) (size : length outputs ≡ 4) (a : Coded outputs) (number base format height : ℕ) where
  abbrev put : List Buffer
  put = set outputs number (buffer base format height)

  coded_set : number ≤ 3 → code_of format ≤ 4 → Coded put
  unfolding is_set output
  coded_set l k = record { code_most = λ n h e. go n h e (tested (eqb n number)) }
    where
      go : (n : ℕ) → n < 4 → is_set put n ≡ true → Tested (eqb n number) → code_of (output put n).format ≤ 4
      go n h e (holds w) =
          rw (eqb-true n number w, get_or-set_same outputs number (buffer base format height) unset (omega (arith, size))) k
      go n h e (fails w) =
          let other : get_or put n unset ≡ get_or outputs n unset = get_or-set_other outputs number n (buffer base format height) unset (eqb-false n number w) in
          subst (λ (b : Buffer). code_of b.format ≤ 4) (sym other) (a.code_most n h (ap (λ (b : Buffer). eqb b.is_set 1) (sym other) ∙ e))

coded_after : (mine : ℕ) (c : Command) (h : Shared) → EachAllowed (line_of c) (fields_of c) → length h.outputs ≡ 4 → Coded h.outputs →
    Coded (shared_after mine c h).outputs
unfolding shared_after line_of fields_of count_of kind_of allowed
coded_after mine (command.Domain i0 j0 i1 j1) h f l a = a
coded_after mine command.Start h f l a = a
coded_after mine (command.Effectless what) h f l a = a
coded_after mine (command.Store stored.Instructions base format) h f l a = a
coded_after mine (command.Store stored.Floats base format) h f l a = a
coded_after mine (command.Store stored.Integers base format) h f l a = a
coded_after mine (command.Store stored.Booleans base format) h f l a = a
coded_after mine (command.Input number base format height) h f l a = a
coded_after mine (command.Output number base format height) h f l a =
    coded_set h.outputs l a number base format height (leb-true _ _ (f 0 (omega arith))) (allowed_code format (f 2 (omega arith)))
coded_after mine (command.Conditional base format height) h f l a = a
coded_after mine (command.OutputMask mask) h f l a = a
coded_after mine (command.ConditionalMask mask) h f l a = a
coded_after mine (command.Test test) h f l a = a

-- so does a word, and a piece
module _ (s : Session) (w : ℕ) (v : Valid s) (a : Coded s.shared.outputs) where
  coded_way : (t : Stepped) → Way s w t → Coded t.session.shared.outputs
  unfolding after
  coded_way t (was_stopped e) = a
  coded_way t (stops n e) = a
  coded_way t (opens r i k m) = a
  coded_way t (fills p m) = a
  coded_way t (ends p l c e u u' r q) = coded_after s.party.birth.mine c s.shared (each_allowed s w v p l c e) v.outputs a

coded_proceed : (t : Stepped) (f : Fed) → Coded t.session.shared.outputs → Coded f.session.shared.outputs →
    Coded (proceed t.reply t.session f).session.shared.outputs
unfolding proceed
coded_proceed t f a b = go t.reply
  where
    go : (r : Reply) → Coded (proceed r t.session f).session.shared.outputs
    go still_open = b
    go (completed c) = b
    go (refused n) = a

pub coded_fed : (s : Session) (ws : List ℕ) → Valid s → Coded s.shared.outputs → Coded (feed_of s ws).session.shared.outputs
unfolding feed_of
coded_fed s [] v a = a
coded_fed s (w ∷ ws) v a =
    let b : Coded (step_of s w).session.shared.outputs = coded_way s w v a (step_of s w) (way s w) in
    coded_proceed (step_of s w) (feed_of (step_of s w).session ws) b (coded_fed (step_of s w).session ws (kept s w v) b)

none_set : Coded new_shared.outputs
unfolding is_set output code_of
none_set = record {
  code_most = λ n h e. each (λ n. code_of (get_or new_shared.outputs n unset).format ≤ 4) 4
      (tt & unset_code & unset_code & unset_code & unset_code) n h;
}
  where
    unset_code : code_of 0 ≤ 4
    unset_code = omega arith

-- whatever words a new session of edition 1 was fed, where its mask is 65535 a start is document 01's
pub as_before : (ws : List ℕ) → (feed_of (new_session 1) ws).session.shared.mask ≡ 65535 → AsBefore (feed_of (new_session 1) ws).session
as_before ws e =
    let s : Session = (feed_of (new_session 1) ws).session in
    let known : is_edition 1 ≡ true = unfold is_edition pick in refl in
    let a : Coded s.shared.outputs = coded_fed (new_session 1) ws (new_valid 1 known) none_set in
    let all : seen_by s ≡ s.shared.outputs =
    ap (λ (b : Birth). seen_outputs b.mine s.shared.outputs) (born (new_session 1) ws) ∙
    seen_all s.shared.outputs (fed_valid (new_session 1) ws (new_valid 1 known)).outputs
    in
    record {
      judged_so =
          (λ j. ready_of s.party.domain s.party.instructions (e j) (all j)) ∙
          ready_in_full_lem s.shared.outputs a s.party.domain s.party.instructions;
      claims_so =
          (λ j. claim_of (born (new_session 1) ws j).edition s.party.domain (e j) (all j)) ∙
          claim_in_full_lem s.shared.outputs a s.party.domain;
    }
