-- A command that is taken whole, cell by cell as the code takes it, is the definition's session after all its words.
-- Assumes nothing.
use mathlib.Core.Path.{◌≡◌, refl, sym, ap, ap₂, ◌∙◌, subst}
use mathlib.Core.Bool.{Bool, true, false}
use mathlib.Core.List.{List, [], ◌∷◌, ◌++◌}
use Prim.Native.Nat.{ℕ, ◌+◌, ◌-◌, ◌*◌, ◌<◌, ◌≤◌, ◌^◌}
use native.Mathlib.Numerals.{add-one}
use native.Mathlib.Omega.{arith}
use lib.Dec.{eqb, ltb}
use lib.ListN.{length, get_or, drop, set}
use lib.Seq.{drop-cons}
use borrow.Author.Tests.{eqb-true, lt-ltb, le-ltb}
use Rattle.laws.specs.Choice.{◌and◌, pick, place_of}
use Rattle.laws.specs.Below.{every}
use Rattle.laws.proofs.Table.{NoneOf, named_or, otherwise}
use Rattle.refusal.specs.Told.{Told, gives, refuses, is_given}
use Rattle.command.specs.Table.{header_of, line_with}
use Rattle.command.specs.Commands.{no_effect_line, stored_line, line_of, fields_of, words_of, command_of}
use Rattle.owners.specs.Owners.{mask_by, owned, owns_common, owns_input, owns_output}
use Rattle.rules.specs.Writer.{judge_command_of}
use Rattle.command.specs.declared.commands.NoEffect.{NoEffect}
use Rattle.command.specs.declared.commands.NoEffect.TheVariants as no_effect
use Rattle.command.specs.declared.commands.Stored.{Stored}
use Rattle.command.specs.declared.commands.Stored.TheVariants as stored
use Rattle.command.specs.declared.commands.Command.{Command}
use Rattle.command.specs.declared.commands.Command.TheVariants as command
use Rattle.rules.proofs.Fitting.{start_fits, effectless_fits, store_decided, mask_decided, conditional_mask_decided, test_decided, given_fine}
use Rattle.command.proofs.Headers.{accepted_listed}
use Rattle.rules.proofs.Readable.{readable}
use Rattle.state.specs.State.{Birth, Tally, Readiness, Party, Shared, Session, most_extent}
use Rattle.state.specs.Seen.{seen_outputs}
use Rattle.state.specs.Start.{ready_of, readiness_of}
use Rattle.state.specs.Readiness.{readiness_for, worked_out}
use Rattle.state.specs.Effects.{limit, buffer, domain_from, with_domain, with_instructions, with_readiness, renewed, own_after, shared_after, after}
use Rattle.state.specs.Valid.{DomainValid}
use Rattle.start.specs.Gauge.{settled, RenewAsked}
use Rattle.start.proofs.Gauge.{settled_kept}
use Rattle.start.specs.Rules.{start_rule_of}
use Rattle.start.proofs.Readiness.{number_given, number_refused}
use Rattle.accept.specs.AtWord.{at_word}
use Rattle.state.specs.Asked.{Held, HeldOwn, OwnAsked}
use Rattle.state.specs.Cells.{Sized, party_of, party_cells, tally_cells, shared_of, shared_cells, session_of, set_buffer, own_length, shared_length, tallies_length}
use Rattle.state.proofs.Cells.{own_canon, tally_canon}
use Rattle.state.specs.Effects.{took_words}
use Rattle.accept.specs.Whole.{Ready, RoomFor, Denied, by_words, by_fields, by_owner, by_settings, Tried, untaken, accepted, Begun, begun, unbegun}
use Rattle.accept.specs.Whole.{OwnTried, SharedTried, KeptAt, every_word}
use Rattle.state.proofs.OwnPuts.{
  stored_cells,
  own_floats,
  own_integers,
  own_booleans,
  start_own,
  store_own,
  effectless_own,
  input_own,
  conditional_own,
  conditional_mask_own,
  test_own,
}
use Rattle.state.proofs.SharedPuts.{
  domain_shared,
  start_shared,
  effectless_shared,
  instructions_shared,
  floats_shared,
  integers_shared,
  booleans_shared,
  conditional_shared,
  output_shared,
  input_shared,
  mask_shared,
  conditional_mask_shared,
  test_shared,
}
use Rattle.accept.proofs.Numbers.{numbered, last_pair}
use Rattle.accept.proofs.Outputs.{output_set, mask_set, renewed_own, renew_asked}

-- what a command does to the party's own settings and to what is kept of readiness, the words counted before or after it
own_at_word : (c : Command) (n : ℕ) (h : Shared) (p : Party) →
    renewed (shared_after p.birth.mine c h) (own_after c h (took_words n p)) ≡
    (at_word (after c (record { party = p; shared = h })) (p.taken + n) p.opened).party
unfolding after own_after shared_after
own_at_word (command.Domain i0 j0 i1 j1) n h p = refl
own_at_word command.Start n h p = refl
own_at_word (command.Effectless what) n h p = refl
own_at_word (command.Store stored.Instructions base format) n h p = refl
own_at_word (command.Store stored.Floats base format) n h p = refl
own_at_word (command.Store stored.Integers base format) n h p = refl
own_at_word (command.Store stored.Booleans base format) n h p = refl
own_at_word (command.Input number base format height) n h p = refl
own_at_word (command.Output number base format height) n h p = refl
own_at_word (command.Conditional base format height) n h p = refl
own_at_word (command.OutputMask mask) n h p = refl
own_at_word (command.ConditionalMask mask) n h p = refl
own_at_word (command.Test test) n h p = refl

-- a command that sets nothing that readiness is worked out from
unfoldable pub Unmoving : Command → Type 0
Unmoving (command.Domain i0 j0 i1 j1) = ⊥
Unmoving command.Start = Unit
Unmoving (command.Effectless what) = Unit
Unmoving (command.Store stored.Instructions base format) = ⊥
Unmoving (command.Store stored.Floats base format) = Unit
Unmoving (command.Store stored.Integers base format) = Unit
Unmoving (command.Store stored.Booleans base format) = Unit
Unmoving (command.Input number base format height) = Unit
Unmoving (command.Output number base format height) = ⊥
Unmoving (command.Conditional base format height) = Unit
Unmoving (command.OutputMask mask) = ⊥
Unmoving (command.ConditionalMask mask) = Unit
Unmoving (command.Test test) = Unit

-- such a command leaves what is kept as it is worked out
unmoved : (c : Command) → Unmoving c → (h : Shared) (p : Party) → p.readiness ≡ readiness_for p h →
    own_after c h p ≡ renewed (shared_after p.birth.mine c h) (own_after c h p)
unfolding Unmoving own_after shared_after
unmoved (command.Domain i0 j0 i1 j1) u h p e = absurd u
unmoved command.Start u h p e = λ k. with_readiness (e k) (own_after command.Start h p)
unmoved (command.Effectless what) u h p e = λ k. with_readiness (e k) p
unmoved (command.Store stored.Instructions base format) u h p e = absurd u
unmoved (command.Store stored.Floats base format) u h p e = λ k. with_readiness (e k) p
unmoved (command.Store stored.Integers base format) u h p e = λ k. with_readiness (e k) p
unmoved (command.Store stored.Booleans base format) u h p e = λ k. with_readiness (e k) p
unmoved (command.Input number base format height) u h p e = λ k. with_readiness (e k) p
unmoved (command.Output number base format height) u h p e = absurd u
unmoved (command.Conditional base format height) u h p e = λ k. with_readiness (e k) p
unmoved (command.OutputMask mask) u h p e = absurd u
unmoved (command.ConditionalMask mask) u h p e = λ k. with_readiness (e k) p
unmoved (command.Test test) u h p e = λ k. with_readiness (e k) p

module _ (c : Command) (n : ℕ) (l t h l1 : List ℕ) (e1 : l1 ≡ party_cells (took_words n (party_of l []))) where
  is_party : party_of l1 t ≡ took_words n (party_of l t)
  unfolding party_of party_cells
  is_party = ap (λ (x : List ℕ). party_of x t) e1

  abbrev left : Session
  left = at_word (after c (session_of l t h)) ((party_of l t).taken + n) (party_of l t).opened

  abbrev set_by : Shared
  set_by = shared_after (party_of l t).birth.mine c (shared_of h)

  abbrev then : Party → Party
  then p = renewed set_by (own_after c (shared_of h) p)

  module _ (rest ws : List ℕ) (begins : ws ≡ words_of c ++ rest) (fine : judge_command_of c ≡ gives [])
      (own : owned (get_or l 17 0) c ≡ true) (rule : start_rule_of c (session_of l t h) ≡ gives []) where
    pub tried : (l2 t2 h2 : List ℕ) → HeldOwn (then (party_of l1 t)) l2 t2 →
        h2 ≡ shared_cells set_by → Tried c ws n l t h n l2 t2 h2
    unfolding after
    tried l2 t2 h2 held e = accepted rest l2 t2 h2 begins fine (unfold party_of in own) rule kept
      where
        own_held : HeldOwn left.party l2 t2
        own_held =
            subst (λ (p : Party). HeldOwn p l2 t2) (ap then is_party ∙ own_at_word c n (shared_of h) (party_of l t)) held

        kept : Held left l2 t2 h2
        kept = record { own_cells = own_held.own_cells; tally_cells_lem = own_held.tally_cells_lem; shared_cells_lem = e }

    -- the same of a command that sets nothing that readiness is worked out from
    pub unmoving_tried : Unmoving c → OwnAsked l t h → (l2 t2 h2 : List ℕ) → HeldOwn (own_after c (shared_of h) (party_of l1 t)) l2 t2 →
        h2 ≡ shared_cells set_by → Tried c ws n l t h n l2 t2 h2
    unmoving_tried u a l2 t2 h2 held =
        tried l2 t2 h2
        (subst (λ (p : Party). HeldOwn p l2 t2)
        (ap (own_after c (shared_of h)) is_party ∙ unmoved c u (shared_of h) (took_words n (party_of l t)) a.kept ∙ ap then (sym is_party))
        held)

-- "start reads it": the stored number is the one worked out from the settings
stored_number : (l t h : List ℕ) → OwnAsked l t h →
    get_or l 19 0 ≡ readiness_of (party_of l t).domain (party_of l t).instructions (shared_of h).mask
    (seen_outputs (party_of l t).birth.mine (shared_of h).outputs)
unfolding party_of worked_out
stored_number l t h a = ap (λ (r : Readiness). r.number) a.kept

last_column : (i0 j0 i1 j1 : ℕ) → judge_command_of (command.Domain i0 j0 i1 j1) ≡ gives [] → i1 < most_extent
last_column i0 j0 i1 j1 e = (last_pair i0 j0 i1 j1 (readable (command.Domain i0 j0 i1 j1) e).fields_allowed).0

last_row : (i0 j0 i1 j1 : ℕ) → judge_command_of (command.Domain i0 j0 i1 j1) ≡ gives [] → j1 < most_extent
last_row i0 j0 i1 j1 e = (last_pair i0 j0 i1 j1 (readable (command.Domain i0 j0 i1 j1) e).fields_allowed).1

pub counted_length : (l l1 : List ℕ) (n : ℕ) → l1 ≡ party_cells (took_words n (party_of l [])) → length l1 ≡ own_length
unfolding party_cells
counted_length l l1 n e = ap length e

-- a command that the writer accepts has its number in range
pub output_most : (n b f k : ℕ) → judge_command_of (command.Output n b f k) ≡ gives [] → n < 4
output_most n b f k e = numbered (command.Output n b f k) (readable (command.Output n b f k) e).fields_allowed

pub input_most : (n b f k : ℕ) → judge_command_of (command.Input n b f k) ≡ gives [] → n < 16
input_most n b f k e = numbered (command.Input n b f k) (readable (command.Input n b f k) e).fields_allowed

pub output_place : (n b f k : ℕ) → judge_command_of (command.Output n b f k) ≡ gives [] → 21 + 4 * n < 98
output_place n b f k e = omega (arith, output_most n b f k e)

pub input_place : (n b f k : ℕ) → judge_command_of (command.Input n b f k) ≡ gives [] → 37 + 4 * n < 98
input_place n b f k e = omega (arith, input_most n b f k e)

-- the commands by their arms: own cells `l`, and `l1` after `m` words were counted
module _ (l l1 : List ℕ) (m : ℕ) (e : l1 ≡ party_cells (took_words m (party_of l []))) where
  abbrev sized : length l1 ≡ own_length
  sized = counted_length l l1 m e

  -- what is kept after the words were counted
  abbrev kept_in : List ℕ → List ℕ → Birth → Readiness
  kept_in t h b =
      worked_out b.edition (party_of l t).domain (party_of l t).instructions (shared_of h).mask (seen_outputs b.mine (shared_of h).outputs)

  kept_counted : (t h : List ℕ) → OwnAsked l t h → (party_of l1 t).readiness ≡ kept_in t h (party_of l1 t).birth
  unfolding party_of party_cells
  kept_counted t h a =
      ap (λ (x : List ℕ). (party_of x t).readiness) e ∙ a.kept ∙ ap (λ (x : List ℕ). kept_in t h (party_of x t).birth) (sym e)

  domain_counted : (t h : List ℕ) → OwnAsked l t h → DomainValid (party_of l1 t).domain
  unfolding party_of party_cells
  domain_counted t h a = subst (λ (x : List ℕ). DomainValid (party_of x t).domain) (sym e) a.domain

  -- own cells that were settled after the domain or the instruction format was set
  settled_own : (q : Party) (t l2 l3 : List ℕ) → length t ≡ tallies_length → q.tally ≡ (party_of l1 t).tally → l2 ≡ party_cells q →
      l3 ≡ party_cells (settled (party_of l2 [])) → HeldOwn (settled q) l3 t
  unfolding party_of party_cells tally_cells
  settled_own q t l2 l3 z same e2 e3 =
      record {
        own_cells = e3 ∙ ap (λ (x : List ℕ). party_cells (settled (party_of x []))) e2;
        tally_cells_lem = sym (tally_canon l1 t z) ∙ ap {B = List ℕ} (λ (x : Tally). x.runs ∷ x.claims ∷ []) (sym same);
      }

  module _ (i0 j0 i1 j1 : ℕ) (fine : judge_command_of (command.Domain i0 j0 i1 j1) ≡ gives []) where
    abbrev domain_set : List ℕ → Party
    domain_set t = with_domain (domain_from i0 j0 i1 j1) (party_of l1 t)

    domain_held_lem : (t h : List ℕ) → OwnAsked l t h → (l2 l3 : List ℕ) → l2 ≡ party_cells (domain_set []) →
        l3 ≡ party_cells (settled (party_of l2 [])) →
        HeldOwn (renewed (shared_after (party_of l t).birth.mine (command.Domain i0 j0 i1 j1) (shared_of h)) (own_after (command.Domain i0 j0 i1 j1) (shared_of h) (party_of l1 t))) l3 t
    unfolding own_after shared_after
    domain_held_lem t h z l2 l3 e2 e3 =
        subst (λ (p : Party). HeldOwn p l3 t)
        (settled_kept (domain_set t) (shared_of h) (party_of l t).domain (party_of l t).instructions (last_column i0 j0 i1 j1 fine)
        (last_row i0 j0 i1 j1 fine) (kept_counted t h z))
        (settled_own (domain_set t) t l2 l3 z.sized.tallies_length_lem refl (e2 ∙ unfold party_of party_cells in refl) e3)

    pub domain_tried : (l2 : List ℕ) → l2 ≡ party_cells (domain_set []) → (l3 : List ℕ) → l3 ≡ party_cells (settled (party_of l2 [])) →
        OwnTried (command.Domain i0 j0 i1 j1) (header_of 0 ∷ i0 ∷ j0 ∷ i1 ∷ j1 ∷ []) m m l l3
    unfolding words_of line_of fields_of start_rule_of
    domain_tried l2 e2 l3 e3 t h rest z =
        tried (command.Domain i0 j0 i1 j1) m l t h l1 e rest _ refl fine (unfold owned in refl) refl l3 t h (domain_held_lem t h z l2 l3 e2 e3)
        (domain_shared _ h z.sized.shared_length_lem i0 j0 i1 j1)

  pub effectless_tried : (n : ℕ) → n ≡ 0 → (what : NoEffect) →
      OwnTried (command.Effectless what) (header_of (no_effect_line what) ∷ n ∷ []) m m l l1
  unfolding words_of line_of fields_of start_rule_of
  effectless_tried n none what t h rest z =
      unmoving_tried (command.Effectless what) m l t h l1 e rest _
      (ap {B = List ℕ} (λ (x : ℕ). header_of (no_effect_line what) ∷ x ∷ rest) none) (effectless_fits what) (unfold owned in refl) refl (unfold Unmoving in tt) z l1 t h
      (effectless_own l1 sized t z.sized.tallies_length_lem (shared_of h) what)
      (effectless_shared _ h z.sized.shared_length_lem what)

  module _ (b f : ℕ) (fine : judge_command_of (command.Store stored.Instructions b f) ≡ gives []) where
    abbrev format_set : List ℕ → Party
    format_set t = with_instructions (buffer b f 1) (party_of l1 t)

    instructions_held : (t h : List ℕ) → OwnAsked l t h → (l2 l3 : List ℕ) → l2 ≡ party_cells (format_set []) →
        l3 ≡ party_cells (settled (party_of l2 [])) →
        HeldOwn (renewed (shared_after (party_of l t).birth.mine (command.Store stored.Instructions b f) (shared_of h)) (own_after (command.Store stored.Instructions b f) (shared_of h) (party_of l1 t))) l3 t
    unfolding own_after shared_after
    instructions_held t h z l2 l3 e2 e3 =
        subst (λ (p : Party). HeldOwn p l3 t)
        (settled_kept (format_set t) (shared_of h) (party_of l t).domain (party_of l t).instructions (domain_counted t h z).column_most
        (domain_counted t h z).row_most (kept_counted t h z))
        (settled_own (format_set t) t l2 l3 z.sized.tallies_length_lem refl (e2 ∙ unfold party_of party_cells in refl) e3)

    pub instructions_tried : (l2 : List ℕ) → l2 ≡ party_cells (format_set []) → (l3 : List ℕ) → l3 ≡ party_cells (settled (party_of l2 [])) →
        OwnTried (command.Store stored.Instructions b f) (header_of 3 ∷ b ∷ f ∷ []) m m l l3
    unfolding words_of line_of stored_line fields_of start_rule_of
    instructions_tried l2 e2 l3 e3 t h rest z =
        tried (command.Store stored.Instructions b f) m l t h l1 e rest _ refl fine (unfold owned in refl) refl l3 t h (instructions_held t h z l2 l3 e2 e3)
        (instructions_shared _ h z.sized.shared_length_lem b f)

  -- commands that change shared cells, `h` to `h1`
  module _ (h h1 : List ℕ) where
    pub conditional_tried : (b f k : ℕ) → judge_command_of (command.Conditional b f k) ≡ gives [] → owned (get_or l 17 0) (command.Conditional b f k) ≡ true → h1 ≡ set_buffer h 17 (buffer b f k) →
        SharedTried (command.Conditional b f k) (header_of 6 ∷ b ∷ f ∷ k ∷ []) m m l h l1 h1
    unfolding words_of line_of fields_of start_rule_of
    conditional_tried b f k fine own p t rest z =
        unmoving_tried (command.Conditional b f k) m l t h l1 e rest _ refl fine own refl (unfold Unmoving in tt) z l1 t h1
        (conditional_own l1 sized t z.sized.tallies_length_lem (shared_of h) b f k)
        (p ∙ conditional_shared _ h z.sized.shared_length_lem b f k)

    pub output_tried : (n b f k : ℕ) → judge_command_of (command.Output n b f k) ≡ gives [] → owned (get_or l 17 0) (command.Output n b f k) ≡ true →
        h1 ≡ set_buffer h (21 + 4 * n) (buffer b f k) → (r : Readiness) (l2 : List ℕ) →
        l2 ≡ party_cells (with_readiness r (party_of l1 [])) → (l3 : List ℕ) → l3 ≡ party_cells (renewed (shared_of h1) (party_of l2 [])) →
        SharedTried (command.Output n b f k) (header_of 5 ∷ n ∷ b ∷ f ∷ k ∷ []) m m l h l3 h1
    unfolding words_of line_of fields_of start_rule_of
    output_tried n b f k fine own p r l2 e2 l3 e3 t rest z =
        let less = output_most n b f k fine in
        tried (command.Output n b f k) m l t h l1 e rest _ refl fine own refl l3 t h1
        (unfold own_after in
        renewed_own l1 l2 t h1 (shared_after (party_of l t).birth.mine (command.Output n b f k) (shared_of h)) r
        (output_set (party_of l t).birth.mine h h1 z.sized.shared_length_lem n b f k less p)
        z.sized.tallies_length_lem e2 l3 e3)
        (p ∙ output_shared _ h z.sized.shared_length_lem n b f k less)

    pub input_tried : (n b f k : ℕ) → judge_command_of (command.Input n b f k) ≡ gives [] → owned (get_or l 17 0) (command.Input n b f k) ≡ true →
        h1 ≡ set_buffer h (37 + 4 * n) (buffer b f k) →
        SharedTried (command.Input n b f k) (header_of 4 ∷ n ∷ b ∷ f ∷ k ∷ []) m m l h l1 h1
    unfolding words_of line_of fields_of start_rule_of
    input_tried n b f k fine own p t rest z =
        unmoving_tried (command.Input n b f k) m l t h l1 e rest _ refl fine own refl (unfold Unmoving in tt) z l1 t h1
        (input_own l1 sized t z.sized.tallies_length_lem (shared_of h) n b f k)
        (p ∙ input_shared _ h z.sized.shared_length_lem n b f k (input_most n b f k fine))

    -- a constants' format, whichever it is
    constants_shared : (mine : ℕ) (what : Stored) (at b f : ℕ) → KeptAt what at → length h ≡ shared_length →
        set_buffer h at (buffer b f 1) ≡ shared_cells (shared_after mine (command.Store what b f) (shared_of h))
    constants_shared mine stored.Instructions at b f a z = absurd a
    constants_shared mine stored.Floats at b f a z = ap (λ (k : ℕ). set_buffer h k (buffer b f 1)) a ∙ floats_shared mine h z b f
    constants_shared mine stored.Integers at b f a z = ap (λ (k : ℕ). set_buffer h k (buffer b f 1)) a ∙ integers_shared mine h z b f
    constants_shared mine stored.Booleans at b f a z = ap (λ (k : ℕ). set_buffer h k (buffer b f 1)) a ∙ booleans_shared mine h z b f

    constants_own : (what : Stored) (at b f : ℕ) → KeptAt what at → l1 ≡ stored_cells l1 sized what b f
    constants_own stored.Instructions at b f a = absurd a
    constants_own stored.Floats at b f a = own_floats l1 sized b f
    constants_own stored.Integers at b f a = own_integers l1 sized b f
    constants_own stored.Booleans at b f a = own_booleans l1 sized b f

    constants_unmoving : (what : Stored) (at b f : ℕ) → KeptAt what at → Unmoving (command.Store what b f)
    unfolding Unmoving
    constants_unmoving stored.Instructions at b f a = absurd a
    constants_unmoving stored.Floats at b f a = tt
    constants_unmoving stored.Integers at b f a = tt
    constants_unmoving stored.Booleans at b f a = tt

    constants_owned : (what : Stored) (at b f : ℕ) → KeptAt what at → owns_common (get_or l 17 0) ≡ true → owned (get_or l 17 0) (command.Store what b f) ≡ true
    unfolding owned
    constants_owned stored.Instructions at b f a o = absurd a
    constants_owned stored.Floats at b f a o = o
    constants_owned stored.Integers at b f a o = o
    constants_owned stored.Booleans at b f a o = o

    pub constants_tried : (at b f : ℕ) → ((what : Stored) → judge_command_of (command.Store what b f) ≡ gives []) → owns_common (get_or l 17 0) ≡ true →
        h1 ≡ set_buffer h at (buffer b f 1) → (what : Stored) → KeptAt what at →
        SharedTried (command.Store what b f) (header_of (stored_line what) ∷ b ∷ f ∷ []) m m l h l1 h1
    unfolding words_of line_of fields_of start_rule_of
    constants_tried at b f fine own p what a t rest z =
        unmoving_tried (command.Store what b f) m l t h l1 e rest _ refl (fine what) (constants_owned what at b f a own) refl (constants_unmoving what at b f a) z l1 t h1
        (store_own l1 sized t z.sized.tallies_length_lem (shared_of h) what b f (constants_own what at b f a))
        (p ∙ constants_shared _ what at b f a z.sized.shared_length_lem)

    pub mask_tried : (n : ℕ) → judge_command_of (command.OutputMask n) ≡ gives [] → h1 ≡ set h 0 (mask_by (get_or l 17 0) n (get_or h 0 0)) → (l3 : List ℕ) →
        l3 ≡ party_cells (renewed (shared_of h1) (party_of l1 [])) →
        SharedTried (command.OutputMask n) (header_of 18 ∷ n ∷ []) m m l h l3 h1
    unfolding words_of line_of fields_of start_rule_of
    mask_tried n fine p l3 e3 t rest z =
        tried (command.OutputMask n) m l t h l1 e rest _ refl fine (unfold owned in refl) refl l3 t h1
        (unfold own_after in
        renewed_own l1 l1 t h1 (shared_after (party_of l t).birth.mine (command.OutputMask n) (shared_of h)) (party_of l1 []).readiness
        (mask_set (party_of l t).birth.mine h h1 z.sized.shared_length_lem n (unfold party_of in p)) z.sized.tallies_length_lem (sym (own_canon l1 [] sized)) l3 e3)
        (unfold party_of in (p ∙ mask_shared _ h z.sized.shared_length_lem n))

    pub conditional_mask_tried : (n : ℕ) → judge_command_of (command.ConditionalMask n) ≡ gives [] → owned (get_or l 17 0) (command.ConditionalMask n) ≡ true → h1 ≡ set (set h 1 1) 2 n →
        SharedTried (command.ConditionalMask n) (header_of 19 ∷ n ∷ []) m m l h l1 h1
    unfolding words_of line_of fields_of start_rule_of
    conditional_mask_tried n fine own p t rest z =
        unmoving_tried (command.ConditionalMask n) m l t h l1 e rest _ refl fine own refl (unfold Unmoving in tt) z l1 t h1
        (conditional_mask_own l1 sized t z.sized.tallies_length_lem (shared_of h) n) (p ∙ conditional_mask_shared _ h z.sized.shared_length_lem n)

    pub test_tried : (n : ℕ) → judge_command_of (command.Test n) ≡ gives [] → owned (get_or l 17 0) (command.Test n) ≡ true → h1 ≡ set (set h 3 1) 4 n
        → SharedTried (command.Test n) (header_of 20 ∷ n ∷ []) m m l h l1 h1
    unfolding words_of line_of fields_of start_rule_of
    test_tried n fine own p t rest z =
        unmoving_tried (command.Test n) m l t h l1 e rest _ refl fine own refl (unfold Unmoving in tt) z l1 t h1
        (test_own l1 sized t z.sized.tallies_length_lem (shared_of h) n) (p ∙ test_shared _ h z.sized.shared_length_lem n)

  -- a start, where the settings let it pass
  module _ (t h : List ℕ) (a : OwnAsked l t h) where
    pub start_asked : OwnAsked l1 t h
    unfolding party_of party_cells
    start_asked =
        rw e
        (record {
          sized =
              record {
                own_length_lem = refl;
                tallies_length_lem = a.sized.tallies_length_lem;
                shared_length_lem = a.sized.shared_length_lem;
              };
          domain = a.domain;
          kept = a.kept;
          runs = a.runs;
          claims = a.claims;
        })

    pub start_tried : (n : ℕ) → n ≡ 0 → get_or l 19 0 ≡ 0 → (t1 : List ℕ) → t1 ≡ tally_cells (own_after command.Start (shared_of h) (party_of l1 t)) →
        (rest : List ℕ) → Tried command.Start (header_of 1 ∷ n ∷ rest) m l t h m l1 t1 h
    unfolding words_of line_of fields_of start_rule_of party_of
    start_tried n none fine t1 e1 rest =
        unmoving_tried command.Start m l t h l1 e rest _ (ap {B = List ℕ} (λ (x : ℕ). header_of 1 ∷ x ∷ rest) none) start_fits (unfold owned in refl)
        (number_given _ _ _ _ (sym (stored_number l t h a) ∙ fine)) (unfold Unmoving in tt) a l1 t1 h
        (start_own l1 sized t a.sized.tallies_length_lem (shared_of h) e1)
        (start_shared _ h a.sized.shared_length_lem)

-- a command that sets what the party doesn't own
pub unowned : {c : Command} {ws l t h : List ℕ} {m : ℕ} → owned (get_or l 17 0) c ≡ false → Tried c ws m l t h 0 l t h
unfolding party_of
unowned e = untaken (by_owner e)

-- what the tests of an owner's bit found
module _ (l : List ℕ) {r : Bool} where
  pub owner_at : (n : ℕ) → r ≡ owns_output (get_or l 17 0) n → r ≡ true → owns_output (party_of l []).birth.mine n ≡ true
  unfolding party_of
  owner_at n e y = sym e ∙ y

  pub input_owner : {y : Bool} (n b f k : ℕ) → r ≡ owns_input (get_or l 17 0) n → r ≡ y → owned (get_or l 17 0) (command.Input n b f k) ≡ y
  unfolding owned
  input_owner n b f k e y = sym e ∙ y

  pub output_owner : {y : Bool} (n b f k : ℕ) → r ≡ owns_output (get_or l 17 0) n → r ≡ y → owned (get_or l 17 0) (command.Output n b f k) ≡ y
  unfolding owned
  output_owner n b f k e y = sym e ∙ y

  pub conditional_owner : {y : Bool} (b f k : ℕ) → r ≡ owns_common (get_or l 17 0) → r ≡ y → owned (get_or l 17 0) (command.Conditional b f k) ≡ y
  unfolding owned
  conditional_owner b f k e y = sym e ∙ y

  pub conditional_mask_owner : {y : Bool} (n : ℕ) → r ≡ owns_common (get_or l 17 0) → r ≡ y → owned (get_or l 17 0) (command.ConditionalMask n) ≡ y
  unfolding owned
  conditional_mask_owner n e y = sym e ∙ y

  pub test_owner : {y : Bool} (n : ℕ) → r ≡ owns_common (get_or l 17 0) → r ≡ y → owned (get_or l 17 0) (command.Test n) ≡ y
  unfolding owned
  test_owner n e y = sym e ∙ y

  pub constants_unowned : (what : Stored) (at b f : ℕ) → KeptAt what at → r ≡ owns_common (get_or l 17 0) → r ≡ false →
      owned (get_or l 17 0) (command.Store what b f) ≡ false
  unfolding owned
  constants_unowned stored.Instructions at b f a e n = absurd a
  constants_unowned stored.Floats at b f a e n = sym e ∙ n
  constants_unowned stored.Integers at b f a e n = sym e ∙ n
  constants_unowned stored.Booleans at b f a e n = sym e ∙ n

-- a command that isn't taken
pub denied : {c : Command} {ws l t h : List ℕ} {m : ℕ} {r : Bool} → r ≡ is_given (judge_command_of c) → r ≡ false →
    Tried c ws m l t h 0 l t h
denied e n = untaken (by_fields (sym e ∙ n))

pub fine : (c : Command) {r : Bool} → r ≡ is_given (judge_command_of c) → r ≡ true → judge_command_of c ≡ gives []
fine c e y = given_fine c (sym e ∙ y)

-- a format of height 1
pub stored_judged : (b f : ℕ) {r : Bool} → r ≡ is_given (judge_command_of (command.Conditional b f 1)) → (what : Stored) →
    r ≡ is_given (judge_command_of (command.Store what b f))
stored_judged b f e what = e ∙ store_decided b f what

-- masks and the test by their bounds
module _ {n : ℕ} where
  pub mask_below : n < 65536 → judge_command_of (command.OutputMask n) ≡ gives []
  mask_below h = fine (command.OutputMask n) (mask_decided n) (lt-ltb n 65536 h)

  pub conditional_mask_below : n < 2 → judge_command_of (command.ConditionalMask n) ≡ gives []
  conditional_mask_below h = fine (command.ConditionalMask n) (conditional_mask_decided n) (lt-ltb n 2 h)

  pub test_below : n < 8 → judge_command_of (command.Test n) ≡ gives []
  test_below h = fine (command.Test n) (test_decided n) (lt-ltb n 8 h)

  module _ {ws l t h : List ℕ} {m : ℕ} where
    pub mask_past : 65536 ≤ n → Tried (command.OutputMask n) ws m l t h 0 l t h
    mask_past k = denied (mask_decided n) (le-ltb n 65536 k)

    pub conditional_mask_past : 2 ≤ n → Tried (command.ConditionalMask n) ws m l t h 0 l t h
    conditional_mask_past k = denied (conditional_mask_decided n) (le-ltb n 2 k)

    pub test_past : 8 ≤ n → Tried (command.Test n) ws m l t h 0 l t h
    test_past k = denied (test_decided n) (le-ltb n 8 k)

-- a reserved parameter that isn't 0
other_words : (c : Command) (n : ℕ) (ws : List ℕ) → fields_of c ≡ 0 ∷ [] → (n ≡ 0 → ⊥) → (rest : List ℕ) →
    header_of (line_of c) ∷ n ∷ ws ≡ words_of c ++ rest → ⊥
unfolding words_of
other_words c n ws e ne rest q =
    ne (ap (λ (x : List ℕ). get_or x 1 0) (q ∙ ap {B = List ℕ} (λ (fs : List ℕ). header_of (line_of c) ∷ (fs ++ rest)) e))

module _ {l t h : List ℕ} {m : ℕ} (n : ℕ) (ne : n ≡ 0 → ⊥) where
  pub start_denied : (rest : List ℕ) → Tried command.Start (header_of 1 ∷ n ∷ rest) m l t h 0 l t h
  unfolding line_of fields_of
  start_denied rest = untaken (by_words (other_words command.Start n rest refl ne))

  pub effectless_denied : (what : NoEffect) (rest : List ℕ) →
      Tried (command.Effectless what) (header_of (no_effect_line what) ∷ n ∷ rest) m l t h 0 l t h
  unfolding line_of fields_of
  effectless_denied what rest = untaken (by_words (other_words (command.Effectless what) n rest refl ne))

-- a start that the settings refuse
pub start_unready : (l t h ws : List ℕ) {m : ℕ} → OwnAsked l t h → (get_or l 19 0 ≡ 0 → ⊥) → Tried command.Start ws m l t h 0 l t h
unfolding start_rule_of party_of is_given
start_unready l t h ws a n =
    untaken (by_settings (ap is_given (number_refused _ _ _ _ (λ z. n (stored_number l t h a ∙ z)))))

-- what the commands by their lines ask, from what is asked of both dispatches: room for so many words, and room in the tallies
module _ {l t h : List ℕ} {m : ℕ} (a : RoomFor m l × OwnAsked l t h) where
  pub room_for : (n : ℕ) → n ≤ m → RoomFor n l
  room_for n k = record { own_length_lem = a.0.own_length_lem; room = omega (arith, a.0.room, k) }

  pub room_renew : (n : ℕ) → n ≤ m → RoomFor n l × RenewAsked l h
  room_renew n k = (room_for n k, renew_asked l t h a.1)

  pub room_constants : (n at : ℕ) → n ≤ m → at < 98 → RoomFor n l × (at < 98)
  room_constants n at k j = (room_for n k, j)

  pub room_start : (n : ℕ) → n ≤ m → RoomFor n l × OwnAsked l t h
  room_start n k = (room_for n k, a.1)

pub own_asked : {l t h : List ℕ} → Ready l t h → RoomFor 5 l × OwnAsked l t h
unfolding party_of
own_asked y = (
  record { own_length_lem = y.given.sized.own_length_lem; room = y.room },
  record {
    sized = y.given.sized;
    domain = y.given.valid.domain;
    kept = y.given.valid.readiness;
    runs = omega (arith, y.given.valid.tally, y.given.valid.full);
    claims = omega (arith, y.given.valid.tally, y.given.valid.full);
  },
)

effectless_command : (what : NoEffect) (p0 p1 p2 p3 : ℕ) → command_of (no_effect_line what) p0 p1 p2 p3 ≡ command.Effectless what
unfolding command_of no_effect_line
effectless_command no_effect.Wait p0 p1 p2 p3 = refl
effectless_command no_effect.InvalidateInstructions p0 p1 p2 p3 = refl
effectless_command no_effect.InvalidateFloats p0 p1 p2 p3 = refl
effectless_command no_effect.InvalidateIntegers p0 p1 p2 p3 = refl
effectless_command no_effect.InvalidateBooleans p0 p1 p2 p3 = refl
effectless_command no_effect.InvalidateConditional p0 p1 p2 p3 = refl
effectless_command no_effect.InvalidateInputs p0 p1 p2 p3 = refl
effectless_command no_effect.FlushOutputs p0 p1 p2 p3 = refl
effectless_command no_effect.FlushConditional p0 p1 p2 p3 = refl

-- by the line of the table
module _ (words : Command → ℕ) (p0 p1 p2 p3 : ℕ) (rest l t h : List ℕ) (k : ℕ) (l1 t1 h1 : List ℕ) where
  abbrev Attempt : Command → ℕ → Type 0
  Attempt c line = Tried c (header_of line ∷ p0 ∷ p1 ∷ p2 ∷ p3 ∷ rest) (words c) l t h k l1 t1 h1

  abbrev of : ℕ → Command
  of line = command_of line p0 p1 p2 p3

  pub at_line_lem : (m n : ℕ) → m ≡ n → Attempt (of n) n → Attempt (of m) m
  at_line_lem m n e q = subst (λ (x : ℕ). Attempt (of x) x) (sym e) q

  pub effectless_at_lem : (m : ℕ) (what : NoEffect) → m ≡ no_effect_line what → Attempt (command.Effectless what) (no_effect_line what) → Attempt (of m) m
  effectless_at_lem m what e q =
      at_line_lem m (no_effect_line what) e
      (subst (λ (c : Command). Attempt c (no_effect_line what)) (sym (effectless_command what p0 p1 p2 p3)) q)

-- the commands without effect, at their lines
unfoldable pub effectless_at : ℕ → NoEffect
effectless_at line =
    get_or
    (no_effect.Wait ∷
    no_effect.Wait ∷
    no_effect.Wait ∷
    no_effect.Wait ∷
    no_effect.Wait ∷
    no_effect.Wait ∷
    no_effect.Wait ∷
    no_effect.Wait ∷
    no_effect.Wait ∷
    no_effect.Wait ∷
    no_effect.InvalidateInstructions ∷
    no_effect.InvalidateFloats ∷
    no_effect.InvalidateIntegers ∷
    no_effect.InvalidateBooleans ∷
    no_effect.InvalidateConditional ∷
    no_effect.InvalidateInputs ∷
    no_effect.FlushOutputs ∷
    no_effect.FlushConditional ∷
    [])
    line no_effect.Wait

is_effectless : ℕ → Bool
is_effectless line = eqb line (no_effect_line (effectless_at line))

pub effectless_line : (line : ℕ) → line < 21 → NoneOf Unit (0 ∷ 1 ∷ 3 ∷ 4 ∷ 5 ∷ 6 ∷ 7 ∷ 8 ∷ 9 ∷ 18 ∷ 19 ∷ 20 ∷ []) line →
    line ≡ no_effect_line (effectless_at line)
unfolding is_effectless effectless_at no_effect_line every named_or place_of pick ◌and◌
effectless_line line h r =
    eqb-true line (no_effect_line (effectless_at line))
    (otherwise is_effectless (0 ∷ 1 ∷ 3 ∷ 4 ∷ 5 ∷ 6 ∷ 7 ∷ 8 ∷ 9 ∷ 18 ∷ 19 ∷ 20 ∷ []) 21 refl line h r)

told_apart : {v : List ℕ} {n : ℕ} → gives v ≡ refuses n → ⊥
told_apart h = let z : ◌≡◌ {A = ℕ} 0 1 = cc in omega arith

-- the words of a piece from a place on
five_words : (ws : List ℕ) (i : ℕ) → i + 5 ≤ length ws →
    drop i ws ≡ get_or ws i 0 ∷ get_or ws (i + 1) 0 ∷ get_or ws (i + 2) 0 ∷ get_or ws (i + 3) 0 ∷ get_or ws (i + 4) 0 ∷ drop (i + 5) ws
five_words ws i h =
    next i (i + 1) (omega arith) (omega arith) ∙
    ap {B = List ℕ} (λ (r : List ℕ). get_or ws i 0 ∷ r)
    (next (i + 1) (i + 2) (omega arith) (omega arith) ∙
    ap {B = List ℕ} (λ (r : List ℕ). get_or ws (i + 1) 0 ∷ r)
    (next (i + 2) (i + 3) (omega arith) (omega arith) ∙
    ap {B = List ℕ} (λ (r : List ℕ). get_or ws (i + 2) 0 ∷ r)
    (next (i + 3) (i + 4) (omega arith) (omega arith) ∙
    ap {B = List ℕ} (λ (r : List ℕ). get_or ws (i + 3) 0 ∷ r) (next (i + 4) (i + 5) (omega arith) (omega arith)))))
  where
    next : (k m : ℕ) → m ≡ k + 1 → k < length ws → drop k ws ≡ get_or ws k 0 ∷ drop m ws
    next k m e less =
        drop-cons ws k 0 less ∙ ap {B = List ℕ} (λ (n : ℕ). get_or ws k 0 ∷ drop n ws) (sym (e ∙ add-one k))

module _ (l t h ws : List ℕ) (i : ℕ) (fits : i + 5 ≤ length ws) where
  pub no_header : line_with (get_or ws i 0) ≡ refuses 2 → Begun (drop i ws) l t h 0 l t h
  no_header e =
      unbegun (λ line q. told_apart (sym q ∙ ap line_with (ap (λ (x : List ℕ). get_or x 0 0) (drop-cons ws i 0 (omega (arith, fits)))) ∙ e))

  pub piece_tried : (line : ℕ) → line_with (get_or ws i 0) ≡ gives (line ∷ []) → (k : ℕ) (l1 t1 h1 : List ℕ) (c : Command) →
      ((rest : List ℕ) →
      Tried c (header_of line ∷ get_or ws (i + 1) 0 ∷ get_or ws (i + 2) 0 ∷ get_or ws (i + 3) 0 ∷ get_or ws (i + 4) 0 ∷ rest) (every_word c) l t h k l1 t1 h1) →
      Begun (drop i ws) l t h k l1 t1 h1
  piece_tried line e k l1 t1 h1 c q =
      begun c k l1 t1 h1
      (subst (λ (x : List ℕ). Tried c x (every_word c) l t h k l1 t1 h1)
      (ap {B = List ℕ} (λ (w : ℕ). w ∷ get_or ws (i + 1) 0 ∷ get_or ws (i + 2) 0 ∷ get_or ws (i + 3) 0 ∷ get_or ws (i + 4) 0 ∷ drop (i + 5) ws)
      (accepted_listed (get_or ws i 0) line e).header ∙
      sym (five_words ws i fits))
      (q (drop (i + 5) ws)))
