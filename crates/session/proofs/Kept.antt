-- Validity holds of a new session and is kept by every word. Assumes nothing.
use mathlib.Core.Path.{◌≡◌, refl, sym, ap, ◌∙◌, subst}
use mathlib.Core.Bool.{true, false}
use mathlib.Core.List.{List, [], ◌∷◌}
use Prim.Native.Nat.{ℕ, ◌+◌, ◌<◌, ◌≤◌}
use native.Mathlib.Nat.{mul-le-mul, not-suc-le-zero}
use native.Mathlib.Omega.{arith}
use lib.Dec.{eqb, ltb}
use lib.ListN.{length, get_or, take, length-set, get_or-eq_default}
use lib.Seq.{get_or-take}
use borrow.Author.Tests.{eqb-true, eqb-false, ltb-true, ltb-false, leb-true, leb-false, ne_eqb}
use Rattle.laws.specs.Choice.{pick}
use Rattle.laws.proofs.Choice.{pick_no, by_pick, and_left, and_right, Tested, tested, holds, fails}
use Rattle.laws.proofs.Table.{each, ◌&◌}
use Rattle.refusal.specs.Told.{gives}
use Rattle.command.specs.Table.{header_of, count_of}
use Rattle.command.specs.Kinds.{allowed, kind_of}
use Rattle.command.specs.Commands.{line_of, fields_of, words_of, EachAllowed}
use Rattle.rules.specs.Rules.{domain_kept, last_rule_of}
use Rattle.command.specs.declared.commands.Stored.TheVariants as stored
use Rattle.command.specs.declared.commands.Command.{Command}
use Rattle.command.specs.declared.commands.Command.TheVariants as command
use Rattle.command.specs.declared.kinds.Kind.TheVariants.{Coordinate}
use Rattle.command.proofs.Headers.{count_least, count_most}
use Rattle.command.proofs.WriteBack.{made}
use Rattle.owners.specs.Owners.{everything, may_name, owned}
use Rattle.owners.proofs.Commands.{named_owned}
use Rattle.state.specs.Seen.{seen_outputs}
use Rattle.state.specs.State.{Buffer, Open, Domain, Birth, Party, Shared, Session, none, new_shared, new_party_of, new_session}
use Rattle.start.proofs.Editions.{credit_bounded}
use Rattle.start.proofs.New.{new_kept}
use Rattle.state.specs.Start.{is_edition, pairs_of, claim_of, most_claim, most_credit, most_pairs}
use Rattle.state.specs.Effects.{limit, opening, took, with_parameter, buffer, own_after, shared_after, after}
use Rattle.session.specs.Step.{Stepped, step_of}
use Rattle.state.specs.Valid.{parameters_of, OpenValid, OpenOwned, DomainValid, TallyValid, Valid}
use Rattle.state.proofs.Lawful.{unset_domain, unset_row, all_same, new_lawful}
use Rattle.session.proofs.Lawful.{ordered, fitting, Lawful, lawful_after}
use Rattle.session.proofs.Ways.{whole, begun, going_on, Running, Placed, Way, was_stopped, stops, opens, fills, ends, way}

pub new_party_valid : (mine edition : ℕ) → mine ≤ everything → is_edition edition ≡ true →
    Valid (record { party = new_party_of mine edition; shared = new_shared })
new_party_valid mine edition most known =
    record {
      flag = omega arith;
      full = omega arith;
      line_most = omega arith;
      closed = λ e. refl;
      dropped = λ e. refl;
      opened = λ (k : 21 < 21). absurd (no_line k);
      counted = λ (k : 21 < 21). absurd (no_line k);
      domain = omega arith;
      domain_set_lem = unset_domain;
      instructions = unset_row;
      tally = omega arith;
      mine_most = most;
      owned = λ (k : 21 < 21). absurd (no_line k);
      edition = known;
      readiness = new_kept mine edition;
      settings = new_lawful;
      outputs = refl;
      inputs = refl;
    }
  where
    no_line : 21 < 21 → ⊥
    no_line k = omega arith

pub new_valid : (edition : ℕ) → is_edition edition ≡ true → Valid (new_session edition)
new_valid edition known = new_party_valid everything edition (omega arith) known

-- the parameters after one more
parameter_at : (o : Open) (w k : ℕ) → o.count < 4 → k < 4 →
    get_or (parameters_of (with_parameter o w)) k 0 ≡ pick (eqb o.count k) w (get_or (parameters_of o) k 0)
parameter_at o w k h = each (λ k. get_or (parameters_of (with_parameter o w)) k 0 ≡ pick (eqb o.count k) w (get_or (parameters_of o) k 0)) 4
    (tt & refl & refl & refl & refl) k

-- an open command that takes an allowed parameter: every parameter so far is allowed
pub allowed_more : (o : Open) (w : ℕ) → o.count < 4 → OpenValid o → allowed (kind_of o.line o.count) w ≡ true →
    (k : ℕ) → k < o.count + 1 → allowed (kind_of o.line k) (get_or (parameters_of (with_parameter o w)) k 0) ≡ true
allowed_more o w h v a k hk =
    rw (parameter_at o w k h (omega arith))
    (by_pick (λ (p : ℕ). allowed (kind_of o.line k) p ≡ true) (eqb o.count k) w (get_or (parameters_of o) k 0)
    (λ e. subst (λ (m : ℕ). allowed (kind_of o.line m) w ≡ true) (eqb-true _ _ e) a)
    (λ e. v.passed k (let ne : o.count ≡ k → ⊥ = eqb-false _ _ e in omega arith)))

-- and those that haven't come are 0
rest_more : (o : Open) (w : ℕ) → o.count < 4 → OpenValid o → (k : ℕ) → o.count + 1 ≤ k → get_or (parameters_of (with_parameter o w)) k 0 ≡ 0
rest_more o w h v k le = go (tested (ltb k 4))
  where
    go : Tested (ltb k 4) → get_or (parameters_of (with_parameter o w)) k 0 ≡ 0
    go (holds e) =
        parameter_at o w k h (ltb-true _ _ e) ∙ pick_no w _ (ne_eqb o.count k (λ q. omega arith)) ∙ v.rest k (omega arith)
    go (fails e) = get_or-eq_default (parameters_of (with_parameter o w)) 0 {n = k} (omega (arith, ltb-false k 4 e))

-- the number of an open command that takes a parameter which names one's own
pub named_first : (mine : ℕ) (o : Open) (w : ℕ) → (0 < o.count → may_name mine (kind_of o.line 0) o.p0 ≡ true) →
    may_name mine (kind_of o.line o.count) w ≡ true → may_name mine (kind_of o.line 0) (with_parameter o w).p0 ≡ true
named_first mine o w before now =
    by_pick (λ (p : ℕ). may_name mine (kind_of o.line 0) p ≡ true) (eqb o.count 0) w o.p0
    (λ e. subst (λ (n : ℕ). may_name mine (kind_of o.line n) w ≡ true) (eqb-true _ _ e) now)
    (λ e. before (let ne : o.count ≡ 0 → ⊥ = eqb-false _ _ e in omega arith))

-- so a whole command is one that sets nothing but what is owned
pub open_owned : (mine : ℕ) (o : Open) → o.line < 21 → OpenOwned mine o → 0 < o.count → owned mine (whole o) ≡ true
open_owned mine o h w k = named_owned mine o.p0 o.p1 o.p2 o.p3 o.line h w.line (w.number k)

-- the fields of a whole command are allowed, each by its kind
fields_allowed : (o : Open) → o.line < 21 → o.count ≡ count_of o.line →
    ((k : ℕ) → k < o.count → allowed (kind_of o.line k) (get_or (parameters_of o) k 0) ≡ true) →
    EachAllowed o.line (parameters_of o)
fields_allowed o h e a k hk = a k (rw e hk)

coordinate : (w : ℕ) → allowed Coordinate w ≡ true → w < 4096
unfolding allowed
coordinate w e = ltb-true w 4096 e

set_domain_lem : (i0 j0 i1 j1 : ℕ) → EachAllowed 0 (i0 ∷ j0 ∷ i1 ∷ j1 ∷ []) → domain_kept (command.Domain i0 j0 i1 j1) ≡ true →
    DomainValid (record { is_set = 1; i0 = i0; j0 = j0; i1 = i1; j1 = j1 })
unfolding count_of kind_of domain_kept
set_domain_lem i0 j0 i1 j1 a k =
    record {
      columns = leb-true _ _ (and_left _ _ k);
      column_most = coordinate i1 (a 2 (omega arith));
      rows = leb-true _ _ (and_right _ _ k);
      row_most = coordinate j1 (a 3 (omega arith));
    }

-- no start claims more than 4,096 · 4,096 pairs of four outputs with four channels
pub claim_most : (edition : ℕ) (d : Domain) (mask : ℕ) (outputs : List Buffer) → DomainValid d → claim_of edition d mask outputs ≤ most_claim
unfolding claim_of pairs_of
claim_most edition d mask outputs v =
    mul-le-mul {n₂ = most_pairs} {m₂ = most_credit} (mul-le-mul {n₂ = 4096} {m₂ = 4096} (omega (arith, v)) (omega (arith, v)))
    (credit_bounded edition mask outputs)

-- what a whole command leaves of a session: the open command, the count and the flag stand; what it sets is valid
pub record Effects (mine : ℕ) (c : Command) (h : Shared) (p : Party) (n : ℕ) : Type 0 where
  pub same_flag : (own_after c h p).stopped ≡ p.stopped
  pub same_count : (own_after c h p).taken ≡ p.taken
  pub same_open : (own_after c h p).opened ≡ p.opened
  pub domain : DomainValid (own_after c h p).domain
  pub tally : TallyValid (own_after c h p).tally (n + 1)
  pub same_birth : (own_after c h p).birth ≡ p.birth
  pub outputs : length (shared_after mine c h).outputs ≡ length h.outputs
  pub inputs : length (shared_after mine c h).inputs ≡ length h.inputs

module _ (mine : ℕ) (h : Shared) (p : Party) (n : ℕ) (d : DomainValid p.domain) (t : TallyValid p.tally n) where
  still : TallyValid p.tally (n + 1)
  still = omega (arith, t)

  -- a command that changes neither domain nor tallies
  plain : (c : Command) → (own_after c h p).stopped ≡ p.stopped → (own_after c h p).taken ≡ p.taken →
      (own_after c h p).opened ≡ p.opened → (own_after c h p).domain ≡ p.domain → (own_after c h p).tally ≡ p.tally →
      (own_after c h p).birth ≡ p.birth →
      length (shared_after mine c h).outputs ≡ length h.outputs → length (shared_after mine c h).inputs ≡ length h.inputs →
      Effects mine c h p n
  plain c a b e f g i k l =
      record {
        same_flag = a;
        same_count = b;
        same_open = e;
        domain = rw f d;
        tally = rw g still;
        same_birth = i;
        outputs = k;
        inputs = l;
      }

  pub effects : (c : Command) → EachAllowed (line_of c) (fields_of c) → (u : List ℕ) → last_rule_of c ≡ gives u → Effects mine c h p n
  unfolding own_after shared_after line_of fields_of
  effects (command.Domain i0 j0 i1 j1) a u r =
      record {
        same_flag = refl;
        same_count = refl;
        same_open = refl;
        domain = set_domain_lem i0 j0 i1 j1 a (ordered _ u r);
        tally = still;
        same_birth = refl;
        outputs = refl;
        inputs = refl;
      }
  effects command.Start a u r =
      record {
        same_flag = refl;
        same_count = refl;
        same_open = refl;
        domain = d;
        tally = omega (arith, t, claim_most p.birth.edition p.domain h.mask (seen_outputs p.birth.mine h.outputs) d);
        same_birth = refl;
        outputs = refl;
        inputs = refl;
      }
  effects (command.Effectless what) a u r = plain (command.Effectless what) refl refl refl refl refl refl refl refl
  effects (command.Store stored.Instructions base format) a u r =
      plain (command.Store stored.Instructions base format) refl refl refl refl refl refl refl refl
  effects (command.Store stored.Floats base format) a u r =
      plain (command.Store stored.Floats base format) refl refl refl refl refl refl refl refl
  effects (command.Store stored.Integers base format) a u r =
      plain (command.Store stored.Integers base format) refl refl refl refl refl refl refl refl
  effects (command.Store stored.Booleans base format) a u r =
      plain (command.Store stored.Booleans base format) refl refl refl refl refl refl refl refl
  effects (command.Input number base format height) a u r =
      plain (command.Input number base format height) refl refl refl refl refl refl refl
      (length-set h.inputs number (buffer base format height))
  effects (command.Output number base format height) a u r =
      plain (command.Output number base format height) refl refl refl refl refl refl
      (length-set h.outputs number (buffer base format height)) refl
  effects (command.Conditional base format height) a u r =
      plain (command.Conditional base format height) refl refl refl refl refl refl refl refl
  effects (command.OutputMask mask) a u r = plain (command.OutputMask mask) refl refl refl refl refl refl refl refl
  effects (command.ConditionalMask mask) a u r = plain (command.ConditionalMask mask) refl refl refl refl refl refl refl refl
  effects (command.Test test) a u r = plain (command.Test test) refl refl refl refl refl refl refl refl

-- the fields of the command that an open command with all its parameters is
module _ (o : Open) (line : o.line < 21) (a : EachAllowed o.line (parameters_of o)) where
  pub whole_line : line_of (whole o) ≡ o.line
  whole_line = (made o.p0 o.p1 o.p2 o.p3 o.line line).line_back

  pub whole_words : words_of (whole o) ≡ header_of o.line ∷ take (count_of o.line) (parameters_of o)
  whole_words = (made o.p0 o.p1 o.p2 o.p3 o.line line).words_back a

  whole_fields : fields_of (whole o) ≡ take (count_of o.line) (parameters_of o)
  unfolding words_of
  whole_fields = tails whole_words
    where
      tails : {x y : ℕ} {xs ys : List ℕ} → (x ∷ xs) ≡ (y ∷ ys) → xs ≡ ys
      tails e = cc

  pub whole_allowed : EachAllowed (line_of (whole o)) (fields_of (whole o))
  whole_allowed k h =
      let less : k < count_of o.line = rw whole_line at h in
      rw (whole_fields, whole_line, get_or-take (count_of o.line) (parameters_of o) k 0 less) (a k less)

-- a session that goes on with an open command is valid where the open command is
goes_on : (s : Session) (o : Open) → Valid s → Running s → o.line < 21 → OpenValid o → o.count ≤ s.party.taken →
    OpenOwned s.party.birth.mine o → Valid (going_on o s)
goes_on s o v r h b n w =
    record {
      flag = v.flag;
      full = omega (arith, leb-false limit s.party.taken r.unfilled);
      line_most = omega arith;
      closed = λ e. absurd (not_none e);
      dropped = λ e. absurd (eqb-false _ _ r.unstopped e);
      opened = λ k. b;
      counted = λ k. omega arith;
      domain = v.domain;
      domain_set_lem = v.domain_set_lem;
      instructions = v.instructions;
      tally = omega (arith, v.tally);
      mine_most = v.mine_most;
      owned = λ k. w;
      edition = v.edition;
      readiness = v.readiness;
      settings = v.settings;
      outputs = v.outputs;
      inputs = v.inputs;
    }
  where
    not_none : o.line ≡ 21 → ⊥
    not_none e = omega arith

no_line : 21 < 21 → ⊥
no_line k = omega arith

module _ (s : Session) (w : ℕ) (v : Valid s) where
  -- the open command before and after an allowed parameter
  module _ (p : Placed s w) where
    abbrev before : Open
    before = s.party.opened

    pub line_lt : before.line < 21
    line_lt = let ne : before.line ≡ 21 → ⊥ = eqb-false _ _ p.is_open in omega (arith, v.line_most)

    pub count_lt : before.count < 4
    count_lt = omega (arith, (v.opened line_lt).fewer, count_most before.line line_lt)

    pub more_allowed : (k : ℕ) → k < before.count + 1 →
        allowed (kind_of before.line k) (get_or (parameters_of (with_parameter before w)) k 0) ≡ true
    more_allowed = allowed_more before w count_lt (v.opened line_lt) p.kind_allows

    -- the parameters are complete where no more are asked
    pub all_allowed : ltb (before.count + 1) (count_of before.line) ≡ false →
        EachAllowed before.line (parameters_of (with_parameter before w))
    all_allowed l k h = more_allowed k (omega (arith, ltb-false (before.count + 1) (count_of before.line) l))

    -- and it sets nothing but what the party owns
    more_owned : OpenOwned s.party.birth.mine (with_parameter before w)
    more_owned =
        record {
          line = (v.owned line_lt).line;
          number = λ h. named_first s.party.birth.mine before w (v.owned line_lt).number p.named;
        }

    pub whole_owned : owned s.party.birth.mine (whole (with_parameter before w)) ≡ true
    whole_owned = open_owned s.party.birth.mine (with_parameter before w) line_lt more_owned (omega arith)

    pub each_allowed : ltb (before.count + 1) (count_of before.line) ≡ false → (c : Command) → c ≡ whole (with_parameter before w) →
        EachAllowed (line_of c) (fields_of c)
    each_allowed l c e =
        subst (λ (d : Command). EachAllowed (line_of d) (fields_of d)) (sym e)
        (whole_allowed (with_parameter before w) line_lt (all_allowed l))

    pub effects_of : ltb (before.count + 1) (count_of before.line) ≡ false → (c : Command) →
        c ≡ whole (with_parameter before w) → (u : List ℕ) → last_rule_of c ≡ gives u →
        Effects s.party.birth.mine c s.shared (opening none (took s.party)) s.party.taken
    effects_of l c e u r =
        effects s.party.birth.mine s.shared (opening none (took s.party)) s.party.taken v.domain v.tally c (each_allowed l c e) u r

    lawful_of : ltb (before.count + 1) (count_of before.line) ≡ false → (c : Command) →
        c ≡ whole (with_parameter before w) → (u : List ℕ) → last_rule_of c ≡ gives u →
        Lawful (own_after c s.shared (opening none (took s.party))) (shared_after s.party.birth.mine c s.shared)
    lawful_of l c e u r =
        lawful_after s.party.birth.mine (opening none (took s.party)) s.shared
        (record { domain = v.domain_set_lem; instructions = v.instructions; settings = v.settings }) c (each_allowed l c e) (fitting c u r)

  pub kept_way : (t : Stepped) → Way s w t → Valid t.session
  unfolding after
  kept_way t (was_stopped e) = v
  kept_way t (stops n e) =
      record {
        flag = omega arith;
        full = v.full;
        line_most = omega arith;
        closed = λ k. refl;
        dropped = λ k. refl;
        opened = λ k. absurd (no_line k);
        counted = λ k. absurd (no_line k);
        domain = v.domain;
        domain_set_lem = v.domain_set_lem;
        instructions = v.instructions;
        tally = v.tally;
        mine_most = v.mine_most;
        owned = λ k. absurd (no_line k);
        edition = v.edition;
        readiness = v.readiness;
        settings = v.settings;
        outputs = v.outputs;
        inputs = v.inputs;
      }
  kept_way t (opens r i k m) =
      goes_on s (begun w) v r (ltb-true _ _ k)
      (record { fewer = count_least _ (ltb-true _ _ k); passed = λ j h. absurd (not-suc-le-zero h); rest = λ j h. all_same 0 4 j })
      (omega arith) (record { line = m; number = λ h. absurd (not-suc-le-zero h) })
  kept_way t (fills p m) =
      goes_on s (with_parameter s.party.opened w) v p.running (line_lt p)
      (record { fewer = ltb-true _ _ m; passed = more_allowed p; rest = rest_more s.party.opened w (count_lt p) (v.opened (line_lt p)) })
      (v.counted (line_lt p)) (more_owned p)
  kept_way t (ends p l c e u u' r q) =
      done (effects_of p l c e u r) (lawful_of p l c e u r)
    where
      done :
          Effects s.party.birth.mine c s.shared (opening none (took s.party)) s.party.taken →
          Lawful (own_after c s.shared (opening none (took s.party))) (shared_after s.party.birth.mine c s.shared) →
          Valid (after c s)
      done f g =
          record {
            flag = rw f.same_flag v.flag;
            full = rw f.same_count (omega (arith, leb-false limit s.party.taken p.running.unfilled));
            line_most = rw f.same_open (omega arith);
            closed = λ k. f.same_open;
            dropped = λ k. f.same_open;
            opened = rw f.same_open (λ k. absurd (no_line k));
            counted = rw f.same_open (λ k. absurd (no_line k));
            domain = f.domain;
            domain_set_lem = g.domain;
            instructions = g.instructions;
            tally = rw f.same_count f.tally;
            mine_most = rw f.same_birth v.mine_most;
            owned = rw f.same_open (λ k. absurd (no_line k));
            edition = ap (λ (b : Birth). is_edition b.edition) f.same_birth ∙ v.edition;
            readiness = refl;
            settings = g.settings;
            outputs = f.outputs ∙ v.outputs;
            inputs = f.inputs ∙ v.inputs;
          }

pub kept : (s : Session) (w : ℕ) → Valid s → Valid (step_of s w).session
kept s w v = kept_way s w v (step_of s w) (way s w)
