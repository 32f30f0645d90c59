-- The test of a session that comes back is the validity that the entries ask, both ways. Assumes nothing.
use mathlib.Core.Path.{◌≡◌, refl, sym, ap, ◌∙◌, subst}
use mathlib.Core.Bool.{Bool, true, false}
use mathlib.Core.List.{List, []}
use Prim.Native.Nat.{ℕ, zero, suc, ◌+◌, ◌<◌, ◌≤◌}
use native.Mathlib.Omega.{arith}
use lib.Dec.{eqb, ltb}
use lib.ListN.{length, get_or, get_or-eq_default}
use borrow.Author.Tests.{ltb-true, leb-true, eqb-true, eqb-false, lt-ltb, le-ltb, le-leb, eq-eqb, ne_eqb, ltb-false}
use Rattle.laws.specs.Choice.{◌and◌, pick}
use Rattle.laws.specs.Below.{every}
use Rattle.laws.proofs.Below.{every_at, every_of}
use Rattle.laws.proofs.Choice.{pick_yes, pick_no, and_intro, and_left, and_right, and_yes, and_no_left, Tested, tested, holds, fails}
use Rattle.laws.proofs.Table.{each, ◌&◌}
use Rattle.command.specs.Table.{count_of}
use Rattle.command.specs.Kinds.{allowed, kind_of}
use Rattle.command.specs.declared.kinds.Kind.{Kind}
use Rattle.command.specs.declared.kinds.Kind.TheVariants.{Format, InputFormat}
use Rattle.owners.specs.Owners.{may_open, may_name}
use Rattle.state.specs.State.{Buffer, Open, Domain, Readiness, Party, Shared, Session, none, unset}
use Rattle.state.specs.Readiness.{readiness_for}
use Rattle.state.specs.Lawful.{lawful, lawful_buffer, SharedLawful}
use Rattle.state.specs.Valid.{OpenValid, OpenOwned, DomainValid, Valid, parameters_of}
use Rattle.state.specs.Cells.{party_of, shared_of, session_of, readiness_cells, Sized}
use Rattle.state.specs.Asked.{Given}
use Rattle.judges.proofs.Joined.{joined}
use Rattle.judges.specs.Judged.{
  Judges,
  WorkAsked,
  passed_at,
  open_by,
  closed_by,
  owned_by,
  running_by,
  command_by,
  domain_by,
  tally_by,
  birth_by,
  party_by,
  masks_by,
  common_by,
  settings_by,
  same_readiness,
  session_by,
}

-- a parameter that was taken is allowed, one that hasn't come is 0; and the other way round
module _ (line count k w : ℕ) where
  passed_yes : passed_at line count k w ≡ true → k < count → allowed (kind_of line k) w ≡ true
  unfolding passed_at
  passed_yes e h = sym (pick_yes _ (eqb w 0) (lt-ltb k count h)) ∙ e

  passed_rest : passed_at line count k w ≡ true → count ≤ k → w ≡ 0
  unfolding passed_at
  passed_rest e h = eqb-true w 0 (sym (pick_no (allowed (kind_of line k) w) _ (le-ltb k count h)) ∙ e)

  yes_passed : (k < count → allowed (kind_of line k) w ≡ true) → (count ≤ k → w ≡ 0) → passed_at line count k w ≡ true
  unfolding passed_at
  yes_passed f g = go (tested (ltb k count))
    where
      go : Tested (ltb k count) → pick (ltb k count) (allowed (kind_of line k) w) (eqb w 0) ≡ true
      go (holds e) = pick_yes _ (eqb w 0) e ∙ f (ltb-true k count e)
      go (fails e) = pick_no (allowed (kind_of line k) w) _ e ∙ eq-eqb w 0 (g (ltb-false k count e))

-- no line has more than four parameters
few : (line : ℕ) → line < 21 → count_of line ≤ 4
unfolding count_of
few =
    each (λ (k : ℕ). count_of k ≤ 4) 21
    (tt & omega arith & omega arith & omega arith & omega arith & omega arith & omega arith & omega arith & omega arith & omega arith &
    omega arith & omega arith & omega arith & omega arith & omega arith & omega arith & omega arith & omega arith & omega arith &
    omega arith & omega arith & omega arith)

module _ (o : Open) where
  abbrev Passes : ℕ → Type 0
  Passes k = k < o.count → allowed (kind_of o.line k) (get_or (parameters_of o) k 0) ≡ true

  module _ (e : open_by o ≡ true) where
    first : passed_at o.line o.count 0 o.p0 ≡ true
    unfolding open_by
    first = and_left _ _ (and_right _ _ e)

    second : passed_at o.line o.count 1 o.p1 ≡ true
    unfolding open_by
    second = and_left _ _ (and_right _ _ (and_right _ _ e))

    third : passed_at o.line o.count 2 o.p2 ≡ true
    unfolding open_by
    third = and_left _ _ (and_right _ _ (and_right _ _ (and_right _ _ e)))

    fourth : o.p3 ≡ 0
    unfolding open_by
    fourth = eqb-true o.p3 0 (and_right _ _ (and_right _ _ (and_right _ _ (and_right _ _ e))))

    fewer : o.count < count_of o.line
    unfolding open_by
    fewer = ltb-true _ _ (and_left _ _ e)

    pub first_allowed : 0 < o.count → allowed (kind_of o.line 0) o.p0 ≡ true
    first_allowed = passed_yes o.line o.count 0 o.p0 first

    rest : (k : ℕ) → o.count ≤ k → get_or (parameters_of o) k 0 ≡ 0
    rest zero h = passed_rest o.line o.count 0 o.p0 first h
    rest (suc zero) h = passed_rest o.line o.count 1 o.p1 second h
    rest (suc (suc zero)) h = passed_rest o.line o.count 2 o.p2 third h
    rest (suc (suc (suc zero))) h = fourth
    rest (suc (suc (suc (suc k)))) h = refl

    open_valid : o.line < 21 → OpenValid o
    open_valid h =
        let most : count_of o.line ≤ 4 = few o.line h in
        let less : o.count < count_of o.line = fewer in
        record {
          fewer = less;
          passed =
              λ k l.
              each Passes 3
              (tt & first_allowed & passed_yes o.line o.count 1 o.p1 second & passed_yes o.line o.count 2 o.p2 third) k
              (omega arith) l;
          rest = rest;
        }

  valid_open : o.line < 21 → OpenValid o → open_by o ≡ true
  unfolding open_by
  valid_open h v =
      let most : count_of o.line ≤ 4 = few o.line h in
      let less : o.count < count_of o.line = v.fewer in
      and_intro (lt-ltb _ _ less)
      (and_intro (yes_passed o.line o.count 0 o.p0 (v.passed 0) (v.rest 0))
      (and_intro (yes_passed o.line o.count 1 o.p1 (v.passed 1) (v.rest 1))
      (and_intro (yes_passed o.line o.count 2 o.p2 (v.passed 2) (v.rest 2)) (eq-eqb o.p3 0 (v.rest 3 (omega arith))))))

  -- no command is open
  closed_none : o.line ≡ 21 → closed_by o ≡ true → o ≡ none
  unfolding closed_by
  closed_none h e =
      λ i.
      record {
        line = h i;
        count = eqb-true o.count 0 (and_left _ _ e) i;
        p0 = eqb-true o.p0 0 (and_left _ _ (and_right _ _ e)) i;
        p1 = eqb-true o.p1 0 (and_left _ _ (and_right _ _ (and_right _ _ e))) i;
        p2 = eqb-true o.p2 0 (and_left _ _ (and_right _ _ (and_right _ _ (and_right _ _ e)))) i;
        p3 = eqb-true o.p3 0 (and_right _ _ (and_right _ _ (and_right _ _ (and_right _ _ e)))) i;
      }

none_closed : (o : Open) → o ≡ none → closed_by o ≡ true
unfolding closed_by ◌and◌
none_closed o e = subst (λ (x : Open). closed_by x ≡ true) (sym e) refl

-- what an open command sets is the party's
module _ (mine : ℕ) (o : Open) where
  abbrev Named : Bool
  Named = may_open mine o.line and may_name mine (kind_of o.line 0) o.p0

  owned_yes : owned_by mine o.line o.count o.p0 ≡ true → OpenOwned mine o
  unfolding owned_by
  owned_yes e = go (tested (ltb 0 o.count))
    where
      go : Tested (ltb 0 o.count) → OpenOwned mine o
      go (holds q) =
          let named : Named ≡ true = sym (pick_yes Named _ q) ∙ e in record { line = and_left _ _ named; number = λ h. and_right _ _ named }
      go (fails q) =
          let least : o.count ≤ 0 = ltb-false 0 o.count q in
          record { line = sym (pick_no Named _ q) ∙ e; number = λ h. absurd (omega arith) }

  yes_owned : OpenOwned mine o → owned_by mine o.line o.count o.p0 ≡ true
  unfolding owned_by
  yes_owned v = go (tested (ltb 0 o.count))
    where
      go : Tested (ltb 0 o.count) → pick (ltb 0 o.count) Named (may_open mine o.line) ≡ true
      go (holds q) = pick_yes Named _ q ∙ and_intro v.line (v.number (ltb-true 0 o.count q))
      go (fails q) = pick_no Named _ q ∙ v.line

-- what the test of the open command says
record CommandKept (stopped taken mine : ℕ) (o : Open) : Type 0 where
  line_most : o.line ≤ 21
  closed : o.line ≡ 21 → o ≡ none
  dropped : stopped ≡ 1 → o ≡ none
  opened : o.line < 21 → OpenValid o
  counted : o.line < 21 → o.count + 1 ≤ taken
  owned : o.line < 21 → OpenOwned mine o

module _ (stopped taken mine : ℕ) (o : Open) where
  abbrev Runs : Bool
  Runs = ltb o.line 21 and running_by stopped taken mine o

  running : (o.line ≡ 21 → ⊥) → Runs ≡ true → CommandKept stopped taken mine o
  unfolding running_by
  running ne e =
      let low : o.line < 21 = ltb-true _ _ (and_left _ _ e) in
      let zeroed : stopped ≡ 0 = eqb-true stopped 0 (and_left _ _ (and_right _ _ (and_right _ _ e))) in
      let less : o.count < taken = ltb-true _ _ (and_left _ _ (and_right _ _ (and_right _ _ (and_right _ _ e)))) in
      record {
        line_most = omega arith;
        closed = λ h. absurd (ne h);
        dropped = λ h. absurd (omega arith);
        opened = open_valid o (and_left _ _ (and_right _ _ e));
        counted = λ h. omega arith;
        owned = λ h. owned_yes mine o (and_right _ _ (and_right _ _ (and_right _ _ (and_right _ _ e))));
      }

  command_kept : command_by stopped taken mine o ≡ true → CommandKept stopped taken mine o
  unfolding command_by
  command_kept e = go (tested (eqb o.line 21))
    where
      go : Tested (eqb o.line 21) → CommandKept stopped taken mine o
      go (holds q) =
          let last : o.line ≡ 21 = eqb-true _ _ q in
          let shut : o ≡ none = closed_none o last (sym (pick_yes _ Runs q) ∙ e) in
          record {
            line_most = omega arith;
            closed = λ h. shut;
            dropped = λ h. shut;
            opened = λ h. absurd (omega arith);
            counted = λ h. absurd (omega arith);
            owned = λ h. absurd (omega arith);
          }
      go (fails q) = running (eqb-false _ _ q) (sym (pick_no (closed_by o) _ q) ∙ e)

  kept_command : stopped ≤ 1 → CommandKept stopped taken mine o → command_by stopped taken mine o ≡ true
  unfolding command_by running_by
  kept_command f v = go (tested (eqb o.line 21))
    where
      go : Tested (eqb o.line 21) → pick (eqb o.line 21) (closed_by o) Runs ≡ true
      go (holds q) = pick_yes _ Runs q ∙ none_closed o (v.closed (eqb-true _ _ q))
      go (fails q) =
          let ne : o.line ≡ 21 → ⊥ = eqb-false _ _ q in
          let most : o.line ≤ 21 = v.line_most in
          let low : o.line < 21 = omega arith in
          let goes : stopped ≡ 1 → ⊥ = λ s. ne (ap (λ (x : Open). x.line) (v.dropped s)) in
          let counts : o.count + 1 ≤ taken = v.counted low in
          let less : o.count < taken = omega arith in
          let zeroed : stopped ≡ 0 = omega arith in
          pick_no (closed_by o) _ q ∙
          and_intro (lt-ltb _ _ low)
          (and_intro (valid_open o low (v.opened low))
          (and_intro (eq-eqb stopped 0 zeroed) (and_intro (lt-ltb o.count taken less) (yes_owned mine o (v.owned low)))))

-- each return of the test of the open command
module _ (stopped taken mine : ℕ) (o : Open) where
  pub none_open : {r : Bool} → o.line ≡ 21 → r ≡ closed_by o → r ≡ command_by stopped taken mine o
  unfolding command_by
  none_open h e = e ∙ sym (pick_yes _ _ (eq-eqb _ _ h))

  pub no_line : 21 < o.line → false ≡ command_by stopped taken mine o
  unfolding command_by
  no_line h =
      let ne : o.line ≡ 21 → ⊥ = λ e. omega arith in
      let most : 21 ≤ o.line = omega arith in
      sym (pick_no _ _ (ne_eqb _ _ ne) ∙ and_no_left _ (le-ltb o.line 21 most))

  pub some_open : {r : Bool} → (o.line ≡ 21 → ⊥) → o.line ≤ 21 → r ≡ running_by stopped taken mine o → r ≡ command_by stopped taken mine o
  unfolding command_by
  some_open ne h e =
      let low : o.line < 21 = omega arith in e ∙ sym (pick_no _ _ (ne_eqb _ _ ne) ∙ and_yes _ (lt-ltb o.line 21 low))

domain_valid : (d : Domain) → domain_by d ≡ true → DomainValid d
unfolding domain_by
domain_valid d e =
    record {
      columns = leb-true _ _ (and_left _ _ (and_left _ _ e));
      column_most = ltb-true _ _ (and_left _ _ (and_right _ _ (and_left _ _ e)));
      rows = leb-true _ _ (and_left _ _ (and_right _ _ (and_right _ _ (and_left _ _ e))));
      row_most = ltb-true _ _ (and_right _ _ (and_right _ _ (and_right _ _ (and_left _ _ e))));
    }

-- the settings: what holds of the buffers that there are holds of every number, since the others are as if they weren't set
unset_lawful : (k : Kind) → lawful_buffer k unset ≡ true
unfolding lawful_buffer lawful pick ◌and◌
unset_lawful k = refl

each_lawful : (k : Kind) (n : ℕ) (bs : List Buffer) → length bs ≡ n → every n (λ i. lawful_buffer k (get_or bs i unset)) ≡ true →
    (i : ℕ) → lawful_buffer k (get_or bs i unset) ≡ true
each_lawful k n bs l e i = go (tested (ltb i n))
  where
    go : Tested (ltb i n) → lawful_buffer k (get_or bs i unset) ≡ true
    go (holds q) = every_at n (λ j. lawful_buffer k (get_or bs j unset)) e i (ltb-true i n q)
    go (fails q) =
        let most : n ≤ i = ltb-false i n q in
        ap (lawful_buffer k) (get_or-eq_default bs unset (omega arith)) ∙ unset_lawful k

module _ (h : Shared) where
  settings_lawful : length h.outputs ≡ 4 → length h.inputs ≡ 16 → settings_by h ≡ true → SharedLawful h
  unfolding settings_by masks_by common_by
  settings_lawful o i e =
      let least : h.mask < 65536 = ltb-true _ _ (and_left _ _ (and_left _ _ e)) in
      record {
        mask = omega arith;
        conditional_mask = and_left _ _ (and_right _ _ (and_left _ _ e));
        test = and_right _ _ (and_right _ _ (and_left _ _ e));
        floats = and_left _ _ (and_left _ _ (and_right _ _ e));
        integers = and_left _ _ (and_right _ _ (and_left _ _ (and_right _ _ e)));
        booleans = and_left _ _ (and_right _ _ (and_right _ _ (and_left _ _ (and_right _ _ e))));
        conditional = and_right _ _ (and_right _ _ (and_right _ _ (and_left _ _ (and_right _ _ e))));
        outputs = each_lawful Format 4 h.outputs o (and_left _ _ (and_right _ _ (and_right _ _ e)));
        inputs = each_lawful InputFormat 16 h.inputs i (and_right _ _ (and_right _ _ (and_right _ _ e)));
      }

  lawful_settings : SharedLawful h → settings_by h ≡ true
  unfolding settings_by masks_by common_by
  lawful_settings v =
      and_intro (and_intro (lt-ltb _ _ v.mask) (and_intro v.conditional_mask v.test))
      (and_intro (and_intro v.floats (and_intro v.integers (and_intro v.booleans v.conditional)))
      (and_intro (every_of 4 (λ n. lawful_buffer Format (get_or h.outputs n unset)) (λ n q. v.outputs n))
      (every_of 16 (λ n. lawful_buffer InputFormat (get_or h.inputs n unset)) (λ n q. v.inputs n))))

-- readiness: the fourteen numbers are the same
module _ (a b : Readiness) (e : same_readiness a b ≡ true) where
  same : (k : ℕ) → k < 14 → get_or (readiness_cells a) k 0 ≡ get_or (readiness_cells b) k 0
  unfolding same_readiness
  same k h = eqb-true _ _ (every_at 14 (λ n. eqb (get_or (readiness_cells a) n 0) (get_or (readiness_cells b) n 0)) e k h)

  readiness_same : a ≡ b
  readiness_same =
      λ i.
      record {
        number = same 0 (omega arith) i;
        gauge =
            record {
              some = same 1 (omega arith) i;
              columns = same 2 (omega arith) i;
              rows = same 3 (omega arith) i;
              apart = same 4 (omega arith) i;
              credit = same 5 (omega arith) i;
            };
        window0 = record { step = same 6 (omega arith) i; span = same 7 (omega arith) i };
        window1 = record { step = same 8 (omega arith) i; span = same 9 (omega arith) i };
        window2 = record { step = same 10 (omega arith) i; span = same 11 (omega arith) i };
        window3 = record { step = same 12 (omega arith) i; span = same 13 (omega arith) i };
      }

same_readiness_lem : (a b : Readiness) → a ≡ b → same_readiness a b ≡ true
unfolding same_readiness
same_readiness_lem a b e =
    every_of 14 (λ n. eqb (get_or (readiness_cells a) n 0) (get_or (readiness_cells b) n 0))
    (λ k h. eq-eqb _ _ (ap (λ (r : Readiness). get_or (readiness_cells r) k 0) e))

-- a party's own numbers: what the test says of them
module _ (p : Party) (e : party_by p ≡ true) where
  kept : CommandKept p.stopped p.taken p.birth.mine p.opened
  unfolding party_by
  kept = command_kept p.stopped p.taken p.birth.mine p.opened (and_left _ _ (and_right _ _ e))

  ends : domain_by p.domain ≡ true
  unfolding party_by
  ends = and_left _ _ (and_right _ _ (and_right _ _ e))

  born_so : birth_by p.birth ≡ true
  unfolding party_by
  born_so = and_left _ _ (and_right _ _ (and_right _ _ (and_right _ _ (and_right _ _ e))))

  tallied : tally_by p.tally p.taken ≡ true
  unfolding party_by
  tallied = and_right _ _ (and_right _ _ (and_right _ _ (and_right _ _ (and_right _ _ e))))

  pub party_domain : DomainValid p.domain
  party_domain = domain_valid p.domain ends

  party_valid : (h : Shared) → length h.outputs ≡ 4 → length h.inputs ≡ 16 → settings_by h ≡ true →
      same_readiness p.readiness (readiness_for p h) ≡ true → Valid (record { party = p; shared = h })
  unfolding party_by domain_by birth_by tally_by
  party_valid h o i s r =
      record {
        flag = leb-true _ _ (and_left _ _ (and_left _ _ e));
        full = leb-true _ _ (and_right _ _ (and_left _ _ e));
        line_most = kept.line_most;
        closed = kept.closed;
        dropped = kept.dropped;
        opened = kept.opened;
        counted = kept.counted;
        domain = party_domain;
        domain_set_lem = and_right _ _ ends;
        instructions = and_left _ _ (and_right _ _ (and_right _ _ (and_right _ _ e)));
        tally = record { runs_most = leb-true _ _ (and_left _ _ tallied); claims_most = leb-true _ _ (and_right _ _ tallied) };
        mine_most = leb-true _ _ (and_left _ _ born_so);
        owned = kept.owned;
        edition = and_right _ _ born_so;
        readiness = readiness_same p.readiness (readiness_for p h) r;
        settings = settings_lawful h o i s;
        outputs = o;
        inputs = i;
      }

valid_party : (s : Session) → Valid s → party_by s.party ≡ true
unfolding party_by domain_by birth_by tally_by
valid_party s v =
    and_intro (and_intro (le-leb _ _ v.flag) (le-leb _ _ v.full))
    (and_intro
    (kept_command s.party.stopped s.party.taken s.party.birth.mine s.party.opened v.flag
    (record {
      line_most = v.line_most;
      closed = v.closed;
      dropped = v.dropped;
      opened = v.opened;
      counted = v.counted;
      owned = v.owned;
    }))
    (and_intro
    (and_intro
    (and_intro (le-leb _ _ v.domain.columns)
    (and_intro (lt-ltb _ _ v.domain.column_most) (and_intro (le-leb _ _ v.domain.rows) (lt-ltb _ _ v.domain.row_most))))
    v.domain_set_lem)
    (and_intro v.instructions
    (and_intro (and_intro (le-leb _ _ v.mine_most) v.edition)
    (and_intro (le-leb _ _ v.tally.runs_most) (le-leb _ _ v.tally.claims_most))))))

-- the test is the validity, both ways
pub judged_valid : (own tallies shared : List ℕ) → session_by (session_of own tallies shared) ≡ true → Valid (session_of own tallies shared)
unfolding session_by shared_of
judged_valid own tallies shared e =
    party_valid (party_of own tallies) (and_left _ _ e) (shared_of shared) refl refl (and_left _ _ (and_right _ _ e)) (and_right _ _ (and_right _ _ e))

pub valid_judged : (s : Session) → Valid s → session_by s ≡ true
unfolding session_by
valid_judged s v =
    and_intro (valid_party s v)
    (and_intro (lawful_settings s.shared v.settings)
    (same_readiness_lem s.party.readiness (readiness_for s.party s.shared) v.readiness))

-- arrays of the right lengths are such as the entries ask just where they are judged so
module _ {own tallies shared : List ℕ} where
  pub judged_given : Sized own tallies shared → session_by (session_of own tallies shared) ≡ true → Given own tallies shared
  judged_given z e = record { sized = z; valid = judged_valid own tallies shared e }

  pub given_judged : Given own tallies shared → session_by (session_of own tallies shared) ≡ true
  given_judged g = valid_judged (session_of own tallies shared) g.valid

-- each return of the judge
module _ (own tallies shared : List ℕ) (z : Sized own tallies shared) {t : Bool} (p : t ≡ party_by (party_of own tallies)) where
  abbrev Answers : Bool → Type 0
  Answers r = Judges r (Given own tallies shared)

  answers : {r : Bool} → r ≡ session_by (session_of own tallies shared) → Answers r
  answers e = record { sound = λ y. judged_given z (sym e ∙ y); complete = λ g. e ∙ given_judged g }

  pub work_asked : t ≡ true → WorkAsked own shared
  unfolding party_of
  work_asked y =
      record {
        own_length_lem = z.own_length_lem;
        shared_length_lem = z.shared_length_lem;
        domain = party_domain (party_of own tallies) (sym p ∙ y);
      }

  pub judged_yes : t ≡ true → {a b r : Bool} → a ≡ settings_by (shared_of shared) →
      b ≡ same_readiness (party_of own []).readiness (readiness_for (party_of own []) (shared_of shared)) → r ≡ (a and b) → Answers r
  unfolding session_by party_of
  judged_yes y a b r = answers (joined r a b ∙ sym (and_yes _ (sym p ∙ y)))

  pub judged_no : t ≡ false → Answers false
  unfolding session_by
  judged_no n = answers (sym (and_no_left _ (sym p ∙ n)))
