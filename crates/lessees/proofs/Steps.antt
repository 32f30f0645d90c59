-- What a word of one party does to what that party sees, to what the other sees, and to the other's validity. Assumes nothing.
use mathlib.Core.Path.{◌≡◌, refl, sym, ap, ◌∙◌, subst}
use mathlib.Core.Bool.{Bool, true, false}
use Prim.Native.Nat.{ℕ, ◌+◌}
use lib.Dec.{eqb, leb, ltb}
use lib.ListN.{length}
use Rattle.laws.specs.Choice.{pick, place_of}
use Rattle.refusal.specs.Told.{Told, gives, refuses, then_told}
use Rattle.command.specs.Table.{headers, count_of}
use Rattle.command.specs.Kinds.{allowed, kind_of}
use Rattle.rules.specs.Rules.{last_rule_of}
use Rattle.command.specs.declared.commands.Stored.TheVariants as stored
use Rattle.command.specs.declared.commands.Command.{Command}
use Rattle.command.specs.declared.commands.Command.TheVariants as command
use Rattle.owners.specs.Owners.{may_open, may_name, owned}
use Rattle.state.specs.State.{Birth, Open, Party, Shared, Session, Readiness, none}
use Rattle.state.specs.Seen.{seen_outputs}
use Rattle.state.specs.Valid.{Valid}
use Rattle.state.specs.Readiness.{readiness_for}
use Rattle.state.specs.Effects.{limit, opening, took, with_parameter, with_readiness, with_tally, renewed, own_after, shared_after, after}
use Rattle.session.specs.Step.{
  Reply,
  completed,
  Stepped,
  refusing,
  start_rule_of,
  judged,
  completing,
  placing,
  parameter_step,
  header_step,
  step_of,
}
use Rattle.session.proofs.Ways.{whole, Placed, Running, Way, was_stopped, stops, opens, fills, ends, way}
use Rattle.session.proofs.Kept.{kept, whole_owned}
use Rattle.lessees.specs.Sight.{seen_shared, seen, Apart}
use Rattle.lessees.proofs.Sight.{seen_after, hidden}
use Rattle.lessees.proofs.Alike.{seen_worked, seen_claim, seen_ready}

own_seen : (c : Command) (h : Shared) (p : Party) → own_after c (seen_shared p.birth.mine h) p ≡ own_after c h p
unfolding own_after
own_seen (command.Domain i0 j0 i1 j1) h p = refl
own_seen command.Start h p =
    ap (λ (n : ℕ). with_tally (record { runs = p.tally.runs + 1; claims = p.tally.claims + n }) p)
    (seen_claim p.birth.mine h p.birth.edition p.domain)
own_seen (command.Effectless what) h p = refl
own_seen (command.Store stored.Instructions base format) h p = refl
own_seen (command.Store stored.Floats base format) h p = refl
own_seen (command.Store stored.Integers base format) h p = refl
own_seen (command.Store stored.Booleans base format) h p = refl
own_seen (command.Input number base format height) h p = refl
own_seen (command.Output number base format height) h p = refl
own_seen (command.Conditional base format height) h p = refl
own_seen (command.OutputMask mask) h p = refl
own_seen (command.ConditionalMask mask) h p = refl
own_seen (command.Test test) h p = refl

-- what is fixed at birth isn't touched
born_own : (c : Command) (h : Shared) (p : Party) → (own_after c h p).birth ≡ p.birth
unfolding own_after
born_own (command.Domain i0 j0 i1 j1) h p = refl
born_own command.Start h p = refl
born_own (command.Effectless what) h p = refl
born_own (command.Store stored.Instructions base format) h p = refl
born_own (command.Store stored.Floats base format) h p = refl
born_own (command.Store stored.Integers base format) h p = refl
born_own (command.Store stored.Booleans base format) h p = refl
born_own (command.Input number base format height) h p = refl
born_own (command.Output number base format height) h p = refl
born_own (command.Conditional base format height) h p = refl
born_own (command.OutputMask mask) h p = refl
born_own (command.ConditionalMask mask) h p = refl
born_own (command.Test test) h p = refl

rule_seen : (c : Command) (s : Session) → start_rule_of c (seen s) ≡ start_rule_of c s
unfolding start_rule_of
rule_seen (command.Domain i0 j0 i1 j1) s = refl
rule_seen command.Start s = seen_ready s.party.birth.mine s.shared s.party.domain s.party.instructions
rule_seen (command.Effectless what) s = refl
rule_seen (command.Store what base format) s = refl
rule_seen (command.Input number base format height) s = refl
rule_seen (command.Output number base format height) s = refl
rule_seen (command.Conditional base format height) s = refl
rule_seen (command.OutputMask mask) s = refl
rule_seen (command.ConditionalMask mask) s = refl
rule_seen (command.Test test) s = refl

-- what is kept of readiness, worked out from what the party sees
renewed_seen : (p : Party) (h : Shared) → renewed (seen_shared p.birth.mine h) p ≡ renewed h p
renewed_seen p h =
    ap (λ (r : Readiness). with_readiness r p)
    (seen_worked p.birth.mine h p.birth.edition p.domain p.instructions)

abbrev session : Party → Shared → Session
session p h = record { party = p; shared = h }

-- seen before an accepted command or after it, it is the same
seen_command : (c : Command) (s : Session) → owned s.party.birth.mine c ≡ true → after c (seen s) ≡ seen (after c s)
unfolding after
seen_command c s e =
    let q : Party = opening none (took s.party) in
    let h : Shared = s.shared in
    let m : ℕ = s.party.birth.mine in
    let h' : Shared = shared_after m c h in
    let p' : Party = own_after c h q in
    let shared_path : shared_after m c (seen_shared m h) ≡ seen_shared m h' = sym (seen_after m h c e) in
    let own_path : own_after c (seen_shared m h) q ≡ p' = own_seen c h q in
    let mine_path : p'.birth.mine ≡ m = ap (λ (b : Birth). b.mine) (born_own c h q) in
    let ready_path : renewed (seen_shared m h') p' ≡ renewed h' p' =
    subst (λ (n : ℕ). renewed (seen_shared n h') p' ≡ renewed h' p') mine_path (renewed_seen p' h') in
    (λ i. session (renewed (shared_path i) (own_path i)) (shared_path i)) ∙
    (λ i. session (ready_path i) (seen_shared (sym mine_path i) h'))

-- a step as the party sees it
abbrev pub seen_stepped : Stepped → Stepped
seen_stepped t = record { reply = t.reply; session = seen t.session }

-- a choice by the same test on two sides
by_both {ℓ} : {A : Type ℓ} (R : A → A → Type 0) (t : Bool) (a a' b b' : A) →
    (t ≡ true → R a a') → (t ≡ false → R b b') → R (pick t a b) (pick t a' b')
unfolding pick
by_both R true a a' b b' y n = y refl
by_both R false a a' b b' y n = n refl

module _ (s : Session) (w : ℕ) (v : Valid s) where
  abbrev m : ℕ
  m = s.party.birth.mine

  abbrev o : Open
  o = s.party.opened

  abbrev o' : Open
  o' = with_parameter o w

  abbrev Sees : Stepped → Stepped → Type 0
  Sees t u = u ≡ seen_stepped t

  seen_judged : (t : Told) (c : Command) → owned m c ≡ true → Sees (judged t c s) (judged t c (seen s))
  unfolding judged
  seen_judged (gives values) c e = λ i. record { reply = completed c; session = seen_command c s e i }
  seen_judged (refuses n) c e = refl

  seen_placing : Placed s w → Sees (placing o' s) (placing o' (seen s))
  unfolding placing completing
  seen_placing p =
      by_both Sees (ltb o'.count (count_of o'.line)) _ _ _ _ (λ f. refl)
      (λ f.
      ap (λ (t : Told). judged (then_told (last_rule_of (whole o')) t) (whole o') (seen s)) (rule_seen (whole o') s) ∙
      seen_judged _ (whole o') (whole_owned s w v p))

  seen_parameter : Running s → eqb o.line 21 ≡ false → Sees (parameter_step s w) (parameter_step (seen s) w)
  unfolding parameter_step
  seen_parameter r c =
      by_both Sees (allowed (kind_of o.line o.count) w) _ _ _ _
      (λ d. by_both Sees (may_name m (kind_of o.line o.count) w) _ _ _ _
      (λ e. seen_placing (record { running = r; is_open = c; kind_allows = d; named = e })) (λ e. refl)) (λ d. refl)

  seen_header : Sees (header_step s w) (header_step (seen s) w)
  unfolding header_step
  seen_header =
      by_both Sees (ltb (place_of w headers) (length headers)) _ _ _ _
      (λ d. by_both Sees (may_open m (place_of w headers)) _ _ _ _ (λ e. refl) (λ e. refl)) (λ d. refl)

  -- a step commutes with what the party sees
  pub seen_step : step_of (seen s) w ≡ seen_stepped (step_of s w)
  unfolding step_of
  seen_step =
      by_both Sees (eqb s.party.stopped 1) _ _ _ _ (λ a. refl)
      (λ a.
      by_both Sees (leb limit s.party.taken) _ _ _ _ (λ b. refl)
      (λ b. by_both Sees (eqb o.line 21) _ _ _ _ (λ c. seen_header) (seen_parameter (record { unstopped = a; unfilled = b }))))

  hidden_way : (other : ℕ) → Apart m other → {t : Stepped} → Way s w t → seen_shared other t.session.shared ≡ seen_shared other s.shared
  unfolding after
  hidden_way other a (was_stopped e) = refl
  hidden_way other a (stops n e) = refl
  hidden_way other a (opens r i k n) = refl
  hidden_way other a (fills p l) = refl
  hidden_way other a (ends p l c e u u' r q) =
      hidden m other s.shared a c (subst (λ (d : Command). owned m d ≡ true) (sym e) (whole_owned s w v p))

  -- another party sees nothing of it
  pub hidden_step : (other : ℕ) → Apart m other → seen_shared other (step_of s w).session.shared ≡ seen_shared other s.shared
  hidden_step other a = hidden_way other a (way s w)

  -- so the other's validity stands
  pub other_kept : (p : Party) → Apart m p.birth.mine → Valid (session p s.shared) → Valid (session p (step_of s w).session.shared)
  other_kept p a u =
      record {
        flag = u.flag;
        full = u.full;
        line_most = u.line_most;
        closed = u.closed;
        dropped = u.dropped;
        opened = u.opened;
        counted = u.counted;
        domain = u.domain;
        domain_set_lem = u.domain_set_lem;
        instructions = u.instructions;
        tally = u.tally;
        mine_most = u.mine_most;
        owned = u.owned;
        edition = u.edition;
        readiness = u.readiness ∙ sym (worked (step_of s w).session.shared ∙ ap (λ (h : Shared). readiness_for p h) (hidden_step p.birth.mine a) ∙ sym (worked s.shared));
        settings = (kept s w v).settings;
        outputs = (kept s w v).outputs;
        inputs = (kept s w v).inputs;
      }
    where
      worked : (h : Shared) → readiness_for p h ≡ readiness_for p (seen_shared p.birth.mine h)
      worked h = sym (seen_worked p.birth.mine h p.birth.edition p.domain p.instructions)

-- what is fixed at birth stays
pub same_birth : (s : Session) (w : ℕ) → (step_of s w).session.party.birth ≡ s.party.birth
same_birth s w = go (way s w)
  where
    go : {t : Stepped} → Way s w t → t.session.party.birth ≡ s.party.birth
    go (was_stopped e) = refl
    go (stops n e) = refl
    go (opens r i k n) = refl
    go (fills p l) = refl
    go (ends p l c e u u' r q) = unfold after in born_own c s.shared (opening none (took s.party))
