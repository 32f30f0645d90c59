-- Refusals 7, 8 and 9 of a start, for every session that the entries give out, each exactly where it is due: 7 where a domain, an instruction
-- format or an output is missing, 8 with a pair of the domain that is outside a window that counts, 9 with a byte that two of their spans
-- share. Assumes nothing.
use mathlib.Core.Path.{◌≡◌, refl, sym, ap, ◌∙◌, subst}
use mathlib.Core.Bool.{Bool, true, false}
use mathlib.Core.List.{List, [], ◌∷◌}
use Prim.Native.Nat.{ℕ, zero, suc, ◌+◌, ◌<◌, ◌≤◌, zero-le, suc-le-suc}
use native.Mathlib.Nat.{add-zero}
use native.Mathlib.Omega.{arith}
use lib.Dec.{eqb, leb, ltb}
use lib.ListN.{length, get_or, set}
use lib.Seq.{get_or-set_same, get_or-set_other}
use borrow.Author.Tests.{eq-eqb, eqb-true, eqb-false, ltb-true, ltb-false, lt-ltb, leb-true, leb-false}
use Rattle.laws.specs.Choice.{◌and◌, pick}
use Rattle.laws.specs.Below.{some, every}
use Rattle.laws.specs.Masks.{◌or◌, on}
use Rattle.laws.proofs.Choice.{Tested, tested, holds, fails, pick_yes, pick_no, pick_same, and_intro, and_left, and_right}
use Rattle.laws.proofs.Below.{every_at, some_at}
use Rattle.laws.proofs.Table.{each, ◌&◌}
use Rattle.refusal.specs.Told.{Told, gives, refuses, is_given}
use Rattle.layout.specs.Layout.{well_formed, span_of, window_rule, judge_of}
use Rattle.layout.proofs.Sizes.{tile}
use Rattle.layout.proofs.Window.{form_size, rule_bounds}
use Rattle.address.specs.Address.{step_of}
use Rattle.address.specs.Inverse.{Accepted, Inside}
use Rattle.address.proofs.Inverse.{inverse}
use Rattle.command.specs.Format.{pitch_of, tiled_of, code_of, size_of, value_of, window_of}
use Rattle.rules.specs.Rules.{domain_kept, window_kept, last_rule_of}
use Rattle.command.specs.declared.commands.Stored.TheVariants as stored
use Rattle.command.specs.declared.commands.Command.{Command}
use Rattle.command.specs.declared.commands.Command.TheVariants as command
use Rattle.state.specs.State.{Buffer, Domain, Shared, Session, unset, new_shared}
use Rattle.state.specs.Seen.{seen_from, seen_outputs}
use Rattle.state.specs.Start.{
  step_of_buffer,
  span_of_buffer,
  output,
  is_set,
  counts,
  contains_domain,
  apart,
  complete,
  covered,
  disjoint,
  ready_of,
}
use Rattle.state.specs.Effects.{buffer, shared_after, after}
use Rattle.state.specs.Valid.{Valid}
use Rattle.session.specs.Silent.{seen_by}
use Rattle.session.specs.Step.{Reply, still_open, completed, refused, Stepped, start_rule_of, step_of as word_step}
use Rattle.session.specs.Feed.{Fed, proceed, feed_of}
use Rattle.session.specs.Reached.{Reached, begun, word, piece}
use Rattle.session.proofs.Ways.{Way, was_stopped, stops, opens, fills, ends, way}
use Rattle.session.proofs.Kept.{kept}
use Rattle.session.proofs.Reached.{reached_valid}
use Rattle.demands.specs.Windows.{InDomain, InSpan, layout_in, window_in, Counts, Windowed, Complete, Fits, PairOutside, ByteShared, InOrder}

no_way : {A : Type 0} → false ≡ true → A
no_way e = absurd (let z : ◌≡◌ {A = ℕ} 0 1 = cc in omega arith)

-- a window that is judged fine is an accepted layout's
judged_fine : (b : Buffer) → is_given (window_of b.base b.format b.height) ≡ true → Accepted (layout_in b)
unfolding window_of judge_of is_given pick
judged_fine b e =
    go (tested (well_formed b.base (pitch_of b.format) (size_of (code_of b.format))))
    (tested (window_rule b.base (tiled_of b.format) (size_of (code_of b.format)) (step_of (layout_in b)) b.height))
  where
    go :
        Tested (well_formed b.base (pitch_of b.format) (size_of (code_of b.format))) →
        Tested (window_rule b.base (tiled_of b.format) (size_of (code_of b.format)) (step_of (layout_in b)) b.height) →
        Accepted (layout_in b)
    go (holds f) (holds w) = record { form = f; window = w }
    go (holds f) (fails w) = no_way (sym (ap is_given (pick_yes _ _ f ∙ pick_no _ _ w)) ∙ e)
    go (fails f) w = no_way (sym (ap is_given (pick_no _ _ f)) ∙ e)

-- and a command that passed the rules on whole commands keeps the window rule
rule_kept : (c : Command) (u : List ℕ) → last_rule_of c ≡ gives u → window_kept c ≡ true
unfolding last_rule_of
rule_kept c u e = go (tested (domain_kept c)) (tested (window_kept c))
  where
    refuses_no : {A : Type 0} {n : ℕ} → refuses n ≡ gives u → A
    refuses_no z = absurd (let y : ◌≡◌ {A = ℕ} 0 1 = cc in omega arith)

    go : Tested (domain_kept c) → Tested (window_kept c) → window_kept c ≡ true
    go d (holds w) = w
    go (holds d) (fails w) = refuses_no (sym (pick_yes _ _ d ∙ pick_no _ _ w) ∙ e)
    go (fails d) (fails w) = refuses_no (sym (pick_no _ _ d) ∙ e)

module _ (outputs : List Buffer) (size : length outputs ≡ 4) (a : Windowed outputs) (number : ℕ) (b : Buffer) where
  windowed_set : Accepted (layout_in b) → Windowed (set outputs number b)
  unfolding is_set output
  windowed_set k = record { each_accepted = λ n h e. go n h e (tested (eqb n number)) }
    where
      go : (n : ℕ) → n < 4 → is_set (set outputs number b) n ≡ true → Tested (eqb n number) → Accepted (layout_in (output (set outputs number b) n))
      go n h e (holds w) =
          let here : n ≡ number = eqb-true n number w in
          subst (λ (c : Buffer). Accepted (layout_in c))
          (sym (ap (λ (m : ℕ). get_or (set outputs number b) m unset) here ∙ get_or-set_same outputs number b unset (omega (arith, size)))) k
      go n h e (fails w) =
          let other : get_or (set outputs number b) n unset ≡ get_or outputs n unset = get_or-set_other outputs number n b unset (eqb-false n number w) in
          subst (λ (c : Buffer). Accepted (layout_in c)) (sym other)
          (a.each_accepted n h (ap (λ (c : Buffer). eqb c.is_set 1) (sym other) ∙ e))

windowed_after : (mine : ℕ) (c : Command) (h : Shared) (u : List ℕ) → last_rule_of c ≡ gives u → length h.outputs ≡ 4 → Windowed h.outputs →
    Windowed (shared_after mine c h).outputs
unfolding shared_after window_kept
windowed_after mine (command.Domain i0 j0 i1 j1) h u r l a = a
windowed_after mine command.Start h u r l a = a
windowed_after mine (command.Effectless what) h u r l a = a
windowed_after mine (command.Store stored.Instructions base format) h u r l a = a
windowed_after mine (command.Store stored.Floats base format) h u r l a = a
windowed_after mine (command.Store stored.Integers base format) h u r l a = a
windowed_after mine (command.Store stored.Booleans base format) h u r l a = a
windowed_after mine (command.Input number base format height) h u r l a = a
windowed_after mine (command.Output number base format height) h u r l a =
    windowed_set h.outputs l a number (buffer base format height)
    (judged_fine (buffer base format height) (rule_kept (command.Output number base format height) u r))
windowed_after mine (command.Conditional base format height) h u r l a = a
windowed_after mine (command.OutputMask mask) h u r l a = a
windowed_after mine (command.ConditionalMask mask) h u r l a = a
windowed_after mine (command.Test test) h u r l a = a

windowed_word : (s : Session) (w : ℕ) → Valid s → Windowed s.shared.outputs → (t : Stepped) → Way s w t → Windowed t.session.shared.outputs
unfolding after
windowed_word s w v a t (was_stopped e) = a
windowed_word s w v a t (stops n e) = a
windowed_word s w v a t (opens r i k m) = a
windowed_word s w v a t (fills p m) = a
windowed_word s w v a t (ends p l c e u u' r q) = windowed_after s.party.birth.mine c s.shared u r v.outputs a

windowed_on : (r : Reply) (u : Session) (f : Fed) → Windowed u.shared.outputs → Windowed f.session.shared.outputs →
    Windowed (proceed r u f).session.shared.outputs
unfolding proceed
windowed_on still_open u f a b = b
windowed_on (completed c) u f a b = b
windowed_on (refused n) u f a b = a

windowed_piece : (s : Session) (ws : List ℕ) → Valid s → Windowed s.shared.outputs → Windowed (feed_of s ws).session.shared.outputs
unfolding feed_of
windowed_piece s [] v a = a
windowed_piece s (w ∷ ws) v a =
    let b : Windowed (word_step s w).session.shared.outputs = windowed_word s w v a (word_step s w) (way s w) in
    windowed_on (word_step s w).reply (word_step s w).session (feed_of (word_step s w).session ws) b
    (windowed_piece (word_step s w).session ws (kept s w v) b)

none_windowed : Windowed new_shared.outputs
unfolding is_set output
none_windowed =
    record {
      each_accepted =
          λ n h e.
          no_way (sym (each (λ n. eqb (get_or new_shared.outputs n unset).is_set 1 ≡ false) 4 (tt & refl & refl & refl & refl) n h) ∙ e);
    }

-- every set output of a session that the entries give out has an accepted window
pub reached_windowed : {s : Session} → Reached s → Windowed s.shared.outputs
reached_windowed (begun edition known) = none_windowed
reached_windowed (word {s} r w) = windowed_word s w (reached_valid r) (reached_windowed r) (word_step s w) (way s w)
reached_windowed (piece {s} r ws) = windowed_piece s ws (reached_valid r) (reached_windowed r)

-- so has every one that its party sees
seen_at : (m k n : ℕ) (l : List Buffer) → get_or (seen_from m k l) n unset ≡ pick (on (k + n) m) (get_or l n unset) unset
unfolding seen_from
seen_at m k n [] = sym (pick_same (on (k + n) m) unset)
seen_at m k zero (b ∷ bs) = ap (λ (j : ℕ). pick (on j m) b unset) (sym (add-zero k))
seen_at m k (suc n) (b ∷ bs) = seen_at m (suc k) n bs ∙ ap (λ (j : ℕ). pick (on j m) (get_or bs n unset) unset) (next k n)
  where
    next : (k n : ℕ) → suc k + n ≡ k + suc n
    next k n = omega arith

seen_windowed : (mine : ℕ) (l : List Buffer) → Windowed l → Windowed (seen_outputs mine l)
unfolding is_set output
seen_windowed mine l a = record { each_accepted = λ n h e. go n h e (tested (on (16 + n) mine)) }
  where
    go : (n : ℕ) → n < 4 → is_set (seen_outputs mine l) n ≡ true → Tested (on (16 + n) mine) → Accepted (layout_in (output (seen_outputs mine l) n))
    go n h e (holds w) =
        let here : get_or (seen_outputs mine l) n unset ≡ get_or l n unset = seen_at mine 16 n l ∙ pick_yes _ _ w in
        subst (λ (c : Buffer). Accepted (layout_in c)) (sym here) (a.each_accepted n h (ap (λ (c : Buffer). eqb c.is_set 1) (sym here) ∙ e))
    go n h e (fails w) =
        let gone : get_or (seen_outputs mine l) n unset ≡ unset = seen_at mine 16 n l ∙ pick_no _ _ w in
        no_way (ap (λ (c : Buffer). eqb c.is_set 1) (sym gone) ∙ e)

-- what an accepted window tells
module _ (b : Buffer) (accepted : Accepted (layout_in b)) where
  told_window : window_of b.base b.format b.height ≡
      gives (step_of (layout_in b) ∷ span_of (tiled_of b.format) (size_of (code_of b.format)) (step_of (layout_in b)) b.height ∷ [])
  unfolding window_of judge_of
  told_window = pick_yes _ _ accepted.form ∙ pick_yes _ _ accepted.window

  step_is : step_of_buffer b ≡ step_of (layout_in b)
  unfolding step_of_buffer value_of
  step_is = ap (λ (t : Told). value_of t 0) told_window

  span_is : span_of_buffer b ≡ span_of (tiled_of b.format) (size_of (code_of b.format)) (step_of (layout_in b)) b.height
  unfolding span_of_buffer value_of
  span_is = ap (λ (t : Told). value_of t 1) told_window

  -- it has a byte at least
  span_least : 1 ≤ span_of_buffer b
  span_least =
      let bounds = rule_bounds b.base (tiled_of b.format) (size_of (code_of b.format)) (step_of (layout_in b)) b.height accepted.window in
      let within = (inverse (layout_in b) accepted).within 0 0 (record { column = bounds.step_least; row = bounds.height_least }) in
      let size = (tile (size_of (code_of b.format)) (form_size b.base (pitch_of b.format) (size_of (code_of b.format)) accepted.form)).s_pos in
      omega (arith, within.0, within.1, size, span_is)

-- a test that fails at some number below `k`
data Failing (k : ℕ) (f : ℕ → Bool) : Type 0 where
  at : (i : ℕ) → i < k → f i ≡ false → Failing k f

failing : (k : ℕ) (f : ℕ → Bool) → every k f ≡ false → Failing k f
unfolding every ◌and◌
failing zero f e = no_way (sym e)
failing (suc k) f e = go (tested (f zero)) (failing k (λ i. f (suc i)))
  where
    go : Tested (f zero) → (every k (λ i. f (suc i)) ≡ false → Failing k (λ i. f (suc i))) → Failing (suc k) f
    go (fails z) rest = at 0 (suc-le-suc zero-le) z
    go (holds z) rest = up (rest (sym (ap (λ (b : Bool). b and every k (λ i. f (suc i))) z) ∙ e))
      where
        up : Failing k (λ i. f (suc i)) → Failing (suc k) f
        up (at i h w) = at (suc i) (suc-le-suc h) w

-- a test that is asked only where another holds
asked_yes : (c t : Bool) → pick c t true ≡ true → c ≡ true → t ≡ true
asked_yes c t e h = sym (pick_yes t true h) ∙ e

asked_no : (c t : Bool) → pick c t true ≡ false → (c ≡ true) × (t ≡ false)
unfolding pick
asked_no true t e = (refl, e)
asked_no false t e = no_way (sym e)

-- a test that holds at some number below `k`
data Holding (k : ℕ) (f : ℕ → Bool) : Type 0 where
  at_one : (i : ℕ) → i < k → f i ≡ true → Holding k f

holding : (k : ℕ) (f : ℕ → Bool) → some k f ≡ true → Holding k f
unfolding some ◌or◌
holding zero f e = no_way e
holding (suc k) f e = go (tested (f zero)) (holding k (λ i. f (suc i)))
  where
    go : Tested (f zero) → (some k (λ i. f (suc i)) ≡ true → Holding k (λ i. f (suc i))) → Holding (suc k) f
    go (holds z) rest = at_one 0 (suc-le-suc zero-le) z
    go (fails z) rest = up (rest (sym (ap (λ (b : Bool). b or some k (λ i. f (suc i))) z) ∙ e))
      where
        up : Holding k (λ i. f (suc i)) → Holding (suc k) f
        up (at_one i h w) = at_one (suc i) (suc-le-suc h) w

-- answers apart
two_numbers : {A : Type 0} (m n : ℕ) → (m ≡ n → ⊥) → refuses m ≡ refuses n → A
two_numbers m n ne e = absurd (ne (same e))
  where
    same : refuses m ≡ refuses n → m ≡ n
    same z = cc

given_no : {A : Type 0} {n : ℕ} {v : List ℕ} → gives v ≡ refuses n → A
given_no z = absurd (let y : ◌≡◌ {A = ℕ} 0 1 = cc in omega arith)

module _ (s : Session) (r : Reached s) where
  abbrev d : Domain
  d = s.party.domain

  abbrev outs : List Buffer
  outs = seen_by s

  accepted : (n : ℕ) → Counts s n → Accepted (window_in s n)
  unfolding counts
  accepted n c = (seen_windowed s.party.birth.mine s.shared.outputs (reached_windowed r)).each_accepted n c.number (and_left _ _ c.counted)

  -- 8
  inside_all : covered s.shared.mask outs d ≡ true → (n : ℕ) → Counts s n → (i j : ℕ) → InDomain d i j → Inside (window_in s n) i j
  unfolding covered contains_domain
  inside_all e n c i j p =
      let t = asked_yes _ _ (every_at 4 _ e n c.number) c.counted in
      let column : d.i1 < step_of_buffer (output outs n) = ltb-true _ _ (and_left _ _ t) in
      let row : d.j1 < (output outs n).height = ltb-true _ _ (and_right _ _ t) in
      record {
        column = omega (arith, p.right, step_is (output outs n) (accepted n c));
        row = omega (arith, p.bottom);
      }

  one_outside : covered s.shared.mask outs d ≡ false → PairOutside s
  unfolding covered contains_domain
  one_outside e = go (failing 4 _ e)
    where
      go : Failing 4 (λ n. pick (counts s.shared.mask outs n) (ltb d.i1 (step_of_buffer (output outs n)) and ltb d.j1 (output outs n).height) true) → PairOutside s
      go (at n h k) =
          let no = asked_no _ _ k in
          let c : Counts s n = record { number = h; counted = no.0 } in
          record {
            number = n;
            counted = c;
            column = d.i1;
            row = d.j1;
            of_domain =
                record {
                  left = (reached_valid r).domain.columns;
                  right = omega arith;
                  top = (reached_valid r).domain.rows;
                  bottom = omega arith;
                };
            outside =
                λ (i : Inside (window_in s n) d.i1 d.j1).
                absurd
                (no_way
                (sym no.1 ∙
                and_intro
                (lt-ltb d.i1 (step_of_buffer (output outs n)) (omega (arith, i.column, step_is (output outs n) (accepted n c))))
                (lt-ltb d.j1 (output outs n).height i.row)));
          }

  -- 9: of two outputs that count, the one with the higher number first
  module _ (e : disjoint s.shared.mask outs ≡ true) where
    in_order : (n m : ℕ) → m < n → Counts s n → Counts s m → (a : ℕ) → InSpan (window_in s n) a → InSpan (window_in s m) a → ⊥
    unfolding disjoint apart
    in_order n m h c k a p q =
        let t = asked_yes _ _ (every_at n _ (every_at 4 _ e n c.number) m h) (and_intro c.counted k.counted) in
        go t (tested (leb ((output outs n).base + span_of_buffer (output outs n)) (output outs m).base))
      where
        go :
            pick (leb ((output outs n).base + span_of_buffer (output outs n)) (output outs m).base) true
            (leb ((output outs m).base + span_of_buffer (output outs m)) (output outs n).base) ≡ true →
            Tested (leb ((output outs n).base + span_of_buffer (output outs n)) (output outs m).base) → ⊥
        go t (holds w) =
            let f : (output outs n).base + span_of_buffer (output outs n) ≤ (output outs m).base = leb-true _ _ w in
            omega (arith, p.below, q.from, span_is (output outs n) (accepted n c))
        go t (fails w) =
            let f : (output outs m).base + span_of_buffer (output outs m) ≤ (output outs n).base = leb-true _ _ (sym (pick_no _ _ w) ∙ t) in
            omega (arith, q.below, p.from, span_is (output outs m) (accepted m k))

    apart_all : (n m : ℕ) → Counts s n → Counts s m → (n ≡ m → ⊥) → (a : ℕ) → InSpan (window_in s n) a → InSpan (window_in s m) a → ⊥
    apart_all n m c k ne a p q = go (tested (ltb m n))
      where
        go : Tested (ltb m n) → ⊥
        go (holds w) = in_order n m (ltb-true m n w) c k a p q
        go (fails w) = in_order m n (let le : n ≤ m = ltb-false m n w in omega arith) k c a q p

  -- the later of two bases is in both spans
  module _ (n m : ℕ) (c : Counts s n) (k : Counts s m) (less : m < n) where
    abbrev from : ℕ → ℕ
    from i = (output outs i).base

    abbrev to : ℕ → ℕ
    to i = (output outs i).base + span_of_buffer (output outs i)

    shared_at : (a : ℕ) → from n ≤ a → a < to n → from m ≤ a → a < to m → ByteShared s
    shared_at a nl nh ml mh =
        record {
          first = n;
          second = m;
          first_counts = c;
          second_counts = k;
          different = λ (z : n ≡ m). omega arith;
          address = a;
          in_first = record { from = nl; below = omega (arith, span_is (output outs n) (accepted n c)) };
          in_second = record { from = ml; below = omega (arith, span_is (output outs m) (accepted m k)) };
        }

    overlapping : pick (leb (to n) (from m)) true (leb (to m) (from n)) ≡ false → ByteShared s
    overlapping e = go (tested (leb (to n) (from m))) (tested (leb (from n) (from m)))
      where
        go : Tested (leb (to n) (from m)) → Tested (leb (from n) (from m)) → ByteShared s
        go (holds w) z = no_way (sym e ∙ pick_yes _ _ w)
        go (fails w) (holds z) =
            let x : from m < to n = leb-false _ _ w in
            let y : from n ≤ from m = leb-true _ _ z in
            shared_at (from m) y x (omega arith) (omega (arith, span_least (output outs m) (accepted m k)))
        go (fails w) (fails z) =
            let x : from n < to m = leb-false _ _ (sym (pick_no _ _ w) ∙ e) in
            let y : from m < from n = leb-false _ _ z in
            shared_at (from n) (omega arith) (omega (arith, span_least (output outs n) (accepted n c))) (omega arith) x

  abbrev ask : ℕ → ℕ → Bool
  ask n m = pick (counts s.shared.mask outs n and counts s.shared.mask outs m) (apart (output outs n) (output outs m)) true

  second_of : (n : ℕ) → n < 4 → Failing n (ask n) → ByteShared s
  unfolding apart
  second_of n h (at m k w) =
      let no = asked_no _ _ w in
      overlapping n m (record { number = h; counted = and_left _ _ no.0 }) (record { number = omega arith; counted = and_right _ _ no.0 }) k no.1

  first_of_lem : Failing 4 (λ n. every n (ask n)) → ByteShared s
  first_of_lem (at n h w) = second_of n h (failing n (ask n) w)

  one_shared : disjoint s.shared.mask outs ≡ false → ByteShared s
  unfolding disjoint
  one_shared e = first_of_lem (failing 4 _ e)

  -- 7
  abbrev none_missing : Bool
  none_missing = complete d s.party.instructions outs

  is_complete : none_missing ≡ true → Complete s
  unfolding complete
  is_complete e = go (holding 4 (is_set outs) (and_right _ _ (and_right _ _ e)))
    where
      go : Holding 4 (is_set outs) → Complete s
      go (at_one n h w) =
          record {
            domain_set_lem = eqb-true _ _ (and_left _ _ e);
            instructions_set = eqb-true _ _ (and_left _ _ (and_right _ _ e));
            number = n;
            is_output = h;
            output_set = w;
          }

  complete_is : Complete s → none_missing ≡ true
  unfolding complete
  complete_is k =
      and_intro (eq-eqb _ _ k.domain_set_lem)
      (and_intro (eq-eqb _ _ k.instructions_set) (some_at 4 (is_set outs) k.number k.is_output k.output_set))

  -- a start by the settings: the three tests in their order
  rule_is :
      start_rule_of command.Start s ≡
      pick none_missing (pick (covered s.shared.mask outs d) (pick (disjoint s.shared.mask outs) (gives []) (refuses 9)) (refuses 8)) (refuses 7)
  unfolding start_rule_of ready_of
  rule_is = refl

  not_outside : covered s.shared.mask outs d ≡ true → PairOutside s → ⊥
  not_outside e p = p.outside (inside_all e p.number p.counted p.column p.row p.of_domain)

  not_shared : disjoint s.shared.mask outs ≡ true → ByteShared s → ⊥
  not_shared e q =
      apart_all e q.first q.second q.first_counts q.second_counts q.different q.address q.in_first q.in_second

  pub in_order_told : InOrder s (start_rule_of command.Start s)
  in_order_told = by (tested none_missing) (tested (covered s.shared.mask outs d)) (tested (disjoint s.shared.mask outs))
    where
      by :
          Tested none_missing → Tested (covered s.shared.mask outs d) → Tested (disjoint s.shared.mask outs) →
          InOrder s (start_rule_of command.Start s)
      by (fails a) b c =
          let is : start_rule_of command.Start s ≡ refuses 7 = rule_is ∙ pick_no _ _ a in
          let not : Complete s → ⊥ = λ k. no_way (sym a ∙ complete_is k) in
          record {
            seven = λ e k. not k;
            gets_seven = λ n. is;
            eight = λ e. two_numbers 7 8 (λ (z : 7 ≡ 8). omega arith) (sym is ∙ e);
            gets_eight = λ k p. absurd (not k);
            nine = λ e. two_numbers 7 9 (λ (z : 7 ≡ 9). omega arith) (sym is ∙ e);
            gets_nine = λ k n q. absurd (not k);
            passes = λ v e. given_no (sym e ∙ is);
            may_pass = λ k f. absurd (not k);
          }
      by (holds a) (fails b) c =
          let is : start_rule_of command.Start s ≡ refuses 8 = rule_is ∙ pick_yes _ _ a ∙ pick_no _ _ b in
          let p : PairOutside s = one_outside b in
          record {
            seven = λ e k. two_numbers 8 7 (λ (z : 8 ≡ 7). omega arith) (sym is ∙ e);
            gets_seven = λ n. absurd (n (is_complete a));
            eight = λ e. (is_complete a, p);
            gets_eight = λ k q. is;
            nine = λ e. two_numbers 8 9 (λ (z : 8 ≡ 9). omega arith) (sym is ∙ e);
            gets_nine = λ k n q. absurd (n p);
            passes = λ v e. given_no (sym e ∙ is);
            may_pass = λ k f. absurd (p.outside (f.inside p.number p.counted p.column p.row p.of_domain));
          }
      by (holds a) (holds b) (fails c) =
          let is : start_rule_of command.Start s ≡ refuses 9 = rule_is ∙ pick_yes _ _ a ∙ pick_yes _ _ b ∙ pick_no _ _ c in
          let q : ByteShared s = one_shared c in
          record {
            seven = λ e k. two_numbers 9 7 (λ (z : 9 ≡ 7). omega arith) (sym is ∙ e);
            gets_seven = λ n. absurd (n (is_complete a));
            eight = λ e. two_numbers 9 8 (λ (z : 9 ≡ 8). omega arith) (sym is ∙ e);
            gets_eight = λ k p. absurd (not_outside b p);
            nine = λ e. (is_complete a, not_outside b, q);
            gets_nine = λ k n q. is;
            passes = λ v e. given_no (sym e ∙ is);
            may_pass =
                λ k f.
                absurd
                (f.apart q.first q.second q.first_counts q.second_counts q.different q.address q.in_first q.in_second);
          }
      by (holds a) (holds b) (holds c) =
          let is : start_rule_of command.Start s ≡ gives [] = rule_is ∙ pick_yes _ _ a ∙ pick_yes _ _ b ∙ pick_yes _ _ c in
          record {
            seven = λ e k. given_no (sym is ∙ e);
            gets_seven = λ n. absurd (n (is_complete a));
            eight = λ e. given_no (sym is ∙ e);
            gets_eight = λ k p. absurd (not_outside b p);
            nine = λ e. given_no (sym is ∙ e);
            gets_nine = λ k n q. absurd (not_shared c q);
            passes = λ v e. (is_complete a, record { inside = inside_all b; apart = apart_all c });
            may_pass = λ k f. is;
          }
