-- Write-back: the words taken are what the completed commands write, followed by the open command's words. Assumes nothing.
use mathlib.Core.Path.{◌≡◌, refl, sym, ap, ◌∙◌}
use mathlib.Core.Bool.{true, false}
use mathlib.Core.List.{List, [], ◌∷◌, ◌++◌, append_assoc, append-nil}
use Prim.Native.Nat.{ℕ, suc, ◌+◌, ◌<◌}
use native.Mathlib.Omega.{arith}
use lib.Dec.{eqb, ltb}
use lib.ListN.{length, take}
use borrow.Author.Tests.{ltb-true, ltb-false, ne_eqb}
use Rattle.laws.specs.Choice.{pick, place_of}
use Rattle.laws.proofs.Choice.{pick_yes, pick_no}
use Rattle.laws.proofs.Table.{each, ◌&◌}
use Rattle.refusal.specs.Told.{gives}
use Rattle.command.specs.Table.{headers, header_of, count_of}
use Rattle.command.specs.Commands.{words_of}
use Rattle.rules.specs.Rules.{last_rule_of}
use Rattle.command.specs.declared.commands.Command.{Command}
use Rattle.command.proofs.Headers.{listed}
use Rattle.state.specs.State.{Open, Session, none, new_session}
use Rattle.state.specs.Start.{is_edition}
use Rattle.state.specs.Effects.{with_parameter, after}
use Rattle.session.specs.Step.{Reply, still_open, completed, refused, Stepped, step_of}
use Rattle.session.specs.Feed.{nothing, Fed, onward, proceed, feed_of, written, accepts, emitted}
use Rattle.state.specs.Valid.{parameters_of, Valid, held_of}
use Rattle.session.proofs.Ways.{whole, begun, Placed, Way, was_stopped, stops, opens, fills, ends, way}
use Rattle.session.proofs.Kept.{new_valid, line_lt, count_lt, all_allowed, whole_words, effects_of, kept}

-- one parameter more
more : (l n p0 p1 p2 p3 w : ℕ) → n < 4 →
    take n (p0 ∷ p1 ∷ p2 ∷ p3 ∷ []) ++ (w ∷ []) ≡
    take (n + 1) (parameters_of (with_parameter (record { line = l; count = n; p0 = p0; p1 = p1; p2 = p2; p3 = p3 }) w))
unfolding pick
more l n p0 p1 p2 p3 w =
    each
    (λ n.
    take n (p0 ∷ p1 ∷ p2 ∷ p3 ∷ []) ++ (w ∷ []) ≡
    take (n + 1) (parameters_of (with_parameter (record { line = l; count = n; p0 = p0; p1 = p1; p2 = p2; p3 = p3 }) w)))
    4 (tt & refl & refl & refl & refl) n

no_answer : {A : Type 0} → false ≡ true → A
no_answer e = absurd (let z : ◌≡◌ {A = ℕ} 0 1 = cc in omega arith)

-- the words of no open command, and of one
pub none_held : (o : Open) → eqb o.line 21 ≡ true → held_of o ≡ []
unfolding held_of
none_held o e = pick_yes _ _ e

some_held : (o : Open) → eqb o.line 21 ≡ false → held_of o ≡ header_of o.line ∷ take o.count (parameters_of o)
unfolding held_of
some_held o e = pick_no _ _ e

module _ (s : Session) (w : ℕ) (v : Valid s) where
  abbrev o : Open
  o = with_parameter s.party.opened w

  held_more : (p : Placed s w) →
      held_of s.party.opened ++ (w ∷ []) ≡ header_of o.line ∷ take o.count (parameters_of o)
  held_more p =
      ap (λ (l : List ℕ). l ++ (w ∷ [])) (some_held s.party.opened p.is_open) ∙
      ap {B = List ℕ} (λ (l : List ℕ). header_of s.party.opened.line ∷ l)
      (more s.party.opened.line s.party.opened.count _ _ _ _ w (count_lt s w v p))

  -- the words of the command that a last parameter completes
  held_whole : (p : Placed s w) → ltb o.count (count_of o.line) ≡ false → (c : Command) → c ≡ whole o →
      held_of s.party.opened ++ (w ∷ []) ≡ words_of c
  held_whole p l c e =
      held_more p ∙ ap {B = List ℕ} (λ (n : ℕ). header_of o.line ∷ take n (parameters_of o)) full ∙
      sym (ap words_of e ∙ whole_words o (line_lt s w v p) (all_allowed s w v p l))
    where
      full : o.count ≡ count_of o.line
      full = omega (arith, ltb-false o.count (count_of o.line) l, (v.opened (line_lt s w v p)).fewer)

  held_after : (p : Placed s w) → ltb o.count (count_of o.line) ≡ false → (c : Command) → c ≡ whole o →
      (u : List ℕ) → last_rule_of c ≡ gives u → held_of (after c s).party.opened ≡ []
  unfolding after
  held_after p l c e u r = ap held_of (effects_of s w v p l c e u r).same_open ∙ none_held none refl

  taken_way : (t : Stepped) → Way s w t → accepts t.reply ≡ true →
      held_of s.party.opened ++ (w ∷ []) ≡ emitted t.reply ++ held_of t.session.party.opened
  unfolding accepts emitted
  taken_way t (was_stopped e) a = no_answer a
  taken_way t (stops n e) a = no_answer a
  taken_way t (opens r i k m) a = ap (λ (l : List ℕ). l ++ (w ∷ [])) (none_held s.party.opened i) ∙ sym after_header
    where
      not_none : {n : ℕ} → n ≡ 21 → n < 21 → ⊥
      not_none e h = omega arith

      after_header : held_of (begun w) ≡ w ∷ []
      after_header =
          let h : place_of w headers < 21 = ltb-true (place_of w headers) 21 k in
          some_held (begun w) (ne_eqb (place_of w headers) 21 (λ e. not_none e h)) ∙
          ap {B = List ℕ} (λ (h : ℕ). h ∷ []) (listed w h)
  taken_way t (fills p m) a = held_more p ∙ sym (some_held o p.is_open)
  taken_way t (ends p l c e u u' r q) a =
      held_whole p l c e ∙ sym (ap (λ (h : List ℕ). words_of c ++ h) (held_after p l c e u r) ∙ append-nil (words_of c))

  -- the words held before an accepted word, with that word, are what the command writes that it completes and the words held after
  pub taken :
      accepts (step_of s w).reply ≡ true →
      held_of s.party.opened ++ (w ∷ []) ≡ emitted (step_of s w).reply ++ held_of (step_of s w).session.party.opened
  taken a = taken_way (step_of s w) (way s w) a

-- the same for the first word of a piece, where it holds for the rest
onward_back :
    (r : Reply) (u : Session) (f : Fed) (h t : List ℕ) (w : ℕ) (ws : List ℕ) →
    (accepts r ≡ true → h ++ (w ∷ []) ≡ emitted r ++ t) →
    (f.refusal ≡ nothing → t ++ ws ≡ written f.commands ++ held_of f.session.party.opened) →
    (proceed r u f).refusal ≡ nothing →
    h ++ (w ∷ ws) ≡ written (proceed r u f).commands ++ held_of (proceed r u f).session.party.opened
unfolding proceed accepts emitted written
onward_back still_open u f h t w ws k rest e =
    sym (append_assoc h (w ∷ []) ws) ∙ ap (λ (l : List ℕ). l ++ ws) (k refl) ∙ rest e
onward_back (completed c) u f h t w ws k rest e =
    sym (append_assoc h (w ∷ []) ws) ∙ ap (λ (l : List ℕ). l ++ ws) (k refl) ∙ append_assoc (words_of c) t ws ∙
    ap (λ (l : List ℕ). words_of c ++ l) (rest e) ∙
    sym (append_assoc (words_of c) (written f.commands) (held_of f.session.party.opened))
onward_back (refused n) u f h t w ws k rest e = absurd (let z : ◌≡◌ {A = ℕ} 0 1 = cc in omega arith)

-- a piece without a refusal: the words held before, with the piece, are what its commands write and the words held after
pub fed_back :
    (s : Session) (ws : List ℕ) → Valid s → (feed_of s ws).refusal ≡ nothing →
    held_of s.party.opened ++ ws ≡ written (feed_of s ws).commands ++ held_of (feed_of s ws).session.party.opened
unfolding feed_of
fed_back s [] v e = unfold written in append-nil (held_of s.party.opened)
fed_back s (w ∷ ws) v e =
    onward_back (step_of s w).reply (step_of s w).session (feed_of (step_of s w).session ws) (held_of s.party.opened)
    (held_of (step_of s w).session.party.opened) w ws (taken s w v) (fed_back (step_of s w).session ws (kept s w v)) e

-- so from the beginning
pub all_back :
    (edition : ℕ) → is_edition edition ≡ true → (ws : List ℕ) → (feed_of (new_session edition) ws).refusal ≡ nothing →
    ws ≡ written (feed_of (new_session edition) ws).commands ++ held_of (feed_of (new_session edition) ws).session.party.opened
all_back edition known ws e =
    sym (ap (λ (h : List ℕ). h ++ ws) (none_held none refl)) ∙ fed_back (new_session edition) ws (new_valid edition known) e

-- a piece without a refusal took all its words
all_word : (r : Reply) (u : Session) (f : Fed) (n : ℕ) → (f.refusal ≡ nothing → f.taken ≡ n) → (proceed r u f).refusal ≡ nothing →
    (proceed r u f).taken ≡ suc n
unfolding proceed
all_word still_open u f n rest e = ap suc (rest e)
all_word (completed c) u f n rest e = ap suc (rest e)
all_word (refused m) u f n rest e = absurd (let z : ◌≡◌ {A = ℕ} 0 1 = cc in omega arith)

pub all_taken : (s : Session) (ws : List ℕ) → (feed_of s ws).refusal ≡ nothing → (feed_of s ws).taken ≡ length ws
unfolding feed_of
all_taken s [] e = refl
all_taken s (w ∷ ws) e = all_word (step_of s w).reply _ (feed_of (step_of s w).session ws) (length ws) (all_taken (step_of s w).session ws) e

-- the words that a piece took, fed alone: the same commands, and no refusal
pub record Alone (s : Session) (ws : List ℕ) (f : Fed) : Type 0 where
  pub same_count : (feed_of s (take f.taken ws)).taken ≡ f.taken
  pub same_commands : (feed_of s (take f.taken ws)).commands ≡ f.commands
  pub unrefused : (feed_of s (take f.taken ws)).refusal ≡ nothing

pub first_word :
    (s : Session) (w : ℕ) (ws : List ℕ) (r : Reply) → (step_of s w).reply ≡ r →
    feed_of s (w ∷ ws) ≡ proceed r (step_of s w).session (feed_of (step_of s w).session ws)
unfolding feed_of
first_word s w ws r e = ap (λ (r : Reply). proceed r (step_of s w).session (feed_of (step_of s w).session ws)) e

module _ (s : Session) (w : ℕ) (ws : List ℕ) where
  abbrev u : Session
  u = (step_of s w).session

  alone_word : (r : Reply) → (step_of s w).reply ≡ r → Alone u ws (feed_of u ws) → Alone s (w ∷ ws) (proceed r u (feed_of u ws))
  unfolding proceed feed_of
  alone_word still_open e a =
      let p : feed_of s (w ∷ take (feed_of u ws).taken ws) ≡ onward [] (feed_of u (take (feed_of u ws).taken ws)) =
      first_word s w (take (feed_of u ws).taken ws) still_open e in
      record {
        same_count = ap (λ (f : Fed). f.taken) p ∙ ap suc a.same_count;
        same_commands = ap (λ (f : Fed). f.commands) p ∙ a.same_commands;
        unrefused = ap (λ (f : Fed). f.refusal) p ∙ a.unrefused;
      }
  alone_word (completed c) e a =
      let p : feed_of s (w ∷ take (feed_of u ws).taken ws) ≡ onward (c ∷ []) (feed_of u (take (feed_of u ws).taken ws)) =
      first_word s w (take (feed_of u ws).taken ws) (completed c) e in
      record {
        same_count = ap (λ (f : Fed). f.taken) p ∙ ap suc a.same_count;
        same_commands = ap (λ (f : Fed). f.commands) p ∙ ap (λ (cs : List Command). c ∷ cs) a.same_commands;
        unrefused = ap (λ (f : Fed). f.refusal) p ∙ a.unrefused;
      }
  alone_word (refused n) e a = record { same_count = refl; same_commands = refl; unrefused = refl }

pub alone : (s : Session) (ws : List ℕ) → Alone s ws (feed_of s ws)
unfolding feed_of
alone s [] = record { same_count = refl; same_commands = refl; unrefused = refl }
alone s (w ∷ ws) = alone_word s w ws (step_of s w).reply refl (alone (step_of s w).session ws)

-- so any piece: the words held before, with those that it took, are what its commands write and the words that they leave held
pub taken_back :
    (s : Session) (ws : List ℕ) → Valid s →
    held_of s.party.opened ++ take (feed_of s ws).taken ws ≡
    written (feed_of s ws).commands ++ held_of (feed_of s (take (feed_of s ws).taken ws)).session.party.opened
taken_back s ws v =
    fed_back s (take (feed_of s ws).taken ws) v (alone s ws).unrefused ∙
    ap (λ (cs : List Command). written cs ++ held_of (feed_of s (take (feed_of s ws).taken ws)).session.party.opened) (alone s ws).same_commands
