-- Reading again: the words of the completed commands, read from the settings that these first met, lead to the same commands and
-- settings, and from the same session to the same session. Assumes nothing.
use mathlib.Core.Path.{◌≡◌, refl, sym, ap, ◌∙◌, subst}
use mathlib.Core.Bool.{true}
use mathlib.Core.List.{List, [], ◌∷◌, ◌++◌, append-nil}
use Prim.Native.Nat.{ℕ, ◌+◌, ◌≤◌}
use native.Mathlib.Omega.{arith}
use lib.ListN.{length, length-append}
use Rattle.refusal.specs.Told.{Told, gives}
use Rattle.command.specs.Commands.{words_of}
use Rattle.rules.specs.Rules.{last_rule_of}
use Rattle.rules.specs.Writer.{judge_command_of}
use Rattle.command.specs.declared.commands.Stored.TheVariants as stored
use Rattle.command.specs.declared.commands.Command.{Command}
use Rattle.command.specs.declared.commands.Command.TheVariants as command
use Rattle.rules.proofs.Rule.{Ruled, fine, five, six, ruled}
use Rattle.rules.proofs.Readable.{writable}
use Rattle.owners.specs.Owners.{owned}
use Rattle.state.specs.Seen.{seen_outputs}
use Rattle.state.specs.State.{Open, Session, none}
use Rattle.state.specs.Start.{ready_of}
use Rattle.state.specs.Effects.{limit, own_after, shared_after, after}
use Rattle.session.specs.Step.{still_open, completed, refused, Stepped, start_rule_of, step_of}
use Rattle.session.specs.Feed.{nothing, Fed, proceed, feed_of, joined, written}
use Rattle.state.specs.Valid.{Valid, held_of}
use Rattle.session.specs.Again.{Idle, fed, at_word, SameSettings, ReadAgain, EachWritable}
use Rattle.session.proofs.Ways.{Way, was_stopped, stops, opens, fills, ends, way}
use Rattle.session.proofs.Kept.{each_allowed, whole_owned, kept}
use Rattle.session.proofs.Cut.{cut}
use Rattle.session.proofs.WriteBack.{none_held, fed_back}
use Rattle.session.proofs.ReadBack.{reads_back}

-- a piece that begins and ends with no command open, and gets no refusal
module _
    (s : Session)
    (ws : List ℕ)
    (v : Valid s)
    (unopened : s.party.opened ≡ none)
    (unrefused : (feed_of s ws).refusal ≡ nothing)
    (closed : (feed_of s ws).session.party.opened ≡ none)
  where
    -- it is what its commands write
    pub whole_back : written (feed_of s ws).commands ≡ ws
    whole_back =
        sym
        (sym (ap (λ (h : List ℕ). h ++ ws) (nil unopened)) ∙ fed_back s ws v unrefused ∙
        ap (λ (h : List ℕ). written (feed_of s ws).commands ++ h) (nil closed) ∙
        append-nil (written (feed_of s ws).commands))
      where
        nil : {o : Open} → o ≡ none → held_of o ≡ []
        nil e = ap held_of e ∙ none_held none refl

    -- so these words, fed to the same session, give the same commands and the same session
    pub whole_again : feed_of s (written (feed_of s ws).commands) ≡ feed_of s ws
    whole_again = ap (feed_of s) whole_back

    -- in particular where it is one command
    module _ (c : Command) (only : (feed_of s ws).commands ≡ c ∷ []) where
      pub words_of_one : words_of c ≡ ws
      unfolding written
      words_of_one = sym (append-nil (words_of c)) ∙ sym (ap written only) ∙ whole_back

      pub one_again : feed_of s (words_of c) ≡ feed_of s ws
      one_again = ap (feed_of s) words_of_one

-- a command that a session completed: the writer accepts it, and the settings passed it
record Passed (s : Session) (c : Command) : Type 0 where
  writes : judge_command_of c ≡ gives []
  own : owned s.party.birth.mine c ≡ true
  values : List ℕ
  start : start_rule_of c s ≡ gives values

rules_fine : (t : Told) → Ruled t → (u : List ℕ) → t ≡ gives u → t ≡ gives []
rules_fine t fine u e = refl
rules_fine t five u e = absurd (let z : ◌≡◌ {A = ℕ} 0 1 = cc in omega arith)
rules_fine t six u e = absurd (let z : ◌≡◌ {A = ℕ} 0 1 = cc in omega arith)

-- what a word does to the settings, by its reply
data Moved (s : Session) : Stepped → Type 0 where
  on : (u : Session) → SameSettings u s → Moved s (record { reply = still_open; session = u })
  passed : (c : Command) → Passed s c → Moved s (record { reply = completed c; session = after c s })
  off : (n : ℕ) (u : Session) → SameSettings u s → Moved s (record { reply = refused n; session = u })

moved : (s : Session) (w : ℕ) → Valid s → {t : Stepped} → Way s w t → Moved s t
moved s w v (was_stopped e) = off 1 s (record { domain = refl; instructions = refl; shared = refl; mine = refl })
moved s w v (stops n e) = off n _ (record { domain = refl; instructions = refl; shared = refl; mine = refl })
moved s w v (opens r i k m) = on _ (record { domain = refl; instructions = refl; shared = refl; mine = refl })
moved s w v (fills p m) = on _ (record { domain = refl; instructions = refl; shared = refl; mine = refl })
moved s w v (ends p l c e u k r q) =
    passed c
    (record {
      writes = writable c (each_allowed s w v p l c e) (rules_fine (last_rule_of c) (ruled c) u r);
      own = subst (λ (d : Command). owned s.party.birth.mine d ≡ true) (sym e) (whole_owned s w v p);
      values = k;
      start = q;
    })

-- every command that a session completes is one that the writer accepts
writable_word : (s : Session) (t : Stepped) (f : Fed) → Moved s t → EachWritable f.commands →
    EachWritable (proceed t.reply t.session f).commands
unfolding proceed
writable_word s t f (on u e) r = r
writable_word s t f (passed c p) r = (p.writes, r)
writable_word s t f (off n u e) r = tt

pub each_writable : (s : Session) (ws : List ℕ) → Valid s → EachWritable (feed_of s ws).commands
unfolding feed_of
each_writable s [] v = tt
each_writable s (w ∷ ws) v =
    writable_word s (step_of s w) (feed_of (step_of s w).session ws) (moved s w v (way s w))
    (each_writable (step_of s w).session ws (kept s w v))

joins : {a b c : Session} → SameSettings a b → SameSettings b c → SameSettings a c
joins p q =
    record {
      domain = p.domain ∙ q.domain;
      instructions = p.instructions ∙ q.instructions;
      shared = p.shared ∙ q.shared;
      mine = p.mine ∙ q.mine;
    }

-- a command where the settings are the same: it passes in both sessions or in none, and leaves the same settings
record SameAfter (c : Command) (s u : Session) : Type 0 where
  domain : (after c s).party.domain ≡ (after c u).party.domain
  instructions : (after c s).party.instructions ≡ (after c u).party.instructions
  flag : (after c u).party.stopped ≡ u.party.stopped
  mine : (after c s).party.birth.mine ≡ (after c u).party.birth.mine

module _ (s u : Session) (e : SameSettings s u) where
  same_start : (c : Command) → start_rule_of c s ≡ start_rule_of c u
  unfolding start_rule_of
  same_start (command.Domain i0 j0 i1 j1) = refl
  same_start command.Start = λ j. ready_of (e.domain j) (e.instructions j) (e.shared j).mask (seen_outputs (e.mine j) (e.shared j).outputs)
  same_start (command.Effectless what) = refl
  same_start (command.Store what base format) = refl
  same_start (command.Input number base format height) = refl
  same_start (command.Output number base format height) = refl
  same_start (command.Conditional base format height) = refl
  same_start (command.OutputMask mask) = refl
  same_start (command.ConditionalMask mask) = refl
  same_start (command.Test test) = refl

  same_after : (c : Command) → SameAfter c s u
  unfolding after own_after
  same_after (command.Domain i0 j0 i1 j1) = record { domain = refl; instructions = e.instructions; flag = refl; mine = e.mine }
  same_after command.Start = record { domain = e.domain; instructions = e.instructions; flag = refl; mine = e.mine }
  same_after (command.Effectless what) = record { domain = e.domain; instructions = e.instructions; flag = refl; mine = e.mine }
  same_after (command.Store stored.Instructions base format) = record { domain = e.domain; instructions = refl; flag = refl; mine = e.mine }
  same_after (command.Store stored.Floats base format) = record { domain = e.domain; instructions = e.instructions; flag = refl; mine = e.mine }
  same_after (command.Store stored.Integers base format) = record { domain = e.domain; instructions = e.instructions; flag = refl; mine = e.mine }
  same_after (command.Store stored.Booleans base format) = record { domain = e.domain; instructions = e.instructions; flag = refl; mine = e.mine }
  same_after (command.Input number base format height) = record { domain = e.domain; instructions = e.instructions; flag = refl; mine = e.mine }
  same_after (command.Output number base format height) = record { domain = e.domain; instructions = e.instructions; flag = refl; mine = e.mine }
  same_after (command.Conditional base format height) = record { domain = e.domain; instructions = e.instructions; flag = refl; mine = e.mine }
  same_after (command.OutputMask mask) = record { domain = e.domain; instructions = e.instructions; flag = refl; mine = e.mine }
  same_after (command.ConditionalMask mask) = record { domain = e.domain; instructions = e.instructions; flag = refl; mine = e.mine }
  same_after (command.Test test) = record { domain = e.domain; instructions = e.instructions; flag = refl; mine = e.mine }

  settings_after : (c : Command) (n : ℕ) → SameSettings (after c s) (at_word (after c u) n none)
  unfolding after
  settings_after c n =
      record {
        domain = (same_after c).domain;
        instructions = (same_after c).instructions;
        shared = λ j. shared_after (e.mine j) c (e.shared j);
        mine = (same_after c).mine;
      }

-- the rest read again, from any session without an open command that has its settings and room for its words
abbrev Rest : Session → Fed → Type 0
Rest s f =
    (u : Session) → SameSettings s u → Idle u → u.party.taken + length (written f.commands) ≤ limit →
    ReadAgain f.commands f.session (feed_of u (written f.commands))

again_passed : (s : Session) (c : Command) (f : Fed) → Passed s c → Rest (after c s) f →
    (u : Session) → SameSettings s u → Idle u → u.party.taken + length (words_of c ++ written f.commands) ≤ limit →
    ReadAgain (c ∷ f.commands) f.session (feed_of u (words_of c ++ written f.commands))
unfolding joined written
again_passed s c f p rest u e i k =
    let ws : List ℕ = written f.commands in
    let sizes : length (words_of c ++ ws) ≡ length (words_of c) + length ws = length-append (words_of c) ws in
    let u' : Session = at_word (after c u) (u.party.taken + length (words_of c)) none in
    let first_read : feed_of u (words_of c) ≡ fed (length (words_of c)) (c ∷ []) nothing u' =
    reads_back u c i p.writes (subst (λ (m : ℕ). owned m c ≡ true) e.mine p.own) (omega arith) p.values (sym (same_start s u e c) ∙ p.start)
    in
    let both : feed_of u (words_of c ++ ws) ≡ joined (fed (length (words_of c)) (c ∷ []) nothing u') (feed_of u' ws) =
    cut u (words_of c) ws ∙ ap (λ (g : Fed). joined g (feed_of g.session ws)) first_read
    in
    let r : ReadAgain f.commands f.session (feed_of u' ws) =
    rest u' (settings_after s u e c (u.party.taken + length (words_of c)))
    (record { unstopped = (same_after s u e c).flag ∙ i.unstopped; unopened = refl }) (omega arith)
    in
    record {
      commands = ap (λ (g : Fed). g.commands) both ∙ ap (λ (cs : List Command). c ∷ cs) r.commands;
      unrefused = ap (λ (g : Fed). g.refusal) both ∙ r.unrefused;
      all_taken = ap (λ (g : Fed). g.taken) both ∙ ap (λ (n : ℕ). length (words_of c) + n) r.all_taken ∙ sym sizes;
      settings = subst (λ (g : Fed). SameSettings f.session g.session) (sym both) r.settings;
    }

again_word : (s : Session) (t : Stepped) (f : Fed) → Moved s t → Rest t.session f → Rest s (proceed t.reply t.session f)
unfolding proceed
again_word s t f (on x d) rest u e i k = rest u (joins d e) i k
again_word s t f (passed c p) rest u e i k = unfold written in again_passed s c f p rest u e i k
again_word s t f (off n x d) rest u e i k =
    unfold written feed_of in record { commands = refl; unrefused = refl; all_taken = refl; settings = joins d e }

-- "these read again, from the settings they first met, to the same commands"
pub read_again : (s : Session) (ws : List ℕ) → Valid s →
    (u : Session) → SameSettings s u → Idle u → u.party.taken + length (written (feed_of s ws).commands) ≤ limit →
    ReadAgain (feed_of s ws).commands (feed_of s ws).session (feed_of u (written (feed_of s ws).commands))
unfolding feed_of
read_again s [] v u e i k = unfold written in record { commands = refl; unrefused = refl; all_taken = refl; settings = e }
read_again s (w ∷ ws) v u e i k =
    again_word s (step_of s w) (feed_of (step_of s w).session ws) (moved s w v (way s w))
    (read_again (step_of s w).session ws (kept s w v)) u e i k
