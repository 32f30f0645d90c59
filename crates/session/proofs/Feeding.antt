-- A piece, word by word as the code feeds it, is the definition's fold. Assumes nothing.
use mathlib.Core.Path.{◌≡◌, refl, sym, ap, ap₂, ◌∙◌, subst}
use mathlib.Core.Bool.{true}
use mathlib.Core.List.{List, [], ◌∷◌, ◌++◌, append_assoc, append-nil}
use Prim.Native.Nat.{ℕ, suc, ◌+◌, ◌-◌, ◌<◌, ◌≤◌}
use native.Mathlib.Nat.{zero-add, add-zero}
use native.Mathlib.Numerals.{add-one}
use native.Mathlib.Omega.{arith}
use lib.ListN.{length, get_or, drop, length-append, length-drop, drop_of_length-le}
use lib.Seq.{drop-cons, drop-drop}
use Rattle.refusal.specs.Number.{number_of}
use Rattle.refusal.specs.declared.Refusal.{Refusal}
use Rattle.refusal.specs.Told.{gives}
use Rattle.command.specs.Commands.{words_of}
use Rattle.rules.specs.Writer.{judge_command_of}
use Rattle.command.specs.declared.commands.Command.{Command}
use Rattle.command.specs.declared.commands.Command.TheVariants as command
use Rattle.command.specs.declared.commands.Stored.TheVariants as stored
use Rattle.command.proofs.Headers.{count_most}
use Rattle.command.proofs.WriteBack.{lined}
use Rattle.owners.specs.Owners.{owned}
use Rattle.state.specs.State.{Open as Opened, Session, none}
use Rattle.state.specs.Effects.{own_after, after}
use Rattle.session.specs.Step.{Reply, still_open, completed, refused, Stepped, start_rule_of, step_of}
use Rattle.state.specs.Valid.{Valid}
use Rattle.session.specs.Again.{fed, at_word}
use Rattle.accept.specs.Whole.{Ready, most_words, every_word, Tried, untaken, accepted as taken_whole, Begun, begun, unbegun}
use Rattle.session.specs.Feed.{First, nothing, first, onward, ended, proceed, feed_of, joined}
use Rattle.session.specs.Feed as piece
use Rattle.session.specs.Answers.{PieceLeft}
use Rattle.state.specs.Asked.{Given, Held}
use Rattle.session.specs.Asked.{Left, Told, Reach, ahead, Fold}
use Rattle.state.specs.Cells.{party_of, session_of}
use Rattle.std.specs.Prelude.{Option, None, Some, Ok}
use Rattle.session.specs.declared.stream.Progress.{Progress}
use Rattle.session.specs.declared.stream.Progress.TheVariants.{Open, Whole}
use Rattle.session.specs.declared.stream.Fed.{Fed}
use Rattle.state.proofs.Cells.{held_view, held_given}
use Rattle.session.proofs.Cut.{cut}
use Rattle.session.proofs.Handed.{word_given}
use Rattle.session.proofs.Kept.{kept}
use Rattle.session.proofs.Numbers.{told_open, told_whole}
use Rattle.session.proofs.ReadBack.{reads_back}
use Rattle.session.proofs.Refusals.{fed_valid}
use Rattle.session.proofs.Taking.{same}

fed_path : {m n : ℕ} {c d : List Command} {r : First} {s : Session} → m ≡ n → c ≡ d →
    ◌≡◌ {A = piece.Fed} (record { taken = m; commands = c; refusal = r; session = s }) (record { taken = n; commands = d; refusal = r; session = s })
fed_path {r = r} {s = s} p q = λ k. record { taken = p k; commands = q k; refusal = r; session = s }

pub fold_begins : (ws l t c : List ℕ) → Given l t c → Fold (session_of l t c) ws l t c 0 0
fold_begins ws l t c g =
    record {
      done = [];
      given = g;
      within = omega arith;
      number = refl;
      fewer = omega arith;
      rest = fed_path (sym (zero-add _)) refl;
    }

-- a command has two to five words
words_most : (x : Command) → (1 ≤ length (words_of x)) × (length (words_of x) ≤ 5)
unfolding words_of
words_most x = (omega arith, omega (arith, (lined x).fields_count, count_most _ (lined x).line_most))

-- cells that whole commands may take the longest command's words of are ready for any
pub reach_ready : (l t c : List ℕ) (r : ℕ) → Given l t c → Reach l r → most_words ≤ r → Ready l t c
unfolding party_of
reach_ready l t c r g x h =
    record {
      given = g;
      idle =
          record {
            unstopped = omega (arith, x.running (omega arith), g.valid.flag);
            unopened = g.valid.closed (x.unopened (omega arith));
          };
      room = omega (arith, x.room (omega arith));
    }

pub no_reach : (l : List ℕ) → Reach l 0
no_reach l = record { running = λ h. absurd (omega arith); unopened = λ h. absurd (omega arith); room = λ h. absurd (omega arith) }

pub reach_as : (l : List ℕ) (m n : ℕ) → m ≡ n → Reach l m → Reach l n
reach_as l m n e x = subst (Reach l) e x

-- a command changes nothing of whether the session is stopped
still_running : (x : Command) (s : Session) → (after x s).party.stopped ≡ s.party.stopped
unfolding after own_after
still_running (command.Domain i0 j0 i1 j1) s = refl
still_running command.Start s = refl
still_running (command.Effectless what) s = refl
still_running (command.Store stored.Instructions base format) s = refl
still_running (command.Store stored.Floats base format) s = refl
still_running (command.Store stored.Integers base format) s = refl
still_running (command.Store stored.Booleans base format) s = refl
still_running (command.Input number base format height) s = refl
still_running (command.Output number base format height) s = refl
still_running (command.Conditional base format height) s = refl
still_running (command.OutputMask mask) s = refl
still_running (command.ConditionalMask mask) s = refl
still_running (command.Test test) s = refl

-- what is begun from a place on is begun from its part of the rest
pub begun_there : (ws l t c : List ℕ) (j i m : ℕ) (l1 t1 c1 : List ℕ) → Begun (drop (j + i) ws) l t c m l1 t1 c1 →
    Begun (drop i (drop j ws)) l t c m l1 t1 c1
begun_there ws l t c j i m l1 t1 c1 b = subst (λ (x : List ℕ). Begun x l t c m l1 t1 c1) (sym (drop-drop i j ws)) b

pub begun_most : (ws l t c : List ℕ) (m : ℕ) (l1 t1 c1 : List ℕ) → Begun ws l t c m l1 t1 c1 → m ≤ most_words
begun_most ws l t c m l1 t1 c1 (begun x m2 l2 t2 c2 tried) = go x m2 tried
  where
    go : (x : Command) (m : ℕ) → {l1 t1 c1 : List ℕ} → Tried x ws (every_word x) l t c m l1 t1 c1 → m ≤ most_words
    go x m (untaken d) = omega arith
    go x m (taken_whole later l3 t3 c3 begins fine own rule held) = (words_most x).1
begun_most ws l t c m l1 t1 c1 (unbegun d) = omega arith

drop_front : (xs ys : List ℕ) → drop (length xs) (xs ++ ys) ≡ ys
drop_front [] ys = refl
drop_front (x ∷ xs) ys = drop_front xs ys

abbrev answered : ℕ → ℕ → Option Refusal → Fed
answered i n r = record { taken = record { 0 = i }; commands = n; refusal = r }

module _ (s : Session) (ws l t c : List ℕ) (i n : ℕ) (f : Fold s ws l t c i n) where
  -- the piece's end
  pub fold_ends : length ws ≤ i → PieceLeft (feed_of s ws) (answered i n None) l t c
  fold_ends h =
      subst (λ (x : piece.Fed). PieceLeft x (answered i n None) l t c)
      (sym (f.rest ∙ ap (λ (r : List ℕ). ahead i f.done (feed_of (session_of l t c) r)) (drop_of_length-le ws h)))
      (unfold feed_of in
      record {
        taken = sym (add-zero i);
        commands = sym (ap length (append-nil f.done) ∙ f.number);
        refusal = refl;
        held = same l t c 0 f.given;
      })

  -- a command that is taken whole
  module _
      (x : Command)
      (later l1 t1 c1 : List ℕ)
      (y : Ready l t c)
      (begins : drop i ws ≡ words_of x ++ later)
      (fine : judge_command_of x ≡ gives [])
      (own : owned (session_of l t c).party.birth.mine x ≡ true)
      (rule : start_rule_of x (session_of l t c) ≡ gives [])
      (held : Held (at_word (after x (session_of l t c)) ((session_of l t c).party.taken + length (words_of x)) (session_of l t c).party.opened) l1 t1 c1)
    where
      abbrev size : ℕ
      size = length (words_of x)

      abbrev left : Session
      left = at_word (after x (session_of l t c)) ((session_of l t c).party.taken + size) none

      read : feed_of (session_of l t c) (words_of x) ≡ fed size (x ∷ []) nothing left
      read = reads_back (session_of l t c) x y.idle fine own (omega (arith, y.room, (words_most x).1)) [] rule

      now_held : Held left l1 t1 c1
      now_held =
          subst (λ (o : Opened). Held (at_word (after x (session_of l t c)) ((session_of l t c).party.taken + size) o) l1 t1 c1)
          y.idle.unopened held

      valid : Valid left
      valid =
          subst (λ (a : piece.Fed). Valid a.session) read (fed_valid (session_of l t c) (words_of x) f.given.valid)

      rejoined : feed_of (session_of l t c) (drop i ws) ≡ ahead size (x ∷ []) (feed_of left later)
      unfolding joined
      rejoined =
          ap (feed_of (session_of l t c)) begins ∙ cut (session_of l t c) (words_of x) later ∙
          ap (λ (a : piece.Fed). joined a (feed_of a.session later)) read

      behind : later ≡ drop (i + size) ws
      behind = sym (drop_front (words_of x) later) ∙ ap (drop size) (sym begins) ∙ drop-drop size i ws

      fits : size + length later ≡ length ws - i
      fits = sym (length-append (words_of x) later) ∙ ap length (sym begins) ∙ length-drop i ws

      whole_goes : i < length ws → Fold s ws l1 t1 c1 (i + size) (n + 1)
      whole_goes less =
          record {
            done = f.done ++ (x ∷ []);
            given = held_given left valid l1 t1 c1 now_held;
            within = omega (arith, fits, less);
            number = length-append f.done (x ∷ []) ∙ ap (λ (a : ℕ). a + 1) f.number;
            fewer = omega (arith, f.fewer, (words_most x).0);
            rest =
                f.rest ∙ ap (ahead i f.done) rejoined ∙
                fed_path (plus i size (feed_of left later).taken) (sym (append_assoc f.done (x ∷ []) (feed_of left later).commands)) ∙
                ap (ahead (i + size) (f.done ++ (x ∷ []))) (ap₂ feed_of (sym (held_view left valid l1 t1 c1 now_held)) behind);
          }
        where
          plus : (a b d : ℕ) → a + (b + d) ≡ a + b + d
          plus a b d = omega arith

      whole_reach : (r : ℕ) → Reach l r → most_words ≤ r → Reach l1 (r - size)
      unfolding party_of
      whole_reach r h k =
          record {
            running = λ q e. omega (arith, e, stopped, y.idle.unstopped);
            unopened = λ q. ap (λ (u : Session). u.party.opened.line) view;
            room = λ q. omega (arith, ap (λ (u : Session). u.party.taken) view, h.room (omega arith), (words_most x).1);
          }
        where
          view : session_of l1 t1 c1 ≡ left
          view = held_view left valid l1 t1 c1 now_held

          stopped : (session_of l1 t1 c1).party.stopped ≡ (session_of l t c).party.stopped
          stopped = ap (λ (u : Session). u.party.stopped) view ∙ still_running x (session_of l t c)

  tried_goes : (x : Command) (m : ℕ) (l1 t1 c1 : List ℕ) → Ready l t c → i < length ws → 0 < m →
      Tried x (drop i ws) (length (words_of x)) l t c m l1 t1 c1 → Fold s ws l1 t1 c1 (i + m) (n + 1)
  tried_goes x m l1 t1 c1 y less k (untaken d) = absurd (omega arith)
  tried_goes x m l1 t1 c1 y less k (taken_whole later l2 t2 c2 begins fine own rule held) =
      whole_goes x later l2 t2 c2 y begins fine own rule held less

  pub fold_whole : (m : ℕ) (l1 t1 c1 : List ℕ) → Ready l t c → i < length ws → 0 < m → Begun (drop i ws) l t c m l1 t1 c1 →
      Fold s ws l1 t1 c1 (i + m) (n + 1)
  fold_whole m l1 t1 c1 y less k (begun x m2 l2 t2 c2 q) = tried_goes x m2 l2 t2 c2 y less k q
  fold_whole m l1 t1 c1 y less k (unbegun d) = absurd (omega arith)

  -- and what may be taken behind it
  tried_reach : (x : Command) (m : ℕ) (l1 t1 c1 : List ℕ) → Ready l t c → 0 < m → (r : ℕ) → Reach l r → most_words ≤ r →
      Tried x (drop i ws) (length (words_of x)) l t c m l1 t1 c1 → Reach l1 (r - m)
  tried_reach x m l1 t1 c1 y k r h five (untaken d) = absurd (omega arith)
  tried_reach x m l1 t1 c1 y k r h five (taken_whole later l2 t2 c2 begins fine own rule held) =
      whole_reach x later l2 t2 c2 y begins fine own rule held r h five

  pub fold_reach : (m : ℕ) (l1 t1 c1 : List ℕ) → Ready l t c → 0 < m → (r : ℕ) → Reach l r → most_words ≤ r →
      Begun (drop i ws) l t c m l1 t1 c1 → Reach l1 (r - m)
  fold_reach m l1 t1 c1 y k r h five (begun x m2 l2 t2 c2 q) = tried_reach x m2 l2 t2 c2 y k r h five q
  fold_reach m l1 t1 c1 y k r h five (unbegun d) = absurd (omega arith)

  tried_same : (x : Command) (m : ℕ) (l1 t1 c1 : List ℕ) → m ≤ 0 →
      Tried x (drop i ws) (length (words_of x)) l t c m l1 t1 c1 → Fold s ws l1 t1 c1 i n
  tried_same x m l1 t1 c1 k (untaken d) = f
  tried_same x m l1 t1 c1 k (taken_whole later l2 t2 c2 begins fine own rule held) = absurd (omega (arith, (words_most x).0))

  pub fold_same : (m : ℕ) (l1 t1 c1 : List ℕ) → m ≤ 0 → Begun (drop i ws) l t c m l1 t1 c1 → Fold s ws l1 t1 c1 i n
  fold_same m l1 t1 c1 k (begun x m2 l2 t2 c2 q) = tried_same x m2 l2 t2 c2 k q
  fold_same m l1 t1 c1 k (unbegun d) = f

  -- words of the rest that were taken
  pub fold_joined : (l1 t1 c1 : List ℕ) (k m : ℕ) → Fold (session_of l t c) (drop i ws) l1 t1 c1 k m → Fold s ws l1 t1 c1 (i + k) (n + m)
  fold_joined l1 t1 c1 k m g =
      record {
        done = f.done ++ g.done;
        given = g.given;
        within = omega (arith, f.within, g.within, length-drop i ws);
        number = length-append f.done g.done ∙ ap₂ (λ (a b : ℕ). a + b) f.number g.number;
        fewer = omega (arith, f.fewer, g.fewer);
        rest =
            f.rest ∙ ap (ahead i f.done) g.rest ∙
            fed_path (plus i k later.taken) (sym (append_assoc f.done g.done later.commands)) ∙
            ap (λ (r : List ℕ). ahead (i + k) (f.done ++ g.done) (feed_of (session_of l1 t1 c1) r)) (drop-drop k i ws);
      }
    where
      later : piece.Fed
      later = feed_of (session_of l1 t1 c1) (drop k (drop i ws))

      plus : (a b d : ℕ) → a + (b + d) ≡ a + b + d
      plus a b d = omega arith

  module _ (less : i < length ws) (l1 t1 c1 : List ℕ) where
    abbrev w : ℕ
    w = get_or ws i 0

    abbrev step : Stepped
    step = step_of (session_of l t c) w

    here : feed_of s ws ≡ ahead i f.done (proceed step.reply step.session (feed_of step.session (drop (suc i) ws)))
    here =
        f.rest ∙
        ap (λ (r : List ℕ). ahead i f.done (feed_of (session_of l t c) r)) (drop-cons ws i 0 less) ∙ unfold feed_of in refl

    -- a word that is refused
    pub fold_refused : (why : Refusal) → Left step (refused (number_of why)) l1 t1 c1 →
        PieceLeft (feed_of s ws) (answered i n (Some why)) l1 t1 c1
    fold_refused why h =
        subst (λ (x : piece.Fed). PieceLeft x (answered i n (Some why)) l1 t1 c1)
        (sym (here ∙ ap (λ (r : Reply). ahead i f.done (proceed r step.session (feed_of step.session (drop (suc i) ws)))) (sym h.reply)))
        (unfold proceed in
        record {
          taken = sym (add-zero i);
          commands = sym (ap length (append-nil f.done) ∙ f.number);
          refusal = refl;
          held = h.held;
        })

    -- a word that is taken
    goes : (y : Reply) → Left step y l1 t1 c1 → (cs : List Command) → length cs ≤ 1 →
        ((r : piece.Fed) → proceed y step.session r ≡ onward cs r) → (m : ℕ) → n + length cs ≡ m → Fold s ws l1 t1 c1 (i + 1) m
    goes y h cs few p m e =
        record {
          done = f.done ++ cs;
          given = word_given w y f.given h;
          within = omega (arith, less);
          number = length-append f.done cs ∙ ap (λ (a : ℕ). a + length cs) f.number ∙ e;
          fewer = omega (arith, f.fewer, few, e);
          rest =
              here ∙ ap (λ (r : Reply). ahead i f.done (proceed r step.session later)) (sym h.reply) ∙
              ap (ahead i f.done) (p later) ∙ fed_path (plus i later.taken) (sym (append_assoc f.done cs later.commands)) ∙
              ap (ahead (i + 1) (f.done ++ cs)) (ap₂ feed_of (sym view) (ap (λ (m : ℕ). drop m ws) (sym (add-one i))));
        }
      where
        later : piece.Fed
        later = feed_of step.session (drop (suc i) ws)

        view : session_of l1 t1 c1 ≡ step.session
        view = held_view step.session (kept (session_of l t c) w f.given.valid) l1 t1 c1 h.held

        plus : (a b : ℕ) → a + suc b ≡ a + 1 + b
        plus a b = omega arith

    pub fold_open : {p : Progress} → p ≡ Open → Told step (Ok p) l1 t1 c1 → Fold s ws l1 t1 c1 (i + 1) n
    fold_open e h =
        goes still_open (told_open step e h) [] (omega arith) (λ r. unfold proceed in refl) n (add-zero n)

    pub fold_completed : {p : Progress} → p ≡ Whole → Told step (Ok p) l1 t1 c1 → Fold s ws l1 t1 c1 (i + 1) (n + 1)
    fold_completed e h =
        let k = told_whole step e h in
        goes (completed k.command) k.left (k.command ∷ []) (omega arith) (λ r. unfold proceed in refl) (n + 1) refl
