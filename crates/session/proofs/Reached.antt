-- Every session that the entries give out is valid, and what the statements ask of a session holds of it. Assumes nothing.
use mathlib.Core.Path.{◌≡◌, refl, sym, ap, ◌∙◌, subst}
use mathlib.Core.List.{List, [], ◌∷◌, ◌++◌}
use Prim.Native.Nat.{ℕ, zero, suc, ◌+◌, ◌≤◌}
use native.Mathlib.Omega.{arith}
use lib.Dec.{eqb, leb}
use lib.ListN.{length, take, drop, length-append}
use lib.Seq.{take-append_seam}
use borrow.Author.Tests.{eqb-true, le-leb}
use Rattle.laws.specs.Choice.{pick}
use Rattle.laws.proofs.Choice.{Tested, tested, holds, fails, pick_yes, pick_no}
use Rattle.refusal.specs.Told.{Told, gives, refuses, then_told}
use Rattle.command.specs.Table.{header_of}
use Rattle.command.specs.Commands.{line_of, words_of}
use Rattle.rules.specs.Writer.{judge_command_of, write_of, room_after}
use Rattle.command.specs.declared.commands.Command.{Command}
use Rattle.command.proofs.Headers.{count_most}
use Rattle.command.proofs.WriteBack.{lined}
use Rattle.state.specs.State.{Session, none}
use Rattle.state.specs.Effects.{limit, after}
use Rattle.state.specs.Valid.{parameters_of, Valid, held_of}
use Rattle.session.specs.Step.{Stepped, step_of}
use Rattle.session.specs.Feed.{nothing, first, Fed, proceed, feed_of, written}
use Rattle.session.specs.Again.{Idle, SameSettings, ReadAgain, EachWritable}
use Rattle.session.specs.Tallies.{claims_of}
use Rattle.session.specs.Reached.{Reached, begun, word, piece, most_words, words_put, by_writer, all_by_writer, ReadInFull}
use Rattle.session.proofs.Ways.{Way, was_stopped, stops, opens, fills, ends, way}
use Rattle.session.proofs.Kept.{new_valid, effects_of, kept}
use Rattle.session.proofs.Refusals.{fed_valid}
use Rattle.session.proofs.WriteBack.{none_held, fed_back, taken_back}
use Rattle.session.proofs.ReadAgain.{each_writable, read_again}
use Rattle.session.proofs.Tallies.{Tallied, tallied, counted}

-- a new session is valid, and every word and every piece keeps it so
pub reached_valid : {s : Session} → Reached s → Valid s
reached_valid (begun edition e) = new_valid edition e
reached_valid (word {s} r w) = kept s w (reached_valid r)
reached_valid (piece {s} r ws) = fed_valid s ws (reached_valid r)

-- the writer gives the words of a command that it accepts, where the room has them
words_most : (c : Command) → length (words_of c) ≤ most_words
unfolding words_of
words_most c = omega (arith, (lined c).fields_count, count_most (line_of c) (lined c).line_most)

module _ (c : Command) (room : List ℕ) (fine : judge_command_of c ≡ gives []) (enough : length (words_of c) ≤ length room) where
  pub writer_tells : write_of c (length room) ≡ gives (length (words_of c) ∷ [])
  unfolding write_of then_told
  writer_tells =
      ap (λ (t : Told). then_told t (pick (leb (length (words_of c)) (length room)) (gives (length (words_of c) ∷ [])) (refuses 11))) fine ∙
      pick_yes _ _ (le-leb _ _ enough)

  pub writer_puts : by_writer c room ≡ words_of c
  unfolding by_writer words_put room_after
  writer_puts =
      ap (λ (t : Told). words_put t (room_after t c room)) writer_tells ∙ take-append_seam (words_of c) (drop (length (words_of c)) room)

all_put : (cs : List Command) (room : List ℕ) → EachWritable cs → most_words ≤ length room → all_by_writer cs room ≡ written cs
unfolding all_by_writer written
all_put [] room e h = refl
all_put (c ∷ cs) room e h =
    ap (λ (l : List ℕ). l ++ all_by_writer cs room) (writer_puts c room e.0 (omega (arith, words_most c))) ∙
    ap (λ (l : List ℕ). words_of c ++ l) (all_put cs room e.1 h)

-- so what the writer gives for the commands of a piece are their words
pub by_writer_lem :
    (s : Session) → Reached s → (ws room : List ℕ) → most_words ≤ length room →
    all_by_writer (feed_of s ws).commands room ≡ written (feed_of s ws).commands
by_writer_lem s r ws room h = all_put (feed_of s ws).commands room (each_writable s ws (reached_valid r)) h

-- "Accepted commands write back to the words they came from": the words held before, with those that a piece took, are what the writer
-- gives for its commands, and the words that they leave held; also where a later word is refused
pub back_by_writer :
    (s : Session) → Reached s → (ws room : List ℕ) → most_words ≤ length room →
    held_of s.party.opened ++ take (feed_of s ws).taken ws ≡
    all_by_writer (feed_of s ws).commands room ++ held_of (feed_of s (take (feed_of s ws).taken ws)).session.party.opened
back_by_writer s r ws room h =
    taken_back s ws (reached_valid r) ∙
    ap (λ (l : List ℕ). l ++ held_of (feed_of s (take (feed_of s ws).taken ws)).session.party.opened)
    (sym (by_writer_lem s r ws room h))

-- a piece without a refusal doesn't stop a session
no_first : {A : Type 0} {n : ℕ} → first n ≡ nothing → A
no_first e = absurd (let z : ◌≡◌ {A = ℕ} 0 1 = cc in omega arith)

flag_word : (s : Session) (w : ℕ) → Valid s → (t : Stepped) → Way s w t → (f : Fed) →
    (f.refusal ≡ nothing → f.session.party.stopped ≡ t.session.party.stopped) →
    (proceed t.reply t.session f).refusal ≡ nothing →
    (proceed t.reply t.session f).session.party.stopped ≡ s.party.stopped
unfolding proceed after
flag_word s w v t (was_stopped e) f rest k = no_first k
flag_word s w v t (stops n e) f rest k = no_first k
flag_word s w v t (opens r i j m) f rest k = rest k
flag_word s w v t (fills p m) f rest k = rest k
flag_word s w v t (ends p l c e u u' r q) f rest k = rest k ∙ (effects_of s w v p l c e u r).same_flag

flag_kept : (s : Session) (ws : List ℕ) → Valid s → (feed_of s ws).refusal ≡ nothing → (feed_of s ws).session.party.stopped ≡ s.party.stopped
unfolding feed_of
flag_kept s [] v e = refl
flag_kept s (w ∷ ws) v e =
    flag_word s w v (step_of s w) (way s w) (feed_of (step_of s w).session ws) (flag_kept (step_of s w).session ws (kept s w v)) e

-- an open command holds a word at least
nothing_held : (s : Session) → Valid s → length (held_of s.party.opened) ≡ 0 → s.party.opened ≡ none
unfolding held_of
nothing_held s v e = go (tested (eqb s.party.opened.line 21))
  where
    go : Tested (eqb s.party.opened.line 21) → s.party.opened ≡ none
    go (holds t) = v.closed (eqb-true _ _ t)
    go (fails t) =
        absurd
        (let z : length (header_of s.party.opened.line ∷ take s.party.opened.count (parameters_of s.party.opened)) ≡ 0 =
        sym (ap length (pick_no [] (header_of s.party.opened.line ∷ take s.party.opened.count (parameters_of s.party.opened)) t)) ∙ e
        in omega arith)

nil_held : (s : Session) → Idle s → held_of s.party.opened ≡ []
nil_held s i = ap held_of i.unopened ∙ none_held none refl

-- "these read again, from the settings they first met, to the same commands": by any session between two commands that has these
-- settings, and room for the words
module _
    (s : Session)
    (r : Reached s)
    (ws : List ℕ)
    (u : Session)
    (ru : Reached u)
    (same : SameSettings s u)
    (i : Idle u)
    (room : u.party.taken + length (written (feed_of s ws).commands) ≤ limit)
  where
    abbrev cs : List Command
    cs = (feed_of s ws).commands

    abbrev f : Fed
    f = feed_of u (written cs)

    again : ReadAgain cs (feed_of s ws).session f
    again = read_again s ws (reached_valid r) u same i room

    after_valid : Valid f.session
    after_valid = fed_valid u (written cs) (reached_valid ru)

    all_written : written cs ≡ written cs ++ held_of f.session.party.opened
    all_written =
        sym (ap (λ (h : List ℕ). h ++ written cs) (nil_held u i)) ∙
        fed_back u (written cs) (reached_valid ru) again.unrefused ∙
        ap (λ (d : List Command). written d ++ held_of f.session.party.opened) again.commands

    ends_idle : Idle f.session
    ends_idle =
        record {
          unstopped = flag_kept u (written cs) (reached_valid ru) again.unrefused ∙ i.unstopped;
          unopened =
              nothing_held f.session after_valid
              (omega (arith, ap length all_written, length-append (written cs) (held_of f.session.party.opened)));
        }

    pub read_in_full : ReadInFull s cs (feed_of s ws).session u f
    read_in_full =
        let first_time = tallied s ws in
        let second_time = subst (λ (d : List Command). Tallied u d f.session) again.commands (tallied u (written cs)) in
        let claimed :
        claims_of u.party.birth cs u.party.domain u.shared.mask u.shared.outputs ≡
        claims_of u.party.birth cs s.party.domain s.shared.mask s.shared.outputs
        = λ j. claims_of u.party.birth cs (sym same.domain j) (sym same.shared j).mask (sym same.shared j).outputs
        in
        record {
          again = again;
          runs = second_time.runs;
          runs_first = first_time.runs;
          claims = second_time.claims ∙ ap (λ (n : ℕ). u.party.tally.claims + n) claimed;
          claims_first = first_time.claims;
          idle = ends_idle;
        }

-- so by the session itself that they first met: it has room for them, since it took them once
module _ (s : Session) (r : Reached s) (i : Idle s) (ws : List ℕ) where
  abbrev wrote : List ℕ
  wrote = written (feed_of s ws).commands

  abbrev rest : List ℕ
  rest = held_of (feed_of s (take (feed_of s ws).taken ws)).session.party.opened

  took_all : length (take (feed_of s ws).taken ws) ≡ length wrote + length rest
  took_all =
      ap length
      (sym (ap (λ (h : List ℕ). h ++ take (feed_of s ws).taken ws) (nil_held s i)) ∙ taken_back s ws (reached_valid r)) ∙
      length-append wrote rest

  has_room : s.party.taken + length wrote ≤ limit
  has_room =
      omega (arith, took_all, take_most (feed_of s ws).taken ws, counted s ws, (fed_valid s ws (reached_valid r)).full)
    where
      take_most : (n : ℕ) (l : List ℕ) → length (take n l) ≤ n
      take_most zero l = omega arith
      take_most (suc n) [] = omega arith
      take_most (suc n) (x ∷ l) = omega (arith, take_most n l)

  pub read_here : ReadInFull s (feed_of s ws).commands (feed_of s ws).session s (feed_of s wrote)
  read_here = read_in_full s r ws s r (record { domain = refl; instructions = refl; shared = refl; mine = refl }) i has_room
