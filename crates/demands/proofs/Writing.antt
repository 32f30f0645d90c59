-- Demand 2 over calls: the six numbers with which egretfold_session_word tells of a command, handed to egretfold_command_write, give back the words
-- that the command came from. Assumes nothing.
use mathlib.Core.Path.{◌≡◌, refl, sym, ap, ap₂, ◌∙◌, subst}
use mathlib.Core.List.{List, [], ◌∷◌, ◌++◌, append-nil, append_assoc}
use Prim.Native.Nat.{ℕ, ◌≤◌}
use native.Mathlib.Omega.{arith}
use lib.ListN.{length, get_or, take, drop}
use lib.Seq.{take-append_seam, drop-append_seam}
use Rattle.refusal.specs.Told.{Told, gives, refuses}
use Rattle.refusal.specs.Crossing.{Crosses, status_of, room_of}
use Rattle.command.specs.Table.{header_of}
use Rattle.command.specs.Commands.{line_of, fields_of, words_of}
use Rattle.command.specs.declared.commands.Command.{Command}
use Rattle.command.proofs.Headers.{count_most}
use Rattle.command.proofs.Known.{on_line_lem}
use Rattle.command.proofs.WriteBack.{lined}
use Rattle.rules.specs.Writer.{judge_command_of, write_of, room_after}
use Rattle.rules.proofs.Readable.{readable}
use Rattle.command_rooms.specs.Rooms.{command_with, named_write_of, named_room, CommandCrosses}
use Rattle.state.specs.State.{Party, Session, none}
use Rattle.state.specs.Cells.{party_of, session_of}
use Rattle.state.specs.Asked.{Given, Held}
use Rattle.state.specs.Effects.{after}
use Rattle.state.specs.Valid.{Valid, held_of}
use Rattle.state.proofs.Cells.{party_back, held_given}
use Rattle.session.specs.Step.{Reply, Stepped, still_open, completed, refused, step_of}
use Rattle.session.specs.Again.{EachWritable}
use Rattle.session.specs.Feed.{proceed, feed_of, accepts, emitted}
use Rattle.session.specs.Reached.{most_words}
use Rattle.session.proofs.Kept.{effects_of, kept}
use Rattle.session.proofs.Reached.{writer_tells}
use Rattle.session.proofs.ReadAgain.{each_writable}
use Rattle.session.proofs.Refusals.{refused_word}
use Rattle.session.proofs.Ways.{Way, was_stopped, stops, opens, fills, ends, way}
use Rattle.session.proofs.WriteBack.{none_held, taken}
use Rattle.session_rooms.specs.Rooms.{reply_told}
use Rattle.demands.proofs.Numbers.{word_least}
use Rattle.demands.specs.Writing.{Spelled, last, before, Writes}

-- what a word's answer with status 0 says of the reply
module _ (s : Session) (w : ℕ) {r : ℕ} {room room' : List ℕ} (c : Crosses (reply_told (step_of s w).reply) r room room') (z : r ≡ 0) where
  no_refusal : (n : ℕ) → (step_of s w).reply ≡ refused n → ⊥
  no_refusal n e =
      let k : 1 ≤ n = word_least (refused_word s w n e) in
      omega (arith, k, z, c.status, ap (λ (y : Reply). status_of (reply_told y)) e)

  shows : (y : Reply) → (step_of s w).reply ≡ y → room' ≡ room_of (reply_told y) room
  shows y e = c.room ∙ ap (λ (y : Reply). room_of (reply_told y) room) e

  open_still : get_or room' 0 0 ≡ 0 → (step_of s w).reply ≡ still_open
  open_still q = go (step_of s w).reply refl
    where
      go : (y : Reply) → (step_of s w).reply ≡ y → (step_of s w).reply ≡ still_open
      go still_open e = e
      go (completed d) e = absurd (omega (arith, q, ap (λ (l : List ℕ). get_or l 0 0) (shows (completed d) e)))
      go (refused n) e = absurd (no_refusal n e)

  record Tells : Type 0 where
    command : Command
    replied : (step_of s w).reply ≡ completed command

  tells : get_or room' 0 0 ≡ 1 → Tells
  tells q = go (step_of s w).reply refl
    where
      go : (y : Reply) → (step_of s w).reply ≡ y → Tells
      go still_open e = absurd (omega (arith, q, ap (λ (l : List ℕ). get_or l 0 0) (shows still_open e)))
      go (completed d) e = record { command = d; replied = e }
      go (refused n) e = absurd (no_refusal n e)

-- a word that leaves its command open is held
held_more : (s : Session) → Valid s → (w : ℕ) → (step_of s w).reply ≡ still_open →
    held_of s.party.opened ++ (w ∷ []) ≡ held_of (step_of s w).session.party.opened
unfolding accepts emitted
held_more s v w e =
    taken s w v (ap accepts e) ∙ ap (λ (y : Reply). emitted y ++ held_of (step_of s w).session.party.opened) e

-- a completed command: its words, and that the writer takes it
module _ (s : Session) (v : Valid s) (w : ℕ) (d : Command) where
  none_open : (t : Stepped) → Way s w t → t.reply ≡ completed d → held_of t.session.party.opened ≡ []
  unfolding after
  none_open t (was_stopped e) q = absurd (apart q)
    where
      apart : {n : ℕ} → refused n ≡ completed d → ⊥
      apart q = let z : ◌≡◌ {A = ℕ} 0 1 = cc in omega arith
  none_open t (stops n e) q = absurd (apart q)
    where
      apart : {n : ℕ} → refused n ≡ completed d → ⊥
      apart q = let z : ◌≡◌ {A = ℕ} 0 1 = cc in omega arith
  none_open t (opens r i k m) q = absurd (apart q)
    where
      apart : still_open ≡ completed d → ⊥
      apart q = let z : ◌≡◌ {A = ℕ} 0 1 = cc in omega arith
  none_open t (fills p m) q = absurd (apart q)
    where
      apart : still_open ≡ completed d → ⊥
      apart q = let z : ◌≡◌ {A = ℕ} 0 1 = cc in omega arith
  none_open t (ends p l c e u u' r q') q = ap held_of (effects_of s w v p l c e u r).same_open ∙ none_held none refl

  module _ (e : (step_of s w).reply ≡ completed d) where
    words_held : held_of s.party.opened ++ (w ∷ []) ≡ words_of d
    unfolding accepts emitted
    words_held =
        taken s w v (ap accepts e) ∙ ap (λ (y : Reply). emitted y ++ held_of (step_of s w).session.party.opened) e ∙
        ap (λ (l : List ℕ). words_of d ++ l) (none_open (step_of s w) (way s w) e) ∙ append-nil (words_of d)

    fine : judge_command_of d ≡ gives []
    fine = by (each_writable s (w ∷ []) v)
      where
        by : EachWritable (feed_of s (w ∷ [])).commands → judge_command_of d ≡ gives []
        by h = subst (λ (y : Reply). EachWritable (proceed y (step_of s w).session (feed_of (step_of s w).session [])).commands → judge_command_of d ≡ gives []) (sym e) (λ k. unfold proceed in k.0) (unfold feed_of in h)

-- a command has at most five words
words_most : (d : Command) → length (words_of d) ≤ most_words
unfolding words_of
words_most d = omega (arith, (lined d).fields_count, count_most (line_of d) (lined d).line_most)

-- the writer, asked with the header and the four fields of a command that it takes
module _ (d : Command) (fine : judge_command_of d ≡ gives []) (room : List ℕ) (enough : most_words ≤ length room) where
  abbrev fields : List ℕ
  fields = get_or (fields_of d) 0 0 ∷ get_or (fields_of d) 1 0 ∷ get_or (fields_of d) 2 0 ∷ get_or (fields_of d) 3 0 ∷ []

  tells_words : write_of d (length room) ≡ gives (length (words_of d) ∷ [])
  tells_words = writer_tells d room fine (omega (arith, words_most d, enough))

  named : named_write_of (header_of (line_of d)) fields room ≡ gives (length (words_of d) ∷ [])
  named =
      on_line_lem (header_of (line_of d)) (λ line. write_of (command_with fields line) (length room)) (refuses 2) (line_of d) (readable d fine).header_known ∙
      ap (λ (x : Command). write_of x (length room)) (readable d fine).read_again ∙ tells_words

  left : named_room (header_of (line_of d)) fields room ≡ words_of d ++ drop (length (words_of d)) room
  unfolding room_after
  left =
      on_line_lem (header_of (line_of d)) (λ line. room_after (write_of (command_with fields line) (length room)) (command_with fields line) room) room (line_of d)
      (readable d fine).header_known ∙
      ap (λ (x : Command). room_after (write_of x (length room)) x room) (readable d fine).read_again ∙
      ap (λ (t : Told). room_after t d room) tells_words

  wrote : {r : ℕ} {room' written written' : List ℕ} → CommandCrosses (header_of (line_of d)) fields r room room' written written' → Writes (words_of d) r room room' written'
  wrote {written = written} c =
      record {
        answered = c.answer.status ∙ ap status_of named;
        told = c.answer.room ∙ ap (λ (t : Told). room_of t written) named;
        put = ap (take (length (words_of d))) (c.room ∙ left) ∙ take-append_seam (words_of d) _;
        rest = ap (drop (length (words_of d))) (c.room ∙ left) ∙ drop-append_seam (words_of d) _;
      }

-- from the words that an open command held, through calls that leave it open, to the one that completes it
pub spelled_back :
    {own tallies shared ws end : List ℕ} → Given own tallies shared → Spelled own tallies shared ws end →
    (r : ℕ) (room room' written written' : List ℕ) → most_words ≤ length room →
    CommandCrosses (get_or end 1 0) (drop 2 end) r room room' written written' →
    Writes (held_of (party_of own tallies).opened ++ ws) r room room' written'
spelled_back {own} {tallies} {shared} g (last w r' own' tallies' shared' a b c z one) r room room' written written' enough k =
    let s : Session = session_of own tallies shared in
    let t = tells s w c.answer z one in
    let d : Command = t.command in
    let fine' = fine s g.valid w d t.replied in
    let shown = shows s w c.answer z (completed d) t.replied in
    subst (λ (l : List ℕ). Writes l r room room' written') (sym (words_held s g.valid w d t.replied))
    (wrote d fine' room enough (subst (λ (l : List ℕ). CommandCrosses (get_or l 1 0) (drop 2 l) r room room' written written') shown k))
spelled_back {own} {tallies} {shared} g (before w r' own' tallies' shared' a b c z none {ws} {end} rest) r room room' written written' enough k =
    let s : Session = session_of own tallies shared in
    let e = open_still s w c.answer z none in
    let g' : Given own' tallies' shared' = held_given (step_of s w).session (kept s w g.valid) own' tallies' shared' c.held in
    let later = spelled_back g' rest r room room' written written' enough k in
    subst (λ (l : List ℕ). Writes l r room room' written')
    (ap (λ (l : List ℕ). l ++ ws) (same_held s c.held ∙ sym (held_more s g.valid w e)) ∙ append_assoc (held_of s.party.opened) (w ∷ []) ws) later
  where
    same_held : (s : Session) → Held (step_of s w).session own' tallies' shared' → held_of (party_of own' tallies').opened ≡ held_of (step_of s w).session.party.opened
    same_held s h = ap held_of (ap (λ (p : Party). p.opened) (ap₂ party_of h.own_cells h.tally_cells_lem ∙ party_back (step_of s w).session.party))
