-- Sessions: demands 1 and 2 word by word, what a start asks, silent outputs (request 2) and the stored readiness (request 6).
-- A page behind Demands.antt, made as that one is: each statement under its sentence, each proof a citation. Assumes nothing.
use mathlib.Core.Path.{◌≡◌}
use mathlib.Core.List.{List, ◌∷◌, ◌++◌}
use Prim.Native.Nat.{ℕ, ◌+◌, ◌≤◌}
use lib.ListN.{length, take}
use Rattle.state.specs.State.{Session, new_session}
use Rattle.state.specs.Valid.{held_of}
use Rattle.session.specs.Step.{refused, start_rule_of, step_of}
use Rattle.session.specs.Feed.{first, ended as feed_ended, feed_of, written, fed_pieces, uncut}
use Rattle.session.specs.Refusals.{RefusedTo}
use Rattle.session.specs.Again.{Idle}
use Rattle.session.specs.Reached.{Reached, most_words, all_by_writer, ReadInFull}
use Rattle.session.specs.Silent.{AsBefore}
use Rattle.session.specs.Stored.{told_by, forgotten, SameAnswers}
use Rattle.session.proofs.Cut.{cut_anywhere}
use Rattle.session.proofs.Reached.{by_writer_lem, back_by_writer, read_here}
use Rattle.session.proofs.Refusals.{refused_word, refused_piece_lem, stopped_for_good, stopped_piece}
use Rattle.lessees.specs.Owning.{OwnsAll, OwnerNumber, OwnerRefused}
use Rattle.lessees.proofs.Owning.{owner_refused, reached_owns, piece_number}
use Rattle.session.proofs.Silent.{as_before}
use Rattle.session.proofs.Stored.{start_reads, as_before as forgotten_answers}
use Rattle.session.proofs.Tallies.{Tallied, tallied, counted}
use Rattle.demands.specs.Windows.{InOrder}
use Rattle.demands.proofs.Windows.{in_order_told}
use Rattle.command.specs.declared.commands.Command.TheVariants as command

-- DEMAND 1

-- The same of sessions, whatever their cells: with 1 nothing at all has changed; with 2 to 9, 17 and request 9's 20, and no other number
-- comes, nothing but the stop and the dropped command.
pub demand1_sessions : (s : Session) (w n : ℕ) → (step_of s w).reply ≡ refused n → RefusedTo s n (step_of s w).session
demand1_sessions = refused_word

-- 20 never comes to a party that owns every number, as the one party of a session does: its words are refused with 1, or with 2 to 9 and 17.
pub demand1_owner :
    (s : Session) → OwnsAll s → (w n : ℕ) → (step_of s w).reply ≡ refused n → OwnerRefused s n (step_of s w).session
demand1_owner = owner_refused

pub demand1_owns : {s : Session} → Reached s → OwnsAll s
demand1_owns = reached_owns

-- The first refusal of a piece is one of 2 to 9 and 17, where the session wasn't stopped before.
pub demand1_first :
    (s : Session) → OwnsAll s → s.party.stopped ≡ 0 → (ws : List ℕ) (n : ℕ) → (feed_of s ws).refusal ≡ first n → OwnerNumber n
demand1_first = piece_number

-- Words taken before a refusal stand: a refused piece leaves what its refused word leaves of the session after the words that were
-- taken.
pub demand1_pieces :
    (s : Session) (ws : List ℕ) (n : ℕ) → (feed_of s ws).refusal ≡ first n →
    RefusedTo (feed_of s (take (feed_of s ws).taken ws)).session n (feed_of s ws).session
demand1_pieces = refused_piece_lem

-- A refused word has stopped the session for good, and a stopped session answers 1 to every word and changes nothing at all.
pub demand1_stopped : (s : Session) (w n : ℕ) → (step_of s w).reply ≡ refused n → (step_of s w).session.party.stopped ≡ 1
demand1_stopped = stopped_for_good

pub demand1_stays : (s : Session) (w : ℕ) (ws : List ℕ) → s.party.stopped ≡ 1 → feed_of s (w ∷ ws) ≡ feed_ended (first 1) s
demand1_stays = stopped_piece

-- DEMAND 2

-- Accepted commands write back: the words held before a piece, with those that it took, are what the writer puts into a room for its
-- commands, one after the other, and the words of the command that is left open; also where a later word is refused.
pub demand2_write_back :
    (s : Session) → Reached s → (ws room : List ℕ) → most_words ≤ length room →
    held_of s.party.opened ++ take (feed_of s ws).taken ws ≡
    all_by_writer (feed_of s ws).commands room ++ held_of (feed_of s (take (feed_of s ws).taken ws)).session.party.opened
demand2_write_back = back_by_writer

-- What the writer puts are the commands' words.
pub demand2_writer :
    (s : Session) → Reached s → (ws room : List ℕ) → most_words ≤ length room →
    all_by_writer (feed_of s ws).commands room ≡ written (feed_of s ws).commands
demand2_writer = by_writer_lem

-- The session that they first met has room for them.
pub demand2_read_here :
    (s : Session) → Reached s → Idle s → (ws : List ℕ) →
    ReadInFull s (feed_of s ws).commands (feed_of s ws).session s (feed_of s (written (feed_of s ws).commands))
demand2_read_here = read_here

-- A stream cut anywhere gives the same commands, settings and tallies as the uncut stream.
pub demand2_cut : (s : Session) (ps : List (List ℕ)) → fed_pieces s ps ≡ feed_of s (uncut ps)
demand2_cut = cut_anywhere

-- "Run, claim and step counts are defined from the accepted words and steps": runs and claims are those of the commands, and the count
-- that of the words taken.
pub demand2_tallies : (s : Session) (ws : List ℕ) → Tallied s (feed_of s ws).commands (feed_of s ws).session
demand2_tallies = tallied

pub demand2_counted : (s : Session) (ws : List ℕ) → (feed_of s ws).session.party.taken ≡ s.party.taken + (feed_of s ws).taken
demand2_counted = counted

-- ELEMENTS AND WINDOWS

-- "7 start without a domain, an instruction format or any output set"; 8 a pair of the domain that is outside a window that counts; 9 a byte that two
-- spans that count share: a start gets each of them exactly where it is due and none before it is, and else every pair of the domain is
-- inside each window that counts, and no byte lies in two of their spans.
pub start_order : (s : Session) → Reached s → InOrder s (start_rule_of command.Start s)
start_order = in_order_told

-- REQUEST 2, "A masked camera is a silent camera"

-- Whatever words a new session of edition 1 was fed, where its mask is 65535 it judges a start, and counts its claim, as document 01
-- does.
pub full_mask :
    (ws : List ℕ) → (feed_of (new_session 1) ws).session.shared.mask ≡ 65535 → AsBefore (feed_of (new_session 1) ws).session
full_mask = as_before

-- REQUEST 6, "Keep readiness instead of asking again"

-- "start reads it": what document 01 answers a start of the settings is what the stored number tells.
pub start_by_number : (s : Session) → Reached s → start_rule_of command.Start s ≡ told_by s.party.readiness.number
start_by_number = start_reads

-- Every answer is as it was: with anything else stored, a piece gets the same answers, and leaves the same but for what is stored.
pub answers_as_before : (s : Session) (ws : List ℕ) → SameAnswers (feed_of (forgotten s) ws) (feed_of s ws)
answers_as_before = forgotten_answers
