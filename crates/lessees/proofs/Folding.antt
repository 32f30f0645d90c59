-- A piece of both parties' words as runs, one after the other: what stands after each run. Assumes nothing.
use mathlib.Core.Path.{◌≡◌, refl, sym, ap, ap₂, ◌∙◌, subst}
use mathlib.Core.Bool.{Bool, true, false}
use mathlib.Core.List.{List, [], ◌∷◌, ◌++◌, append-nil}
use Prim.Native.Nat.{ℕ, zero, suc, ◌+◌, ◌-◌, ◌/◌, ◌<◌, ◌≤◌, ◌^◌}
use native.Mathlib.Nat.{zero-add, add-zero, suc-add}
use native.Mathlib.Omega.{arith}
use lib.Dec.{eqb}
use lib.ListN.{length, length-append, get_or, take, drop}
use borrow.Author.Tests.{eq-eqb, ne_eqb}
use Rattle.laws.specs.Choice.{pick}
use Rattle.laws.proofs.Choice.{pick_yes, pick_no}
use Rattle.command.specs.declared.commands.Command.{Command}
use Rattle.state.specs.State.{Session}
use Rattle.state.specs.Cells.{Sized, party_of, shared_of, session_of, party_cells, tally_cells, shared_cells}
use Rattle.state.specs.Asked.{Given, Held}
use Rattle.state.proofs.Cells.{own_canon, tally_canon, shared_canon, held_view, held_given}
use Rattle.session.specs.Answers.{PieceLeft}
use Rattle.session.specs.declared.stream.Fed as stream
use Rattle.session.specs.Step.{Reply, still_open, completed, refused, step_of}
use Rattle.session.specs.Feed.{First, nothing, first, earlier, first_status, Fed, proceed, feed_of}
use Rattle.lessees.specs.Pair.{
  Pair,
  Sent,
  side,
  put_back,
  Part,
  silence,
  noted,
  PairFed,
  noted_for,
  pair_step,
  piece_of,
  joined_part,
  joined_pair,
  sent_all,
  PairValid,
}
use Rattle.lessees.specs.Rooms.{
  party_at,
  sent_from,
  sent_of,
  groups_of,
  pair_of,
  PairHeld,
  PairGiven,
  PairLeft,
  PairUntouched,
  PairFeeds,
  part_cells,
  earlier_number,
  told_more,
  RunAsked,
  RunLeft,
  run_of,
  RunEnds,
}
use Rattle.lessees.proofs.Isolation.{part_of}
use Rattle.lessees.proofs.Cut.{cut}
use Rattle.lessees.proofs.Runs.{ran_for, ran}
use Rattle.lessees.proofs.Taking.{Told, BothTold, piece_told_lem, piece_valid}

-- a list up to a place, cut in two
take_nil : {A : Type 0} (n : ℕ) → ◌≡◌ {A = List A} (take n []) []
take_nil zero = refl
take_nil (suc n) = refl

take_plus : {A : Type 0} (a n : ℕ) (l : List A) → take (a + n) l ≡ take a l ++ take n (drop a l)
take_plus zero n l = ap (λ (m : ℕ). take m l) (zero-add n)
take_plus (suc a) n [] = take_nil (suc a + n) ∙ sym (take_nil n)
take_plus (suc a) n (x ∷ l) = ap (λ (m : ℕ). take m (x ∷ l)) (suc-add a n) ∙ ap (λ (r : List _). x ∷ r) (take_plus a n l)

module _ (parties : List ℕ) where
  sent_drop : (a k : ℕ) (ws : List ℕ) → drop a (sent_from parties k ws) ≡ sent_from parties (k + a) (drop a ws)
  unfolding sent_from
  sent_drop zero k ws = ap (λ (j : ℕ). sent_from parties j ws) (sym (add-zero k))
  sent_drop (suc a) k [] = refl
  sent_drop (suc a) k (w ∷ ws) =
      sent_drop a (suc k) ws ∙ ap (λ (j : ℕ). sent_from parties j (drop a ws)) (let e : suc k + a ≡ k + suc a = omega arith in e)

  sent_take : (n k : ℕ) (ws : List ℕ) → take n (sent_from parties k ws) ≡ sent_from parties k (take n ws)
  unfolding sent_from
  sent_take zero k ws = refl
  sent_take (suc n) k [] = refl
  sent_take (suc n) k (w ∷ ws) =
      ap (λ (r : List Sent). record { party = party_at parties k; word = w } ∷ r) (sent_take n (suc k) ws)

  sent_length : (k : ℕ) (ws : List ℕ) → length (sent_from parties k ws) ≡ length ws
  unfolding sent_from
  sent_length k [] = refl
  sent_length k (w ∷ ws) = ap suc (sent_length (suc k) ws)

  -- words of one party
  sent_same : (p : Bool) (k : ℕ) (ws : List ℕ) → ((j : ℕ) → k ≤ j → j < k + length ws → party_at parties j ≡ p) →
      sent_from parties k ws ≡ sent_all p ws
  unfolding sent_from sent_all
  sent_same p k [] h = refl
  sent_same p k (w ∷ ws) h =
      ap₂ (λ (b : Bool) (r : List Sent). record { party = b; word = w } ∷ r) (h k (omega arith) (omega arith))
      (sent_same p (suc k) ws (λ j a b. h j (omega arith) (omega arith)))

take_whole : {A : Type 0} (n : ℕ) (l : List A) → length l ≤ n → take n l ≡ l
take_whole zero [] h = refl
take_whole zero (x ∷ l) h = absurd (omega arith)
take_whole (suc n) [] h = refl
take_whole (suc n) (x ∷ l) h = ap (λ (r : List _). x ∷ r) (take_whole n l (omega arith))

take_length : {A : Type 0} (n : ℕ) (l : List A) → length (take n l) ≤ n
take_length zero l = omega arith
take_length (suc n) [] = omega arith
take_length (suc n) (x ∷ l) = omega (arith, take_length n l)

-- a piece takes no more words than it has, and completes no more commands
record Few (f : Fed) (n : ℕ) : Type 0 where
  taken : f.taken ≤ n
  commands : length f.commands ≤ n

few_word : (r : Reply) (s : Session) (f : Fed) (n : ℕ) → Few f n → Few (proceed r s f) (suc n)
unfolding proceed
few_word still_open s f n h = record { taken = omega (arith, h.taken); commands = omega (arith, h.commands) }
few_word (completed c) s f n h = record { taken = omega (arith, h.taken); commands = omega (arith, h.commands) }
few_word (refused m) s f n h = record { taken = omega arith; commands = omega arith }

few : (s : Session) (ws : List ℕ) → Few (feed_of s ws) (length ws)
unfolding feed_of
few s [] = record { taken = omega arith; commands = omega arith }
few s (w ∷ ws) = few_word _ _ _ _ (few (step_of s w).session ws)

pub taken_most : (s : Session) (ws : List ℕ) {r : stream.Fed} {l t c : List ℕ} → PieceLeft (feed_of s ws) r l t c → r.taken.0 ≤ length ws
taken_most s ws h = omega (arith, (few s ws).taken, h.taken)

pub commands_most : (s : Session) (ws : List ℕ) {r : stream.Fed} {l t c : List ℕ} → PieceLeft (feed_of s ws) r l t c → r.commands ≤ length ws
commands_most s ws h = omega (arith, (few s ws).commands, h.commands)

-- the earlier refusal by its number
pub earlier_number_lem : (a b : First) → Told a → earlier_number (first_status a) (first_status b) ≡ first_status (earlier a b)
unfolding earlier_number
earlier_number_lem nothing b t = pick_yes _ _ refl
earlier_number_lem (first n) b t = pick_no _ _ (ne_eqb n 0 (λ (e : n ≡ 0). let k : 0 < n = t n refl in omega arith))

joined_silence : (t : Part) → joined_part t silence ≡ t
unfolding joined_part
joined_silence t = λ i. record { taken = add-zero t.taken i; commands = append-nil t.commands i; refusal = later t.refusal i }
  where
    later : (r : First) → earlier r nothing ≡ r
    later nothing = refl
    later (first n) = refl

-- what a run adds to what its party was told
told_more_lem : (t : Part) (f : Fed) {told told' : List ℕ} → Told t.refusal → told ≡ part_cells t →
    told' ≡ told_more told f.taken (length f.commands) (first_status f.refusal) →
    told' ≡ part_cells (joined_part t (part_of f))
unfolding joined_part
told_more_lem t f {told} {told'} k e h =
    h ∙
    ap (λ (l : List ℕ). told_more l f.taken (length f.commands) (first_status f.refusal)) e ∙
    ap₂ (λ (x y : ℕ). (t.taken + f.taken) ∷ x ∷ y ∷ []) (sym (length-append t.commands f.commands))
    (earlier_number_lem t.refusal f.refusal k)

-- the cells of a pair and its record
module _ (q : Pair) (v : PairValid q) {l0 t0 l1 t1 s : List ℕ} (h : PairHeld q l0 t0 l1 t1 s) where
  held0 : Held (side false q) l0 t0 s
  held0 = record { own_cells = h.own0_cells; tally_cells_lem = h.tally0_cells; shared_cells_lem = h.shared_cells_lem }

  held1 : Held (side true q) l1 t1 s
  held1 = record { own_cells = h.own1_cells; tally_cells_lem = h.tally1_cells; shared_cells_lem = h.shared_cells_lem }

  pub side0_view : session_of l0 t0 s ≡ side false q
  side0_view = held_view (side false q) v.valid0 l0 t0 s held0

  pub side1_view : session_of l1 t1 s ≡ side true q
  side1_view = held_view (side true q) v.valid1 l1 t1 s held1

  pub side0_given : Given l0 t0 s
  side0_given = held_given (side false q) v.valid0 l0 t0 s held0

  pub side1_given : Given l1 t1 s
  side1_given = held_given (side true q) v.valid1 l1 t1 s held1

  pub pair_view : pair_of l0 t0 l1 t1 s ≡ q
  pair_view = λ i. record { party0 = (side0_view i).party; party1 = (side1_view i).party; shared = (side0_view i).shared }

  pub pair_given : PairGiven l0 t0 l1 t1 s
  pair_given = record { sized0 = side0_given.sized; sized1 = side1_given.sized; valid = subst PairValid (sym pair_view) v }

-- neither party is told of more words or commands than were sent
record PartFew (t : Part) (n : ℕ) : Type 0 where
  taken : t.taken ≤ n
  commands : length t.commands ≤ n

part_more : (t : Part) (n : ℕ) → PartFew t n → PartFew t (suc n)
part_more t n h = record { taken = omega (arith, h.taken); commands = omega (arith, h.commands) }

part_noted : (r : Reply) (t : Part) (n : ℕ) → PartFew t n → PartFew (noted r t) (suc n)
unfolding noted
part_noted still_open t n h = record { taken = omega (arith, h.taken); commands = omega (arith, h.commands) }
part_noted (completed c) t n h = record { taken = omega (arith, h.taken); commands = omega (arith, h.commands) }
part_noted (refused m) t n h = record { taken = omega (arith, h.taken); commands = omega (arith, h.commands) }

piece_few : (q : Pair) (ws : List Sent) → PartFew (piece_of q ws).told0 (length ws) × PartFew (piece_of q ws).told1 (length ws)
unfolding piece_of noted_for
piece_few q [] = (none, none)
  where
    none : PartFew silence 0
    none = record { taken = omega arith; commands = omega arith }
piece_few q (w ∷ ws) = go w.party _ _ (piece_few (put_back w.party (pair_step q w).session q) ws)
  where
    go : (b : Bool) (r : Reply) (f : PairFed) → PartFew f.told0 (length ws) × PartFew f.told1 (length ws) →
        PartFew (noted_for b r f).told0 (suc (length ws)) × PartFew (noted_for b r f).told1 (suc (length ws))
    go false r f k = (part_noted r f.told0 _ k.0, part_more f.told1 _ k.1)
    go true r f k = (part_more f.told0 _ k.0, part_noted r f.told1 _ k.1)

-- `at` words were taken: what the parties were told of them, and the pair that they left
pub record Fold (q : Pair) (words parties l0 t0 l1 t1 s told0 told1 : List ℕ) (at : ℕ) : Type 0 where
  pub within : at ≤ length words
  pub held : PairHeld (piece_of q (take at (sent_of words parties))).pair l0 t0 l1 t1 s
  pub first_told : told0 ≡ part_cells (piece_of q (take at (sent_of words parties))).told0
  pub second_told : told1 ≡ part_cells (piece_of q (take at (sent_of words parties))).told1

pub fold_begins : (words parties l0 t0 l1 t1 s : List ℕ) → PairGiven l0 t0 l1 t1 s →
    Fold (pair_of l0 t0 l1 t1 s) words parties l0 t0 l1 t1 s (0 ∷ 0 ∷ 0 ∷ []) (0 ∷ 0 ∷ 0 ∷ []) 0
fold_begins words parties l0 t0 l1 t1 s g =
    record {
      within = omega arith;
      held =
          unfold piece_of in
          record {
            own0_cells = sym (own_canon l0 t0 g.sized0.own_length_lem);
            tally0_cells = sym (tally_canon l0 t0 g.sized0.tallies_length_lem);
            own1_cells = sym (own_canon l1 t1 g.sized1.own_length_lem);
            tally1_cells = sym (tally_canon l1 t1 g.sized1.tallies_length_lem);
            shared_cells_lem = sym (shared_canon s g.sized0.shared_length_lem);
          };
      first_told = unfold piece_of in refl;
      second_told = unfold piece_of in refl;
    }

-- a run's party by the test of it
pub as_party : {parties : List ℕ} {n from end : ℕ} {p b : Bool} → p ≡ b → RunEnds parties n from p end → RunEnds parties n from b end
as_party {parties} {n} {from} {end} e r = subst (λ (x : Bool). RunEnds parties n from x end) e r

module _ (q : Pair) (words parties l0 t0 l1 t1 s told0 told1 : List ℕ) (at : ℕ) (v : PairValid q) (f : Fold q words parties l0 t0 l1 t1 s told0 told1 at) where
  abbrev sent : List Sent
  sent = sent_of words parties

  abbrev done : PairFed
  done = piece_of q (take at sent)

  now_valid : PairValid done.pair
  now_valid = piece_valid q (take at sent) v

  pub given0 : Given l0 t0 s
  given0 = side0_given done.pair now_valid f.held

  pub given1 : Given l1 t1 s
  given1 = side1_given done.pair now_valid f.held

  -- the words up to the end of a run
  upto : (p : Bool) (end : ℕ) → RunEnds parties (length words) at p end → take end sent ≡ take at sent ++ sent_all p (run_of words at end)
  upto p end e =
      ap (λ (n : ℕ). take n sent) (let z : end ≡ at + (end - at) = omega (arith, e.from_end) in z) ∙ take_plus at (end - at) sent ∙
      ap (λ (r : List Sent). take at sent ++ r)
      (ap (take (end - at)) (sent_drop parties at 0 words) ∙ sent_take parties (end - at) (0 + at) (drop at words) ∙
      sent_same parties p (0 + at) (run_of words at end)
      (λ j a b. e.same_party j (omega arith) (omega (arith, e.from_end, take_length (end - at) (drop at words)))))

  -- what the piece comes to with the run
  after_run : (p : Bool) (end : ℕ) → RunEnds parties (length words) at p end → {u : Session} → u ≡ side p done.pair →
      piece_of q (take end sent) ≡ joined_pair done (ran_for p (feed_of u (run_of words at end)) done.pair)
  after_run p end e {u} k =
      ap (piece_of q) (upto p end e) ∙ cut q (take at sent) (sent_all p (run_of words at end)) ∙
      ap (joined_pair done)
      (ran p done.pair (run_of words at end) ∙ ap (λ (x : Session). ran_for p (feed_of x (run_of words at end)) done.pair) (sym k))

  -- what a run is asked
  room : (t : Part) {told : List ℕ} → told ≡ part_cells t → PartFew t (length (take at sent)) → length words < 2 ^ 64 → {p : Bool} (end : ℕ) →
      RunEnds parties (length words) at p end → {l u c : List ℕ} → Given l u c → RunAsked l u c (run_of words at end) told
  room t {told} e k big end r g =
      record {
        given = g;
        told_length = ap length e;
        taken_room = rw e (omega (arith, k.taken, take_length at sent, take_length (end - at) (drop at words), r.from_end, r.end_most, big));
        commands_room = rw e (omega (arith, k.commands, take_length at sent, take_length (end - at) (drop at words), r.from_end, r.end_most, big));
      }

  pub asked0 : length words < 2 ^ 64 → {p : Bool} (end : ℕ) → RunEnds parties (length words) at p end → RunAsked l0 t0 s (run_of words at end) told0
  asked0 big end r = room done.told0 f.first_told (piece_few q (take at sent)).0 big end r given0

  pub asked1 : length words < 2 ^ 64 → {p : Bool} (end : ℕ) → RunEnds parties (length words) at p end → RunAsked l1 t1 s (run_of words at end) told1
  asked1 big end r = room done.told1 f.second_told (piece_few q (take at sent)).1 big end r given1

  both_told : BothTold done
  both_told = piece_told_lem q (take at sent)

  pub fold_run0 : (end : ℕ) → RunEnds parties (length words) at false end → {l0' t0' s' told0' : List ℕ} →
      RunLeft (feed_of (session_of l0 t0 s) (run_of words at end)) l0' t0' s' told0 told0' →
      Fold q words parties l0' t0' l1 t1 s' told0' told1 end
  unfolding joined_pair ran_for
  fold_run0 end e {l0'} {t0'} {s'} r =
      let z = after_run false end e (side0_view done.pair now_valid f.held) in
      record {
        within = e.end_most;
        held =
            subst (λ (x : PairFed). PairHeld x.pair l0' t0' l1 t1 s') (sym z)
            (record {
              own0_cells = r.held.own_cells;
              tally0_cells = r.held.tally_cells_lem;
              own1_cells = f.held.own1_cells;
              tally1_cells = f.held.tally1_cells;
              shared_cells_lem = r.held.shared_cells_lem;
            });
        first_told = told_more_lem done.told0 (feed_of (session_of l0 t0 s) (run_of words at end)) both_told.told0 f.first_told r.told_after ∙ ap (λ (x : PairFed). part_cells x.told0) (sym z);
        second_told =
            f.second_told ∙ ap part_cells (sym (joined_silence done.told1)) ∙ ap (λ (x : PairFed). part_cells x.told1) (sym z);
      }

  pub fold_run1 : (end : ℕ) → RunEnds parties (length words) at true end → {l1' t1' s' told1' : List ℕ} →
      RunLeft (feed_of (session_of l1 t1 s) (run_of words at end)) l1' t1' s' told1 told1' →
      Fold q words parties l0 t0 l1' t1' s' told0 told1' end
  unfolding joined_pair ran_for
  fold_run1 end e {l1'} {t1'} {s'} r =
      let z = after_run true end e (side1_view done.pair now_valid f.held) in
      record {
        within = e.end_most;
        held =
            subst (λ (x : PairFed). PairHeld x.pair l0 t0 l1' t1' s') (sym z)
            (record {
              own0_cells = f.held.own0_cells;
              tally0_cells = f.held.tally0_cells;
              own1_cells = r.held.own_cells;
              tally1_cells = r.held.tally_cells_lem;
              shared_cells_lem = r.held.shared_cells_lem;
            });
        first_told =
            f.first_told ∙ ap part_cells (sym (joined_silence done.told0)) ∙ ap (λ (x : PairFed). part_cells x.told0) (sym z);
        second_told = told_more_lem done.told1 (feed_of (session_of l1 t1 s) (run_of words at end)) both_told.told1 f.second_told r.told_after ∙ ap (λ (x : PairFed). part_cells x.told1) (sym z);
      }

  -- the piece's end
  pub fold_ends : length words ≤ at → {fed : List ℕ} → fed ≡ told0 ++ told1 → PairLeft (piece_of q sent) l0 t0 l1 t1 s fed
  fold_ends h {fed} e =
      subst (λ (x : List Sent). PairLeft (piece_of q x) l0 t0 l1 t1 s fed) (take_whole at sent (omega (arith, sent_length parties 0 words, h)))
      (record { told = e ∙ ap₂ ◌++◌ f.first_told f.second_told; held = f.held })

-- what `feed` answers
-- the six numbers of what the parties were told
pub six : {a b m c d n x y : ℕ} → m ≡ x → n ≡ y →
    ◌≡◌ {A = List ℕ} (a ∷ b ∷ m ∷ c ∷ d ∷ n ∷ []) ((a ∷ b ∷ x ∷ []) ++ (c ∷ d ∷ y ∷ []))
six {a} {b} {c = c} {d = d} e f = λ i. a ∷ b ∷ e i ∷ c ∷ d ∷ f i ∷ []

module _ {words parties l0 t0 l1 t1 s fed : List ℕ} where
  pub feeds : length parties ≡ groups_of (length words) → {l0' t0' l1' t1' s' fed' : List ℕ} →
      PairLeft (piece_of (pair_of l0 t0 l1 t1 s) (sent_of words parties)) l0' t0' l1' t1' s' fed' →
      PairFeeds words parties 0 l0 t0 l1 t1 s fed l0' t0' l1' t1' s' fed'
  feeds e h =
      record {
        status = sym (pick_yes 0 11 (eq-eqb (length parties) (groups_of (length words)) e));
        left = λ k. h;
        untouched = λ n. absurd (n e);
      }

  pub feeds_not : (length parties ≡ groups_of (length words) → ⊥) → {r : ℕ} → r ≡ 11 →
      PairFeeds words parties r l0 t0 l1 t1 s fed l0 t0 l1 t1 s fed
  feeds_not n e =
      record {
        status = e ∙ sym (pick_no 0 11 (ne_eqb (length parties) (groups_of (length words)) n));
        left = λ k. absurd (n k);
        untouched =
            λ k.
            (record { own0_cells = refl; tally0_cells = refl; own1_cells = refl; tally1_cells = refl; shared_cells_lem = refl }, refl);
      }
