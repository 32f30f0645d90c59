-- Request 9 over the life of two parties' arrays: calls in any order leave what one piece with all their words leaves, and what a party has
-- and is told doesn't depend on the other's words and calls. Assumes nothing.
use mathlib.Core.Path.{◌≡◌, refl, sym, ap, ap₂, ◌∙◌, subst}
use mathlib.Core.Bool.{Bool, true, false}
use mathlib.Core.List.{List, [], ◌∷◌, ◌++◌}
use Prim.Native.Nat.{ℕ, ◌+◌, ◌<◌}
use native.Mathlib.Omega.{arith}
use lib.Dec.{eqb}
use lib.ListN.{length, length-append, get_or, take, drop}
use borrow.Author.Tests.{ne_eqb}
use Rattle.laws.proofs.Choice.{pick_yes, pick_no}
use Rattle.refusal.specs.Crossing.{Crosses, status_of, room_of}
use Rattle.state.specs.State.{Session}
use Rattle.state.specs.Cells.{party_of, shared_of, party_cells, tally_cells}
use Rattle.state.specs.Valid.{Valid}
use Rattle.state.specs.Asked.{Held}
use Rattle.state.proofs.Cells.{own_canon, tally_canon, shared_canon}
use Rattle.session.specs.Step.{Reply, Stepped, still_open, completed, refused, step_of}
use Rattle.session.proofs.Refusals.{refused_word}
use Rattle.session.specs.Feed.{first, Fed, feed_of, first_status}
use Rattle.session_rooms.specs.Rooms.{reply_told, WordCrosses, FeedCrosses}
use Rattle.lessees.specs.Sight.{seen, seen_shared}
use Rattle.lessees.specs.Pair.{Pair, Sent, side, put_back, Part, silence, noted, PairFed, noted_for, pair_step, piece_of, joined_part, joined_pair, words_for, told_for, sent_all, PairValid}
use Rattle.lessees.specs.Rooms.{sent_of, groups_of, part_cells, earlier_number, PairHeld, PairLeft, PairUntouched}
use Rattle.lessees.specs.Life as records
use Rattle.lessees.proofs.Cut.{cut}
use Rattle.lessees.proofs.Runs.{ran_for, ran}
use Rattle.lessees.proofs.Taking.{piece_told_lem, piece_valid}
use Rattle.lessees.proofs.Folding.{earlier_number_lem, pair_view, pair_given}
use Rattle.lessees.proofs.Life.{same_piece}
use Rattle.lessees.proofs.Steps.{seen_step}
use Rattle.demands.proofs.Numbers.{word_least}
use Rattle.demands.specs.Pairs.{PairArrays, PairGivenAt, PairFedAt, pair_at, own_at, tallies_at, session_at, with_party}
use Rattle.demands.specs.Lives.{
  untold,
  piece_told,
  told_to,
  word_told,
  feed_told,
  both_told,
  Life,
  no_more,
  piece,
  refused_piece,
  word,
  feed,
  LookAlike,
  SameTo,
  AsOneCall,
  SameWord,
}

-- a call that is refused leaves the arrays as they were
module _ {a a' : PairArrays} (e : PairUntouched a.own0 a.tallies0 a.own1 a.tallies1 a.shared a'.own0 a'.tallies0 a'.own1
    a'.tallies1 a'.shared)
  where
    pub untouched_same : a' ≡ a
    untouched_same =
        λ i.
        record {
          own0 = e.own0_cells i;
          tallies0 = e.tally0_cells i;
          own1 = e.own1_cells i;
          tallies1 = e.tally1_cells i;
          shared = e.shared_cells_lem i;
        }

abbrev HeldAt : Pair → PairArrays → Type 0
HeldAt q a = PairHeld q a.own0 a.tallies0 a.own1 a.tallies1 a.shared

-- arrays that hold what a piece leaves, and what each party is told of it
record Left (f : PairFed) (told : Bool → List ℕ) (a : PairArrays) : Type 0 where
  tells : (p : Bool) → told p ≡ part_cells (told_for p f)
  held : HeldAt f.pair a

-- arrays that were given hold the pair that they show
given_held : {a : PairArrays} → PairGivenAt a → HeldAt (pair_at a) a
given_held {a} g =
    record {
      own0_cells = sym (own_canon a.own0 a.tallies0 g.sized0.own_length_lem);
      tally0_cells = sym (tally_canon a.own0 a.tallies0 g.sized0.tallies_length_lem);
      own1_cells = sym (own_canon a.own1 a.tallies1 g.sized1.own_length_lem);
      tally1_cells = sym (tally_canon a.own1 a.tallies1 g.sized1.tallies_length_lem);
      shared_cells_lem = sym (shared_canon a.shared g.sized0.shared_length_lem);
    }

-- what two pieces tell
refusal_told : (p : Bool) (q : Pair) (xs : List Sent) (y : Part) →
    earlier_number (first_status (told_for p (piece_of q xs)).refusal) (first_status y.refusal) ≡
    first_status (joined_part (told_for p (piece_of q xs)) y).refusal
unfolding joined_part
refusal_told false q xs y = earlier_number_lem (piece_of q xs).told0.refusal y.refusal (piece_told_lem q xs).told0
refusal_told true q xs y = earlier_number_lem (piece_of q xs).told1.refusal y.refusal (piece_told_lem q xs).told1

joined_told : (p : Bool) (f g : PairFed) → told_for p (joined_pair f g) ≡ joined_part (told_for p f) (told_for p g)
unfolding joined_pair
joined_told false f g = refl
joined_told true f g = refl

joined_pair_lem : (f g : PairFed) → (joined_pair f g).pair ≡ g.pair
unfolding joined_pair
joined_pair_lem f g = refl

both_cells : (p : Bool) (q : Pair) (xs : List Sent) (y : Part) (now later : Bool → List ℕ) →
    now p ≡ part_cells (told_for p (piece_of q xs)) → later p ≡ part_cells y →
    both_told now later p ≡ part_cells (joined_part (told_for p (piece_of q xs)) y)
both_cells p q xs y now later e f =
    ap₂ {C = List ℕ}
    (λ (l m : List ℕ). (get_or l 0 0 + get_or m 0 0) ∷ (get_or l 1 0 + get_or m 1 0) ∷ earlier_number (get_or l 2 0) (get_or m 2 0) ∷ []) e f ∙
    sums (told_for p (piece_of q xs)) y (refusal_told p q xs y)
  where
    sums : (x y : Part) → earlier_number (first_status x.refusal) (first_status y.refusal) ≡ first_status (joined_part x y).refusal →
        ◌≡◌ {A = List ℕ}
        ((x.taken + y.taken) ∷ (length x.commands + length y.commands) ∷
        earlier_number (first_status x.refusal) (first_status y.refusal) ∷ [])
        (part_cells (joined_part x y))
    sums x y k =
        unfold joined_part in
        ap₂ {C = List ℕ} (λ (m n : ℕ). (x.taken + y.taken) ∷ m ∷ n ∷ []) (sym (length-append x.commands y.commands)) k

-- a call, then the rest
and_then : (q : Pair) → PairValid q → (xs ws : List Sent) (now later : Bool → List ℕ) (b c : PairArrays) → Left (piece_of q xs) now b →
    (PairGivenAt b → Left (piece_of (pair_at b) ws) later c) → Left (piece_of q (xs ++ ws)) (both_told now later) c
and_then q v xs ws now later b c here rest =
    let u : PairValid (piece_of q xs).pair = piece_valid q xs v in
    let later' : Left (piece_of (piece_of q xs).pair ws) later c =
    subst (λ (x : Pair). Left (piece_of x ws) later c) (pair_view (piece_of q xs).pair u here.held) (rest (pair_given (piece_of q xs).pair u here.held)) in
    subst (λ (f : PairFed). Left f (both_told now later) c) (sym (cut q xs ws))
    (record {
      tells =
          λ p.
          both_cells p q xs (told_for p (piece_of (piece_of q xs).pair ws)) now later (here.tells p) (later'.tells p) ∙
          ap part_cells (sym (joined_told p (piece_of q xs) (piece_of (piece_of q xs).pair ws)));
      held = subst (λ (x : Pair). HeldAt x c) (sym (joined_pair_lem (piece_of q xs) (piece_of (piece_of q xs).pair ws))) later'.held;
    })

-- a piece of both parties' words
piece_left : (q : Pair) (words parties : List ℕ) (b : PairArrays) (fed : List ℕ) →
    PairLeft (piece_of q (sent_of words parties)) b.own0 b.tallies0 b.own1 b.tallies1 b.shared fed →
    Left (piece_of q (sent_of words parties)) (piece_told fed) b
piece_left q words parties b fed h = record { tells = each; held = h.held }
  where
    each : (p : Bool) → piece_told fed p ≡ part_cells (told_for p (piece_of q (sent_of words parties)))
    each false = ap (take 3) h.told
    each true = ap (drop 3) h.told

-- a party's own session
side_at : (p : Bool) (a : PairArrays) → session_at p a ≡ side p (pair_at a)
side_at false a = refl
side_at true a = refl

-- what a call with one party's arrays leaves
own_left : (p : Bool) (a : PairArrays) → PairGivenAt a → (s : Session) (own tallies shared : List ℕ) → Held s own tallies shared →
    HeldAt (put_back p s (pair_at a)) (with_party p own tallies shared a)
own_left false a g s own tallies shared h =
    record {
      own0_cells = h.own_cells;
      tally0_cells = h.tally_cells_lem;
      own1_cells = (given_held g).own1_cells;
      tally1_cells = (given_held g).tally1_cells;
      shared_cells_lem = h.shared_cells_lem;
    }
own_left true a g s own tallies shared h =
    record {
      own0_cells = (given_held g).own0_cells;
      tally0_cells = (given_held g).tally0_cells;
      own1_cells = h.own_cells;
      tally1_cells = h.tally_cells_lem;
      shared_cells_lem = h.shared_cells_lem;
    }

-- of one party's words
ran_left : (p : Bool) (a : PairArrays) → PairGivenAt a → (words : List ℕ) (r : ℕ) (own tallies shared fed : List ℕ) →
    FeedCrosses (feed_of (session_at p a) words) r own tallies shared fed →
    Left (piece_of (pair_at a) (sent_all p words)) (told_to p (feed_told r fed)) (with_party p own tallies shared a)
unfolding ran_for
ran_left p a g words r own tallies shared fed h =
    subst (λ (f : PairFed). Left f (told_to p (feed_told r fed)) (with_party p own tallies shared a)) (sym (ran p (pair_at a) words)) (by p h)
  where
    numbers : (f : Fed) → r ≡ first_status f.refusal → fed ≡ f.taken ∷ length f.commands ∷ [] →
        feed_told r fed ≡ f.taken ∷ length f.commands ∷ first_status f.refusal ∷ []
    numbers f e d = ap₂ {C = List ℕ} (λ (n : ℕ) (l : List ℕ). get_or l 0 0 ∷ get_or l 1 0 ∷ n ∷ []) e d

    by : (p : Bool) → FeedCrosses (feed_of (session_at p a) words) r own tallies shared fed →
        Left (ran_for p (feed_of (side p (pair_at a)) words) (pair_at a)) (told_to p (feed_told r fed)) (with_party p own tallies shared a)
    by false c =
        record {
          tells = told0;
          held = own_left false a g (feed_of (session_at false a) words).session own tallies shared c.held;
        }
      where
        told0 : (p : Bool) →
            told_to false (feed_told r fed) p ≡ part_cells (told_for p (ran_for false (feed_of (side false (pair_at a)) words) (pair_at a)))
        told0 false = unfold ran_for in numbers (feed_of (session_at false a) words) c.status c.room
        told0 true = unfold ran_for in refl
    by true c =
        record {
          tells = told1;
          held = own_left true a g (feed_of (session_at true a) words).session own tallies shared c.held;
        }
      where
        told1 : (p : Bool) →
            told_to true (feed_told r fed) p ≡ part_cells (told_for p (ran_for true (feed_of (side true (pair_at a)) words) (pair_at a)))
        told1 false = unfold ran_for in refl
        told1 true = unfold ran_for in numbers (feed_of (session_at true a) words) c.status c.room

-- of one word
word_told_lem : (reply : Reply) (r : ℕ) (command command' : List ℕ) → Crosses (reply_told reply) r command command' →
    ((n : ℕ) → (noted reply silence).refusal ≡ first n → 0 < n) → word_told r command' ≡ part_cells (noted reply silence)
unfolding noted
word_told_lem still_open r command command' c h =
    ap₂ word_told c.status c.room ∙ pick_yes {t = eqb 0 0} _ _ refl
word_told_lem (completed k) r command command' c h =
    ap₂ word_told c.status c.room ∙ pick_yes {t = eqb 0 0} _ _ refl
word_told_lem (refused n) r command command' c h =
    pick_no _ _ (ne_eqb r 0 (λ z. let k : 0 < n = h n refl in omega (arith, c.status))) ∙
    ap {B = List ℕ} (λ (m : ℕ). 0 ∷ 0 ∷ m ∷ []) c.status

word_left : (p : Bool) (a : PairArrays) → PairGivenAt a → (w r : ℕ) (own tallies shared command command' : List ℕ) →
    WordCrosses (step_of (session_at p a) w) r own tallies shared command command' →
    Left (piece_of (pair_at a) (sent_all p (w ∷ []))) (told_to p (word_told r command')) (with_party p own tallies shared a)
unfolding piece_of sent_all noted_for pair_step
word_left false a g w r own tallies shared command command' c =
    record {
      tells = told0;
      held = own_left false a g (step_of (session_at false a) w).session own tallies shared c.held;
    }
  where
    told0 : (p : Bool) → told_to false (word_told r command') p ≡ part_cells (told_for p (piece_of (pair_at a) (sent_all false (w ∷ []))))
    told0 false =
        unfold piece_of sent_all noted_for pair_step in
        word_told_lem (step_of (session_at false a) w).reply r command command' c.answer (piece_told_lem (pair_at a) (sent_all false (w ∷ []))).told0
    told0 true = unfold piece_of sent_all noted_for pair_step in refl
word_left true a g w r own tallies shared command command' c =
    record {
      tells = told1;
      held = own_left true a g (step_of (session_at true a) w).session own tallies shared c.held;
    }
  where
    told1 : (p : Bool) → told_to true (word_told r command') p ≡ part_cells (told_for p (piece_of (pair_at a) (sent_all true (w ∷ []))))
    told1 true =
        unfold piece_of sent_all noted_for pair_step in
        word_told_lem (step_of (session_at true a) w).reply r command command' c.answer (piece_told_lem (pair_at a) (sent_all true (w ∷ []))).told1
    told1 false = unfold piece_of sent_all noted_for pair_step in refl

-- calls in any order leave what one piece with all their words leaves
life_left : {a : PairArrays} {ws : List Sent} {told : Bool → List ℕ} {b : PairArrays} → PairGivenAt a → Life a ws told b → Left (piece_of (pair_at a) ws) told b
life_left {a} g no_more = record { tells = none; held = unfold piece_of in given_held g }
  where
    none : (p : Bool) → untold ≡ part_cells (told_for p (piece_of (pair_at a) []))
    none false = unfold piece_of in refl
    none true = unfold piece_of in refl
life_left {a} g (piece words parties r fed b fed' fits h {ws} {told} {c} rest) =
    and_then (pair_at a) g.valid (sent_of words parties) ws (piece_told fed') told b c (piece_left (pair_at a) words parties b fed' (h.left fits))
    (λ k. life_left k rest)
life_left {a} g (refused_piece words parties r fed b fed' unfit h {ws} {told} {c} rest) =
    let same : b ≡ a = untouched_same (h.untouched unfit).0 in
    subst (λ (x : PairArrays). Left (piece_of (pair_at x) ws) told c) same (life_left (subst PairGivenAt (sym same) g) rest)
life_left {a} g (word party w r own tallies shared command command' h {ws} {told} {c} rest) =
    and_then (pair_at a) g.valid (sent_all party (w ∷ [])) ws (told_to party (word_told r command')) told (with_party party own tallies shared a) c
    (word_left party a g w r own tallies shared command command' h) (λ k. life_left k rest)
life_left {a} g (feed party words r own tallies shared fed h {ws} {told} {c} rest) =
    and_then (pair_at a) g.valid (sent_all party words) ws (told_to party (feed_told r fed)) told (with_party party own tallies shared a) c
    (ran_left party a g words r own tallies shared fed h) (λ k. life_left k rest)

-- so what they leave may be handed in again
pub life_given : {a : PairArrays} {ws : List Sent} {told : Bool → List ℕ} {b : PairArrays} → PairGivenAt a → Life a ws told b → PairGivenAt b
life_given {a} {ws} g life = pair_given (piece_of (pair_at a) ws).pair (piece_valid (pair_at a) ws g.valid) (life_left g life).held

-- and is what one call with all the words leaves
pub life_as_one : {a : PairArrays} {ws : List Sent} {told : Bool → List ℕ} {b : PairArrays} → PairGivenAt a → Life a ws told b →
    (words parties : List ℕ) (r : ℕ) (fed : List ℕ) (c : PairArrays) (fed' : List ℕ) → length parties ≡ groups_of (length words) →
    sent_of words parties ≡ ws → PairFedAt words parties r a fed c fed' → AsOneCall told fed' b c
life_as_one {a} {ws} {told} {b} g life words parties r fed c fed' fits e h =
    let many = life_left g life in
    let one : Left (piece_of (pair_at a) ws) (piece_told fed') c =
    subst (λ (x : List Sent). Left (piece_of (pair_at a) x) (piece_told fed') c) e (piece_left (pair_at a) words parties c fed' (h.left fits)) in
    record {
      told_same = λ p. many.tells p ∙ sym (one.tells p);
      arrays_same =
          λ i.
          record {
            own0 = (many.held.own0_cells ∙ sym one.held.own0_cells) i;
            tallies0 = (many.held.tally0_cells ∙ sym one.held.tally0_cells) i;
            own1 = (many.held.own1_cells ∙ sym one.held.own1_cells) i;
            tallies1 = (many.held.tally1_cells ∙ sym one.held.tally1_cells) i;
            shared = (many.held.shared_cells_lem ∙ sym one.held.shared_cells_lem) i;
          };
    }

-- arrays that look alike hold pairs that do, and the reverse
alike_records : (p : Bool) (a a' : PairArrays) → LookAlike p a a' → records.LookAlike p (pair_at a) (pair_at a')
alike_records false a a' h =
    λ i.
    record {
      party = party_of (h.own_same i) (h.tallies_same i);
      shared =
          (h.settings_same ∙
          ap₂ (λ (l t : List ℕ). seen_shared (party_of l t).birth.mine (shared_of a'.shared)) h.own_same h.tallies_same) i;
    }
alike_records true a a' h =
    λ i.
    record {
      party = party_of (h.own_same i) (h.tallies_same i);
      shared =
          (h.settings_same ∙
          ap₂ (λ (l t : List ℕ). seen_shared (party_of l t).birth.mine (shared_of a'.shared)) h.own_same h.tallies_same) i;
    }

own_of : (p : Bool) (q : Pair) (a : PairArrays) → HeldAt q a → own_at p a ≡ party_cells (seen (side p q)).party
own_of false q a h = h.own0_cells
own_of true q a h = h.own1_cells

tallies_of : (p : Bool) (q : Pair) (a : PairArrays) → HeldAt q a → tallies_at p a ≡ tally_cells (seen (side p q)).party
tallies_of false q a h = h.tally0_cells
tallies_of true q a h = h.tally1_cells

seen_of : (p : Bool) (a : PairArrays) →
    (seen (side p (pair_at a))).shared ≡ seen_shared (party_of (own_at p a) (tallies_at p a)).birth.mine (shared_of a.shared)
seen_of false a = refl
seen_of true a = refl

alike_arrays : (p : Bool) (q q' : Pair) → PairValid q → PairValid q' → (a a' : PairArrays) → HeldAt q a → HeldAt q' a' →
    records.LookAlike p q q' → LookAlike p a a'
alike_arrays p q q' v v' a a' h h' e =
    record {
      own_same = own;
      tallies_same = tallies;
      settings_same =
          sym (seen_of p a) ∙ ap (λ (x : Pair). (seen (side p x)).shared) (pair_view q v h) ∙ ap (λ (s : Session). s.shared) e ∙
          ap (λ (x : Pair). (seen (side p x)).shared) (sym (pair_view q' v' h')) ∙ seen_of p a' ∙
          ap₂ (λ (l t : List ℕ). seen_shared (party_of l t).birth.mine (shared_of a'.shared)) (sym own) (sym tallies);
    }
  where
    own : own_at p a ≡ own_at p a'
    own = own_of p q a h ∙ ap (λ (s : Session). party_cells s.party) e ∙ sym (own_of p q' a' h')

    tallies : tallies_at p a ≡ tallies_at p a'
    tallies = tallies_of p q a h ∙ ap (λ (s : Session). tally_cells s.party) e ∙ sym (tallies_of p q' a' h')

-- "Change party 1's words and their places at will: party 0's answers, settings and tallies stay the same", for life, and the reverse
pub life_isolated : (p : Bool) {a a' : PairArrays} → PairGivenAt a → PairGivenAt a' → LookAlike p a a' →
    {ws ws' : List Sent} {told told' : Bool → List ℕ} {b b' : PairArrays} → Life a ws told b → Life a' ws' told' b' →
    words_for p ws ≡ words_for p ws' → SameTo p told told' b b'
life_isolated p {a} {a'} g g' alike {ws} {ws'} {told} {told'} {b} {b'} life life' e =
    let left = life_left g life in
    let left' = life_left g' life' in
    let same : records.SameTo p (piece_of (pair_at a) ws) (piece_of (pair_at a') ws') =
    same_piece p (pair_at a) (pair_at a') g.valid g'.valid (alike_records p a a' alike) ws ws' e in
    record {
      told_same = left.tells p ∙ ap part_cells same.told ∙ sym (left'.tells p);
      looks =
          alike_arrays p (piece_of (pair_at a) ws).pair (piece_of (pair_at a') ws').pair (piece_valid (pair_at a) ws g.valid)
          (piece_valid (pair_at a') ws' g'.valid) b b' left.held left'.held same.looks;
    }

-- word by word: the same word of the party is answered the same
same_answer : (x y : Reply) → x ≡ y → ((n : ℕ) → y ≡ refused n → 0 < n) → {r r' : ℕ} {c c₁ c' c₁' : List ℕ} →
    Crosses (reply_told x) r c c₁ → Crosses (reply_told y) r' c' c₁' → SameWord r r' c₁ c₁'
same_answer x y e h {r} {r'} {c} {c₁} {c'} {c₁'} k k' =
    record {
      status_same = same;
      room_same = λ z. k.room ∙ ap (λ (a : Reply). room_of (reply_told a) c) e ∙ either y h (sym k'.status ∙ sym same ∙ z) ∙ sym k'.room;
    }
  where
    same : r ≡ r'
    same = k.status ∙ ap (λ (a : Reply). status_of (reply_told a)) e ∙ sym k'.status

    either : (a : Reply) → ((n : ℕ) → a ≡ refused n → 0 < n) → status_of (reply_told a) ≡ 0 → room_of (reply_told a) c ≡ room_of (reply_told a) c'
    either still_open q z = refl
    either (completed d) q z = refl
    either (refused n) q z = absurd (omega (arith, z, q n refl))

side_valid : (p : Bool) (a : PairArrays) → PairGivenAt a → Valid (session_at p a)
side_valid false a g = g.valid.valid0
side_valid true a g = g.valid.valid1

seen_at : (p : Bool) (a a' : PairArrays) → LookAlike p a a' → seen (session_at p a) ≡ seen (session_at p a')
seen_at false a a' h = alike_records false a a' h
seen_at true a a' h = alike_records true a a' h

pub word_isolated : (p : Bool) {a a' : PairArrays} → PairGivenAt a → PairGivenAt a' → LookAlike p a a' →
    (w r r' : ℕ) (own tallies shared command command₁ own' tallies' shared' command' command₁' : List ℕ) →
    WordCrosses (step_of (session_at p a) w) r own tallies shared command command₁ →
    WordCrosses (step_of (session_at p a') w) r' own' tallies' shared' command' command₁' → SameWord r r' command₁ command₁'
word_isolated p {a} {a'} g g' alike w r r' own tallies shared command command₁ own' tallies' shared' command' command₁' k k' =
    same_answer (step_of (session_at p a) w).reply (step_of (session_at p a') w).reply
    (ap (λ (t : Stepped). t.reply) (sym (seen_step (session_at p a) w (side_valid p a g))) ∙
    ap (λ (s : Session). (step_of s w).reply) (seen_at p a a' alike) ∙
    ap (λ (t : Stepped). t.reply) (seen_step (session_at p a') w (side_valid p a' g')))
    (λ n e. word_least (refused_word (session_at p a') w n e)) k.answer k'.answer
