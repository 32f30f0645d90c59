-- Changes of a replay's own ten numbers, as changes of the replay that they are. Assumes nothing.
use mathlib.Core.Path.{◌≡◌, refl, sym, ap, ◌∙◌, subst}
use mathlib.Core.List.{List, [], ◌∷◌}
use Prim.Native.Nat.{ℕ, ◌+◌, ◌<◌}
use native.Mathlib.Omega.{arith}
use lib.ListN.{length, get_or, set}
use lib.Seq.{ext_get_or}
use borrow.Author.Tests.{eq-eqb, ne_eqb}
use Rattle.laws.specs.Choice.{pick}
use Rattle.laws.proofs.Choice.{pick_yes, pick_no}
use Rattle.laws.proofs.Table.{each, ◌&◌}
use Rattle.state.specs.State.{Session}
use Rattle.replay.specs.State.{OpenRecord, WordRefused, Replay, no_record}
use Rattle.replay.specs.Step.{opening, stopped, with_byte}
use Rattle.replay.specs.Cells.{viewed, log_cells}
use Rattle.replay.specs.Own.{Changed, AddAsked, noting, day_begun}

-- ten numbers, written out
abbrev ten : List ℕ → List ℕ
ten l =
    get_or l 0 0 ∷ get_or l 1 0 ∷ get_or l 2 0 ∷ get_or l 3 0 ∷ get_or l 4 0 ∷ get_or l 5 0 ∷ get_or l 6 0 ∷ get_or l 7 0 ∷ get_or l 8 0 ∷
    get_or l 9 0 ∷ []

pub canon : (l : List ℕ) → length l ≡ 10 → ten l ≡ l
canon l h =
    ext_get_or 0 (ten l) l (sym h)
    (each (λ i. get_or (ten l) i 0 ≡ get_or l i 0) 10 (tt & refl & refl & refl & refl & refl & refl & refl & refl & refl & refl))

-- ten numbers are those of the replay that they are
pub log_canon : (l marks : List ℕ) (s : Session) → length l ≡ 10 → log_cells (viewed l marks s) ≡ l
unfolding log_cells viewed
log_canon l marks s h = canon l h

-- and a replay is that of its ten numbers
pub log_back : (r : Replay) → viewed (log_cells r) r.marks r.session ≡ r
unfolding log_cells viewed
log_back r = refl

-- a change that is known of ten numbers written out
by_ten : (g : List ℕ → List ℕ) (f : Replay → Replay) (l : List ℕ) → length l ≡ 10 → length (g (ten l)) ≡ 10 →
    ((marks : List ℕ) (s : Session) → viewed (g (ten l)) marks s ≡ f (viewed l marks s)) → Changed f l (g l)
by_ten g f l h n v =
    record {
      log_length_lem = ap (λ (x : List ℕ). length (g x)) (sym (canon l h)) ∙ n;
      view = λ marks s. ap (λ (x : List ℕ). viewed (g x) marks s) (sym (canon l h)) ∙ v marks s;
    }

abbrev from_kind : ℕ → ℕ → OpenRecord
from_kind count kind = record { count = count; kind = kind; low = 0; second = 0; third = 0 }

pub put : (l : List ℕ) (count kind : ℕ) → length l ≡ 10 →
    Changed (opening (from_kind count kind)) l (set (set (set (set (set l 5 count) 6 kind) 7 0) 8 0) 9 0)
put l count kind h =
    by_ten (λ x. set (set (set (set (set x 5 count) 6 kind) 7 0) 8 0) 9 0) (opening (from_kind count kind)) l h refl
    (λ marks s. unfold viewed in refl)

-- one more byte, at its place
module _ (l : List ℕ) (b : ℕ) where
  -- the ten numbers with another count
  abbrev with_count : ℕ → List ℕ
  with_count n =
      get_or l 0 0 ∷ get_or l 1 0 ∷ get_or l 2 0 ∷ get_or l 3 0 ∷ get_or l 4 0 ∷ n ∷ get_or l 6 0 ∷ get_or l 7 0 ∷ get_or l 8 0 ∷ get_or l 9 0 ∷ []

  abbrev AddedAt : ℕ → Type 0
  AddedAt n =
      (length (set (set (with_count n) (6 + n) b) 5 (n + 1)) ≡ 10) ×
      ((marks : List ℕ) (s : Session) →
      viewed (set (set (with_count n) (6 + n) b) 5 (n + 1)) marks s ≡
      opening (with_byte (viewed (with_count n) marks s).opened b) (viewed (with_count n) marks s))

  at_place : (n : ℕ) → n < 4 → 0 < n → AddedAt n
  unfolding viewed pick
  at_place n h k =
      each (λ n. 0 < n → AddedAt n) 4
      (tt & (λ z. absurd (omega arith)) & (λ z. (refl, λ marks s. refl)) & (λ z. (refl, λ marks s. refl)) & (λ z. (refl, λ marks s. refl)))
      n h k

  pub added : (count : ℕ) → AddAsked l count →
      Changed (λ r. opening (with_byte r.opened b) r) l (set (set l (6 + count) b) 5 (count + 1))
  added count a =
      subst (λ (n : ℕ). Changed (λ r. opening (with_byte r.opened b) r) l (set (set l (6 + n) b) 5 (n + 1))) a.stands
      (by_ten (λ x. set (set x (6 + get_or l 5 0) b) 5 (get_or l 5 0 + 1)) (λ r. opening (with_byte r.opened b) r) l a.log_length_lem
      here.0 (unfold viewed in here.1))
    where
      here : AddedAt (get_or l 5 0)
      here = at_place (get_or l 5 0) (omega (arith, a.stands, a.room)) (omega (arith, a.stands, a.begun))

-- after a number that stops, no record is open
pub stops : (l l1 : List ℕ) (n : ℕ) → length l ≡ 10 → Changed (opening no_record) (set l 0 n) l1 → Changed (stopped n) l l1
stops l l1 n h c =
    record {
      log_length_lem = c.log_length_lem;
      view = λ marks s. c.view marks s ∙ ap (opening no_record) ((by_ten (λ x. set x 0 n) f l h refl (λ m t. unfold viewed in refl)).view marks s);
    }
  where
    f : Replay → Replay
    f r =
        record {
          session = r.session;
          opened = r.opened;
          stopped_by = n;
          refused = r.refused;
          midnights = r.midnights;
          last_day = r.last_day;
          marks = r.marks;
        }

pub begins : (l l1 : List ℕ) (k day : ℕ) → length l ≡ 10 → Changed (opening no_record) (set (set l 3 k) 4 day) l1 →
    Changed (day_begun k day) l l1
begins l l1 k day h c =
    record {
      log_length_lem = c.log_length_lem;
      view =
          λ marks s. c.view marks s ∙ ap (opening no_record) ((by_ten (λ x. set (set x 3 k) 4 day) f l h refl (λ m t. unfold viewed in refl)).view marks s);
    }
  where
    f : Replay → Replay
    f r =
        record {
          session = r.session;
          opened = r.opened;
          stopped_by = r.stopped_by;
          refused = r.refused;
          midnights = k;
          last_day = day;
          marks = r.marks;
        }

-- a refused word is noted where none was before
module _ (l : List ℕ) (n : ℕ) (h : length l ≡ 10) where
  abbrev kept : WordRefused → Replay → Replay
  kept f r =
      record {
        session = r.session;
        opened = r.opened;
        stopped_by = r.stopped_by;
        refused = f;
        midnights = r.midnights;
        last_day = r.last_day;
        marks = r.marks;
      }

  pub notes : get_or l 1 0 ≡ 0 → Changed (noting n) l (set (set l 1 n) 2 (get_or (set l 1 n) 3 0))
  notes e =
      by_ten (λ x. set (set x 1 n) 2 (get_or (set x 1 n) 3 0)) (noting n) l h refl
      (λ marks s.
      unfold viewed in
      ap (λ (f : WordRefused). kept f (viewed l marks s))
      (sym (pick_yes (record { number = n; midnights = get_or l 3 0 }) (record { number = get_or l 1 0; midnights = get_or l 2 0 }) (eq-eqb (get_or l 1 0) 0 e))))

  pub notes_not : (get_or l 1 0 ≡ 0 → ⊥) → Changed (noting n) l l
  notes_not e =
      record {
        log_length_lem = h;
        view =
            λ marks s.
            unfold viewed in
            ap (λ (f : WordRefused). kept f (viewed l marks s))
            (sym (pick_no (record { number = n; midnights = get_or l 3 0 }) (record { number = get_or l 1 0; midnights = get_or l 2 0 }) (ne_eqb (get_or l 1 0) 0 e)));
      }
