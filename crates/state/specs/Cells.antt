-- Where a session lies in the cells that a caller lends: 33 numbers of a party's own, its two tallies, and 101 shared numbers.
-- Assumes nothing.
use Rattle.std.specs.Prelude.{◌≡◌, List, [], ◌∷◌, ◌++◌, ℕ, ◌+◌, length, get_or, set}
use Rattle.state.specs.State.{Buffer, Window, Readiness, Party, Shared, Session}

-- how many they are
abbrev pub own_length : ℕ
own_length = 33

abbrev pub tallies_length : ℕ
tallies_length = 2

abbrev pub shared_length : ℕ
shared_length = 101

-- a buffer's four cells
abbrev pub buffer_at : List ℕ → ℕ → Buffer
buffer_at l k = record { is_set = get_or l k 0; base = get_or l (k + 1) 0; format = get_or l (k + 2) 0; height = get_or l (k + 3) 0 }

-- a window's two
abbrev pub window_at : List ℕ → ℕ → Window
window_at l k = record { step = get_or l k 0; span = get_or l (k + 1) 0 }

unfoldable pub party_of : List ℕ → List ℕ → Party
party_of l t =
    record {
      stopped = get_or l 0 0;
      taken = get_or l 1 0;
      opened = record { line = get_or l 2 0; count = get_or l 3 0; p0 = get_or l 4 0; p1 = get_or l 5 0; p2 = get_or l 6 0; p3 = get_or l 7 0 };
      domain = record { is_set = get_or l 8 0; i0 = get_or l 9 0; j0 = get_or l 10 0; i1 = get_or l 11 0; j1 = get_or l 12 0 };
      instructions = buffer_at l 13;
      birth = record { mine = get_or l 17 0; edition = get_or l 18 0 };
      readiness =
          record {
            number = get_or l 19 0;
            gauge = record { some = get_or l 20 0; columns = get_or l 21 0; rows = get_or l 22 0; apart = get_or l 23 0; credit = get_or l 24 0 };
            window0 = window_at l 25;
            window1 = window_at l 27;
            window2 = window_at l 29;
            window3 = window_at l 31;
          };
      tally = record { runs = get_or t 0 0; claims = get_or t 1 0 };
    }

unfoldable pub shared_of : List ℕ → Shared
shared_of l =
    record {
      mask = get_or l 0 0;
      conditional_mask_set = get_or l 1 0;
      conditional_mask = get_or l 2 0;
      test_set = get_or l 3 0;
      test = get_or l 4 0;
      floats = buffer_at l 5;
      integers = buffer_at l 9;
      booleans = buffer_at l 13;
      conditional = buffer_at l 17;
      outputs = buffer_at l 21 ∷ buffer_at l 25 ∷ buffer_at l 29 ∷ buffer_at l 33 ∷ [];
      inputs =
          buffer_at l 37 ∷ buffer_at l 41 ∷ buffer_at l 45 ∷ buffer_at l 49 ∷ buffer_at l 53 ∷ buffer_at l 57 ∷ buffer_at l 61 ∷
          buffer_at l 65 ∷ buffer_at l 69 ∷ buffer_at l 73 ∷ buffer_at l 77 ∷ buffer_at l 81 ∷ buffer_at l 85 ∷ buffer_at l 89 ∷
          buffer_at l 93 ∷ buffer_at l 97 ∷ [];
    }

abbrev pub session_of : List ℕ → List ℕ → List ℕ → Session
session_of own tallies shared = record { party = party_of own tallies; shared = shared_of shared }

-- the cells of a session
abbrev pub readiness_cells : Readiness → List ℕ
readiness_cells r =
    r.number ∷ r.gauge.some ∷ r.gauge.columns ∷ r.gauge.rows ∷ r.gauge.apart ∷ r.gauge.credit ∷
    r.window0.step ∷ r.window0.span ∷ r.window1.step ∷ r.window1.span ∷ r.window2.step ∷ r.window2.span ∷
    r.window3.step ∷ r.window3.span ∷ []

abbrev pub buffers_cells : List Buffer → List ℕ
buffers_cells [] = []
buffers_cells (b ∷ bs) = b.is_set ∷ b.base ∷ b.format ∷ b.height ∷ buffers_cells bs

unfoldable pub party_cells : Party → List ℕ
party_cells p =
    p.stopped ∷ p.taken ∷ p.opened.line ∷ p.opened.count ∷ p.opened.p0 ∷ p.opened.p1 ∷ p.opened.p2 ∷
    p.opened.p3 ∷ p.domain.is_set ∷ p.domain.i0 ∷ p.domain.j0 ∷ p.domain.i1 ∷ p.domain.j1 ∷
    p.instructions.is_set ∷ p.instructions.base ∷ p.instructions.format ∷ p.instructions.height ∷
    p.birth.mine ∷ p.birth.edition ∷ readiness_cells p.readiness

unfoldable pub tally_cells : Party → List ℕ
tally_cells p = p.tally.runs ∷ p.tally.claims ∷ []

unfoldable pub shared_cells : Shared → List ℕ
shared_cells h =
    h.mask ∷ h.conditional_mask_set ∷ h.conditional_mask ∷ h.test_set ∷ h.test ∷
    buffers_cells (h.floats ∷ h.integers ∷ h.booleans ∷ h.conditional ∷ (h.outputs ++ h.inputs))

-- a buffer stored from place `k` on
abbrev pub set_buffer : List ℕ → ℕ → Buffer → List ℕ
set_buffer l k b = set (set (set (set l k b.is_set) (k + 1) b.base) (k + 2) b.format) (k + 3) b.height

-- cells of the lengths that a session has
pub record Sized (own tallies shared : List ℕ) : Type 0 where
  pub own_length_lem : length own ≡ own_length
  pub tallies_length_lem : length tallies ≡ tallies_length
  pub shared_length_lem : length shared ≡ shared_length
