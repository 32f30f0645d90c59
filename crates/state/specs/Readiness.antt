-- Document 02, request 6: what the settings alone give a start, and what it is reckoned from, as a party keeps them. The number itself
-- is `readiness_of` of Start.antt. Assumes nothing.
use Rattle.std.specs.Prelude.{List, ℕ, zero, suc, ltb}
use Rattle.laws.specs.Choice.{pick}
use Rattle.laws.specs.Below.{some}
use Rattle.laws.specs.Masks.{digit}
use Rattle.state.specs.State.{Buffer, Domain, Window, Gauge, Readiness, Party, Shared, most_extent}
use Rattle.state.specs.Seen.{seen_outputs}
use Rattle.state.specs.Start.{step_of_buffer, span_of_buffer, output, is_set, counts, disjoint, readiness_of, credit_of}

-- the lesser of two numbers
unfoldable pub lesser : ℕ → ℕ → ℕ
lesser a b = pick (ltb a b) a b

-- the least of `k` numbers and of the most that a window has
unfoldable pub least_extent : ℕ → (ℕ → ℕ) → ℕ
least_extent zero f = most_extent
least_extent (suc k) f = lesser (f zero) (least_extent k (λ i. f (suc i)))

-- an output's row step and span; of one that isn't set 0 and 0, as its words are
unfoldable pub window_for : Buffer → Window
window_for b = record { step = step_of_buffer b; span = span_of_buffer b }

module _ (mask : ℕ) (outputs : List Buffer) where
  -- the columns, and the rows, that output `n` leaves a domain: those of its window, and all where it doesn't count
  unfoldable pub columns_left : ℕ → ℕ
  columns_left n = pick (counts mask outputs n) (step_of_buffer (output outputs n)) most_extent

  unfoldable pub rows_left : ℕ → ℕ
  rows_left n = pick (counts mask outputs n) (output outputs n).height most_extent

  -- what the outputs ask of a domain and give for a pair, by an edition
  unfoldable pub gauge_of : ℕ → Gauge
  gauge_of edition =
      record {
        some = digit (some 4 (is_set outputs));
        columns = least_extent 4 columns_left;
        rows = least_extent 4 rows_left;
        apart = digit (disjoint mask outputs);
        credit = credit_of edition mask outputs;
      }

-- "which of 0, 7, 8 or 9 the settings alone would give it", with what it is reckoned from
unfoldable pub worked_out : ℕ → Domain → Buffer → ℕ → List Buffer → Readiness
worked_out edition d instructions mask outputs =
    record {
      number = readiness_of d instructions mask outputs;
      gauge = gauge_of mask outputs edition;
      window0 = window_for (output outputs 0);
      window1 = window_for (output outputs 1);
      window2 = window_for (output outputs 2);
      window3 = window_for (output outputs 3);
    }

-- the same from a party's settings and the shared ones: "Refusals 7 to 9 and the stored readiness look only at one's own outputs"
abbrev pub readiness_for : Party → Shared → Readiness
readiness_for p h = worked_out p.birth.edition p.domain p.instructions h.mask (seen_outputs p.birth.mine h.outputs)
