-- What the code stores in a session's cells, said of the record: each law is the cells written as the code writes them.
-- Assumes nothing.
use mathlib.Core.Path.{◌≡◌, refl, sym, ap, ◌∙◌}
use mathlib.Core.List.{List, []}
use Prim.Native.Nat.{ℕ, ◌+◌, ◌*◌, ◌<◌}
use lib.ListN.{length, get_or, set}
use Rattle.laws.specs.Choice.{pick}
use Rattle.laws.proofs.Table.{each, ◌&◌}
use Rattle.state.specs.State.{Open, Party, at_line, none}
use Rattle.state.specs.Effects.{domain_from, opening, took, stop, with_parameter, with_domain, with_instructions, buffer}
use Rattle.state.specs.Cells.{party_of, party_cells, own_length}
use Rattle.state.specs.Effects.{took_words, gauge_from, window_from, with_gauge, with_number, with_readiness, with_window}
use Rattle.state.proofs.Cells.{own_canon}

module _ (l : List ℕ) (h : length l ≡ own_length) where
  pub close_cells :
      set (set (set (set (set (set l 2 21) 3 0) 4 0) 5 0) 6 0) 7 0 ≡ party_cells (opening none (party_of l []))
  unfolding party_of party_cells
  close_cells = ap (λ (x : List ℕ). set (set (set (set (set (set x 2 21) 3 0) 4 0) 5 0) 6 0) 7 0) (sym (own_canon l [] h))

  pub stop_cells : party_cells (opening none (party_of (set l 0 1) [])) ≡ party_cells (stop (party_of l []))
  unfolding party_of party_cells
  stop_cells = ap (λ (x : List ℕ). party_cells (opening none (party_of (set x 0 1) []))) (sym (own_canon l [] h))

  pub took_cells : set l 1 (get_or l 1 0 + 1) ≡ party_cells (took (party_of l []))
  unfolding party_of party_cells
  took_cells = ap (λ (x : List ℕ). set x 1 (get_or x 1 0 + 1)) (sym (own_canon l [] h))

  pub words_cells : (n : ℕ) → set l 1 (get_or l 1 0 + n) ≡ party_cells (took_words n (party_of l []))
  unfolding party_of party_cells
  words_cells n = ap (λ (x : List ℕ). set x 1 (get_or x 1 0 + n)) (sym (own_canon l [] h))

  pub line_cells : (n : ℕ) → (party_of l []).opened ≡ none →
      party_cells (took (party_of (set l 2 n) [])) ≡ party_cells (took (opening (at_line n) (party_of l [])))
  unfolding party_of party_cells
  line_cells n e =
      ap (λ (x : List ℕ). party_cells (took (party_of (set x 2 n) []))) (sym (own_canon l [] h)) ∙
      ap (λ (o : Open). party_cells (took (opening (record { line = n; count = o.count; p0 = o.p0; p1 = o.p1; p2 = o.p2; p3 = o.p3 }) (party_of l [])))) e

  pub place_cells : (n w : ℕ) → n < 4 → (party_of l []).opened.count ≡ n →
      set (set l (4 + n) w) 3 (n + 1) ≡ party_cells (opening (with_parameter (party_of l []).opened w) (party_of l []))
  unfolding party_of party_cells pick
  place_cells n w k e =
      ap (λ (x : List ℕ). set (set x (4 + n) w) 3 (n + 1)) (sym (own_canon l [] h)) ∙
      each (λ m. set (set (party_cells p) (4 + m) w) 3 (m + 1) ≡ party_cells (opening (with_parameter (counted m) w) p)) 4
      (tt & refl & refl & refl & refl) n k ∙
      ap (λ (m : ℕ). party_cells (opening (with_parameter (counted m) w) p)) (sym e)
    where
      p : Party
      p = party_of l []

      counted : ℕ → Open
      counted m =
          record { line = get_or l 2 0; count = m; p0 = get_or l 4 0; p1 = get_or l 5 0; p2 = get_or l 6 0; p3 = get_or l 7 0 }

  pub domain_cells : (a b c d : ℕ) →
      set (set (set (set (set l 8 1) 9 a) 10 b) 11 c) 12 d ≡ party_cells (with_domain (domain_from a b c d) (party_of l []))
  unfolding party_of party_cells
  domain_cells a b c d =
      ap (λ (x : List ℕ). set (set (set (set (set x 8 1) 9 a) 10 b) 11 c) 12 d) (sym (own_canon l [] h))

  pub instructions_cells : (b f : ℕ) →
      set (set (set (set l 13 1) 14 b) 15 f) 16 1 ≡ party_cells (with_instructions (buffer b f 1) (party_of l []))
  unfolding party_of party_cells
  instructions_cells b f = ap (λ (x : List ℕ). set (set (set (set x 13 1) 14 b) 15 f) 16 1) (sym (own_canon l [] h))

  pub line_taken : (n : ℕ) → (party_of (set l 2 n) []).taken ≡ (party_of l []).taken
  unfolding party_of party_cells
  line_taken n = ap (λ (x : List ℕ). (party_of (set x 2 n) []).taken) (sym (own_canon l [] h))

  pub window_cells : (n a b : ℕ) → n < 4 →
      set (set l (25 + 2 * n) a) (25 + 2 * n + 1) b ≡
      party_cells (with_readiness (with_window n (window_from a b) (party_of l []).readiness) (party_of l []))
  unfolding party_of party_cells pick
  window_cells n a b k =
      ap (λ (x : List ℕ). set (set x (25 + 2 * n) a) (25 + 2 * n + 1) b) (sym (own_canon l [] h)) ∙
      each (λ m. set (set (party_cells p) (25 + 2 * m) a) (25 + 2 * m + 1) b ≡ party_cells (with_readiness (with_window m (window_from a b) p.readiness) p)) 4
      (tt & refl & refl & refl & refl) n k
    where
      p : Party
      p = party_of l []

  pub gauge_cells : (a b c d e : ℕ) →
      set (set (set (set (set l 20 a) 21 b) 22 c) 23 d) 24 e ≡
      party_cells (with_readiness (with_gauge (gauge_from a b c d e) (party_of l []).readiness) (party_of l []))
  unfolding party_of party_cells
  gauge_cells a b c d e =
      ap (λ (x : List ℕ). set (set (set (set (set x 20 a) 21 b) 22 c) 23 d) 24 e) (sym (own_canon l [] h))

  pub number_cells : (n : ℕ) → set l 19 n ≡ party_cells (with_readiness (with_number n (party_of l []).readiness) (party_of l []))
  unfolding party_of party_cells
  number_cells n = ap (λ (x : List ℕ). set x 19 n) (sym (own_canon l [] h))
