-- Refusals 7, 8 and 9 in words of settings, pairs and bytes: the pairs of a domain, the bytes of a span, and the outputs that a start looks at.
-- Assumes nothing.
use Rattle.std.specs.Prelude.{◌≡◌, true, List, [], ℕ, ◌+◌, ◌<◌, ◌≤◌}
use Rattle.refusal.specs.Told.{Told, gives, refuses}
use Rattle.layout.specs.Layout.{span_of}
use Rattle.layout.specs.declared.Layout.{Layout}
use Rattle.address.specs.Address.{step_of}
use Rattle.address.specs.Inverse.{Accepted, Inside}
use Rattle.superfine.specs.Superfine.{format_layout}
use Rattle.state.specs.State.{Buffer, Domain, Session}
use Rattle.state.specs.Start.{output, is_set, counts}
use Rattle.session.specs.Silent.{seen_by}

-- a pair of the domain
pub record InDomain (d : Domain) (i j : ℕ) : Type 0 where
  pub left : d.i0 ≤ i
  pub right : i ≤ d.i1
  pub top : d.j0 ≤ j
  pub bottom : j ≤ d.j1

-- a byte of a layout's span, by its address
pub record InSpan (l : Layout) (a : ℕ) : Type 0 where
  pub from : l.base.0 ≤ a
  pub below : a < l.base.0 + span_of l.tiled l.size (step_of l) l.height

-- the layout that a buffer's base, format word and height describe
abbrev pub layout_in : Buffer → Layout
layout_in b = format_layout b.base b.format b.height

-- the window of output `n`
abbrev pub window_in : Session → ℕ → Layout
window_in s n = layout_in (output (seen_by s) n)

-- output `n` counts at a start: it is the party's own, set, and not silent
pub record Counts (s : Session) (n : ℕ) : Type 0 where
  pub number : n < 4
  pub counted : counts s.shared.mask (seen_by s) n ≡ true

-- every set output's window is accepted: it passed the window rule when it was set
pub record Windowed (outputs : List Buffer) : Type 0 where
  pub each_accepted : (n : ℕ) → n < 4 → is_set outputs n ≡ true → Accepted (layout_in (output outputs n))

-- 7: "start without a domain, an instruction format or any output set": none of these is missing
pub record Complete (s : Session) : Type 0 where
  pub domain_set_lem : s.party.domain.is_set ≡ 1
  pub instructions_set : s.party.instructions.is_set ≡ 1
  pub number : ℕ
  pub is_output : number < 4
  pub output_set : is_set (seen_by s) number ≡ true

-- a start that 8 and 9 don't refuse
pub record Fits (s : Session) : Type 0 where
  -- every pair of the domain is inside each window that counts
  pub inside : (n : ℕ) → Counts s n → (i j : ℕ) → InDomain s.party.domain i j → Inside (window_in s n) i j
  -- no byte lies in two spans that count
  pub apart : (n m : ℕ) → Counts s n → Counts s m → (n ≡ m → ⊥) → (a : ℕ) → InSpan (window_in s n) a → InSpan (window_in s m) a → ⊥

-- 8: a window that counts, and a pair of the domain that isn't inside it
pub record PairOutside (s : Session) : Type 0 where
  pub number : ℕ
  pub counted : Counts s number
  pub column : ℕ
  pub row : ℕ
  pub of_domain : InDomain s.party.domain column row
  pub outside : Inside (window_in s number) column row → ⊥

-- 9: a byte in the spans of two outputs that count
pub record ByteShared (s : Session) : Type 0 where
  pub first : ℕ
  pub second : ℕ
  pub first_counts : Counts s first
  pub second_counts : Counts s second
  pub different : first ≡ second → ⊥
  pub address : ℕ
  pub in_first : InSpan (window_in s first) address
  pub in_second : InSpan (window_in s second) address

-- what a start is told: 7, 8, 9 or nothing of these, each exactly where it is due, the lower number first
pub record InOrder (s : Session) (t : Told) : Type 0 where
  pub seven : t ≡ refuses 7 → Complete s → ⊥
  pub gets_seven : (Complete s → ⊥) → t ≡ refuses 7
  pub eight : t ≡ refuses 8 → Complete s × PairOutside s
  pub gets_eight : Complete s → PairOutside s → t ≡ refuses 8
  pub nine : t ≡ refuses 9 → Complete s × (PairOutside s → ⊥) × ByteShared s
  pub gets_nine : Complete s → (PairOutside s → ⊥) → ByteShared s → t ≡ refuses 9
  pub passes : (v : List ℕ) → t ≡ gives v → Complete s × Fits s
  pub may_pass : Complete s → Fits s → t ≡ gives []
