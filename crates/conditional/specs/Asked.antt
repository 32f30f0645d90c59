-- What the survey's inner routines ask of their callers. Assumes nothing.
use Rattle.std.specs.Prelude.{◌≡◌, true, ℕ, ◌≤◌}
use Rattle.layout.specs.declared.Layout.{Layout}
use Rattle.layout.specs.Layout.{span_of}
use Rattle.address.specs.Address.{step_of, inside}
use Rattle.address.specs.Inverse.{Accepted}
use Rattle.conditional.specs.Conditional.{pairs}

-- an accepted layout of UINT16_1 and a domain in order whose last pair is inside
pub record DomainAsked (l : Layout) (i0 j0 i1 j1 : ℕ) : Type 0 where
  pub accepted : Accepted l
  pub columns : i0 ≤ i1
  pub rows : j0 ≤ j1
  pub last : inside l i1 j1 ≡ true

-- the same, with the layout's row step and span, and a room as long as the pairs are many
pub record SurveyAsked (l : Layout) (step span i0 j0 i1 j1 room : ℕ) : Type 0 where
  pub domain : DomainAsked l i0 j0 i1 j1
  pub step_is : step ≡ step_of l
  pub span_is : span ≡ span_of l.tiled l.size (step_of l) l.height
  pub long : room ≡ pairs i0 j0 i1 j1
