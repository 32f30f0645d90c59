-- What the settings alone give a start, by the gauge that is kept of the outputs; and what renewing asks of the cells. Assumes nothing.
use Rattle.std.specs.Prelude.{◌≡◌, List, [], ℕ, eqb, ltb, length}
use Rattle.laws.specs.Choice.{◌and◌}
use Rattle.state.specs.State.{Buffer, Domain, Gauge, Readiness, Party}
use Rattle.state.specs.Seen.{seen_outputs}
use Rattle.state.specs.Start.{output}
use Rattle.state.specs.Readiness.{window_for}
use Rattle.state.specs.Effects.{with_number, with_readiness}
use Rattle.state.specs.Valid.{DomainValid}
use Rattle.state.specs.Cells.{party_of, shared_of, own_length, shared_length}
use Rattle.start.specs.Windows.{first_of}

-- 0, 7, 8 or 9, by compares with the gauge
unfoldable pub ready_by : Domain → Buffer → Gauge → ℕ
ready_by d instructions g =
    first_of (eqb d.is_set 1 and (eqb instructions.is_set 1 and eqb g.some 1))
    (ltb d.i1 g.columns and ltb d.j1 g.rows)
    (eqb g.apart 1)

-- the party with the number that its gauge gives
abbrev pub settled : Party → Party
settled p = with_readiness (with_number (ready_by p.domain p.instructions p.readiness.gauge) p.readiness) p

-- what is kept of the outputs' windows is what the outputs have
pub record WindowsKept (r : Readiness) (outputs : List Buffer) : Type 0 where
  pub first : r.window0 ≡ window_for (output outputs 0)
  pub second : r.window1 ≡ window_for (output outputs 1)
  pub third : r.window2 ≡ window_for (output outputs 2)
  pub fourth : r.window3 ≡ window_for (output outputs 3)

-- cells with one's own outputs' windows kept and a domain in range
pub record RenewAsked (own shared : List ℕ) : Type 0 where
  pub own_length_lem : length own ≡ own_length
  pub shared_length_lem : length shared ≡ shared_length
  pub windows : WindowsKept (party_of own []).readiness (seen_outputs (party_of own []).birth.mine (shared_of shared).outputs)
  pub domain : DomainValid (party_of own []).domain
