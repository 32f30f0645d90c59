-- What the queries of a session tell: each setting as it stands. Assumes nothing.
use Rattle.std.specs.Prelude.{eqb}
use Rattle.state.specs.State.{Buffer, Domain}
use Rattle.queries.specs.declared.Setting.{Setting}
use Rattle.queries.specs.declared.Bounds.{Bounds}

abbrev pub setting_of : Buffer → Setting
setting_of b = record { present = eqb b.is_set 1; base = b.base; format = b.format; height = b.height }

abbrev pub bounds_of : Domain → Bounds
bounds_of d = record { present = eqb d.is_set 1; i0 = d.i0; j0 = d.j0; i1 = d.i1; j1 = d.j1 }
