-- What holds of every session that the entries give out. Assumes nothing.
use Rattle.std.specs.Prelude.{◌≡◌, true, List, [], ◌∷◌, ℕ, ◌+◌, ◌*◌, ◌<◌, ◌≤◌, length, get_or, take, eqb}
use Rattle.state.specs.Start.{is_edition, most_claim}
use Rattle.laws.specs.Choice.{pick}
use Rattle.command.specs.Table.{header_of, count_of}
use Rattle.command.specs.Kinds.{allowed, kind_of}
use Rattle.owners.specs.Owners.{everything, may_open, may_name}
use Rattle.state.specs.State.{Open, Domain, Tally, Session, none}
use Rattle.state.specs.Readiness.{readiness_for}
use Rattle.state.specs.Effects.{limit}
use Rattle.state.specs.Lawful.{lawful_row, lawful_domain, SharedLawful}

-- the parameters of an open command, in order
abbrev pub parameters_of : Open → List ℕ
parameters_of o = o.p0 ∷ o.p1 ∷ o.p2 ∷ o.p3 ∷ []

-- an open command: fewer parameters than its line has, each allowed by its kind, and 0 for those that haven't come
pub record OpenValid (o : Open) : Type 0 where
  pub fewer : o.count < count_of o.line
  pub passed : (k : ℕ) → k < o.count → allowed (kind_of o.line k) (get_or (parameters_of o) k 0) ≡ true
  pub rest : (k : ℕ) → o.count ≤ k → get_or (parameters_of o) k 0 ≡ 0

-- and it sets nothing but what the party owns, as far as its words tell: its header and its number passed
pub record OpenOwned (mine : ℕ) (o : Open) : Type 0 where
  pub line : may_open mine o.line ≡ true
  pub number : 0 < o.count → may_name mine (kind_of o.line 0) o.p0 ≡ true

pub record DomainValid (d : Domain) : Type 0 where
  pub columns : d.i0 ≤ d.i1
  pub column_most : d.i1 < 4096
  pub rows : d.j0 ≤ d.j1
  pub row_most : d.j1 < 4096

-- a start takes two words and claims at most 4,096 · 4,096 · 16 elements, so 64 bits hold the tallies
pub record TallyValid (t : Tally) (taken : ℕ) : Type 0 where
  pub runs_most : t.runs ≤ taken
  pub claims_most : t.claims ≤ taken * most_claim

pub record Valid (s : Session) : Type 0 where
  pub flag : s.party.stopped ≤ 1
  pub full : s.party.taken ≤ limit
  pub line_most : s.party.opened.line ≤ 21
  pub closed : s.party.opened.line ≡ 21 → s.party.opened ≡ none
  pub dropped : s.party.stopped ≡ 1 → s.party.opened ≡ none
  pub opened : s.party.opened.line < 21 → OpenValid s.party.opened
  -- the open command's header and parameters were taken
  pub counted : s.party.opened.line < 21 → s.party.opened.count + 1 ≤ s.party.taken
  pub domain : DomainValid s.party.domain
  pub domain_set_lem : lawful_domain s.party.domain ≡ true
  pub instructions : lawful_row s.party.instructions ≡ true
  pub tally : TallyValid s.party.tally s.party.taken
  pub mine_most : s.party.birth.mine ≤ everything
  pub owned : s.party.opened.line < 21 → OpenOwned s.party.birth.mine s.party.opened
  -- "A session's edition (1 or 2 ..) is fixed at its birth"
  pub edition : is_edition s.party.birth.edition ≡ true
  -- "The stored number must always equal the one worked out from the settings"; a stopped session's too
  pub readiness : s.party.readiness ≡ readiness_for s.party s.shared
  pub settings : SharedLawful s.shared
  pub outputs : length s.shared.outputs ≡ 4
  pub inputs : length s.shared.inputs ≡ 16

-- the words of the open command: "the open command's words are part of the session"
unfoldable pub held_of : Open → List ℕ
held_of o = pick (eqb o.line 21) [] (header_of o.line ∷ take o.count (parameters_of o))
