-- Document 01: what a start asks of the settings alone (7, 8, 9), and what it claims; document 02's request 2: which outputs it
-- looks at; request 10: what a pair is credited by each edition. No word and no session is in it. Assumes nothing.
use Rattle.std.specs.Prelude.{Bool, true, not, List, [], ℕ, ◌+◌, ◌-◌, ◌*◌, eqb, leb, ltb, get_or}
use Rattle.laws.specs.Choice.{◌and◌, pick}
use Rattle.laws.specs.Below.{some, every, sum, count}
use Rattle.laws.specs.Masks.{on}
use Rattle.refusal.specs.Told.{Told, gives, refuses}
use Rattle.command.specs.Format.{channels_of, code_of, value_of, window_of}
use Rattle.state.specs.State.{Buffer, Domain, unset}

-- a buffer's row step and span
unfoldable pub step_of_buffer : Buffer → ℕ
step_of_buffer b = value_of (window_of b.base b.format b.height) 0

unfoldable pub span_of_buffer : Buffer → ℕ
span_of_buffer b = value_of (window_of b.base b.format b.height) 1

module _ (outputs : List Buffer) where
  unfoldable pub output : ℕ → Buffer
  output n = get_or outputs n unset

  -- output `n` is set
  unfoldable pub is_set : ℕ → Bool
  is_set n = eqb (output n).is_set 1

-- some mask bit is set for a channel that output `n`'s format has: "bit 4n+c for output n, channel c". "The channels are one, four,
-- one, two and four for codes 0 to 4"; the table gives the codes 5 to 7 none, and no output is set with them
unfoldable pub unmasked : ℕ → ℕ → ℕ → Bool
unmasked mask n format = some (channels_of (code_of format)) (λ c. on (4 * n + c) mask)

-- "An output is silent when no mask bit is set for a channel its format has."
unfoldable pub silent : ℕ → ℕ → ℕ → Bool
silent mask n format = not (unmasked mask n format)

-- "the domain is .. inside .. [an] output's window": both its last column and its last row are
unfoldable pub contains_domain : Domain → Buffer → Bool
contains_domain d b = ltb d.i1 (step_of_buffer b) and ltb d.j1 b.height

-- two spans share no byte: one ends where the other begins, or before
unfoldable pub apart : Buffer → Buffer → Bool
apart b c = pick (leb (b.base + span_of_buffer b) c.base) true (leb (c.base + span_of_buffer c) b.base)

module _ (mask : ℕ) (outputs : List Buffer) where
  -- output `n` counts at a start: it is set and isn't silent. "At a start, silent outputs are passed over in refusals 8 and 9 and
  -- claim nothing"
  unfoldable pub counts : ℕ → Bool
  counts n = is_set outputs n and unmasked mask n (output outputs n).format

  -- 8: "the domain is not inside every set output's window"
  unfoldable pub covered : Domain → Bool
  covered d = every 4 (λ n. pick (counts n) (contains_domain d (output outputs n)) true)

  -- 9: "spans of two set outputs share a byte"
  unfoldable pub disjoint : Bool
  disjoint = every 4 (λ n. every n (λ m. pick (counts n and counts m) (apart (output outputs n) (output outputs m)) true))

-- 7: "start without a domain, an instruction format or any output set"; "7 is as before", so an output that is set will do though it
-- is silent
unfoldable pub complete : Domain → Buffer → List Buffer → Bool
complete d instructions outputs = eqb d.is_set 1 and eqb instructions.is_set 1 and some 4 (is_set outputs)

-- which of 7, 8 and 9, if any, the settings alone give a start
unfoldable pub ready_of : Domain → Buffer → ℕ → List Buffer → Told
ready_of d instructions mask outputs =
    pick (complete d instructions outputs)
    (pick (covered mask outputs d) (pick (disjoint mask outputs) (gives []) (refuses 9)) (refuses 8))
    (refuses 7)

-- an answer as one number, 0 where nothing is refused
unfoldable pub number_told : Told → ℕ
number_told (gives values) = 0
number_told (refuses n) = n

-- the same as one number: 0, 7, 8 or 9
unfoldable pub readiness_of : Domain → Buffer → ℕ → List Buffer → ℕ
readiness_of d instructions mask outputs = number_told (ready_of d instructions mask outputs)

-- "A session's edition (1 or 2, else 3 before all else)"
unfoldable pub is_edition : ℕ → Bool
is_edition edition = pick (eqb edition 1) true (eqb edition 2)

unfoldable pub edition_told : ℕ → Told
edition_told edition = pick (is_edition edition) (gives []) (refuses 3)

-- "the number of unmasked channels its format has", of output `n`
unfoldable pub channels_unmasked : ℕ → ℕ → ℕ → ℕ
channels_unmasked mask n format = count (channels_of (code_of format)) (λ c. on (4 * n + c) mask)

module _ (edition mask : ℕ) (outputs : List Buffer) where
  -- "Edition 1 credits one for each pair of an output that isn't silent; edition 2 credits, for each pair, the number of unmasked
  -- channels its format has": what output `n` is credited for a pair, where it is set
  unfoldable pub credit_at : ℕ → ℕ
  credit_at n = pick (counts mask outputs n) (pick (eqb edition 2) (channels_unmasked mask n (output outputs n).format) 1) 0

  -- what a pair is credited in all
  unfoldable pub credit_of : ℕ
  credit_of = sum 4 credit_at

-- a domain has at most 4,096 · 4,096 pairs; four outputs are credited with one each of them by edition 1, and with their four channels
-- at most by edition 2
abbrev pub most_pairs : ℕ
most_pairs = 16777216

abbrev pub most_credit : ℕ
most_credit = 16

abbrev pub most_claim : ℕ
most_claim = 268435456

-- "the number of pairs in the domain"
unfoldable pub pairs_of : Domain → ℕ
pairs_of d = (d.i1 - d.i0 + 1) * (d.j1 - d.j0 + 1)

-- "the number of pairs in the domain times the number of set outputs", of which the silent ones claim nothing: by edition 1; by
-- edition 2 times their unmasked channels
unfoldable pub claim_of : ℕ → Domain → ℕ → List Buffer → ℕ
claim_of edition d mask outputs = pairs_of d * credit_of edition mask outputs
