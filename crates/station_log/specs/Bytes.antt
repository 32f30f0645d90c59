-- Document 02, request 1: what a replay answers to a byte, by the open record and the stop. Assumes nothing.
use Rattle.std.specs.Prelude.{ℕ, eqb, ltb}
use Rattle.laws.specs.Choice.{pick}
use Rattle.replay.specs.State.{Replay}
use Rattle.replay.specs.Step.{refused, Stepped, opening, taking, kind_step, with_byte, number_from, after_word, midnight_step}

-- a record's last byte
unfoldable pub record_step : ℕ → Replay → ℕ → Stepped
record_step kind r number = pick (eqb kind 1) (taking (after_word r number)) (midnight_step r number)

-- a byte of a record that is open
unfoldable pub open_step : Replay → ℕ → Stepped
open_step r b =
    let o = r.opened in
    pick (ltb o.count 4) (taking (opening (with_byte o b) r))
    (record_step o.kind r (number_from o.low o.second o.third b))

-- a byte: "later bytes get that number again"
unfoldable pub byte_step : Replay → ℕ → Stepped
byte_step r b =
    pick (eqb r.stopped_by 0) (pick (eqb r.opened.count 0) (kind_step r b) (open_step r b))
    (record { reply = refused r.stopped_by; replay = r })
