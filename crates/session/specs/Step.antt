-- Document 01: what a session answers to a word, and the session after it. "Order: 1, then 17, then the rest in table order
-- among those that the present word can cause." Assumes nothing.
use Rattle.std.specs.Prelude.{ℕ, eqb, leb, ltb, length}
use Rattle.laws.specs.Choice.{pick, place_of}
use Rattle.refusal.specs.Told.{Told, gives, refuses, then_told}
use Rattle.command.specs.Table.{headers, count_of}
use Rattle.command.specs.Kinds.{allowed, fault_of, kind_of}
use Rattle.command.specs.Commands.{command_of}
use Rattle.rules.specs.Rules.{last_rule_of}
use Rattle.command.specs.declared.commands.Command.{Command}
use Rattle.owners.specs.Owners.{may_open, may_name}
use Rattle.state.specs.State.{Open, Session, at_line}
use Rattle.state.specs.Effects.{limit, opening, took, stop, with_parameter, after}
-- what a command asks of the settings, which a routine below this crate is stated by too
unfoldable pub use Rattle.start.specs.Rules.{start_rule_of}

-- "An accepted word answers "open", or the command that it completes"; a refused one its number
pub data Reply : Type 0 where
  still_open : Reply
  completed : Command → Reply
  refused : ℕ → Reply

pub record Stepped : Type 0 where
  pub reply : Reply
  pub session : Session

abbrev pub refusing : Session → ℕ → Stepped
refusing s n = record { reply = refused n; session = record { party = stop s.party; shared = s.shared } }

-- a command that is whole: accepted, or refused with 5 to 9
unfoldable pub judged : Told → Command → Session → Stepped
judged (gives values) c s = record { reply = completed c; session = after c s }
judged (refuses n) c s = refusing s n

unfoldable pub completing : Open → Session → Stepped
completing o s =
    let c = command_of o.line o.p0 o.p1 o.p2 o.p3 in
    judged (then_told (last_rule_of c) (start_rule_of c s)) c s

-- a parameter that its kind allows: "5 to 9 with the last parameter"
unfoldable pub placing : Open → Session → Stepped
placing o s =
    pick (ltb o.count (count_of o.line))
    (record { reply = still_open; session = record { party = opening o (took s.party); shared = s.shared } })
    (completing o s)

-- a word where a command is open: "Refusals 3 and 4 come with the word at fault"; "A number one doesn't own gets 20 at its word, after 4."
unfoldable pub parameter_step : Session → ℕ → Stepped
parameter_step s w =
    let o = s.party.opened in
    pick (allowed (kind_of o.line o.count) w)
    (pick (may_name s.party.birth.mine (kind_of o.line o.count) w) (placing (with_parameter o w) s) (refusing s 20))
    (refusing s (fault_of (kind_of o.line o.count)))

-- a word where none is: "2: a header word stands in no line of the command table"; "party 1's header setting" what is party 0's "gets 20"
unfoldable pub header_step : Session → ℕ → Stepped
header_step s w =
    pick (ltb (place_of w headers) (length headers))
    (pick (may_open s.party.birth.mine (place_of w headers))
    (record {
      reply = still_open;
      session =
          record {
            party = opening (at_line (place_of w headers)) (took s.party);
            shared = s.shared;
          };
    })
    (refusing s 20))
    (refusing s 2)

-- a word
unfoldable pub step_of : Session → ℕ → Stepped
step_of s w =
    pick (eqb s.party.stopped 1) (record { reply = refused 1; session = s })
    (pick (leb limit s.party.taken) (refusing s 17)
    (pick (eqb s.party.opened.line 21) (header_step s w) (parameter_step s w)))
