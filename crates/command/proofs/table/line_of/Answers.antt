-- `command::table::line_of` meets its contract: each return by what the operation and the compare show. Assumes nothing.
use mathlib.Core.Path.{◌≡◌, sym, ap, ◌∙◌}
use Prim.Native.Nat.{◌-◌, ◌/◌, ◌%◌, ◌≤◌}
use native.Mathlib.Omega.{arith}
use Rattle.command.specs.Table.{header_of, told_line}
use Rattle.command.proofs.Headers.{found, absent_low, absent_high, absent_other}
use Rattle.command.proofs.table.line_of.Goals as goal
use Rattle.command.proofs.table.line_of.Goals.{
  else-line-le-SET_COND_TEST-via-then-line-le-SET_COND_TEST+else-made_header-word,
  else-line-le-SET_COND_TEST-via-else-line-le-SET_COND_TEST,
}

pub returns-in_err-line : goal.returns-in_err-line
returns-in_err-line c =
    let low : 7 ≤ c.args.word / 256 % 256 → ⊥ = c.in_err-line.ensures in
    ap told_line c.from_residual.ensures ∙ sym (absent_low _ (omega arith))

pub returns-then-made_header-word : goal.returns-then-made_header-word
returns-then-made_header-word c =
    let operation : c.in_ok-line.line ≡ c.args.word / 256 % 256 - 7 = omega arith in
    sym (rw operation (found _ _ (omega arith) (sym (ap header_of operation) ∙ sym c.made_header.ensures ∙ c.if-made_header-word.true)))

pub returns-else-line-le-SET_COND_TEST : goal.returns-else-line-le-SET_COND_TEST
returns-else-line-le-SET_COND_TEST c =
    let operation : c.in_ok-line.line ≡ c.args.word / 256 % 256 - 7 = omega arith in
    elim c.else-line-le-SET_COND_TEST.branch [
      | else-line-le-SET_COND_TEST-via-then-line-le-SET_COND_TEST+else-made_header-word w ↦
          sym (absent_other _ (λ e. w.if-made_header-word.false (w.made_header.ensures ∙ ap header_of operation ∙ e)))
      | else-line-le-SET_COND_TEST-via-else-line-le-SET_COND_TEST w ↦ sym (absent_high _ (omega arith))
    ]
