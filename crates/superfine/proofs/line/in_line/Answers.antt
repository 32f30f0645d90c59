-- `superfine::line::in_line` meets its contract: each part is put right after the one before it. Assumes nothing.
use mathlib.Core.Path.{ap, ◌∙◌}
use mathlib.Core.List.{List}
use Prim.Native.Nat.{ℕ, ◌*◌}
use Rattle.memory.specs.Elements.{overwritten}
use Rattle.superfine.specs.InLine.{in_line}
use Rattle.superfine.proofs.line.in_line.Goals as goal

pub returns : goal.returns
unfolding in_line
returns c =
    let args = c.args in
    c.put.ensures
    ∙ ap (λ (q : List ℕ). overwritten (args.n * 3) args.d.now q) (c.put-bytes-3.ensures
    ∙ ap (λ (q : List ℕ). overwritten (args.n * 2) args.c.now q)
    (c.put-bytes-2.ensures ∙ ap (λ (q : List ℕ). overwritten args.n args.b.now q) c.put-bytes.ensures))
