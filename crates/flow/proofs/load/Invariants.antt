-- `flow::load` meets its contract. Loop: the first slots hold the words read so far, the others are plain. Assumes nothing.
use mathlib.Core.Path.{◌≡◌}
use Rattle.flow.specs.Store.{first_words, second_words, plain_first, plain_second}
use Rattle.flow.proofs.Loading.{partly}
use Rattle.flow.proofs.load.Given as goal

abbrev pub invariant-loop-k : goal.invariant-loop-k
invariant-loop-k l =
    (l.firsts ≡ partly plain_first (first_words l.words) l.k) × (l.seconds ≡ partly plain_second (second_words l.words) l.k)
