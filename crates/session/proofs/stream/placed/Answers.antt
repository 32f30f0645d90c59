-- `session::stream::placed` meets its contract. Assumes nothing.
use Rattle.session.proofs.Stepping.{place_asked, count_fits, placed_asked, placed_open, complete_asked, placed_whole}
use Rattle.session.proofs.stream.placed.Goals as goal

pub place-requires : goal.place-requires
place-requires c =
    let args = c.args in
    place_asked args.own.now args.tallies.now args.shared.now args.word c.requires

pub overflow_add-count : goal.overflow_add-count
overflow_add-count c =
    let args = c.args in
    record { fits = count_fits args.own.now args.tallies.now args.shared.now args.word c.requires }

pub count_word-requires : goal.count_word-requires
count_word-requires c =
    let args = c.args in
    placed_asked args.own.now args.tallies.now args.shared.now args.word c.requires _ c.place.ensures

pub returns-then-count-parameters : goal.returns-then-count-parameters
returns-then-count-parameters c =
    let args = c.args in
    placed_open args.own.now args.tallies.now args.shared.now args.word c.requires _ c.place.ensures
    (rw (← c.parameters.ensures) c.if-count-parameters.true) _ c.count_word.ensures

pub returns : goal.returns
returns c =
    let args = c.args in
    record {
      asked =
          complete_asked args.own.now args.tallies.now args.shared.now args.word c.requires _ c.place.ensures
          (rw (← c.parameters.ensures) c.if-count-parameters.false);
      completes =
          placed_whole args.own.now args.tallies.now args.shared.now args.word c.requires _ c.place.ensures
          (rw (← c.parameters.ensures) c.if-count-parameters.false);
    }
