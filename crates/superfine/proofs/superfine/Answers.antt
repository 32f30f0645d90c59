-- `superfine::superfine` meets its contract: a law for each return. Assumes nothing.
use mathlib.Core.Path.{sym, ap, ◌∙◌}
use Rattle.superfine.specs.Superfine.{told_corners}
use Rattle.memory.proofs.Calls.{told_so}
use Rattle.superfine.proofs.Channels.{word_refused, corners_refused, corners_found, layout_read, four_small}
use Rattle.superfine.proofs.superfine.Goals as goal

pub returns-then-not-superfine_word : goal.returns-then-not-superfine_word
returns-then-not-superfine_word c = told_so (word_refused _ _ _ _ _ _ _ (sym c.superfine_word.ensures ∙ c.if-not-superfine_word.true)) c.refused.ensures

pub four-requires : goal.four-requires
four-requires c =
    four_small _ _ _ _ (sym c.superfine_word.ensures ∙ c.if-not-superfine_word.false) c.code.ensures
    c.size-size.ensures

pub returns-in-Refused : goal.returns-in-Refused
returns-in-Refused c =
    let layout-read-here =
    layout_read _ _ _ _ _ _ _ c.code.ensures c.size-size.ensures c.pitch.ensures c.tiled.ensures in
    let superfine-word-told = sym c.superfine_word.ensures ∙ c.if-not-superfine_word.false in
    let addresses-told = sym c.addresses.ensures ∙ ap told_corners c.in-Refused.is in
    told_so (corners_refused _ _ _ _ _ _ _ superfine-word-told _ layout-read-here _ addresses-told) c.refused-in-Refused.ensures

pub returns-in-At : goal.returns-in-At
returns-in-At c =
    let layout-read-here =
    layout_read _ _ _ _ _ _ _ c.code.ensures c.size-size.ensures c.pitch.ensures c.tiled.ensures in
    let addresses-told = sym c.addresses.ensures ∙ ap told_corners c.in-At.is in
    let superfine-word-told = sym c.superfine_word.ensures ∙ c.if-not-superfine_word.false in
    told_so (corners_found _ _ _ _ _ _ _ superfine-word-told _ layout-read-here _ _ _ _ addresses-told) c.four.ensures
