use Rattle.std.specs.Option.{option_to_list}
use Rattle.std.proofs.lemmas.List.Elements.{Contains-append_cases, Contains-append_left, Contains-append_right}
use Rattle.rtl_lang.specs.Routines.{routine}
use Rattle.reg_live.proofs.Moving.{fits_still, gather_moves, gather_settled}
use Rattle.reg_live.proofs.sweeps.gather.Goals as goal

pub take_if-second-requires-clause-fits : goal.take_if-second-requires-clause-fits
take_if-second-requires-clause-fits c =
    fits_still (routine c.args.function.now) c.args.rows.now c.take_if-first.new.rows c.take_if-first.ensures.high c.take_if-first.ensures.wide c.requires.fits

pub returns-clause-moves : goal.returns-clause-moves
returns-clause-moves c =
    let xs = option_to_list c.behind-followers.result.first in
    let ys = option_to_list c.behind-followers.result.second in
    gather_moves (routine c.args.function.now) c.args.rows.now c.take_if-first.new.rows c.take_if-second.new.rows c.args.place xs ys c.take_if-first.result c.take_if-second.result c.behind-followers.ensures (λ m h. Contains-append_left xs ys m h) (λ m h. Contains-append_right xs ys m h) c.take_if-first.ensures c.take_if-second.ensures

pub returns-clause-settled : goal.returns-clause-settled
returns-clause-settled c =
    let xs = option_to_list c.behind-followers.result.first in
    let ys = option_to_list c.behind-followers.result.second in
    gather_settled (routine c.args.function.now) c.args.rows.now c.take_if-first.new.rows c.take_if-second.new.rows c.args.place xs ys c.take_if-first.result c.take_if-second.result c.behind-followers.ensures (λ m h. Contains-append_cases xs ys m h) c.take_if-first.ensures c.take_if-second.ensures
