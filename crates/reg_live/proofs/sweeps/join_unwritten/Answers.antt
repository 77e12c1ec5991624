use Rattle.std.proofs.Common.{ℕ, List, [], ◌∷◌, subst}
use Rattle.reg_live.specs.Sweeps.{Adds, Unwritten}
use Rattle.reg_live.proofs.Adding.{join_adds, joined_but, joined_all}
use Rattle.reg_live.proofs.sweeps.join_unwritten.Goals as goal

pub returns-in-Some : goal.returns-in-Some
returns-in-Some c =
    let e = c.join_but.ensures in
    let P : List ℕ → Type 0 = λ writes. Adds (Unwritten c.args.rows.now c.args.place c.args.number writes) c.args.rows.now c.join_but.new.self c.join_but.result in
    subst P c.in-Some.ensures (join_adds c.args.place c.args.number (c.in-Some.to ∷ []) c.args.rows.now c.join_but.new.self c.join_but.result (joined_but c.args.place c.args.number c.in-Some.to c.args.rows.now c.join_but.new.self c.join_but.result e.high e.wide e.joined e.others e.changed e.unchanged) c.requires.row)

pub returns-in-None : goal.returns-in-None
returns-in-None c =
    let e = c.join.ensures in
    let P : List ℕ → Type 0 = λ writes. Adds (Unwritten c.args.rows.now c.args.place c.args.number writes) c.args.rows.now c.join.new.self c.join.result in
    subst P c.in-None.ensures (join_adds c.args.place c.args.number [] c.args.rows.now c.join.new.self c.join.result (joined_all c.args.place c.args.number c.args.rows.now c.join.new.self c.join.result e.high e.wide e.joined e.others e.changed e.unchanged) c.requires.row)
