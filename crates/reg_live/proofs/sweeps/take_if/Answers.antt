use Rattle.std.proofs.Common.{ℕ, false, Option, sym, subst}
use Rattle.std.specs.Option.{option_to_list}
use Rattle.rtl_lang.specs.Routines.{routine}
use Rattle.reg_live.specs.Sweeps.{Adds, AskedOfAny}
use Rattle.reg_live.proofs.Asking.{asked_of_one, asked_of_none}
use Rattle.reg_live.proofs.sweeps.take_if.Goals as goal

pub returns-in-Some : goal.returns-in-Some
returns-in-Some c =
    let r = routine c.args.function.now in
    let P : Option ℕ → Type 0 = λ o. Adds (AskedOfAny r c.args.rows.now c.args.place (option_to_list o)) c.args.rows.now c.take_asked.new.rows c.take_asked.result in
    subst P (sym c.in-Some.is) (asked_of_one r c.args.rows.now c.take_asked.new.rows c.args.place c.in-Some.number c.take_asked.result c.take_asked.ensures)

pub returns-in-None : goal.returns-in-None
returns-in-None c =
    let r = routine c.args.function.now in
    let P : Option ℕ → Type 0 = λ o. Adds (AskedOfAny r c.args.rows.now c.args.place (option_to_list o)) c.args.rows.now c.args.rows.now false in
    subst P (sym c.in-None.is) (asked_of_none r c.args.rows.now c.args.place)
