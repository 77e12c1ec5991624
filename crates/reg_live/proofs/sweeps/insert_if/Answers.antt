use Rattle.std.proofs.Common.{ℕ, false, Option, [], sym, subst}
use Rattle.std.specs.Option.{option_to_list}
use Rattle.flow_walks.specs.laws.Members.{first_in}
use Rattle.reg_live.specs.Sweeps.{Adds, InRow, AreBelow}
use Rattle.reg_live.proofs.Adding.{insert_adds, in_row_none}
use Rattle.reg_live.proofs.sweeps.insert_if.Goals as goal

pub insert-requires-clause-bit_in_range : goal.insert-requires-clause-bit_in_range
insert-requires-clause-bit_in_range c =
    let P : Option ℕ → Type 0 = λ o. AreBelow c.args.rows.now.width (option_to_list o) in
    subst P c.in-Some.is c.requires.bits c.in-Some.temporary (first_in c.in-Some.temporary [])

pub returns-in-Some : goal.returns-in-Some
returns-in-Some c =
    let e = c.insert.ensures in
    let P : Option ℕ → Type 0 = λ o. Adds (InRow c.args.place (option_to_list o)) c.args.rows.now c.insert.new.self c.insert.result in
    let Q : Option ℕ → Type 0 = λ o. AreBelow c.args.rows.now.width (option_to_list o) in
    subst P (sym c.in-Some.is) (insert_adds c.args.place c.in-Some.temporary c.args.rows.now c.insert.new.self c.insert.result (record { high = e.high; wide = e.wide; set = e.set; others = e.others; changed_is = e.changed; unchanged = e.unchanged }) c.requires.row (subst Q c.in-Some.is c.requires.bits c.in-Some.temporary (first_in c.in-Some.temporary [])))

pub returns-in-None : goal.returns-in-None
returns-in-None c =
    let P : Option ℕ → Type 0 = λ o. Adds (InRow c.args.place (option_to_list o)) c.args.rows.now c.args.rows.now false in
    subst P (sym c.in-None.is) (in_row_none c.args.place c.args.rows.now)
