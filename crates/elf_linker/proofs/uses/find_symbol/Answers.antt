use Rattle.std.proofs.Common.{ℕ, List, ap, sym, ◌∙◌}
use Rattle.std.specs.Prelude.{is_some}
use Rattle.elf_file.specs.Object.{Object, symbol_of}
use Rattle.elf_linker.specs.Names.{is_use, defines, all_symbols}
use Rattle.elf_linker.specs.LinkSteps.{found_at, symbol_at}
use Rattle.elf_linker.proofs.Noting.{noted_some, noted_none, any-find, is_nothing}
use Rattle.elf_linker.proofs.Using.{unresolved_none, unresolved_some}
use Rattle.elf_linker.proofs.uses.find_symbol.Goals as goal

pub returns-then-is_some-clause-none : goal.returns-then-is_some-clause-none
returns-then-is_some-clause-none c =
    let objects = c.args.objects.now in let symbol = symbol_at objects c.args.number c.args.symbol in let index = λ (n : List ℕ). found_at c.args.definitions.now n in
    let named = c.symbol_name.ensures ∙ ap (λ (o : Object). (symbol_of o c.args.symbol).name) c.at-view.ensures in
    let some = ap is_some (ap index (sym named) ∙ sym c.look_up.ensures) ∙ sym c.is_some.ensures ∙ c.if-is_some.true in
    unresolved_none objects c.args.number c.args.symbol symbol (noted_some objects (all_symbols objects) symbol.name (index symbol.name) (c.requires.noted symbol.name) some)

pub returns-clause-fault : goal.returns-clause-fault
returns-clause-fault c =
    let objects = c.args.objects.now in let symbol = symbol_at objects c.args.number c.args.symbol in let index = λ (n : List ℕ). found_at c.args.definitions.now n in
    let e = ap (λ (o : Object). is_use (symbol_of o c.args.symbol)) (sym c.at-view.ensures) ∙ sym c.is_use.ensures ∙ c.if-not-is_use.false in
    let named = c.symbol_name.ensures ∙ ap (λ (o : Object). (symbol_of o c.args.symbol).name) c.at-view.ensures in
    let none = is_nothing (index symbol.name) (ap is_some (ap index (sym named) ∙ sym c.look_up.ensures) ∙ sym c.is_some.ensures ∙ c.if-is_some.false) in
    unresolved_some objects c.args.number c.args.symbol symbol e ((any-find (defines symbol.name) (all_symbols objects)).0 (noted_none objects (all_symbols objects) symbol.name (index symbol.name) (c.requires.noted symbol.name) none))
