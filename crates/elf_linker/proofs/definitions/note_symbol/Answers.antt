use Rattle.std.proofs.Common.{◌≡◌, ℕ, List, Some, ap, sym, subst, refl, ◌∙◌}
use Rattle.std.specs.Prelude.{is_some, if◌then◌else◌}
use Rattle.std.specs.Str.{bytes_eq}
use Rattle.elf_file.specs.Object.{Object, symbol_of}
use Rattle.elf_linker.specs.Names.{is_definition, defines}
use Rattle.elf_linker.specs.LinkSteps.{found_at, symbol_at, symbols_before}
use Rattle.elf_linker.proofs.Noting.{noted_other, noted_some, noted_none, noted_this, doubled_none, doubled_some, any-find, is_nothing}
use Rattle.elf_linker.specs.declared.definitions.Site.{Site}
use Rattle.elf_linker.proofs.definitions.note_symbol.Goals as goal

pub returns-then-not-is_definition-clause-noted : goal.returns-then-not-is_definition-clause-noted
returns-then-not-is_definition-clause-noted c name =
    let objects = c.args.objects.now in let symbol = symbol_at objects c.args.number c.args.symbol in
    let e = ap (λ (o : Object). is_definition (symbol_of o c.args.symbol)) (sym c.at-view.ensures) ∙ sym c.is_definition.ensures ∙ c.if-not-is_definition.true in
    noted_other objects (symbols_before objects c.args.number c.args.symbol) symbol name (found_at c.args.definitions.now name) e (c.requires.noted name)

pub returns-then-is_some-clause-fault : goal.returns-then-is_some-clause-fault
returns-then-is_some-clause-fault c h =
    let objects = c.args.objects.now in let symbol = symbol_at objects c.args.number c.args.symbol in let before = symbols_before objects c.args.number c.args.symbol in
    let e = ap (λ (o : Object). is_definition (symbol_of o c.args.symbol)) (sym c.at-view.ensures) ∙ sym c.is_definition.ensures ∙ c.if-not-is_definition.false in
    let named = c.symbol_name-name.ensures ∙ ap (λ (o : Object). (symbol_of o c.args.symbol).name) c.at-view.ensures in
    let found = ap is_some (ap (λ (n : List ℕ). found_at c.args.definitions.now n) (sym named) ∙ sym c.look_up.ensures) ∙ sym c.is_some.ensures ∙ c.if-is_some.true in
    doubled_some objects c.args.number c.args.symbol symbol e (noted_some objects before symbol.name (found_at c.args.definitions.now symbol.name) (c.requires.noted symbol.name) found)

pub returns-clause-noted : goal.returns-clause-noted
returns-clause-noted c =
    let objects = c.args.objects.now in let symbol = symbol_at objects c.args.number c.args.symbol in let before = symbols_before objects c.args.number c.args.symbol in
    let old = λ (n : List ℕ). found_at c.args.definitions.now n in let new = λ (n : List ℕ). found_at c.note.new.definitions n in
    let site : Site = record { object = c.args.number; symbol = c.args.symbol } in
    let e = ap (λ (o : Object). is_definition (symbol_of o c.args.symbol)) (sym c.at-view.ensures) ∙ sym c.is_definition.ensures ∙ c.if-not-is_definition.false in
    let named = c.symbol_name-name.ensures ∙ ap (λ (o : Object). (symbol_of o c.args.symbol).name) c.at-view.ensures in
    let none = is_nothing (old symbol.name) (ap is_some (ap old (sym named) ∙ sym c.look_up.ensures) ∙ sym c.is_some.ensures ∙ c.if-is_some.false) in
    let P : List ℕ → Type 0 = λ name. (other : List ℕ) → new other ≡ (if bytes_eq name other then Some site else old other) in
    noted_this objects before symbol site old new e c.requires.object c.requires.symbol refl c.requires.noted none (subst P named c.in_ok-note.ensures)

pub returns-clause-none : goal.returns-clause-none
returns-clause-none c =
    let objects = c.args.objects.now in let symbol = symbol_at objects c.args.number c.args.symbol in let before = symbols_before objects c.args.number c.args.symbol in
    let old = λ (n : List ℕ). found_at c.args.definitions.now n in
    let named = c.symbol_name-name.ensures ∙ ap (λ (o : Object). (symbol_of o c.args.symbol).name) c.at-view.ensures in
    let none = is_nothing (old symbol.name) (ap is_some (ap old (sym named) ∙ sym c.look_up.ensures) ∙ sym c.is_some.ensures ∙ c.if-is_some.false) in
    doubled_none objects c.args.number c.args.symbol symbol ((any-find (defines symbol.name) before).0 (noted_none objects before symbol.name (old symbol.name) (c.requires.noted symbol.name) none))
