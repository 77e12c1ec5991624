-- What the reader of one declaration of locals answers.
use Rattle.std.specs.Prelude.{◌≡◌, List, [], ◌∷◌, ◌++◌, None, Bool, Result, Ok, Err}
use Rattle.text_grammar.specs.declared.tree.Locals.{Locals}
use Rattle.text_grammar.specs.Grammar.{Symbol}
use Rattle.text_grammar.specs.laws.Programs.{Call, BaseType, LocalListsOf, locals_from, walk, runs}
use Rattle.text_parser.specs.declared.stop.Stop.{Stop}
use Rattle.text_parser.specs.declared.stop.Stop.TheVariants as stop

-- the declaration, whichever were found before, unless memory fails
abbrev pub GivesLocals : Bool → List Symbol → Result Locals Stop → List Symbol → Type 0
GivesLocals is_register old (Ok l) new = (found : List Locals) → walk runs (Call BaseType (locals_from found is_register)) old ≡ runs (LocalListsOf (found ++ l ∷ [])) new
GivesLocals is_register old (Err stop.Memory) new = Unit {0}
GivesLocals is_register old (Err stop.Token) new = (found : List Locals) → walk runs (Call BaseType (locals_from found is_register)) old ≡ (None, new)
