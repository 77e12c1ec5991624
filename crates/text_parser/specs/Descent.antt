-- What the parser's functions answer.
use Rattle.std.specs.Prelude.{◌≡◌, List, Option, Some, None, Result, Ok, Err}
use Rattle.text_grammar.specs.declared.kind.Kind.{Kind}
use Rattle.text_grammar.specs.Grammar.{Symbol}
use Rattle.text_grammar.specs.laws.Programs.{head, tail, Out, taken}
use Rattle.text_parser.specs.declared.stop.Stop.{Stop}
use Rattle.text_parser.specs.declared.stop.Stop.TheVariants as stop

-- a token of the kind was taken, or the next is none
abbrev pub TakesIf : Kind → List Symbol → Option Symbol → List Symbol → Type 0
TakesIf kind old (Some x) new = (head old ≡ Some x) × (taken kind (head old) ≡ Some x) × (new ≡ tail old) × (x.kind ≡ kind)
TakesIf kind old None new = (taken kind (head old) ≡ None) × (new ≡ old)

-- a token of the kind was taken, or it must have been
abbrev pub Expects : Kind → List Symbol → Result Symbol Stop → List Symbol → Type 0
Expects kind old (Ok x) new = TakesIf kind old (Some x) new
Expects kind old (Err stop.Memory) new = ⊥
Expects kind old (Err stop.Token) new = TakesIf kind old None new

-- what a function of the parser answers, unless memory fails
abbrev pub Gives : {A : Type 0} → Out A → Result A Stop → List Symbol → Type 0
Gives out (Ok a) new = out ≡ (Some a, new)
Gives out (Err stop.Memory) new = Unit {0}
Gives out (Err stop.Token) new = out ≡ (None, new)
