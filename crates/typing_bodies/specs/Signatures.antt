-- What a declaration says of a function's type, with structs by their tags (C11, 6.2.7 and 6.7.6.3).
use Rattle.std.specs.Prelude.{ℕ, map}
use Rattle.text_grammar.specs.declared.tree.BaseKind.{BaseKind}
use Rattle.text_grammar.specs.declared.tree.BaseKind.TheVariants as kind
use Rattle.text_grammar.specs.declared.tree.Base.{Base}
use Rattle.text_grammar.specs.declared.tree.Parameter.{Parameter}
use Rattle.text_grammar.specs.declared.tree.Head.{Head}
use Rattle.clight_unit.specs.declared.signature.ValueBase.{ValueBase}
use Rattle.clight_unit.specs.declared.signature.ValueBase.TheVariants as base
use Rattle.clight_unit.specs.declared.signature.ValueType.{ValueType}
use Rattle.clight_unit.specs.declared.signature.Signature.{Signature}

abbrev pub value_base : BaseKind → ValueBase
value_base kind.Int = base.Int
value_base kind.Char = base.Char
value_base kind.UnsignedInt = base.UnsignedInt
value_base kind.UnsignedChar = base.UnsignedChar
value_base kind.Void = base.Void
value_base (kind.Struct tag) = base.Struct tag

abbrev pub value_type : Base → ℕ → ValueType
value_type b stars = record { base = value_base b.kind; stars = stars }

abbrev pub parameter_type : Parameter → ValueType
parameter_type p = value_type p.base p.stars

abbrev pub signature_of : Head → Signature
signature_of head = record { result = value_type head.base head.stars; parameters = map parameter_type head.parameters }
