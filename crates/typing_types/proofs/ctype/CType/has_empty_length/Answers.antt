-- The lengths of a type are the outermost one and those behind it.
use Rattle.std.proofs.Common.{sym, ◌∙◌, ap}
use Rattle.typing_types.specs.declared.class.Extent.{Extent}
use Rattle.typing_types.specs.Types.{Derived, lengths_of, is_empty_among}
use Rattle.typing_types.proofs.Products.{empty_among, known_among}
use Rattle.typing_types.proofs.ctype.CType.has_empty_length.Goals as goal

pub returns-in-Unknown : goal.returns-in-Unknown
returns-in-Unknown c =
    c.has_zero.ensures
    ∙ sym (empty_among c.self.inside.rest.now)
    ∙ sym (ap (λ (e : Extent). is_empty_among (lengths_of e c.self.inside.rest.now)) c.in-Unknown.is)
    ∙ ap (λ (t : Derived). is_empty_among t.lengths) c.self.view_is

pub returns-else-length-eq0 : goal.returns-else-length-eq0
returns-else-length-eq0 c =
    c.has_zero-else-length-eq0.ensures
    ∙ known_among c.in-Known.length c.self.inside.rest.now c.if-length-eq0.false
    ∙ sym (ap (λ (e : Extent). is_empty_among (lengths_of e c.self.inside.rest.now)) c.in-Known.is)
    ∙ ap (λ (t : Derived). is_empty_among t.lengths) c.self.view_is
