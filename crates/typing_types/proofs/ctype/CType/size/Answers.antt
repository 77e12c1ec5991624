-- An array has its lengths' product of elements.
use Rattle.std.proofs.Common.{◌≡◌, ◌⊎◌, true, ◌<◌, ◌≤◌, ◌*◌, ℕ, arith, sym, ◌∙◌, ap, subst}
use Rattle.std.specs.Prelude.{Option, Some}
use Rattle.typing_types.specs.Types.{Derived, lengths_of, is_empty_among}
use Rattle.typing_types.specs.Sizes.{size_of}
use Rattle.typing_types.specs.Structs.{base_size}
use Rattle.typing_types.specs.Widths.{largest, scaled}
use Rattle.typing_types.proofs.Products.{size_of_known_array, past_among}
use Rattle.typing_types.proofs.ctype.CType.size.Goals as goal

sized : (c : goal.In-Some-array_size) → size_of c.args.structs.now c.args.self.now ≡ Some (scaled (c.in-Some.size * c.in-Known.count) c.self.inside.rest.now)
sized c =
    let inside = c.self.inside in
    let P : Derived → Type 0 = λ t. size_of c.args.structs.now t ≡ Some (scaled (c.in-Some.size * c.in-Known.count) inside.rest.now) in
    subst P c.self.view_is (size_of_known_array c.args.structs.now inside.base inside.stars inside.pointers c.in-Known.count c.in-Some.size inside.extent inside.rest.now (omega arith) c.in-Known.is (sym c.in-Some.ensures.value))

pub returns-in-Some-array_size : goal.returns-in-Some-array_size
returns-in-Some-array_size c = (sized c ∙ ap (λ n. Some n) (sym c.in-Some-array_size.ensures.some.0), c.in-Some-array_size.ensures.some.1)

pub returns-in-None : goal.returns-in-None
returns-in-None c =
    let inside = c.self.inside in
    let n = scaled (c.in-Some.size * c.in-Known.count) inside.rest.now in
    let P : Derived → Type 0 = λ t. size_of c.args.structs.now t ≡ Some n in
    let Q : Derived → Type 0 = λ t. (largest < n) ⊎ (is_empty_among t.lengths ≡ true) in
    let whole = subst P c.self.view_is (size_of_known_array c.args.structs.now inside.base inside.stars inside.pointers c.in-Known.count c.in-Some.size inside.extent inside.rest.now (omega arith) c.in-Known.is (sym c.in-Some.ensures.value)) in
    (n, whole, subst Q c.self.view_is (past_among inside.extent c.in-Known.count n inside.rest.now c.in-Known.is c.in-None.ensures.none))
