-- What stands behind a declarator, from its parts.
use Rattle.std.proofs.Common.{ℕ, ◌≡◌, ◌+◌, List, Option, ap, ◌∙◌, arith}
use Rattle.cc_base.specs.declared.face.GlobalPart.{GlobalPart}
use Rattle.text_grammar.specs.declared.tree.Base.{Base}
use Rattle.text_grammar.specs.declared.tree.Linkage.{Linkage}
use Rattle.text_grammar.specs.declared.tree.ObjectItem.{ObjectItem}
use Rattle.typing_types.specs.Types.{Derived}
use Rattle.typing_types.specs.Laid.{Laid}
use Rattle.typing_scopes.specs.Visible.{Visible}
use Rattle.typing_nodes.specs.Nodes.{told_nodes, object_nodes}
use Rattle.typing_declarations.specs.declared.whole.Whole.{Whole}
use Rattle.typing_declarations.specs.Declarators.{laid_of}
use Rattle.typing_declarations.specs.Objects.{object_named, sum_behind}
use Rattle.typing_initialisers.specs.declared.data.Data.{Data}
use Rattle.typing_initialisers.specs.Objects.{initial_data}
use Rattle.typing_units.specs.declared.walk.Walk.{Walk}
use Rattle.typing_units.specs.Objects.{global_part, with_global, item_type, item_stated, item_named, nodes_behind, item_behind}

told_sum : (a b : ℕ) → told_nodes (a + told_nodes b) ≡ told_nodes (a + b)
told_sum a b = omega arith

abbrev made : Walk → Visible → ℕ → ℕ → List GlobalPart → Walk
made walk scope sum nodes globals = record walk { scope = scope; sum = sum; nodes = nodes; globals = globals }

pub item_is : (whole : Whole) (l : Linkage) (base : Base) (walk : Walk) (item : ObjectItem) (declared stated : Derived) (named behind : Visible) (sum counted nodes : ℕ) (content : Data) (shape : Option Laid) (globals : List GlobalPart) → declared ≡ item_type walk.scope base item → stated ≡ item_stated walk.scope base item → named ≡ object_named whole walk.scope l item.declarator declared → behind ≡ object_named whole named l item.declarator stated → sum ≡ sum_behind walk.scope walk.sum l stated → content ≡ initial_data named stated item.initialised → shape ≡ laid_of named stated → counted ≡ told_nodes (object_nodes item) → nodes ≡ told_nodes (walk.nodes + counted) → globals ≡ with_global l walk.globals (global_part whole base item.declarator shape content) → record { scope = behind; sum = sum; nodes = nodes; globals = globals; functions = walk.functions } ≡ item_behind whole l base walk item
item_is whole l base walk item declared stated named behind sum counted nodes content shape globals declared_is stated_is named_is behind_is sum_is content_is shape_is counted_is nodes_is globals_is =
    let d = item.declarator in
    let t = item_stated walk.scope base item in
    let v = item_named whole walk.scope l base item in
    let names : named ≡ v = named_is ∙ ap (λ u. object_named whole walk.scope l d u) declared_is in
    let scopes = behind_is ∙ ap (λ u. object_named whole u l d stated) names ∙ ap (λ u. object_named whole v l d u) stated_is in
    let sums = sum_is ∙ ap (λ u. sum_behind walk.scope walk.sum l u) stated_is in
    let contents = content_is ∙ ap (λ u. initial_data u stated item.initialised) names ∙ ap (λ u. initial_data v u item.initialised) stated_is in
    let shapes : shape ≡ laid_of walk.scope t = shape_is ∙ ap (λ u. laid_of u stated) names ∙ ap (λ u. laid_of v u) stated_is in
    let counts = nodes_is ∙ ap (λ n. told_nodes (walk.nodes + n)) counted_is ∙ told_sum walk.nodes (object_nodes item) in
    let all = globals_is ∙ ap (λ s. with_global l walk.globals (global_part whole base d s content)) shapes ∙ ap (λ c. with_global l walk.globals (global_part whole base d (laid_of walk.scope t) c)) contents in
    ap (λ u. made walk u sum nodes globals) scopes
    ∙ ap (λ n. made walk (object_named whole v l d t) n nodes globals) sums
    ∙ ap (λ n. made walk (object_named whole v l d t) (sum_behind walk.scope walk.sum l t) n globals) counts
    ∙ ap (λ gs. made walk (object_named whole v l d t) (sum_behind walk.scope walk.sum l t) (nodes_behind walk item) gs) all
