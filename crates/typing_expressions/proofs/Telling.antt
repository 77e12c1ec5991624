-- What is told of the rows of two parts one after the other, and of the whole.
use Rattle.std.proofs.Common.{◌≡◌, ℕ, List, ◌++◌, Option, sym, ap, ◌∙◌}
use Rattle.std.proofs.lemmas.List.{append_assoc}
use Rattle.typing_faults.specs.declared.fault.Row.{Row}
use Rattle.typing_faults.specs.Faults.{told}
use Rattle.typing_faults.specs.laws.Faults.{told_append}
use Rattle.text_grammar.specs.declared.tree.BinaryOp.{BinaryOp}
use Rattle.text_grammar.specs.declared.tree.Expr.{Expr}
use Rattle.text_grammar.specs.declared.tree.Expr.TheVariants as e
use Rattle.text_grammar.specs.declared.tree.Expr.TheOpen.{Expr-F}
use Rattle.text_grammar.specs.declared.tree.Expr.TheFolds.{fold-roll-Expr}
use Rattle.typing_scopes.specs.Visible.{Visible}
use Rattle.typing_expressions.specs.declared.node.Node.{Node}
use Rattle.typing_expressions.specs.declared.judgement.Judgement.{Judgement}
use Rattle.typing_expressions.specs.Judgements.{of_parts, broken_in}
use Rattle.typing_expressions.specs.Access.{index}
use Rattle.typing_expressions.specs.Operations.{binary}
use Rattle.typing_expressions.specs.Expressions.{Finding, expr_step, rows, node_of}

told_parts : (r : Option Row) (xs ys zs : List Row) → told (told r xs) (ys ++ zs) ≡ told r ((xs ++ ys) ++ zs)
told_parts r xs ys zs = sym (told_append r xs (ys ++ zs)) ∙ ap (λ (rs : List Row). told r rs) (sym (append_assoc xs ys zs))

-- of the right part and the whole, where the left part was typed before
after_left : (scope : Visible) (rule : Node → Node → Judgement) (left right : Expr) (n : Option Node) (old new : Option Row) → n ≡ node_of scope left → new ≡ told old (rows scope left) → told new (rows scope right ++ broken_in (of_parts rule n (node_of scope right))) ≡ told old ((rows scope left ++ rows scope right) ++ broken_in (of_parts rule (node_of scope left) (node_of scope right)))
after_left scope rule left right n old new typed told_left =
    ap (λ (r : Option Row). told r (rows scope right ++ broken_in (of_parts rule n (node_of scope right)))) told_left
    ∙ ap (λ (m : Option Node). told (told old (rows scope left)) (rows scope right ++ broken_in (of_parts rule m (node_of scope right)))) typed
    ∙ told_parts old (rows scope left) (rows scope right) (broken_in (of_parts rule (node_of scope left) (node_of scope right)))

rows_of_binary : (scope : Visible) (at : ℕ) (op : BinaryOp) (left right : Expr) → rows scope (e.Binary at op left right) ≡ (rows scope left ++ rows scope right) ++ broken_in (of_parts (binary scope.layouts at op) (node_of scope left) (node_of scope right))
rows_of_binary scope at op left right =
    ap (rows scope) (sym (e.rolls-Binary at op left right)) ∙ ap (λ (f : Finding). f.rows) (fold-roll-Expr Finding (expr_step scope) (Expr-F.Binary at op left right))

rows_of_index : (scope : Visible) (at : ℕ) (array subscript : Expr) → rows scope (e.Index at array subscript) ≡ (rows scope array ++ rows scope subscript) ++ broken_in (of_parts (index scope.layouts at) (node_of scope array) (node_of scope subscript))
rows_of_index scope at array subscript =
    ap (rows scope) (sym (e.rolls-Index at array subscript)) ∙ ap (λ (f : Finding). f.rows) (fold-roll-Expr Finding (expr_step scope) (Expr-F.Index at array subscript))

pub binary_told : (scope : Visible) (at : ℕ) (op : BinaryOp) (left right tree : Expr) (n : Option Node) (old new : Option Row) → tree ≡ e.Binary at op left right → n ≡ node_of scope left → new ≡ told old (rows scope left) → told new (rows scope right ++ broken_in (of_parts (binary scope.layouts at op) n (node_of scope right))) ≡ told old (rows scope tree)
binary_told scope at op left right tree n old new is typed told_left =
    after_left scope (binary scope.layouts at op) left right n old new typed told_left
    ∙ ap (λ (rs : List Row). told old rs) (sym (ap (rows scope) is ∙ rows_of_binary scope at op left right))

pub index_told : (scope : Visible) (at : ℕ) (array subscript tree : Expr) (n : Option Node) (old new : Option Row) → tree ≡ e.Index at array subscript → n ≡ node_of scope array → new ≡ told old (rows scope array) → told new (rows scope subscript ++ broken_in (of_parts (index scope.layouts at) n (node_of scope subscript))) ≡ told old (rows scope tree)
index_told scope at array subscript tree n old new is typed told_array =
    after_left scope (index scope.layouts at) array subscript n old new typed told_array
    ∙ ap (λ (rs : List Row). told old rs) (sym (ap (rows scope) is ∙ rows_of_index scope at array subscript))
