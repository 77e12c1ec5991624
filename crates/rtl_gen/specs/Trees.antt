-- Core's expressions and statements as plain data, over which the translation goes by clauses.
use Rattle.std.specs.Prelude.{ℕ, List, [], ◌∷◌, map, Option, option_map}
use Rattle.block_mem.specs.declared.value.Width.{Width}
use Rattle.block_mem.specs.declared.operator.Op.{Op}
use Rattle.core_lang.specs.declared.syntax.Expression.{Expression}
use Rattle.core_lang.specs.declared.syntax.Expression.TheOpen.{Expression-F}
use Rattle.core_lang.specs.declared.syntax.Expression.TheFolds.{fold-Expression}
use Rattle.core_lang.specs.declared.syntax.Statement.{Statement}
use Rattle.core_lang.specs.declared.syntax.Statement.TheOpen.{Statement-F}
use Rattle.core_lang.specs.declared.syntax.Statement.TheFolds.{fold-Statement}

pub data Tree : Type 0 where
  Constant : ℕ → Tree
  Temporary : ℕ → Tree
  Address : ℕ → ℕ → Tree
  Local : ℕ → Tree
  Load : Width → Tree → Tree
  Unary : Op → Tree → Tree
  Binary : Op → Tree → Tree → Tree

-- a list of statements is a chain
pub data Code : Type 0 where
  Skip : Code
  Then : Code → Code → Code
  Set : ℕ → Tree → Code
  Store : Width → Tree → Tree → Code
  Call : Option ℕ → ℕ → List Tree → Code
  If : Tree → Code → Code → Code
  Loop : Code → Code
  Block : Code → Code
  Exit : ℕ → Code
  Return : Option Tree → Code

abbrev pub tree_step : Expression-F Tree → Tree
tree_step (Expression-F.Constant n) = Constant n
tree_step (Expression-F.Temporary j) = Temporary j
tree_step (Expression-F.Address symbol offset) = Address symbol offset
tree_step (Expression-F.Local index) = Local index
tree_step (Expression-F.Load w x) = Load w x
tree_step (Expression-F.Unary op x) = Unary op x
tree_step (Expression-F.Binary op x y) = Binary op x y

abbrev pub tree : Expression → Tree
tree = fold-Expression Tree tree_step

abbrev pub chain : List Code → Code
chain [] = Skip
chain (c ∷ cs) = Then c (chain cs)

abbrev pub code_step : Statement-F Code → Code
code_step (Statement-F.Set j e) = Set j (tree e)
code_step (Statement-F.Store w e v) = Store w (tree e) (tree v)
code_step (Statement-F.Call to callee es) = Call to callee (map tree es)
code_step (Statement-F.If e this that) = If (tree e) (chain this) (chain that)
code_step (Statement-F.Loop body) = Loop (chain body)
code_step (Statement-F.Block body) = Block (chain body)
code_step (Statement-F.Exit n) = Exit n
code_step (Statement-F.Return e) = Return (option_map tree e)

abbrev pub code : Statement → Code
code = fold-Statement Code code_step

abbrev pub body_code : List Statement → Code
body_code ss = chain (map code ss)
