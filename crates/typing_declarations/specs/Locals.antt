-- Locals of a function (C11, 6.2.4 and 6.7.1).
use Rattle.std.specs.Prelude.{ℕ, ◌+◌, Bool, true, false, not, cond, ◌&&◌, ◌||◌, List, ◌++◌, is_some}
use Rattle.text_grammar.specs.declared.tree.Base.{Base}
use Rattle.text_grammar.specs.declared.tree.Declarator.{Declarator}
use Rattle.typing_types.specs.Types.{Derived}
use Rattle.typing_types.specs.Sizes.{is_unfinished}
use Rattle.typing_faults.specs.declared.fault.Row.{Row}
use Rattle.typing_faults.specs.declared.fault.TypeKind.TheVariants as row
use Rattle.typing_scopes.specs.declared.entity.Entity.{Entity}
use Rattle.typing_scopes.specs.declared.entity.Entity.TheVariants as entity
use Rattle.typing_scopes.specs.Tables.{found}
use Rattle.typing_scopes.specs.Visible.{Visible}
use Rattle.typing_scopes.specs.Growth.{with_own}
use Rattle.typing_declarations.specs.declared.locals.Frame.{Frame}
use Rattle.typing_declarations.specs.Rows.{row_if}
use Rattle.typing_declarations.specs.Sums.{with_maybe_size, is_past_sum}
use Rattle.typing_declarations.specs.Declarators.{is_unfit, is_aggregate, is_large, declared_size}
use Rattle.typing_declarations.specs.Reserved.{is_reserved}

-- a local that is not `register` is a block, and the sizes of the blocks are added up
abbrev pub blocks_behind : Visible → ℕ → Bool → Derived → ℕ
blocks_behind scope sum is_register t = cond is_register sum (with_maybe_size sum (declared_size scope t))

-- a type that no object has, a length that is not written, or `register` with an array or a struct
abbrev pub is_unfit_local : Bool → Declarator → Derived → Bool
is_unfit_local is_register d t = is_unfit t || (d.is_open || (is_register && is_aggregate t))

abbrev pub local_rows : Visible → ℕ → Bool → Base → Declarator → Derived → List Row
local_rows scope sum is_register base d t =
    row_if (is_unfinished scope.layouts t) row.Unknown base.at
    ++ row_if (is_some (found scope.own d.name.bytes)) row.Twice d.name.at
    ++ row_if (is_unfit_local is_register d t) row.Kind d.name.at
    ++ row_if (is_reserved d.name.bytes) row.Reserved d.name.at
    ++ row_if (is_large scope t || (not is_register && is_past_sum (blocks_behind scope sum is_register t))) row.Size d.name.at

-- what a local is: a temporary or a block, by the next number
abbrev pub local_entity : Frame → Bool → Derived → Entity
local_entity frame true t = entity.Temporary frame.temporaries t
local_entity frame false t = entity.Local frame.blocks t

-- a local has its name from its declarator on, in its own initialiser too
abbrev pub local_named : Visible → Frame → Bool → Declarator → Derived → Visible
local_named scope frame is_register d t = with_own scope d.name.bytes (local_entity frame is_register t)

abbrev pub frame_behind : Visible → Frame → Bool → Derived → Frame
frame_behind scope frame true t = record frame { temporaries = frame.temporaries + 1 }
frame_behind scope frame false t = record frame { sum = blocks_behind scope frame.sum false t; blocks = frame.blocks + 1 }
