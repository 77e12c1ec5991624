-- What numbers a function of Ltl names: nodes and slots that it has.
use Rattle.std.specs.Prelude.{ℕ, ◌<◌, ◌≤◌, ◌^◌, All, length, Option, Some, None}
use Rattle.ltl_lang.specs.declared.location.Loc.{Loc}
use Rattle.ltl_lang.specs.declared.location.Loc.TheVariants.{Ebx, Esi, Edi, Ebp, Slot}
use Rattle.ltl_lang.specs.declared.syntax.LtlNode.{LtlNode}
use Rattle.ltl_lang.specs.declared.syntax.LtlNode.TheVariants as node
use Rattle.ltl_lang.specs.declared.syntax.LtlParts.{LtlParts}

-- a register, or one of so many slots
abbrev pub IsLoc : ℕ → Loc → Type 0
IsLoc slots Ebx = Unit {0}
IsLoc slots Esi = Unit {0}
IsLoc slots Edi = Unit {0}
IsLoc slots Ebp = Unit {0}
IsLoc slots (Slot k) = k < slots

abbrev pub IsLocIfAny : ℕ → Option Loc → Type 0
IsLocIfAny slots None = Unit {0}
IsLocIfAny slots (Some l) = IsLoc slots l

-- one of so many nodes, whose numbers are in range where there are so many slots
abbrev pub NodeInRange : ℕ → ℕ → LtlNode → Type 0
NodeInRange nodes slots (node.Nop next) = next < nodes
NodeInRange nodes slots (node.Const n to next) = IsLoc slots to × (next < nodes)
NodeInRange nodes slots (node.Address name plus to next) = IsLoc slots to × (next < nodes)
NodeInRange nodes slots (node.Local index to next) = IsLoc slots to × (next < nodes)
NodeInRange nodes slots (node.Apply op left right to next) = IsLoc slots left × IsLoc slots right × IsLoc slots to × (next < nodes)
NodeInRange nodes slots (node.Load width place to next) = IsLoc slots place × IsLoc slots to × (next < nodes)
NodeInRange nodes slots (node.Store width place value next) = IsLoc slots place × IsLoc slots value × (next < nodes)
NodeInRange nodes slots (node.Call name arguments to next) = All (IsLoc slots) arguments × IsLocIfAny slots to × (next < nodes)
NodeInRange nodes slots (node.Branch l this that) = IsLoc slots l × (this < nodes) × (that < nodes)
NodeInRange nodes slots (node.Return l) = IsLocIfAny slots l

-- a function that names nothing that it has not
pub record InRange (f : LtlParts) : Type 0 where
  pub graph : All (NodeInRange (length f.graph) f.slots) f.graph
  pub nodes : length f.graph < 2 ^ 32
  pub entry : f.entry < length f.graph
  pub homes : All (IsLoc f.slots) f.homes
  pub parameters : f.parameters ≤ length f.homes
