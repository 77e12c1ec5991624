-- How small programs start.
use Rattle.std.proofs.Common.{◌≡◌, ℕ, List, [], ◌∷◌, Bool, true, false, refl}
use Rattle.std.specs.Prelude.{codes}
use Rattle.cc_base.specs.declared.face.Def.{Def}
use Rattle.cc_base.specs.declared.face.GlobalPart.{GlobalPart}
use Rattle.cc_base.specs.declared.face.WordUse.{WordUse}
use Rattle.block_mem.specs.Start.{UnitParts, blocks_from}
use Rattle.block_mem.specs.declared.value.BlockName.TheVariants.{Global}
use Rattle.block_mem.specs.declared.value.Byte.TheVariants.{Unset, Plain, Part}

defined : List ℕ → Bool → ℕ → Def
defined name function size = record { name = name; function = function; size = size; need = 0 }

object : List ℕ → Bool → Bool → ℕ → List ℕ → List WordUse → GlobalPart
object name is_local writable size bytes uses = record { name = name; «local» = is_local; writable = writable; size = size; align = 4; bytes = bytes; uses = uses; shared = false }

shared : List ℕ → ℕ → GlobalPart
shared name size = record { name = name; «local» = false; writable = true; size = size; align = 4; bytes = []; uses = []; shared = true }

unit : List Def → List GlobalPart → UnitParts
unit ds gs = record { face = record { defs = ds; uses = [] }; globals = gs }

to : List ℕ → ℕ → WordUse
to name plus = record { offset = 0; name = name; plus = plus }

-- `extern int t[2]; int *p = &t[1];` beside `const int t[2] = {10, 20};`
pointer : List UnitParts
pointer = unit (defined (codes "p") false 4 ∷ []) (object (codes "p") false true 4 [] (to (codes "t") 4 ∷ []) ∷ []) ∷ unit (defined (codes "t") false 8 ∷ []) (object (codes "t") false false 8 (10 ∷ 0 ∷ 0 ∷ 0 ∷ 20 ∷ []) [] ∷ []) ∷ []

pointer_starts : blocks_from pointer 0 pointer ≡ (Global 0 0, record { bytes = Part (Global 1 0) 4 0 ∷ Part (Global 1 0) 4 1 ∷ Part (Global 1 0) 4 2 ∷ Part (Global 1 0) 4 3 ∷ []; writable = true }) ∷ (Global 1 0, record { bytes = Plain 10 ∷ Plain 0 ∷ Plain 0 ∷ Plain 0 ∷ Plain 20 ∷ Plain 0 ∷ Plain 0 ∷ Plain 0 ∷ []; writable = false }) ∷ []
unfolding pointer unit defined object to
pointer_starts = refl

-- a static object of the unit's own comes before another unit's of the name
own : List UnitParts
own = unit [] (object (codes "t") true true 1 (7 ∷ []) [] ∷ object (codes "p") true true 4 [] (to (codes "t") 0 ∷ []) ∷ []) ∷ unit (defined (codes "t") false 1 ∷ []) (object (codes "t") false true 1 (8 ∷ []) [] ∷ []) ∷ []

own_starts : blocks_from own 0 own ≡ (Global 0 0, record { bytes = Plain 7 ∷ []; writable = true }) ∷ (Global 0 1, record { bytes = Part (Global 0 0) 0 0 ∷ Part (Global 0 0) 0 1 ∷ Part (Global 0 0) 0 2 ∷ Part (Global 0 0) 0 3 ∷ []; writable = true }) ∷ (Global 1 0, record { bytes = Plain 8 ∷ []; writable = true }) ∷ []
unfolding own unit defined object to
own_starts = refl

-- another unit's static object is not meant, and neither is a function
hidden : List UnitParts
hidden = unit [] (object (codes "p") true true 4 [] (to (codes "f") 0 ∷ []) ∷ []) ∷ unit [] (object (codes "f") true true 1 [] [] ∷ []) ∷ unit (defined (codes "f") true 0 ∷ []) [] ∷ []

hidden_starts : blocks_from hidden 0 hidden ≡ (Global 0 0, record { bytes = Unset ∷ Unset ∷ Unset ∷ Unset ∷ []; writable = true }) ∷ (Global 1 0, record { bytes = Plain 0 ∷ []; writable = true }) ∷ []
unfolding hidden unit defined object to
hidden_starts = refl

-- a shared object is the first unit's, and another unit's pointer goes there
both : List UnitParts
both = unit [] (shared (codes "x") 2 ∷ []) ∷ unit [] (shared (codes "x") 2 ∷ object (codes "p") true true 4 [] (to (codes "x") 1 ∷ []) ∷ []) ∷ []

both_start : blocks_from both 0 both ≡ (Global 0 0, record { bytes = Plain 0 ∷ Plain 0 ∷ []; writable = true }) ∷ (Global 1 1, record { bytes = Part (Global 0 0) 1 0 ∷ Part (Global 0 0) 1 1 ∷ Part (Global 0 0) 1 2 ∷ Part (Global 0 0) 1 3 ∷ []; writable = true }) ∷ []
unfolding both unit shared object to
both_start = refl

-- a definition takes the place of the shared object
defined_once : List UnitParts
defined_once = unit [] (shared (codes "x") 1 ∷ []) ∷ unit (defined (codes "x") false 1 ∷ []) (object (codes "x") false true 1 (5 ∷ []) [] ∷ []) ∷ []

defined_starts : blocks_from defined_once 0 defined_once ≡ (Global 1 0, record { bytes = Plain 5 ∷ []; writable = true }) ∷ []
unfolding defined_once unit defined shared object
defined_starts = refl
