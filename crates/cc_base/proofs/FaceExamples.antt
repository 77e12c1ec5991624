-- What units mean together, at small programs.
use Rattle.std.proofs.Common.{◌≡◌, ℕ, List, [], ◌∷◌, true, false, Some, None, refl}
use Rattle.std.specs.Prelude.{codes}
use Rattle.cc_base.specs.Faces.{source_fault}
use Rattle.cc_base.specs.declared.face.Face.{Face}
use Rattle.cc_base.specs.declared.face.Def.{Def}
use Rattle.cc_base.specs.declared.face.Wanted.{Wanted}
use Rattle.cc_base.specs.declared.face.SourceFault.TheVariants.{Doubled, Unresolved, Sized}

function : List ℕ → Def
function name = record { name = name; function = true; size = 0; need = 64 }

object : List ℕ → ℕ → Def
object name size = record { name = name; function = false; size = size; need = 0 }

wanted : List ℕ → ℕ → Wanted
wanted name size = record { name = name; stated = size; shared = false }

shared : List ℕ → ℕ → Wanted
shared name size = record { name = name; stated = size; shared = true }

face : List Def → List Wanted → Face
face ds us = record { defs = ds; uses = us }

-- `main` uses `f` of another unit, and `getbyte`
linked : source_fault (face (function (codes "main") ∷ []) (wanted (codes "f") 0 ∷ wanted (codes "getbyte") 0 ∷ []) ∷ face (function (codes "f") ∷ []) [] ∷ []) ≡ None
unfolding function wanted face
linked = refl

-- without the other unit
alone : source_fault (face (function (codes "main") ∷ []) (wanted (codes "f") 0 ∷ []) ∷ []) ≡ Some (Unresolved 0 0)
unfolding function wanted face
alone = refl

without_main : source_fault (face (function (codes "f") ∷ []) [] ∷ []) ≡ Some (Unresolved 1 0)
unfolding function wanted face
without_main = refl

-- a name that two units define comes before one that none does
twice : source_fault (face (function (codes "main") ∷ function (codes "f") ∷ []) (wanted (codes "h") 0 ∷ []) ∷ face (function (codes "f") ∷ []) [] ∷ []) ≡ Some (Doubled 1 0)
unfolding function wanted face
twice = refl

-- `extern int t[4];` and `int t[5];`
other_size : source_fault (face (function (codes "main") ∷ []) (wanted (codes "t") 16 ∷ []) ∷ face (object (codes "t") 20 ∷ []) [] ∷ []) ≡ Some (Sized 0 0 16 20)
unfolding function object wanted face
other_size = refl

-- `int x[2];` and `int x[3];` share a name
two_sizes : source_fault (face [] (shared (codes "x") 8 ∷ []) ∷ face (function (codes "main") ∷ []) (shared (codes "x") 12 ∷ []) ∷ []) ≡ Some (Sized 1 0 12 8)
unfolding function shared face
two_sizes = refl
