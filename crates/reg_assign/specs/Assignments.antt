-- A location for each temporary.
use Rattle.std.specs.Prelude.{◌≡◌, ℕ, List, slice_get, Some}
use Rattle.ltl_lang.specs.declared.location.Loc.{Loc}
use Rattle.ltl_lang.specs.declared.location.Loc.TheVariants.{Ebx, Esi, Edi, Ebp, Slot}

-- a register or, for the temporary k, the slot of the number k
abbrev pub IsOwn : ℕ → Loc → Type 0
IsOwn k Ebx = Unit {0}
IsOwn k Esi = Unit {0}
IsOwn k Edi = Unit {0}
IsOwn k Ebp = Unit {0}
IsOwn k (Slot n) = n ≡ k

-- no slot is shared: each that is used has the number of its temporary
abbrev pub HasOwnSlots : List Loc → Type 0
HasOwnSlots homes = (k : ℕ) (home : Loc) → slice_get homes k ≡ Some home → IsOwn k home

abbrev pub IsRegister : Loc → Type 0
IsRegister home = (k : ℕ) → IsOwn k home
