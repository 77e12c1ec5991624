-- The fault that is told of all broken rows: that of least place, and at one place the first kind.
use Rattle.std.specs.Prelude.{ℕ, Bool, cond, nat_lt, ◌==◌, ◌||◌, ◌&&◌, List, [], ◌∷◌, Option, Some, None}
use Rattle.typing_faults.specs.declared.fault.Row.{Row}
use Rattle.typing_faults.specs.declared.fault.TypeKind.{TypeKind}
use Rattle.typing_faults.specs.declared.fault.TypeKind.TheVariants as row

-- kinds in the order in which they are told at one place
abbrev pub rank : TypeKind → ℕ
rank row.Unknown = 0
rank row.Twice = 1
rank row.Kind = 2
rank row.Count = 3
rank row.NotPlace = 4
rank row.Reserved = 5
rank row.MainShape = 6
rank row.Initialiser = 7
rank row.Size = 8
rank row.Params = 9
rank row.Nodes = 10

abbrev pub comes_first : Row → Row → Bool
comes_first r s = nat_lt r.at s.at || (r.at == s.at && nat_lt (rank r.kind) (rank s.kind))

-- the one of two rows that is told
abbrev pub first_of_two : Row → Row → Row
first_of_two r s = cond (comes_first s r) s r

abbrev pub with_row : Option Row → Row → Option Row
with_row None s = Some s
with_row (Some r) s = Some (first_of_two r s)

-- what is told where rows are broken beside those of which this one is told
abbrev pub told : Option Row → List Row → Option Row
told r [] = r
told r (s ∷ ss) = told (with_row r s) ss
