-- Parts that are given one after another.
use Rattle.std.proofs.Common.{◌≡◌, List, [], ◌∷◌, ◌++◌, refl}
use Rattle.typing_initialisers.specs.Data.{Part, with_part, with_parts}
use Rattle.typing_initialisers.specs.declared.data.Data.{Data}

pub with_parts_append : (d : Data) (ps qs : List Part) → with_parts d (ps ++ qs) ≡ with_parts (with_parts d ps) qs
with_parts_append d [] qs = refl
with_parts_append d (p ∷ ps) qs = with_parts_append (with_part d p) ps qs
