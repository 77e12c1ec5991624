-- Names that stand for something already.
use Rattle.std.specs.Prelude.{ℕ, Bool, true, false, not, codes, ◌&&◌, ◌||◌, List, [], ◌∷◌}
use Rattle.std.specs.Str.{bytes_eq}
use Rattle.cc_base.specs.Faces.{is_built_in}
use Rattle.typing_types.specs.Types.{Derived}
use Rattle.typing_types.specs.Same.{same_type}
use Rattle.typing_types.specs.Operators.{int, is_void}
use Rattle.typing_scopes.specs.declared.entity.Prototype.{Prototype}

-- `_start`, `getbyte` and `putbyte`
abbrev pub is_reserved : List ℕ → Bool
is_reserved name = bytes_eq name (codes "_start") || is_built_in name

abbrev pub is_main : List ℕ → Bool
is_main name = bytes_eq name (codes "main")

abbrev pub same_types : List Derived → List Derived → Bool
same_types [] [] = true
same_types (s ∷ ss) (t ∷ ts) = same_type s t && same_types ss ts
same_types ss ts = false

-- `int f(void)`, as `main` and `getbyte` are
abbrev pub gives_int : Prototype → Bool
gives_int p = same_type p.result int && same_types p.parameters []

-- `void f(int)`, as `putbyte` is
abbrev pub takes_int : Prototype → Bool
takes_int p = is_void p.result && same_types p.parameters (int ∷ [])

abbrev pub is_like_built_in : List ℕ → Prototype → Bool
is_like_built_in name p =
    (bytes_eq name (codes "getbyte") && gives_int p) || (bytes_eq name (codes "putbyte") && takes_int p)

-- A built-in function may be declared as it is, by a prototype that is not static.
abbrev pub breaks_reserve : Bool → Bool → List ℕ → Prototype → Bool
breaks_reserve is_definition is_static name p =
    is_reserved name && not (not is_definition && (not is_static && is_like_built_in name p))

-- `main` is a function `int main(void)` that is not static
abbrev pub breaks_main : Bool → List ℕ → Prototype → Bool
breaks_main is_static name p = is_main name && not (not is_static && gives_int p)
