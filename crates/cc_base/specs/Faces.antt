-- Programs of several units: what a name means, and why units are no program (C11, 6.2.2 and 6.9.2 on external
-- definitions; that sizes must agree is this project's own rule).
use Rattle.std.specs.Prelude.{◌≡◌, ℕ, ◌+◌, Bool, cond, not, ◌||◌, ◌&&◌, eqb, List, [], ◌∷◌, ◌++◌, length, take, codes, Option, Some, None, option_map, find, option_and_then}
use Rattle.std.specs.List.{list_any}
use Rattle.std.specs.Option.{option_or}
use Rattle.std.specs.Str.{bytes_eq}
use Rattle.cc_base.specs.declared.face.Face.{Face}
use Rattle.cc_base.specs.declared.face.Def.{Def}
use Rattle.cc_base.specs.declared.face.Wanted.{Wanted}
use Rattle.cc_base.specs.declared.face.SourceFault.{SourceFault}
use Rattle.cc_base.specs.declared.face.SourceFault.TheVariants.{Doubled, Unresolved, Sized}

-- the first answer that an item of a list gives with its number, where numbers begin at k
abbrev pub first_answer : {A R : Type 0} → (ℕ → A → Option R) → ℕ → List A → Option R
first_answer ask k [] = None
first_answer ask k (x ∷ xs) = option_or (ask k x) (first_answer ask (k + 1) xs)

abbrev pub all_defs : List Face → List Def
all_defs [] = []
all_defs (f ∷ fs) = f.defs ++ all_defs fs

abbrev pub all_uses : List Face → List Wanted
all_uses [] = []
all_uses (f ∷ fs) = f.uses ++ all_uses fs

abbrev pub has_name : List ℕ → Def → Bool
has_name name d = bytes_eq d.name name

abbrev pub shares : List ℕ → Wanted → Bool
shares name w = bytes_eq w.name name && w.shared

abbrev pub is_defined : List Def → List ℕ → Bool
is_defined ds name = list_any (has_name name) ds

-- the functions of the runtime
abbrev pub is_built_in : List ℕ → Bool
is_built_in name = bytes_eq name (codes "getbyte") || bytes_eq name (codes "putbyte")

-- a name means something: a definition that other units see, else a shared object, else a function of the runtime
abbrev pub has_meaning : List Face → List ℕ → Bool
has_meaning faces name = is_defined (all_defs faces) name || (list_any (shares name) (all_uses faces) || is_built_in name)

abbrev pub size_of_object : Def → Option ℕ
size_of_object d = cond d.function None (Some d.size)

-- the size of the object that a name means: the definition's, and where there is none the first shared one
abbrev pub measure_by : Option Def → Option Wanted → Option ℕ
measure_by None w = option_map (λ (u : Wanted). u.stated) w
measure_by (Some d) w = size_of_object d

abbrev pub measure : List Face → List ℕ → Option ℕ
measure faces name = measure_by (find (has_name name) (all_defs faces)) (find (shares name) (all_uses faces))

-- the first definition whose name an earlier one has
abbrev pub earlier : List Face → ℕ → List Def → ℕ → List Def
earlier faces unit ds index = all_defs (take unit faces) ++ take index ds

abbrev pub doubled : List Face → ℕ → Face → Option SourceFault
doubled faces unit f = first_answer (λ index (d : Def). cond (is_defined (earlier faces unit f.defs index) d.name) (Some (Doubled unit index)) None) 0 f.defs

-- the first use that is not shared and means nothing, where the runtime uses `main` last
abbrev pub unresolved : List Face → ℕ → Face → Option SourceFault
unresolved faces unit f = first_answer (λ index (w : Wanted). cond (not w.shared && not (has_meaning faces w.name)) (Some (Unresolved unit index)) None) 0 f.uses

abbrev pub no_main : List Face → Option SourceFault
no_main faces = cond (has_meaning faces (codes "main")) None (Some (Unresolved (length faces) 0))

-- the first use whose stated size is another one than the object's
abbrev pub size_differs : ℕ → ℕ → Wanted → ℕ → Option SourceFault
size_differs unit index w size = cond (eqb w.stated size) None (Some (Sized unit index w.stated size))

abbrev pub sized : List Face → ℕ → Face → Option SourceFault
sized faces unit f = first_answer (λ index (w : Wanted). cond (eqb w.stated 0) None (option_and_then (size_differs unit index w) (measure faces w.name))) 0 f.uses

-- why units with these faces are no program. Units and their entries are tried in order
abbrev pub source_fault : List Face → Option SourceFault
source_fault faces = option_or (first_answer (doubled faces) 0 faces) (option_or (option_or (first_answer (unresolved faces) 0 faces) (no_main faces)) (first_answer (sized faces) 0 faces))

-- they are one
abbrev pub Linkable : List Face → Type 0
Linkable faces = source_fault faces ≡ None
