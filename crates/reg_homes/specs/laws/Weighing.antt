-- No more code becomes of what is placed in homes, and none of its functions takes more of the stack.
use Rattle.std.specs.Prelude.{◌≡◌, ℕ, ◌≤◌, max, List, [], ◌∷◌, map, slice_get}
use Rattle.std.specs.Option.{option_map_or}
use Rattle.std.proofs.Common.{zero, suc, refl, ap, ◌∙◌, arith}
use Rattle.std.proofs.lemmas.List.{length-map}
use Rattle.pass_core.specs.Lists.{EachMatches}
use Rattle.unit_passes.specs.declared.units.UnitOf.{UnitOf}
use Rattle.clight_sem.specs.Bounds.{whole_words}
use Rattle.rtl_lang.specs.declared.syntax.RtlNode.{RtlNode}
use Rattle.rtl_lang.specs.declared.syntax.RtlNode.TheVariants as node
use Rattle.rtl_lang.specs.declared.syntax.RtlParts.{RtlParts}
use Rattle.rtl_lang.specs.Bounds as rtl
use Rattle.ltl_lang.specs.declared.location.Loc.{Loc}
use Rattle.ltl_lang.specs.declared.syntax.LtlParts.{LtlParts}
use Rattle.ltl_lang.specs.Bounds as ltl
use Rattle.reg_homes.specs.Homes.{Placed, placed, home_of}
use Rattle.reg_homes.specs.Units.{Matches}

-- Nodes

node_same : (home : ℕ → Loc) (x : RtlNode) → ltl.node_bytes (placed home x) ≡ rtl.node_bytes x
node_same home (node.Nop next) = refl
node_same home (node.Const n j next) = refl
node_same home (node.Address s plus j next) = refl
node_same home (node.Local index j next) = refl
node_same home (node.Apply o l r j next) = refl
node_same home (node.Load width place j next) = refl
node_same home (node.Store width place value next) = refl
node_same home (node.Call s args await next) = let e = length-map args home in omega (arith, e)
node_same home (node.Branch j y z) = refl
node_same home (node.Return k) = refl

graph_same : (home : ℕ → Loc) (xs : List RtlNode) → ltl.graph_bytes (map (placed home) xs) ≡ rtl.graph_bytes xs
graph_same home [] = refl
graph_same home (x ∷ xs) = let e = node_same home x in let m = graph_same home xs in omega (arith, e, m)

arguments_same : (home : ℕ → Loc) (x : RtlNode) → ltl.node_arguments (placed home x) ≡ rtl.node_arguments x
arguments_same home (node.Nop next) = refl
arguments_same home (node.Const n j next) = refl
arguments_same home (node.Address s plus j next) = refl
arguments_same home (node.Local index j next) = refl
arguments_same home (node.Apply o l r j next) = refl
arguments_same home (node.Load width place j next) = refl
arguments_same home (node.Store width place value next) = refl
arguments_same home (node.Call s args await next) = length-map args home
arguments_same home (node.Branch j y z) = refl
arguments_same home (node.Return k) = refl

most_same : (home : ℕ → Loc) (xs : List RtlNode) → ltl.graph_arguments (map (placed home) xs) ≡ rtl.graph_arguments xs
most_same home [] = refl
most_same home (x ∷ xs) = ap (λ (n : ℕ). max n (ltl.graph_arguments (map (placed home) xs))) (arguments_same home x) ∙ ap (max (rtl.node_arguments x)) (most_same home xs)

-- Functions

function_lighter : (f : RtlParts) (h : LtlParts) → Placed f h → ltl.function_bytes h ≡ rtl.function_bytes f
function_lighter f h made =
    let p = made.parameters in
    let g = ap ltl.graph_bytes made.graph ∙ graph_same (home_of h.homes) f.graph in
    omega (arith, p, g)

function_holds : (f : RtlParts) (h : LtlParts) → Placed f h → ltl.function_hold h ≤ rtl.function_hold f
function_holds f h made =
    let s = made.slots in
    let a = ap ltl.graph_arguments made.graph ∙ most_same (home_of h.homes) f.graph in
    let l = ap whole_words made.locals in
    omega (arith, s, a, l)

-- Units

functions_lighter : (fs : List RtlParts) (hs : List LtlParts) → EachMatches Placed fs hs → ltl.functions_bulk hs ≤ rtl.functions_bulk fs
functions_lighter [] [] each = omega arith
functions_lighter [] (h ∷ hs) each = absurd each
functions_lighter (f ∷ fs) [] each = absurd each
functions_lighter (f ∷ fs) (h ∷ hs) each = let e = function_lighter f h each.0 in let m = functions_lighter fs hs each.1 in omega (arith, e, m)

pub unit_lighter : (u : UnitOf RtlParts) (v : UnitOf LtlParts) → Matches u v → ltl.bulk v ≤ rtl.bulk u
unit_lighter u v m = functions_lighter u.functions v.functions m.functions

functions_hold : (fs : List RtlParts) (hs : List LtlParts) (index : ℕ) → EachMatches Placed fs hs → option_map_or ltl.function_hold (slice_get hs index) 0 ≤ option_map_or rtl.function_hold (slice_get fs index) 0
functions_hold [] [] index each = omega arith
functions_hold [] (h ∷ hs) index each = absurd each
functions_hold (f ∷ fs) [] index each = absurd each
functions_hold (f ∷ fs) (h ∷ hs) zero each = function_holds f h each.0
functions_hold (f ∷ fs) (h ∷ hs) (suc index) each = functions_hold fs hs index each.1

pub unit_holds : (u : UnitOf RtlParts) (v : UnitOf LtlParts) (index : ℕ) → Matches u v → ltl.hold v index ≤ rtl.hold u index
unit_holds u v index m = functions_hold u.functions v.functions index m.functions
