-- The pointers that an initialiser gives stand at multiples of four.
use Rattle.std.proofs.Common.{◌≡◌, ℕ, zero, suc, ◌+◌, ◌*◌, ◌/◌, ◌%◌, Bool, true, false, cond, List, [], ◌∷◌, ◌++◌, map, Option, Some, None, refl, sym, ap, ◌∙◌, subst, arith}
use Rattle.std.specs.Option.{option_map, option_and_then}
use Rattle.std.specs.Prelude.{nat_le, nat_lt, unwrap_or, ◌&&◌}
use Rattle.std.proofs.lemmas.Option.{cond_some, none-some, same_Some}
use Rattle.std.proofs.Math.Nat.{mul_assoc, mul-mod_left}
use Rattle.typing_types.specs.declared.class.Integer.{Integer}
use Rattle.typing_types.specs.declared.class.Integer.TheVariants as integer
use Rattle.typing_types.specs.declared.class.Base.{Base}
use Rattle.typing_types.specs.declared.class.Base.TheVariants as base
use Rattle.text_grammar.specs.declared.tree.Initialiser.{Initialiser}
use Rattle.text_grammar.specs.declared.tree.Initialiser.TheOpen.{Initialiser-F}
use Rattle.text_grammar.specs.declared.tree.Initialiser.TheFolds.{map-Initialiser, fold-roll-Initialiser, ind-Initialiser}
use Rattle.typing_types.specs.Types.{Derived, class_of}
use Rattle.typing_types.specs.Laid.{Laid}
use Rattle.typing_types.specs.Structs.{struct_of, base_size, base_align}
use Rattle.typing_types.specs.Sizes.{size_of, count_of, starred, times}
use Rattle.typing_types.specs.Widths.{largest, width_of}
use Rattle.typing_scopes.specs.declared.entity.Member.{Member}
use Rattle.typing_scopes.specs.Visible.{Visible}
use Rattle.typing_scopes.specs.Names.{member_at}
use Rattle.typing_expressions.specs.Conversions.{within, needed_size}
use Rattle.typing_initialisers.specs.declared.slots.Slot.{Slot}
use Rattle.typing_initialisers.specs.declared.constant.Constant.{Constant}
use Rattle.typing_initialisers.specs.declared.constant.Constant.TheVariants as constant
use Rattle.typing_initialisers.specs.declared.slots.Slots.TheVariants as slots
use Rattle.typing_initialisers.specs.Data.{Part, Bytes, Pointer, part_at}
use Rattle.typing_initialisers.specs.Standing.{AtFours}
use Rattle.typing_initialisers.specs.Members.{IsFour, AreAligned}
use Rattle.typing_initialisers.specs.Slots.{has_room, slot, slot_in, takes_string, string_bytes}
use Rattle.typing_initialisers.specs.Constants.{integer_at, integer_constant, constant_at, constant_of}
use Rattle.typing_initialisers.specs.Initialisers.{Item, refused, given, scalar_fill, node_fill, string_fill, in_slot, items_from, list_fill, item_step, item_of}
use Rattle.typing_faults.specs.declared.fault.Row.{Row}
use Rattle.typing_types.specs.Operators.{is_scalar}
use Rattle.clight_unit.specs.declared.statement.Value.{Value}
use Rattle.typing_initialisers.specs.declared.constant_integer.ConstantInteger as integers
use Rattle.typing_initialisers.specs.declared.constant_integer.ConstantInteger.TheVariants as integers_are
use Rattle.typing_initialisers.specs.ConstantExpressions.{integer_of as value_of}
use Rattle.typing_expressions.specs.declared.node.Node.{Node}
use Rattle.typing_expressions.specs.Expressions.{rows, node_of}
use Rattle.typing_expressions.specs.Places.{text_place}
use Rattle.typing_expressions.specs.Uses.{assigned}
use Rattle.typing_initialisers.proofs.Within.{found, Derive, Kind}

-- Multiples of four.

product_four : (a b : ℕ) → b % 4 ≡ 0 → (a * b) % 4 ≡ 0
product_four a b h =
    let whole : b ≡ b / 4 * 4 = omega arith in
    ap (λ x. a * x % 4) whole ∙ ap (λ x. x % 4) (sym (mul_assoc a (b / 4) 4)) ∙ mul-mod_left (a * (b / 4)) 4

sum_four : (a b : ℕ) → a % 4 ≡ 0 → b % 4 ≡ 0 → (a + b) % 4 ≡ 0
sum_four a b g h = omega arith

-- Lists of parts.

both_four : (ps qs : List Part) → AtFours ps → AtFours qs → AtFours (ps ++ qs)
both_four [] qs g h = h
both_four (Bytes at bytes ∷ ps) qs g h = both_four ps qs g h
both_four (Pointer at to ∷ ps) qs g h = (g.0, both_four ps qs g.1 h)

abbrev pub Stands : Visible → Item → Type 0
Stands scope x = (t : Derived) (at : ℕ) → (IsFour scope.layouts t → at % 4 ≡ 0) → AtFours (x.fill t at).parts

abbrev Aligned : Visible → (ℕ → Option Slot) → Type 0
Aligned scope slot = (k : ℕ) (s : Slot) → slot k ≡ Some s → IsFour scope.layouts s.ctype → s.at % 4 ≡ 0

placed : (scope : Visible) (x : Item) (o : Option Slot) → Stands scope x → ((s : Slot) → o ≡ Some s → IsFour scope.layouts s.ctype → s.at % 4 ≡ 0) → AtFours (in_slot x o).parts
placed scope x None f h = tt
placed scope x (Some s) f h = f s.ctype s.at (h s refl)

listed : {S : Type 0} (scope : Visible) (F : S → Item) (slot : ℕ → Option Slot) → Aligned scope slot → (k : ℕ) (ys : List ((s : S) × Stands scope (F s))) → AtFours (items_from slot k (map F (map (λ (e : (s : S) × Stands scope (F s)). e.0) ys))).parts
listed scope F slot h k [] = tt
listed scope F slot h k (y ∷ ys) = both_four (in_slot (F y.0) (slot k)).parts _ (placed scope (F y.0) (slot k) y.1 (h k)) (listed scope F slot h (k + 1) ys)

-- Constants.

four_at : (at : ℕ) (c : Constant) → at % 4 ≡ 0 → AtFours (part_at at c ∷ [])
four_at at (constant.Byte b) h = tt
four_at at (constant.Word w) h = tt
four_at at (constant.Pointer to) h = (h, tt)

integer_four : (i : Integer) (n at : ℕ) → AtFours (part_at at (integer_at i n) ∷ [])
integer_four integer.Char n at = tt
integer_four integer.UnsignedChar n at = tt
integer_four integer.Int n at = tt
integer_four integer.UnsignedInt n at = tt

integers_four : (i : Integer) (v : integers.ConstantInteger) (c : Constant) (at : ℕ) → integer_constant i v ≡ Some c → AtFours (part_at at c ∷ [])
integers_four i (integers_are.Known n) c at h = subst (λ c. AtFours (part_at at c ∷ [])) (same_Some (integer_at i n) c h) (integer_four i n at)
integers_four i integers_are.Wrong c at h = absurd (none-some c h)
integers_four i integers_are.NotConstant c at h = absurd (none-some c h)

constant_four : (layouts : List (Option Laid)) (b : Base) (stars : ℕ) (ls : List (Option ℕ)) (ps at : ℕ) (v : Value) (c : Constant) → constant_at (Kind b stars ls ps) v ≡ Some c → (IsFour layouts (Derive b stars ls ps) → at % 4 ≡ 0) → AtFours (part_at at c ∷ [])
constant_four layouts (base.Integer i) zero [] ps at v c h g = integers_four i (value_of v.expression) c at h
constant_four layouts base.Void zero [] ps at v c h g = absurd (none-some c h)
constant_four layouts (base.Struct tag) zero [] ps at v c h g = absurd (none-some c h)
constant_four layouts b (suc s) [] zero at v c h g = four_at at c (g refl)
constant_four layouts b (suc s) [] (suc ps) at v c h g = four_at at c (g refl)
constant_four layouts b stars (l ∷ ls) zero at v c h g = absurd (none-some c h)
constant_four layouts b stars (l ∷ ls) (suc ps) at v c h g = four_at at c (g refl)

assigned_four : (layouts : List (Option Laid)) (t : Derived) (at : ℕ) (v : Option Value) (c : Constant) → (IsFour layouts t → at % 4 ≡ 0) → option_and_then (constant_at (class_of t)) v ≡ Some c → AtFours (part_at at c ∷ [])
assigned_four layouts t at (Some v) c g h = constant_four layouts t.base t.stars t.lengths t.pointers at v c h g
assigned_four layouts t at None c g h = absurd (none-some c h)

given_four : (inner : List Row) (place : ℕ) (o : Option Constant) (at : ℕ) → ((c : Constant) → o ≡ Some c → AtFours (part_at at c ∷ [])) → AtFours (given inner place (option_map (part_at at) o)).parts
given_four inner place None at h = tt
given_four inner place (Some c) at h = h c refl

expression_four : (scope : Visible) (inner : List Row) (place : ℕ) (o : Option Node) (t : Derived) (at : ℕ) → (IsFour scope.layouts t → at % 4 ≡ 0) → AtFours (node_fill inner place o t at).parts
expression_four scope inner place o t at g = by (is_scalar t) o
  where
    by : (b : Bool) (o : Option Node) → AtFours (cond b (scalar_fill inner place o t at) (refused inner place)).parts
    by false o = tt
    by true None = tt
    by true (Some x) = given_four inner place (constant_of t x) at (λ c h. assigned_four scope.layouts t at (assigned t x) c g h)

string_four : (place : ℕ) (bytes : List ℕ) (t : Derived) (at : ℕ) → AtFours (string_fill place bytes t at).parts
string_four place bytes t at = by (takes_string t bytes)
  where
    by : (b : Bool) → AtFours (given [] place (cond b (Some (Bytes at (string_bytes t bytes))) None)).parts
    by true = tt
    by false = tt

-- Elements.

struct_four : (scope : Visible) → AreAligned scope → (tag : ℕ) (o : Option Laid) → struct_of scope.layouts tag ≡ o → (n : ℕ) → option_map (λ (l : Laid). l.size) o ≡ Some n → option_map (λ (l : Laid). l.align) o ≡ Some 4 → n % 4 ≡ 0
struct_four scope aligned tag (Some l) e n h g = subst (λ x. x % 4 ≡ 0) (same_Some l.size n h) ((aligned tag).whole l e (same_Some l.align 4 g))
struct_four scope aligned tag None e n h g = absurd (none-some n h)

base_four : (scope : Visible) → AreAligned scope → (b : Base) (stars n : ℕ) → starred stars (base_size scope.layouts b) ≡ Some n → starred stars (base_align scope.layouts b) ≡ Some 4 → n % 4 ≡ 0
base_four scope aligned b (suc s) n h g = subst (λ x. x % 4 ≡ 0) (same_Some 4 n h) refl
base_four scope aligned (base.Integer i) zero n h g = subst (λ x. x % 4 ≡ 0) (sym (same_Some (width_of i) 4 g) ∙ same_Some (width_of i) n h) refl
base_four scope aligned base.Void zero n h g = absurd (none-some n h)
base_four scope aligned (base.Struct tag) zero n h g = struct_four scope aligned tag (struct_of scope.layouts tag) refl n h g

times_four : (o p : Option ℕ) (n : ℕ) → times o p ≡ Some n → ((b : ℕ) → p ≡ Some b → b % 4 ≡ 0) → n % 4 ≡ 0
times_four (Some c) (Some b) n h g = subst (λ x. x % 4 ≡ 0) (same_Some (c * b) n h) (product_four c b (g b refl))
times_four (Some c) None n h g = absurd (none-some n h)
times_four None p n h g = absurd (none-some n h)

size_four : (scope : Visible) → AreAligned scope → (t : Derived) (n : ℕ) → size_of scope.layouts t ≡ Some n → IsFour scope.layouts t → n % 4 ≡ 0
size_four scope aligned t n h g = by t.pointers h g
  where
    by : (ps : ℕ) → starred ps (times (count_of t.lengths) (starred t.stars (base_size scope.layouts t.base))) ≡ Some n → starred ps (starred t.stars (base_align scope.layouts t.base)) ≡ Some 4 → n % 4 ≡ 0
    by (suc ps) h g = subst (λ x. x % 4 ≡ 0) (same_Some 4 n h) refl
    by zero h g = times_four (count_of t.lengths) (starred t.stars (base_size scope.layouts t.base)) n h (λ b e. base_four scope aligned t.base t.stars b e g)

known_four : (scope : Visible) → AreAligned scope → (t : Derived) → IsFour scope.layouts t → unwrap_or (needed_size scope.layouts t) 0 % 4 ≡ 0
known_four scope aligned t g = by (size_of scope.layouts t) (λ n h. size_four scope aligned t n h g)
  where
    by : (o : Option ℕ) → ((n : ℕ) → o ≡ Some n → n % 4 ≡ 0) → unwrap_or (option_and_then within o) 0 % 4 ≡ 0
    by None h = refl
    by (Some n) h = or_none (nat_lt 0 n && nat_le n largest)
      where
        or_none : (b : Bool) → unwrap_or (cond b (Some n) None) 0 % 4 ≡ 0
        or_none true = h n refl
        or_none false = refl

elements_four : (scope : Visible) → AreAligned scope → (e : Derived) (count : Option ℕ) (at : ℕ) → (IsFour scope.layouts e → at % 4 ≡ 0) → Aligned scope (slot_in scope (slots.Elements e (unwrap_or (needed_size scope.layouts e) 0) count at))
elements_four scope aligned e count at g k s h four =
    let size = unwrap_or (needed_size scope.layouts e) 0 in
    let c = cond_some (has_room count k) (slot e (at + k * size)) s h in
    let here : IsFour scope.layouts e = subst (λ (s : Slot). IsFour scope.layouts s.ctype) (sym c.1) four in
    subst (λ (s : Slot). s.at % 4 ≡ 0) c.1 (sum_four at (k * size) (g here) (product_four k size (known_four scope aligned e here)))

members_four : (scope : Visible) → AreAligned scope → (tag at : ℕ) → (option_map (λ (l : Laid). l.align) (struct_of scope.layouts tag) ≡ Some 4 → at % 4 ≡ 0) → Aligned scope (slot_in scope (slots.Members tag at))
members_four scope aligned tag at g k s h four =
    let m = found (λ (m : Member). slot m.ctype (at + m.offset)) (member_at scope tag k) s h in
    let here = (aligned tag).member k m.0 m.1 (subst (λ (s : Slot). IsFour scope.layouts s.ctype) (sym m.2) four) in
    subst (λ (s : Slot). s.at % 4 ≡ 0) m.2 (sum_four at m.0.offset (g here.0) here.1)

-- Lists.

abbrev StandsList : {S : Type 0} → (S → Item) → Visible → ℕ → List S → Base → ℕ → List (Option ℕ) → ℕ → Type 0
StandsList F scope place xs b stars ls ps = (at : ℕ) → (IsFour scope.layouts (Derive b stars ls ps) → at % 4 ≡ 0) → AtFours (list_fill scope place (map F xs) (Derive b stars ls ps) at).parts

list_four : {S : Type 0} (scope : Visible) (F : S → Item) → AreAligned scope → (place : ℕ) (ys : List ((s : S) × Stands scope (F s))) (b : Base) (stars : ℕ) (ls : List (Option ℕ)) (ps : ℕ) → StandsList F scope place (map (λ (e : (s : S) × Stands scope (F s)). e.0) ys) b stars ls ps
list_four scope F aligned place ys (base.Integer i) zero [] ps at g = tt
list_four scope F aligned place ys base.Void zero [] ps at g = tt
list_four scope F aligned place ys (base.Struct tag) zero [] zero at g = listed scope F (slot_in scope (slots.Members tag at)) (members_four scope aligned tag at g) 0 ys
list_four scope F aligned place ys (base.Struct tag) zero [] (suc ps) at g = listed scope F (slot_in scope (slots.Members tag at)) (members_four scope aligned tag at (λ e. g refl)) 0 ys
list_four scope F aligned place ys b (suc s) [] ps at g = tt
list_four scope F aligned place ys b stars (l ∷ ls) zero at g = listed scope F (slot_in scope (slots.Elements (Derive b stars ls 0) (unwrap_or (needed_size scope.layouts (Derive b stars ls 0)) 0) l at)) (elements_four scope aligned (Derive b stars ls 0) l at g) 0 ys
list_four scope F aligned place ys b stars (l ∷ ls) (suc ps) at g = tt

-- All initialisers.

abbrev Standing : Visible → Type 0
Standing scope = (i : Initialiser) × Stands scope (item_of scope i)

step : (scope : Visible) → AreAligned scope → (y : Initialiser-F (Standing scope)) → Stands scope (item_step scope (map-Initialiser Initialiser Item (item_of scope) (map-Initialiser (Standing scope) Initialiser (λ e. e.0) y)))
step scope aligned (Initialiser-F.Expr e) = λ t at g. expression_four scope (rows scope e) (text_place e) (node_of scope e) t at g
step scope aligned (Initialiser-F.String place bytes) = λ t at g. string_four place bytes t at
step scope aligned (Initialiser-F.List place items) = λ t at g. list_four scope (item_of scope) aligned place items t.base t.stars t.lengths t.pointers at g

pub fours : (scope : Visible) → AreAligned scope → (i : Initialiser) → Stands scope (item_of scope i)
fours scope aligned = ind-Initialiser (λ i. Stands scope (item_of scope i)) (λ x y is.
    subst (Stands scope) (sym (fold-roll-Initialiser Item (item_step scope) x))
    (subst (λ z. Stands scope (item_step scope (map-Initialiser Initialiser Item (item_of scope) z))) is (step scope aligned y)))
