-- The parts that an initialiser gives stand in the object.
use Rattle.std.proofs.Common.{◌≡◌, ◌⊎◌, inl, inr, ℕ, zero, suc, ◌+◌, ◌*◌, ◌<◌, ◌≤◌, Bool, true, false, cond, List, [], ◌∷◌, ◌++◌, map, length, Option, Some, None, refl, sym, ap, ◌∙◌, subst, arith, length-append}
use Rattle.std.specs.Option.{option_map, option_map_or, option_and_then}
use Rattle.std.specs.Prelude.{nat_le, nat_lt, unwrap_or}
use Rattle.std.proofs.lemmas.Grind.{common_steps}
use Rattle.std.proofs.lemmas.Bool.{cases_lt, lt-ltb, le-ltb, ltb-true, leb-true}
use Rattle.std.proofs.lemmas.Option.{cond_some, none-some, same_Some}
use Rattle.std.proofs.Math.Nat.{mul-le-mul_right, suc-mul, mul_assoc}
use Rattle.typing_types.specs.declared.class.Integer.{Integer}
use Rattle.typing_types.specs.declared.class.Integer.TheVariants as integer
use Rattle.typing_types.specs.declared.class.Base.{Base}
use Rattle.typing_types.specs.declared.class.Base.TheVariants as base
use Rattle.typing_types.specs.declared.class.Class.{Class}
use Rattle.text_grammar.specs.declared.tree.Initialiser.{Initialiser}
use Rattle.text_grammar.specs.declared.tree.Initialiser.TheOpen.{Initialiser-F}
use Rattle.text_grammar.specs.declared.tree.Initialiser.TheFolds.{map-Initialiser, fold-roll-Initialiser, ind-Initialiser}
use Rattle.typing_types.specs.Types.{Derived, class_of, length_of}
use Rattle.typing_types.specs.Laid.{Laid}
use Rattle.typing_types.specs.Structs.{struct_of, base_size}
use Rattle.typing_types.specs.Sizes.{size_of, count_of, starred, times}
use Rattle.typing_types.specs.Widths.{largest, width_of}
use Rattle.typing_scopes.specs.declared.entity.Member.{Member}
use Rattle.typing_scopes.specs.Visible.{Visible}
use Rattle.typing_scopes.specs.Names.{member_at}
use Rattle.typing_expressions.specs.Conversions.{within, needed_size}
use Rattle.typing_initialisers.specs.declared.slots.Slot.{Slot}
use Rattle.typing_initialisers.specs.declared.slots.Slots.{Slots}
use Rattle.typing_initialisers.specs.declared.constant.Constant.{Constant}
use Rattle.typing_initialisers.specs.declared.constant.Constant.TheVariants as constant
use Rattle.typing_initialisers.specs.declared.slots.Slots.TheVariants as slots
use Rattle.typing_initialisers.specs.Data.{Part, Bytes, part_at}
use Rattle.typing_initialisers.specs.Standing.{start_of, bytes_of, end_of, Within}
use Rattle.typing_initialisers.specs.Members.{IsSound, sound_at, begin_of, IsLaid, AreLaid}
use Rattle.typing_initialisers.specs.Slots.{has_room, slot, slot_in, string_bytes}
use Rattle.typing_initialisers.specs.Constants.{integer_at, integer_constant, pointer_constant, constant_at, constant_of}
use Rattle.text_grammar.specs.declared.tree.Initialised.{Initialised}
use Rattle.typing_initialisers.specs.Objects.{initial_data}
use Rattle.typing_initialisers.proofs.Standing.{fit}
use Rattle.typing_initialisers.specs.Initialisers.{fills, Item, refused, given, scalar_fill, node_fill, string_fill, in_slot, items_from, list_fill, item_step, item_of}
use Rattle.typing_faults.specs.declared.fault.Row.{Row}
use Rattle.typing_types.specs.Operators.{is_scalar}
use Rattle.clight_unit.specs.declared.statement.Value.{Value}
use Rattle.typing_initialisers.specs.declared.constant_integer.ConstantInteger as integers
use Rattle.typing_initialisers.specs.declared.constant_integer.ConstantInteger.TheVariants as integers_are
use Rattle.typing_initialisers.specs.declared.constant_pointer.ConstantPointer as pointers
use Rattle.typing_initialisers.specs.declared.constant_pointer.ConstantPointer.TheVariants as pointer
use Rattle.typing_initialisers.specs.ConstantExpressions.{integer_of as value_of, pointer_of}
use Rattle.typing_expressions.specs.declared.node.Node.{Node}
use Rattle.typing_expressions.specs.Expressions.{rows, node_of}
use Rattle.typing_expressions.specs.Places.{text_place}
use Rattle.typing_expressions.specs.Uses.{assigned}

-- Lists of parts.

wider : (a b c d : ℕ) (ps : List Part) → a ≤ b → c ≤ d → Within b c ps → Within a d ps
wider a b c d [] low high h = omega (arith, low, high, h)
wider a b c d (p ∷ ps) low high h = (omega (arith, low, h.0), wider (end_of p) (end_of p) c d ps (omega arith) high h.1)

joined : (a b c : ℕ) (ps qs : List Part) → Within a b ps → Within b c qs → Within a c (ps ++ qs)
joined a b c [] qs h g = wider a b c c qs h (omega arith) g
joined a b c (p ∷ ps) qs h g = (h.0, joined (end_of p) b c ps qs h.1 g)

-- Items in their slots.

abbrev pub Fits : Visible → Item → Type 0
Fits scope x = (t : Derived) (n at : ℕ) → IsSound t → size_of scope.layouts t ≡ Some n → n ≤ largest → Within at (at + n) (x.fill t at).parts

-- a slot that stands between two places
record Stands (scope : Visible) (lo hi : ℕ) (s : Slot) : Type 0 where
  size : ℕ
  sound : IsSound s.ctype
  known : size_of scope.layouts s.ctype ≡ Some size
  small : size ≤ largest
  from : lo ≤ s.at
  to : s.at + size ≤ hi

placed : (scope : Visible) (x : Item) (o : Option Slot) (lo hi : ℕ) → Fits scope x → lo ≤ hi → ((s : Slot) → o ≡ Some s → Stands scope lo hi s) → Within lo hi (in_slot x o).parts
placed scope x None lo hi f le h = le
placed scope x (Some s) lo hi f le h =
    let k = h s refl in
    wider lo s.at (s.at + k.size) hi (x.fill s.ctype s.at).parts k.from k.to (f s.ctype k.size s.at k.sound k.known k.small)

-- slots that stand between places one after another
record Slotted (scope : Visible) (from hi : ℕ) (slot : ℕ → Option Slot) : Type 0 where
  lo : ℕ → ℕ
  first : from ≤ lo 0
  rising : (k : ℕ) → lo k ≤ lo (k + 1)
  inside : (k : ℕ) → lo k ≤ hi
  stands : (k : ℕ) (s : Slot) → slot k ≡ Some s → Stands scope (lo k) (lo (k + 1)) s

listed : {S : Type 0} (scope : Visible) (F : S → Item) (from hi : ℕ) (slot : ℕ → Option Slot) (r : Slotted scope from hi slot) (k : ℕ) (ys : List ((s : S) × Fits scope (F s))) → Within (r.lo k) hi (items_from slot k (map F (map (λ (e : (s : S) × Fits scope (F s)). e.0) ys))).parts
listed scope F from hi slot r k [] = r.inside k
listed scope F from hi slot r k (y ∷ ys) =
    joined (r.lo k) (r.lo (k + 1)) hi (in_slot (F y.0) (slot k)).parts _
    (placed scope (F y.0) (slot k) (r.lo k) (r.lo (k + 1)) y.1 (r.rising k) (r.stands k))
    (listed scope F from hi slot r (k + 1) ys)

-- The elements of an array.

-- where an element begins, and behind the last one where the array ends
abbrev border : ℕ → ℕ → ℕ → ℕ → ℕ
border at size count k = at + cond (nat_lt k count) k count * size

border_below : (at size count k : ℕ) → k < count → border at size count k ≡ at + k * size
border_below at size count k h = ap (λ b. at + cond b k count * size) (lt-ltb k count h)

border_above : (at size count k : ℕ) → count ≤ k → border at size count k ≡ at + count * size
border_above at size count k h = ap (λ b. at + cond b k count * size) (le-ltb k count h)

border_next : (at size count k : ℕ) → k < count → at + k * size + size ≤ border at size count (k + 1)
border_next at size count k h = by (cases_lt (k + 1) count)
  where
    by : ((k + 1 < count) ⊎ (count ≤ k + 1)) → at + k * size + size ≤ border at size count (k + 1)
    by (inl more) = omega (arith, border_below at size count (k + 1) more, suc-mul k size)
    by (inr last) = omega (arith, border_above at size count (k + 1) last, suc-mul k size, ap (λ c. c * size) (the_last k count h last))
      where
        the_last : (k count : ℕ) → k < count → count ≤ k + 1 → count ≡ suc k
        the_last k count h last = omega arith

border_rising : (at size count k : ℕ) → border at size count k ≤ border at size count (k + 1)
border_rising at size count k = by (cases_lt k count)
  where
    by : ((k < count) ⊎ (count ≤ k)) → border at size count k ≤ border at size count (k + 1)
    by (inl more) = omega (arith, border_below at size count k more, border_next at size count k more)
    by (inr past) = omega (arith, border_above at size count k past, border_above at size count (k + 1) (omega arith))

border_inside : (at size count k : ℕ) → border at size count k ≤ at + count * size
border_inside at size count k = by (cases_lt k count)
  where
    by : ((k < count) ⊎ (count ≤ k)) → border at size count k ≤ at + count * size
    by (inl more) = omega (arith, border_below at size count k more, mul-le-mul_right {m = k} {n = count} size (omega arith))
    by (inr past) = omega (arith, border_above at size count k past)

elements_row : (scope : Visible) (e : Derived) (size count at : ℕ) → IsSound e → (0 < count → (size_of scope.layouts e ≡ Some size) × (size ≤ largest)) → Slotted scope at (at + count * size) (slot_in scope (slots.Elements e size (Some count) at))
elements_row scope e size count at sound known = record {
  lo = border at size count;
  first = omega arith;
  rising = border_rising at size count;
  inside = border_inside at size count;
  stands = λ k s h.
      let c = cond_some (nat_lt k count) (slot e (at + k * size)) s h in
      let before : k < count = ltb-true k count c.0 in
      let there = known (omega (arith, before)) in
      subst (Stands scope (border at size count k) (border at size count (k + 1))) c.1
      (record {
        size = size;
        sound = sound;
        known = there.0;
        small = there.1;
        from = omega (arith, border_below at size count k before);
        to = border_next at size count k before;
      });
}

-- The members of a struct.

pub found : {A B : Type 0} (f : A → B) (o : Option A) (y : B) → option_map f o ≡ Some y → (x : A) × (o ≡ Some x) × (f x ≡ y)
found f (Some x) y h = (x, refl, same_Some (f x) y h)
found f None y h = absurd (none-some y h)

members_row : (scope : Visible) (tag size at : ℕ) → IsLaid scope tag size → size ≤ largest → Slotted scope at (at + size) (slot_in scope (slots.Members tag at))
members_row scope tag size at laid small = record {
  lo = λ k. at + begin_of scope tag size k;
  first = omega arith;
  rising = λ k. omega (arith, laid.rising k);
  inside = λ k. omega (arith, laid.inside k);
  stands = λ k s h.
      let m = found (λ (m : Member). slot m.ctype (at + m.offset)) (member_at scope tag k) s h in
      let n = laid.fits k m.0 m.1 in
      let here : begin_of scope tag size k ≡ m.0.offset = ap (λ o. option_map_or (λ (m : Member). m.offset) o size) m.1 in
      subst (Stands scope (at + begin_of scope tag size k) (at + begin_of scope tag size (k + 1))) m.2
      (record {
        size = n.0;
        sound = laid.sound k m.0 m.1;
        known = n.1;
        small = omega (arith, n.2, laid.inside (k + 1), small);
        from = omega (arith, here);
        to = omega (arith, n.2);
      });
}

-- Constants.

abbrev Sized : List (Option Laid) → Base → ℕ → List (Option ℕ) → ℕ → ℕ → Type 0
Sized layouts b stars ls ps n = size_of layouts (record { base = b; stars = stars; lengths = ls; pointers = ps }) ≡ Some n

abbrev pub Kind : Base → ℕ → List (Option ℕ) → ℕ → Class
Kind b stars ls ps = class_of (record { base = b; stars = stars; lengths = ls; pointers = ps })

integer_width : (at v : ℕ) (i : Integer) → length (bytes_of (part_at at (integer_at i v))) ≤ width_of i
integer_width at v integer.Char = omega arith
integer_width at v integer.UnsignedChar = omega arith
integer_width at v integer.Int = omega arith
integer_width at v integer.UnsignedInt = omega arith

start_at : (at : ℕ) (c : Constant) → start_of (part_at at c) ≡ at
start_at at (constant.Byte b) = refl
start_at at (constant.Word w) = refl
start_at at (constant.Pointer to) = refl

integer_fits : (i : Integer) (v : integers.ConstantInteger) (c : Constant) (at : ℕ) → integer_constant i v ≡ Some c → length (bytes_of (part_at at c)) ≤ width_of i
integer_fits i (integers_are.Known n) c at h = subst (λ c. length (bytes_of (part_at at c)) ≤ width_of i) (same_Some (integer_at i n) c h) (integer_width at n i)
integer_fits i integers_are.Wrong c at h = absurd (none-some c h)
integer_fits i integers_are.NotConstant c at h = absurd (none-some c h)

pointer_fits : (p : Option pointers.ConstantPointer) (c : Constant) (at : ℕ) → pointer_constant p ≡ Some c → length (bytes_of (part_at at c)) ≤ 4
pointer_fits None c at h = absurd (none-some c h)
pointer_fits (Some pointer.Null) c at h = subst (λ c. length (bytes_of (part_at at c)) ≤ 4) (same_Some (constant.Word 0) c h) (omega arith)
pointer_fits (Some (pointer.At to)) c at h = subst (λ c. length (bytes_of (part_at at c)) ≤ 4) (same_Some (constant.Pointer to) c h) (omega arith)

constant_fits : (layouts : List (Option Laid)) (b : Base) (stars : ℕ) (ls : List (Option ℕ)) (ps n at : ℕ) (v : Value) (c : Constant) → sound_at ls ps → Sized layouts b stars ls ps n → constant_at (Kind b stars ls ps) v ≡ Some c → length (bytes_of (part_at at c)) ≤ n
constant_fits layouts (base.Integer i) zero [] zero n at v c sound known h = omega (arith, integer_fits i (value_of v.expression) c at h, same_Some (1 * width_of i) n known)
constant_fits layouts base.Void zero [] ps n at v c sound known h = absurd (none-some c h)
constant_fits layouts (base.Struct tag) zero [] ps n at v c sound known h = absurd (none-some c h)
constant_fits layouts b (suc s) [] zero n at v c sound known h = omega (arith, pointer_fits (pointer_of v.expression) c at h, same_Some 4 n known)
constant_fits layouts b stars [] (suc ps) n at v c sound known h = absurd (omega (arith, sound))
constant_fits layouts b stars (l ∷ ls) zero n at v c sound known h = absurd (none-some c h)
constant_fits layouts b stars (l ∷ ls) (suc ps) n at v c sound known h = omega (arith, pointer_fits (pointer_of v.expression) c at h, same_Some 4 n known)

given_fits : (inner : List Row) (place : ℕ) (o : Option Constant) (at n : ℕ) → ((c : Constant) → o ≡ Some c → length (bytes_of (part_at at c)) ≤ n) → Within at (at + n) (given inner place (option_map (part_at at) o)).parts
given_fits inner place None at n h = omega arith
given_fits inner place (Some c) at n h = (omega (arith, start_at at c), omega (arith, start_at at c, h c refl))

assigned_fits : (layouts : List (Option Laid)) (t : Derived) (n at : ℕ) (v : Option Value) (c : Constant) → IsSound t → size_of layouts t ≡ Some n → option_and_then (constant_at (class_of t)) v ≡ Some c → length (bytes_of (part_at at c)) ≤ n
assigned_fits layouts t n at (Some v) c sound known h = constant_fits layouts t.base t.stars t.lengths t.pointers n at v c sound known h
assigned_fits layouts t n at None c sound known h = absurd (none-some c h)

expression_fits : (scope : Visible) (inner : List Row) (place : ℕ) (o : Option Node) (t : Derived) (n at : ℕ) → IsSound t → size_of scope.layouts t ≡ Some n → Within at (at + n) (node_fill inner place o t at).parts
expression_fits scope inner place o t n at sound known = by (is_scalar t) o
  where
    by : (b : Bool) (o : Option Node) → Within at (at + n) (cond b (scalar_fill inner place o t at) (refused inner place)).parts
    by false o = omega arith
    by true None = omega arith
    by true (Some x) = given_fits inner place (constant_of t x) at n (λ c h. assigned_fits scope.layouts t n at (assigned t x) c sound known h)

-- Strings.

string_length : (count : ℕ) (bytes : List ℕ) → length bytes ≤ count → length (cond (nat_lt (length bytes) count) (bytes ++ 0 ∷ []) bytes) ≤ count
string_length count bytes h = by (nat_lt (length bytes) count) (ltb-true (length bytes) count)
  where
    by : (b : Bool) → (b ≡ true → length bytes < count) → length (cond b (bytes ++ 0 ∷ []) bytes) ≤ count
    by true g = omega (arith, g refl, length-append bytes (0 ∷ []))
    by false g = h

characters_fit : (place at n count : ℕ) (bytes : List ℕ) (t : Derived) → length_of t ≡ Some count → count ≤ n → Within at (at + n) (given [] place (cond (nat_le (length bytes) count) (Some (Bytes at (string_bytes t bytes))) None)).parts
characters_fit place at n count bytes t known h = by (nat_le (length bytes) count) (leb-true (length bytes) count)
  where
    by : (b : Bool) → (b ≡ true → length bytes ≤ count) → Within at (at + n) (given [] place (cond b (Some (Bytes at (string_bytes t bytes))) None)).parts
    by true g = (omega arith, omega (arith, h, ap (λ o. length (cond (has_room o (length bytes)) (bytes ++ 0 ∷ []) bytes)) known, string_length count bytes (g refl)))
    by false g = omega arith

abbrev pub Derive : Base → ℕ → List (Option ℕ) → ℕ → Derived
Derive b stars ls ps = record { base = b; stars = stars; lengths = ls; pointers = ps }

abbrev FitsString : List (Option Laid) → ℕ → List ℕ → Base → ℕ → List (Option ℕ) → ℕ → Type 0
FitsString layouts place bytes b stars ls ps = (n at : ℕ) → Sized layouts b stars ls ps n → Within at (at + n) (string_fill place bytes (Derive b stars ls ps) at).parts

bytes_fit : (layouts : List (Option Laid)) (place : ℕ) (bytes : List ℕ) (i : Integer) (l : Option ℕ) → FitsString layouts place bytes (base.Integer i) zero (l ∷ []) zero
bytes_fit layouts place bytes integer.Char (Some count) n at known = characters_fit place at n count bytes (Derive (base.Integer integer.Char) zero (Some count ∷ []) zero) refl (omega (arith, same_Some (count * 1 * 1) n known))
bytes_fit layouts place bytes integer.UnsignedChar (Some count) n at known = characters_fit place at n count bytes (Derive (base.Integer integer.UnsignedChar) zero (Some count ∷ []) zero) refl (omega (arith, same_Some (count * 1 * 1) n known))
bytes_fit layouts place bytes integer.Char None n at known = absurd (none-some n known)
bytes_fit layouts place bytes integer.UnsignedChar None n at known = absurd (none-some n known)
bytes_fit layouts place bytes integer.Int l n at known = omega arith
bytes_fit layouts place bytes integer.UnsignedInt l n at known = omega arith

string_fits : (layouts : List (Option Laid)) (place : ℕ) (bytes : List ℕ) (b : Base) (stars : ℕ) (ls : List (Option ℕ)) (ps : ℕ) → FitsString layouts place bytes b stars ls ps
string_fits layouts place bytes (base.Integer i) zero [] ps n at known = omega arith
string_fits layouts place bytes base.Void zero [] ps n at known = omega arith
string_fits layouts place bytes (base.Struct tag) zero [] ps n at known = omega arith
string_fits layouts place bytes b (suc s) [] ps n at known = omega arith
string_fits layouts place bytes b stars (l ∷ ls) (suc ps) n at known = omega arith
string_fits layouts place bytes b stars (l ∷ m ∷ ms) zero n at known = omega arith
string_fits layouts place bytes (base.Integer i) zero (l ∷ []) zero n at known = bytes_fit layouts place bytes i l n at known
string_fits layouts place bytes base.Void zero (l ∷ []) zero n at known = omega arith
string_fits layouts place bytes (base.Struct tag) zero (l ∷ []) zero n at known = omega arith
string_fits layouts place bytes b (suc s) (l ∷ []) zero n at known = omega arith

-- Lists.

is_known : (layouts : List (Option Laid)) (t : Derived) (n : ℕ) → size_of layouts t ≡ Some n → n ≤ largest → unwrap_or (needed_size layouts t) 0 ≡ n
is_known layouts t n known small = ap (λ o. unwrap_or (option_and_then within o) 0) known ∙ by (cases_lt 0 n)
  where
    by : ((0 < n) ⊎ (n ≤ 0)) → unwrap_or (within n) 0 ≡ n
    by (inl some) = grind (arith, common_steps)
    by (inr none) = grind (arith, common_steps)

list_of : {S : Type 0} (scope : Visible) (F : S → Item) (place : ℕ) (s : Slots) (at n : ℕ) (ys : List ((s : S) × Fits scope (F s))) → Slotted scope at (at + n) (slot_in scope s) → Within at (at + n) (items_from (slot_in scope s) 0 (map F (map (λ (e : (s : S) × Fits scope (F s)). e.0) ys))).parts
list_of scope F place s at n ys r = wider at (r.lo 0) (at + n) (at + n) _ r.first (omega arith) (listed scope F at (at + n) (slot_in scope s) r 0 ys)

abbrev FitsList : {S : Type 0} → (S → Item) → Visible → ℕ → List S → Base → ℕ → List (Option ℕ) → ℕ → Type 0
FitsList F scope place xs b stars ls ps = (n at : ℕ) → sound_at ls ps → Sized scope.layouts b stars ls ps n → n ≤ largest → Within at (at + n) (list_fill scope place (map F xs) (Derive b stars ls ps) at).parts

times_one : (o : Option ℕ) (n : ℕ) → times (Some 1) o ≡ Some n → o ≡ Some n
times_one (Some m) n h = ap (λ x. Some x) (omega (arith, same_Some (1 * m) n h))
times_one None n h = absurd (none-some n h)

times_some : (o p : Option ℕ) (c n : ℕ) → times (option_map (λ m. c * m) o) p ≡ Some n → (m : ℕ) × (times o p ≡ Some m) × (c * m ≡ n)
times_some (Some m) (Some b) c n h = (m * b, refl, sym (mul_assoc c m b) ∙ same_Some (c * m * b) n h)
times_some (Some m) None c n h = absurd (none-some n h)
times_some None p c n h = absurd (none-some n h)

sound_zero : (ls : List (Option ℕ)) → sound_at ls 0
sound_zero [] = refl
sound_zero (l ∷ ls) = tt

members_fit : {S : Type 0} (scope : Visible) (F : S → Item) → AreLaid scope → (place tag : ℕ) (ys : List ((s : S) × Fits scope (F s))) → FitsList F scope place (map (λ (e : (s : S) × Fits scope (F s)). e.0) ys) (base.Struct tag) zero [] zero
members_fit scope F laid place tag ys n at sound known small =
    let l = found (λ (l : Laid). l.size) (struct_of scope.layouts tag) n (times_one _ n known) in
    subst (λ x. Within at (at + x) (items_from (slot_in scope (slots.Members tag at)) 0 (map F (map (λ e. e.0) ys))).parts) l.2
    (list_of scope F place (slots.Members tag at) at l.0.size ys (members_row scope tag l.0.size at (laid tag l.0 l.1) (omega (arith, l.2, small))))

slotted : {S : Type 0} (scope : Visible) (F : S → Item) (place : ℕ) (ys : List ((s : S) × Fits scope (F s))) (e : Derived) (count size at n : ℕ) → IsSound e → (0 < count → (size_of scope.layouts e ≡ Some size) × (size ≤ largest)) → count * size ≡ n → Within at (at + n) (items_from (slot_in scope (slots.Elements e size (Some count) at)) 0 (map F (map (λ (e : (s : S) × Fits scope (F s)). e.0) ys))).parts
slotted scope F place ys e count size at n sound known same =
    subst (λ x. Within at (at + x) (items_from (slot_in scope (slots.Elements e size (Some count) at)) 0 (map F (map (λ e. e.0) ys))).parts) same
    (list_of scope F place (slots.Elements e size (Some count) at) at (count * size) ys (elements_row scope e size count at sound known))

elements_fit : {S : Type 0} (scope : Visible) (F : S → Item) (place : ℕ) (ys : List ((s : S) × Fits scope (F s))) (b : Base) (stars : ℕ) (l : Option ℕ) (ls : List (Option ℕ)) → FitsList F scope place (map (λ (e : (s : S) × Fits scope (F s)). e.0) ys) b stars (l ∷ ls) zero
elements_fit scope F place ys b stars None ls n at sound known small = absurd (none-some n known)
elements_fit scope F place ys b stars (Some zero) ls n at sound known small =
    let k = times_some (count_of ls) (starred stars (base_size scope.layouts b)) 0 n known in
    slotted scope F place ys (Derive b stars ls 0) 0 (unwrap_or (needed_size scope.layouts (Derive b stars ls 0)) 0) at n (sound_zero ls) (λ none. absurd (omega (arith, none))) (omega (arith, k.2))
elements_fit scope F place ys b stars (Some (suc c)) ls n at sound known small =
    let k = times_some (count_of ls) (starred stars (base_size scope.layouts b)) (suc c) n known in
    let less : k.0 ≤ largest = omega (arith, mul-le-mul_right {m = 1} {n = suc c} k.0 (omega arith), k.2, small) in
    let same = is_known scope.layouts (Derive b stars ls 0) k.0 k.1 less in
    slotted scope F place ys (Derive b stars ls 0) (suc c) (unwrap_or (needed_size scope.layouts (Derive b stars ls 0)) 0) at n (sound_zero ls) (λ some. (k.1 ∙ ap (λ x. Some x) (sym same), omega (arith, same, less))) (ap (λ x. suc c * x) same ∙ k.2)

list_fits : {S : Type 0} (scope : Visible) (F : S → Item) → AreLaid scope → (place : ℕ) (ys : List ((s : S) × Fits scope (F s))) (b : Base) (stars : ℕ) (ls : List (Option ℕ)) (ps : ℕ) → FitsList F scope place (map (λ (e : (s : S) × Fits scope (F s)). e.0) ys) b stars ls ps
list_fits scope F laid place ys (base.Integer i) zero [] ps n at sound known small = omega arith
list_fits scope F laid place ys base.Void zero [] ps n at sound known small = omega arith
list_fits scope F laid place ys (base.Struct tag) zero [] zero n at sound known small = members_fit scope F laid place tag ys n at sound known small
list_fits scope F laid place ys (base.Struct tag) zero [] (suc ps) n at sound known small = absurd (omega (arith, sound))
list_fits scope F laid place ys b (suc s) [] ps n at sound known small = omega arith
list_fits scope F laid place ys b stars (l ∷ ls) zero n at sound known small = elements_fit scope F place ys b stars l ls n at sound known small
list_fits scope F laid place ys b stars (l ∷ ls) (suc ps) n at sound known small = omega arith

-- All initialisers.

abbrev Fitting : Visible → Type 0
Fitting scope = (i : Initialiser) × Fits scope (item_of scope i)

step : (scope : Visible) → AreLaid scope → (y : Initialiser-F (Fitting scope)) → Fits scope (item_step scope (map-Initialiser Initialiser Item (item_of scope) (map-Initialiser (Fitting scope) Initialiser (λ e. e.0) y)))
step scope laid (Initialiser-F.Expr e) = λ t n at sound known small. expression_fits scope (rows scope e) (text_place e) (node_of scope e) t n at sound known
step scope laid (Initialiser-F.String place bytes) = λ t n at sound known small. string_fits scope.layouts place bytes t.base t.stars t.lengths t.pointers n at known
step scope laid (Initialiser-F.List place items) = λ t n at sound known small. list_fits scope (item_of scope) laid place items t.base t.stars t.lengths t.pointers n at sound known small

pub whole : (scope : Visible) → AreLaid scope → (i : Initialiser) → Fits scope (item_of scope i)
whole scope laid = ind-Initialiser (λ i. Fits scope (item_of scope i)) (λ x y is.
    subst (Fits scope) (sym (fold-roll-Initialiser Item (item_step scope) x))
    (subst (λ z. Fits scope (item_step scope (map-Initialiser Initialiser Item (item_of scope) z))) is (step scope laid y)))

-- What an object begins with.

pub object_fits : (scope : Visible) → AreLaid scope → (o : Option Initialised) (t : Derived) (n : ℕ) → IsSound t → size_of scope.layouts t ≡ Some n → n ≤ largest → length (initial_data scope t o).bytes ≤ n
object_fits scope laid None t n sound known small = omega arith
object_fits scope laid (Some i) t n sound known small =
    fit n (fills scope i.value t 0).parts (subst (λ m. Within 0 m (fills scope i.value t 0).parts) (omega arith) (whole scope laid i.value t n 0 sound known small))
