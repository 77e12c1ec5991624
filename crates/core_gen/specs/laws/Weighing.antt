-- The code of statements, functions and units weighs no more than their nodes pay.
use Rattle.std.specs.Prelude.{◌≡◌, ℕ, ◌+◌, ◌-◌, ◌*◌, ◌≤◌, max, min, Bool, List, [], ◌∷◌, ◌++◌, map, length, slice_get, Option, Some, None, option_map}
use Rattle.std.specs.Option.{option_map_or}
use Rattle.std.proofs.Common.{ap, sym, ◌∙◌, subst, arith}
use Rattle.std.proofs.Math.Nat.{le-max_left, le-max_right, max-le, min-le_right}
use Rattle.std.proofs.lemmas.Option.{slice_get-map}
use Rattle.cc_base.specs.declared.face.SymbolName.{SymbolName}
use Rattle.block_mem.specs.declared.operator.Op.{Op}
use Rattle.clight_unit.specs.declared.expression.Test.{Test}
use Rattle.clight_unit.specs.declared.statement.Statement.{Statement}
use Rattle.clight_unit.specs.declared.statement.Statement.TheOpen.{Statement-F, Arm-F}
use Rattle.clight_unit.specs.declared.statement.Statement.TheFolds.{map-Statement, map-Arm, fold-Arm, fold-roll-Statement, fold-roll-Arm, ind-Statement}
use Rattle.clight_unit.specs.declared.statement.Statement.TheViews.{roll-Statement, roll-Arm}
use Rattle.clight_unit.specs.declared.statement.Arm.{Arm}
use Rattle.clight_unit.specs.declared.statement.Simple.{Simple}
use Rattle.clight_unit.specs.declared.statement.Simple.TheVariants as simple
use Rattle.clight_unit.specs.declared.statement.Target.{Target}
use Rattle.clight_unit.specs.declared.statement.Target.TheVariants as target
use Rattle.clight_unit.specs.declared.statement.Value.{Value as Converted}
use Rattle.clight_unit.specs.declared.function.Function.{Function}
use Rattle.clight_unit.specs.declared.unit.ClightUnit.{ClightUnit as TypedUnit}
use Rattle.clight_sem.specs.Bounds.{total, expression_count, place_count, test_count, target_count, target_count_if_any, values_count, test_count_if_any, simple_count, simple_count_if_any, statement_count_step, arm_count_step, statement_count, body_count, function_count, function_hold as source_hold, functions_bulk, bulk, hold}
use Rattle.core_lang.specs.Bounds.{expression_size, arguments_size, result_reach, statement_size, body_size, function_bytes, function_hold as core_hold, functions_bulk as core_functions_bulk, bulk as core_bulk, hold as core_unit_hold}
use Rattle.core_lang.specs.laws.Sizes.{size_call, size_loop, size_block, size_return}
use Rattle.core_lang.specs.declared.syntax.Expression.{Expression as Core}
use Rattle.core_lang.specs.declared.syntax.Expression.TheVariants as core
use Rattle.core_lang.specs.declared.syntax.Statement.{Statement as Code}
use Rattle.core_lang.specs.declared.syntax.Statement.TheVariants as code
use Rattle.core_lang.specs.declared.syntax.Function.{Function as CoreFunction}
use Rattle.core_lang.specs.declared.syntax.CoreUnit.{CoreUnit}
use Rattle.core_gen.specs.Translation.{AllMade}
use Rattle.core_gen.specs.Translation.{Coder, ArmCode, made_of, place_made, test_made, condition_of, converted_by, assigned_to, all_made, finish, place_kept, own_place, called_by, called, simple_code, simple_if_any, coded, tested, tested_if_any, while_round, do_round, for_round, arms_code, statement_gen, arm_gen, code_of, arm_code}
use Rattle.core_gen.specs.Units.{base_of, function_code, is_main_named, unit_function, Matches}
use Rattle.core_gen.specs.laws.Bounding.{Small, small_none, small_and, looser, small_same, small_append, small_alone, small_set, small_store, small_if, small_exit, Within, small_temporary, adds_converted, condition_within, every_expression, every_place, every_test}

-- with these to spare: the code of something of so many nodes, where no declarator pays for initialisers, and where one does
abbrev pub Light : List Code → ℕ → ℕ → ℕ → Type 0
Light codes base nodes paid = Small (body_size codes) (128 * paid) (base + 2 + nodes) (2 + nodes) nodes

small_cons : (x : Code) (xs : List Code) (b c r d a : ℕ) → Small (statement_size x) b r d a → Small (body_size xs) c r d a → Small (body_size (x ∷ xs)) (b + c) r d a
small_cons x xs b c r d a p q = small_and p q

small_loop : (xs : List Code) (b r d a : ℕ) → Small (body_size xs) b r d a → Small (statement_size (code.Loop xs)) (5 + b) r d a
small_loop xs b r d a p = small_same (size_loop xs) (small_and (record { bytes = omega arith; reach = omega arith; depth = omega arith; arguments = omega arith }) p)

small_block : (xs : List Code) (b r d a : ℕ) → Small (body_size xs) b r d a → Small (statement_size (code.Block xs)) b r d a
small_block xs b r d a p = small_same (size_block xs) p

-- Assignments and calls

assigned_small : (base : ℕ) (g : Target) (v : Converted) → Small (body_size (assigned_to g base v)) (128 * (target_count g + expression_count v.expression)) (base + 2 + (target_count g - 1) + expression_count v.expression) (2 + (target_count g - 1) + expression_count v.expression) 0
assigned_small base (target.Temporary k) v =
    let e = expression_count v.expression in
    let m = made_of v.expression base in
    let x : Within base m 80 e = every_expression v.expression base in
    let s = x.some in
    let least = min-le_right k base in
    looser (let g = x.within in omega (arith, g)) (omega arith) (omega arith) (omega arith)
    (small_append m.hoists (code.Set (min k base) (converted_by v.conversion m.value) ∷ []) x.hoisted (57 + x.found) (base + e + 1) (1 + e) 0 x.hoists
    (small_alone (code.Set (min k base) (converted_by v.conversion m.value)) (57 + x.found) (base + e + 1) (1 + e) 0
    (small_set (min k base) (converted_by v.conversion m.value) (57 + x.found) (base + e + 1) (1 + e) 0 (omega (arith, least, s)) (adds_converted v.conversion m.value x.found (base + e + 1) (1 + e) (omega (arith, s)) x.value))))
assigned_small base (target.Place w q) v =
    let i = place_count q in
    let e = expression_count v.expression in
    let k = place_made q base in
    let y : Within base k 106 i = every_place q base in
    let m = made_of v.expression k.next in
    let x : Within k.next m 80 e = every_expression v.expression k.next in
    let s = x.some in
    let some = y.some in
    let up = y.next in
    let r = base + i + e + 1 in
    let conv = converted_by v.conversion m.value in
    looser (let g = x.within in let h = y.within in omega (arith, g, h)) (omega (arith, some)) (omega (arith, some)) (omega arith)
    (small_append k.hoists (m.hoists ++ code.Store w k.value conv ∷ []) y.hoisted (x.hoisted + (26 + y.found + (57 + x.found))) r (1 + (i + e)) 0 (looser (omega arith) (omega arith) (omega arith) (omega arith) y.hoists)
    (small_append m.hoists (code.Store w k.value conv ∷ []) x.hoisted (26 + y.found + (57 + x.found)) r (1 + (i + e)) 0 (looser (omega arith) (omega (arith, up)) (omega arith) (omega arith) x.hoists)
    (small_alone (code.Store w k.value conv) (26 + y.found + (57 + x.found)) r (1 + (i + e)) 0
    (small_store w k.value conv y.found (57 + x.found) r (i + e) 0 (looser (omega arith) (omega arith) (omega (arith, s)) (omega arith) y.value)
    (adds_converted v.conversion m.value x.found r (i + e) (omega (arith, s, some)) (looser (omega arith) (omega (arith, up)) (omega (arith, some)) (omega arith) x.value))))))

-- arguments that are made at n
record AllWithin (n : ℕ) (m : AllMade) (nodes : ℕ) : Type 0 where
  hoisted : ℕ
  found : ℕ
  hoists : Small (body_size m.hoists) hoisted (n + nodes + 1) (1 + nodes) 0
  values : Small (arguments_size m.values) found (n + nodes + 1) (1 + nodes) nodes
  within : hoisted + found ≤ 128 * nodes

all_within : (vs : List Converted) (n : ℕ) → AllWithin n (all_made vs n) (values_count vs)
all_within [] n = record { hoisted = 0; found = 0; hoists = small_none 0 (n + 0 + 1) 1 0; values = small_none 0 (n + 0 + 1) 1 0; within = omega arith }
all_within (v ∷ vs) n =
    let e = expression_count v.expression in
    let m = made_of v.expression n in
    let x : Within n m 80 e = every_expression v.expression n in
    let k = all_made vs m.next in
    let y = all_within vs m.next in
    let s = x.some in
    let up = x.next in
    let c = values_count vs in
    let r = n + (e + c) + 1 in
    let d = 1 + (e + c) in
    let conv = converted_by v.conversion m.value in
    let p : Small (expression_size conv) (57 + x.found) r d 0 = adds_converted v.conversion m.value x.found r d (omega (arith, s)) (looser (omega arith) (omega arith) (omega arith) (omega arith) x.value) in
    record {
      hoisted = x.hoisted + y.hoisted;
      found = 16 + (57 + x.found) + y.found;
      hoists = small_append m.hoists k.hoists x.hoisted y.hoisted r d 0 (looser (omega arith) (omega arith) (omega arith) (omega arith) x.hoists) (looser (omega arith) (omega (arith, up)) (omega arith) (omega arith) y.hoists);
      values = record {
        bytes = let g = p.bytes in let h = y.values.bytes in omega (arith, g, h);
        reach = max-le p.reach (let h = y.values.reach in omega (arith, h, up));
        depth = max-le p.depth (let h = y.values.depth in omega (arith, h, s));
        arguments = let h = y.values.arguments in omega (arith, h, s);
      };
      within = let g = x.within in let h = y.within in omega (arith, g, h);
    }

kept_small : (base : ℕ) (g : Target) → Small (body_size (place_kept base (Some g))) (128 * target_count g - 106) (base + 1 + target_count g) (1 + target_count g) 0
kept_small base (target.Temporary k) = small_none 22 (base + 1 + 1) 2 0
kept_small base (target.Place w q) =
    let i = place_count q in
    let k = place_made q base in
    let y : Within base k 106 i = every_place q base in
    looser (let g = y.within in omega (arith, g)) (omega arith) (omega arith) (omega arith)
    (small_append k.hoists (code.Set base k.value ∷ []) y.hoisted y.found (base + i + 1) (1 + i) 0 y.hoists
    (small_alone (code.Set base k.value) y.found (base + i + 1) (1 + i) 0 (small_set base k.value y.found (base + i + 1) (1 + i) 0 (omega arith) y.value)))

target_some : (g : Target) → 1 ≤ target_count g
target_some (target.Temporary k) = omega arith
target_some (target.Place w q) = let x = every_place q 0 in x.some

finish_small : (base : ℕ) (conversion : Op) (g : Target) → Small (body_size (finish base (base + 1) conversion g)) 121 (base + 2) 3 0
finish_small base conversion (target.Temporary k) =
    let least = min-le_right k base in
    small_alone (code.Set (min k base) (converted_by conversion (core.Temporary (base + 1)))) 121 (base + 2) 3 0
    (small_set (min k base) (converted_by conversion (core.Temporary (base + 1))) 121 (base + 2) 3 0 (omega (arith, least)) (looser (omega arith) (omega arith) (omega arith) (omega arith) (adds_converted conversion (core.Temporary (base + 1)) 19 (base + 2) 3 (omega arith) (small_temporary (base + 1) 19 (base + 2) 3 (omega arith) (omega arith) (omega arith)))))
finish_small base conversion (target.Place w q) =
    small_alone (code.Store w (core.Temporary base) (converted_by conversion (core.Temporary (base + 1)))) 121 (base + 2) 3 0
    (small_store w (core.Temporary base) (converted_by conversion (core.Temporary (base + 1))) 19 76 (base + 2) 2 0 (small_temporary base 19 (base + 2) 2 (omega arith) (omega arith) (omega arith))
    (adds_converted conversion (core.Temporary (base + 1)) 19 (base + 2) 2 (omega arith) (small_temporary (base + 1) 19 (base + 2) 2 (omega arith) (omega arith) (omega arith))))

small_call : (to : Option ℕ) (callee : ℕ) (es : List Core) (b r d a : ℕ) → result_reach to ≤ r → Small (arguments_size es) b r d a → Small (statement_size (code.Call to callee es)) (24 + b) r d a
small_call to callee es b r d a h p = small_same (size_call to callee es) (record { bytes = let g = p.bytes in omega (arith, g); reach = max-le h p.reach; depth = p.depth; arguments = p.arguments })

called_small : (own : Option ℕ) (base : ℕ) (conversion : Op) (g : Option Target) (callee : ℕ) (es : List Core) (b r d a : ℕ) → base + 2 ≤ r → 3 ≤ d → Small (arguments_size es) b r d a → Small (body_size (called_by own base conversion g callee es)) (145 + b) r d a
called_small (Some k) base conversion g callee es b r d a h i p =
    let least = min-le_right k base in
    looser (omega arith) (omega arith) (omega arith) (omega arith) (small_alone (code.Call (Some (min k base)) callee es) (24 + b) r d a (small_call (Some (min k base)) callee es b r d a (omega (arith, h, least)) p))
called_small None base conversion None callee es b r d a h i p = looser (omega arith) (omega arith) (omega arith) (omega arith) (small_alone (code.Call None callee es) (24 + b) r d a (small_call None callee es b r d a (omega arith) p))
called_small None base conversion (Some g) callee es b r d a h i p = looser (omega arith) (omega arith) (omega arith) (omega arith)
    (small_cons (code.Call (Some (base + 1)) callee es) (finish base (base + 1) conversion g) (24 + b) 121 r d a (small_call (Some (base + 1)) callee es b r d a (omega (arith, h)) p) (looser (omega arith) h i (omega arith) (finish_small base conversion g)))

-- without a target nothing stands behind the call
dropped_small : (base : ℕ) (conversion : Op) (callee : ℕ) (es : List Core) (b r d a : ℕ) → Small (arguments_size es) b r d a → Small (body_size (called base conversion None callee es)) (24 + b) r d a
dropped_small base conversion callee es b r d a p = small_alone (code.Call None callee es) (24 + b) r d a (small_call None callee es b r d a (omega arith) p)

call_by : (base : ℕ) (conversion : Op) (g : Option Target) (callee : ℕ) (vs : List Converted) → Light (place_kept base g ++ ((all_made vs (base + 1)).hoists ++ called base conversion g callee (all_made vs (base + 1)).values)) base (1 + target_count_if_any g + values_count vs) (1 + target_count_if_any g + values_count vs)
call_by base conversion None callee vs =
    let m = all_made vs (base + 1) in
    let c = values_count vs in
    let x = all_within vs (base + 1) in
    let r = base + 2 + (1 + 0 + c) in
    let d = 2 + (1 + 0 + c) in
    let a = 1 + 0 + c in
    looser (let g = x.within in omega (arith, g)) (omega arith) (omega arith) (omega arith)
    (small_append m.hoists (called base conversion None callee m.values) x.hoisted (24 + x.found) r d a (looser (omega arith) (omega arith) (omega arith) (omega arith) x.hoists)
    (dropped_small base conversion callee m.values x.found r d a (looser (omega arith) (omega arith) (omega arith) (omega arith) x.values)))
call_by base conversion (Some g) callee vs =
    let m = all_made vs (base + 1) in
    let c = values_count vs in
    let t = target_count g in
    let x = all_within vs (base + 1) in
    let s = target_some g in
    let r = base + 2 + (1 + t + c) in
    let d = 2 + (1 + t + c) in
    let a = 1 + t + c in
    looser (let h = x.within in omega (arith, h, s)) (omega arith) (omega arith) (omega arith)
    (small_append (place_kept base (Some g)) (m.hoists ++ called base conversion (Some g) callee m.values) (128 * t - 106) (x.hoisted + (145 + x.found)) r d a (looser (omega arith) (omega arith) (omega arith) (omega arith) (kept_small base g))
    (small_append m.hoists (called base conversion (Some g) callee m.values) x.hoisted (145 + x.found) r d a (looser (omega arith) (omega arith) (omega arith) (omega arith) x.hoists)
    (called_small (own_place (Some g) conversion) base conversion (Some g) callee m.values x.found r d a (omega arith) (omega arith) (looser (omega arith) (omega arith) (omega arith) (omega arith) x.values))))

simple_light : (base : ℕ) (x : Simple) → Light (simple_code base x) base (simple_count x) (simple_count x)
simple_light base (simple.Assign a) = looser (omega arith) (omega arith) (omega arith) (omega arith) (assigned_small base a.target a.value)
simple_light base (simple.Call c) = call_by base c.conversion c.target c.callee c.arguments

simple_if_any_light : (base : ℕ) (x : Option Simple) → Light (simple_if_any base x) base (simple_count_if_any x) (simple_count_if_any x)
simple_if_any_light base None = small_none 0 (base + 2 + 0) 2 0
simple_if_any_light base (Some x) = simple_light base x

-- Tests

-- a test has 5 bytes more than its nodes pay
tested_small : (base : ℕ) (t : Test) → Small (body_size (tested base t)) (5 + 128 * test_count t) (base + 2 + test_count t) (2 + test_count t) (test_count t)
tested_small base t =
    let n = test_count t in
    let m = condition_of t base in
    let x : Within base m 23 n = condition_within base (test_made t) n (every_test t base) in
    let r = base + 2 + n in
    looser (let g = x.within in omega (arith, g)) (omega arith) (omega arith) (omega arith)
    (small_append m.hoists (code.If m.value [] (code.Exit 0 ∷ []) ∷ []) x.hoisted (28 + x.found + (0 + 0)) r (2 + n) n (looser (omega arith) (omega arith) (omega arith) (omega arith) x.hoists)
    (small_alone (code.If m.value [] (code.Exit 0 ∷ [])) (28 + x.found + (0 + 0)) r (2 + n) n
    (small_if m.value [] (code.Exit 0 ∷ []) x.found 0 0 r (2 + n) n (looser (omega arith) (omega arith) (omega arith) (omega arith) x.value) (small_none 0 r (2 + n) n) (small_exit 0 0 r (2 + n) n))))

tested_if_any_small : (base : ℕ) (t : Option Test) → Small (body_size (tested_if_any base t)) (5 + 128 * test_count_if_any t) (base + 2 + test_count_if_any t) (2 + test_count_if_any t) (test_count_if_any t)
tested_if_any_small base None = small_none 5 (base + 2 + 0) 2 0
tested_if_any_small base (Some t) = tested_small base t

-- Statements, by induction

abbrev ForStatement : Statement → Type 0
ForStatement s = (base depth : ℕ) → Light (code_of base s depth) base (statement_count 0 s) (statement_count 1 s)

abbrev arm_count : ℕ → Arm → ℕ
arm_count more = fold-Arm ℕ ℕ (statement_count_step more) arm_count_step

-- an arm before others
abbrev ArmLight : ℕ → ArmCode → ℕ → ℕ → Type 0
ArmLight base x nodes paid = (depth : ℕ) (rest : List Code) (b r d a : ℕ) → base + 2 + nodes ≤ r → 2 + nodes ≤ d → nodes ≤ a → Small (body_size rest) b r d a → Small (body_size ((condition_of x.test base).hoists ++ code.If (condition_of x.test base).value (x.body (depth + 1) ++ code.Exit 0 ∷ []) [] ∷ rest)) (128 * paid + b) r d a

abbrev ForArm : Arm → Type 0
ForArm x = (base : ℕ) → ArmLight base (arm_code base x) (arm_count 0 x) (arm_count 1 x)

abbrev AStatement : Type 0
AStatement = (s : Statement) × ForStatement s

abbrev AnArm : Type 0
AnArm = (x : Arm) × ForArm x

abbrev bare_statement : Statement-F AStatement AnArm → Statement-F Statement Arm
bare_statement = map-Statement AStatement AnArm Statement Arm (λ (e : AStatement). e.0) (λ (e : AnArm). e.0)

abbrev bare_arm : Arm-F AStatement AnArm → Arm-F Statement Arm
bare_arm = map-Arm AStatement AnArm Statement Arm (λ (e : AStatement). e.0) (λ (e : AnArm). e.0)

abbrev StepStatement : Statement-F Statement Arm → Type 0
StepStatement x = (base depth : ℕ) → Light (statement_gen base (map-Statement Statement Arm Coder ArmCode (code_of base) (arm_code base) x) depth) base (statement_count_step 0 (map-Statement Statement Arm ℕ ℕ (statement_count 0) (arm_count 0) x)) (statement_count_step 1 (map-Statement Statement Arm ℕ ℕ (statement_count 1) (arm_count 1) x))

abbrev StepArm : Arm-F Statement Arm → Type 0
StepArm x = (base : ℕ) → ArmLight base (arm_gen base (map-Arm Statement Arm Coder ArmCode (code_of base) (arm_code base) x)) (arm_count_step (map-Arm Statement Arm ℕ ℕ (statement_count 0) (arm_count 0) x)) (arm_count_step (map-Arm Statement Arm ℕ ℕ (statement_count 1) (arm_count 1) x))

body_light : (ys : List AStatement) (base depth : ℕ) → Light (coded (map (code_of base) (map (λ (e : AStatement). e.0) ys)) depth) base (body_count 0 (map (λ (e : AStatement). e.0) ys)) (body_count 1 (map (λ (e : AStatement). e.0) ys))
body_light [] base depth = small_none 0 (base + 2 + 0) 2 0
body_light (y ∷ ys) base depth =
    let i = statement_count 0 y.0 in
    let j = body_count 0 (map (λ (e : AStatement). e.0) ys) in
    looser (omega arith) (omega arith) (omega arith) (omega arith)
    (small_append (code_of base y.0 depth) (coded (map (code_of base) (map (λ (e : AStatement). e.0) ys)) depth) (128 * statement_count 1 y.0) (128 * body_count 1 (map (λ (e : AStatement). e.0) ys)) (base + 2 + (i + j)) (2 + (i + j)) (i + j)
    (looser (omega arith) (omega arith) (omega arith) (omega arith) (y.1 base depth)) (looser (omega arith) (omega arith) (omega arith) (omega arith) (body_light ys base depth)))

arms_light : (ys : List AnArm) (base depth : ℕ) (last : List Code) (b r d a : ℕ) → base + 2 + total (map (arm_count 0) (map (λ (e : AnArm). e.0) ys)) ≤ r → 2 + total (map (arm_count 0) (map (λ (e : AnArm). e.0) ys)) ≤ d → total (map (arm_count 0) (map (λ (e : AnArm). e.0) ys)) ≤ a → Small (body_size last) b r d a → Small (body_size (arms_code base depth (map (arm_code base) (map (λ (e : AnArm). e.0) ys)) last)) (128 * total (map (arm_count 1) (map (λ (e : AnArm). e.0) ys)) + b) r d a
arms_light [] base depth last b r d a g h i p = looser (omega arith) (omega arith) (omega arith) (omega arith) p
arms_light (y ∷ ys) base depth last b r d a g h i p =
    let t = total (map (arm_count 1) (map (λ (e : AnArm). e.0) ys)) in
    looser (omega arith) (omega arith) (omega arith) (omega arith)
    (y.1 base depth (arms_code base depth (map (arm_code base) (map (λ (e : AnArm). e.0) ys)) last) (128 * t + b) r d a (omega (arith, g)) (omega (arith, h)) (omega (arith, i))
    (arms_light ys base depth last b r d a (omega (arith, g)) (omega (arith, h)) (omega (arith, i)) p))

-- a loop's block
loop_light : (round : List Code) (base b nodes paid : ℕ) → Small (body_size round) b (base + 2 + nodes) (2 + nodes) nodes → 5 + b ≤ 128 * paid → Light (code.Block (code.Loop round ∷ []) ∷ []) base nodes paid
loop_light round base b nodes paid p h =
    let r = base + 2 + nodes in
    looser h (omega arith) (omega arith) (omega arith)
    (small_alone (code.Block (code.Loop round ∷ [])) (5 + b) r (2 + nodes) nodes (small_block (code.Loop round ∷ []) (5 + b) r (2 + nodes) nodes (small_alone (code.Loop round) (5 + b) r (2 + nodes) nodes (small_loop round b r (2 + nodes) nodes p))))

step_light : (y : Statement-F AStatement AnArm) → StepStatement (bare_statement y)
step_light Statement-F.Empty base depth = small_none 128 (base + 2 + 1) 3 1
step_light (Statement-F.Initialise a) base depth = looser (omega arith) (omega arith) (omega arith) (omega arith) (assigned_small base a.target a.value)
step_light (Statement-F.Simple x) base depth = simple_light base x
step_light (Statement-F.Block ys) base depth = looser (omega arith) (omega arith) (omega arith) (omega arith) (body_light ys base depth)
step_light (Statement-F.If ys None) base depth =
    let n = total (map (arm_count 0) (map (λ (e : AnArm). e.0) ys)) in
    let c = total (map (arm_count 1) (map (λ (e : AnArm). e.0) ys)) in
    let l = arms_code base depth (map (arm_code base) (map (λ (e : AnArm). e.0) ys)) [] in
    looser (omega arith) (omega arith) (omega arith) (omega arith)
    (small_alone (code.Block l) (128 * c + 0) (base + 2 + n) (2 + n) n (small_block l (128 * c + 0) (base + 2 + n) (2 + n) n
    (arms_light ys base depth [] 0 (base + 2 + n) (2 + n) n (omega arith) (omega arith) (omega arith) (small_none 0 (base + 2 + n) (2 + n) n))))
step_light (Statement-F.If ys (Some zs)) base depth =
    let n = total (map (arm_count 0) (map (λ (e : AnArm). e.0) ys)) in
    let c = total (map (arm_count 1) (map (λ (e : AnArm). e.0) ys)) in
    let i = body_count 0 (map (λ (e : AStatement). e.0) zs) in
    let j = body_count 1 (map (λ (e : AStatement). e.0) zs) in
    let last = coded (map (code_of base) (map (λ (e : AStatement). e.0) zs)) (depth + 1) in
    let l = arms_code base depth (map (arm_code base) (map (λ (e : AnArm). e.0) ys)) last in
    looser (omega arith) (omega arith) (omega arith) (omega arith)
    (small_alone (code.Block l) (128 * c + 128 * j) (base + 2 + (n + i)) (2 + (n + i)) (n + i) (small_block l (128 * c + 128 * j) (base + 2 + (n + i)) (2 + (n + i)) (n + i)
    (arms_light ys base depth last (128 * j) (base + 2 + (n + i)) (2 + (n + i)) (n + i) (omega arith) (omega arith) (omega arith) (looser (omega arith) (omega arith) (omega arith) (omega arith) (body_light zs base (depth + 1))))))
step_light (Statement-F.While t ys) base depth =
    let n = test_count t in
    let i = body_count 0 (map (λ (e : AStatement). e.0) ys) in
    let j = body_count 1 (map (λ (e : AStatement). e.0) ys) in
    let body = coded (map (code_of base) (map (λ (e : AStatement). e.0) ys)) 0 in
    let r = base + 2 + (1 + n + i) in
    let d = 2 + (1 + n + i) in
    let a = 1 + n + i in
    loop_light (while_round base t body) base (5 + 128 * n + 128 * j) a (1 + n + j)
    (small_append (tested base t) (code.Block body ∷ []) (5 + 128 * n) (128 * j) r d a (looser (omega arith) (omega arith) (omega arith) (omega arith) (tested_small base t))
    (small_alone (code.Block body) (128 * j) r d a (small_block body (128 * j) r d a (looser (omega arith) (omega arith) (omega arith) (omega arith) (body_light ys base 0))))) (omega arith)
step_light (Statement-F.Do ys t) base depth =
    let n = test_count t in
    let i = body_count 0 (map (λ (e : AStatement). e.0) ys) in
    let j = body_count 1 (map (λ (e : AStatement). e.0) ys) in
    let body = coded (map (code_of base) (map (λ (e : AStatement). e.0) ys)) 0 in
    let r = base + 2 + (1 + n + i) in
    let d = 2 + (1 + n + i) in
    let a = 1 + n + i in
    loop_light (do_round base t body) base (128 * j + (5 + 128 * n)) a (1 + n + j)
    (small_cons (code.Block body) (tested base t) (128 * j) (5 + 128 * n) r d a (small_block body (128 * j) r d a (looser (omega arith) (omega arith) (omega arith) (omega arith) (body_light ys base 0)))
    (looser (omega arith) (omega arith) (omega arith) (omega arith) (tested_small base t))) (omega arith)
step_light (Statement-F.For first t step ys) base depth =
    let k = simple_count_if_any first in
    let n = test_count_if_any t in
    let l = simple_count_if_any step in
    let i = body_count 0 (map (λ (e : AStatement). e.0) ys) in
    let j = body_count 1 (map (λ (e : AStatement). e.0) ys) in
    let body = coded (map (code_of base) (map (λ (e : AStatement). e.0) ys)) 0 in
    let a = 1 + k + n + l + i in
    let r = base + 2 + a in
    let d = 2 + a in
    let round = for_round base t step body in
    let rounds : Small (body_size round) (5 + 128 * n + (128 * j + 128 * l)) r d a =
    small_append (tested_if_any base t) (code.Block body ∷ simple_if_any base step) (5 + 128 * n) (128 * j + 128 * l) r d a (looser (omega arith) (omega arith) (omega arith) (omega arith) (tested_if_any_small base t))
    (small_cons (code.Block body) (simple_if_any base step) (128 * j) (128 * l) r d a (small_block body (128 * j) r d a (looser (omega arith) (omega arith) (omega arith) (omega arith) (body_light ys base 0)))
    (looser (omega arith) (omega arith) (omega arith) (omega arith) (simple_if_any_light base step))) in
    looser (omega arith) (omega arith) (omega arith) (omega arith)
    (small_alone (code.Block (simple_if_any base first ++ code.Loop round ∷ [])) (128 * k + (5 + (5 + 128 * n + (128 * j + 128 * l)))) r d a
    (small_block (simple_if_any base first ++ code.Loop round ∷ []) (128 * k + (5 + (5 + 128 * n + (128 * j + 128 * l)))) r d a
    (small_append (simple_if_any base first) (code.Loop round ∷ []) (128 * k) (5 + (5 + 128 * n + (128 * j + 128 * l))) r d a (looser (omega arith) (omega arith) (omega arith) (omega arith) (simple_if_any_light base first))
    (small_alone (code.Loop round) (5 + (5 + 128 * n + (128 * j + 128 * l))) r d a (small_loop round (5 + 128 * n + (128 * j + 128 * l)) r d a rounds)))))
step_light Statement-F.Break base depth = small_exit (depth + 1) 128 (base + 2 + 1) 3 1
step_light Statement-F.Continue base depth = small_exit depth 128 (base + 2 + 1) 3 1
step_light (Statement-F.Return None) base depth = small_alone (code.Return None) 128 (base + 2 + 1) 3 1 (small_same (size_return None) (record { bytes = omega arith; reach = omega arith; depth = omega arith; arguments = omega arith }))
step_light (Statement-F.Return (Some v)) base depth =
    let e = expression_count v.expression in
    let m = made_of v.expression base in
    let x : Within base m 80 e = every_expression v.expression base in
    let s = x.some in
    let conv = converted_by v.conversion m.value in
    let r = base + 2 + (1 + e) in
    let d = 2 + (1 + e) in
    let p : Small (expression_size conv) (57 + x.found) r d 0 = adds_converted v.conversion m.value x.found r d (omega arith) (looser (omega arith) (omega arith) (omega arith) (omega arith) x.value) in
    looser (let g = x.within in omega (arith, g)) (omega arith) (omega arith) (omega arith)
    (small_append m.hoists (code.Return (Some conv) ∷ []) x.hoisted (48 + (57 + x.found)) r d 0 (looser (omega arith) (omega arith) (omega arith) (omega arith) x.hoists)
    (small_alone (code.Return (Some conv)) (48 + (57 + x.found)) r d 0 (small_same (size_return (Some conv)) (record { bytes = let g = p.bytes in omega (arith, g); reach = p.reach; depth = p.depth; arguments = p.arguments }))))

step_arm : (y : Arm-F AStatement AnArm) → StepArm (bare_arm y)
step_arm y base depth rest b r d a g h i p =
    let n = test_count y.test in
    let k = body_count 0 (map (λ (e : AStatement). e.0) y.body) in
    let j = body_count 1 (map (λ (e : AStatement). e.0) y.body) in
    let m = condition_of y.test base in
    let x : Within base m 23 n = condition_within base (test_made y.test) n (every_test y.test base) in
    let body = coded (map (code_of base) (map (λ (e : AStatement). e.0) y.body)) (depth + 1) in
    looser (let w = x.within in omega (arith, w)) (omega arith) (omega arith) (omega arith)
    (small_append m.hoists (code.If m.value (body ++ code.Exit 0 ∷ []) [] ∷ rest) x.hoisted (28 + x.found + ((128 * j + 0) + 0) + b) r d a (looser (omega arith) (omega (arith, g)) (omega (arith, h)) (omega arith) x.hoists)
    (small_cons (code.If m.value (body ++ code.Exit 0 ∷ []) []) rest (28 + x.found + ((128 * j + 0) + 0)) b r d a
    (small_if m.value (body ++ code.Exit 0 ∷ []) [] x.found (128 * j + 0) 0 r d a (looser (omega arith) (omega (arith, g)) (omega (arith, h)) (omega arith) x.value)
    (small_append body (code.Exit 0 ∷ []) (128 * j) 0 r d a (looser (omega arith) (omega (arith, g)) (omega (arith, h)) (omega (arith, i)) (body_light y.body base (depth + 1))) (small_exit 0 0 r d a)) (small_none 0 r d a)) p))

like_coded : (make make' : ℕ → Coder) (i i' j j' : ℕ) → ((base : ℕ) → make base ≡ make' base) → i ≡ i' → j ≡ j' → ((base depth : ℕ) → Light (make' base depth) base i' j') → (base depth : ℕ) → Light (make base depth) base i j
like_coded make make' i i' j j' a b c h base depth = subst (λ (f : Coder). Light (f depth) base i j) (sym (a base)) (subst (λ (z : ℕ). Light (make' base depth) base z j) (sym b) (subst (λ (z : ℕ). Light (make' base depth) base i' z) (sym c) (h base depth)))

like_arm : (make make' : ℕ → ArmCode) (i i' j j' : ℕ) → ((base : ℕ) → make base ≡ make' base) → i ≡ i' → j ≡ j' → ((base : ℕ) → ArmLight base (make' base) i' j') → (base : ℕ) → ArmLight base (make base) i j
like_arm make make' i i' j j' a b c h base = subst (λ (f : ArmCode). ArmLight base f i j) (sym (a base)) (subst (λ (z : ℕ). ArmLight base (make' base) z j) (sym b) (subst (λ (z : ℕ). ArmLight base (make' base) i' z) (sym c) (h base)))

statement_from : (x : Statement-F Statement Arm) → StepStatement x → ForStatement (roll-Statement x)
statement_from x h = like_coded _ _ _ _ _ _ (λ base. fold-roll-Statement Coder ArmCode (statement_gen base) (arm_gen base) x) (fold-roll-Statement ℕ ℕ (statement_count_step 0) arm_count_step x) (fold-roll-Statement ℕ ℕ (statement_count_step 1) arm_count_step x) h

arm_from : (x : Arm-F Statement Arm) → StepArm x → ForArm (roll-Arm x)
arm_from x h = like_arm _ _ _ _ _ _ (λ base. fold-roll-Arm Coder ArmCode (statement_gen base) (arm_gen base) x) (fold-roll-Arm ℕ ℕ (statement_count_step 0) arm_count_step x) (fold-roll-Arm ℕ ℕ (statement_count_step 1) arm_count_step x) h

every_statement : (s : Statement) → ForStatement s
every_statement = ind-Statement ForStatement ForArm (λ x y is. statement_from x (subst StepStatement is (step_light y))) (λ x y is. arm_from x (subst StepArm is (step_arm y)))

whole_body : (ss : List Statement) (base depth : ℕ) → Light (coded (map (code_of base) ss) depth) base (body_count 0 ss) (body_count 1 ss)
whole_body [] base depth = small_none 0 (base + 2 + 0) 2 0
whole_body (s ∷ ss) base depth =
    let i = statement_count 0 s in
    let j = body_count 0 ss in
    looser (omega arith) (omega arith) (omega arith) (omega arith)
    (small_append (code_of base s depth) (coded (map (code_of base) ss) depth) (128 * statement_count 1 s) (128 * body_count 1 ss) (base + 2 + (i + j)) (2 + (i + j)) (i + j)
    (looser (omega arith) (omega arith) (omega arith) (omega arith) (every_statement s base depth)) (looser (omega arith) (omega arith) (omega arith) (omega arith) (whole_body ss base depth)))

-- Functions and units

function_lighter : (is_main : Bool) (f : Function) → function_bytes (function_code is_main f) ≤ 256 + 128 * function_count f
function_lighter is_main f =
    let x = whole_body f.body (base_of f) 0 in
    let g = x.bytes in
    let h = le-max_right (f.registers + length f.locals + body_count 0 f.body) (body_count 1 f.body) in
    omega (arith, g, h)

function_holds : (is_main : Bool) (f : Function) → core_hold (function_code is_main f) ≤ source_hold f
function_holds is_main f =
    let x = whole_body f.body (base_of f) 0 in
    let n = body_count 0 f.body in
    let i = x.depth in
    let j = x.arguments in
    let reach : max (length f.signature.parameters) (body_size (function_code is_main f).body).reach ≤ base_of f + 2 + n = max-le (omega arith) x.reach in
    let h = le-max_left (f.registers + length f.locals + n) (body_count 1 f.body) in
    omega (arith, i, j, h, reach)

functions_lighter : (names : List SymbolName) (fs : List Function) → core_functions_bulk (map (unit_function names) fs) ≤ functions_bulk fs
unfolding unit_function
functions_lighter names [] = omega arith
functions_lighter names (f ∷ fs) = let g = function_lighter (is_main_named names f.symbol) f in let h = functions_lighter names fs in omega (arith, g, h)

pub unit_lighter : (u : TypedUnit) (v : CoreUnit) → Matches u v → core_bulk v ≤ bulk u
unit_lighter u v m = let g = functions_lighter u.symbol_names u.functions in let e : core_functions_bulk v.functions ≡ core_functions_bulk (map (unit_function u.symbol_names) u.functions) = ap core_functions_bulk m.functions in omega (arith, g, e)

held_by : (names : List SymbolName) (o : Option Function) → option_map_or core_hold (option_map (unit_function names) o) 0 ≤ option_map_or source_hold o 0
unfolding unit_function
held_by names None = omega arith
held_by names (Some f) = function_holds (is_main_named names f.symbol) f

pub unit_holds : (u : TypedUnit) (v : CoreUnit) (index : ℕ) → Matches u v → core_unit_hold v index ≤ hold u index
unit_holds u v index m =
    let g = held_by u.symbol_names (slice_get u.functions index) in
    let e : core_unit_hold v index ≡ option_map_or core_hold (option_map (unit_function u.symbol_names) (slice_get u.functions index)) 0 =
    ap (λ (fs : List CoreFunction). option_map_or core_hold (slice_get fs index) 0) m.functions ∙ ap (λ (o : Option CoreFunction). option_map_or core_hold o 0) (slice_get-map (unit_function u.symbol_names) u.functions index) in
    omega (arith, g, e)
