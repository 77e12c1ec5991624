-- Look-ups of the code's blocks.
use Rattle.std.proofs.Common.{◌≡◌, ℕ, List, [], ◌∷◌, Bool, true, false, cond, Option, Some, None, refl, sym, ap, ◌∙◌, arith}
use Rattle.std.proofs.lemmas.Grind.{common_steps}
use Rattle.std.specs.Prelude.{if◌then◌else◌, ◌&&◌, eqb}
use Rattle.std.specs.FinMap as map
use Rattle.std.specs.FinMap.{find, get-from_entries, get-insert, get-remove, same_map}
use Rattle.std.specs.Map.{lookup}
use Rattle.std.specs.Cmp.{eq_by_cmp_equiv}
use Rattle.std.specs.Ordering.{is_eq, eq_by_cmp, nat_cmp, ordering_then}
use Rattle.block_mem.specs.contracts.value.BlockNamePartialEq.TheImpl as derived
use Rattle.std.proofs.lemmas.Bool.{cond_both}
use Rattle.block_mem.specs.Names.{name_cmp, names_total, names_exact, same_name, same_name-true}
use Rattle.block_mem.specs.Blocks.{Block, Blocks}
use Rattle.block_mem.specs.Access.{written_in, with_bytes, store_in, store}
use Rattle.block_mem.specs.declared.value.Byte.{Byte}
use Rattle.block_mem.specs.declared.value.Width.{Width}
use Rattle.block_mem.specs.declared.value.Value.{Value}
use Rattle.block_mem.specs.declared.value.Value.TheVariants.{Ptr}
use Rattle.block_mem.specs.declared.value.BlockName.{BlockName}
use Rattle.block_mem.specs.declared.value.BlockName.TheVariants.{Global, Local}

-- the derived equality
abbrev pub same : BlockName → BlockName → Bool
same = (derived.eq-value).it

pair_is : (u v i j : ℕ) → eqb u v && eqb i j ≡ is_eq (ordering_then (nat_cmp u v) (nat_cmp i j))
pair_is u v i j = grind (arith, common_steps)

pub same_is : (a b : BlockName) → same a b ≡ same_name a b
same_is (Global u i) (Global v j) = pair_is u v i j
same_is (Global u i) (Local v j) = refl
same_is (Local u i) (Global v j) = refl
same_is (Local u i) (Local v j) = pair_is u v i j

find_is : (es : List (BlockName × Block)) (q : BlockName) → find name_cmp q es ≡ lookup (same q) es
find_is [] q = refl
find_is (e ∷ es) q =
    ap (λ (b : Bool). cond b (Some e.1) (find name_cmp q es)) (sym (same_is q e.0)) ∙ ap (cond (same q e.0) (Some e.1)) (find_is es q)

pub get_is : (es : List (BlockName × Block)) (q : BlockName) → map.get (map.from_entries {R = name_cmp} es) q ≡ lookup (same q) es
get_is es q = get-from_entries names_total es q ∙ find_is es q

turned : (k q : BlockName) → same k q ≡ eq_by_cmp name_cmp q k
turned k q = same_is k q ∙ (eq_by_cmp_equiv names_total).symm k q

changed : (es fs : List (BlockName × Block)) (k q : BlockName) (w : Option Block) → lookup (same q) fs ≡ cond (same k q) w (lookup (same q) es) → map.get (map.from_entries {R = name_cmp} fs) q ≡ cond (eq_by_cmp name_cmp q k) w (map.get (map.from_entries {R = name_cmp} es) q)
changed es fs k q w h =
    get_is fs q ∙ h ∙ ap (λ (b : Bool). cond b w (lookup (same q) es)) (turned k q) ∙ ap (cond (eq_by_cmp name_cmp q k) w) (sym (get_is es q))

pub inserted : (es fs : List (BlockName × Block)) (k : BlockName) (c : Block) → ((q : BlockName) → lookup (same q) fs ≡ cond (same k q) (Some c) (lookup (same q) es)) → map.from_entries {R = name_cmp} fs ≡ map.insert (map.from_entries es) k c
inserted es fs k c h = same_map names_total names_exact (map.from_entries fs) (map.insert (map.from_entries es) k c) (λ q. changed es fs k q (Some c) (h q) ∙ sym (get-insert names_total (map.from_entries es) k c q))

pub removed : (es fs : List (BlockName × Block)) (k : BlockName) → ((q : BlockName) → lookup (same q) fs ≡ cond (same k q) None (lookup (same q) es)) → map.from_entries {R = name_cmp} fs ≡ map.remove (map.from_entries es) k
removed es fs k h = same_map names_total names_exact (map.from_entries fs) (map.remove (map.from_entries es) k) (λ q. changed es fs k q None (h q) ∙ sym (get-remove names_total (map.from_entries es) k q))

-- what stands there already
pub insert_same : (m : Blocks) (k : BlockName) (v : Block) → map.get m k ≡ Some v → map.insert m k v ≡ m
insert_same m k v h = same_map names_total names_exact (map.insert m k v) m (λ q. get-insert names_total m k v q ∙ there q)
  where
    there : (q : BlockName) → cond (same_name q k) (Some v) (map.get m q) ≡ map.get m q
    there q = cond_both (same_name q k) (Some v) (map.get m q) (λ (x : Option Block). x ≡ map.get m q) (λ e. sym h ∙ ap (map.get m) (sym (same_name-true q k e))) (λ e. refl)

-- a store, by what became of the bytes
pub store_is : (m : Blocks) (b : BlockName) (k : Block) (o : ℕ) (w : Width) (v : Value) (r : Bool) (ys : List Byte) → map.get m b ≡ Some k → if◌then◌else◌ r (Some ys) None ≡ written_in k w o v → store m (Ptr b o) w v ≡ if◌then◌else◌ r (Some (map.insert m b (record k { bytes = ys }))) None
store_is m b k o w v r ys at done =
    ap (λ (x : Option Block). store_in m b x w o v) at ∙ ap (with_bytes m b k) (sym done) ∙ out r
  where
    out : (x : Bool) → with_bytes m b k (if◌then◌else◌ x (Some ys) None) ≡ if◌then◌else◌ x (Some (map.insert m b (record k { bytes = ys }))) None
    out true = refl
    out false = refl

pub store_none : (m : Blocks) (b : BlockName) (o : ℕ) (w : Width) (v : Value) → map.get m b ≡ None → store m (Ptr b o) w v ≡ None
store_none m b o w v at = ap (λ (x : Option Block). store_in m b x w o v) at
