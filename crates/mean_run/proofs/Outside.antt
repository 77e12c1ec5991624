-- Laws of what a sink has got and a source lacks, in parts.
use Rattle.std.proofs.Common.{◌≡◌, ℕ, ◌+◌, List, [], ◌∷◌, ◌++◌, Option, Some, None, option_map, drop, Bool, refl, sym, ap, ◌∙◌, arith, append_assoc, append-nil}
use Rattle.std.proofs.lemmas.List.{drop-drop}
use Rattle.cc_base.specs.Seen.{SourceSeen, SinkSeen}
use Rattle.cc_base.specs.Outside.{grown, flushed_still}
use Rattle.cc_base.specs.Runs.{emitted, taken}
use Rattle.cc_base.specs.declared.run.Act.{Act}
use Rattle.cc_base.specs.declared.run.Act.TheVariants as act
use Rattle.mean_run.specs.Running.{lacking}

pub emitted-append : (xs ys : List Act) → emitted (xs ++ ys) ≡ emitted xs ++ emitted ys
emitted-append [] ys = refl
emitted-append (act.Took ∷ xs) ys = emitted-append xs ys
emitted-append (act.AtEnd ∷ xs) ys = emitted-append xs ys
emitted-append (act.Gave b ∷ xs) ys = ap (λ es. b ∷ es) (emitted-append xs ys)

pub taken-append : (xs ys : List Act) → taken (xs ++ ys) ≡ taken xs + taken ys
taken-append [] ys = omega arith
taken-append (act.Took ∷ xs) ys = omega (arith, taken-append xs ys)
taken-append (act.AtEnd ∷ xs) ys = taken-append xs ys
taken-append (act.Gave b ∷ xs) ys = taken-append xs ys

flushed-twice : (f : Bool) (xs ys : List ℕ) → flushed_still (flushed_still f xs) ys ≡ flushed_still f (xs ++ ys)
flushed-twice f [] ys = refl
flushed-twice f (x ∷ xs) [] = refl
flushed-twice f (x ∷ xs) (y ∷ ys) = refl

told-twice : (t : Option (List ℕ)) (xs ys : List ℕ) → option_map (λ got. got ++ ys) (option_map (λ got. got ++ xs) t) ≡ option_map (λ got. got ++ (xs ++ ys)) t
told-twice None xs ys = refl
told-twice (Some got) xs ys = ap (λ x. Some x) (append_assoc got xs ys)

pub grown-twice : (o : SinkSeen) (xs ys : List ℕ) → grown (grown o xs) ys ≡ grown o (xs ++ ys)
grown-twice o xs ys =
    ap (λ t. record o { told = t; flushed = flushed_still (flushed_still o.flushed xs) ys }) (told-twice o.told xs ys)
    ∙ ap (λ f. record o { told = option_map (λ got. got ++ (xs ++ ys)) o.told; flushed = f }) (flushed-twice o.flushed xs ys)

told-nil : (t : Option (List ℕ)) → t ≡ option_map (λ got. got ++ []) t
told-nil None = refl
told-nil (Some got) = ap (λ x. Some x) (sym (append-nil got))

pub grown-nil : (o : SinkSeen) → o ≡ grown o []
grown-nil o = ap (λ t. record o { told = t }) (told-nil o.told)

lacking_told-twice : (t : Option (List ℕ)) (j k : ℕ) → option_map (λ rest. drop k rest) (option_map (λ rest. drop j rest) t) ≡ option_map (λ rest. drop (j + k) rest) t
lacking_told-twice None j k = refl
lacking_told-twice (Some rest) j k = ap (λ x. Some x) (drop-drop k j rest)

pub lacking-twice : (i : SourceSeen) (j k : ℕ) → lacking (lacking i j) k ≡ lacking i (j + k)
lacking-twice i j k = ap (λ t. record i { told = t }) (lacking_told-twice i.told j k)

told-none : (t : Option (List ℕ)) → t ≡ option_map (λ rest. drop 0 rest) t
told-none None = refl
told-none (Some rest) = refl

pub lacking-none : (i : SourceSeen) → i ≡ lacking i 0
lacking-none i = ap (λ t. record i { told = t }) (told-none i.told)

-- of a byte that was taken
took_told : (b : ℕ) (t t' : Option (List ℕ)) → t ≡ option_map (λ rest. b ∷ rest) t' → t' ≡ option_map (λ rest. drop 1 rest) t
took_told b t None e = ap (option_map (λ rest. drop 1 rest)) (sym e)
took_told b t (Some rest) e = ap (option_map (λ rest. drop 1 rest)) (sym e)

pub took_one : (b : ℕ) (i i' : SourceSeen) → i ≡ record i' { told = option_map (λ rest. b ∷ rest) i'.told } → i' ≡ lacking i 1
took_one b i i' e =
    ap (λ (x : SourceSeen). record x { told = i'.told }) (sym e)
    ∙ ap (λ t. record i { told = t }) (took_told b i.told i'.told (ap (λ (x : SourceSeen). x.told) e))

took_first : (b : ℕ) (input : List ℕ) (t' : Option (List ℕ)) → Some input ≡ option_map (λ rest. b ∷ rest) t' → input ≡ b ∷ drop 1 input
took_first b input None e = cc
took_first b input (Some more) e = let is : input ≡ b ∷ more = cc in is ∙ ap (λ xs. b ∷ drop 1 xs) (sym is)

-- it is the first of the input
pub first_byte : (b : ℕ) (i i' : SourceSeen) (input : List ℕ) → i ≡ record i' { told = option_map (λ rest. b ∷ rest) i'.told } → i.told ≡ Some input → input ≡ b ∷ drop 1 input
first_byte b i i' input e told = took_first b input i'.told (sym told ∙ ap (λ (x : SourceSeen). x.told) e)
