-- Which command words fit, and that they fit no other.
use Rattle.std.proofs.Common.{◌≡◌, ℕ, List, [], ◌∷◌, map, length, get_or, Option, Some, None, sym, ◌∙◌, ap, subst, arith, true, false, codes}
use Rattle.std.specs.Prelude.{option_map, IfNone}
use Rattle.std.specs.Str.{bytes_eq}
use Rattle.std.proofs.lemmas.Option.{none-some}
use Rattle.std.proofs.lemmas.Slice.Eq.{bytes_eq-Decides}
use Rattle.command_words.specs.Commands.{IsUnit, Request, Compile, Link, Run, Show, Exec, Mean, Fits, FitsNone, FitsCompile, FitsShow}
use Rattle.command_words.specs.declared.words.Order.{Order}
use Rattle.command_words.specs.Orders.{request_of}
use Rattle.command_words.proofs.NameFacts.{two_names}
use Rattle.command_words.proofs.WordFacts.{unit-some}

-- the first word of a command
abbrev pub command_of : Request → List ℕ
command_of (Compile unit object) = codes "compile"
command_of (Link image objects) = codes "link"
command_of (Run steps image) = codes "run"
command_of (Show unit) = codes "show"
command_of (Exec steps image units) = codes "exec"
command_of (Mean steps units) = codes "mean"

first_word : (words : List (List ℕ)) (r : Request) → Fits words r → (rest : List (List ℕ)) × (words ≡ command_of r ∷ rest)
first_word words (Compile unit object) fits = (_, fits.spelled)
first_word words (Link image objects) fits = (_, fits.spelled)
first_word words (Run steps image) fits = (_, fits.spelled)
first_word words (Show unit) fits = (_, fits.spelled)
first_word words (Exec steps image units) fits = (_, fits.spelled)
first_word words (Mean steps units) fits = (_, fits.spelled)

first_of : List (List ℕ) → List ℕ
first_of [] = []
first_of (word ∷ words) = word

pub spelled_as : (words rest : List (List ℕ)) (command : List ℕ) (r : Request) → words ≡ command ∷ rest → Fits words r → command ≡ command_of r
unfolding first_of
spelled_as words rest command r e fits = ap first_of (sym e ∙ (first_word words r fits).1)

-- where no order was read, none fits
pub none_fits : (words : List (List ℕ)) (o : Option Order) → ((r : Request) → Fits words r → option_map request_of o ≡ Some r) → IfNone o (FitsNone words)
none_fits words None only = λ r fits. none-some r (only r fits)
none_fits words (Some order) only = tt

-- the words begin with the command
pub begin_with : {X : Type 0} (f : X → List ℕ) (words rest : List X) (word : X) (text command : List ℕ) → words ≡ word ∷ rest → text ≡ f word → bytes_eq text command ≡ true → map f words ≡ command ∷ map f rest
begin_with {X} f words rest word text command e is same =
    ap (map f) e ∙ ap (λ (w : List ℕ). w ∷ map f rest) (sym is ∙ (bytes_eq-Decides text command).0 same)

-- commands differ in their first bytes
first_bytes : (a b : List ℕ) → a ≡ b → get_or a 0 0 ≡ get_or b 0 0
first_bytes a b e = ap (λ (xs : List ℕ). get_or xs 0 0) e

-- compile
pub compile_fits : (words : List (List ℕ)) (unit object : List ℕ) → words ≡ unit ∷ object ∷ [] → IsUnit unit → (length object ≡ 0 → ⊥) → bytes_eq unit object ≡ false → FitsCompile (codes "compile" ∷ words) unit object
compile_fits words unit object e is some unlike = record {
  spelled = ap (λ (ws : List (List ℕ)). codes "compile" ∷ ws) e;
  is_unit = is;
  names = two_names unit object (unit-some unit is) (λ f. some (ap length f)) (λ f. let clash : true ≡ false = sym ((bytes_eq-Decides unit object).1 f) ∙ unlike in absurd (cc clash));
}

pub same_unfit : (words : List (List ℕ)) (a b unit object : List ℕ) → words ≡ a ∷ b ∷ [] → bytes_eq a b ≡ true → FitsCompile (codes "compile" ∷ words) unit object → ⊥
same_unfit words a b unit object e same fits =
    let spelled : codes "compile" ∷ a ∷ b ∷ [] ≡ codes "compile" ∷ unit ∷ object ∷ [] = sym (ap (λ (ws : List (List ℕ)). codes "compile" ∷ ws) e) ∙ fits.spelled in
    let first : a ≡ unit = ap (λ (ws : List (List ℕ)). get_or ws 1 []) spelled in
    let second : b ≡ object = ap (λ (ws : List (List ℕ)). get_or ws 2 []) spelled in
    fits.names.differ 0 1 [] (omega arith) (omega arith) (sym first ∙ (bytes_eq-Decides a b).0 same ∙ second)

pub compile_only : (words rest : List (List ℕ)) (o : Option Request) → words ≡ codes "compile" ∷ rest → ((unit object : List ℕ) → FitsCompile (codes "compile" ∷ rest) unit object → o ≡ Some (Compile unit object))
    → (r : Request) → Fits words r → o ≡ Some r
compile_only words rest o e only (Compile unit object) fits = only unit object (subst (λ ws. FitsCompile ws unit object) e fits)
compile_only words rest o e only (Link image objects) fits = let k = first_bytes _ _ (spelled_as words rest _ (Link image objects) e fits) in absurd (omega (arith, k))
compile_only words rest o e only (Run steps image) fits = let k = first_bytes _ _ (spelled_as words rest _ (Run steps image) e fits) in absurd (omega (arith, k))
compile_only words rest o e only (Show unit) fits = let k = first_bytes _ _ (spelled_as words rest _ (Show unit) e fits) in absurd (omega (arith, k))
compile_only words rest o e only (Exec steps image units) fits = let k = first_bytes _ _ (spelled_as words rest _ (Exec steps image units) e fits) in absurd (omega (arith, k))
compile_only words rest o e only (Mean steps units) fits = let k = first_bytes _ _ (spelled_as words rest _ (Mean steps units) e fits) in absurd (omega (arith, k))

-- show
pub show_only : (words rest : List (List ℕ)) (o : Option Request) → words ≡ codes "show" ∷ rest → ((unit : List ℕ) → FitsShow (codes "show" ∷ rest) unit → o ≡ Some (Show unit))
    → (r : Request) → Fits words r → o ≡ Some r
show_only words rest o e only (Compile unit object) fits = let k = first_bytes _ _ (spelled_as words rest _ (Compile unit object) e fits) in absurd (omega (arith, k))
show_only words rest o e only (Link image objects) fits = let k = first_bytes _ _ (spelled_as words rest _ (Link image objects) e fits) in absurd (omega (arith, k))
show_only words rest o e only (Run steps image) fits = let k = first_bytes _ _ (spelled_as words rest _ (Run steps image) e fits) in absurd (omega (arith, k))
show_only words rest o e only (Show unit) fits = only unit (subst (λ ws. FitsShow ws unit) e fits)
show_only words rest o e only (Exec steps image units) fits = let k = first_bytes _ _ (spelled_as words rest _ (Exec steps image units) e fits) in absurd (omega (arith, k))
show_only words rest o e only (Mean steps units) fits = let k = first_bytes _ _ (spelled_as words rest _ (Mean steps units) e fits) in absurd (omega (arith, k))
