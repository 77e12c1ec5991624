-- The commands: which words ask for them. Names, of units, objects and images, are those of files.
use Rattle.std.specs.Prelude.{◌≡◌, ◌≢◌, ℕ, ◌-◌, ◌≤◌, List, [], ◌∷◌, ◌++◌, length, take, map, codes, decimal, All, AllPairs}

-- the names are not empty, and no two are the same
pub record AreNames (names : List (List ℕ)) : Type 0 where
  pub some : All (λ name. name ≢ []) names
  pub differ : AllPairs (λ a b. a ≢ b) names

-- one to 4,096 of them
pub record AreFew (names : List (List ℕ)) : Type 0 where
  pub some : 1 ≤ length names
  pub at_most : length names ≤ 4096

-- a unit's name: at least a byte, and then .c
pub record IsUnit (name : List ℕ) : Type 0 where
  pub stem : List ℕ
  pub some : stem ≢ []
  pub spelled : name ≡ stem ++ codes ".c"

-- the name of a unit's object, which ends in .o
abbrev pub object_name : List ℕ → List ℕ
object_name unit = take (length unit - 1) unit ++ codes "o"

-- what words can ask for
pub data Request : Type 0 where
  Compile : (unit object : List ℕ) → Request
  Link : (image : List ℕ) (objects : List (List ℕ)) → Request
  Run : (steps : ℕ) (image : List ℕ) → Request
  Show : (unit : List ℕ) → Request
  Exec : (steps : ℕ) (image : List ℕ) (units : List (List ℕ)) → Request
  Mean : (steps : ℕ) (units : List (List ℕ)) → Request

-- compile UNIT OBJECT
pub record FitsCompile (words : List (List ℕ)) (unit object : List ℕ) : Type 0 where
  pub spelled : words ≡ codes "compile" ∷ unit ∷ object ∷ []
  pub is_unit : IsUnit unit
  pub names : AreNames (unit ∷ object ∷ [])

-- link IMAGE OBJECT..
pub record FitsLink (words : List (List ℕ)) (image : List ℕ) (objects : List (List ℕ)) : Type 0 where
  pub spelled : words ≡ codes "link" ∷ image ∷ objects
  pub few : AreFew objects
  pub names : AreNames (image ∷ objects)

-- run STEPS IMAGE: STEPS is decimal without sign or leading zero
pub record FitsRun (words : List (List ℕ)) (steps : ℕ) (image : List ℕ) : Type 0 where
  pub spelled : words ≡ codes "run" ∷ decimal steps ∷ image ∷ []
  pub in_range : steps ≤ 4294967295
  pub names : AreNames (image ∷ [])

-- show UNIT
pub record FitsShow (words : List (List ℕ)) (unit : List ℕ) : Type 0 where
  pub spelled : words ≡ codes "show" ∷ unit ∷ []
  pub is_unit : IsUnit unit

-- exec STEPS IMAGE UNIT..: the units' objects are files of the command too
pub record FitsExec (words : List (List ℕ)) (steps : ℕ) (image : List ℕ) (units : List (List ℕ)) : Type 0 where
  pub spelled : words ≡ codes "exec" ∷ decimal steps ∷ image ∷ units
  pub in_range : steps ≤ 4294967295
  pub few : AreFew units
  pub are_units : All IsUnit units
  pub names : AreNames (image ∷ units ++ map object_name units)

-- mean STEPS UNIT..
pub record FitsMean (words : List (List ℕ)) (steps : ℕ) (units : List (List ℕ)) : Type 0 where
  pub spelled : words ≡ codes "mean" ∷ decimal steps ∷ units
  pub in_range : steps ≤ 4294967295
  pub few : AreFew units
  pub are_units : All IsUnit units
  pub names : AreNames units

-- the words ask for this
abbrev pub Fits : List (List ℕ) → Request → Type 0
Fits words (Compile unit object) = FitsCompile words unit object
Fits words (Link image objects) = FitsLink words image objects
Fits words (Run steps image) = FitsRun words steps image
Fits words (Show unit) = FitsShow words unit
Fits words (Exec steps image units) = FitsExec words steps image units
Fits words (Mean steps units) = FitsMean words steps units

-- words that no command fits
abbrev pub FitsNone : List (List ℕ) → Type 0
FitsNone words = (r : Request) → Fits words r → ⊥
