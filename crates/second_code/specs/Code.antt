-- The code of functions of the second form where it stands in an image: each call goes to the address of what it calls.
use Rattle.std.specs.Prelude.{ℕ, ◌+◌, List, [], ◌∷◌, ◌++◌}
use Rattle.cc_base.specs.Words.{word_bytes, sub32}
use Rattle.second_form.specs.declared.second_items.SmallStmt.{SmallStmt}
use Rattle.second_form.specs.declared.second_items.SmallStmt.TheVariants.{Put, Call, Return}

-- where the functions are: of this name in this unit, and the runtime's `putbyte`
pub record Places : Type 0 where
  pub function : ℕ → List ℕ → ℕ
  pub putbyte : ℕ

-- how many bytes the code of a statement has
abbrev pub statement_size : SmallStmt → ℕ
statement_size (Put n) = 12
statement_size (Call name) = 5
statement_size (Return n) = 6

-- call the address, where the call's end has this one
abbrev pub call_code : ℕ → ℕ → List ℕ
call_code address end = 0xe8 ∷ word_bytes (sub32 address end)

-- mov eax, n; push eax; call putbyte; pop eax
-- call the function
-- mov eax, n; ret
abbrev pub statement_code : Places → (List ℕ → ℕ) → ℕ → SmallStmt → List ℕ
statement_code places at e (Put n) = (0xb8 ∷ word_bytes n) ++ ((0x50 ∷ []) ++ (call_code places.putbyte (e + 11) ++ (0x58 ∷ [])))
statement_code places at e (Call name) = call_code (at name) (e + 5)
statement_code places at e (Return n) = (0xb8 ∷ word_bytes n) ++ (0xc3 ∷ [])

-- the code of statements from an address on
abbrev pub body_code : Places → (List ℕ → ℕ) → ℕ → List SmallStmt → List ℕ
body_code places at e [] = []
body_code places at e (statement ∷ body) = statement_code places at e statement ++ body_code places at (e + statement_size statement) body

-- call main; mov ebx, eax; mov eax, 1; int 0x80
abbrev pub start_code : ℕ → ℕ → List ℕ
start_code main end = call_code main end ++ (0x89 ∷ 0xc3 ∷ 0xb8 ∷ 1 ∷ 0 ∷ 0 ∷ 0 ∷ 0xcd ∷ 0x80 ∷ [])

-- push ebx; mov ebx, 1; lea ecx, [esp+8]; mov edx, 1; mov eax, 4; int 0x80; pop ebx; ret
abbrev pub putbyte_code : List ℕ
putbyte_code = 0x53 ∷ 0xbb ∷ 1 ∷ 0 ∷ 0 ∷ 0 ∷ 0x8d ∷ 0x4c ∷ 0x24 ∷ 8 ∷ 0xba ∷ 1 ∷ 0 ∷ 0 ∷ 0 ∷ 0xb8 ∷ 4 ∷ 0 ∷ 0 ∷ 0 ∷ 0xcd ∷ 0x80 ∷ 0x5b ∷ 0xc3 ∷ []
