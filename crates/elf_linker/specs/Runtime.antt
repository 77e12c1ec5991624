-- The runtime object, which is linked behind all others: the start of a program, and the functions `getbyte` and `putbyte`.
use Rattle.std.specs.Prelude.{ℕ, List, [], ◌∷◌, ◌++◌, codes, false}
use Rattle.elf_file.specs.Object.{Object, object_of}
use Rattle.elf_file.specs.declared.parts.ObjectParts.{ObjectParts}
use Rattle.elf_file.specs.declared.parts.SymbolPart.{SymbolPart}
use Rattle.elf_file.specs.declared.parts.RelocPart.{RelocPart}
use Rattle.elf_file.specs.declared.parts.SymbolKind.TheVariants.{NoType, Func}
use Rattle.elf_file.specs.declared.parts.SymbolPlace.TheVariants.{Undefined, At}
use Rattle.elf_file.specs.declared.parts.RelocKind.TheVariants.{Rel}

-- call main; mov ebx, eax; mov eax, 1; int 0x80
abbrev pub start_text : List ℕ
start_text = 0xe8 ∷ 0xfc ∷ 0xff ∷ 0xff ∷ 0xff ∷ 0x89 ∷ 0xc3 ∷ 0xb8 ∷ 1 ∷ 0 ∷ 0 ∷ 0 ∷ 0xcd ∷ 0x80 ∷ []

-- push ebx; sub esp, 4; mov ebx, 0; mov ecx, esp; mov edx, 1; mov eax, 3; int 0x80; test eax, eax; je end; movzx eax, byte [esp]; jmp done;
-- end: mov eax, -1; done: add esp, 4; pop ebx; ret
abbrev pub getbyte_text : List ℕ
getbyte_text =
    0x53 ∷ 0x81 ∷ 0xec ∷ 4 ∷ 0 ∷ 0 ∷ 0 ∷ 0xbb ∷ 0 ∷ 0 ∷ 0 ∷ 0 ∷ 0x89 ∷ 0xe1 ∷ 0xba ∷ 1 ∷ 0 ∷ 0 ∷ 0 ∷ 0xb8 ∷ 3 ∷ 0 ∷ 0 ∷ 0 ∷ 0xcd ∷ 0x80 ∷ 0x85 ∷ 0xc0
    ∷ 0x0f ∷ 0x84 ∷ 9 ∷ 0 ∷ 0 ∷ 0 ∷ 0x0f ∷ 0xb6 ∷ 4 ∷ 0x24 ∷ 0xe9 ∷ 5 ∷ 0 ∷ 0 ∷ 0 ∷ 0xb8 ∷ 0xff ∷ 0xff ∷ 0xff ∷ 0xff ∷ 0x81 ∷ 0xc4 ∷ 4 ∷ 0 ∷ 0 ∷ 0 ∷ 0x5b ∷ 0xc3 ∷ []

-- push ebx; mov ebx, 1; lea ecx, [esp+8]; mov edx, 1; mov eax, 4; int 0x80; pop ebx; ret
abbrev pub putbyte_text : List ℕ
putbyte_text = 0x53 ∷ 0xbb ∷ 1 ∷ 0 ∷ 0 ∷ 0 ∷ 0x8d ∷ 0x4c ∷ 0x24 ∷ 8 ∷ 0xba ∷ 1 ∷ 0 ∷ 0 ∷ 0 ∷ 0xb8 ∷ 4 ∷ 0 ∷ 0 ∷ 0 ∷ 0xcd ∷ 0x80 ∷ 0x5b ∷ 0xc3 ∷ []

abbrev pub runtime_text : List ℕ
runtime_text = start_text ++ (getbyte_text ++ putbyte_text)

-- a function of the runtime: its name, its place in text, and its size
abbrev pub runtime_function : List ℕ → ℕ → ℕ → SymbolPart
runtime_function name value size = record { name = name; local = false; kind = Func; place = At 1; value = value; size = size }

abbrev pub main_symbol : SymbolPart
main_symbol = record { name = codes "main"; local = false; kind = NoType; place = Undefined; value = 0; size = 0 }

abbrev pub runtime_symbols : List SymbolPart
runtime_symbols = runtime_function (codes "_start") 0 14 ∷ main_symbol ∷ runtime_function (codes "getbyte") 14 56 ∷ runtime_function (codes "putbyte") 70 24 ∷ []

-- the call of `main`
abbrev pub runtime_relocs : List RelocPart
runtime_relocs = record { section = 1; offset = 1; symbol = 2; kind = Rel } ∷ []

-- text alone, with four symbols that others see
abbrev pub runtime : ObjectParts
runtime = record { text = runtime_text; fixed = []; held = []; zeros = 0; symbols = runtime_symbols; relocs = runtime_relocs }

-- the objects of an image: those that are given, and the runtime as the last one
abbrev pub with_runtime : List Object → List Object
with_runtime objects = objects ++ object_of runtime ∷ []
