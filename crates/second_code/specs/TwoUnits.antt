-- A worked example: two units, and the image that is linked from their objects.
use Rattle.std.specs.Prelude.{ℕ, List, [], ◌∷◌, ◌++◌, Some, None, false, codes}
use Rattle.second_form.specs.declared.second_items.SmallStmt.TheVariants.{Put, Call, Return}
use Rattle.second_form.specs.declared.second_items.Item.{Item}
use Rattle.elf_file.specs.declared.image.ImageParts.{ImageParts}
use Rattle.elf_linker.specs.Runtime.{getbyte_text, putbyte_text}

-- int f(void); int main(void) { f(); putbyte(66); return 3; }
abbrev pub main_unit : List Item
main_unit =
    record { local = false; name = codes "f"; body = None } ∷ record { local = false; name = codes "main"; body = Some (Call (codes "f") ∷ Put 66 ∷ Return 3 ∷ []) } ∷ []

-- int f(void) { putbyte(65); return 0; }
abbrev pub other_unit : List Item
other_unit = record { local = false; name = codes "f"; body = Some (Put 65 ∷ Return 0 ∷ []) } ∷ []

abbrev pub two_units : List (List Item)
two_units = main_unit ∷ other_unit ∷ []

-- 0x08049000 main: call 0x08049020; mov eax, 66; push eax; call 0x08049086; pop eax; mov eax, 3; ret; and 9 zeros
abbrev pub main_code : List ℕ
main_code =
    0xe8 ∷ 0x1b ∷ 0 ∷ 0 ∷ 0 ∷ 0xb8 ∷ 66 ∷ 0 ∷ 0 ∷ 0 ∷ 0x50 ∷ 0xe8 ∷ 0x76 ∷ 0 ∷ 0 ∷ 0 ∷ 0x58 ∷ 0xb8 ∷ 3 ∷ 0 ∷ 0 ∷ 0 ∷ 0xc3
    ∷ 0 ∷ 0 ∷ 0 ∷ 0 ∷ 0 ∷ 0 ∷ 0 ∷ 0 ∷ 0 ∷ []

-- 0x08049020 f: mov eax, 65; push eax; call 0x08049086; pop eax; mov eax, 0; ret; and 14 zeros
abbrev pub other_code : List ℕ
other_code =
    0xb8 ∷ 65 ∷ 0 ∷ 0 ∷ 0 ∷ 0x50 ∷ 0xe8 ∷ 0x5b ∷ 0 ∷ 0 ∷ 0 ∷ 0x58 ∷ 0xb8 ∷ 0 ∷ 0 ∷ 0 ∷ 0 ∷ 0xc3
    ∷ 0 ∷ 0 ∷ 0 ∷ 0 ∷ 0 ∷ 0 ∷ 0 ∷ 0 ∷ 0 ∷ 0 ∷ 0 ∷ 0 ∷ 0 ∷ 0 ∷ []

-- 0x08049040 _start: call 0x08049000; mov ebx, eax; mov eax, 1; int 0x80; and then getbyte at 0x0804904e and putbyte at 0x08049086
abbrev pub runtime_code : List ℕ
runtime_code = 0xe8 ∷ 0xbb ∷ 0xff ∷ 0xff ∷ 0xff ∷ 0x89 ∷ 0xc3 ∷ 0xb8 ∷ 1 ∷ 0 ∷ 0 ∷ 0 ∷ 0xcd ∷ 0x80 ∷ (getbyte_text ++ putbyte_text)

abbrev pub two_units_code : List ℕ
two_units_code = main_code ++ (other_code ++ runtime_code)

abbrev pub two_units_image : ImageParts
two_units_image = record { entry = 0x08049040; segments = record { start = 0x08049000; flags = 5; size = 158; bytes = two_units_code } ∷ [] }
