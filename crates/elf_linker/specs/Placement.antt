-- Where the sections of objects stand in memory. These objects have text alone.
use Rattle.std.specs.Prelude.{ℕ, zero, suc, ◌+◌, ◌*◌, ◌/◌, List, [], ◌∷◌, ◌==◌, if◌then◌else◌}
use Rattle.elf_file.specs.Image.{first_address}
use Rattle.elf_file.specs.Object.{Object, Section, section_of}

-- the first address from this one on that is a multiple of the alignment. An alignment of 0 counts as 1
abbrev pub aligned : ℕ → ℕ → ℕ
aligned zero at = at
aligned (suc n) at = (at + n) / suc n * suc n

-- an object's text, which is its section 1
abbrev pub text_of : Object → Section
text_of object = section_of object 1

-- where an object's text begins and ends, if the text before it ends at this address
abbrev pub begin_from : ℕ → Object → ℕ
begin_from at object = aligned (text_of object).align at

abbrev pub end_from : ℕ → Object → ℕ
end_from at object = begin_from at object + (text_of object).size

-- The texts stand in the order of the objects. Where that of the object with this number begins
abbrev pub text_from : ℕ → List Object → ℕ → ℕ
text_from at [] number = at
text_from at (object ∷ objects) zero = begin_from at object
text_from at (object ∷ objects) (suc number) = text_from (end_from at object) objects number

abbrev pub texts_end_from : ℕ → List Object → ℕ
texts_end_from at [] = at
texts_end_from at (object ∷ objects) = texts_end_from (end_from at object) objects

abbrev pub text_address : List Object → ℕ → ℕ
text_address objects number = text_from first_address objects number

abbrev pub texts_end : List Object → ℕ
texts_end objects = texts_end_from first_address objects

-- The sections of the other kinds are empty. They stand behind all text, from the next multiple of 4096 on, and there all sections end
abbrev pub whole_end : List Object → ℕ
whole_end objects = aligned 4096 (texts_end objects)

-- where a section of the object with this number begins
abbrev pub section_address : List Object → ℕ → ℕ → ℕ
section_address objects number section = if section == 1 then text_address objects number else whole_end objects
