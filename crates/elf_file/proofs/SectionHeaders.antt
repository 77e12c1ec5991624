-- The section headers of a written object, as they are read.
use Rattle.std.proofs.Common.{◌≡◌, ap, ◌∙◌, ℕ, zero, suc, ◌+◌, ◌*◌, ◌^◌, ◌<◌, ◌≤◌, List, [], ◌∷◌, length, arith}
use Rattle.cc_base.specs.Words.{join-word_bytes}
use Rattle.elf_file.specs.Places.{words_bytes, Stands}
use Rattle.elf_file.specs.Pieces.{joined}
use Rattle.elf_file.specs.Layout.{fixed_at, held_at, zeros_at, fixed_relocs_at, held_relocs_at, symbols_at, strings_at, names_at, headers_at, file_length, section_table}
use Rattle.elf_file.specs.HeaderBytes.{e_shoff}
use Rattle.elf_file.specs.ObjectBytes.{SectionHeader, section_header_at, section_at}
use Rattle.elf_file.specs.declared.layout.Sizes.{Sizes}
use Rattle.elf_file.proofs.Joined.{AllStand}
use Rattle.elf_file.proofs.SizesBack.{word_stands}
use Rattle.elf_file.proofs.StandsFacts.{stands_split, stands_at}

-- what is stood as one stands piece by piece
pub apart : (file : List ℕ) (pieces : List (List ℕ)) (at : ℕ) → Stands file at (joined pieces) → AllStand file at pieces
unfolding joined
apart file [] at s = tt
apart file (piece ∷ pieces) at s = let t = stands_split file piece (joined pieces) at s in (t.0, apart file pieces (at + length piece) t.1)

same_header : (a b : SectionHeader) → a.sh_type ≡ b.sh_type → a.sh_flags ≡ b.sh_flags → a.sh_offset ≡ b.sh_offset → a.sh_size ≡ b.sh_size → a.sh_link ≡ b.sh_link → a.sh_info ≡ b.sh_info → a.sh_addralign ≡ b.sh_addralign
    → a.sh_entsize ≡ b.sh_entsize → a ≡ b
same_header a b e1 e2 e3 e4 e5 e6 e7 e8 =
    let make = λ (t f o s l i g n : ℕ). let h : SectionHeader = record { sh_type = t; sh_flags = f; sh_offset = o; sh_size = s; sh_link = l; sh_info = i; sh_addralign = g; sh_entsize = n } in h in
    ap (λ (x : ℕ). make x a.sh_flags a.sh_offset a.sh_size a.sh_link a.sh_info a.sh_addralign a.sh_entsize) e1
    ∙ ap (λ (x : ℕ). make b.sh_type x a.sh_offset a.sh_size a.sh_link a.sh_info a.sh_addralign a.sh_entsize) e2
    ∙ ap (λ (x : ℕ). make b.sh_type b.sh_flags x a.sh_size a.sh_link a.sh_info a.sh_addralign a.sh_entsize) e3
    ∙ ap (λ (x : ℕ). make b.sh_type b.sh_flags b.sh_offset x a.sh_link a.sh_info a.sh_addralign a.sh_entsize) e4
    ∙ ap (λ (x : ℕ). make b.sh_type b.sh_flags b.sh_offset b.sh_size x a.sh_info a.sh_addralign a.sh_entsize) e5
    ∙ ap (λ (x : ℕ). make b.sh_type b.sh_flags b.sh_offset b.sh_size b.sh_link x a.sh_addralign a.sh_entsize) e6
    ∙ ap (λ (x : ℕ). make b.sh_type b.sh_flags b.sh_offset b.sh_size b.sh_link b.sh_info x a.sh_entsize) e7
    ∙ ap (λ (x : ℕ). make b.sh_type b.sh_flags b.sh_offset b.sh_size b.sh_link b.sh_info b.sh_addralign x) e8

-- the numbers of a header have 32 bits
record Small (h : SectionHeader) : Type 0 where
  type : h.sh_type < 2 ^ 32
  flags : h.sh_flags < 2 ^ 32
  offset : h.sh_offset < 2 ^ 32
  size : h.sh_size < 2 ^ 32
  link : h.sh_link < 2 ^ 32
  info : h.sh_info < 2 ^ 32
  align : h.sh_addralign < 2 ^ 32
  entsize : h.sh_entsize < 2 ^ 32

-- the words of a header whose name stands at this place of the names
abbrev words_of : ℕ → SectionHeader → List ℕ
words_of name h = words_bytes (name ∷ h.sh_type ∷ h.sh_flags ∷ 0 ∷ h.sh_offset ∷ h.sh_size ∷ h.sh_link ∷ h.sh_info ∷ h.sh_addralign ∷ h.sh_entsize ∷ [])

header_read : (file : List ℕ) (at name : ℕ) (h : SectionHeader) → Small h → Stands file at (words_of name h) → section_header_at file at ≡ h
header_read file at name h small s =
    let w = words_of name h in
    same_header (section_header_at file at) h
    (word_stands file w at 4 s (omega arith) ∙ join-word_bytes h.sh_type small.type)
    (word_stands file w at 8 s (omega arith) ∙ join-word_bytes h.sh_flags small.flags)
    (word_stands file w at 16 s (omega arith) ∙ join-word_bytes h.sh_offset small.offset)
    (word_stands file w at 20 s (omega arith) ∙ join-word_bytes h.sh_size small.size)
    (word_stands file w at 24 s (omega arith) ∙ join-word_bytes h.sh_link small.link)
    (word_stands file w at 28 s (omega arith) ∙ join-word_bytes h.sh_info small.info)
    (word_stands file w at 32 s (omega arith) ∙ join-word_bytes h.sh_addralign small.align)
    (word_stands file w at 36 s (omega arith) ∙ join-word_bytes h.sh_entsize small.entsize)

-- the headers of a written object
abbrev pub null_header : SectionHeader
null_header = record { sh_type = 0; sh_flags = 0; sh_offset = 0; sh_size = 0; sh_link = 0; sh_info = 0; sh_addralign = 0; sh_entsize = 0 }

-- of a section with contents, and of a table of relocations
abbrev pub contents_header : ℕ → ℕ → ℕ → ℕ → ℕ → SectionHeader
contents_header type flags offset size align = record { sh_type = type; sh_flags = flags; sh_offset = offset; sh_size = size; sh_link = 0; sh_info = 0; sh_addralign = align; sh_entsize = 0 }

abbrev pub relocs_header : ℕ → ℕ → ℕ → SectionHeader
relocs_header offset count changes = record { sh_type = 9; sh_flags = 0; sh_offset = offset; sh_size = 8 * count; sh_link = 8; sh_info = changes; sh_addralign = 4; sh_entsize = 8 }

abbrev pub symbols_header : Sizes → SectionHeader
symbols_header s = record { sh_type = 2; sh_flags = 0; sh_offset = symbols_at s; sh_size = 16 * s.symbols; sh_link = 9; sh_info = s.locals; sh_addralign = 4; sh_entsize = 16 }

-- a fact of each of the eleven sections
pub record OfEach (P : ℕ → Type 0) : Type 0 where
  pub null : P 0
  pub text : P 1
  pub fixed : P 2
  pub held : P 3
  pub zeros : P 4
  pub text_relocs : P 5
  pub fixed_relocs : P 6
  pub held_relocs : P 7
  pub symbols : P 8
  pub strings : P 9
  pub names : P 10

pub of_each : (P : ℕ → Type 0) → OfEach P → (k : ℕ) → k < 11 → P k
of_each P each zero h = each.null
of_each P each (suc zero) h = each.text
of_each P each (suc (suc zero)) h = each.fixed
of_each P each (suc (suc (suc zero))) h = each.held
of_each P each (suc (suc (suc (suc zero)))) h = each.zeros
of_each P each (suc (suc (suc (suc (suc zero))))) h = each.text_relocs
of_each P each (suc (suc (suc (suc (suc (suc zero)))))) h = each.fixed_relocs
of_each P each (suc (suc (suc (suc (suc (suc (suc zero))))))) h = each.held_relocs
of_each P each (suc (suc (suc (suc (suc (suc (suc (suc zero)))))))) h = each.symbols
of_each P each (suc (suc (suc (suc (suc (suc (suc (suc (suc zero))))))))) h = each.strings
of_each P each (suc (suc (suc (suc (suc (suc (suc (suc (suc (suc zero)))))))))) h = each.names
of_each P each (suc (suc (suc (suc (suc (suc (suc (suc (suc (suc (suc k))))))))))) h = absurd (omega arith)

abbrev pub headers_of : Sizes → ℕ → SectionHeader
headers_of s zero = null_header
headers_of s (suc zero) = contents_header 1 6 64 s.text 16
headers_of s (suc (suc zero)) = contents_header 1 2 (fixed_at s) s.fixed 4
headers_of s (suc (suc (suc zero))) = contents_header 1 3 (held_at s) s.held 4
headers_of s (suc (suc (suc (suc zero)))) = contents_header 8 3 (zeros_at s) s.zeros 4
headers_of s (suc (suc (suc (suc (suc zero))))) = relocs_header (zeros_at s) s.text_relocs 1
headers_of s (suc (suc (suc (suc (suc (suc zero)))))) = relocs_header (fixed_relocs_at s) s.fixed_relocs 2
headers_of s (suc (suc (suc (suc (suc (suc (suc zero))))))) = relocs_header (held_relocs_at s) s.held_relocs 3
headers_of s (suc (suc (suc (suc (suc (suc (suc (suc zero)))))))) = symbols_header s
headers_of s (suc (suc (suc (suc (suc (suc (suc (suc (suc zero))))))))) = contents_header 3 0 (strings_at s) s.strings 1
headers_of s (suc (suc (suc (suc (suc (suc (suc (suc (suc (suc k)))))))))) = contents_header 3 0 (names_at s) 84 1

-- the numbers of the headers have 32 bits
pub record Bounds (s : Sizes) : Type 0 where
  pub text : s.text < 2 ^ 32
  pub fixed : s.fixed < 2 ^ 32
  pub held : s.held < 2 ^ 32
  pub zeros : s.zeros < 2 ^ 32
  pub fixed_at : fixed_at s < 2 ^ 32
  pub held_at : held_at s < 2 ^ 32
  pub zeros_at : zeros_at s < 2 ^ 32
  pub fixed_relocs_at : fixed_relocs_at s < 2 ^ 32
  pub held_relocs_at : held_relocs_at s < 2 ^ 32
  pub symbols_at : symbols_at s < 2 ^ 32
  pub strings_at : strings_at s < 2 ^ 32
  pub names_at : names_at s < 2 ^ 32
  pub text_relocs : 8 * s.text_relocs < 2 ^ 32
  pub fixed_relocs : 8 * s.fixed_relocs < 2 ^ 32
  pub held_relocs : 8 * s.held_relocs < 2 ^ 32
  pub symbols : 16 * s.symbols < 2 ^ 32
  pub locals : s.locals < 2 ^ 32
  pub strings : s.strings < 2 ^ 32

pub bounds : (s : Sizes) → file_length s < 2 ^ 32 → s.zeros < 2 ^ 32 → s.locals ≤ s.symbols → Bounds s
bounds s small zeros locals = record {
  text = omega arith;
  fixed = omega arith;
  held = omega arith;
  zeros = zeros;
  fixed_at = omega arith;
  held_at = omega arith;
  zeros_at = omega arith;
  fixed_relocs_at = omega arith;
  held_relocs_at = omega arith;
  symbols_at = omega arith;
  strings_at = omega arith;
  names_at = omega arith;
  text_relocs = omega arith;
  fixed_relocs = omega arith;
  held_relocs = omega arith;
  symbols = omega arith;
  locals = omega arith;
  strings = omega arith;
}

contents_small : (type flags offset size align : ℕ) → type < 256 → flags < 256 → offset < 2 ^ 32 → size < 2 ^ 32 → align < 256 → Small (contents_header type flags offset size align)
contents_small type flags offset size align t f o n a = record { type = omega arith; flags = omega arith; offset = o; size = n; link = omega arith; info = omega arith; align = omega arith; entsize = omega arith }

relocs_small : (offset count changes : ℕ) → offset < 2 ^ 32 → 8 * count < 2 ^ 32 → changes < 256 → Small (relocs_header offset count changes)
relocs_small offset count changes o n c = record { type = omega arith; flags = omega arith; offset = o; size = n; link = omega arith; info = omega arith; align = omega arith; entsize = omega arith }

symbols_small : (s : Sizes) → symbols_at s < 2 ^ 32 → 16 * s.symbols < 2 ^ 32 → s.locals < 2 ^ 32 → Small (symbols_header s)
symbols_small s o n l = record { type = omega arith; flags = omega arith; offset = o; size = n; link = omega arith; info = l; align = omega arith; entsize = omega arith }

-- numerals of headers
n0 : 0 < 256
n0 = omega arith

n1 : 1 < 256
n1 = omega arith

n2 : 2 < 256
n2 = omega arith

n3 : 3 < 256
n3 = omega arith

n4 : 4 < 256
n4 = omega arith

n6 : 6 < 256
n6 = omega arith

n8 : 8 < 256
n8 = omega arith

n16 : 16 < 256
n16 = omega arith

n64 : 64 < 2 ^ 32
n64 = omega arith

n84 : 84 < 2 ^ 32
n84 = omega arith

w0 : 0 < 2 ^ 32
w0 = omega arith

each_small : (s : Sizes) → Bounds s → OfEach (λ k. Small (headers_of s k))
each_small s b = record {
  null = contents_small 0 0 0 0 0 n0 n0 w0 w0 n0;
  text = contents_small 1 6 64 s.text 16 n1 n6 n64 b.text n16;
  fixed = contents_small 1 2 (fixed_at s) s.fixed 4 n1 n2 b.fixed_at b.fixed n4;
  held = contents_small 1 3 (held_at s) s.held 4 n1 n3 b.held_at b.held n4;
  zeros = contents_small 8 3 (zeros_at s) s.zeros 4 n8 n3 b.zeros_at b.zeros n4;
  text_relocs = relocs_small (zeros_at s) s.text_relocs 1 b.zeros_at b.text_relocs n1;
  fixed_relocs = relocs_small (fixed_relocs_at s) s.fixed_relocs 2 b.fixed_relocs_at b.fixed_relocs n2;
  held_relocs = relocs_small (held_relocs_at s) s.held_relocs 3 b.held_relocs_at b.held_relocs n3;
  symbols = symbols_small s b.symbols_at b.symbols b.locals;
  strings = contents_small 3 0 (strings_at s) s.strings 1 n3 n0 b.strings_at b.strings n1;
  names = contents_small 3 0 (names_at s) 84 1 n3 n0 b.names_at n84 n1;
}

-- the headers one behind the other
abbrev header_pieces : Sizes → List (List ℕ)
header_pieces s =
    words_of 0 (headers_of s 0) ∷ words_of 1 (headers_of s 1) ∷ words_of 7 (headers_of s 2) ∷ words_of 15 (headers_of s 3) ∷ words_of 21 (headers_of s 4) ∷ words_of 26 (headers_of s 5) ∷ words_of 36 (headers_of s 6)
    ∷ words_of 48 (headers_of s 7) ∷ words_of 58 (headers_of s 8) ∷ words_of 66 (headers_of s 9) ∷ words_of 74 (headers_of s 10) ∷ []

table_apart : (file : List ℕ) (s : Sizes) (at : ℕ) → Stands file at (section_table s) → AllStand file at (header_pieces s)
unfolding section_table joined
table_apart file s at t = apart file (header_pieces s) at t

-- what is read at each header's place
abbrev pub Reads : List ℕ → Sizes → ℕ → ℕ → Type 0
Reads file s at k = section_header_at file (at + 40 * k) ≡ headers_of s k

-- so many headers behind a place
abbrev behind : ℕ → ℕ → ℕ
behind at zero = at
behind at (suc k) = behind at k + 40

place : (at k : ℕ) → behind at k ≡ at + 40 * k
place at zero = omega arith
place at (suc k) = let before = place at k in omega arith

each_read : (file : List ℕ) (s : Sizes) (at : ℕ) → OfEach (λ k. Small (headers_of s k)) → AllStand file at (header_pieces s) → OfEach (Reads file s at)
each_read file s at small t =
    let t1 = t.1 in let t2 = t1.1 in let t3 = t2.1 in let t4 = t3.1 in let t5 = t4.1 in let t6 = t5.1 in let t7 = t6.1 in let t8 = t7.1 in let t9 = t8.1 in let t10 = t9.1 in
    record {
      null = header_read file (at + 40 * 0) 0 (headers_of s 0) small.null (stands_at t.0 (at + 40 * 0) (place at 0));
      text = header_read file (at + 40 * 1) 1 (headers_of s 1) small.text (stands_at t1.0 (at + 40 * 1) (place at 1));
      fixed = header_read file (at + 40 * 2) 7 (headers_of s 2) small.fixed (stands_at t2.0 (at + 40 * 2) (place at 2));
      held = header_read file (at + 40 * 3) 15 (headers_of s 3) small.held (stands_at t3.0 (at + 40 * 3) (place at 3));
      zeros = header_read file (at + 40 * 4) 21 (headers_of s 4) small.zeros (stands_at t4.0 (at + 40 * 4) (place at 4));
      text_relocs = header_read file (at + 40 * 5) 26 (headers_of s 5) small.text_relocs (stands_at t5.0 (at + 40 * 5) (place at 5));
      fixed_relocs = header_read file (at + 40 * 6) 36 (headers_of s 6) small.fixed_relocs (stands_at t6.0 (at + 40 * 6) (place at 6));
      held_relocs = header_read file (at + 40 * 7) 48 (headers_of s 7) small.held_relocs (stands_at t7.0 (at + 40 * 7) (place at 7));
      symbols = header_read file (at + 40 * 8) 58 (headers_of s 8) small.symbols (stands_at t8.0 (at + 40 * 8) (place at 8));
      strings = header_read file (at + 40 * 9) 66 (headers_of s 9) small.strings (stands_at t9.0 (at + 40 * 9) (place at 9));
      names = header_read file (at + 40 * 10) 74 (headers_of s 10) small.names (stands_at t10.0 (at + 40 * 10) (place at 10));
    }

-- the sections of a written object
abbrev pub Sections : List ℕ → Sizes → ℕ → Type 0
Sections file s k = section_at file k ≡ headers_of s k

at_place : (file : List ℕ) (s : Sizes) (at k : ℕ) → e_shoff file ≡ at → Reads file s at k → section_header_at file (e_shoff file + 40 * k) ≡ headers_of s k
at_place file s at k e r = ap (λ (p : ℕ). section_header_at file (p + 40 * k)) e ∙ r

each_section : (file : List ℕ) (s : Sizes) (at : ℕ) → e_shoff file ≡ at → OfEach (Reads file s at) → OfEach (Sections file s)
each_section file s at e r = record {
  null = ap (λ (h : SectionHeader). record h { sh_type = 0; sh_flags = 0 }) (at_place file s at 0 e r.null);
  text = at_place file s at 1 e r.text;
  fixed = at_place file s at 2 e r.fixed;
  held = at_place file s at 3 e r.held;
  zeros = at_place file s at 4 e r.zeros;
  text_relocs = at_place file s at 5 e r.text_relocs;
  fixed_relocs = at_place file s at 6 e r.fixed_relocs;
  held_relocs = at_place file s at 7 e r.held_relocs;
  symbols = at_place file s at 8 e r.symbols;
  strings = at_place file s at 9 e r.strings;
  names = at_place file s at 10 e r.names;
}

pub sections_read : (file : List ℕ) (s : Sizes) → Bounds s → e_shoff file ≡ headers_at s → Stands file (headers_at s) (section_table s) → OfEach (Sections file s)
sections_read file s b e t = each_section file s (headers_at s) e (each_read file s (headers_at s) (each_small s b) (table_apart file s (headers_at s) t))
