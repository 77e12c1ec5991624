-- Names, bytes and blocks as numbers, by which proofs tell them apart.
use Rattle.std.specs.Prelude.{◌≡◌, ℕ, zero, suc, Bool, List}
use Rattle.std.proofs.Common.{refl}
use Rattle.std.specs.Coded.{Coded, code_by, coded×, coded_ℕ, coded_bool, coded_list}
use Rattle.block_mem.specs.Blocks.{Block}
use Rattle.block_mem.specs.declared.quads.Quad.{Quad}
use Rattle.block_mem.specs.declared.value.BlockName.{BlockName}
use Rattle.block_mem.specs.declared.value.BlockName.TheVariants.{Global, Local}
use Rattle.block_mem.specs.declared.value.Byte.{Byte}
use Rattle.block_mem.specs.declared.value.Byte.TheVariants.{Unset, Plain, Part}

abbrev pub name_to : BlockName → ℕ × ℕ × ℕ
name_to (Global u i) = (0, u, i)
name_to (Local u i) = (1, u, i)

abbrev pub name_choose : ℕ → ℕ → ℕ → BlockName
name_choose zero u i = Global u i
name_choose (suc k) u i = Local u i

abbrev pub name_from : ℕ × ℕ × ℕ → BlockName
name_from p = name_choose p.0 p.1 p.2

pub name_back : (a : BlockName) → name_from (name_to a) ≡ a
name_back (Global u i) = refl
name_back (Local u i) = refl

abbrev pub coded_three : Coded (ℕ × ℕ × ℕ)
coded_three = code_by (ℕ × (ℕ × ℕ)) (coded× coded_ℕ (coded× coded_ℕ coded_ℕ)) (λ p. (p.0, (p.1, p.2))) (λ p. (p.0, p.1.0, p.1.1)) (λ _. refl)

abbrev pub coded_name : Coded BlockName
coded_name = code_by (ℕ × ℕ × ℕ) coded_three name_to name_from name_back

abbrev pub byte_to : Byte → (ℕ × ℕ × ℕ) × (ℕ × ℕ × ℕ)
byte_to Unset = ((0, 0, 0), (0, 0, 0))
byte_to (Plain x) = ((1, x, 0), (0, 0, 0))
byte_to (Part b o k) = ((2, o, k), name_to b)

abbrev pub byte_choose : ℕ → ℕ → ℕ → ℕ × ℕ × ℕ → Byte
byte_choose zero o k b = Unset
byte_choose (suc zero) o k b = Plain o
byte_choose (suc (suc n)) o k b = Part (name_from b) o k

abbrev pub byte_from : (ℕ × ℕ × ℕ) × (ℕ × ℕ × ℕ) → Byte
byte_from p = byte_choose p.0.0 p.0.1 p.0.2 p.1

pub byte_back : (a : Byte) → byte_from (byte_to a) ≡ a
byte_back Unset = refl
byte_back (Plain x) = refl
byte_back (Part (Global u i) o k) = refl
byte_back (Part (Local u i) o k) = refl

abbrev pub coded_byte : Coded Byte
coded_byte = code_by ((ℕ × ℕ × ℕ) × (ℕ × ℕ × ℕ)) (coded× coded_three coded_three) byte_to byte_from byte_back

abbrev pub coded_block : Coded Block
coded_block = code_by (List Byte × Bool) (coded× (coded_list coded_byte) coded_bool) (λ b. (b.bytes, b.writable)) (λ p. record { bytes = p.0; writable = p.1 }) (λ _. refl)

abbrev pub coded_quad : Coded Quad
coded_quad = code_by (Byte × Byte × Byte × Byte) (code_by (Byte × (Byte × (Byte × Byte))) (coded× coded_byte (coded× coded_byte (coded× coded_byte coded_byte))) (λ p. (p.0, (p.1, (p.2, p.3)))) (λ p. (p.0, p.1.0, p.1.1.0, p.1.1.1)) (λ _. refl)) (λ q. (q.zero, q.one, q.two, q.three)) (λ p. record { zero = p.0; one = p.1; two = p.2; three = p.3 }) (λ _. refl)
