-- What is wrong with a use.
use Rattle.std.proofs.Common.{◌≡◌, ℕ, List, Some, None, Bool, true, false, ap, ◌∙◌, refl}
use Rattle.std.specs.Prelude.{cond, not, ◌&&◌}
use Rattle.elf_file.specs.Object.{Object}
use Rattle.elf_file.specs.declared.parts.SymbolPart.{SymbolPart}
use Rattle.elf_linker.specs.Names.{is_use, is_defined}
use Rattle.elf_linker.specs.LinkSteps.{unresolved_at}
use Rattle.elf_linker.specs.declared.fault.LinkFault.{LinkFault}
use Rattle.elf_linker.specs.declared.fault.LinkFault.TheVariants.{Unresolved}

none_of : (u : Bool) (fault : LinkFault) (d : Bool) → d ≡ true → cond (u && not d) (Some fault) None ≡ None
none_of true fault d e = ap (λ (x : Bool). cond (not x) (Some fault) None) e
none_of false fault d e = refl

pub unresolved_none : (objects : List Object) (number place : ℕ) (symbol : SymbolPart) → is_defined objects symbol.name ≡ true → unresolved_at objects number place symbol ≡ None
unresolved_none objects number place symbol e = none_of (is_use symbol) (Unresolved number place) (is_defined objects symbol.name) e

pub unresolved_some : (objects : List Object) (number place : ℕ) (symbol : SymbolPart) → is_use symbol ≡ true → is_defined objects symbol.name ≡ false → unresolved_at objects number place symbol ≡ Some (Unresolved number place)
unresolved_some objects number place symbol u e =
    ap (λ (b : Bool). cond (b && not (is_defined objects symbol.name)) (Some (Unresolved number place)) None) u ∙ ap (λ (b : Bool). cond (not b) (Some (Unresolved number place)) None) e
