-- What reading, loading and running the bytes of an image comes to, case by case.
use Rattle.std.proofs.Common.{◌≡◌, ℕ, List, Some, None}
use Rattle.elf_file.specs.Image.{IsImageOf}
use Rattle.elf_file.specs.declared.image.ImageParts.{ImageParts}
use Rattle.elf_loader.specs.Load.{load_fault}
use Rattle.elf_loader.specs.declared.fault.LoadFault.TheVariants as load
use Rattle.commands.specs.declared.answer.Answer.{Answer}
use Rattle.commands.specs.declared.answer.Answer.TheVariants as answer
use Rattle.commands.specs.Doing.{Outside}
use Rattle.commands.specs.Steps.{Runs, RunsBy, no_image, out_of_place, no_entry, no_memory, was_run}

-- what holds in each case holds
pub runs_by : (steps : ℕ) (name bytes : List ℕ) (old : Outside) (P : Answer → Outside → Type 0)
    → (((image : ImageParts) → ¬ IsImageOf image bytes) → P (answer.ImageForm name) old)
    → ((image : ImageParts) (index : ℕ) → IsImageOf image bytes → load_fault image ≡ Some (load.Segment index) → P (answer.ImageSegment name index) old)
    → ((image : ImageParts) → IsImageOf image bytes → load_fault image ≡ Some load.Entry → P (answer.ImageEntry name) old)
    → P answer.Memory old
    → ((image : ImageParts) → IsImageOf image bytes → load_fault image ≡ None → (told : Answer) (new : Outside) → RunsBy image steps old told new → P told new)
    → (told : Answer) (new : Outside) → Runs steps name bytes old told new → P told new
runs_by steps name bytes old P none place entry memory run told new (no_image h) = none h
runs_by steps name bytes old P none place entry memory run told new (out_of_place image index is h) = place image index is h
runs_by steps name bytes old P none place entry memory run told new (no_entry image is h) = entry image is h
runs_by steps name bytes old P none place entry memory run told new no_memory = memory
runs_by steps name bytes old P none place entry memory run told new (was_run image is loads _ _ h) = run image is loads told new h
