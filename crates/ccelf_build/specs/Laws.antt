-- Laws of the crates below that the promises rest on.
use Rattle.std.specs.Prelude.{◌≡◌, ℕ, List, All, None, Result}
use Rattle.text_grammar.specs.declared.tree.External.{External}
use Rattle.text_grammar.specs.declared.fault.SyntaxFault.{SyntaxFault}
use Rattle.text_parser.specs.Parsing.{HasAnswer, OneAnswer}
use Rattle.second_form.specs.declared.second_items.Item.{Item}
use Rattle.second_form.specs.SecondFaults.{source_fault}
use Rattle.second_form.specs.SecondRun.{second_after}
use Rattle.elf_file.specs.Read.{IsFileOf}
use Rattle.elf_file.specs.Image.{IsImageOf}
use Rattle.elf_file.specs.declared.parts.ObjectParts.{ObjectParts}
use Rattle.elf_file.specs.declared.image.ImageParts.{ImageParts}
use Rattle.elf_linker.specs.Linked.{Linked}
use Rattle.elf_linker.specs.Names.{link_fault}
use Rattle.elf_loader.specs.Load.{image_after, load_fault}
use Rattle.pass_core.specs.Refines.{Refines}
use Rattle.second_code.specs.FoundFaults.{IsFoundAs}
use Rattle.second_code.specs.LinkedObjects.{IsUnit, linked_objects}

pub record Laws : Type 0 where
  -- a text has one answer of the parser, but for want of memory
  pub one_answer : (text : List ℕ) (one other : Result (List External) SyntaxFault) → HasAnswer text one → HasAnswer text other → OneAnswer one other
  -- a file is the object of one parts, and the image of one parts
  pub one_object : (one other : ObjectParts) (file : List ℕ) → IsFileOf one file → IsFileOf other file → one ≡ other
  pub one_image : (one other : ImageParts) (file : List ℕ) → IsImageOf one file → IsImageOf other file → one ≡ other
  -- linked units do what they mean
  pub refine : (units : List (List Item)) (image : ImageParts) → All IsUnit units → Linked (linked_objects units) image → link_fault (linked_objects units) ≡ None → (input : List ℕ) → Refines (second_after units) (image_after image input)
  -- and their image can be loaded
  pub load : (units : List (List Item)) (image : ImageParts) → All IsUnit units → Linked (linked_objects units) image → link_fault (linked_objects units) ≡ None → load_fault image ≡ None
  -- what the linker finds wrong is what is wrong with the units
  pub faults : (units : List (List Item)) → All IsUnit units → IsFoundAs (linked_objects units) (source_fault units) (link_fault (linked_objects units))
