use Rattle.std.proofs.Common.{◌≡◌, ◌∙◌, ap, List, ℕ, ◌++◌, []}
use Rattle.elf_file.proofs.ReadFacts.{frame_of, frame_back, header_long, ending_long}
use Rattle.elf_file.proofs.read.frame_stands.Goals as goal

-- what was appended to nothing
made : (empty new bytes slice : List ℕ) → empty ≡ [] → new ≡ empty ++ bytes → slice ≡ new → slice ≡ bytes
made empty new bytes slice n e s = s ∙ e ∙ ap (λ (xs : List ℕ). xs ++ bytes) n

pub pieces_stand-requires-clause-header : goal.pieces_stand-requires-clause-header
pieces_stand-requires-clause-header c = header_long c.as_slice.result.now c.args.at.headers (made _ _ _ _ c.new-header.ensures.items c.in_ok-put_header.ensures c.as_slice.ensures.value)

pub pieces_stand-requires-clause-ending : goal.pieces_stand-requires-clause-ending
pieces_stand-requires-clause-ending c =
    ending_long c.args.file.now c.as_slice-2.result.now c.args.sizes c.args.at c.requires (made _ _ _ _ c.new-ending.ensures.items c.in_ok-put_ending.ensures c.as_slice-2.ensures.value)

pub returns : goal.returns
returns c =
    let h = made _ _ _ _ c.new-header.ensures.items c.in_ok-put_header.ensures c.as_slice.ensures.value in
    let e = made _ _ _ _ c.new-ending.ensures.items c.in_ok-put_ending.ensures c.as_slice-2.ensures.value in (
      λ yes. frame_of c.args.file.now c.as_slice.result.now c.as_slice-2.result.now c.args.sizes c.args.at c.requires.places h e (c.pieces_stand.ensures.0 yes),
      λ f. c.pieces_stand.ensures.1 (frame_back c.args.file.now c.as_slice.result.now c.as_slice-2.result.now c.args.sizes c.args.at c.requires.places h e f),
    )
