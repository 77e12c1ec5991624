use Rattle.std.proofs.Common.{◌≡◌, ℕ, sym, ◌∙◌, ap, false, get_or, below_more}
use Rattle.std.proofs.lemmas.List.{get_or_default}
use Rattle.i386_machine.specs.declared.memory.Piece.{Piece}
use Rattle.i386_machine.specs.Pieces.{region_of}
use Rattle.i386_machine.specs.Regions.{shape_of, spans}
use Rattle.i386_machine.proofs.memory.find.Goals as goal

pub returns-then-has : goal.returns-then-has
returns-then-has c = record {
  within = c.loop-i-test.true;
  has = λ d. ap (λ (p : Piece). spans (shape_of (region_of p)) c.args.at c.args.size) (get_or_default c.args.pieces.now c.loop-i.i d c.index-pieces-i.result c.loop-i-test.true ∙ sym c.index-pieces-i.is) ∙ sym c.has.ensures ∙ c.if-has.true;
}

pub loop-i-preserved : goal.loop-i-preserved
loop-i-preserved c =
    let P : ℕ → Type 0 = λ k. (d : Piece) → spans (shape_of (region_of (get_or c.args.pieces.now k d))) c.args.at c.args.size ≡ false in
    let here : P c.loop-i.i = λ d. ap (λ (p : Piece). spans (shape_of (region_of p)) c.args.at c.args.size) (get_or_default c.args.pieces.now c.loop-i.i d c.index-pieces-i.result c.loop-i-test.true ∙ sym c.index-pieces-i.is) ∙ sym c.has.ensures ∙ c.if-has.false in
    below_more P c.loop-i.i c.loop-i.invariant here
