use Rattle.typing_initialisers.specs.Initialisers.{item_of}
use Rattle.typing_initialisers.proofs.Turns.{refusal}
use Rattle.typing_initialisers.proofs.filling.refuse.Goals as goal

pub returns : goal.returns
returns c =
    let item = item_of c.args.scope.now c.args.item.now in
    refusal item.inner c.args.faults.now c.tell.new.faults c.add.new.self c.place_in.result item.place c.in_ok-tell.ensures (c.place_in.ensures c.args.scope.now) c.add.ensures
