use Rattle.std.proofs.Common.{◌≡◌, ℕ, Option, Ok, Err, inl, refl, subst, ap, ◌∙◌, arith}
use Rattle.cc_base.specs.Outside.{Gives, Nexts}
use Rattle.cc_base.specs.declared.outside.GiveFault.{GiveFault}
use Rattle.block_mem.specs.declared.value.Value.TheVariants.{Int}
use Rattle.clight_sem.specs.Turns.{turn, given}
use Rattle.mean_run.specs.declared.process.Pending.{Pending}
use Rattle.mean_run.specs.Processes.{linked_of, world_of, outcome_of, TurnsTo}
use Rattle.mean_run.proofs.Given.{is_given, not_given}
use Rattle.mean_run.proofs.Going.{goes, is_over, gives, found_end, takes, takes_wrong}
use Rattle.mean_run.proofs.running.step.Goals as goal

pub returns-in-Nothing-clause-turn : goal.returns-in-Nothing-clause-turn
returns-in-Nothing-clause-turn g c =
    let p = linked_of c.args.program.now in
    let w = world_of c.args.process.now in
    let new = world_of c.turn.new.self in
    let t = subst (λ (x : Pending). TurnsTo (turn p w) x new) c.in-Nothing.is c.in-Ok.ensures.turn in
    goes p w new (g.S.Source.seen c.args.input.now) (g.O.Sink.seen c.args.output.now) t

pub returns-in-End-clause-turn : goal.returns-in-End-clause-turn
returns-in-End-clause-turn g c =
    let p = linked_of c.args.program.now in
    let w = world_of c.args.process.now in
    let new = world_of c.turn.new.self in
    let t = subst (λ (x : Pending). TurnsTo (turn p w) x new) c.in-End.is c.in-Ok.ensures.turn in
    is_over p w (outcome_of c.in-End.how) (g.S.Source.seen c.args.input.now) (g.O.Sink.seen c.args.output.now) t

pub returns-in-Ok-give-clause-turn : goal.returns-in-Ok-give-clause-turn
returns-in-Ok-give-clause-turn g c =
    let p = linked_of c.args.program.now in
    let w = world_of c.args.process.now in
    let new = world_of c.turn.new.self in
    let t = subst (λ (x : Pending). TurnsTo (turn p w) x new) c.in-Give.is c.in-Ok.ensures.turn in
    gives p w new c.in-Give.byte (g.S.Source.seen c.args.input.now) (g.O.Sink.seen c.args.output.now) (g.O.Sink.seen c.give.new.self) t c.in-Ok-give.ensures

pub returns-in-Err-Failed-clause-turn : goal.returns-in-Err-Failed-clause-turn
returns-in-Err-Failed-clause-turn g c =
    let p = linked_of c.args.program.now in
    let w = world_of c.args.process.now in
    let new = world_of c.turn.new.self in
    let t = subst (λ (x : Pending). TurnsTo (turn p w) x new) c.in-Give.is c.in-Ok.ensures.turn in
    let failed = subst (λ (f : GiveFault). Gives (g.O.Sink.seen c.args.output.now) c.in-Give.byte (Err f) (g.O.Sink.seen c.give.new.self)) c.in-Err-Failed.field-0-is c.in-Err-Failed.ensures in
    ((c.in-Give.byte, new, t), failed, refl)

pub returns-in-Err-Memory-clause-turn : goal.returns-in-Err-Memory-clause-turn
returns-in-Err-Memory-clause-turn g c =
    let p = linked_of c.args.program.now in
    let w = world_of c.args.process.now in
    let new = world_of c.turn.new.self in
    let t = subst (λ (x : Pending). TurnsTo (turn p w) x new) c.in-Give.is c.in-Ok.ensures.turn in
    let wanted = subst (λ (f : GiveFault). Gives (g.O.Sink.seen c.args.output.now) c.in-Give.byte (Err f) (g.O.Sink.seen c.give.new.self)) c.in-Err-Memory.field-0-is c.in-Err-Memory.ensures in
    inl ((c.in-Give.byte, new, t), wanted, refl)

pub returns-in-Err-clause-turn : goal.returns-in-Err-clause-turn
returns-in-Err-clause-turn g c =
    let p = linked_of c.args.program.now in
    let w = world_of c.args.process.now in
    let new = world_of c.turn.new.self in
    let t = subst (λ (x : Pending). TurnsTo (turn p w) x new) c.in-Byte.is c.in-Ok.ensures.turn in
    ((c.in-Byte.destination, t.old, t.asks), c.in-Err.ensures, refl)

pub returns-in-Ok-None-clause-turn : goal.returns-in-Ok-None-clause-turn
returns-in-Ok-None-clause-turn g c =
    let p = linked_of c.args.program.now in
    let w = world_of c.args.process.now in
    let new = world_of c.turn.new.self in
    let i = g.S.Source.seen c.args.input.now in
    let i' = g.S.Source.seen c.next.new.self in
    let t = subst (λ (x : Pending). TurnsTo (turn p w) x new) c.in-Byte.is c.in-Ok.ensures.turn in
    let next = subst (λ (x : Option ℕ). Nexts i (Ok x) i') c.in-Ok-None.field-0-is c.in-Ok-None.ensures in
    found_end p w new c.in-Byte.destination i i' (g.O.Sink.seen c.args.output.now) t next

pub returns-then-give-clause-turn : goal.returns-then-give-clause-turn
returns-then-give-clause-turn g c =
    let p = linked_of c.args.program.now in
    let w = world_of c.args.process.now in
    let new = world_of c.turn.new.self in
    let w' = world_of c.give-in-Ok-Some.new.self in
    let i = g.S.Source.seen c.args.input.now in
    let i' = g.S.Source.seen c.next.new.self in
    let d = c.in-Byte.destination in
    let b = c.in-Ok-Some.byte in
    let t = subst (λ (x : Pending). TurnsTo (turn p w) x new) c.in-Byte.is c.in-Ok.ensures.turn in
    let next = subst (λ (x : Option ℕ). Nexts i (Ok x) i') c.in-Ok-Some.field-0-is c.in-Ok-Some.ensures in
    let same : b ≡ c.from.result = omega arith in
    takes p w new w' d b i i' (g.O.Sink.seen c.args.output.now) t next
    (ap (λ n. given d (Int n) new) same ∙ is_given c.give-in-Ok-Some.result w' (given d (Int c.from.result) new) c.if-give.true c.give-in-Ok-Some.ensures.given)

pub returns-else-give-clause-turn : goal.returns-else-give-clause-turn
returns-else-give-clause-turn g c =
    let p = linked_of c.args.program.now in
    let w = world_of c.args.process.now in
    let new = world_of c.turn.new.self in
    let w' = world_of c.give-in-Ok-Some.new.self in
    let i = g.S.Source.seen c.args.input.now in
    let i' = g.S.Source.seen c.next.new.self in
    let d = c.in-Byte.destination in
    let b = c.in-Ok-Some.byte in
    let t = subst (λ (x : Pending). TurnsTo (turn p w) x new) c.in-Byte.is c.in-Ok.ensures.turn in
    let next = subst (λ (x : Option ℕ). Nexts i (Ok x) i') c.in-Ok-Some.field-0-is c.in-Ok-Some.ensures in
    let same : b ≡ c.from.result = omega arith in
    takes_wrong p w new d b i i' (g.O.Sink.seen c.args.output.now) t next
    (ap (λ n. given d (Int n) new) same ∙ not_given c.give-in-Ok-Some.result w' (given d (Int c.from.result) new) c.if-give.false c.give-in-Ok-Some.ensures.given)
