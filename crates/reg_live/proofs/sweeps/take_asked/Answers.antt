use Rattle.std.proofs.Common.{sym, ◌∙◌}
use Rattle.rtl_lang.specs.Routines.{flow_of, routine}
use Rattle.rtl_lang.specs.laws.Routines.{node_flow, flow_node}
use Rattle.reg_live.proofs.Asking.{asked_adds, asked_none, bits_still}
use Rattle.reg_live.proofs.sweeps.take_asked.Goals as goal

pub insert_reads-read-requires-clause-bits : goal.insert_reads-read-requires-clause-bits
insert_reads-read-requires-clause-bits c =
    let flow = flow_of c.in-Some.node.now in
    let here = node_flow c.args.function.now c.args.number c.in-Some.node.now (sym c.in-Some.ensures.value) in
    bits_still c.args.rows.now c.join_unwritten-joined.new.rows flow.reads c.join_unwritten-joined.ensures.wide (λ k read. c.requires.fits.wide c.args.number flow k here read)

pub returns-in-Some : goal.returns-in-Some
returns-in-Some c =
    asked_adds (routine c.args.function.now) c.args.rows.now c.join_unwritten-joined.new.rows c.insert_reads-read.new.rows c.args.place c.args.number (flow_of c.in-Some.node.now) c.join_unwritten-joined.result c.insert_reads-read.result (node_flow c.args.function.now c.args.number c.in-Some.node.now (sym c.in-Some.ensures.value)) c.join_unwritten-joined.ensures c.insert_reads-read.ensures

pub returns-in-None : goal.returns-in-None
returns-in-None c =
    asked_none (routine c.args.function.now) c.args.rows.now c.args.place c.args.number
    (λ flow here. let found = flow_node c.args.function.now c.args.number flow here in let e = c.in-None.ensures.value ∙ found.1 in cc)
