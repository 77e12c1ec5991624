use Rattle.std.proofs.Common.{ℕ, List, ◌++◌, ◌||◌, ◌∙◌, subst}
use Rattle.std.specs.Option.{option_to_list}
use Rattle.rtl_lang.specs.Routines.{flow_of}
use Rattle.reg_live.specs.Sweeps.{Adds, InRow}
use Rattle.reg_live.proofs.Adding.{in_row_then}
use Rattle.reg_live.proofs.Asking.{bits_left, bits_middle, bits_right, bits_still}
use Rattle.reg_live.proofs.sweeps.insert_reads.Goals as goal

pub insert_if-left-requires-clause-bits : goal.insert_if-left-requires-clause-bits
insert_if-left-requires-clause-bits c =
    let r = c.read_by-reads.result in
    bits_left c.args.rows.now (option_to_list r.left) (option_to_list r.right) r.arguments.now (flow_of c.args.node.now).reads c.read_by-reads.ensures c.requires.bits

pub insert_if-right-requires-clause-bits : goal.insert_if-right-requires-clause-bits
insert_if-right-requires-clause-bits c =
    let r = c.read_by-reads.result in
    bits_still c.args.rows.now c.insert_if-left.new.rows (option_to_list r.right) c.insert_if-left.ensures.wide (bits_middle c.args.rows.now (option_to_list r.left) (option_to_list r.right) r.arguments.now (flow_of c.args.node.now).reads c.read_by-reads.ensures c.requires.bits)

pub insert_all-arguments-requires-clause-bits : goal.insert_all-arguments-requires-clause-bits
insert_all-arguments-requires-clause-bits c =
    let r = c.read_by-reads.result in
    bits_still c.args.rows.now c.insert_if-right.new.rows r.arguments.now (c.insert_if-right.ensures.wide ∙ c.insert_if-left.ensures.wide) (bits_right c.args.rows.now (option_to_list r.left) (option_to_list r.right) r.arguments.now (flow_of c.args.node.now).reads c.read_by-reads.ensures c.requires.bits)

pub returns : goal.returns
returns c =
    let r = c.read_by-reads.result in
    let P : List ℕ → Type 0 = λ list. Adds (InRow c.args.place list) c.args.rows.now c.insert_all-arguments.new.rows ((c.insert_if-left.result || c.insert_if-right.result) || c.insert_all-arguments.result) in
    let two = in_row_then c.args.place (option_to_list r.left) (option_to_list r.right) c.args.rows.now c.insert_if-left.new.rows c.insert_if-right.new.rows c.insert_if-left.result c.insert_if-right.result c.insert_if-left.ensures c.insert_if-right.ensures in
    subst P c.read_by-reads.ensures (in_row_then c.args.place (option_to_list r.left ++ option_to_list r.right) r.arguments.now c.args.rows.now c.insert_if-right.new.rows c.insert_all-arguments.new.rows (c.insert_if-left.result || c.insert_if-right.result) c.insert_all-arguments.result two c.insert_all-arguments.ensures)
