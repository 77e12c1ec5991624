use Rattle.std.proofs.Common.{◌≤◌, vec_len}
use Rattle.cc_base.proofs.host.read_file.Given as goal

abbrev pub invariant-loop : goal.invariant-loop
invariant-loop g l = vec_len l.bytes ≤ 134217728
