-- Conditions on the flags (Intel SDM, volume 1, appendix B, table B-1; volume 2, under Jcc).
use Rattle.std.specs.Prelude.{Bool, true, false, not, ◌||◌}
use Rattle.i386_code.specs.declared.instr.Cond.{Cond}
use Rattle.i386_code.specs.declared.instr.Cond.TheVariants.{B, Ae, E, Ne, Be, A, L, Ge, Le, G}
use Rattle.i386_arith.specs.declared.flags.Flags.{Flags}

-- one is set and the other is not
abbrev pub differ : Bool → Bool → Bool
differ true b = not b
differ false b = b

abbrev pub holds : Cond → Flags → Bool
holds B f = f.carry
holds Ae f = not f.carry
holds E f = f.zero
holds Ne f = not f.zero
holds Be f = f.carry || f.zero
holds A f = not (f.carry || f.zero)
holds L f = differ f.sign f.overflow
holds Ge f = not (differ f.sign f.overflow)
holds Le f = f.zero || differ f.sign f.overflow
holds G f = not (f.zero || differ f.sign f.overflow)
