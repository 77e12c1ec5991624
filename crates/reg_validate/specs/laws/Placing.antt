-- Fixed homes keep apart what is live together.
use Rattle.std.proofs.Common.{refl, sym, ◌∙◌, arith}
use Rattle.flow_walks.specs.Liveness.{Separates}
use Rattle.rtl_lang.specs.declared.syntax.RtlParts.{RtlParts}
use Rattle.rtl_lang.specs.Ranges as rtl
use Rattle.rtl_lang.specs.Routines.{routine}
use Rattle.ltl_lang.specs.Ranges as ltl
use Rattle.reg_homes.specs.Homes.{Placed, home_of}
use Rattle.reg_homes.specs.laws.Ranging.{placed_in_range}
use Rattle.reg_homes.specs.laws.Living.{together_below}
use Rattle.reg_validate.specs.Fixed.{fixed_homes, fixed_function}
use Rattle.reg_validate.specs.laws.Fixed.{fixed_apart, fixed_home_of, fixed_length, fixed_in_range}

fixed_keeps : (f : RtlParts) → rtl.InRange f → Separates (routine f) (home_of (fixed_homes f.temporaries))
fixed_keeps f range a b ne together same =
    let below = together_below f range a b together in
    fixed_apart a b ne (sym (fixed_home_of f.temporaries a below.0) ∙ same ∙ fixed_home_of f.temporaries b below.1)

pub fixed_placed : (f : RtlParts) → rtl.InRange f → Placed f (fixed_function f)
fixed_placed f range = record {
  symbol = refl;
  is_static = refl;
  parameters = refl;
  homes = fixed_length f.temporaries;
  enough = range.parameters;
  slots = omega arith;
  locals = refl;
  need = refl;
  entry = refl;
  graph = refl;
  apart = fixed_keeps f range;
}

pub fixed_ranges : (f : RtlParts) → rtl.InRange f → ltl.InRange (fixed_function f)
fixed_ranges f range = placed_in_range f (fixed_function f) range (fixed_placed f range) (fixed_in_range f.temporaries)
