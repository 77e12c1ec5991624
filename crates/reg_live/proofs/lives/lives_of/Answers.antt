use Rattle.std.proofs.Common.{◌≡◌, length, ◌∙◌, arith}
use Rattle.flow_walks.specs.Flows.{places}
use Rattle.flow_walks.specs.laws.Cover.{has_live_closed}
use Rattle.rtl_lang.specs.Routines.{routine}
use Rattle.reg_live.proofs.Listing.{places_long, clear_sound, listed_exact}
use Rattle.reg_live.proofs.lives.lives_of.Goals as goal

pub settle-requires-clause-fits : goal.settle-requires-clause-fits
settle-requires-clause-fits c =
    let f = c.args.parts.now in
    let all : c.in-Some.places ≡ length (places (routine f)) = omega (arith, c.in-Some.ensures, c.len.ensures, places_long f) in
    record {
      high = c.in_ok-rows.ensures.high ∙ all;
      wide = λ n flow k here read. omega (arith, c.width.ensures.wide n flow here k read, c.in_ok-rows.ensures.wide);
    }

pub returns-clause-exact : goal.returns-clause-exact
returns-clause-exact c =
    let f = c.args.parts.now in
    let all : c.in-Some.places ≡ length (places (routine f)) = omega (arith, c.in-Some.ensures, c.len.ensures, places_long f) in
    listed_exact (routine f) c.settle.new.rows c.in-Some.places c.in_ok-lists.lists all (c.settle.ensures.sound (clear_sound (routine f) c.in_ok-rows.rows c.in_ok-rows.ensures.clear)) c.settle.ensures.settled c.in_ok-lists.ensures

pub returns-clause-closed : goal.returns-clause-closed
returns-clause-closed c =
    let f = c.args.parts.now in
    let all : c.in-Some.places ≡ length (places (routine f)) = omega (arith, c.in-Some.ensures, c.len.ensures, places_long f) in
    let exact = listed_exact (routine f) c.settle.new.rows c.in-Some.places c.in_ok-lists.lists all (c.settle.ensures.sound (clear_sound (routine f) c.in_ok-rows.rows c.in_ok-rows.ensures.clear)) c.settle.ensures.settled c.in_ok-lists.ensures in
    has_live_closed (routine f) c.in_ok-lists.lists exact.has_live
