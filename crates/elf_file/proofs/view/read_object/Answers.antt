use Rattle.std.proofs.Common.{sym, subst, ◌∙◌, arith}
use Rattle.elf_file.specs.Object.{Object}
use Rattle.elf_file.specs.ObjectBytes.{ObjectBytes}
use Rattle.elf_file.proofs.ObjectBytesFacts.{ObjectBytes-text}
use Rattle.std.proofs.lemmas.Bool.{false≢true}
use Rattle.elf_file.specs.Written.{sizes_of}
use Rattle.elf_file.specs.Checks.{parts_in}
use Rattle.elf_file.proofs.SizesBack.{HasSizes-written}
use Rattle.elf_file.proofs.ReadBack.{found, stands_back, object_back}
use Rattle.elf_file.proofs.view.read_object.Goals as goal

pub returns-in_default-clause-form : goal.returns-in_default-clause-form
returns-in_default-clause-form c = λ e parts is. c.in_default.ensures.none (sizes_of parts) (HasSizes-written parts c.args.file.now is)

pub returns-in_default-clause-back : goal.returns-in_default-clause-back
returns-in_default-clause-back c = λ parts is. absurd (c.in_default.ensures.none (sizes_of parts) (HasSizes-written parts c.args.file.now is))

pub returns-then-not-branch-clause-form : goal.returns-then-not-branch-clause-form
returns-then-not-branch-clause-form c = λ e parts is. false≢true (sym c.if-not-branch.true ∙ c.in_ok-all_stands.ensures.1 (stands_back c.args.file.now c.in-Some.sizes parts c.in-Some.ensures.some is))

pub returns-then-not-branch-clause-back : goal.returns-then-not-branch-clause-back
returns-then-not-branch-clause-back c =
    λ parts is. absurd (false≢true (sym c.if-not-branch.true ∙ c.in_ok-all_stands.ensures.1 (stands_back c.args.file.now c.in-Some.sizes parts c.in-Some.ensures.some is)))

pub returns-clause-ok : goal.returns-clause-ok
returns-clause-ok c =
    let f = found c.args.file.now c.in-Some.sizes (λ i. omega (arith, c.type_inv.file i)) c.requires c.in-Some.ensures.some (c.in_ok-all_stands.ensures.0 c.if-not-branch.false) in
    (parts_in c.args.file.now c.in-Some.sizes, f.0, f.1)

pub returns-clause-back : goal.returns-clause-back
returns-clause-back c =
    let f = found c.args.file.now c.in-Some.sizes (λ i. omega (arith, c.type_inv.file i)) c.requires c.in-Some.ensures.some (c.in_ok-all_stands.ensures.0 c.if-not-branch.false) in
    λ parts is. object_back c.args.file.now c.in-Some.sizes parts c.in-Some.ensures.some is f

pub invariant_of-result : goal.invariant_of-result
invariant_of-result c =
    let f = found c.args.file.now c.in-Some.sizes (λ i. omega (arith, c.type_inv.file i)) c.requires c.in-Some.ensures.some (c.in_ok-all_stands.ensures.0 c.if-not-branch.false) in
    record { whole = record { whole = c.in-Some.ensures.some.whole; small = c.requires; places = c.of-at.ensures }; object = record { parts = parts_in c.args.file.now c.in-Some.sizes; well_formed = f.0.well_formed; in_range = f.0.in_range; only_text = f.0.only_text; is = f.1 } }

pub returns-clause-bytes : goal.returns-clause-bytes
returns-clause-bytes c =
    let f = found c.args.file.now c.in-Some.sizes (λ i. omega (arith, c.type_inv.file i)) c.requires c.in-Some.ensures.some (c.in_ok-all_stands.ensures.0 c.if-not-branch.false) in
    let P : Object → Type 0 = λ object. ObjectBytes object c.args.file.now in
    subst P (sym f.1) (ObjectBytes-text (parts_in c.args.file.now c.in-Some.sizes) c.args.file.now f.0)
