use Rattle.std.proofs.Common.{◌≡◌, sym, ◌∙◌, arith}
use Rattle.text_grammar.specs.Lexical.{used_keywords}
use Rattle.text_parser.specs.Symbols.{keyword_kinds}
use Rattle.text_parser.proofs.SpelledLaws.{by_first, none_so}
use Rattle.text_parser.proofs.words.keyword_kind.Goals as goal

pub returns-in-98 : goal.returns-in-98
unfolding used_keywords keyword_kinds
returns-in-98 c = c.kind_among.ensures ∙ by_first c.args.bytes.now 98 used_keywords keyword_kinds (sym c.first_of.ensures ∙ c.in-98.is)

pub returns-in-99 : goal.returns-in-99
unfolding used_keywords keyword_kinds
returns-in-99 c = c.kind_among-in-99.ensures ∙ by_first c.args.bytes.now 99 used_keywords keyword_kinds (sym c.first_of.ensures ∙ c.in-99.is)

pub returns-in-100 : goal.returns-in-100
unfolding used_keywords keyword_kinds
returns-in-100 c = c.kind_among-in-100.ensures ∙ by_first c.args.bytes.now 100 used_keywords keyword_kinds (sym c.first_of.ensures ∙ c.in-100.is)

pub returns-in-101 : goal.returns-in-101
unfolding used_keywords keyword_kinds
returns-in-101 c = c.kind_among-in-101.ensures ∙ by_first c.args.bytes.now 101 used_keywords keyword_kinds (sym c.first_of.ensures ∙ c.in-101.is)

pub returns-in-102 : goal.returns-in-102
unfolding used_keywords keyword_kinds
returns-in-102 c = c.kind_among-in-102.ensures ∙ by_first c.args.bytes.now 102 used_keywords keyword_kinds (sym c.first_of.ensures ∙ c.in-102.is)

pub returns-in-105 : goal.returns-in-105
unfolding used_keywords keyword_kinds
returns-in-105 c = c.kind_among-in-105.ensures ∙ by_first c.args.bytes.now 105 used_keywords keyword_kinds (sym c.first_of.ensures ∙ c.in-105.is)

pub returns-in-114 : goal.returns-in-114
unfolding used_keywords keyword_kinds
returns-in-114 c = c.kind_among-in-114.ensures ∙ by_first c.args.bytes.now 114 used_keywords keyword_kinds (sym c.first_of.ensures ∙ c.in-114.is)

pub returns-in-115 : goal.returns-in-115
unfolding used_keywords keyword_kinds
returns-in-115 c = c.kind_among-in-115.ensures ∙ by_first c.args.bytes.now 115 used_keywords keyword_kinds (sym c.first_of.ensures ∙ c.in-115.is)

pub returns-in-117 : goal.returns-in-117
unfolding used_keywords keyword_kinds
returns-in-117 c = c.kind_among-in-117.ensures ∙ by_first c.args.bytes.now 117 used_keywords keyword_kinds (sym c.first_of.ensures ∙ c.in-117.is)

pub returns-in-118 : goal.returns-in-118
unfolding used_keywords keyword_kinds
returns-in-118 c = c.kind_among-in-118.ensures ∙ by_first c.args.bytes.now 118 used_keywords keyword_kinds (sym c.first_of.ensures ∙ c.in-118.is)

pub returns-in-119 : goal.returns-in-119
unfolding used_keywords keyword_kinds
returns-in-119 c = c.kind_among-in-119.ensures ∙ by_first c.args.bytes.now 119 used_keywords keyword_kinds (sym c.first_of.ensures ∙ c.in-119.is)

pub returns-in_default : goal.returns-in_default
unfolding used_keywords keyword_kinds
returns-in_default c =
    let no_KwInt : 105 ≡ c.first_of.result → ⊥ = λ e. omega arith in
    let no_KwChar : 99 ≡ c.first_of.result → ⊥ = λ e. omega arith in
    let no_KwSigned : 115 ≡ c.first_of.result → ⊥ = λ e. omega arith in
    let no_KwUnsigned : 117 ≡ c.first_of.result → ⊥ = λ e. omega arith in
    let no_KwVoid : 118 ≡ c.first_of.result → ⊥ = λ e. omega arith in
    let no_KwExtern : 101 ≡ c.first_of.result → ⊥ = λ e. omega arith in
    let no_KwRegister : 114 ≡ c.first_of.result → ⊥ = λ e. omega arith in
    let no_KwWhile : 119 ≡ c.first_of.result → ⊥ = λ e. omega arith in
    let no_KwDo : 100 ≡ c.first_of.result → ⊥ = λ e. omega arith in
    let no_KwFor : 102 ≡ c.first_of.result → ⊥ = λ e. omega arith in
    let no_KwBreak : 98 ≡ c.first_of.result → ⊥ = λ e. omega arith in
    sym (none_so c.args.bytes.now c.first_of.result used_keywords keyword_kinds (sym c.first_of.ensures)
    (no_KwInt, (no_KwChar, (no_KwSigned, (no_KwUnsigned, (no_KwVoid, (no_KwSigned, (no_KwSigned, (no_KwExtern, (no_KwChar, (no_KwRegister, (no_KwRegister, (no_KwInt, (no_KwExtern, (no_KwWhile, (no_KwDo, (no_KwFor, (no_KwBreak, (no_KwChar, (no_KwSigned, tt))))))))))))))))))))
