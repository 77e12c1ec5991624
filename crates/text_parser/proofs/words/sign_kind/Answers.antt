use Rattle.std.proofs.Common.{◌≡◌, sym, ◌∙◌, arith}
use Rattle.text_parser.specs.Symbols.{sign_spellings, sign_kinds}
use Rattle.text_parser.proofs.SpelledLaws.{by_first, none_so}
use Rattle.text_parser.proofs.words.sign_kind.Goals as goal

pub returns-in-33 : goal.returns-in-33
unfolding sign_spellings sign_kinds
returns-in-33 c = c.kind_among.ensures ∙ by_first c.args.bytes.now 33 sign_spellings sign_kinds (sym c.first_of.ensures ∙ c.in-33.is)

pub returns-in-37 : goal.returns-in-37
unfolding sign_spellings sign_kinds
returns-in-37 c = c.kind_among-in-37.ensures ∙ by_first c.args.bytes.now 37 sign_spellings sign_kinds (sym c.first_of.ensures ∙ c.in-37.is)

pub returns-in-38 : goal.returns-in-38
unfolding sign_spellings sign_kinds
returns-in-38 c = c.kind_among-in-38.ensures ∙ by_first c.args.bytes.now 38 sign_spellings sign_kinds (sym c.first_of.ensures ∙ c.in-38.is)

pub returns-in-40 : goal.returns-in-40
unfolding sign_spellings sign_kinds
returns-in-40 c = c.kind_among-in-40.ensures ∙ by_first c.args.bytes.now 40 sign_spellings sign_kinds (sym c.first_of.ensures ∙ c.in-40.is)

pub returns-in-41 : goal.returns-in-41
unfolding sign_spellings sign_kinds
returns-in-41 c = c.kind_among-in-41.ensures ∙ by_first c.args.bytes.now 41 sign_spellings sign_kinds (sym c.first_of.ensures ∙ c.in-41.is)

pub returns-in-42 : goal.returns-in-42
unfolding sign_spellings sign_kinds
returns-in-42 c = c.kind_among-in-42.ensures ∙ by_first c.args.bytes.now 42 sign_spellings sign_kinds (sym c.first_of.ensures ∙ c.in-42.is)

pub returns-in-43 : goal.returns-in-43
unfolding sign_spellings sign_kinds
returns-in-43 c = c.kind_among-in-43.ensures ∙ by_first c.args.bytes.now 43 sign_spellings sign_kinds (sym c.first_of.ensures ∙ c.in-43.is)

pub returns-in-44 : goal.returns-in-44
unfolding sign_spellings sign_kinds
returns-in-44 c = c.kind_among-in-44.ensures ∙ by_first c.args.bytes.now 44 sign_spellings sign_kinds (sym c.first_of.ensures ∙ c.in-44.is)

pub returns-in-45 : goal.returns-in-45
unfolding sign_spellings sign_kinds
returns-in-45 c = c.kind_among-in-45.ensures ∙ by_first c.args.bytes.now 45 sign_spellings sign_kinds (sym c.first_of.ensures ∙ c.in-45.is)

pub returns-in-46 : goal.returns-in-46
unfolding sign_spellings sign_kinds
returns-in-46 c = c.kind_among-in-46.ensures ∙ by_first c.args.bytes.now 46 sign_spellings sign_kinds (sym c.first_of.ensures ∙ c.in-46.is)

pub returns-in-47 : goal.returns-in-47
unfolding sign_spellings sign_kinds
returns-in-47 c = c.kind_among-in-47.ensures ∙ by_first c.args.bytes.now 47 sign_spellings sign_kinds (sym c.first_of.ensures ∙ c.in-47.is)

pub returns-in-59 : goal.returns-in-59
unfolding sign_spellings sign_kinds
returns-in-59 c = c.kind_among-in-59.ensures ∙ by_first c.args.bytes.now 59 sign_spellings sign_kinds (sym c.first_of.ensures ∙ c.in-59.is)

pub returns-in-60 : goal.returns-in-60
unfolding sign_spellings sign_kinds
returns-in-60 c = c.kind_among-in-60.ensures ∙ by_first c.args.bytes.now 60 sign_spellings sign_kinds (sym c.first_of.ensures ∙ c.in-60.is)

pub returns-in-61 : goal.returns-in-61
unfolding sign_spellings sign_kinds
returns-in-61 c = c.kind_among-in-61.ensures ∙ by_first c.args.bytes.now 61 sign_spellings sign_kinds (sym c.first_of.ensures ∙ c.in-61.is)

pub returns-in-62 : goal.returns-in-62
unfolding sign_spellings sign_kinds
returns-in-62 c = c.kind_among-in-62.ensures ∙ by_first c.args.bytes.now 62 sign_spellings sign_kinds (sym c.first_of.ensures ∙ c.in-62.is)

pub returns-in-91 : goal.returns-in-91
unfolding sign_spellings sign_kinds
returns-in-91 c = c.kind_among-in-91.ensures ∙ by_first c.args.bytes.now 91 sign_spellings sign_kinds (sym c.first_of.ensures ∙ c.in-91.is)

pub returns-in-93 : goal.returns-in-93
unfolding sign_spellings sign_kinds
returns-in-93 c = c.kind_among-in-93.ensures ∙ by_first c.args.bytes.now 93 sign_spellings sign_kinds (sym c.first_of.ensures ∙ c.in-93.is)

pub returns-in-94 : goal.returns-in-94
unfolding sign_spellings sign_kinds
returns-in-94 c = c.kind_among-in-94.ensures ∙ by_first c.args.bytes.now 94 sign_spellings sign_kinds (sym c.first_of.ensures ∙ c.in-94.is)

pub returns-in-123 : goal.returns-in-123
unfolding sign_spellings sign_kinds
returns-in-123 c = c.kind_among-in-123.ensures ∙ by_first c.args.bytes.now 123 sign_spellings sign_kinds (sym c.first_of.ensures ∙ c.in-123.is)

pub returns-in-124 : goal.returns-in-124
unfolding sign_spellings sign_kinds
returns-in-124 c = c.kind_among-in-124.ensures ∙ by_first c.args.bytes.now 124 sign_spellings sign_kinds (sym c.first_of.ensures ∙ c.in-124.is)

pub returns-in-125 : goal.returns-in-125
unfolding sign_spellings sign_kinds
returns-in-125 c = c.kind_among-in-125.ensures ∙ by_first c.args.bytes.now 125 sign_spellings sign_kinds (sym c.first_of.ensures ∙ c.in-125.is)

pub returns-in-126 : goal.returns-in-126
unfolding sign_spellings sign_kinds
returns-in-126 c = c.kind_among-in-126.ensures ∙ by_first c.args.bytes.now 126 sign_spellings sign_kinds (sym c.first_of.ensures ∙ c.in-126.is)

pub returns-in_default : goal.returns-in_default
unfolding sign_spellings sign_kinds
returns-in_default c =
    let no_LParen : 40 ≡ c.first_of.result → ⊥ = λ e. omega arith in
    let no_RParen : 41 ≡ c.first_of.result → ⊥ = λ e. omega arith in
    let no_Semi : 59 ≡ c.first_of.result → ⊥ = λ e. omega arith in
    let no_Comma : 44 ≡ c.first_of.result → ⊥ = λ e. omega arith in
    let no_Assign : 61 ≡ c.first_of.result → ⊥ = λ e. omega arith in
    let no_LBrace : 123 ≡ c.first_of.result → ⊥ = λ e. omega arith in
    let no_RBrace : 125 ≡ c.first_of.result → ⊥ = λ e. omega arith in
    let no_LBracket : 91 ≡ c.first_of.result → ⊥ = λ e. omega arith in
    let no_RBracket : 93 ≡ c.first_of.result → ⊥ = λ e. omega arith in
    let no_Star : 42 ≡ c.first_of.result → ⊥ = λ e. omega arith in
    let no_Plus : 43 ≡ c.first_of.result → ⊥ = λ e. omega arith in
    let no_Minus : 45 ≡ c.first_of.result → ⊥ = λ e. omega arith in
    let no_And : 38 ≡ c.first_of.result → ⊥ = λ e. omega arith in
    let no_Dot : 46 ≡ c.first_of.result → ⊥ = λ e. omega arith in
    let no_Less : 60 ≡ c.first_of.result → ⊥ = λ e. omega arith in
    let no_Greater : 62 ≡ c.first_of.result → ⊥ = λ e. omega arith in
    let no_NotEq : 33 ≡ c.first_of.result → ⊥ = λ e. omega arith in
    let no_OrOr : 124 ≡ c.first_of.result → ⊥ = λ e. omega arith in
    let no_Slash : 47 ≡ c.first_of.result → ⊥ = λ e. omega arith in
    let no_Percent : 37 ≡ c.first_of.result → ⊥ = λ e. omega arith in
    let no_Caret : 94 ≡ c.first_of.result → ⊥ = λ e. omega arith in
    let no_Tilde : 126 ≡ c.first_of.result → ⊥ = λ e. omega arith in
    sym (none_so c.args.bytes.now c.first_of.result sign_spellings sign_kinds (sym c.first_of.ensures)
    (no_LParen, (no_RParen, (no_Semi, (no_Comma, (no_Assign, (no_LBrace, (no_RBrace, (no_LBracket, (no_RBracket, (no_Star, (no_Plus, (no_Minus, (no_And, (no_Dot, (no_Minus, (no_Less, (no_Greater, (no_Assign, (no_NotEq, (no_Less, (no_Greater, (no_And, (no_OrOr, (no_NotEq, (no_Slash, (no_Percent, (no_OrOr, (no_Caret, (no_Tilde, (no_Less, (no_Greater, tt))))))))))))))))))))))))))))))))
