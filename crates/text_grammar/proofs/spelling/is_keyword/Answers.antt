use Rattle.std.proofs.Common.{◌≡◌, ◌++◌, sym, ◌∙◌, arith}
use Rattle.text_grammar.specs.Lexical.{is_keyword, used_keywords, unused_keywords}
use Rattle.text_grammar.proofs.KeywordLemmas.{by_first, none_so}
use Rattle.text_grammar.proofs.spelling.is_keyword.Goals as goal

pub returns-in-97 : goal.returns-in-97
unfolding is_keyword used_keywords unused_keywords
returns-in-97 c = c.is_among.ensures ∙ by_first c.args.word.now 97 (used_keywords ++ unused_keywords) (sym c.byte_at.ensures.value ∙ c.in-97.is)

pub returns-in-98 : goal.returns-in-98
unfolding is_keyword used_keywords unused_keywords
returns-in-98 c = c.is_among-in-98.ensures ∙ by_first c.args.word.now 98 (used_keywords ++ unused_keywords) (sym c.byte_at.ensures.value ∙ c.in-98.is)

pub returns-in-99 : goal.returns-in-99
unfolding is_keyword used_keywords unused_keywords
returns-in-99 c = c.is_among-in-99.ensures ∙ by_first c.args.word.now 99 (used_keywords ++ unused_keywords) (sym c.byte_at.ensures.value ∙ c.in-99.is)

pub returns-in-100 : goal.returns-in-100
unfolding is_keyword used_keywords unused_keywords
returns-in-100 c = c.is_among-in-100.ensures ∙ by_first c.args.word.now 100 (used_keywords ++ unused_keywords) (sym c.byte_at.ensures.value ∙ c.in-100.is)

pub returns-in-101 : goal.returns-in-101
unfolding is_keyword used_keywords unused_keywords
returns-in-101 c = c.is_among-in-101.ensures ∙ by_first c.args.word.now 101 (used_keywords ++ unused_keywords) (sym c.byte_at.ensures.value ∙ c.in-101.is)

pub returns-in-102 : goal.returns-in-102
unfolding is_keyword used_keywords unused_keywords
returns-in-102 c = c.is_among-in-102.ensures ∙ by_first c.args.word.now 102 (used_keywords ++ unused_keywords) (sym c.byte_at.ensures.value ∙ c.in-102.is)

pub returns-in-103 : goal.returns-in-103
unfolding is_keyword used_keywords unused_keywords
returns-in-103 c = c.is_among-in-103.ensures ∙ by_first c.args.word.now 103 (used_keywords ++ unused_keywords) (sym c.byte_at.ensures.value ∙ c.in-103.is)

pub returns-in-105 : goal.returns-in-105
unfolding is_keyword used_keywords unused_keywords
returns-in-105 c = c.is_among-in-105.ensures ∙ by_first c.args.word.now 105 (used_keywords ++ unused_keywords) (sym c.byte_at.ensures.value ∙ c.in-105.is)

pub returns-in-108 : goal.returns-in-108
unfolding is_keyword used_keywords unused_keywords
returns-in-108 c = c.is_among-in-108.ensures ∙ by_first c.args.word.now 108 (used_keywords ++ unused_keywords) (sym c.byte_at.ensures.value ∙ c.in-108.is)

pub returns-in-114 : goal.returns-in-114
unfolding is_keyword used_keywords unused_keywords
returns-in-114 c = c.is_among-in-114.ensures ∙ by_first c.args.word.now 114 (used_keywords ++ unused_keywords) (sym c.byte_at.ensures.value ∙ c.in-114.is)

pub returns-in-115 : goal.returns-in-115
unfolding is_keyword used_keywords unused_keywords
returns-in-115 c = c.is_among-in-115.ensures ∙ by_first c.args.word.now 115 (used_keywords ++ unused_keywords) (sym c.byte_at.ensures.value ∙ c.in-115.is)

pub returns-in-116 : goal.returns-in-116
unfolding is_keyword used_keywords unused_keywords
returns-in-116 c = c.is_among-in-116.ensures ∙ by_first c.args.word.now 116 (used_keywords ++ unused_keywords) (sym c.byte_at.ensures.value ∙ c.in-116.is)

pub returns-in-117 : goal.returns-in-117
unfolding is_keyword used_keywords unused_keywords
returns-in-117 c = c.is_among-in-117.ensures ∙ by_first c.args.word.now 117 (used_keywords ++ unused_keywords) (sym c.byte_at.ensures.value ∙ c.in-117.is)

pub returns-in-118 : goal.returns-in-118
unfolding is_keyword used_keywords unused_keywords
returns-in-118 c = c.is_among-in-118.ensures ∙ by_first c.args.word.now 118 (used_keywords ++ unused_keywords) (sym c.byte_at.ensures.value ∙ c.in-118.is)

pub returns-in-119 : goal.returns-in-119
unfolding is_keyword used_keywords unused_keywords
returns-in-119 c = c.is_among-in-119.ensures ∙ by_first c.args.word.now 119 (used_keywords ++ unused_keywords) (sym c.byte_at.ensures.value ∙ c.in-119.is)

pub returns-in_default : goal.returns-in_default
unfolding is_keyword used_keywords unused_keywords
returns-in_default c =
    let no_a : 97 ≡ c.byte_at.result → ⊥ = λ e. omega arith in
    let no_b : 98 ≡ c.byte_at.result → ⊥ = λ e. omega arith in
    let no_c : 99 ≡ c.byte_at.result → ⊥ = λ e. omega arith in
    let no_d : 100 ≡ c.byte_at.result → ⊥ = λ e. omega arith in
    let no_e : 101 ≡ c.byte_at.result → ⊥ = λ e. omega arith in
    let no_f : 102 ≡ c.byte_at.result → ⊥ = λ e. omega arith in
    let no_g : 103 ≡ c.byte_at.result → ⊥ = λ e. omega arith in
    let no_i : 105 ≡ c.byte_at.result → ⊥ = λ e. omega arith in
    let no_l : 108 ≡ c.byte_at.result → ⊥ = λ e. omega arith in
    let no_r : 114 ≡ c.byte_at.result → ⊥ = λ e. omega arith in
    let no_s : 115 ≡ c.byte_at.result → ⊥ = λ e. omega arith in
    let no_t : 116 ≡ c.byte_at.result → ⊥ = λ e. omega arith in
    let no_u : 117 ≡ c.byte_at.result → ⊥ = λ e. omega arith in
    let no_v : 118 ≡ c.byte_at.result → ⊥ = λ e. omega arith in
    let no_w : 119 ≡ c.byte_at.result → ⊥ = λ e. omega arith in
    sym (none_so c.args.word.now c.byte_at.result (used_keywords ++ unused_keywords) (sym c.byte_at.ensures.value)
    (no_i, (no_c, (no_s, (no_u, (no_v, (no_s, (no_s, (no_e, (no_c, (no_r, (no_r, (no_i, (no_e, (no_w, (no_d, (no_f, (no_b, (no_c, (no_s, (no_a, (no_c, (no_d, (no_d, (no_e, (no_f, (no_g, (no_i, (no_l, (no_r, (no_s, (no_s, (no_t, (no_u, (no_v, tt)))))))))))))))))))))))))))))))))))
