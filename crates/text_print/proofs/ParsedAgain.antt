-- What is parsed of a canonical text is the tree again.
use Rattle.std.proofs.Common.{◌≡◌, ℕ, ◌≤◌, inl, inr, List, length, Result, Ok, Err, sym, subst}
use Rattle.std.specs.List.{All}
use Rattle.text_grammar.specs.declared.tree.External.{External}
use Rattle.text_grammar.specs.declared.token_list.Token.{Token}
use Rattle.text_grammar.specs.declared.fault.SyntaxFault.{SyntaxFault}
use Rattle.text_grammar.specs.declared.fault.SyntaxFault.TheVariants as fault
use Rattle.text_grammar.specs.Scanning.{Ending, IsCut, Whole, NoTokenAt, BadLiteralAt, text_max}
use Rattle.text_grammar.specs.laws.Cuts.{one_way}
use Rattle.text_grammar.specs.laws.DeclarationsRead.{one_unit}
use Rattle.text_grammar.specs.Grammar.{Symbol, Reads}
use Rattle.text_parser.specs.Symbols.{symbols_of}
use Rattle.text_parser.specs.Depth.{IsShallow, IsFirstDeep}
use Rattle.text_parser.specs.Parsing.{HasAnswer, OneAnswer}
use Rattle.text_print.specs.Canonical.{tokens_of, canonical_text}
use Rattle.text_print.specs.Cut.{cut_at, StandsAlone}
use Rattle.text_print.specs.Placed.{placed}
use Rattle.text_print.specs.ReadBack.{ReadsBack}
use Rattle.text_print.specs.Reparsed.{KeepsLimits, IsTreeAgain, IsTreeOrLimit}
use Rattle.text_print.specs.SameTree.{SameTree}
use Rattle.text_print.proofs.SymbolsAgain.{symbols_again}

-- a text has one answer
abbrev pub OneAnswers : Type 0
OneAnswers = (text : List ℕ) (answer other : Result (List External) SyntaxFault) → HasAnswer text answer → HasAnswer text other → OneAnswer answer other

module _ (tree : List External) (alone : All StandsAlone (tokens_of tree)) (cut : IsCut 0 (canonical_text tree) (cut_at 0 (tokens_of tree)) Whole) (back : ReadsBack (placed 0 (tokens_of tree)) tree) where
  same_symbols : (ts : List Token) → IsCut 0 (canonical_text tree) ts Whole → symbols_of (canonical_text tree) ts ≡ placed 0 (tokens_of tree)
  same_symbols ts c = subst (λ (us : List Token). symbols_of (canonical_text tree) us ≡ placed 0 (tokens_of tree)) (one_way 0 (canonical_text tree) (cut_at 0 (tokens_of tree)) ts Whole Whole cut c).0 (symbols_again (tokens_of tree) alone)

  other_ending : (ts : List Token) (e : Ending) → IsCut 0 (canonical_text tree) ts e → Whole ≡ e
  other_ending ts e c = (one_way 0 (canonical_text tree) (cut_at 0 (tokens_of tree)) ts Whole e cut c).1

  -- it is the answer, within the limits
  has_again : length (canonical_text tree) ≤ text_max → IsShallow (placed 0 (tokens_of tree)) → HasAnswer (canonical_text tree) (Ok back.again)
  has_again short shallow =
      let e = sym (symbols_again (tokens_of tree) alone) in
      record {
        tokens = cut_at 0 (tokens_of tree);
        cut = record { short = short; cut = cut };
        shallow = subst IsShallow e shallow;
        reads = subst (λ (ss : List Symbol). Reads ss back.again) e back.reads;
      }

  other_answer : (at : ℕ) → OneAnswer (Ok back.again) (Err (fault.Token at)) → ⊥
  other_answer at (inl h) = cc
  other_answer at (inr (inl h)) = cc
  other_answer at (inr (inr h)) = cc

  pub or_limit : OneAnswers → (answer : Result (List External) SyntaxFault) → HasAnswer (canonical_text tree) answer → IsTreeOrLimit tree answer
  or_limit one (Ok other) h =
      let same : other ≡ back.again = one_unit (placed 0 (tokens_of tree)) back.again other back.reads (subst (λ (ss : List Symbol). Reads ss other) (same_symbols h.tokens h.cut.cut) h.reads) in
      subst (SameTree tree) (sym same) back.same
  or_limit one (Err fault.Long) h = h
  or_limit one (Err (fault.Char at)) h = let e = other_ending h.tokens (NoTokenAt at) h.cut in absurd (cc)
  or_limit one (Err (fault.Literal at)) h = let e = other_ending h.tokens (BadLiteralAt at) h.cut in absurd (cc)
  or_limit one (Err (fault.Deep at)) h = subst (λ (ss : List Symbol). IsFirstDeep ss at) (same_symbols h.tokens h.cut.cut) h.first
  or_limit one (Err (fault.Token at)) h =
      absurd (other_answer at (one (canonical_text tree) (Ok back.again) (Err (fault.Token at)) (has_again h.cut.short (subst IsShallow (same_symbols h.tokens h.cut.cut) h.shallow)) h))
  or_limit one (Err fault.Memory) h = tt

  again_of : (answer : Result (List External) SyntaxFault) → OneAnswer (Ok back.again) answer → IsTreeAgain tree answer
  again_of answer (inl h) = absurd (cc)
  again_of answer (inr (inl h)) = subst (IsTreeAgain tree) (sym h) tt
  again_of answer (inr (inr h)) = subst (IsTreeAgain tree) h back.same

  pub again : OneAnswers → KeepsLimits tree → (answer : Result (List External) SyntaxFault) → HasAnswer (canonical_text tree) answer → IsTreeAgain tree answer
  again one limits answer h = again_of answer (one (canonical_text tree) (Ok back.again) answer (has_again limits.short limits.shallow) h)
