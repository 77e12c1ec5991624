-- A text has one tree and one list of items, or one rule that it breaks first.
use Rattle.std.proofs.Common.{◌≡◌, List, ℕ, Some, None, refl, ap, sym, ◌∙◌, subst, inl, inr}
use Rattle.std.specs.Prelude.{Result, Ok, Err}
use Rattle.text_grammar.specs.declared.tree.External.{External}
use Rattle.text_grammar.specs.declared.fault.SyntaxFault.{SyntaxFault}
use Rattle.text_grammar.specs.declared.fault.SyntaxFault.TheVariants as syntax
use Rattle.typing_faults.specs.declared.fault.Row.{Row}
use Rattle.typing_faults.specs.declared.fault.TypeKind.{TypeKind}
use Rattle.typing_faults.specs.declared.fault.TypeKind.TheVariants as row
use Rattle.typing_faults.specs.Faults.{told}
use Rattle.clight_unit.specs.declared.unit.ClightUnit.{ClightUnit as TypedUnit}
use Rattle.typing_units.specs.Typing.{Typed, fault_of}
use Rattle.text_parser.specs.Parsing.{HasTree, OneAnswer}
use Rattle.second_form.specs.declared.second_items.Item.{Item}
use Rattle.second_form.specs.SecondForm.{IsSecondForm, items_of}
use Rattle.commands.specs.declared.answer.TypingKind.{TypingKind}
use Rattle.commands.specs.declared.answer.TypingKind.TheVariants as rule
use Rattle.commands.specs.declared.answer.UnitLimit.{UnitLimit}
use Rattle.commands.specs.declared.answer.UnitLimit.TheVariants as limit
use Rattle.commands.specs.declared.answer.Status.{Status}
use Rattle.commands.specs.declared.answer.Status.TheVariants as status
use Rattle.commands.specs.Steps.{rule_kind, limit_kind, BreaksRule, HasForm, LacksForm}
use Rattle.ccelf_build.specs.Laws.{Laws}

same_tree : (t v : List External) → OneAnswer (Ok t) (Ok v) → t ≡ v
same_tree t v (inl e) = let k : ◌≡◌ {A = Result (List External) SyntaxFault} (Ok t) (Err syntax.Memory) = e in absurd (cc (k))
same_tree t v (inr (inl e)) = let k : ◌≡◌ {A = Result (List External) SyntaxFault} (Ok v) (Err syntax.Memory) = e in absurd (cc (k))
same_tree t v (inr (inr e)) = let k : ◌≡◌ {A = Result (List External) SyntaxFault} (Ok t) (Ok v) = e in cc

pub one_tree : Laws → (text : List ℕ) (t v : List External) → HasTree text t → HasTree text v → t ≡ v
one_tree laws text t v h k = same_tree t v (laws.one_answer text (Ok t) (Ok v) h k)

-- the status of a rule that is broken
abbrev pub row_status : TypeKind → Status
row_status row.Size = status.Limit
row_status row.Params = status.Limit
row_status row.Nodes = status.Limit
row_status _ = status.Typing

pub rule_status : (kind : TypingKind) → status.Typing ≡ row_status (rule_kind kind)
rule_status rule.Unknown = refl
rule_status rule.Twice = refl
rule_status rule.Kind = refl
rule_status rule.Count = refl
rule_status rule.NotPlace = refl
rule_status rule.Reserved = refl
rule_status rule.MainShape = refl
rule_status rule.Initialiser = refl

pub limit_status : (l : UnitLimit) → status.Limit ≡ row_status (limit_kind l)
limit_status limit.Size = refl
limit_status limit.Params = refl
limit_status limit.Nodes = refl

-- a tree with a typed unit breaks no rule
no_fault : (tree : List External) (unit : TypedUnit) (broken : Row) → Typed tree unit → fault_of tree ≡ Some broken → ⊥
no_fault tree unit broken t h = let e : None ≡ Some broken = sym (ap (λ (rows : List Row). told None rows) t.unbroken) ∙ h in absurd (cc (e))

pub breaks_or_typed : Laws → (text : List ℕ) (broken : Row) (tree : List External) (unit : TypedUnit) → BreaksRule text broken → HasTree text tree → Typed tree unit → ⊥
breaks_or_typed laws text broken tree unit h parsed t =
    let P : List External → Type 0 = λ t. fault_of t ≡ Some broken in
    no_fault tree unit broken t (subst P (one_tree laws text h.tree tree h.parsed parsed) h.told)

pub breaks_or_has : Laws → (text : List ℕ) (broken : Row) (items : List Item) → BreaksRule text broken → HasForm text items → ⊥
breaks_or_has laws text broken items h k = breaks_or_typed laws text broken k.tree k.unit h k.parsed k.typed

pub breaks_or_lacks : Laws → (text : List ℕ) (broken : Row) → BreaksRule text broken → LacksForm text → ⊥
breaks_or_lacks laws text broken h k = breaks_or_typed laws text broken k.tree k.unit h k.parsed k.typed

same_row : (tree : List External) (one other : Row) → fault_of tree ≡ Some one → fault_of tree ≡ Some other → one ≡ other
same_row tree one other h k = let e : Some one ≡ Some other = sym h ∙ k in cc

pub one_broken : Laws → (text : List ℕ) (one other : Row) → BreaksRule text one → BreaksRule text other → one ≡ other
one_broken laws text one other h k =
    let P : List External → Type 0 = λ tree. fault_of tree ≡ Some other in
    same_row h.tree one other h.told (subst P (one_tree laws text k.tree h.tree k.parsed h.parsed) k.told)

pub has_or_lacks : Laws → (text : List ℕ) (items : List Item) → HasForm text items → LacksForm text → ⊥
has_or_lacks laws text items h k =
    let P : List External → Type 0 = λ tree. IsSecondForm tree items in
    k.none items (subst P (one_tree laws text h.tree k.tree h.parsed k.parsed) h.form)

same_items : (tree : List External) (one other : List Item) → items_of tree ≡ Some one → items_of tree ≡ Some other → one ≡ other
same_items tree one other h k = let e : Some one ≡ Some other = sym h ∙ k in cc

pub one_items : Laws → (text : List ℕ) (one other : List Item) → HasForm text one → HasForm text other → one ≡ other
one_items laws text one other h k =
    let P : List External → Type 0 = λ tree. items_of tree ≡ Some other in
    same_items h.tree one other h.form.are (subst P (one_tree laws text k.tree h.tree k.parsed h.parsed) k.form.are)
