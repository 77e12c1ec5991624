-- What names mean from one declaration of the second form to the next.
use Rattle.std.proofs.Common.{◌≡◌, ℕ, Bool, true, false, ◌||◌, cond, List, [], ◌∷◌, map, Some, None, refl, sym, ap, ◌∙◌, arith}
use Rattle.std.specs.Prelude.{codes, Contains, is_some}
use Rattle.std.specs.Option.{option_map, option_or}
use Rattle.std.specs.Str.{bytes_eq}
use Rattle.std.proofs.lemmas.Slice.Eq.{bytes_eq-Decides}
use Rattle.text_grammar.specs.declared.tree.Parameter.{Parameter}
use Rattle.text_grammar.specs.declared.tree.BaseKind.TheVariants as kind
use Rattle.text_grammar.specs.declared.tree.Head.{Head}
use Rattle.text_grammar.specs.declared.tree.External.{External}
use Rattle.typing_types.specs.Types.{plain}
use Rattle.typing_types.specs.Operators.{int}
use Rattle.typing_symbols.specs.Names.{is_among}
use Rattle.typing_symbols.specs.Sights.{is_static}
use Rattle.typing_tags.specs.Tags.{tags_of}
use Rattle.typing_scopes.specs.declared.entity.Entity.TheVariants as entity
use Rattle.typing_scopes.specs.declared.entity.Declared.{Declared}
use Rattle.typing_scopes.specs.Tables.{found, with_entry}
use Rattle.typing_scopes.specs.laws.Tables.{found_with}
use Rattle.typing_scopes.specs.Visible.{Visible}
use Rattle.typing_scopes.specs.Names.{entity_of, declared_of, base_of}
use Rattle.typing_scopes.specs.Growth.{nothing, outside, with_tag, with_new_tag}
use Rattle.typing_scopes.specs.laws.Growth.{entity_with_declared}
use Rattle.typing_declarations.specs.declared.whole.Whole.{Whole}
use Rattle.typing_declarations.specs.Whole.{symbol_of, getbyte_of, putbyte_of}
use Rattle.typing_declarations.specs.Start.{with_tags, scope_before}
use Rattle.typing_declarations.specs.Objects.{was_defined, was_static}
use Rattle.typing_declarations.specs.Functions.{parameter_type, prototype_of, named_by}
use Rattle.second_form.specs.declared.second_items.Item.{Item}
use Rattle.second_form.specs.SecondForm.{reserved_words}
use Rattle.second_symbols.specs.Sources.{IsHead}
use Rattle.second_runs.specs.laws.Callees.{not_named}
use Rattle.second_source.specs.laws.Typed.{Knows, plain_function}

pub not_getbyte : (name : List ℕ) → ¬ Contains reserved_words name → bytes_eq name (codes "getbyte") ≡ false
not_getbyte name free = not_named name (codes "getbyte") (λ e. free (0, omega arith, sym e))

pub not_putbyte : (name : List ℕ) → ¬ Contains reserved_words name → bytes_eq name (codes "putbyte") ≡ false
not_putbyte name free = not_named name (codes "putbyte") (λ e. free (1, omega arith, sym e))

pub putbyte_not : (name : List ℕ) → ¬ Contains reserved_words name → bytes_eq (codes "putbyte") name ≡ false
putbyte_not name free = not_named (codes "putbyte") name (λ e. free (1, omega arith, e))

-- Before the first declaration

-- tags change no name
pub record SameNames (a b : Visible) : Type 0 where
  pub own : a.own ≡ b.own
  pub names : a.names ≡ b.names
  pub built_in : a.built_in ≡ b.built_in

one_tag : (scope : Visible) (tag : List ℕ) → SameNames (with_tag scope tag) scope
one_tag scope tag = by (is_some (found scope.tags tag))
  where
    by : (b : Bool) → SameNames (cond b scope (with_new_tag scope tag)) scope
    by true = record { own = refl; names = refl; built_in = refl }
    by false = record { own = refl; names = refl; built_in = refl }

all_tags : (scope : Visible) (tags : List (List ℕ)) → SameNames (with_tags scope tags) scope
all_tags scope [] = record { own = refl; names = refl; built_in = refl }
all_tags scope (t ∷ ts) =
    let later = all_tags (with_tag scope t) ts in
    let one = one_tag scope t in
    record { own = later.own ∙ one.own; names = later.names ∙ one.names; built_in = later.built_in ∙ one.built_in }

pub knows_before : (whole : Whole) (tree : List External) → Knows whole [] (scope_before whole tree)
knows_before whole tree =
    record {
      own = tags.own;
      putbyte = outer (codes "putbyte") ∙ found_with (with_entry [] (codes "getbyte") (entity.Function (getbyte_of whole))) (codes "putbyte") (codes "putbyte") (entity.Function (putbyte_of whole));
      others = λ name free.
          outer name
          ∙ found_with (with_entry [] (codes "getbyte") (entity.Function (getbyte_of whole))) (codes "putbyte") name (entity.Function (putbyte_of whole))
          ∙ ap (λ b. cond b (Some (entity.Function (putbyte_of whole))) (found (with_entry [] (codes "getbyte") (entity.Function (getbyte_of whole))) name)) (not_putbyte name free)
          ∙ found_with [] (codes "getbyte") name (entity.Function (getbyte_of whole))
          ∙ ap (λ b. cond b (Some (entity.Function (getbyte_of whole))) None) (not_getbyte name free);
    }
  where
    seen : Visible
    seen = with_tags nothing (tags_of tree)

    tags : SameNames seen nothing
    tags = all_tags nothing (tags_of tree)

    -- only the built-in functions have a meaning
    outer : (name : List ℕ) → entity_of (scope_before whole tree) name ≡ found (with_entry (with_entry [] (codes "getbyte") (entity.Function (getbyte_of whole))) (codes "putbyte") (entity.Function (putbyte_of whole))) name
    outer name =
        ap (λ es. option_or (found es name) (option_or (option_map (λ (d : Declared). d.entity) (found seen.names name)) (found (with_entry (with_entry seen.built_in (codes "getbyte") (entity.Function (getbyte_of whole))) (codes "putbyte") (entity.Function (putbyte_of whole))) name))) tags.own
        ∙ ap (λ ds. option_or (option_map (λ (d : Declared). d.entity) (found ds name)) (found (with_entry (with_entry seen.built_in (codes "getbyte") (entity.Function (getbyte_of whole))) (codes "putbyte") (entity.Function (putbyte_of whole))) name)) tags.names
        ∙ ap (λ es. found (with_entry (with_entry es (codes "getbyte") (entity.Function (getbyte_of whole))) (codes "putbyte") (entity.Function (putbyte_of whole))) name) tags.built_in

-- Behind a head

module _ (whole : Whole) (done : List (List ℕ)) (scope : Visible) (knows : Knows whole done scope) (head : Head) (item : Item) (is : IsHead head item) where
  prototype_is : prototype_of whole (outside scope) head ≡ plain_function whole item.name
  prototype_is =
      ap (λ n. record { symbol = symbol_of whole n; result = plain (base_of (outside scope) head.base.kind) head.stars; parameters = map (parameter_type (outside scope)) head.parameters }) is.named
      ∙ ap (λ k. record { symbol = symbol_of whole item.name; result = plain (base_of (outside scope) k) head.stars; parameters = map (parameter_type (outside scope)) head.parameters }) is.kind
      ∙ ap (λ n. record { symbol = symbol_of whole item.name; result = plain (base_of (outside scope) kind.Int) n; parameters = map (parameter_type (outside scope)) head.parameters }) is.stars
      ∙ ap (λ (ps : List Parameter). record { symbol = symbol_of whole item.name; result = int; parameters = map (parameter_type (outside scope)) ps }) is.parameters

  outside_same : (name : List ℕ) → entity_of (outside scope) name ≡ entity_of scope name
  outside_same name = ap (λ own. option_or (found own name) (option_or (option_map (λ (d : Declared). d.entity) (declared_of scope name)) (found scope.built_in name))) (sym knows.own)

  -- the name means this function from here on
  means : (is_definition : Bool) (name : List ℕ) → entity_of (named_by whole scope is_definition head) name ≡ cond (bytes_eq name item.name) (Some (entity.Function (plain_function whole item.name))) (entity_of scope name)
  means is_definition name =
      entity_with_declared (outside scope) head.name.bytes name
      (record { entity = entity.Function (prototype_of whole (outside scope) head); is_static = was_static (declared_of (outside scope) head.name.bytes) (is_static head.linkage); is_defined = was_defined (declared_of (outside scope) head.name.bytes) || is_definition })
      refl
      ∙ ap (λ n. cond (bytes_eq name n) (Some (entity.Function (prototype_of whole (outside scope) head))) (entity_of (outside scope) name)) is.named
      ∙ ap (λ p. cond (bytes_eq name item.name) (Some (entity.Function p)) (entity_of (outside scope) name)) prototype_is
      ∙ ap (λ o. cond (bytes_eq name item.name) (Some (entity.Function (plain_function whole item.name))) o) (outside_same name)

  pub knows_behind : (is_definition : Bool) → ¬ Contains reserved_words item.name → Knows whole (item.name ∷ done) (named_by whole scope is_definition head)
  knows_behind is_definition free =
      record {
        own = refl;
        putbyte =
            means is_definition (codes "putbyte")
            ∙ ap (λ b. cond b (Some (entity.Function (plain_function whole item.name))) (entity_of scope (codes "putbyte"))) (putbyte_not item.name free)
            ∙ knows.putbyte;
        others = λ name other.
            means is_definition name
            ∙ ap (λ o. cond (bytes_eq name item.name) (Some (entity.Function (plain_function whole item.name))) o) (knows.others name other)
            ∙ either name (bytes_eq name item.name) refl;
      }
    where
      either : (name : List ℕ) (b : Bool) → bytes_eq name item.name ≡ b
          → cond b (Some (entity.Function (plain_function whole item.name))) (cond (is_among name done) (Some (entity.Function (plain_function whole name))) None)
          ≡ cond (b || is_among name done) (Some (entity.Function (plain_function whole name))) None
      either name true same = ap (λ n. Some (entity.Function (plain_function whole n))) (sym ((bytes_eq-Decides name item.name).0 same))
      either name false same = refl
