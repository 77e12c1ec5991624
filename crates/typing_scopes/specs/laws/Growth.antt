-- What names mean behind a place at which what is known has grown.
use Rattle.std.specs.Prelude.{ℕ, ◌≡◌, Bool, true, false, cond, List, Option, Some, None, is_some}
use Rattle.std.specs.Option.{option_map, option_or}
use Rattle.std.specs.Str.{bytes_eq}
use Rattle.std.proofs.Common.{refl, sym, ap, ◌∙◌, true≢false}
use Rattle.std.proofs.lemmas.Slice.Eq.{bytes_eq-Decides}
use Rattle.typing_scopes.specs.declared.entity.Entity.{Entity}
use Rattle.typing_scopes.specs.declared.entity.Declared.{Declared}
use Rattle.typing_scopes.specs.Tables.{found, with_entry}
use Rattle.typing_scopes.specs.laws.Tables.{found_with}
use Rattle.typing_scopes.specs.Visible.{Visible}
use Rattle.typing_scopes.specs.Names.{entity_of, declared_of}
use Rattle.typing_scopes.specs.Growth.{with_declared, with_own, with_new_tag, with_tag}

-- a tag is known once it was seen
pub tag_is_known : (scope : Visible) (tag : List ℕ) → is_some (found (with_tag scope tag).tags tag) ≡ true
tag_is_known scope tag = by (is_some (found scope.tags tag)) refl
  where
    by : (b : Bool) → is_some (found scope.tags tag) ≡ b → is_some (found (cond b scope (with_new_tag scope tag)).tags tag) ≡ true
    by true e = e
    by false e =
        ap is_some (found_with scope.tags tag tag false)
        ∙ ap (λ b. is_some (cond b (Some false) (found scope.tags tag))) ((bytes_eq-Decides tag tag).1 refl)

-- a parameter or local has the meaning that it was given, and hides its name; all others mean what they meant
pub entity_with_own : (scope : Visible) (name other : List ℕ) (e : Entity) → entity_of (with_own scope name e) other ≡ cond (bytes_eq other name) (Some e) (entity_of scope other)
entity_with_own scope name other e =
    ap (λ o. option_or o outer) (found_with scope.own name other e) ∙ by (bytes_eq other name)
  where
    outer : Option Entity
    outer = option_or (option_map (λ (d : Declared). d.entity) (declared_of scope other)) (found scope.built_in other)

    by : (b : Bool) → option_or (cond b (Some e) (found scope.own other)) outer ≡ cond b (Some e) (option_or (found scope.own other) outer)
    by true = refl
    by false = refl

-- outside of functions a declared name has the meaning that it was given; all others mean what they meant
pub entity_with_declared : (scope : Visible) (name other : List ℕ) (d : Declared) → found scope.own other ≡ None → entity_of (with_declared scope name d) other ≡ cond (bytes_eq other name) (Some d.entity) (entity_of scope other)
entity_with_declared scope name other d none =
    ap (λ o. option_or o (option_or (option_map meaning (found (with_entry scope.names name d) other)) last)) none
    ∙ ap (λ o. option_or (option_map meaning o) last) (found_with scope.names name other d)
    ∙ by (bytes_eq other name)
    ∙ sym (ap (λ o. cond (bytes_eq other name) (Some d.entity) (option_or o (option_or (option_map meaning (found scope.names other)) last))) none)
  where
    meaning : Declared → Entity
    meaning = λ d. d.entity

    last : Option Entity
    last = found scope.built_in other

    by : (b : Bool) → option_or (option_map meaning (cond b (Some d) (found scope.names other))) last ≡ cond b (Some d.entity) (option_or (option_map meaning (found scope.names other)) last)
    by true = refl
    by false = refl

-- a function's own names are hidden by none of file scope
pub own_stays : (scope : Visible) (name other : List ℕ) (d : Declared) → is_some (found scope.own other) ≡ true → entity_of (with_declared scope name d) other ≡ entity_of scope other
own_stays scope name other d there = by (found scope.own other) there
  where
    by : (o : Option Entity) → is_some o ≡ true → option_or o (option_or (option_map (λ (d : Declared). d.entity) (found (with_entry scope.names name d) other)) (found scope.built_in other)) ≡ option_or o (option_or (option_map (λ (d : Declared). d.entity) (found scope.names other)) (found scope.built_in other))
    by (Some e) h = refl
    by None h = absurd (true≢false (sym h))
