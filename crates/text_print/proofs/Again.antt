-- Canonical tokens at their places, and what is read of them.
use Rattle.std.proofs.Common.{◌≡◌, ℕ, ◌+◌, suc, zero, List, [], ◌∷◌, ◌++◌, length, drop, refl, sym, ap, subst, true, false, Bool}
use Rattle.std.specs.List.{All}
use Rattle.std.proofs.lemmas.List.Elements.{All-head, All-tail, All-nil, All-cons}
use Rattle.text_grammar.specs.declared.kind.Kind.TheVariants as k
use Rattle.text_grammar.specs.Grammar.{Symbol}
use Rattle.text_grammar.specs.Grammar as g
use Rattle.text_grammar.specs.declared.tree.BaseKind.{BaseKind}
use Rattle.text_grammar.specs.declared.tree.BaseKind.TheVariants as base
use Rattle.text_grammar.specs.declared.tree.Base.{Base}
use Rattle.text_grammar.specs.declared.tree.TypeName.{TypeName}
use Rattle.text_grammar.specs.Lexical.{number_value, is_unsigned_number, element_value, string_value}
use Rattle.text_print.specs.Spelling.{spelling, number_text, character_text, string_text}
use Rattle.text_print.specs.Canonical.{base_kind_tokens, keyword_if, base_tokens, star_tokens, type_tokens}
use Rattle.text_print.specs.SameTree.{SameBase, SameType}
use Rattle.text_print.specs.Placed.{placed}

-- a tree of these tokens that is the same
pub record Again {T : Type 0} (R : List Symbol → T → Type 0) (S : T → T → Type 0) (ts : List Symbol) (t : T) : Type 0 where
  pub tree : T
  pub same : S t tree
  pub reads : R ts tree

-- wherever the tokens begin
abbrev pub Anywhere : {T : Type 0} → (List Symbol → T → Type 0) → (T → T → Type 0) → List Symbol → T → Type 0
Anywhere R S ts t = (n : ℕ) → Again R S (placed n ts) t

-- the place behind tokens
abbrev pub behind : ℕ → List Symbol → ℕ
behind n [] = n
behind n (x ∷ xs) = behind (n + length x.text + 1) xs

pub placed_append : (n : ℕ) (a b : List Symbol) → placed n (a ++ b) ≡ placed n a ++ placed (behind n a) b
placed_append n [] b = refl
placed_append n (x ∷ a) b = ap (λ (q : List Symbol). record { kind = x.kind; at = n; text = x.text } ∷ q) (placed_append (n + length x.text + 1) a b)

-- P holds of each
abbrev pub Each : (Symbol → Type 0) → List Symbol → Type 0
Each P [] = Unit {0}
Each P (x ∷ xs) = P x × Each P xs

pub each_of : (P : Symbol → Type 0) (xs : List Symbol) → All P xs → Each P xs
each_of P [] h = tt
each_of P (x ∷ xs) h = (All-head P x xs h, each_of P xs (All-tail P x xs h))

pub all_of : (P : Symbol → Type 0) (xs : List Symbol) → Each P xs → All P xs
all_of P [] h = All-nil P
all_of P (x ∷ xs) h = All-cons P x xs h.0 (all_of P xs h.1)

pub each_map : (P Q : Symbol → Type 0) → ((x : Symbol) → P x → Q x) → (xs : List Symbol) → Each P xs → Each Q xs
each_map P Q f [] h = tt
each_map P Q f (x ∷ xs) h = (f x h.0, each_map P Q f xs h.1)

pub split : (P : Symbol → Type 0) (a b : List Symbol) → Each P (a ++ b) → Each P a × Each P b
split P [] b h = (tt, h)
split P (x ∷ a) b h = let r = split P a b h.1 in ((h.0, r.0), r.1)

-- Literals.

-- a literal whose value is read again where it is spelled canonically
pub record IsReadable (x : Symbol) : Type 0 where
  pub number : x.kind ≡ k.Num → number_value (number_text (number_value x.text) (is_unsigned_number x.text)) ≡ number_value x.text
  pub sign : x.kind ≡ k.Num → is_unsigned_number (number_text (number_value x.text) (is_unsigned_number x.text)) ≡ is_unsigned_number x.text
  pub character : x.kind ≡ k.Char → element_value (drop 1 (character_text (element_value (drop 1 x.text)))) ≡ element_value (drop 1 x.text)
  pub string : x.kind ≡ k.Str → string_value (string_text (string_value x.text)) ≡ string_value x.text

-- Types.

base_kind_again : (t : BaseKind) (n : ℕ) → (p : ℕ) × g.BaseWords (placed n (base_kind_tokens t)) p t
base_kind_again base.Int n = (_, g.BaseWords.int _ refl)
base_kind_again base.Char n = (_, g.BaseWords.char _ refl)
base_kind_again base.UnsignedInt n = (_, g.BaseWords.unsigned_int _ _ refl refl)
base_kind_again base.UnsignedChar n = (_, g.BaseWords.unsigned_char _ _ refl refl)
base_kind_again base.Void n = (_, g.BaseWords.void _ refl)
base_kind_again (base.Struct tag) n = (_, g.BaseWords.struct _ _ refl refl)

pub base_again : (t : Base) → Anywhere g.BaseReads SameBase (base_tokens t) t
base_again t n = go t.is_const refl
  where
    go : (b : Bool) → t.is_const ≡ b → Again g.BaseReads SameBase (placed n (keyword_if b k.KwConst ++ base_kind_tokens t.kind)) t
    go false e = let r = base_kind_again t.kind n in record { tree = record { at = r.0; is_const = false; kind = t.kind }; same = record { is_const = e; kind = refl }; reads = g.BaseReads.plain r.1 }
    go true e = let r = base_kind_again t.kind (n + length (spelling k.KwConst) + 1) in record { tree = record { at = r.0; is_const = true; kind = t.kind }; same = record { is_const = e; kind = refl }; reads = g.BaseReads.constant _ refl r.1 }

pub stars_again : (m n : ℕ) → g.Stars (placed n (star_tokens m)) m
stars_again zero n = g.Stars.none
stars_again (suc m) n = g.Stars.one _ refl (stars_again m _)

pub type_again : (t : TypeName) → Anywhere g.TypeReads SameType (type_tokens t) t
type_again t n =
    let b = base_again t.base n in
    let tree : TypeName = record { base = b.tree; stars = t.stars } in
    record {
      tree = tree;
      same = record { base = b.same; stars = refl };
      reads = subst (λ (q : List Symbol). g.TypeReads q tree) (sym (placed_append n (base_tokens t.base) (star_tokens t.stars))) (g.TypeReads.named b.reads (stars_again t.stars _));
    }
