-- How quads are kept: words that hold four bytes, and words that hold the number of a quad.
use Rattle.std.proofs.Common.{◌≡◌, ◌≢◌, ℕ, zero, suc, ◌/◌, ◌%◌, ◌<◌, ◌≤◌, ◌^◌, List, [], ◌∷◌, ◌++◌, map, length, get_or, set, replicate, Some, refl, sym, ap, subst, ◌∙◌, inl, inr, arith}
use Rattle.std.proofs.lemmas.Bool.{cases_order}
use Rattle.std.proofs.lemmas.List.{ext_get_or, length-map, length-set, get_or-set_same, get_or-set_other, get_or_append_left, get_or_push, get_or_default, length-append}
use Rattle.std.proofs.lemmas.List.Sums.{sum_by-set}
use Rattle.std.proofs.Math.ListN.{get_or-map}
use Rattle.cc_base.specs.Words.{join}
use Rattle.block_mem.specs.declared.quads.Word.{Word}
use Rattle.block_mem.specs.declared.quads.Word.TheVariants.{Simple, Mixed}
use Rattle.block_mem.specs.declared.quads.Quad.{Quad}
use Rattle.block_mem.specs.Quads.{quad_in, unset_quad, unset_word, entry_of, one_if_simple, IsPacked}

-- a number is this one or another
pub cases : (P : Type 0) (i j : ℕ) → (i ≡ j → P) → (i ≢ j → P) → P
cases P i j same other =
    elim (cases_order i j) [
      | inl e ↦ same e
      | inr r ↦ elim r [ inl h ↦ other (λ e. absurd (omega arith)) | inr h ↦ other (λ e. absurd (omega arith)) ]
    ]

pub mapped_replicate : (ms : List Quad) (n : ℕ) → map (quad_in ms) (replicate n unset_word) ≡ replicate n unset_quad
mapped_replicate ms zero = refl
mapped_replicate ms (suc n) = ap (λ (qs : List Quad). unset_quad ∷ qs) (mapped_replicate ms n)

pub at_mapped : (ms : List Quad) (ws : List Word) (i : ℕ) → get_or (map (quad_in ms) ws) i unset_quad ≡ quad_in ms (get_or ws i unset_word)
at_mapped ms ws i = get_or-map (quad_in ms) ws i unset_word

-- the word at a place, by what was read there
pub word_at : (ws : List Word) (i : ℕ) (x w : Word) → i < length ws → x ≡ get_or ws i x → x ≡ w → get_or ws i unset_word ≡ w
word_at ws i x w inside is named = get_or_default ws i unset_word x inside ∙ sym is ∙ named

-- a list of quads is the words' with one changed, where each place says so
same_quads : (ms ns : List Quad) (ws vs : List Word) (i : ℕ) (q : Quad) → i < length ws → length vs ≡ length ws → quad_in ns (get_or vs i unset_word) ≡ q → ((k : ℕ) → k ≢ i → quad_in ns (get_or vs k unset_word) ≡ quad_in ms (get_or ws k unset_word)) → map (quad_in ns) vs ≡ set (map (quad_in ms) ws) i q
same_quads ms ns ws vs i q inside long here others =
    ext_get_or unset_quad (map (quad_in ns) vs) (set (map (quad_in ms) ws) i q)
    (length-map vs (quad_in ns) ∙ long ∙ sym (length-set (map (quad_in ms) ws) i q ∙ length-map ws (quad_in ms)))
    (λ k _. at_mapped ns vs k ∙ there k)
  where
    within : i < length (map (quad_in ms) ws)
    within = subst (λ n. i < n) (sym (length-map ws (quad_in ms))) inside

    there : (k : ℕ) → quad_in ns (get_or vs k unset_word) ≡ get_or (set (map (quad_in ms) ws) i q) k unset_quad
    there k = cases (quad_in ns (get_or vs k unset_word) ≡ get_or (set (map (quad_in ms) ws) i q) k unset_quad) k i
        (λ same. ap (λ n. quad_in ns (get_or vs n unset_word)) same ∙ here ∙ sym (ap (λ n. get_or (set (map (quad_in ms) ws) i q) n unset_quad) same ∙ get_or-set_same (map (quad_in ms) ws) i q unset_quad within))
        (λ other. others k other ∙ sym (get_or-set_other (map (quad_in ms) ws) i k q unset_quad other ∙ at_mapped ms ws k))

-- another quad for a mixed word
kept_quad : (ms : List Quad) (e : ℕ) (q : Quad) (w : Word) → (entry_of w ≡ Some e → ⊥) → quad_in (set ms e q) w ≡ quad_in ms w
kept_quad ms e q (Simple a b c d) other = refl
kept_quad ms e q (Mixed a b c d) other = get_or-set_other ms e (join a b c d) q unset_quad (λ same. other (ap Some same))

pub put_mixed : (ws : List Word) (ms : List Quad) (cap i a b c d : ℕ) (q : Quad) → IsPacked ws ms cap → i < length ws → get_or ws i unset_word ≡ Mixed a b c d → map (quad_in (set ms (join a b c d) q)) ws ≡ set (map (quad_in ms) ws) i q
put_mixed ws ms cap i a b c d q packed inside is =
    same_quads ms (set ms (join a b c d) q) ws ws i q inside refl
    (ap (quad_in (set ms (join a b c d) q)) is ∙ get_or-set_same ms (join a b c d) q unset_quad (packed.within i (join a b c d) entry))
    (λ k other. kept_quad ms (join a b c d) q (get_or ws k unset_word) (λ e. other (packed.alone k i (join a b c d) e entry)))
  where
    entry : entry_of (get_or ws i unset_word) ≡ Some (join a b c d)
    entry = ap entry_of is

-- four bytes for a word that holds them itself
pub put_simple : (ws : List Word) (ms : List Quad) (i : ℕ) (w : Word) (q : Quad) → i < length ws → quad_in ms w ≡ q → map (quad_in ms) (set ws i w) ≡ set (map (quad_in ms) ws) i q
put_simple ws ms i w q inside is =
    same_quads ms ms ws (set ws i w) i q inside (length-set ws i w)
    (ap (quad_in ms) (get_or-set_same ws i w unset_word inside) ∙ is)
    (λ k other. ap (quad_in ms) (get_or-set_other ws i k w unset_word other))

-- a new quad, for a word that was none
older_quad : (ms : List Quad) (q : Quad) (w : Word) → ((e : ℕ) → entry_of w ≡ Some e → e < length ms) → quad_in (ms ++ q ∷ []) w ≡ quad_in ms w
older_quad ms q (Simple a b c d) within = refl
older_quad ms q (Mixed a b c d) within = get_or_append_left ms (q ∷ []) unset_quad (join a b c d) (within (join a b c d) refl)

pub put_new : (ws : List Word) (ms : List Quad) (cap i a b c d : ℕ) (q : Quad) → IsPacked ws ms cap → i < length ws → join a b c d ≡ length ms → map (quad_in (ms ++ q ∷ [])) (set ws i (Mixed a b c d)) ≡ set (map (quad_in ms) ws) i q
put_new ws ms cap i a b c d q packed inside number =
    same_quads ms (ms ++ q ∷ []) ws (set ws i (Mixed a b c d)) i q inside (length-set ws i (Mixed a b c d))
    (ap (quad_in (ms ++ q ∷ [])) (get_or-set_same ws i (Mixed a b c d) unset_word inside) ∙ get_or_push ms q unset_quad (join a b c d) (sym number))
    (λ k other. ap (quad_in (ms ++ q ∷ [])) (get_or-set_other ws i k (Mixed a b c d) unset_word other) ∙ older_quad ms q (get_or ws k unset_word) (λ e is. packed.within k e is))

-- a word that holds its bytes itself has no number
none_of : (n e : ℕ) (w : Word) → one_if_simple w ≡ 1 → entry_of w ≡ Some e → ⊥
none_of n e (Simple a b c d) one is = cc
none_of n e (Mixed a b c d) one is = absurd (omega arith)

pub packed_simple : (ws : List Word) (ms : List Quad) (cap i : ℕ) (w : Word) → IsPacked ws ms cap → i < length ws → one_if_simple (get_or ws i unset_word) ≡ 1 → one_if_simple w ≡ 1 → IsPacked (set ws i w) ms cap
packed_simple ws ms cap i w packed inside was now =
    record {
      within = λ k e is. packed.within k e (old k e is);
      alone = λ j k e is also. packed.alone j k e (old j e is) (old k e also);
      count = omega (arith, packed.count, sum_by-set one_if_simple ws i w unset_word inside, was, now, length-set ws i w);
      room = omega (arith, packed.room, length-set ws i w);
      few = omega (arith, packed.few, length-set ws i w);
    }
  where
    old : (k e : ℕ) → entry_of (get_or (set ws i w) k unset_word) ≡ Some e → entry_of (get_or ws k unset_word) ≡ Some e
    old k e is = cases (entry_of (get_or ws k unset_word) ≡ Some e) k i
        (λ same. absurd (none_of 0 e w now (sym (ap entry_of (ap (λ n. get_or (set ws i w) n unset_word) same ∙ get_or-set_same ws i w unset_word inside)) ∙ is)))
        (λ other. sym (ap entry_of (get_or-set_other ws i k w unset_word other)) ∙ is)

pub packed_new : (ws : List Word) (ms : List Quad) (cap more_cap i a b c d : ℕ) (q : Quad) → IsPacked ws ms cap → cap ≤ more_cap → i < length ws → one_if_simple (get_or ws i unset_word) ≡ 1 → join a b c d ≡ length ms → IsPacked (set ws i (Mixed a b c d)) (ms ++ q ∷ []) more_cap
packed_new ws ms cap more_cap i a b c d q packed more inside was number =
    record {
      within = λ k e is. cases (e < length (ms ++ q ∷ [])) k i (λ same. let n : e ≡ length ms = new e (at k e same is) in omega (arith, length-append ms (q ∷ []), n)) (λ other. let h : e < length ms = packed.within k e (old k e other is) in omega (arith, length-append ms (q ∷ []), h));
      alone = λ j k e is also. cases (j ≡ k) j i
          (λ first. cases (j ≡ k) k i (λ second. first ∙ sym second) (λ second. let n : e ≡ length ms = new e (at j e first is) in let h : e < length ms = packed.within k e (old k e second also) in absurd (omega arith)))
          (λ first. cases (j ≡ k) k i (λ second. let n : e ≡ length ms = new e (at k e second also) in let h : e < length ms = packed.within j e (old j e first is) in absurd (omega arith)) (λ second. packed.alone j k e (old j e first is) (old k e second also)));
      count = omega (arith, packed.count, length-append ms (q ∷ []), sum_by-set one_if_simple ws i (Mixed a b c d) unset_word inside, was, length-set ws i (Mixed a b c d));
      room = omega (arith, packed.room, more, length-set ws i (Mixed a b c d));
      few = omega (arith, packed.few, length-set ws i (Mixed a b c d));
    }
  where
    old : (k e : ℕ) → k ≢ i → entry_of (get_or (set ws i (Mixed a b c d)) k unset_word) ≡ Some e → entry_of (get_or ws k unset_word) ≡ Some e
    old k e other is = sym (ap entry_of (get_or-set_other ws i k (Mixed a b c d) unset_word other)) ∙ is

    at : (k e : ℕ) → k ≡ i → entry_of (get_or (set ws i (Mixed a b c d)) k unset_word) ≡ Some e → entry_of (Mixed a b c d) ≡ Some e
    at k e same is = sym (ap entry_of (ap (λ n. get_or (set ws i (Mixed a b c d)) n unset_word) same ∙ get_or-set_same ws i (Mixed a b c d) unset_word inside)) ∙ is

    new : (e : ℕ) → entry_of (Mixed a b c d) ≡ Some e → e ≡ length ms
    new e is = cc

-- a place of the quads is one of the words
pub inside_words : (ws : List Word) (ms : List Quad) (qs : List Quad) (i : ℕ) → map (quad_in ms) ws ≡ qs → i < length qs → i < length ws
inside_words ws ms qs i is inside = subst (λ n. i < n) (ap length (sym is) ∙ length-map ws (quad_in ms)) inside

-- a number of 32 bits by its bytes
pub number_is : (bytes : List ℕ) (n : ℕ) → n < 2 ^ 32 → bytes ≡ n % 256 ∷ (n / 256 % 256) ∷ (n / 65536 % 256) ∷ (n / 16777216 % 256) ∷ [] → join (get_or bytes 0 0) (get_or bytes 1 0) (get_or bytes 2 0) (get_or bytes 3 0) ≡ n
number_is bytes n small is = ap (λ (bs : List ℕ). join (get_or bs 0 0) (get_or bs 1 0) (get_or bs 2 0) (get_or bs 3 0)) is ∙ four n small
  where
    four : (n : ℕ) → n < 2 ^ 32 → join (n % 256) (n / 256 % 256) (n / 65536 % 256) (n / 16777216 % 256) ≡ n
    four n small = omega arith
