-- A unit that is got, parsed, and shown.
use Rattle.std.proofs.Common.{◌≡◌, ℕ, List, Result, Ok, Err, refl, subst, inl, inr}
use Rattle.cc_base.specs.Seen.{FilesSeen, SourceSeen, SinkSeen}
use Rattle.text_grammar.specs.declared.tree.External.{External}
use Rattle.text_print.specs.Canonical.{canonical_text}
use Rattle.commands.specs.declared.answer.Answer.{Answer}
use Rattle.commands.specs.declared.answer.Answer.TheVariants as answer
use Rattle.commands.specs.Doing.{outside}
use Rattle.commands.specs.Steps.{Fetched, Parsed, Parses, GivenOut}
use Rattle.commands.specs.Does.{show_does}

module _ (unit : List ℕ) (input : SourceSeen) (output : SinkSeen) (f f₁ : FilesSeen) where
  module _ (text slice : List ℕ) (got : Fetched f unit (Ok text) f₁) (same : slice ≡ text) where
    pub not_parsed : (told : Answer) → Parsed unit slice (Err told) → show_does unit (outside f input output) told (outside f₁ input output)
    not_parsed told h =
        let P : List ℕ → Type 0 = λ t. Parsed unit t (Err told) in
        inr (record { value = text; between = outside f₁ input output; went = (got, refl); goes_on = inl (subst P same h, refl) })

    module _ (tree : List External) (parsed : Parsed unit slice (Ok tree)) where
      parses : Parses unit text (outside f₁ input output) (Ok tree) (outside f₁ input output)
      parses = let P : List ℕ → Type 0 = λ t. Parsed unit t (Ok tree) in (subst P same parsed, refl)

      module _ (given : List ℕ) (is : given ≡ canonical_text tree) (end : SinkSeen) where
        as_given : (r : Result (Unit {0}) Answer) → GivenOut output given r end → GivenOut output (canonical_text tree) r end
        as_given r h = let P : List ℕ → Type 0 = λ t. GivenOut output t r end in subst P is h

        pub not_given : (told : Answer) → GivenOut output given (Err told) end → show_does unit (outside f input output) told (outside f₁ input end)
        not_given told h =
            inr (record {
              value = text;
              between = outside f₁ input output;
              went = (got, refl);
              goes_on =
                  inr (record {
                    value = tree;
                    between = outside f₁ input output;
                    went = parses;
                    goes_on =
                        inr (record { value = canonical_text tree; between = outside f₁ input output; went = (inl refl, refl); goes_on = inl (as_given (Err told) h, refl) });
                  });
            })

        pub all_given : GivenOut output given (Ok tt) end → show_does unit (outside f input output) answer.Shown (outside f₁ input end)
        all_given h =
            inr (record {
              value = text;
              between = outside f₁ input output;
              went = (got, refl);
              goes_on =
                  inr (record {
                    value = tree;
                    between = outside f₁ input output;
                    went = parses;
                    goes_on =
                        inr (record {
                          value = canonical_text tree;
                          between = outside f₁ input output;
                          went = (inl refl, refl);
                          goes_on =
                              inr (record { value = tt; between = outside f₁ input end; went = (as_given (Ok tt) h, refl); goes_on = (refl, refl) });
                        });
                  });
            })
