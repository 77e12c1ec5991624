-- What the definition says of small programs. Nothing is proved from these: they show that it means what it should.
use Rattle.std.proofs.Common.{◌≡◌, List, [], ◌∷◌, ◌++◌, refl, true, false, Some, None, codes}
use Rattle.std.specs.Prelude.{replicate}
use Rattle.cc_base.specs.declared.run.Act.TheVariants.{Gave}
use Rattle.cc_base.specs.declared.run.Outcome.TheVariants.{Running, Ended, Wrong, Deep}
use Rattle.second_form.specs.declared.second_items.SmallStmt.TheVariants.{Put, Call, Return}
use Rattle.second_form.specs.declared.second_items.Item.{Item}
use Rattle.second_form.specs.SecondRun.{second_after}
use Rattle.second_form.specs.SecondFaults.{source_fault, Doubled, Unresolved}

-- int f(void); int main(void) { f(); putbyte(66); return 3; }
abbrev a_unit : List Item
a_unit =
    record { local = false; name = codes "f"; body = None } ∷ record { local = false; name = codes "main"; body = Some (Call (codes "f") ∷ Put 66 ∷ Return 3 ∷ []) } ∷ []

-- int f(void) { putbyte(65); return 0; }
abbrev b_unit : List Item
b_unit = record { local = false; name = codes "f"; body = Some (Put 65 ∷ Return 0 ∷ []) } ∷ []

-- static int f(void) { putbyte(321); return 0; }
abbrev c_unit : List Item
c_unit = record { local = true; name = codes "f"; body = Some (Put 321 ∷ Return 0 ∷ []) } ∷ []

linked : source_fault (a_unit ∷ b_unit ∷ []) ≡ None
linked = refl

not_yet : second_after (a_unit ∷ b_unit ∷ []) 4 ≡ record { outcome = Running; acts = Gave 65 ∷ Gave 66 ∷ [] }
not_yet = refl

ends : second_after (a_unit ∷ b_unit ∷ []) 5 ≡ record { outcome = Ended 3; acts = Gave 65 ∷ Gave 66 ∷ [] }
ends = refl

stays : second_after (a_unit ∷ b_unit ∷ []) 9 ≡ record { outcome = Ended 3; acts = Gave 65 ∷ Gave 66 ∷ [] }
stays = refl

none_shown : source_fault (a_unit ∷ c_unit ∷ []) ≡ Some (Unresolved 0 (codes "f"))
none_shown = refl

means_nothing : second_after (a_unit ∷ c_unit ∷ []) 1 ≡ record { outcome = Wrong; acts = [] }
means_nothing = refl

doubled : source_fault (a_unit ∷ b_unit ∷ b_unit ∷ []) ≡ Some (Doubled 2 (codes "f"))
doubled = refl

no_main : source_fault (b_unit ∷ c_unit ∷ []) ≡ Some (Unresolved 2 (codes "main"))
no_main = refl

-- int main(void) { main(); putbyte(1); .. return 0; } with a thousand calls of putbyte: a call of it needs 32128 bytes
abbrev deep_unit : List Item
deep_unit = record { local = false; name = codes "main"; body = Some (Call (codes "main") ∷ (replicate 1000 (Put 1) ++ (Return 0 ∷ []))) } ∷ []

fits_still : (second_after (deep_unit ∷ []) 31).outcome ≡ Running
fits_still = refl

is_deep : (second_after (deep_unit ∷ []) 32).outcome ≡ Deep
is_deep = refl
