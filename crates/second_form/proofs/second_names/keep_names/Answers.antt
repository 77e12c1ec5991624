use Rattle.second_form.proofs.NameRules.{keeps_names, names_kept}
use Rattle.second_form.proofs.second_names.keep_names.Goals as goal

pub returns-in-Some : goal.returns-in-Some
returns-in-Some c =
    let x = rw c.in-Some.is at c.in_ok-names.ensures in (
      λ t. keeps_names c.args.items.now c.in-Some.names x.0 x.1 x.2 (c.keep_items.ensures.0 t),
      λ h. c.keep_items.ensures.1 (names_kept c.args.items.now c.in-Some.names x.2 h),
    )
