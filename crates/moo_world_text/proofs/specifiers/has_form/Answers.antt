use borrow.Author.Tests.{tests}
use Rattle.std.proofs.Common.{rules}
use Rattle.std.proofs.lemmas.Iterator.Search.{any_from_yields_List}
use Rattle.std.proofs.lemmas.Iterator.Splits.{YieldsList-from_slice_split}
use Rattle.moo_world_text.specs.Specifiers.{is_slash, same_text}
use Rattle.moo_world_text.proofs.specifiers.has_form.Goals as goal

pub returns : goal.returns
returns c =
    any_from_yields_List (same_text c.args.text.now) _ _ _ c.any.ensures.ran
    (YieldsList-from_slice_split _ is_slash c.args.forms.now c.split.ensures.rest c.split.ensures.done c.split.ensures.closure (λ x b q k. search (rules, tests)))
    (λ x b q k. search (rules, tests))
