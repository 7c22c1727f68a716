use borrow.Author.Tests.{tests}
use Rattle.std.proofs.Common.{rules}
use Rattle.std.proofs.lemmas.Iterator.Search.{any_from_yields_List}
use Rattle.std.proofs.lemmas.Iterator.Splits.{YieldsList-from_slice_split}
use Rattle.moo_world_object.specs.Patterns.{is_blank}
use Rattle.moo_world_object.specs.Letters.{begins_otherwise}
use Rattle.moo_world_object.proofs.filter_letter.some_begins_otherwise.Goals as goal

pub returns : goal.returns
returns c =
    any_from_yields_List (begins_otherwise c.args.letter) _ _ _ c.any.ensures.ran
    (YieldsList-from_slice_split _ is_blank c.args.names.now c.split.ensures.rest c.split.ensures.done c.split.ensures.closure (λ x b q k. search (rules, tests)))
    (λ x b q k. search (rules, tests))
