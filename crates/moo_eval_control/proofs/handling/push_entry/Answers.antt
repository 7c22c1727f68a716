use Rattle.std.proofs.Common.{◌∷◌, [], ap, ◌∙◌}
use Rattle.std.proofs.lemmas.List.{map-append}
use Rattle.moo_value.specs.View.{tree, trees}
use Rattle.moo_eval_control.specs.Handling.{frame_list}
use Rattle.moo_eval_control.proofs.Told.{alone_ok}
use Rattle.moo_eval_control.proofs.handling.push_entry.Goals as goal

pub returns-clause-ok : goal.returns-clause-ok
returns-clause-ok c =
    (tree c.in_ok-value.value ∷ [], rw c.in-Verb.is (alone_ok (frame_list c.in-Verb.frame) (tree c.in_ok-value.value) (c.in_ok-value.ensures tt)), ap trees c.in_ok-push.ensures ∙ map-append tree _ _)
