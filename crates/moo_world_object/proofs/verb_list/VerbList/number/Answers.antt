use Rattle.std.proofs.Common.{◌<◌, ◌∙◌, ltb, length, sym, ap, get_or}
use Rattle.std.proofs.lemmas.Bool.{ltb-true}
use Rattle.moo_world_object.proofs.VerbNumbers.{number_there}
use Rattle.moo_world_object.proofs.verb_list.VerbList.number.Goals as goal

pub returns-in-Some : goal.returns-in-Some
returns-in-Some c =
    let items = c.deref.ensures.value in
    let low : c.args.index < length c.self.inside.numbers.items = ltb-true c.args.index (length c.self.inside.numbers.items) (ap (λ ls. ltb c.args.index (length ls)) (sym items) ∙ sym c.in-Some.ensures.lookup.0) in
    let here = c.in-Some.ensures.lookup.1 ∙ ap (λ ls. get_or ls c.args.index c.in-Some.number.now) items in
    λ v read. number_there c.self.inside.numbers.items c.self.inside.verbs.items c.args.index c.in-Some.number.now v c.self.invariant.1 low here (read ∙ ap (λ vs. get_or vs c.args.index v) (sym c.self.view_is))
