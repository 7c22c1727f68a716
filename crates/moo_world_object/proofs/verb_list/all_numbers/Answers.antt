use Rattle.std.proofs.Common.{◌<◌, ◌∙◌, sym, ap, arith, get_or, length, subst}
use Rattle.std.proofs.lemmas.List.{length_push}
use Rattle.moo_world_object.specs.Letters.{IsNumberOf}
use Rattle.moo_world_object.specs.declared.verb.Verb.{Verb}
use Rattle.moo_world_object.proofs.VerbNumbers.{more_numbers}
use Rattle.moo_world_object.proofs.verb_list.all_numbers.Goals as goal

pub loop-i-preserved : goal.loop-i-preserved
loop-i-preserved c =
    let numbers = c.loop-i.numbers.items in
    let verbs = c.args.verbs.now in
    let read = subst (λ names. IsNumberOf c.number_of.result names) c.as_bytes.ensures.value c.number_of.ensures in
    let is = subst (λ (v : Verb). IsNumberOf c.number_of.result v.names) (sym c.index-verbs-i.is) read in
    let many = c.loop-i.invariant.many in
    let room : length c.loop-i.numbers.items < length c.args.verbs.now = omega (arith, many, c.loop-i-test.true) in
    let here = c.index-verbs-i.is ∙ ap (λ n. get_or c.args.verbs.now n c.index-verbs-i.result) (sym many) in
    let more = length_push numbers c.number_of.result in
    rw c.in_ok-push.ensures.items (record {
      many = (omega (arith, more, many));
      known = more_numbers numbers verbs c.number_of.result c.index-verbs-i.result c.loop-i.invariant.known room here is;
    })
