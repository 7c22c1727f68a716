use Rattle.std.proofs.Common.{◌<◌, ◌∙◌, sym, ap, arith, get_or, length, subst}
use Rattle.std.proofs.lemmas.List.{length_push}
use Rattle.moo_world_object.specs.Letters.{IsLetter}
use Rattle.moo_world_object.specs.declared.verb.Verb.{Verb}
use Rattle.moo_world_object.proofs.Letters.{more_letters}
use Rattle.moo_world_object.proofs.verb_list.all_letters.Goals as goal

pub loop-i-preserved : goal.loop-i-preserved
loop-i-preserved c =
    let letters = c.loop-i.letters.items in
    let verbs = c.args.verbs.now in
    let read = subst (λ names. IsLetter c.letter_of.result names) c.as_bytes.ensures.value c.letter_of.ensures in
    let tells = subst (λ (v : Verb). IsLetter c.letter_of.result v.names) (sym c.index-verbs-i.is) read in
    let many = c.loop-i.invariant.many in
    let room : length c.loop-i.letters.items < length c.args.verbs.now = omega (arith, many, c.loop-i-test.true) in
    let here = c.index-verbs-i.is ∙ ap (λ n. get_or c.args.verbs.now n c.index-verbs-i.result) (sym many) in
    let more = length_push letters c.letter_of.result in
    rw c.in_ok-push.ensures.items (record {
      many = (omega (arith, more, many));
      tell = more_letters letters verbs c.letter_of.result c.index-verbs-i.result c.loop-i.invariant.tell room here tells;
    })
