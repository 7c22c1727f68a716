use Rattle.std.proofs.Common.{◌-◌, length, arith, subst, sym}
use Rattle.moo_world_object.specs.Index.{Covers}
use Rattle.moo_world_object.specs.declared.verb.Verb.{Verb}
use Rattle.moo_world_object.proofs.Index.{last_indexed}
use Rattle.moo_world_object.proofs.verb_index.VerbIndex.add_last.Goals as goal

pub returns-in-Ok : goal.returns-in-Ok
returns-in-Ok c =
    let now = c.add_names.new.self in
    let read = subst (λ ns. Covers now ns (length c.args.verbs.now - 1)) c.as_bytes-names.ensures.value c.in-Ok.ensures.covers in
    let covers = subst (λ (v : Verb). Covers now v.names (length c.args.verbs.now - 1)) (sym c.index-verbs-place.is) read in
    λ front v same indexed.
    last_indexed c.args.self.now now front v c.index-verbs-place.result c.args.verbs.now (length c.args.verbs.now - 1) same (omega (arith, c.requires)) indexed c.add_names.ensures.grows c.index-verbs-place.is covers

pub returns-in-Err : goal.returns-in-Err
returns-in-Err c = λ front v same indexed. c.full.ensures c.args.verbs.now
