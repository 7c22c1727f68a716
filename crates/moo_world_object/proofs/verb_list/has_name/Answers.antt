use Rattle.std.proofs.Common.{◌∙◌, ap, sym}
use Rattle.moo_value.specs.Compare.{folded}
use Rattle.moo_world_object.specs.Names.{same_name}
use Rattle.moo_world_object.proofs.Numbered.{numbered_fits, both_numbered}
use Rattle.moo_world_object.proofs.verb_list.has_name.Goals as goal

pub returns-then-sought-ne0 : goal.returns-then-sought-ne0
returns-then-sought-ne0 c = both_numbered c.args.number c.number-sought.result c.args.verb.now.names c.args.name.now c.requires.known c.requires.number (c.number-sought.ensures c.if-sought-ne0.true)

pub returns : goal.returns
returns c =
    c.same_hashed_name.ensures
    ∙ ap (λ a. same_name (folded a) (folded c.bytes.result.now)) c.as_bytes.ensures.value
    ∙ ap (λ b. same_name (folded c.args.verb.now.names) (folded b)) c.bytes.ensures
    ∙ sym (numbered_fits c.args.number c.args.verb.now.names c.args.name.now c.requires.known c.requires.number)
