use Rattle.std.proofs.Common.{◌++◌, ◌∙◌, map, ap, arith}
use Rattle.std.proofs.lemmas.List.{drop_all}
use Rattle.moo_value.specs.Compare.{folded}
use Rattle.moo_dbtext_restore.proofs.Keying.{definition_gone}
use Rattle.moo_dbtext_restore.proofs.objects.drop_definitions.Goals as goal

pub loop-preserved : goal.loop-preserved
loop-preserved c = λ above e.
    definition_gone c.args.x c.args.names.now c.loop.way.items c.pop-definition.new.self.items above c.loop.index c.pop-definition.result c.loop-test.true (c.loop.invariant above e) c.pop-definition.ensures.items
    (λ some. c.pop-definition.ensures.variant.1 (omega (arith, some, c.loop.way.ok.0)))

pub returns : goal.returns
returns c = λ above e.
    let end = c.loop-test.false in
    c.loop.invariant above e ∙ ap (λ l. map (λ name. (c.args.x, folded name)) l ++ above) (drop_all c.loop.index c.args.names.now (omega (arith, end)))
