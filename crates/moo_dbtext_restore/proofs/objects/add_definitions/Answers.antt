use Rattle.std.proofs.Common.{◌-◌, [], ◌∙◌, arith}
use Rattle.std.proofs.lemmas.List.{get_or_read}
use Rattle.moo_dbtext_restore.proofs.Keying.{definition_more}
use Rattle.moo_dbtext_restore.proofs.objects.add_definitions.Goals as goal

pub loop-i-preserved : goal.loop-i-preserved
loop-i-preserved c =
    let names = c.args.names.now in
    let i = c.loop-i.i in
    let some = c.loop-i-test.true in
    let most = c.loop-i.auto.i in
    let name = c.in_ok-try_clone.ensures ∙ get_or_read names (i - 1) c.index-names-i.result (omega (arith, some, most)) c.index-names-i.is [] in
    rw c.in_ok-push.ensures.items
    (definition_more c.args.x names c.loop-i.way.items c.args.way.now.items c.in_ok-try_clone.field-0 i (omega (arith, some)) (omega (arith, most)) name c.loop-i.invariant)
