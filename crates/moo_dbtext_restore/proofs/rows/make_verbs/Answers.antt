use Rattle.std.proofs.Common.{◌∷◌, ◌++◌, [], ◌∙◌, sym, ap, take, get_or, None}
use Rattle.std.proofs.lemmas.List.{get_or_read}
use Rattle.moo_dbtext_restore.specs.Plain.{plain_verb, plain_verbs}
use Rattle.moo_dbtext_restore.proofs.Keying.{verbs_more}
use Rattle.moo_dbtext_restore.proofs.rows.make_verbs.Goals as goal

pub loop-i-preserved : goal.loop-i-preserved
loop-i-preserved c =
    let verbs = c.args.verbs.now in
    let programs = c.args.programs.now in
    let i = c.loop-i.i in
    let low = c.loop-i-test.true in
    let v = c.index-verbs-i.result in
    let verb = get_or_read verbs i v low c.index-verbs-i.is v in
    let made = c.in_ok-make_verb.ensures ∙ (ap (plain_verb v) c.in_ok-program_at.ensures ∙ ap (λ u. plain_verb u (get_or programs i None)) verb) in
    c.in_ok-push.ensures.items
    ∙ (ap (λ l. l ++ c.in_ok-make_verb.field-0 ∷ []) c.loop-i.invariant
    ∙ (ap (λ u. plain_verbs (take i verbs) programs ++ u ∷ []) made ∙ sym (verbs_more verbs programs i v low)))
