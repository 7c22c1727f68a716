use Rattle.std.proofs.Common.{◌≡◌, ◌++◌, ◌∷◌, [], ◌∙◌, not, sym, subst}
use Rattle.std.specs.List.{list_any}
use Rattle.moo_world_object.specs.Names.{same_name}
use Rattle.moo_dbtext_restore.specs.Names.{AreMet}
use Rattle.moo_dbtext_restore.proofs.Naming.{meet_new, meet_known}
use Rattle.moo_dbtext_restore.proofs.names.meet.Goals.{then-not-known+in_ok-insert, else-not-known}
use Rattle.moo_dbtext_restore.proofs.names.meet.Goals as goal

pub returns : goal.returns
returns c = λ above a.
    let m = c.args.met.now in
    let fresh = c.args.fresh.now.items in
    let x = c.args.name.now in
    let known : c.contains_key-known.result ≡ list_any (same_name x) above = c.contains_key-known.ensures ∙ a.has x in (
      known,
      rw c.in_ok-push.ensures.items (elim c.if-not-known.branch [
        | then-not-known+in_ok-insert w ↦ (
            let off = w.if-not-known.true in
            rw w.met-is (subst (λ b. AreMet w.insert.new.self (fresh ++ not b ∷ []) (x ∷ above)) (sym off)
            (meet_new m fresh x above w.insert.new.self _ a (sym known ∙ off) w.in_ok-insert.ensures.updates)))
        | else-not-known w ↦ (
            let on = w.if-not-known.false in
            rw w.met-is (subst (λ b. AreMet m (fresh ++ not b ∷ []) (x ∷ above)) (sym on) (meet_known m fresh x above a (sym known ∙ on))))
      ]),
    )
