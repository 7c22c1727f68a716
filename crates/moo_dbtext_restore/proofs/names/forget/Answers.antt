use Rattle.std.proofs.Common.{◌≡◌, ◌++◌, ◌∷◌, [], ◌∙◌, true, false, sym, ap, subst, arith}
use Rattle.std.specs.Option.{unwrap_or}
use Rattle.moo_dbtext_restore.specs.Names.{AreMet}
use Rattle.moo_dbtext_restore.proofs.Naming.{popped, forget_new, forget_known}
use Rattle.moo_dbtext_restore.proofs.names.forget.Goals as goal

pub returns-then-is_new : goal.returns-then-is_new
returns-then-is_new c = λ above a.
    let m = c.args.met.now in
    let rest = c.pop.new.self.items in
    let x = c.args.name.now in
    let p = popped m c.args.fresh.now.items rest x above c.pop.result (λ some. c.pop.ensures.variant.1 (omega (arith, some, c.args.fresh.now.ok.0))) c.pop.ensures.items a in
    let on : p.0 ≡ true = sym (ap (λ o. unwrap_or o false) p.1) ∙ (sym c.unwrap_or-is_new.ensures ∙ c.if-is_new.true) in
    forget_new m rest x above c.remove.new.self (subst (λ b. AreMet m (rest ++ b ∷ []) (x ∷ above)) on p.2) c.remove.ensures.updates

pub returns-else-is_new : goal.returns-else-is_new
returns-else-is_new c = λ above a.
    let m = c.args.met.now in
    let rest = c.pop.new.self.items in
    let x = c.args.name.now in
    let p = popped m c.args.fresh.now.items rest x above c.pop.result (λ some. c.pop.ensures.variant.1 (omega (arith, some, c.args.fresh.now.ok.0))) c.pop.ensures.items a in
    let off : p.0 ≡ false = sym (ap (λ o. unwrap_or o false) p.1) ∙ (sym c.unwrap_or-is_new.ensures ∙ c.if-is_new.false) in
    forget_known m rest x above (subst (λ b. AreMet m (rest ++ b ∷ []) (x ∷ above)) off p.2)
