use Rattle.std.proofs.Common.{◌≡◌, ◌⊎◌, ◌∙◌, ℕ, List, [], Bool, true, subst, sym}
use Rattle.std.proofs.lemmas.Result.{on_ok_weaker}
use Rattle.moo_disk.specs.Disk.{NoText}
use Rattle.moo_disk.specs.Texts.{Brings, Enters}
use Rattle.moo_disk.specs.CrashSet.{crash_view, texts_of}
use Rattle.moo_disk.proofs.GainsLemmas.{gains_join, gains_less}
use Rattle.moo_disk.proofs.MemoryLemmas.{when_not_err}
use Rattle.moo_disk.proofs.crash_set.CrashSet.bring.Goals as goal

pub returns-then-stable-clause-gains : goal.returns-then-stable-clause-gains
returns-then-stable-clause-gains c =
    gains_less (λ t. t ≡ c.args.text.items) (λ t. c.args.stable ≡ true → t ≡ c.args.text.items) (crash_view c.args.self.now) (crash_view c.enter.new.self) (λ t is _. is) c.enter.ensures.gains

pub returns-clause-brought : goal.returns-clause-brought
returns-clause-brought c =
    let entered_empty = when_not_err c.enter-2.result (sym c.is_err-2.ensures.value ∙ c.if-is_err-2.false) c.enter-2.ensures.entered in
    let from_reserved : Enters [] (texts_of c.reserve.new.self) (texts_of c.enter-2.new.self) =
    subst (λ (t : List ℕ). Enters t (texts_of c.reserve.new.self) (texts_of c.enter-2.new.self)) c.new.ensures.items entered_empty in
    let first : Enters [] (texts_of c.args.self.now) (texts_of c.enter-2.new.self) =
    subst (λ (texts : List (List ℕ)). Enters [] texts (texts_of c.enter-2.new.self)) c.reserve.ensures.same from_reserved in
    on_ok_weaker c.enter-3.result (λ entered.
    subst (λ (s : Bool). Brings s c.args.text.items (texts_of c.args.self.now) (texts_of c.enter-3.new.self)) (sym c.if-stable.false) (texts_of c.enter-2.new.self, first, entered))
    c.enter-3.ensures.entered

pub returns-clause-gains : goal.returns-clause-gains
returns-clause-gains c =
    let old = crash_view c.args.self.now in
    let empty = c.new.result.items in
    let text = c.args.text.items in
    let reserved = gains_join NoText (λ t. t ≡ empty) old (crash_view c.reserve.new.self) (crash_view c.enter-2.new.self) c.reserve.ensures.gains c.enter-2.ensures.gains in
    let all = gains_join (λ t. NoText t ⊎ (t ≡ empty)) (λ t. t ≡ text) old (crash_view c.enter-2.new.self) (crash_view c.enter-3.new.self) reserved c.enter-3.ensures.gains in
    gains_less (λ t. (NoText t ⊎ (t ≡ empty)) ⊎ (t ≡ text)) (λ t. c.args.stable ≡ true → t ≡ text) old (crash_view c.enter-3.new.self) (λ t brought stable. cc (c.if-stable.false)) all
