use Rattle.std.proofs.Common.{◌∙◌, ap, sym, Some, List, ℕ, Vec}
use Rattle.std.specs.declared.alloc.Global.{Global}
use Rattle.moo_disk.proofs.TextPlaces.{text_at}
use Rattle.moo_disk.proofs.crash_set.CrashSet.get.Goals as goal

pub returns : goal.returns
returns c =
    let set = c.args.self.now in
    text_at set.base.items set.later.items set.first c.args.place c.index.result.now c.if-place-eq0.false c.requires
    ∙ ap (λ (v : Vec ℕ Global). Some v.items) (sym c.index.ensures) ∙ ap (λ (text : List ℕ). Some text) (sym c.deref-2.ensures.value)
