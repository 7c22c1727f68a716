use Rattle.std.proofs.Common.{◌∙◌, ap, sym, Some, ℕ, Vec}
use Rattle.std.specs.declared.alloc.Global.{Global}
use Rattle.moo_disk.proofs.TextPlaces.{text_at}
use Rattle.moo_disk.proofs.crash_set.CrashSet.into_text.Goals as goal

pub returns : goal.returns
returns c =
    let set = c.args.self in
    text_at set.base.items set.later.items set.first c.args.place c.swap_remove.result c.if-place-eq0.false c.requires
    ∙ ap (λ (v : Vec ℕ Global). Some v.items) (sym c.swap_remove.ensures.value)
