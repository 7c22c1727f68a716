use Rattle.std.proofs.Common.{◌≡◌, ◌∙◌, ◌+◌, ◌-◌, length, ap, sym, subst, slice_get, ℕ, Vec, List, Contains, is_ok, arith}
use Rattle.std.specs.declared.alloc.Global.{Global}
use Rattle.moo_disk.specs.Disk.{Gains}
use Rattle.moo_disk.specs.Texts.{texts_from}
use Rattle.moo_disk.specs.CrashSet.{crash_view_of, texts_of}
use Rattle.moo_disk.proofs.TextPlaces.{push_gains, push_at, each_once_pushed}
use Rattle.moo_disk.proofs.crash_set.CrashSet.enter.Goals as goal

pub invariant_of-self-clause-each_once : goal.invariant_of-self-clause-each_once
invariant_of-self-clause-each_once c =
    let set = c.args.self.now in
    each_once_pushed (is_ok c.push.result) set.base.items set.later.items c.push.new.self.items c.args.text set.first set.in_range c.push.ensures.items set.each_once
    (λ has. c.in_default.ensures.absent (subst (λ (t : List ℕ). Contains (texts_of set) t) (sym c.deref.ensures.value) has))

pub returns-clause-place : goal.returns-clause-place
returns-clause-place c =
    let set = c.args.self.now in
    let later_is = c.in_ok-push.ensures.items in
    let place_is : c.len.result - set.first ≡ length set.later.items + 1 - set.first = omega (arith, c.len.ensures, c.in_ok-push.ensures.len, set.later.ok.0) in
    ap (λ (k : ℕ). slice_get (texts_from set.base.items c.push.new.self.items set.first) k) place_is
    ∙ ap (λ (l : List (Vec ℕ Global)). slice_get (texts_from set.base.items l set.first) (length set.later.items + 1 - set.first)) later_is
    ∙ push_at set.base.items set.later.items c.args.text set.first set.in_range

pub returns-clause-gains : goal.returns-clause-gains
returns-clause-gains c =
    let set = c.args.self.now in
    subst (λ (l : List (Vec ℕ Global)). Gains (λ t. t ≡ c.args.text.items) (crash_view_of set.base.items set.later.items set.starts.items set.first) (crash_view_of set.base.items l set.starts.items set.first))
    (sym c.in_ok-push.ensures.items) (push_gains set.base.items set.later.items set.starts.items c.args.text set.first set.in_range set.rising)
