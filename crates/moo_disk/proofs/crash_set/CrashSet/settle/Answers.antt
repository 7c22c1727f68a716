use Rattle.std.proofs.Common.{◌≡◌, sym, subst, length, ℕ, List, arith}
use Rattle.moo_disk.specs.Disk.{Gains, NoText}
use Rattle.moo_disk.specs.CrashSet.{crash_view_of}
use Rattle.moo_disk.proofs.TextPlaces.{settle_gains}
use Rattle.moo_disk.proofs.crash_set.CrashSet.settle.Goals as goal

pub returns-clause-gains : goal.returns-clause-gains
returns-clause-gains c =
    let set = c.args.self.now in
    let base = c.bring_to_front.new.base.items in
    let later = c.bring_to_front.new.later.items in
    let settled = settle_gains set.base.items base set.later.items later set.starts.items set.first c.args.place c.bring_to_front.ensures.same c.bring_to_front.ensures.front set.rising in
    let starts_are = sym c.in_ok-push.ensures.items in
    let first_is : length later ≡ c.len-self.result = omega (arith, c.len-self.ensures, c.bring_to_front.new.later.ok.0) in
    let one = subst (λ (s : List ℕ). Gains NoText (crash_view_of set.base.items set.later.items set.starts.items set.first) (crash_view_of base later s (length later))) starts_are settled in
    subst (λ (n : ℕ). Gains NoText (crash_view_of set.base.items set.later.items set.starts.items set.first) (crash_view_of base later c.push.new.self.items n)) first_is one
