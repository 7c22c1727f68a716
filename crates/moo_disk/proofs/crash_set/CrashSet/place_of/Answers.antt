use Rattle.std.proofs.Common.{◌≡◌, ◌≢◌, ℕ, suc, ◌+◌, ◌<◌, ◌∙◌, length, get_or, slice_get, ap, sym, arith, Some, List, Vec}
use Rattle.std.specs.declared.alloc.Global.{Global}
use Rattle.std.proofs.lemmas.List.{get_or-drop, length-drop}
use Rattle.std.proofs.lemmas.Slice.Eq.{bytes_eq-Decides}
use Rattle.moo_disk.specs.CrashSet.{texts_of}
use Rattle.moo_disk.proofs.TextPlaces.{later_at, not_contained}
use Rattle.moo_disk.proofs.crash_set.CrashSet.place_of.Goals as goal

pub returns-then-eq-2-clause-found : goal.returns-then-eq-2-clause-found
returns-then-eq-2-clause-found c =
    let set = c.args.self.now in
    let i = c.loop-i.i in
    let one = c.one-item.result in
    let after = c.after_first-one-items.ensures in
    let within : set.first + i < length set.later.items = omega (arith, c.loop-i-test.true, ap length after, length-drop set.first set.later.items) in
    let read : one ≡ get_or set.later.items (set.first + i) one =
    c.one-item.is ∙ ap (λ (l : List (Vec ℕ Global)). get_or l i one) after ∙ get_or-drop set.first set.later.items i one in
    let equal : one.items ≡ c.args.text.now = sym c.as_slice-in-loop-i.ensures.value ∙ (bytes_eq-Decides _ _).0 (sym c.eq-in-loop-i.ensures ∙ c.if-eq-2.true) in
    let next : i + 1 ≡ suc i = omega arith in
    ap (λ (k : ℕ). slice_get (texts_of set) k) next ∙ later_at set.base.items set.later.items set.first i one within
    ∙ ap (λ (v : Vec ℕ Global). Some v.items) (sym read) ∙ ap (λ (t : List ℕ). Some t) equal

pub returns-clause-absent : goal.returns-clause-absent
returns-clause-absent c =
    let set = c.args.self.now in
    let after = c.after_first-one-items.ensures in
    let other : set.base.items ≢ c.args.text.now = λ is.
    let same = (bytes_eq-Decides c.as_slice.result.now c.args.text.now).1 (c.as_slice.ensures.value ∙ is) in
    cc (c.eq.ensures, c.if-eq.false) in
    not_contained set.base.items set.later.items set.first c.args.text.now other
    (λ k d lt is.
    c.loop-i.invariant k d (omega (arith, lt, ap length after, c.loop-i-test.false)) (ap (λ (l : List (Vec ℕ Global)). (get_or l k d).items) after ∙ is))
