use Rattle.std.proofs.Common.{◌≡◌, ◌∙◌, ◌+◌, ◌-◌, ◌<◌, ◌≤◌, length, get_or, sym, subst, ℕ, Vec, slice_set, arith}
use Rattle.std.specs.declared.alloc.Global.{Global}
use Rattle.moo_disk.specs.Texts.{SameTexts, texts_from}
use Rattle.moo_disk.proofs.TextPlaces.{text_at, texts_len, swapped}
use Rattle.moo_disk.proofs.crash_set.bring_to_front.Goals as goal

pub returns-clause-front : goal.returns-clause-front
returns-clause-front c =
    let read = text_at c.args.base.now.items c.args.later.now.items c.args.first c.args.place c.index_mut.result.now c.if-place-eq0.false c.requires in
    let value = c.index_mut.ensures.value in
    let swapped_in = c.swap.ensures.x_after in
    cc

pub returns-clause-same : goal.returns-clause-same
returns-clause-same c k le =
    let later = c.args.later.now.items in
    let i = c.args.first + c.args.place - 1 in
    let d = c.index_mut.result.now in
    let within : i < length later = omega (arith, c.requires, texts_len c.args.base.now.items later c.args.first, c.if-place-eq0.false) in
    let le_i : k ≤ i = omega (arith, c.if-place-eq0.false) in
    let same = swapped c.args.base.now d later i k le_i within in
    let x_is : get_or later i d ≡ c.swap.new.x = sym c.index_mut.ensures.value ∙ sym c.swap.ensures.x_after in
    let y_is : c.args.base.now ≡ c.swap.new.y = sym c.swap.ensures.y_after in
    let one = subst (λ (v : Vec ℕ Global). SameTexts (texts_from c.args.base.now.items later k) (texts_from v.items (slice_set later i c.args.base.now) k)) x_is same in
    subst (λ (v : Vec ℕ Global). SameTexts (texts_from c.args.base.now.items later k) (texts_from c.swap.new.x.items (slice_set later i v) k)) y_is one
