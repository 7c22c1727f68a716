use Rattle.std.proofs.Common.{◌≡◌, ◌+◌, ◌-◌, ◌≤◌, length, take, drop, ◌++◌, subst, sym, ap, ◌∙◌, arith, rules}
use Rattle.std.proofs.lemmas.List.{length-drop, take_all}
use Rattle.bstr.specs.Text.{MatchList, replaced_at}
use Rattle.bstr.proofs.lemmas.MatchListLemmas.{matches-list, MatchList-head}
use Rattle.moo_value.specs.Size.{weight_limit}
use Rattle.moo_builtin_value.proofs.Replacing.{replaced_step, replaced_end, past_limit}
use Rattle.moo_builtin_value.proofs.substitution.replaced.Goals as goal

pub loop-start-init : goal.loop-start-init
loop-start-init c =
    let text = c.args.text.now in
    let searched = c.args.searched.now in
    let wanted = c.args.wanted.now in
    let found = c.find_iter-found.ensures.value in (
      omega arith,
      subst (λ l. MatchList searched (length wanted) 0 l) (sym found) (matches-list searched wanted 0),
      ap (λ l. replaced_at text (length wanted) c.args.other.now 0 l) (sym found)
          ∙ ap (λ t. t ++ replaced_at text (length wanted) c.args.other.now 0 c.find_iter-found.result) (sym c.new-made.ensures.items),
    )

pub returns-then-len : goal.returns-then-len
returns-then-len c = past_limit weight_limit c.loop-start.made.items _ _ c.loop-start.invariant.2 (omega (arith, c.if-len.true, c.len.ensures))

pub slice_bounds-extend_from_slice-count : goal.slice_bounds-extend_from_slice-count
slice_bounds-extend_from_slice-count c =
    let m = length c.args.wanted.now in
    let searched = c.args.searched.now in
    let last = c.loop-start.last in
    let k = c.in-Some.start in
    let rest = c.next.new.self in
    let at = MatchList-head searched m last k c.loop-start.found rest c.in-Some.ensures.steps c.loop-start.invariant.1 in
    at.0

pub slice_bounds-extend_from_slice-start : goal.slice_bounds-extend_from_slice-start
slice_bounds-extend_from_slice-start c =
    let m = length c.args.wanted.now in
    let searched = c.args.searched.now in
    let last = c.loop-start.last in
    let k = c.in-Some.start in
    let rest = c.next.new.self in
    let at = MatchList-head searched m last k c.loop-start.found rest c.in-Some.ensures.steps c.loop-start.invariant.1 in
    at.0

pub slice_bounds-extend_from_slice-end : goal.slice_bounds-extend_from_slice-end
slice_bounds-extend_from_slice-end c =
    let m = length c.args.wanted.now in
    let searched = c.args.searched.now in
    let last = c.loop-start.last in
    let k = c.in-Some.start in
    let rest = c.next.new.self in
    let at = MatchList-head searched m last k c.loop-start.found rest c.in-Some.ensures.steps c.loop-start.invariant.1 in
    omega (arith, at.1, c.requires)

pub overflow_add-last : goal.overflow_add-last
overflow_add-last c =
    let m = length c.args.wanted.now in
    let searched = c.args.searched.now in
    let last = c.loop-start.last in
    let k = c.in-Some.start in
    let rest = c.next.new.self in
    let at = MatchList-head searched m last k c.loop-start.found rest c.in-Some.ensures.steps c.loop-start.invariant.1 in
    let below : k + m ≤ length searched = at.1 in
    search rules

pub loop-start-preserved : goal.loop-start-preserved
loop-start-preserved c =
    let m = length c.args.wanted.now in
    let searched = c.args.searched.now in
    let last = c.loop-start.last in
    let k = c.in-Some.start in
    let rest = c.next.new.self in
    let at = MatchList-head searched m last k c.loop-start.found rest c.in-Some.ensures.steps c.loop-start.invariant.1 in (
      omega (arith, at.1, c.requires),
      at.2,
      c.loop-start.invariant.2 ∙ replaced_step c.args.text.now m c.args.other.now last k c.loop-start.found rest c.loop-start.made.items c.extend_from_slice.new.self.items c.extend_from_slice-in-Some.new.self.items
          c.in-Some.ensures.steps c.in_ok-extend_from_slice.ensures.items c.in_ok-extend_from_slice-2.ensures.items,
    )

pub returns : goal.returns
returns c =
    let text = c.args.text.now in
    let last = c.loop-start.last in
    let whole : take (length text - last) (drop last text) ≡ drop last text = take_all _ _ (omega (arith, length-drop last text)) in
    c.in_ok-extend_from_slice-3.ensures.items ∙ ap (λ t. c.loop-start.made.items ++ t) whole
    ∙ sym (c.loop-start.invariant.2 ∙ replaced_end text (length c.args.wanted.now) c.args.other.now last c.loop-start.found c.loop-start.made.items c.in_default.ensures.steps.0)
