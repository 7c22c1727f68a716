use Rattle.std.proofs.Common.{◌≡◌, ◌++◌, ◌∙◌, ℤ, ap, subst, arith, set, map, take, drop, append-nil, length, ◌≤◌}
use Rattle.std.proofs.lemmas.List.{take_all, drop_all}
use Rattle.std.proofs.lemmas.List.Edits.{map_over_more}
use Rattle.std.proofs.lemmas.Int.{to_z-of_z}
use Rattle.std.specs.Int.{w32}
use Rattle.moo_value.specs.Compare.{folded}
use Rattle.moo_world_object.specs.Cells.{at_key, with_info}
use Rattle.moo_world_object.proofs.row.set_cell_info.Goals as goal

pub loop-i-preserved : goal.loop-i-preserved
loop-i-preserved c =
    ap (set c.loop-i.cells.items c.loop-i.i) c.set_info_if_for.ensures ∙
    map_over_more _ c.args.cells.now.items c.loop-i.cells.items c.loop-i.i c.index_mut.result.now
    (omega (arith, c.loop-i-test.true, c.len-i-end.ensures, c.args.cells.now.ok.0)) c.loop-i.invariant c.index_mut.ensures.value

pub returns : goal.returns
returns c =
    let F = λ (owner : ℤ). at_key (c.args.definer, folded c.args.name.now) (with_info owner c.args.perms) in
    let before = c.args.cells.now.items in
    let P : ℤ → Type 0 = λ owner. c.loop-i.cells.items ≡ map (F owner) (take c.loop-i.i before) ++ drop c.loop-i.i before in
    let all : length before ≤ c.loop-i.i = omega (arith, c.loop-i-test.false, c.len-i-end.ensures, c.args.cells.now.ok.0) in
    let done = subst P (to_z-of_z w32 c.args.owner c.ranges.owner) c.loop-i.invariant in
    let rest = take_all c.loop-i.i before all in
    done ∙ (rw (rest, drop_all c.loop-i.i before all) (append-nil (map (F c.args.owner) before)))
