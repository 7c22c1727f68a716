use Rattle.std.proofs.Common.{◌≡◌, true, false, sym, ◌∙◌, subst, w32}
use Rattle.std.specs.List.{list_any}
use Rattle.std.specs.Ordering.{int_eq}
use Rattle.std.proofs.lemmas.Int.{to_z-of_z}
use Rattle.moo_world_table.proofs.PlayerLists.{none_out, none_new, one_new}
use Rattle.moo_world_table.proofs.players.too_many.Goals as goal

pub returns-then-not-on : goal.returns-then-not-on
returns-then-not-on c = let off = c.if-not-on.true in rw off (none_out c.args.players.now c.args.player c.requires)

pub returns-then-contains : goal.returns-then-contains
returns-then-contains c =
    let on = c.if-not-on.false in
    let player = to_z-of_z w32 c.args.player c.ranges.player in
    rw on (none_new c.args.players.now c.args.player c.requires (subst (λ p. list_any (int_eq p) c.args.players.now ≡ true) player (sym c.contains.ensures ∙ c.if-contains.true)))

pub returns : goal.returns
returns c =
    let on = c.if-not-on.false in
    let player = to_z-of_z w32 c.args.player c.ranges.player in
    rw on (one_new c.args.players.now c.args.player (subst (λ p. list_any (int_eq p) c.args.players.now ≡ false) player (sym c.contains.ensures ∙ c.if-contains.false)))
