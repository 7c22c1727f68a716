use Rattle.std.proofs.Common.{◌≡◌, ◌≤◌, ◌<◌, ◌∙◌, sym, ap, subst, List, ℕ, length, take, slice_range, w32, SFits, to_z, of_z, rules}
use Rattle.std.proofs.lemmas.Int.{to_z-of_z}
use Rattle.moo_value.specs.Size.{weight_limit}
use Rattle.moo_command.specs.Prepositions.{Splits, joined}
use Rattle.moo_command.specs.Objects.{matched}
use Rattle.moo_command.specs.Inner.{parts_of}
use Rattle.moo_command.proofs.Joining.{taken_fits, range_fits}
use Rattle.moo_command.proofs.Splits.{rest_whole}
use Rattle.moo_command.proofs.OneCommand.{same_command}
use Rattle.moo_command.proofs.parsing.command.Goals as goal

pub joined-requires : goal.joined-requires
joined-requires c =
    subst (λ (ws : List (List ℕ)). length (joined (take c.split-preposition.result.at ws)) < weight_limit) (sym c.deref-2.ensures.value) (
    taken_fits c.split-preposition.result.at c.args.typed.args.items c.requires
    )

pub joined-requires-2 : goal.joined-requires-2
joined-requires-2 c =
    subst (λ (ws : List (List ℕ)). length (joined (slice_range ws c.split-preposition.result.at c.split-preposition.result.following)) < weight_limit) (sym c.deref-3.ensures.value) (
    range_fits c.split-preposition.result.at c.split-preposition.result.following c.args.typed.args.items c.requires
    )

pub joined-requires-3 : goal.joined-requires-3
joined-requires-3 c =
    subst (λ (ws : List (List ℕ)). length (joined (slice_range ws c.split-preposition.result.following (length ws))) < weight_limit) (sym c.deref-4.ensures.value) (
    range_fits c.split-preposition.result.following (length c.args.typed.args.items) c.args.typed.args.items c.requires
    )

pub returns : goal.returns
returns c =
    let args : List (List ℕ) = c.args.typed.args.items in
    let at : ℕ = c.split-preposition.result.at in
    let following : ℕ = c.split-preposition.result.following in
    let player_fits : SFits w32 c.args.player = search rules in
    let player : to_z w32 (of_z w32 c.args.player) ≡ c.args.player = to_z-of_z w32 c.args.player player_fits in
    let direct_fits : SFits w32 c.match_object.result = search rules in
    let between_fits : SFits w32 c.number_or_none.result = search rules in
    let indirect_fits : SFits w32 c.match_object-2.result = search rules in
    let inside : following ≤ length args = subst (λ (ws : List (List ℕ)). following ≤ length ws) c.deref.ensures.value c.split-preposition.ensures.inside in
    same_command c.args.world.now c.args.player c.args.typed.verb c.args.typed.rest args c.split-preposition.result _ _ _ _ _ _
    (c.in_ok-dobjstr.ensures ∙ ap (λ (ws : List (List ℕ)). joined (take at ws)) c.deref-2.ensures.value)
    (c.in_ok-prepstr.ensures ∙ ap (λ (ws : List (List ℕ)). joined (slice_range ws at following)) c.deref-3.ensures.value)
    (c.in_ok-iobjstr.ensures ∙ ap (λ (ws : List (List ℕ)). joined (slice_range ws following (length ws))) c.deref-4.ensures.value ∙ ap joined (rest_whole args following inside))
    (to_z-of_z w32 c.match_object.result direct_fits ∙ c.match_object.ensures ∙ ap (matched c.args.world.now (to_z w32 (of_z w32 c.args.player))) c.as_bytes.ensures.value
    ∙ ap (λ o. matched c.args.world.now o c.in_ok-dobjstr.dobjstr) player)
    (to_z-of_z w32 c.number_or_none.result between_fits ∙ c.number_or_none.ensures)
    (to_z-of_z w32 c.match_object-2.result indirect_fits ∙ c.match_object-2.ensures ∙ ap (matched c.args.world.now (to_z w32 (of_z w32 c.args.player))) c.as_bytes-2.ensures.value
    ∙ ap (λ o. matched c.args.world.now o c.in_ok-iobjstr.iobjstr) player)
    (subst (λ (ws : List (List ℕ)). Splits ws (parts_of ws c.split-preposition.result)) c.deref.ensures.value c.split-preposition.ensures.parts)
