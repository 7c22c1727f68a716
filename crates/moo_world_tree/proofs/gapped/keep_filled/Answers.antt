use Rattle.std.proofs.Common.{rules, ap, ◌∙◌}
use Rattle.std.specs.Option.{is_some}
use Rattle.std.proofs.lemmas.Fn.{filter_same}
use Rattle.moo_world_tree.specs.Gapped.{present}
use Rattle.moo_world_tree.proofs.Gaps.{present_filled}
use Rattle.moo_world_tree.proofs.gapped.keep_filled.Goals as goal

pub returns : goal.returns
returns c = ap present (filter_same _ (λ slot. is_some slot) _ (λ y b f' k. search rules) _ _ c.retain.ensures.filtered) ∙ present_filled c.args.slots.now.items
