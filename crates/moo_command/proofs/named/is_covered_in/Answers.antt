use Rattle.std.proofs.Common.{◌∙◌, sym, ap, Some}
use Rattle.std.specs.List.{list_any}
use Rattle.moo_value.specs.View.{tree}
use Rattle.moo_command.specs.Objects.{strings_in}
use Rattle.moo_command.specs.Inner.{covers, is_covered}
use Rattle.moo_command.proofs.Naming.{any_mapped, covered_in_list}
use Rattle.moo_command.proofs.named.is_covered_in.Goals as goal

pub returns-in-List : goal.returns-in-List
returns-in-List c =
    c.has_covered.ensures
    ∙ sym (any_mapped (is_covered c.args.extent c.args.text.now) tree c.elements.result.now)
    ∙ ap (list_any (is_covered c.args.extent c.args.text.now)) c.elements.ensures.value
    ∙ sym (covered_in_list c.args.extent c.args.text.now c.in-List.list)
    ∙ ap (λ v. list_any (covers c.args.extent c.args.text.now) (strings_in (Some (tree v)))) (sym c.in-List.is)
