use Rattle.std.proofs.Common.{List, subst, sym}
use Rattle.moo_value.specs.Tree.{Tree}
use Rattle.moo_value.specs.TreeCode.{trees_of-elements_of}
use Rattle.moo_value.specs.View.{tree}
use Rattle.moo_builtin_value.specs.TextAnswers.{Gives}
use Rattle.moo_builtin_value.specs.Lists.{put_in}
use Rattle.moo_builtin_value.proofs.lists.inserted.Goals as goal

pub returns-in-List : goal.returns-in-List
returns-in-List c =
    let P : List Tree → Type 0 = λ ts. Gives c.put_in.result (put_in ts 0 (tree c.args.value)) in
    rw c.in-List.is (subst P (sym (trees_of-elements_of c.in-List.list)) c.put_in.ensures)
