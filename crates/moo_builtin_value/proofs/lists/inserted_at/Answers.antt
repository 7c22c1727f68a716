use Rattle.std.proofs.Common.{rules, ℕ, ◌+◌, ◌-◌, FitsSigned, w32, ap, subst, ◌∙◌, ◌≡◌, length}
use Rattle.std.proofs.lemmas.Int.{to_z-of_z}
use Rattle.moo_value.specs.TreeCode.{trees_of-elements_of}
use Rattle.moo_value.specs.View.{tree}
use Rattle.moo_builtin_operator.proofs.Lists.{length-trees}
use Rattle.moo_builtin_value.specs.TextAnswers.{Gives}
use Rattle.moo_builtin_value.specs.Lists.{brought_to, put_in}
use Rattle.moo_builtin_value.proofs.lists.inserted_at.Goals as goal

pub returns-in-List-Int : goal.returns-in-List-Int
returns-in-List-Int c =
    let fits : FitsSigned w32 c.in-List-Int.place = search rules in
    let list = c.in-List-Int.list in
    let place = c.in-List-Int.place in
    let brought = simp to_z-of_z at c.brought_to.ensures in
    let long : length c.elements.result.now ≡ length list = length-trees _ _ c.elements.ensures.value in
    let before : c.saturating_sub-before.result ≡ brought_to place (length list + 1) - 1 =
    c.saturating_sub-before.ensures ∙ ap (λ k. k - 1) (brought ∙ ap (λ k. brought_to place (k + 1)) long) in
    let P : ℕ → Type 0 = λ k. Gives c.put_in.result (put_in list k (tree c.args.value)) in
    rw (c.in-List-Int.is-0, c.in-List-Int.is-1, trees_of-elements_of) (subst P before c.put_in.ensures)
