use Rattle.std.proofs.Common.{ap, ◌∙◌, ℕ, List}
use Rattle.std.specs.Str.{bytes_eq}
use Rattle.std.proofs.lemmas.Bool.Decides.{same_from_decides}
use Rattle.std.proofs.lemmas.Slice.Eq.{bytes_eq-Decides}
use Rattle.moo_value.specs.Compare.{folded}
use Rattle.moo_syntax_function.proofs.Naming.{folded-name}
use Rattle.moo_syntax_function.proofs.names.is_called.Goals as goal

pub returns : goal.returns
returns c =
    let name = folded c.args.name.now in
    same_from_decides _ _ c.eq_ignore_ascii_case.ensures.test (bytes_eq-Decides (folded c.as_bytes.result.now) name)
    ∙ ap (λ (s : List ℕ). bytes_eq (folded s) name) (c.as_bytes.ensures.value ∙ c.name.ensures)
    ∙ ap (λ (s : List ℕ). bytes_eq s name) (folded-name c.args.function)
