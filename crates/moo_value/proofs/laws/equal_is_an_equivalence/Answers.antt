use Rattle.std.proofs.Common.{refl, sym, ◌∙◌}
use Rattle.moo_value.proofs.Equality.{equal_folded, folds_equal}
use Rattle.moo_value.proofs.laws.equal_is_an_equivalence.Goals as goal

pub returns : goal.returns
returns c = record {
  reflexive = λ t. equal_folded t t refl;
  symmetric = λ t u h. equal_folded u t (sym (folds_equal h));
  transitive = λ t u v h k. equal_folded t v (folds_equal h ∙ folds_equal k);
}
