use Rattle.std.proofs.Common.{subst, rules, tests}
use Rattle.std.specs.List.Sorted.{IsPermutation}
use Rattle.std.specs.Cmp.Lexicographic.{nat_list_cmp_total}
use Rattle.std.proofs.lemmas.List.Sorted.{ranks_by, answers_always}
use Rattle.moo_syntax_program.proofs.order.ordered_slots.Goals as goal

pub returns : goal.returns
returns c = record {
  moved = subst (λ v. IsPermutation v c.sort_unstable_by.new.self.items) c.in_ok-slots.ensures c.sort_unstable_by.ensures.permutation;
  ordered = c.sort_unstable_by.ensures.sorted _ (ranks_by nat_list_cmp_total (λ s. s.name)) (answers_always _ _ _ (λ f a r q k. search (rules, tests)));
}
