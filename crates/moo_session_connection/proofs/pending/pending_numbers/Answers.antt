use Rattle.std.proofs.Common.{ℕ, List, Contains, inl, inr, ⊎_elim, sym, ◌∙◌, ap, subst}
use Rattle.std.specs.List.{list_any}
use Rattle.std.proofs.lemmas.List.Elements.{Contains-append_cases}
use Rattle.std.proofs.lemmas.List.Filters.{dedup_is}
use Rattle.moo_session_connection.specs.Clients.{is_number}
use Rattle.moo_session_connection.proofs.Listed.{leaves, none_first, none_leaves, sorted_adds_none, sorted_keeps, sorted_rises}
use Rattle.moo_session_connection.proofs.pending.pending_numbers.Goals as goal

pub returns-clause-all : goal.returns-clause-all
returns-clause-all c k none =
    let joined = c.extend_from_slice.new.self.items in
    let none_joined : Contains joined k → ⊥ =
    λ there. none (sorted_keeps joined c.sort_unstable.new.self.items c.dedup.new.self.items c.sort_unstable.ensures.permutation (dedup_is _ _ _ c.dedup.ensures.filtered) k there) in (
      c.in_ok-numbers.ensures.all k (none_first c.in_ok-numbers.numbers.items c.leaving.result.now joined k c.in_ok-extend_from_slice.ensures.items none_joined),
      ap (λ (ns : List ℕ). list_any (is_number k) ns) (sym c.leaving.ensures)
          ∙ none_leaves c.in_ok-numbers.numbers.items c.leaving.result.now joined k c.in_ok-extend_from_slice.ensures.items none_joined,
    )

pub returns-clause-only : goal.returns-clause-only
returns-clause-only c k there =
    let joined = c.extend_from_slice.new.self.items in
    ⊎_elim
    (λ first. inl (c.in_ok-numbers.ensures.only k first))
    (λ after. inr (ap (λ (ns : List ℕ). list_any (is_number k) ns) (sym c.leaving.ensures) ∙ leaves c.leaving.result.now k after))
    (Contains-append_cases c.in_ok-numbers.numbers.items c.leaving.result.now k (subst (λ (ns : List ℕ). Contains ns k) c.in_ok-extend_from_slice.ensures.items
    (sorted_adds_none joined c.sort_unstable.new.self.items c.dedup.new.self.items c.sort_unstable.ensures.permutation (dedup_is _ _ _ c.dedup.ensures.filtered) k there)))

pub returns-clause-rising : goal.returns-clause-rising
returns-clause-rising c = sorted_rises c.sort_unstable.new.self.items c.dedup.new.self.items c.sort_unstable.ensures.sorted (dedup_is _ _ _ c.dedup.ensures.filtered)
