use Rattle.std.proofs.Common.{rules, refl, ◌≡◌, ℕ, ◌≤◌, length, List, [], sym, ◌∙◌, ap, subst}
use Rattle.moo_session_connection.specs.Outbox.{Bytes, Outbox, no_bytes, sent_waiting}
use Rattle.moo_session_connection.specs.Rows.{rolled_back, all_changed, OnlyTouched}
use Rattle.moo_session_connection.proofs.OutboxRows.{row, rolled_back_waits, rolled_back_none, still_none}
use Rattle.moo_session_connection.proofs.outbox.Outbox.rollback.Goals as goal

pub invariant_of-self : goal.invariant_of-self
invariant_of-self c =
    let rows : List Bytes = c.self.inside.rows.items in
    let touched : List ℕ = c.self.inside.touched.items in
    let only : OnlyTouched rows touched = c.self.invariant.1 in
    let e : c.rollback_all.new.rows.items ≡ all_changed rolled_back touched rows = c.rollback_all.ensures ∙ ap (λ (ns : List ℕ). all_changed rolled_back ns rows) c.deref.ensures.value in
    let fits : c.self.inside.settled ≤ length c.truncate.new.self.items = search rules in (
      fits,
      λ n nowhere. subst (λ (rs : List Bytes). (row rs n).under_way ≡ []) (sym e) (rolled_back_none touched rows only n),
      λ n none. subst (λ (rs : List Bytes). row rs n ≡ no_bytes) (sym e) (still_none rolled_back refl touched rows n (c.self.invariant.2 n none)),
    )

pub returns-clause-sent : goal.returns-clause-sent
returns-clause-sent c =
    let rows : List Bytes = c.self.inside.rows.items in
    let touched : List ℕ = c.self.inside.touched.items in
    let only : OnlyTouched rows touched = c.self.invariant.1 in
    let e : c.rollback_all.new.rows.items ≡ all_changed rolled_back touched rows = c.rollback_all.ensures ∙ ap (λ (ns : List ℕ). all_changed rolled_back ns rows) c.deref.ensures.value in
    λ n. ap (λ (rs : List Bytes). (row rs n).waiting) e ∙ rolled_back_waits touched rows n ∙ ap (λ (o : Outbox). sent_waiting o n) c.self.view_is

pub returns-clause-none : goal.returns-clause-none
returns-clause-none c =
    let rows : List Bytes = c.self.inside.rows.items in
    let touched : List ℕ = c.self.inside.touched.items in
    let only : OnlyTouched rows touched = c.self.invariant.1 in
    let e : c.rollback_all.new.rows.items ≡ all_changed rolled_back touched rows = c.rollback_all.ensures ∙ ap (λ (ns : List ℕ). all_changed rolled_back ns rows) c.deref.ensures.value in
    λ n. ap (λ (rs : List Bytes). (row rs n).under_way) e ∙ rolled_back_none touched rows only n
