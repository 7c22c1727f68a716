use Rattle.std.proofs.Common.{rules, refl, ◌≡◌, ℕ, ◌≤◌, length, List, [], ◌++◌, sym, ◌∙◌, ap, subst}
use Rattle.moo_session_connection.specs.Outbox.{Bytes, Outbox, no_bytes, sent_waiting, sent_under_way}
use Rattle.moo_session_connection.specs.Rows.{committed, all_changed, OnlyTouched}
use Rattle.moo_session_connection.proofs.OutboxRows.{row, committed_waits, committed_none, still_none}
use Rattle.moo_session_connection.proofs.outbox.Outbox.commit.Goals as goal

pub invariant_of-self : goal.invariant_of-self
invariant_of-self c =
    let rows : List Bytes = c.self.inside.rows.items in
    let touched : List ℕ = c.self.inside.touched.items in
    let only : OnlyTouched rows touched = c.self.invariant.1 in
    let e : c.commit_all.new.rows.items ≡ all_changed committed touched rows = c.commit_all.ensures ∙ ap (λ (ns : List ℕ). all_changed committed ns rows) c.deref.ensures.value in
    let fits : c.len-self-inside.result ≤ length c.self.inside.log.items = search rules in (
      fits,
      λ n nowhere. subst (λ (rs : List Bytes). (row rs n).under_way ≡ []) (sym e) (committed_none touched rows only n),
      λ n none. subst (λ (rs : List Bytes). row rs n ≡ no_bytes) (sym e) (still_none committed refl touched rows n (c.self.invariant.2 n none)),
    )

pub returns-clause-sent : goal.returns-clause-sent
returns-clause-sent c =
    let rows : List Bytes = c.self.inside.rows.items in
    let touched : List ℕ = c.self.inside.touched.items in
    let only : OnlyTouched rows touched = c.self.invariant.1 in
    let e : c.commit_all.new.rows.items ≡ all_changed committed touched rows = c.commit_all.ensures ∙ ap (λ (ns : List ℕ). all_changed committed ns rows) c.deref.ensures.value in
    λ n. ap (λ (rs : List Bytes). (row rs n).waiting) e ∙ committed_waits touched rows only n ∙ ap (λ (o : Outbox). sent_waiting o n ++ sent_under_way o n) c.self.view_is

pub returns-clause-none : goal.returns-clause-none
returns-clause-none c =
    let rows : List Bytes = c.self.inside.rows.items in
    let touched : List ℕ = c.self.inside.touched.items in
    let only : OnlyTouched rows touched = c.self.invariant.1 in
    let e : c.commit_all.new.rows.items ≡ all_changed committed touched rows = c.commit_all.ensures ∙ ap (λ (ns : List ℕ). all_changed committed ns rows) c.deref.ensures.value in
    λ n. ap (λ (rs : List Bytes). (row rs n).under_way) e ∙ committed_none touched rows only n
