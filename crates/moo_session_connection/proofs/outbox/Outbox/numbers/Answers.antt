use Rattle.std.proofs.Common.{◌≡◌, List, sym, ◌∙◌, ap}
use Rattle.std.specs.Prelude.{filter}
use Rattle.moo_session_connection.specs.Outbox.{Bytes, Outbox, sent_waiting}
use Rattle.moo_session_connection.specs.Rows.{has_waiting}
use Rattle.moo_session_connection.proofs.Filled.{kept_rise, kept_waits, none_kept}
use Rattle.moo_session_connection.proofs.outbox.Outbox.numbers.Goals as goal

pub returns-clause-all : goal.returns-clause-all
returns-clause-all c k none =
    let rows : List Bytes = c.self.inside.rows.items in
    let kept : c.keep_waiting.new.numbers.items ≡ filter (has_waiting rows) c.in_ok-numbers.numbers.items =
    c.keep_waiting.ensures ∙ ap (λ (rs : List Bytes). filter (has_waiting rs) c.in_ok-numbers.numbers.items) c.deref.ensures.value in
    sym (ap (λ (o : Outbox). sent_waiting o k) c.self.view_is)
    ∙ none_kept rows c.self.inside.filled c.in_ok-numbers.numbers.items c.keep_waiting.new.numbers.items k c.self.invariant.2 c.in_ok-numbers.ensures.all kept none

pub returns-clause-only : goal.returns-clause-only
returns-clause-only c k there =
    let rows : List Bytes = c.self.inside.rows.items in
    let kept : c.keep_waiting.new.numbers.items ≡ filter (has_waiting rows) c.in_ok-numbers.numbers.items =
    c.keep_waiting.ensures ∙ ap (λ (rs : List Bytes). filter (has_waiting rs) c.in_ok-numbers.numbers.items) c.deref.ensures.value in
    λ none. kept_waits rows c.in_ok-numbers.numbers.items c.keep_waiting.new.numbers.items k kept there (ap (λ (o : Outbox). sent_waiting o k) c.self.view_is ∙ none)

pub returns-clause-rising : goal.returns-clause-rising
returns-clause-rising c =
    let rows : List Bytes = c.self.inside.rows.items in
    let kept : c.keep_waiting.new.numbers.items ≡ filter (has_waiting rows) c.in_ok-numbers.numbers.items =
    c.keep_waiting.ensures ∙ ap (λ (rs : List Bytes). filter (has_waiting rs) c.in_ok-numbers.numbers.items) c.deref.ensures.value in
    kept_rise rows c.self.inside.filled c.in_ok-numbers.numbers.items c.keep_waiting.new.numbers.items c.elements_of.ensures.ordered c.in_ok-numbers.ensures.all kept
