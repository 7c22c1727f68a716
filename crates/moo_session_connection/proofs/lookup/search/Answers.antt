use Rattle.std.proofs.Common.{rules}
use Rattle.std.proofs.lemmas.List.Sorted.{answers_always}
use Rattle.moo_session_connection.proofs.Search.{searched}
use Rattle.moo_session_connection.proofs.lookup.search.Goals as goal

pub returns-clause-found : goal.returns-clause-found
returns-clause-found c =
    let facts = c.binary_search_by_key.ensures in
    let by_key = facts.position (λ connection. connection.number) (answers_always _ _ _ (λ f a r g called. search rules)) in
    (searched c.args.row.now c.requires c.args.number c.binary_search_by_key.result facts.bound by_key).found

pub returns-clause-absent : goal.returns-clause-absent
returns-clause-absent c =
    let facts = c.binary_search_by_key.ensures in
    let by_key = facts.position (λ connection. connection.number) (answers_always _ _ _ (λ f a r g called. search rules)) in
    (searched c.args.row.now c.requires c.args.number c.binary_search_by_key.result facts.bound by_key).absent
