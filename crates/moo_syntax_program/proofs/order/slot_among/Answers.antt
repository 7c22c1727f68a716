use Rattle.std.proofs.Common.{sym, rules, tests}
use Rattle.std.specs.Ordering.{nat_cmp}
use Rattle.std.specs.Cmp.Lexicographic.{slice_cmp}
use Rattle.std.proofs.lemmas.Fn.{always_returns_same}
use Rattle.moo_value.specs.Compare.{folded}
use Rattle.moo_syntax_program.proofs.Searched.{found, nowhere}
use Rattle.moo_syntax_program.proofs.order.slot_among.Goals as goal

pub returns-in-Ok : goal.returns-in-Ok
returns-in-Ok c = λ names o u.
    let name = folded c.args.name.now in
    sym (found names c.args.slots.now name o c.in-Ok.at c.index-slots-at.result c.in-Ok.ensures.bound u (c.in-Ok.ensures.position (λ s. slice_cmp nat_cmp s.name name) (always_returns_same _ _ _ (λ a r q k. search (rules, tests)))))

pub returns-in-Err : goal.returns-in-Err
returns-in-Err c = λ names o u.
    let name = folded c.args.name.now in
    sym (nowhere names c.args.slots.now name o c.in-Err.field-0 (c.in-Err.ensures.position (λ s. slice_cmp nat_cmp s.name name) (always_returns_same _ _ _ (λ a r q k. search (rules, tests)))))
