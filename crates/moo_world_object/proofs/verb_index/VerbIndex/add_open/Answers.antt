use Rattle.std.proofs.Common.{◌≡◌, ◌∙◌, true, ap, sym, subst}
use Rattle.moo_world_object.specs.Patterns.{is_star}
use Rattle.moo_syntax_ast.specs.NameHash.{first_letter, class_of}
use Rattle.moo_world_object.specs.Filter.{passes}
use Rattle.moo_world_object.specs.Index.{Holds}
use Rattle.moo_world_object.proofs.Index.{PassesLetter, open_covers}
use Rattle.moo_world_object.proofs.verb_index.VerbIndex.add_open.Goals as goal

pub returns-then-is_star-clause-covers : goal.returns-then-is_star-clause-covers
returns-then-is_star-clause-covers c = λ name fit. c.add_to_all.ensures.all name

pub returns-clause-covers : goal.returns-clause-covers
returns-clause-covers c =
    let first = c.first_letter-first.ensures in
    let plain = ap is_star (sym first) ∙ sym c.is_star.ensures ∙ c.if-is_star.false in
    let class = c.class_of.ensures.value ∙ ap class_of first in
    let passed : PassesLetter c.add.new.self (first_letter c.args.pattern.now) = λ hash. c.add.ensures.grows.3 (first_letter c.args.pattern.now) hash (subst (λ l. passes c.add_letter.new.self.words l hash ≡ true) first (c.add_letter.ensures.added hash)) in
    open_covers c.add.new.self c.args.place c.args.pattern.now plain passed (subst (λ j. Holds c.add.new.self j c.args.place) class c.add.ensures.holds)
