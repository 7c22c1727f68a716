use Rattle.std.proofs.Common.{◌∙◌, sym, ap, subst}
use Rattle.std.proofs.lemmas.Bool.{false≢true}
use Rattle.moo_syntax_ast.specs.NameHash.{first_letter}
use Rattle.moo_world_object.specs.Verbs.{fits_verb}
use Rattle.moo_world_object.specs.Filter.{passes}
use Rattle.moo_world_object.specs.Index.{AreIndexed}
use Rattle.moo_world_object.proofs.Letters.{none_at}
use Rattle.moo_world_object.proofs.Index.{outside}
use Rattle.moo_world_object.proofs.verb_list.VerbList.position_named.Goals as goal

pub returns-then-not-passes : goal.returns-then-not-passes
returns-then-not-passes c =
    let indexed = subst (λ vs. AreIndexed c.self.inside.index vs) c.self.view_is c.self.invariant.2 in
    let words = c.self.inside.index.filter.words in
    none_at (fits_verb c.args.need c.args.name.now) c.args.self.now
    (λ k d low. outside c.self.inside.index c.args.self.now c.args.need c.args.name.now k d indexed low (λ listed. false≢true (sym c.if-not-passes.true ∙ c.passes.ensures ∙ ap (λ l. passes words l c.hash.result) c.first_letter.ensures ∙ ap (passes words (first_letter c.args.name.now)) c.hash.ensures ∙ listed.0)))
