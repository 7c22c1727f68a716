use Rattle.std.proofs.Common.{◌≡◌, sym, ap, ◌∙◌}
use Rattle.std.proofs.lemmas.Bool.{eqb-true}
use Rattle.moo_syntax_ast.specs.Given.{given_of}
use Rattle.moo_syntax_ast.proofs.Spelled.{same_numbers}
use Rattle.moo_syntax_ast.proofs.name.Name.is_known_as.Goals as goal

pub returns-then-self-other : goal.returns-then-self-other
returns-then-self-other c =
    let known = c.if-self-eq0.false in
    let first = c.if-self-other.true in
    let own = c.self.invariant.2 known in
    record {
      same = λ t.
          let further : c.self.inside.further ≡ c.other.inside.further = eqb-true _ _ t in
          sym c.self.view_is ∙ same_numbers _ _ first further c.self.invariant.1 c.other.invariant.1 own.1 (c.other.invariant.2 (λ z. known (first ∙ z))).1 ∙ c.other.view_is;
      own = λ t. ap given_of (sym c.self.view_is) ∙ sym c.self.invariant.0 ∙ own.0;
    }
