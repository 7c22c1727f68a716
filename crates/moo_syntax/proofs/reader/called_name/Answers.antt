use Rattle.std.proofs.Common.{arith, ap, ◌∙◌, ◌∷◌}
use Rattle.moo_syntax_token.specs.declared.token.Token.TheVariants.{Name}
use Rattle.moo_syntax.specs.Cursor.{left}
use Rattle.moo_syntax.proofs.reader.called_name.Goals as goal

pub returns-then-take : goal.returns-then-take
returns-then-take c =
    let name = rw c.in-Some-2.is at c.in_ok-name.ensures in
    record {
      before = c.in-Some.before;
      place = omega (arith, c.in-Some.ensures);
      rest = left c.take.new.self;
      called = name.token ∙ ap (λ ts. Name c.in-Some-2.name ∷ ts) c.if-take.ensures.token;
    }
