-- The lines of a handler, up to the next.
use Rattle.std.specs.Prelude.{ℕ, List, ◌∷◌, ◌++◌, Some, None}
use Rattle.moo_syntax_ast.specs.View.{codes_of, statements}
use Rattle.moo_syntax_ast.specs.declared.tree.Handler.{Handler, Except', ExceptAs'}
use Rattle.moo_unparse.specs.declared.form.Form.{Form}
use Rattle.moo_unparse.specs.Listings.{except_head, deeper, lines}

abbrev pub handler_lines : Form → (margin : List ℕ) → Handler → List (List ℕ)
handler_lines f m (Except' c shape ss) = (m ++ except_head f.parentheses None (codes_of c)) ∷ lines f (deeper f m) (statements ss)
handler_lines f m (ExceptAs' s c shape ss) = (m ++ except_head f.parentheses (Some s) (codes_of c)) ∷ lines f (deeper f m) (statements ss)
