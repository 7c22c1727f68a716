-- Expressions whose value is a changed list.
use Rattle.moo_syntax_ast.specs.Tree.{Expr, list, splice, element, no_items, call, range}
use Rattle.moo_syntax_node.specs.Source.{source, source_items}
use Rattle.moo_eval_access.specs.declared.form.ListForm.{ListForm}
use Rattle.moo_eval_access.specs.declared.form.ListForm.TheVariants as form

-- the expression of this form
abbrev pub form_source : ListForm → Expr
form_source (form.Appended l last) = list (splice (source l.now) (element (source last.now) no_items))
form_source (form.Prepended first l) = list (element (source first.now) (splice (source l.now) no_items))
form_source (form.Extended l more) = list (splice (source l.now) (source_items more.now))
form_source (form.Called f args) = call f.now (source_items args.now)
form_source (form.Part base low high) = range (source base.now) (source low.now) (source high.now)
