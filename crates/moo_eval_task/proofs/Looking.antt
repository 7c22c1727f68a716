-- Calls of functions that look at an object.
use Rattle.std.proofs.Common.{◌≡◌, ℕ, ◌<◌, ℤ, List, [], ◌∷◌, Option, None, Some, Ok, refl, sym, ap, subst, ◌∙◌}
use Rattle.moo_value.specs.Tree.{Tree, object}
use Rattle.moo_syntax_ast.specs.Tree.{Expr, call, element, no_items}
use Rattle.moo_syntax_function.specs.declared.function.Function.{Function}
use Rattle.moo_syntax_function.specs.declared.function.Function.TheVariants as function
use Rattle.moo_syntax_function.specs.Names.{function_of}
use Rattle.moo_builtin_world.specs.Calls.{Shows, looking}
use Rattle.moo_builtin.specs.Telling.{Faults}
use Rattle.moo_builtin.specs.declared.call.Caller.{Caller}
use Rattle.moo_builtin.specs.Calls.{field, objects, follows, Follows}
use Rattle.moo_world_table.specs.World.{World}
use Rattle.moo_eval_frame.specs.State.{Context}
use Rattle.moo_eval_access.specs.State.{State, ticked}
use Rattle.moo_eval_semantics.specs.Calls.{CallsFunction, task_function}
use Rattle.moo_eval_semantics.specs.VerbCalls.{verb_caller}
use Rattle.moo_eval_semantics.specs.Meaning.{Computes, applies, no_more, element_then, call_is}
use Rattle.moo_eval_task.specs.Leaves.{GivesLeaf}

-- a function that looks reads the objects of the world, and is neither one of the task nor one that calls verbs
plain : (f : Function) (w : World) (p : ℤ) (args : List Tree) {v : Tree} → looking f w p args ≡ Some (Ok v) → (verb_caller (Some f) ≡ None) × (task_function (Some f) ≡ None) × (field f ≡ objects)
plain function.Valid w p args h = (refl, refl, refl)
plain function.Parent w p args h = (refl, refl, refl)
plain function.Children w p args h = (refl, refl, refl)
plain function.MaxObject w p args h = (refl, refl, refl)
plain function.Players w p args h = (refl, refl, refl)
plain function.IsPlayer w p args h = (refl, refl, refl)
plain function.Properties w p args h = (refl, refl, refl)
plain function.PropertyInfo w p args h = (refl, refl, refl)
plain function.IsClearProperty w p args h = (refl, refl, refl)
plain function.Verbs w p args h = (refl, refl, refl)
plain function.VerbInfo w p args h = (refl, refl, refl)
plain function.VerbArgs w p args h = (refl, refl, refl)
plain _ w p args h = cc

-- what such a function gives
shown_follows : (f : Function) (w : World) (o : ℤ) (v : Tree) (c : Caller) → field f ≡ objects → Shows f w o v → Follows (field f) Faults f (object o ∷ []) w c (Ok v) w
shown_follows f w o v c is shows =
    subst (λ k. Follows k Faults f (object o ∷ []) w c (Ok v) w) (sym is) (rw (shows.1 c.programmer) (refl, refl))

-- the call of such a function gives what it shows, and the state stays
shown_calls : (f : Function) (name : List ℕ) (o : ℤ) (v : Tree) (c : Context) (s : State) → function_of name ≡ Some f → Shows f s.world o v → CallsFunction Faults c name (object o ∷ []) s (Ok v) s
shown_calls f name o v c s is shows =
    let p = plain f s.world s.programmer (object o ∷ []) (shows.1 s.programmer) in
    rw (is, p.1) (Ok v, s.world, follows is shows.0 (shown_follows f s.world o v _ p.2 shows), refl, refl)

-- a call of such a function, whose own tick was taken
pub shown_computes : (variables : List ℕ → Option Tree) (f : Function) (name : List ℕ) (e : Expr) (o : ℤ) (v : Tree) (c : Context) (s : State) → function_of name ≡ Some f → GivesLeaf variables e (object o) → Shows f s.world o v → s.variables ≡ variables → 0 < s.ticks → Computes Faults c (call name (element e no_items)) s (Ok v) (ticked s)
shown_computes variables f name e o v c s is gives shows same z =
    applies (element_then (gives c s same z) no_more refl) no_more (call_is (ap verb_caller is ∙ (plain f s.world s.programmer (object o ∷ []) (shows.1 s.programmer)).0) (shown_calls f name o v _ _ is shows))
