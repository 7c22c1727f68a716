-- The variables that a frame begins with.
use Rattle.std.proofs.Common.{◌≡◌, ℕ, ℤ, List, [], ◌∷◌, ◌++◌, take, drop, codes, Option, Some, Result, Ok, Err, IfOk, cond, map, refl, sym, ap, ◌∙◌}
use Rattle.std.specs.declared.alloc.AllocError.{AllocError}
use Rattle.std.specs.Option.{option_map}
use Rattle.std.specs.List.{find}
use Rattle.std.specs.Str.{bytes_eq}
use Rattle.moo_value.specs.declared.value.Value.{Value}
use Rattle.moo_value.specs.Tree.{Tree, object, string, list_of}
use Rattle.moo_value.specs.Compare.{folded}
use Rattle.moo_value.specs.View.{tree}
use Rattle.moo_syntax_ast.specs.Given.{given_names}
use Rattle.moo_eval_frame.specs.declared.frame.Frame.{Frame}
use Rattle.moo_eval_frame.specs.declared.frame.Running.{Running}
use Rattle.moo_eval_frame.specs.Shared.{Shared, types_of, types}
use Rattle.moo_eval_frame.specs.declared.variables.Variables.{Variables}
use Rattle.moo_eval_frame.specs.State.{running_of}
use Rattle.moo_eval_frame.specs.Variables.{type_bindings, first_bindings, own_bindings, called_variables}
use Rattle.moo_eval_slot.specs.Bindings.{Binding, bind, value_of_name, with_variable}
use Rattle.moo_eval_frame.specs.declared.given_values.GivenValues.{GivenValues}
use Rattle.moo_eval_frame.specs.GivenValues.{given_values, values_with, command_of, command_in}
use Rattle.moo_eval_frame.specs.Seen.{seen_values, bound_values, variables_of}
use Rattle.moo_eval_slot.specs.Held.{slot_value}
use Rattle.moo_eval_slot.proofs.Names.{split}
use Rattle.moo_eval_frame.proofs.Newest.{first}

-- these values of the names of types and of the command among those of a frame
abbrev laid : Running → ℤ → List Tree → List Tree → List Tree → List (Option Tree)
laid f caller args (num ∷ int ∷ obj ∷ str ∷ err ∷ row ∷ float ∷ []) (dobj ∷ iobj ∷ argstr ∷ dobjstr ∷ prepstr ∷ iobjstr ∷ []) =
    Some num
    ∷ Some int
    ∷ Some obj
    ∷ Some str
    ∷ Some err
    ∷ Some row
    ∷ Some float
    ∷ Some (object f.player)
    ∷ Some (object f.this)
    ∷ Some (object caller)
    ∷ Some dobj
    ∷ Some iobj
    ∷ Some (string f.verb)
    ∷ Some argstr
    ∷ Some dobjstr
    ∷ Some prepstr
    ∷ Some iobjstr
    ∷ Some (list_of args)
    ∷ []
laid f caller args _ _ = []

-- the bindings of a frame that has this of the command, in the order of the names
abbrev told : Running → ℤ → List Tree → Tree → Tree → Tree → Tree → Tree → Tree → List Binding
told f caller args dobj iobj argstr dobjstr prepstr iobjstr =
    type_bindings
    ++ bind (codes "player") (object f.player)
    ∷ bind (codes "this") (object f.this)
    ∷ bind (codes "caller") (object caller)
    ∷ bind (codes "dobj") dobj
    ∷ bind (codes "iobj") iobj
    ∷ bind (codes "verb") (string f.verb)
    ∷ bind (codes "argstr") argstr
    ∷ bind (codes "dobjstr") dobjstr
    ∷ bind (codes "prepstr") prepstr
    ∷ bind (codes "iobjstr") iobjstr
    ∷ bind (codes "args") (list_of args)
    ∷ []

first_values : (f : Frame) (s : Shared) → types_of s ≡ types → command_of s ≡ command_in f → values_with (running_of f) f.caller f.args s ≡ bound_values (first_bindings f)
first_values f s t c = ap (λ ts. laid (running_of f) f.caller f.args ts (command_of s)) t ∙ ap (laid (running_of f) f.caller f.args types) c

handed_values : (f : Running) (caller : ℤ) (args : List Tree) (s t : Shared) → types_of s ≡ types → command_of s ≡ command_of t → values_with f caller args s ≡ bound_values (told f caller args (tree t.dobj) (tree t.iobj) (tree t.argstr) (tree t.dobjstr) (tree t.prepstr) (tree t.iobjstr))
handed_values f caller args s t e c = ap (λ ts. laid f caller args ts (command_of s)) e ∙ ap (laid f caller args types) c

-- Values by the names of bindings bind them.
bound : (bs : List Binding) (values : List (Option Value)) (n : List ℕ) → seen_values values ≡ bound_values bs → slot_value (map (λ b. b.name) bs) values (value_of_name []) n ≡ value_of_name bs n
bound [] values n e = refl
bound (b ∷ bs) [] n e = let whole : ◌≡◌ {A = List (Option Tree)} [] (Some b.value ∷ bound_values bs) = e in absurd cc
bound (b ∷ bs) (x ∷ values) n e =
    let whole : ◌≡◌ {A = List (Option Tree)} (option_map (λ v. tree v) x ∷ seen_values values) (Some b.value ∷ bound_values bs) = e in
    let value : option_map (λ v. tree v) x ≡ Some b.value = cc in
    let others : seen_values values ≡ bound_values bs = cc in
    ap (λ y. cond (bytes_eq (folded b.name) n) y (slot_value (map (λ c. c.name) bs) values (value_of_name []) n)) value
    ∙ ap (cond (bytes_eq (folded b.name) n) (Some b.value)) (bound bs values n others)
    ∙ sym (split (bytes_eq (folded b.name) n) b (find (λ y. bytes_eq (folded y.name) n) bs))

first_bound : (f : Frame) (s : Shared) (values : List (Option Value)) → seen_values values ≡ values_with (running_of f) f.caller f.args s → types_of s ≡ types → command_of s ≡ command_in f → slot_value given_names values (value_of_name []) ≡ value_of_name (first_bindings f)
unfolding given_names
first_bound f s values e t c = λ j n. bound (first_bindings f) values n (e ∙ first_values f s t c) j

-- The variables of the command are taken over one after another.
commanded : (f : Running) (caller : ℤ) (args : List Tree) (dobj iobj argstr dobjstr prepstr iobjstr : Tree) →
    value_of_name (told f caller args dobj iobj argstr dobjstr prepstr iobjstr)
    ≡ with_variable (with_variable (with_variable (with_variable (with_variable (with_variable (value_of_name (own_bindings f caller args)) (bind (codes "argstr") argstr)) (bind (codes "dobj") dobj)) (bind (codes "dobjstr") dobjstr)) (bind (codes "prepstr") prepstr)) (bind (codes "iobj") iobj)) (bind (codes "iobjstr") iobjstr)
commanded f caller args dobj iobj argstr dobjstr prepstr iobjstr =
    let all = told f caller args dobj iobj argstr dobjstr prepstr iobjstr in
    let five = take 16 all ++ drop 17 all in
    let four = take 11 five ++ drop 12 five in
    let three = take 14 four ++ drop 15 four in
    let two = take 13 three ++ drop 14 three in
    let one = take 10 two ++ drop 11 two in
    first (codes "iobjstr") iobjstr (take 16 all) (drop 17 all) refl
    ∙ ap (λ v. with_variable v (bind (codes "iobjstr") iobjstr)) (first (codes "iobj") iobj (take 11 five) (drop 12 five) refl
    ∙ ap (λ v. with_variable v (bind (codes "iobj") iobj)) (first (codes "prepstr") prepstr (take 14 four) (drop 15 four) refl
    ∙ ap (λ v. with_variable v (bind (codes "prepstr") prepstr)) (first (codes "dobjstr") dobjstr (take 13 three) (drop 14 three) refl
    ∙ ap (λ v. with_variable v (bind (codes "dobjstr") dobjstr)) (first (codes "dobj") dobj (take 10 two) (drop 11 two) refl
    ∙ ap (λ v. with_variable v (bind (codes "dobj") dobj)) (first (codes "argstr") argstr (take 11 one) (drop 12 one) refl)))))

handed_bound : (f : Running) (caller : ℤ) (args : List Tree) (s : Shared) (variables : Variables) (values : List (Option Value)) → seen_values values ≡ values_with f caller args s → types_of s ≡ types → command_of s ≡ command_of variables.given.shared.value → slot_value given_names values (value_of_name []) ≡ called_variables f caller args (variables_of variables)
unfolding given_names variables_of
handed_bound f caller args s variables values e t c =
    let shared = variables.given.shared.value in
    let all = told f caller args (tree shared.dobj) (tree shared.iobj) (tree shared.argstr) (tree shared.dobjstr) (tree shared.prepstr) (tree shared.iobjstr) in
    (λ j n. bound all values n (e ∙ handed_values f caller args s shared t c) j)
    ∙ commanded f caller args (tree shared.dobj) (tree shared.iobj) (tree shared.argstr) (tree shared.dobjstr) (tree shared.prepstr) (tree shared.iobjstr)

-- what a frame begins with is the values that a call hands on
pub handed_so : (f : Running) (caller : ℤ) (args : List Tree) (variables : Variables) (r : Result GivenValues AllocError) →
    IfOk r (λ given. seen_values (given_values given) ≡ values_with f caller args given.shared.value) → IfOk r (λ given. types_of given.shared.value ≡ types) → IfOk r (λ given. command_of given.shared.value ≡ command_of variables.given.shared.value) →
    IfOk r (λ given. slot_value given_names (given_values given) (value_of_name []) ≡ called_variables f caller args (variables_of variables))
handed_so f caller args variables (Ok given) e t c = handed_bound f caller args given.shared.value variables (given_values given) e t c
handed_so f caller args variables (Err failed) e t c = tt

pub first_so : (f : Frame) (r : Result GivenValues AllocError) →
    IfOk r (λ given. seen_values (given_values given) ≡ values_with (running_of f) f.caller f.args given.shared.value) → IfOk r (λ given. types_of given.shared.value ≡ types) → IfOk r (λ given. command_of given.shared.value ≡ command_in f) →
    IfOk r (λ given. slot_value given_names (given_values given) (value_of_name []) ≡ value_of_name (first_bindings f))
first_so f (Ok given) e t c = first_bound f given.shared.value (given_values given) e t c
first_so f (Err failed) e t c = tt
