-- What a call of `tostr`, `min` or `max` comes to.
use Rattle.std.proofs.Common.{◌≡◌, ℕ, zero, suc, ◌+◌, ℤ, List, [], ◌∷◌, length, codes, Bool, true, false, not, ◌&&◌, nat_le, Option, None, Some, is_some, Result, Ok, Err, int_lt, refl, sym, ap, subst, ◌∙◌, arith, if◌then◌else◌}
use Rattle.std.proofs.lemmas.Bool.{le-leb}
use Rattle.moo_value.specs.declared.error_code.ErrorCode.{ErrorCode}
use Rattle.moo_value.specs.declared.error_code.ErrorCode.TheVariants.{Arguments, TypeMismatch, InvalidArgument}
use Rattle.moo_value.specs.declared.value.Value.{Value}
use Rattle.moo_value.specs.Tree.{Tree, integer, object, error, string, list}
use Rattle.moo_builtin_operator.specs.declared.fault.OperationFault.{OperationFault}
use Rattle.moo_builtin_operator.specs.declared.fault.OperationFault.TheVariants.{Raise, Memory}
use Rattle.moo_builtin_value.specs.TextAnswers.{Gives}
use Rattle.moo_builtin_value.specs.Conversions.{to_text}
use Rattle.moo_syntax_function.specs.declared.function.Function.{Function}
use Rattle.moo_syntax_function.specs.declared.function.Function.TheVariants as function
use Rattle.moo_syntax_function.specs.declared.table.Kind.TheVariants.{Any, Integer}
use Rattle.moo_syntax_function.specs.Table.{Row, row, takes_more}
use Rattle.moo_syntax_function.specs.Names.{function_of}
use Rattle.moo_syntax_function.specs.Check.{fits, kind_at, names_valid, holds_from, all_fit, all_valid, refusal}
use Rattle.moo_builtin_value.specs.declared.call.Outcome.{Outcome}
use Rattle.moo_builtin_value.specs.Numbers.{least_of, greatest_of}
use Rattle.moo_builtin_value.specs.Calls.{plainly, simply, answer, Tells}
use Rattle.moo_world_table.specs.World.{World}
use Rattle.moo_builtin_world.specs.Objects.{is_valid}
use Rattle.moo_builtin.specs.Telling.{Faults}
use Rattle.moo_builtin.specs.declared.call.Caller.{Caller}
use Rattle.moo_builtin.specs.Calls.{Field, values, field, raising, given, Follows, CallsPlain, refused, follows}
use Rattle.moo_builtin.specs.Outcomes.{Replies, IsReply}
use Rattle.moo_eval_call.specs.declared.spliced.Extreme.{Extreme}
use Rattle.moo_eval_call.specs.declared.spliced.Extreme.TheVariants.{Least, Greatest}
use Rattle.moo_eval_call.specs.Spliced.{extreme_of, extreme_from}
use Rattle.moo_eval_call.proofs.Replies.{raises_reply}

-- a result of the program, as it is returned
pub settles : (o : Outcome) (a : Result Value OperationFault) (r : Result Tree ErrorCode) (w : World) (Such : Replies) → Tells o a → Gives a r → Such (raising r) w → IsReply o w w Such
settles o (Ok v) r w Such told gives is = subst (λ (x : Outcome). IsReply x w w Such) (sym told) (subst (λ (x : Result Tree ErrorCode). Such (raising x) w) gives is)
settles o (Err (Raise e)) r w Such told gives is = raises_reply o (plainly e) w Such told (subst (λ (x : Result Tree ErrorCode). Such (raising x) w) gives is)
settles o (Err Memory) r w Such told gives is = subst (λ (x : Outcome). IsReply x w w Such) (sym told) refl

answers_as : (r : Result Tree ErrorCode) → raising r ≡ given (simply (Some r))
answers_as (Ok t) = refl
answers_as (Err e) = refl

-- whether arguments are refused: that there are enough of them, that they fit, and that the objects among them are valid
abbrev judged : (enough fit valid : Bool) → Option ErrorCode
judged enough fit valid =
    let first = if not (enough && true) then Some Arguments else if not fit then Some TypeMismatch else None in
    if is_some first then first else if not valid then Some InvalidArgument else None

-- a row that takes any values
any_fits : (name : List ℕ) (place : ℕ) (ts : List Tree) → holds_from (λ i t. fits (kind_at (takes_more name [] Any) i) t) place ts ≡ true
any_fits name place [] = refl
any_fits name place (t ∷ ts) = any_fits name (place + 1) ts

any_valid : (valid : ℤ → Bool) (name : List ℕ) (place : ℕ) (ts : List Tree) → holds_from (λ i t. names_valid valid (kind_at (takes_more name [] Any) i) t) place ts ≡ true
any_valid valid name place [] = refl
any_valid valid name place (t ∷ ts) = any_valid valid name (place + 1) ts

takes_any : (valid : ℤ → Bool) (name : List ℕ) (ts : List Tree) → refusal valid (takes_more name [] Any) ts ≡ None
takes_any valid name ts =
    ap (λ b. judged b (all_fit (takes_more name [] Any) ts) (all_valid valid (takes_more name [] Any) ts)) (le-leb 0 (length ts) (omega arith))
    ∙ ap (λ b. judged true b (all_valid valid (takes_more name [] Any) ts)) (any_fits name 0 ts)
    ∙ ap (λ b. judged true true b) (any_valid valid name 0 ts)

pub calls_text : (name : List ℕ) (args : List Tree) (w : World) (c : Caller) → function_of name ≡ Some function.Tostr → CallsPlain Faults name args w c (raising (to_text args)) w
calls_text name args w c named = follows named (takes_any (is_valid w) (codes "tostr") args) (answers_as (to_text args), refl)

-- a row that takes integers, one at least
abbrev integers : List ℕ → Row
integers name = takes_more name (Integer ∷ []) Integer

abbrev are_integers : List Tree → Bool
are_integers [] = true
are_integers (t ∷ ts) = fits Integer t && are_integers ts

integer_kind : (name : List ℕ) (place : ℕ) → kind_at (integers name) place ≡ Integer
integer_kind name zero = refl
integer_kind name (suc place) = refl

integers_fit : (name : List ℕ) (place : ℕ) (ts : List Tree) → holds_from (λ i t. fits (kind_at (integers name) i) t) place ts ≡ are_integers ts
integers_fit name place [] = refl
integers_fit name place (t ∷ ts) =
    ap (λ k. fits k t && holds_from (λ i t. fits (kind_at (integers name) i) t) (place + 1) ts) (integer_kind name place) ∙ ap (λ b. fits Integer t && b) (integers_fit name (place + 1) ts)

integers_valid : (valid : ℤ → Bool) (name : List ℕ) (place : ℕ) (ts : List Tree) → holds_from (λ i t. names_valid valid (kind_at (integers name) i) t) place ts ≡ true
integers_valid valid name place [] = refl
integers_valid valid name place (t ∷ ts) =
    ap (λ k. names_valid valid k t && holds_from (λ i t. names_valid valid (kind_at (integers name) i) t) (place + 1) ts) (integer_kind name place) ∙ integers_valid valid name (place + 1) ts

integers_refused : (valid : ℤ → Bool) (name : List ℕ) (ts : List Tree) → refusal valid (integers name) ts ≡ judged (nat_le 1 (length ts)) (are_integers ts) true
integers_refused valid name ts =
    ap (λ b. judged (nat_le 1 (length ts)) b (all_valid valid (integers name) ts)) (integers_fit name 0 ts) ∙ ap (λ b. judged (nat_le 1 (length ts)) (are_integers ts) b) (integers_valid valid name 0 ts)

-- after a number one that is no integer
least_of_other : (i : ℤ) (ts : List Tree) → are_integers ts ≡ false → least_of i ts ≡ Err TypeMismatch
least_of_other i [] h = absurd cc
least_of_other i (integer j ∷ ts) h = least_of_other (if int_lt j i then j else i) ts h
least_of_other i (object o ∷ ts) h = refl
least_of_other i (error e ∷ ts) h = refl
least_of_other i (string s ∷ ts) h = refl
least_of_other i (list es ∷ ts) h = refl

greatest_of_other : (i : ℤ) (ts : List Tree) → are_integers ts ≡ false → greatest_of i ts ≡ Err TypeMismatch
greatest_of_other i [] h = absurd cc
greatest_of_other i (integer j ∷ ts) h = greatest_of_other (if int_lt i j then j else i) ts h
greatest_of_other i (object o ∷ ts) h = refl
greatest_of_other i (error e ∷ ts) h = refl
greatest_of_other i (string s ∷ ts) h = refl
greatest_of_other i (list es ∷ ts) h = refl

extreme_of_other : (e : Extreme) (i : ℤ) (ts : List Tree) → are_integers ts ≡ false → extreme_of e i ts ≡ Err TypeMismatch
extreme_of_other Least i ts h = least_of_other i ts h
extreme_of_other Greatest i ts h = greatest_of_other i ts h

-- a function with such a row that gives the extreme of its arguments
record IsOfIntegers (e : Extreme) (f : Function) : Type 0 where
  letters : List ℕ
  row_is : row f ≡ integers letters
  plain : field f ≡ values
  gives : (moment : ℕ) (i : ℤ) (ts : List Tree) → answer f moment (integer i ∷ ts) ≡ simply (Some (extreme_of e i ts))

some : (t : Tree) (ts : List Tree) → nat_le 1 (length (t ∷ ts)) ≡ true
some t ts = le-leb 1 (length (t ∷ ts)) (omega arith)

is_refused : (e : Extreme) (f : Function) (is : IsOfIntegers e f) (valid : ℤ → Bool) (args : List Tree) (code : ErrorCode) → judged (nat_le 1 (length args)) (are_integers args) true ≡ Some code → refusal valid (row f) args ≡ Some code
is_refused e f is valid args code h = ap (λ x. refusal valid x args) is.row_is ∙ integers_refused valid is.letters args ∙ h

calls_numbers : (e : Extreme) (f : Function) → IsOfIntegers e f → (name : List ℕ) (i : ℤ) (ts : List Tree) (w : World) (c : Caller) → function_of name ≡ Some f → (fit : Bool) → are_integers ts ≡ fit → CallsPlain Faults name (integer i ∷ ts) w c (raising (extreme_of e i ts)) w
calls_numbers e f is name i ts w c named true fit =
    let none : refusal (is_valid w) (row f) (integer i ∷ ts) ≡ None = ap (λ x. refusal (is_valid w) x (integer i ∷ ts)) is.row_is ∙ integers_refused (is_valid w) is.letters (integer i ∷ ts) ∙ ap (λ b. judged b (are_integers ts) true) (some (integer i) ts) ∙ ap (λ b. judged true b true) fit in
    let here : Follows values Faults f (integer i ∷ ts) w c (raising (extreme_of e i ts)) w = (answers_as (extreme_of e i ts) ∙ ap given (sym (is.gives c.moment i ts)), refl) in
    follows named none (subst (λ (x : Field). Follows x Faults f (integer i ∷ ts) w c (raising (extreme_of e i ts)) w) (sym is.plain) here)
calls_numbers e f is name i ts w c named false fit =
    subst (λ (x : Result Tree ErrorCode). CallsPlain Faults name (integer i ∷ ts) w c (raising x) w) (sym (extreme_of_other e i ts fit)) (refused named (is_refused e f is (is_valid w) (integer i ∷ ts) TypeMismatch (ap (λ b. judged b (are_integers ts) true) (some (integer i) ts) ∙ ap (λ b. judged true b true) fit)))

calls_extreme : (e : Extreme) (f : Function) → IsOfIntegers e f → (name : List ℕ) (args : List Tree) (w : World) (c : Caller) → function_of name ≡ Some f → CallsPlain Faults name args w c (raising (extreme_from e None args)) w
calls_extreme e f is name [] w c named = refused named (is_refused e f is (is_valid w) [] Arguments refl)
calls_extreme e f is name (integer i ∷ ts) w c named = calls_numbers e f is name i ts w c named (are_integers ts) refl
calls_extreme e f is name (object o ∷ ts) w c named = refused named (is_refused e f is (is_valid w) (object o ∷ ts) TypeMismatch (ap (λ b. judged b false true) (some (object o) ts)))
calls_extreme e f is name (error code ∷ ts) w c named = refused named (is_refused e f is (is_valid w) (error code ∷ ts) TypeMismatch (ap (λ b. judged b false true) (some (error code) ts)))
calls_extreme e f is name (string s ∷ ts) w c named = refused named (is_refused e f is (is_valid w) (string s ∷ ts) TypeMismatch (ap (λ b. judged b false true) (some (string s) ts)))
calls_extreme e f is name (list es ∷ ts) w c named = refused named (is_refused e f is (is_valid w) (list es ∷ ts) TypeMismatch (ap (λ b. judged b false true) (some (list es) ts)))

pub calls_least : (name : List ℕ) (args : List Tree) (w : World) (c : Caller) → function_of name ≡ Some function.Min → CallsPlain Faults name args w c (raising (extreme_from Least None args)) w
calls_least = calls_extreme Least function.Min (record { letters = codes "min"; row_is = refl; plain = refl; gives = λ moment i ts. refl })

pub calls_greatest : (name : List ℕ) (args : List Tree) (w : World) (c : Caller) → function_of name ≡ Some function.Max → CallsPlain Faults name args w c (raising (extreme_from Greatest None args)) w
calls_greatest = calls_extreme Greatest function.Max (record { letters = codes "max"; row_is = refl; plain = refl; gives = λ moment i ts. refl })
