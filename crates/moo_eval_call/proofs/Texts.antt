-- The text that `tostr` makes.
use Rattle.std.proofs.Common.{◌≡◌, ◌≤◌, ℕ, ◌+◌, List, [], ◌++◌, length, length-append, append_assoc, true, ◌&&◌, Result, Ok, Err, sym, ap, ◌∙◌, arith, if◌then◌else◌}
use Rattle.std.proofs.lemmas.Bool.{le-leb, lt-leb}
use Rattle.std.proofs.lemmas.Grind.{flat_map-append}
use Rattle.std.proofs.lemmas.List.{append-nil}
use Rattle.std.specs.List.{flat_map}
use Rattle.moo_value.specs.declared.error_code.ErrorCode.{ErrorCode}
use Rattle.moo_value.specs.declared.error_code.ErrorCode.TheVariants.{Quota}
use Rattle.moo_value.specs.Size.{weight_limit, IsString}
use Rattle.moo_value.specs.Text.{plain}
use Rattle.moo_value.specs.Tree.{Tree, string}
use Rattle.moo_builtin_operator.specs.declared.fault.OperationFault.{OperationFault}
use Rattle.moo_builtin_operator.specs.declared.fault.OperationFault.TheVariants.{Raise, Memory}
use Rattle.moo_builtin_operator.specs.Answer.{limited}
use Rattle.moo_builtin_value.specs.TextAnswers.{IsRefusedText}
use Rattle.moo_builtin_value.proofs.Making.{limited_made}
use Rattle.moo_eval_call.specs.Spliced.{text_from, GoesOn, Ends}

-- what fits is made
made : (s : List ℕ) → IsString s → limited (string s) ≡ Ok (string s)
made s h = ap (λ b. if b && true then Ok (string s) else Err Quota) (le-leb (1 + length s) weight_limit (let fits = h.fits in omega arith))

pub whole : (s : List ℕ) (r : Result Tree ErrorCode) → IsString s → r ≡ text_from s [] → r ≡ Ok (string s)
whole s r h is = is ∙ ap (λ x. limited (string x)) (append-nil s) ∙ made s h

-- once the texts of values are appended, the texts of those that follow are left
pub goes_on : (text whole : List ℕ) (ts : List Tree) → whole ≡ text ++ flat_map plain ts → GoesOn (text_from text) ts (text_from whole)
goes_on text whole ts is more =
    ap (λ x. limited (string x)) (ap (λ x. text ++ x) (flat_map-append plain ts more) ∙ sym (append_assoc text (flat_map plain ts) (flat_map plain more)) ∙ ap (λ x. x ++ flat_map plain more) (sym is))

-- what is past the limit of weight is refused
past : (s : List ℕ) → weight_limit ≤ length s → limited (string s) ≡ Err Quota
past s h = ap (λ b. if b && true then Ok (string s) else Err Quota) (lt-leb (1 + length s) weight_limit (omega (arith, h)))

-- texts that are refused are refused whatever follows
pub ends : (fault : OperationFault) (text : List ℕ) (ts : List Tree) → IsRefusedText fault (text ++ flat_map plain ts) → Ends fault (text_from text) ts
ends (Raise e) text ts refused more = past (text ++ flat_map plain (ts ++ more)) (omega (
  arith,
  refused.1,
  length-append text (flat_map plain ts),
  length-append text (flat_map plain (ts ++ more)),
  ap length (flat_map-append plain ts more),
  length-append (flat_map plain ts) (flat_map plain more),
)) ∙ ap Err (sym refused.0)
ends Memory text ts refused more = limited_made (string (text ++ flat_map plain (ts ++ more))) tt
