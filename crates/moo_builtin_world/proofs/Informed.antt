-- The info of a property that was looked up.
use Rattle.std.proofs.Common.{◌≡◌, ℤ, [], ◌∷◌, Bool, subst}
use Rattle.std.specs.Prelude.{Option, None, Some, Result}
use Rattle.std.specs.Option.{option_map}
use Rattle.moo_value.specs.declared.error_code.ErrorCode.{ErrorCode}
use Rattle.moo_value.specs.declared.value.Value.{Value}
use Rattle.moo_value.specs.Tree.{object, string, list_of}
use Rattle.moo_builtin_operator.specs.Answer.{limited}
use Rattle.moo_builtin_operator.specs.declared.fault.OperationFault.{OperationFault}
use Rattle.moo_world_object.specs.Cells.{Cell}
use Rattle.moo_world_object.specs.declared.cell.PropPerms.{PropPerms}
use Rattle.moo_builtin_value.specs.TextAnswers.{Gives}
use Rattle.moo_world_text.specs.Permissions.{prop_perms_text}
use Rattle.moo_builtin_world.specs.Order.{asked}
use Rattle.moo_builtin_world.specs.Properties.{info_of_cell}

pub info_asked : (raises : Option ErrorCode) (is_allowed allowed : Bool) (cell : Option Cell) (info : ℤ × PropPerms) (a : Result Value OperationFault)
    → is_allowed ≡ allowed → raises ≡ None → option_map (λ (c : Cell). (c.owner, c.perms)) cell ≡ Some info
    → Gives a (asked None is_allowed (limited (list_of (object info.0 ∷ string (prop_perms_text info.1) ∷ [])))) → Gives a (asked raises allowed (info_of_cell cell))
info_asked raises is_allowed allowed None info a right none found gives = absurd (cc)
info_asked raises is_allowed allowed (Some c) info a right none found gives =
    let same : info ≡ (c.owner, c.perms) = cc in
    let P = λ (x : ℤ × PropPerms). Gives a (asked None is_allowed (limited (list_of (object x.0 ∷ string (prop_perms_text x.1) ∷ [])))) in
    let at_cell = subst P same gives in
    let Q = λ (b : Bool). Gives a (asked None b (limited (list_of (object c.owner ∷ string (prop_perms_text c.perms) ∷ [])))) in
    rw none (subst Q right at_cell)
