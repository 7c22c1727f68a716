-- The values that a called verb has from its caller.
use Rattle.std.specs.Prelude.{pos, List, [], ◌∷◌, refl}
use Rattle.std.specs.Coded.{Coded, code_by, coded×}
use Rattle.moo_value.specs.contracts.value.Value as contracts
use Rattle.moo_value.specs.declared.value.Value.{Value}
use Rattle.moo_value.specs.Tree.{Tree, integer}
use Rattle.moo_value.specs.View.{tree}

-- the values of the names of types, and of the variables of the command
pub record Shared : Type 0 where
  pub num : Value
  pub int : Value
  pub obj : Value
  pub str : Value
  pub err : Value
  pub list : Value
  pub float : Value
  pub dobj : Value
  pub iobj : Value
  pub argstr : Value
  pub dobjstr : Value
  pub prepstr : Value
  pub iobjstr : Value

abbrev value_code : Coded Value
value_code = contracts.the_row.coded

abbrev pub shared_code : Coded Shared
shared_code =
    code_by
    (Value × (Value × (Value × (Value × (Value × (Value × (Value × (Value × (Value × (Value × (Value × (Value × Value))))))))))))
    (coded× value_code (coded× value_code (coded× value_code (coded× value_code (coded× value_code (coded× value_code (coded× value_code (coded× value_code (coded× value_code (coded× value_code (coded× value_code (coded× value_code value_code))))))))))))
    (λ s. (s.num, (s.int, (s.obj, (s.str, (s.err, (s.list, (s.float, (s.dobj, (s.iobj, (s.argstr, (s.dobjstr, (s.prepstr, s.iobjstr)))))))))))))
    (λ p. record { num = p.0; int = p.1.0; obj = p.1.1.0; str = p.1.1.1.0; err = p.1.1.1.1.0; list = p.1.1.1.1.1.0; float = p.1.1.1.1.1.1.0; dobj = p.1.1.1.1.1.1.1.0; iobj = p.1.1.1.1.1.1.1.1.0; argstr = p.1.1.1.1.1.1.1.1.1.0; dobjstr = p.1.1.1.1.1.1.1.1.1.1.0; prepstr = p.1.1.1.1.1.1.1.1.1.1.1.0; iobjstr = p.1.1.1.1.1.1.1.1.1.1.1.1 })
    (λ _. refl)

-- the values of the names of types
abbrev pub types_of : Shared → List Tree
types_of s = tree s.num ∷ tree s.int ∷ tree s.obj ∷ tree s.str ∷ tree s.err ∷ tree s.list ∷ tree s.float ∷ []

-- the values that they have at first
abbrev pub types : List Tree
types =
    integer (pos 0)
    ∷ integer (pos 0)
    ∷ integer (pos 1)
    ∷ integer (pos 2)
    ∷ integer (pos 3)
    ∷ integer (pos 4)
    ∷ integer (pos 9)
    ∷ []
