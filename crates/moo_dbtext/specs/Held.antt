-- Properties that the types of programs and numbers keep: a program is one of the grammar, within its limits.
use Rattle.std.specs.Prelude.{ℤ, List, Option, Some, None, FitsSigned}
use Rattle.std.specs.Int.{w32}
use Rattle.std.specs.List.{All}
use Rattle.std.specs.Option.{unwrap_or}
use Rattle.moo_value.specs.Size.{IsString}
use Rattle.moo_syntax_ast.specs.Tree.{Block}
use Rattle.moo_syntax_ast.specs.Limits.{IsWithinLimits}
use Rattle.moo_syntax_ast.specs.Listing.{listing}
use Rattle.moo_syntax_grammar.specs.Texts.{HasText}
use Rattle.moo_world_object.specs.Objects.{Object}
use Rattle.moo_world_object.specs.declared.verb.Verb.{Verb}
use Rattle.moo_world_table.specs.World.{World, nothing}

-- a program of some text, within its limits, the lines of whose listing are strings
pub record IsHeldBlock (b : Block) : Type 0 where
  pub text : HasText b
  pub limits : IsWithinLimits b
  pub strings : All IsString (listing b)

abbrev pub IsHeldProgram : Option Block → Type 0
IsHeldProgram None = Unit {0}
IsHeldProgram (Some b) = IsHeldBlock b

abbrev pub HoldsProgram : Verb → Type 0
HoldsProgram v = IsHeldProgram v.program

abbrev pub HoldsPrograms : Option Object → Type 0
HoldsPrograms o = All HoldsProgram (unwrap_or o nothing).verbs

-- properties that the programs of a world keep, and the numbers of the connected players
pub record IsHeld (w : World) (whos : List ℤ) : Type 0 where
  pub programs : All HoldsPrograms w.objects
  pub connected : All (FitsSigned w32) whos
