-- A line has one command.
use Rattle.std.proofs.Common.{◌≡◌, ℕ, ℤ, List, [], take, drop, slice_range, sym, ap, ◌∙◌}
use Rattle.moo_world_table.specs.World.{World}
use Rattle.moo_command.specs.FirstWord.{IsTyped}
use Rattle.moo_command.specs.Typed.{expanded}
use Rattle.moo_command.specs.Prepositions.{Splits, joined, number_or_none}
use Rattle.moo_command.specs.Objects.{matched}
use Rattle.moo_command.specs.Inner.{parts_of}
use Rattle.moo_command.specs.declared.splitting.Division.{Division}
use Rattle.moo_command.specs.Commands.{Command, IsCommandOf, says, says_nothing, command_of_parts, OneCommand}
use Rattle.moo_command.proofs.Splits.{one_split}
use Rattle.moo_command.proofs.Signs.{typed_is_some}

one_of : (w : World) (player : ℤ) (verb rest : List ℕ) (args : List (List ℕ)) (c d : Command) → IsCommandOf w player verb rest args c → IsCommandOf w player verb rest args d → c ≡ d
one_of w player verb rest args c d h k =
    h.is ∙ ap (command_of_parts w player verb rest args) (one_split args h.parts k.parts h.splits k.splits) ∙ sym k.is

-- what is typed in a line is typed once
abbrev OneTyped : Type 0
OneTyped = (line verb other rest instead : List ℕ) (args words : List (List ℕ)) → IsTyped line verb rest args → IsTyped line other instead words
    → (verb ≡ other) × (rest ≡ instead) × (args ≡ words)

of_same : (w : World) (player : ℤ) (verb other rest instead : List ℕ) (args words : List (List ℕ)) (d : Command) → (verb ≡ other) × (rest ≡ instead) × (args ≡ words)
    → IsCommandOf w player other instead words d → IsCommandOf w player verb rest args d
of_same w player verb other rest instead args words d same k = rw (same.0, same.1, same.2) k

pub one_command : OneTyped → OneCommand
one_command one w player line c d (says {verb = verb} {rest = rest} {args = args} t h) (says {verb = other} {rest = instead} {args = words} u k) =
    one_of w player verb rest args c d h (of_same w player verb other rest instead args words d (one (expanded line) verb other rest instead args words t u) k)
one_command one w player line c d (says t h) (says_nothing n k) = absurd (typed_is_some (expanded line) _ _ _ t n)
one_command one w player line c d (says_nothing n h) (says u k) = absurd (typed_is_some (expanded line) _ _ _ u n)
one_command one w player line c d (says_nothing n h) (says_nothing m k) = one_of w player [] [] [] c d h k

-- a command of these parts
abbrev with_parts : List ℕ → List ℕ → List (List ℕ) → List ℕ → List ℕ → List ℕ → ℤ → ℤ → ℤ → Command
with_parts verb rest args x y z l m n = record { verb = verb; args = args; argstr = rest; dobjstr = x; prepstr = y; iobjstr = z; dobj = l; prep = m; iobj = n }

-- the command of words that are divided
pub same_command : (w : World) (player : ℤ) (verb rest : List ℕ) (args : List (List ℕ)) (s : Division) (direct between indirect : List ℕ) (dobj prep iobj : ℤ)
    → direct ≡ joined (take s.at args) → between ≡ joined (slice_range args s.at s.following) → indirect ≡ joined (drop s.following args)
    → dobj ≡ matched w player direct → prep ≡ number_or_none s.preposition → iobj ≡ matched w player indirect → Splits args (parts_of args s)
    → IsCommandOf w player verb rest args (
    record {
      verb = verb;
      args = args;
      argstr = rest;
      dobjstr = direct;
      prepstr = between;
      iobjstr = indirect;
      dobj = dobj;
      prep = prep;
      iobj = iobj;
    }
    )
same_command w player verb rest args s direct between indirect dobj prep iobj d b i o p q splits = record { parts = parts_of args s; splits = splits; is = same }
  where
    same : with_parts verb rest args direct between indirect dobj prep iobj ≡ command_of_parts w player verb rest args (parts_of args s)
    same =
        ap (λ x. with_parts verb rest args x between indirect dobj prep iobj) d
        ∙ ap (λ x. with_parts verb rest args (joined (take s.at args)) x indirect dobj prep iobj) b
        ∙ ap (λ x. with_parts verb rest args (joined (take s.at args)) (joined (slice_range args s.at s.following)) x dobj prep iobj) i
        ∙ ap (λ x. with_parts verb rest args (joined (take s.at args)) (joined (slice_range args s.at s.following)) (joined (drop s.following args)) x prep iobj) (o ∙ ap (matched w player) d)
        ∙ ap (λ x. with_parts verb rest args (joined (take s.at args)) (joined (slice_range args s.at s.following)) (joined (drop s.following args)) (matched w player (joined (take s.at args))) x iobj) p
        ∙ ap (with_parts verb rest args (joined (take s.at args)) (joined (slice_range args s.at s.following)) (joined (drop s.following args)) (matched w player (joined (take s.at args))) (number_or_none s.preposition)) (q ∙ ap (matched w player) i)
