-- Numbers of an object's record fit.
use Rattle.std.proofs.Common.{◌≡◌, ℕ, ◌+◌, ◌*◌, ◌<◌, ◌≤◌, Bool, true, false, List, length, Option, Some, None, FitsSigned, w32, refl, arith}
use Rattle.moo_world_tree.specs.Forest.{Links, above_of, below_of, IsForest}
use Rattle.moo_world_object.specs.Flags.{bit, flags_number}
use Rattle.moo_world_object.specs.Numbers.{prop_perms_number, verb_perms_number, object_specifier_number, preposition_number, preposition_specifier_number}
use Rattle.moo_world_object.specs.declared.flags.Flags.{Flags}
use Rattle.moo_world_object.specs.declared.cell.PropPerms.{PropPerms}
use Rattle.moo_world_object.specs.declared.verb.VerbPerms.{VerbPerms}
use Rattle.moo_world_object.specs.declared.verb_args.ObjectSpecifier.{ObjectSpecifier}
use Rattle.moo_world_object.specs.declared.verb_args.ObjectSpecifier.TheVariants as specifier
use Rattle.moo_world_object.specs.declared.verb_args.PrepositionSpecifier.{PrepositionSpecifier}
use Rattle.moo_world_object.specs.declared.verb_args.PrepositionSpecifier.TheVariants as preposition
use Rattle.moo_world_object.specs.declared.verb_args.Preposition.{Preposition}
use Rattle.moo_world_object.specs.declared.verb_args.Preposition.TheVariants.{With, At, InFrontOf, Inside, OnTopOf, OutOf, Over, Through, Under, Behind, Beside, About, Is, As, Off}
use Rattle.moo_world_table.specs.World.{most}
use Rattle.moo_dbtext_object.specs.Objects.{verb_bits, IsVerbBits, IsPreposition}
use Rattle.moo_dbtext_restore.specs.Links.{place_number}
use Rattle.moo_dbtext_restore.specs.Recorded.{first_in, next_below, link_in}
use Rattle.moo_dbtext_restore.specs.declared.link.Link.{Link}
use Rattle.moo_dbtext.proofs.NextNumbers.{above_inside, first_inside, next_inside}

bit_low : (b : Bool) (w : ℕ) → bit b w ≤ w
bit_low true w = omega arith
bit_low false w = omega arith

pub flags_fit : (f : Flags) → flags_number f ≤ 255
flags_fit f =
    let a = bit_low f.player 1 in
    let b = bit_low f.programmer 2 in
    let c = bit_low f.wizard 4 in
    let d = bit_low f.obsolete_8 8 in
    let e = bit_low f.read 16 in
    let g = bit_low f.write 32 in
    let h = bit_low f.obsolete_64 64 in
    let i = bit_low f.fertile 128 in
    omega (arith, a, b, c, d, e, g, h, i)

pub cell_perms_fit : (p : PropPerms) → prop_perms_number p ≤ 7
cell_perms_fit p =
    let a = bit_low p.read 1 in
    let b = bit_low p.write 2 in
    let c = bit_low p.change_owner 4 in
    omega (arith, a, b, c)

perms_fit : (p : VerbPerms) → verb_perms_number p ≤ 15
perms_fit p =
    let a = bit_low p.read 1 in
    let b = bit_low p.write 2 in
    let c = bit_low p.execute 4 in
    let d = bit_low p.debug 8 in
    omega (arith, a, b, c, d)

specifier_fits : (s : ObjectSpecifier) → object_specifier_number s ≤ 2
specifier_fits specifier.None = omega arith
specifier_fits specifier.Any = omega arith
specifier_fits specifier.This = omega arith

bits_apart : (p d i : ℕ) → p ≤ 15 → d ≤ 2 → i ≤ 2 → IsVerbBits (p + 16 * d + 64 * i)
bits_apart p d i hp hd hi = record {
  byte = omega (arith, hp, hd, hi);
  direct = λ e. omega (arith, hp, hd, hi, e);
  indirect = λ e. omega (arith, hp, hd, hi, e);
}

pub verb_bits_fit : (p : VerbPerms) (d i : ObjectSpecifier) → IsVerbBits (verb_bits p d i)
verb_bits_fit p d i = bits_apart (verb_perms_number p) (object_specifier_number d) (object_specifier_number i) (perms_fit p) (specifier_fits d) (specifier_fits i)

preposition_low : (p : Preposition) → preposition_number p ≤ 14
preposition_low With = omega arith
preposition_low At = omega arith
preposition_low InFrontOf = omega arith
preposition_low Inside = omega arith
preposition_low OnTopOf = omega arith
preposition_low OutOf = omega arith
preposition_low Over = omega arith
preposition_low Through = omega arith
preposition_low Under = omega arith
preposition_low Behind = omega arith
preposition_low Beside = omega arith
preposition_low About = omega arith
preposition_low Is = omega arith
preposition_low As = omega arith
preposition_low Off = omega arith

pub preposition_fits : (p : PrepositionSpecifier) → IsPreposition (preposition_specifier_number p)
preposition_fits preposition.Any = omega arith
preposition_fits preposition.None = omega arith
preposition_fits (preposition.One p) = preposition_low p

place_fits : (n : ℕ) (o : Option ℕ) → n ≤ most → ((z : ℕ) → o ≡ Some z → z < n) → FitsSigned w32 (place_number o)
place_fits n None few low = record { sfits = omega arith }
place_fits n (Some z) few low = let inside = low z refl in record { sfits = omega (arith, inside, few) }

-- the links of a number
pub record AreLinks (l : Link) : Type 0 where
  pub above : FitsSigned w32 l.above
  pub first : FitsSigned w32 l.first
  pub next : FitsSigned w32 l.next

pub links_fit : (tree : List Links) → IsForest tree → length tree ≤ most → (x : ℕ) → AreLinks (link_in tree x)
links_fit tree f few x = record {
  above = place_fits (length tree) (above_of tree x) few (λ z is. above_inside tree f x z is);
  first = place_fits (length tree) (first_in (below_of tree x)) few (λ z is. first_inside tree f x z is);
  next = place_fits (length tree) (next_below tree (above_of tree x) x) few (λ z is. next_inside tree f x z (above_of tree x) is);
}
