-- Different verbs and cells have different records.
use Rattle.std.proofs.Common.{◌≡◌, ℕ, ◌+◌, ◌*◌, ◌≤◌, ℤ, pos, negsuc, List, [], ◌∷◌, Bool, true, false, refl, sym, ap, ◌∙◌, arith, map, get_or}
use Rattle.moo_world_object.specs.Flags.{bit}
use Rattle.moo_world_object.specs.Numbers.{verb_perms_number, object_specifier_number, preposition_number, preposition_specifier_number}
use Rattle.moo_world_object.specs.Cells.{Cell, Key, key_of}
use Rattle.moo_world_object.specs.declared.verb.Verb.{Verb}
use Rattle.moo_world_object.specs.declared.verb.VerbPerms.{VerbPerms}
use Rattle.moo_world_object.specs.declared.verb_args.ObjectSpecifier.{ObjectSpecifier}
use Rattle.moo_world_object.specs.declared.verb_args.ObjectSpecifier.TheVariants as specifier
use Rattle.moo_world_object.specs.declared.verb_args.PrepositionSpecifier.{PrepositionSpecifier}
use Rattle.moo_world_object.specs.declared.verb_args.PrepositionSpecifier.TheVariants as preposition
use Rattle.moo_world_object.specs.declared.verb_args.Preposition.{Preposition}
use Rattle.moo_world_object.specs.declared.verb_args.Preposition.TheVariants.{With, At, InFrontOf, Inside, OnTopOf, OutOf, Over, Through, Under, Behind, Beside, About, Is, As, Off}
use Rattle.moo_dbtext_restore.proofs.Bits.{prop_perms_number_apart, verb_perms_number_apart}
use Rattle.moo_dbtext_object.specs.Objects as recorded
use Rattle.moo_dbtext_restore.specs.Says.{recorded_verb, recorded_cell, program_of}

-- the preposition of a number, and With past the last
abbrev preposition_of : ℕ → Preposition
preposition_of n = get_or (With ∷ At ∷ InFrontOf ∷ Inside ∷ OnTopOf ∷ OutOf ∷ Over ∷ Through ∷ Under ∷ Behind ∷ Beside ∷ About ∷ Is ∷ As ∷ Off ∷ []) n With

preposition_back : (p : Preposition) → preposition_of (preposition_number p) ≡ p
preposition_back With = refl
preposition_back At = refl
preposition_back InFrontOf = refl
preposition_back Inside = refl
preposition_back OnTopOf = refl
preposition_back OutOf = refl
preposition_back Over = refl
preposition_back Through = refl
preposition_back Under = refl
preposition_back Behind = refl
preposition_back Beside = refl
preposition_back About = refl
preposition_back Is = refl
preposition_back As = refl
preposition_back Off = refl

abbrev size : ℤ → ℕ
size (pos n) = n
size (negsuc n) = n

specifier_back : (p q : PrepositionSpecifier) → preposition_specifier_number p ≡ preposition_specifier_number q → p ≡ q
specifier_back preposition.Any preposition.Any e = refl
specifier_back preposition.Any preposition.None e = absurd (let off : ◌≡◌ {A = ℕ} 1 0 = ap size e in omega (arith, off))
specifier_back preposition.Any (preposition.One q) e = absurd cc
specifier_back preposition.None preposition.Any e = absurd (let off : ◌≡◌ {A = ℕ} 0 1 = ap size e in omega (arith, off))
specifier_back preposition.None preposition.None e = refl
specifier_back preposition.None (preposition.One q) e = absurd cc
specifier_back (preposition.One p) preposition.Any e = absurd cc
specifier_back (preposition.One p) preposition.None e = absurd cc
specifier_back (preposition.One p) (preposition.One q) e =
    let same : preposition_number p ≡ preposition_number q = cc in
    ap (λ k. preposition.One k) (sym (preposition_back p) ∙ (ap preposition_of same ∙ preposition_back q))

objects_apart : (p q : ObjectSpecifier) → object_specifier_number p ≡ object_specifier_number q → p ≡ q
objects_apart specifier.None specifier.None e = refl
objects_apart specifier.None specifier.Any e = absurd (omega (arith, e))
objects_apart specifier.None specifier.This e = absurd (omega (arith, e))
objects_apart specifier.Any specifier.None e = absurd (omega (arith, e))
objects_apart specifier.Any specifier.Any e = refl
objects_apart specifier.Any specifier.This e = absurd (omega (arith, e))
objects_apart specifier.This specifier.None e = absurd (omega (arith, e))
objects_apart specifier.This specifier.Any e = absurd (omega (arith, e))
objects_apart specifier.This specifier.This e = refl

bit_most : (b : Bool) (w : ℕ) → bit b w ≤ w
bit_most true w = omega arith
bit_most false w = omega arith

perms_most : (p : VerbPerms) → verb_perms_number p ≤ 15
perms_most p = omega (arith, bit_most p.read 1, bit_most p.write 2, bit_most p.execute 4, bit_most p.debug 8)

specifier_most : (p : ObjectSpecifier) → object_specifier_number p ≤ 2
specifier_most specifier.None = omega arith
specifier_most specifier.Any = omega arith
specifier_most specifier.This = omega arith

record AreSame (a b c x y z : ℕ) : Type 0 where
  first : a ≡ x
  second : b ≡ y
  third : c ≡ z

digits_apart : (a b c x y z : ℕ) → a ≤ 15 → x ≤ 15 → b ≤ 2 → y ≤ 2 → a + 16 * b + 64 * c ≡ x + 16 * y + 64 * z → AreSame a b c x y z
digits_apart a b c x y z one two three four e = record { first = omega arith; second = omega arith; third = omega arith }

verb_apart : (v w : Verb) → recorded_verb v ≡ recorded_verb w → program_of v ≡ program_of w → v ≡ w
verb_apart v w e program =
    let bits : recorded.verb_bits v.perms v.args.direct v.args.indirect ≡ recorded.verb_bits w.perms w.args.direct w.args.indirect = ap (λ (r : recorded.Verb). r.perms) e in
    let digits = digits_apart (verb_perms_number v.perms) (object_specifier_number v.args.direct) (object_specifier_number v.args.indirect)
    (verb_perms_number w.perms) (object_specifier_number w.args.direct) (object_specifier_number w.args.indirect)
    (perms_most v.perms) (perms_most w.perms) (specifier_most v.args.direct) (specifier_most w.args.direct) bits in
    let names : v.names ≡ w.names = ap (λ (r : recorded.Verb). r.names) e in
    let owner : v.owner ≡ w.owner = ap (λ (r : recorded.Verb). r.owner) e in
    let perms = verb_perms_number_apart v.perms w.perms digits.first in
    let direct = objects_apart v.args.direct w.args.direct digits.second in
    let indirect = objects_apart v.args.indirect w.args.indirect digits.third in
    let prep = specifier_back v.args.preposition w.args.preposition (ap (λ (r : recorded.Verb). r.preposition) e) in
    λ i. record {
      names = names i;
      owner = owner i;
      perms = perms i;
      args = record { direct = direct i; preposition = prep i; indirect = indirect i };
      program = program i;
    }

pub verbs_apart : (vs ws : List Verb) → map recorded_verb vs ≡ map recorded_verb ws → map program_of vs ≡ map program_of ws → vs ≡ ws
verbs_apart [] [] e p = refl
verbs_apart [] (w ∷ ws) e p = absurd cc
verbs_apart (v ∷ vs) [] e p = absurd cc
verbs_apart (v ∷ vs) (w ∷ ws) e p =
    let head : recorded_verb v ≡ recorded_verb w = cc in
    let tail : map recorded_verb vs ≡ map recorded_verb ws = cc in
    let program : program_of v ≡ program_of w = cc in
    let programs : map program_of vs ≡ map program_of ws = cc in
    ap (λ u. u ∷ vs) (verb_apart v w head program) ∙ ap (λ us. w ∷ us) (verbs_apart vs ws tail programs)

cell_apart : (c d : Cell) → recorded_cell c ≡ recorded_cell d → key_of c ≡ key_of d → c ≡ d
cell_apart c d e k =
    let definer : c.definer ≡ d.definer = ap (λ (j : Key). j.0) k in
    let name : c.name ≡ d.name = ap (λ (j : Key). j.1) k in
    let owner : c.owner ≡ d.owner = ap (λ (r : recorded.Cell). r.owner) e in
    let value : c.value ≡ d.value = ap (λ (r : recorded.Cell). r.value) e in
    let perms = prop_perms_number_apart c.perms d.perms (ap (λ (r : recorded.Cell). r.perms) e) in
    λ i. record { definer = definer i; name = name i; owner = owner i; perms = perms i; value = value i }

pub cells_apart : (cs ds : List Cell) → map recorded_cell cs ≡ map recorded_cell ds → map key_of cs ≡ map key_of ds → cs ≡ ds
cells_apart [] [] e k = refl
cells_apart [] (d ∷ ds) e k = absurd cc
cells_apart (c ∷ cs) [] e k = absurd cc
cells_apart (c ∷ cs) (d ∷ ds) e k =
    let head : recorded_cell c ≡ recorded_cell d = cc in
    let tail : map recorded_cell cs ≡ map recorded_cell ds = cc in
    let key : key_of c ≡ key_of d = cc in
    let keys : map key_of cs ≡ map key_of ds = cc in
    ap (λ u. u ∷ cs) (cell_apart c d head key) ∙ ap (λ us. d ∷ us) (cells_apart cs ds tail keys)
