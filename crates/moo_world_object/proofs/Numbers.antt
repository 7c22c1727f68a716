-- Different values have different numbers.
use Rattle.std.proofs.Common.{◌≡◌, ℕ, ◌+◌, ◌*◌, Bool, true, false, refl, sym, ◌∙◌, arith}
use Rattle.moo_world_object.specs.declared.flags.Flags.{Flags}
use Rattle.moo_world_object.specs.declared.cell.PropPerms.{PropPerms}
use Rattle.moo_world_object.specs.declared.verb.VerbPerms.{VerbPerms}
use Rattle.moo_world_object.specs.Flags.{bit, flags_number}
use Rattle.moo_world_object.specs.Numbers.{prop_perms_number, verb_perms_number}

-- a bit of a greater weight
weighed : (b : Bool) (w : ℕ) → bit b w ≡ w * bit b 1
weighed true w = omega arith
weighed false w = omega arith

record Apart (b c : Bool) (m n : ℕ) : Type 0 where
  bits : b ≡ c
  rest : m ≡ n

-- the lowest bit and what is above it
apart : (b c : Bool) (m n : ℕ) → bit b 1 + 2 * m ≡ bit c 1 + 2 * n → Apart b c m n
apart true true m n e = record { bits = refl; rest = omega arith }
apart true false m n e = absurd (omega (arith, e))
apart false true m n e = absurd (omega (arith, e))
apart false false m n e = record { bits = refl; rest = omega arith }

last : (b c : Bool) → bit b 1 ≡ bit c 1 → b ≡ c
last true true e = refl
last true false e = absurd (omega (arith, e))
last false true e = absurd (omega (arith, e))
last false false e = refl

prop_perms_bits : (p : PropPerms) → prop_perms_number p ≡ bit p.read 1 + 2 * (bit p.write 1 + 2 * bit p.change_owner 1)
prop_perms_bits p = omega (arith, weighed p.write 2, weighed p.change_owner 4)

pub prop_perms_number_apart : (p q : PropPerms) → prop_perms_number p ≡ prop_perms_number q → p ≡ q
prop_perms_number_apart p q e =
    let read_same = apart p.read q.read (bit p.write 1 + 2 * bit p.change_owner 1) (bit q.write 1 + 2 * bit q.change_owner 1) (sym (prop_perms_bits p) ∙ e ∙ prop_perms_bits q) in
    let write_same = apart p.write q.write (bit p.change_owner 1) (bit q.change_owner 1) read_same.rest in
    let change_owner_same = last p.change_owner q.change_owner write_same.rest in
    λ i. record { read = read_same.bits i; write = write_same.bits i; change_owner = change_owner_same i }

verb_perms_bits : (p : VerbPerms) → verb_perms_number p ≡ bit p.read 1 + 2 * (bit p.write 1 + 2 * (bit p.execute 1 + 2 * bit p.debug 1))
verb_perms_bits p = omega (arith, weighed p.write 2, weighed p.execute 4, weighed p.debug 8)

pub verb_perms_number_apart : (p q : VerbPerms) → verb_perms_number p ≡ verb_perms_number q → p ≡ q
verb_perms_number_apart p q e =
    let read_same = apart p.read q.read (bit p.write 1 + 2 * (bit p.execute 1 + 2 * bit p.debug 1)) (bit q.write 1 + 2 * (bit q.execute 1 + 2 * bit q.debug 1)) (sym (verb_perms_bits p) ∙ e ∙ verb_perms_bits q) in
    let write_same = apart p.write q.write (bit p.execute 1 + 2 * bit p.debug 1) (bit q.execute 1 + 2 * bit q.debug 1) read_same.rest in
    let execute_same = apart p.execute q.execute (bit p.debug 1) (bit q.debug 1) write_same.rest in
    let debug_same = last p.debug q.debug execute_same.rest in
    λ i. record { read = read_same.bits i; write = write_same.bits i; execute = execute_same.bits i; debug = debug_same i }

flags_bits : (p : Flags) → flags_number p ≡ bit p.player 1 + 2 * (bit p.programmer 1 + 2 * (bit p.wizard 1 + 2 * (bit p.obsolete_8 1 + 2 * (bit p.read 1 + 2 * (bit p.write 1 + 2 * (bit p.obsolete_64 1 + 2 * bit p.fertile 1))))))
flags_bits p = omega (arith, weighed p.programmer 2, weighed p.wizard 4, weighed p.obsolete_8 8, weighed p.read 16, weighed p.write 32, weighed p.obsolete_64 64, weighed p.fertile 128)

pub flags_number_apart : (p q : Flags) → flags_number p ≡ flags_number q → p ≡ q
flags_number_apart p q e =
    let player_same = apart p.player q.player (bit p.programmer 1 + 2 * (bit p.wizard 1 + 2 * (bit p.obsolete_8 1 + 2 * (bit p.read 1 + 2 * (bit p.write 1 + 2 * (bit p.obsolete_64 1 + 2 * bit p.fertile 1)))))) (bit q.programmer 1 + 2 * (bit q.wizard 1 + 2 * (bit q.obsolete_8 1 + 2 * (bit q.read 1 + 2 * (bit q.write 1 + 2 * (bit q.obsolete_64 1 + 2 * bit q.fertile 1)))))) (sym (flags_bits p) ∙ e ∙ flags_bits q) in
    let programmer_same = apart p.programmer q.programmer (bit p.wizard 1 + 2 * (bit p.obsolete_8 1 + 2 * (bit p.read 1 + 2 * (bit p.write 1 + 2 * (bit p.obsolete_64 1 + 2 * bit p.fertile 1))))) (bit q.wizard 1 + 2 * (bit q.obsolete_8 1 + 2 * (bit q.read 1 + 2 * (bit q.write 1 + 2 * (bit q.obsolete_64 1 + 2 * bit q.fertile 1))))) player_same.rest in
    let wizard_same = apart p.wizard q.wizard (bit p.obsolete_8 1 + 2 * (bit p.read 1 + 2 * (bit p.write 1 + 2 * (bit p.obsolete_64 1 + 2 * bit p.fertile 1)))) (bit q.obsolete_8 1 + 2 * (bit q.read 1 + 2 * (bit q.write 1 + 2 * (bit q.obsolete_64 1 + 2 * bit q.fertile 1)))) programmer_same.rest in
    let obsolete_8_same = apart p.obsolete_8 q.obsolete_8 (bit p.read 1 + 2 * (bit p.write 1 + 2 * (bit p.obsolete_64 1 + 2 * bit p.fertile 1))) (bit q.read 1 + 2 * (bit q.write 1 + 2 * (bit q.obsolete_64 1 + 2 * bit q.fertile 1))) wizard_same.rest in
    let read_same = apart p.read q.read (bit p.write 1 + 2 * (bit p.obsolete_64 1 + 2 * bit p.fertile 1)) (bit q.write 1 + 2 * (bit q.obsolete_64 1 + 2 * bit q.fertile 1)) obsolete_8_same.rest in
    let write_same = apart p.write q.write (bit p.obsolete_64 1 + 2 * bit p.fertile 1) (bit q.obsolete_64 1 + 2 * bit q.fertile 1) read_same.rest in
    let obsolete_64_same = apart p.obsolete_64 q.obsolete_64 (bit p.fertile 1) (bit q.fertile 1) write_same.rest in
    let fertile_same = last p.fertile q.fertile obsolete_64_same.rest in
    λ i. record { player = player_same.bits i; programmer = programmer_same.bits i; wizard = wizard_same.bits i; obsolete_8 = obsolete_8_same.bits i; read = read_same.bits i; write = write_same.bits i; obsolete_64 = obsolete_64_same.bits i; fertile = fertile_same i }
