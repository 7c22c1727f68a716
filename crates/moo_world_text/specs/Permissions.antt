-- Permissions as letters.
use Rattle.std.specs.Prelude.{ℕ, List, [], ◌∷◌, Bool, ◌==◌, map, filter, Option, Some, None, codes, if◌then◌else◌}
use Rattle.std.specs.List.{list_any, list_all}
use Rattle.std.specs.Char.{to_ascii_lowercase}
use Rattle.moo_world_object.specs.declared.cell.PropPerms.{PropPerms}
use Rattle.moo_world_object.specs.declared.verb.VerbPerms.{VerbPerms}

-- the marked letters, in their order
abbrev pub marked : List (Bool × ℕ) → List ℕ
marked marks = map (λ mark. mark.1) (filter (λ mark. mark.0) marks)

-- the letters r, w and c of the permissions that are granted
abbrev pub prop_perms_text : PropPerms → List ℕ
prop_perms_text p = marked ((p.read, 114) ∷ (p.write, 119) ∷ (p.change_owner, 99) ∷ [])

-- the letters r, w, x and d of the permissions that are granted
abbrev pub verb_perms_text : VerbPerms → List ℕ
verb_perms_text p = marked ((p.read, 114) ∷ (p.write, 119) ∷ (p.execute, 120) ∷ (p.debug, 100) ∷ [])

-- the byte is the letter, in either case
abbrev pub is_letter : ℕ → ℕ → Bool
is_letter letter byte = to_ascii_lowercase byte == letter

abbrev pub has_letter : ℕ → List ℕ → Bool
has_letter letter text = list_any (is_letter letter) text

abbrev pub is_one_of : List ℕ → ℕ → Bool
is_one_of letters byte = list_any (λ letter. is_letter letter byte) letters

-- the text has no other bytes than these letters
abbrev pub has_only : List ℕ → List ℕ → Bool
has_only letters text = list_all (is_one_of letters) text

-- the permissions of a text of these letters in any case and order, each possibly repeated or left out
abbrev pub prop_perms_of : List ℕ → Option PropPerms
prop_perms_of text =
    if has_only (codes "rwc") text then
    Some (record { read = has_letter 114 text; write = has_letter 119 text; change_owner = has_letter 99 text })
    else None

abbrev pub verb_perms_of : List ℕ → Option VerbPerms
verb_perms_of text =
    if has_only (codes "rwxd") text then
    Some (record { read = has_letter 114 text; write = has_letter 119 text; execute = has_letter 120 text; debug = has_letter 100 text })
    else None
