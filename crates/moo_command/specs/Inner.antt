-- Definitions that only private clauses use.
use Rattle.std.specs.Prelude.{ℕ, ℤ, pos, Bool, true, false, ◌&&◌, List, [], ◌∷◌, Option, Some, None, codes, length, map, take, drop, slice_range, if◌then◌else◌}
use Rattle.std.specs.Ordering.{int_eq}
use Rattle.moo_value.specs.Tree.{Tree, integer, object, error, string, list}
use Rattle.moo_value.specs.Compare.{folded}
use Rattle.moo_world_object.specs.Names.{same_name}
use Rattle.moo_world_object.specs.Patterns.{begins}
use Rattle.moo_world_object.specs.declared.verb_args.Preposition.{Preposition}
use Rattle.moo_world_object.specs.declared.verb_args.Preposition.TheVariants.{With, At, InFrontOf, Inside, OnTopOf, OutOf, Over, Through, Under, Behind, Beside, About, Is, As, Off}
use Rattle.moo_command.specs.declared.prepositions.Form.{Form}
use Rattle.moo_command.specs.declared.splitting.Division.{Division}
use Rattle.moo_command.specs.declared.named.Extent.{Extent}
use Rattle.moo_command.specs.declared.named.Extent.TheVariants as extent
use Rattle.moo_command.specs.declared.named.Found.{Found}
use Rattle.moo_command.specs.declared.named.Found.TheVariants as found
use Rattle.moo_command.specs.Objects.{is_whole, none_named, several_named}
use Rattle.moo_command.specs.Prepositions.{Parts}
use Rattle.moo_command.specs.Typed.{verb_of_sign}

-- a form, as the preposition and the form's words
abbrev pub form_of : Form → Preposition × List (List ℕ)
form_of f = (f.preposition, map (λ w. w.now) f.words.now)

-- the forms, none after one with fewer words
unfoldable pub form_table : List (Preposition × List (List ℕ))
form_table =
    (InFrontOf, codes "in" ∷ codes "front" ∷ codes "of" ∷ []) ∷ (OnTopOf, codes "on" ∷ codes "top" ∷ codes "of" ∷ [])
    ∷ (OutOf, codes "out" ∷ codes "of" ∷ []) ∷ (OutOf, codes "from" ∷ codes "inside" ∷ []) ∷ (Off, codes "off" ∷ codes "of" ∷ [])
    ∷ (With, codes "with" ∷ []) ∷ (With, codes "using" ∷ []) ∷ (At, codes "at" ∷ []) ∷ (At, codes "to" ∷ [])
    ∷ (Inside, codes "in" ∷ []) ∷ (Inside, codes "inside" ∷ []) ∷ (Inside, codes "into" ∷ [])
    ∷ (OnTopOf, codes "on" ∷ []) ∷ (OnTopOf, codes "onto" ∷ []) ∷ (OnTopOf, codes "upon" ∷ []) ∷ (OutOf, codes "from" ∷ [])
    ∷ (Over, codes "over" ∷ []) ∷ (Through, codes "through" ∷ []) ∷ (Under, codes "under" ∷ []) ∷ (Under, codes "underneath" ∷ [])
    ∷ (Under, codes "beneath" ∷ []) ∷ (Behind, codes "behind" ∷ []) ∷ (Beside, codes "beside" ∷ []) ∷ (About, codes "for" ∷ [])
    ∷ (About, codes "about" ∷ []) ∷ (Is, codes "is" ∷ []) ∷ (As, codes "as" ∷ []) ∷ (Off, codes "off" ∷ []) ∷ []

-- whether words begin with those of a form, with letters folded
abbrev pub begins_with : List (List ℕ) → List (List ℕ) → Bool
begins_with [] words = true
begins_with (f ∷ fs) [] = false
begins_with (f ∷ fs) (w ∷ ws) = same_name (folded f) (folded w) && begins_with fs ws

-- the preposition of the first form with which words begin, and how many words it has
abbrev pub form_among : List (Preposition × List (List ℕ)) → List (List ℕ) → Option (Preposition × ℕ)
form_among [] words = None
form_among (e ∷ es) words = if begins_with e.1 words then Some (e.0, length e.1) else form_among es words

-- words, cut at two places
abbrev pub parts_of : List (List ℕ) → Division → Parts
parts_of words s = record {
  direct = take s.at words;
  preposition = s.preposition;
  between = slice_range words s.at s.following;
  indirect = drop s.following words;
}

-- the verb that a leading sign is short for
abbrev pub verb_leading : List ℕ → Option (List ℕ)
verb_leading [] = None
verb_leading (b ∷ bs) = verb_of_sign b

-- a text matches a name, or the beginning of one
abbrev pub covers : Extent → List ℕ → List ℕ → Bool
covers extent.Whole text name = is_whole text name
covers extent.Beginning text name = begins text name

-- a value is a string that the text matches
abbrev pub is_covered : Extent → List ℕ → Tree → Bool
is_covered e text (string s) = covers e text s
is_covered e text (integer i) = false
is_covered e text (object o) = false
is_covered e text (error x) = false
is_covered e text (list es) = false

-- the matches with one object more
abbrev pub with_found : Found → ℤ → Found
with_found found.Nothing o = found.One o
with_found (found.One p) o = if int_eq p o then found.One p else found.Several
with_found found.Several o = found.Several

abbrev pub with_all_found : Found → List ℕ → Found
with_all_found f [] = f
with_all_found f (x ∷ xs) = with_all_found (with_found f (pos x)) xs

-- the matches among objects
abbrev pub found_among : List ℕ → Found
found_among xs = with_all_found found.Nothing xs

abbrev pub number_found : Found → ℤ
number_found found.Nothing = none_named
number_found (found.One o) = o
number_found found.Several = several_named
