-- The length of the full listing is what is counted.
use Rattle.std.proofs.Common.{ℕ, ◌+◌, List, [], ◌∷◌, ◌++◌, ◌≡◌, refl, Bool, true, false, length, length-append, arith, Option, Some, None}
use Rattle.std.specs.Prelude.{codes, if◌then◌else◌, count_by}
use Rattle.std.specs.List.{flat_map, sum_by}
use Rattle.std.proofs.lemmas.List.Sums.{sum_by-cons}
use Rattle.moo_value.specs.Text.{escaped, literal as text_of}
use Rattle.moo_syntax_ast.specs.declared.tree.Literal.{Literal}
use Rattle.moo_syntax_ast.specs.declared.tree.Literal.TheVariants.{Integer, Object, Error, Str}
use Rattle.moo_syntax_ast.specs.declared.operator.UnaryOperator.{UnaryOperator}
use Rattle.moo_syntax_ast.specs.declared.operator.UnaryOperator.TheVariants.{Not, Negate}
use Rattle.moo_syntax_ast.specs.declared.operator.LogicOperator.{LogicOperator}
use Rattle.moo_syntax_ast.specs.declared.operator.LogicOperator.TheVariants.{And, Or}
use Rattle.moo_syntax_ast.specs.declared.tree.Item.{Item, Element', Splice', Optional, Defaulted'}
use Rattle.moo_syntax_ast.specs.Tree.{Expr, literal, variable, length_mark, unary, binary, logic, conditional, index, range, list, property, verb_call, call, assign, catch, catch_or, Items, no_items, element, splice, optional, defaulted, Codes, any_error, listed_errors, literal_value}
use Rattle.moo_syntax_ast.specs.View.{with_item, items_of}
use Rattle.moo_syntax_ast.specs.Listing.{unary_sign, binary_sign, logic_sign, is_compound, is_compound_base, in_parentheses, constant_name, is_system_object, selected, further, listed, listed_items, listed_codes}
use Rattle.moo_syntax_listing.specs.Length.{length_in_parentheses, further_length, selector_length, shown_base_length, listed_length, items_length, codes_length, item_length, further_item_length, is_escaped, literal_length, Leaves}

unary_sign_length : (o : UnaryOperator) → length (unary_sign o) ≡ 1
unary_sign_length Not = refl
unary_sign_length Negate = refl

logic_sign_length : (o : LogicOperator) → length (logic_sign o) ≡ 2
logic_sign_length And = refl
logic_sign_length Or = refl

-- the length of joined texts
pub two : (a b : List ℕ) → length (a ++ b) ≡ length a + length b
two a b = length-append a b

pub three : (a b c : List ℕ) → length (a ++ b ++ c) ≡ length a + length b + length c
three a b c = omega (arith, length-append (a ++ b) c, length-append a b)

pub five : (a b c d e : List ℕ) → length (a ++ b ++ c ++ d ++ e) ≡ length a + length b + length c + length d + length e
five a b c d e = omega (arith, length-append (a ++ b ++ c ++ d) e, length-append (a ++ b ++ c) d, three a b c)

in_parentheses_length : (b : Bool) (text : List ℕ) (n : ℕ) → length text ≡ n → length (in_parentheses b text) ≡ length_in_parentheses b n
in_parentheses_length true text n e = omega (arith, three (codes "(") text (codes ")"), e)
in_parentheses_length false text n e = e

further_text_length : (xs : Items) (text : List ℕ) (n : ℕ) → length text ≡ n → length (further xs text) ≡ further_length xs n
further_text_length no_items text n e = e
further_text_length (element a xs) text n e = omega (arith, two (codes ", ") text, e)
further_text_length (splice a xs) text n e = omega (arith, two (codes ", ") text, e)
further_text_length (optional s xs) text n e = omega (arith, two (codes ", ") text, e)
further_text_length (defaulted s a xs) text n e = omega (arith, two (codes ", ") text, e)

selected_text_length : (sign : List ℕ) (name : Option (List ℕ)) (system : Bool) (base text : List ℕ) (b t : ℕ) → length sign ≡ 1 → length base ≡ b → length text ≡ t → length (selected sign name system base text) ≡ shown_base_length name system b + selector_length name t
selected_text_length sign (Some s) true base text b t one e f = omega (arith, two (codes "$") s)
selected_text_length sign (Some s) false base text b t one e f = omega (arith, three base sign s, one, e)
selected_text_length sign None system base text b t one e f = omega (arith, five base sign (codes "(") text (codes ")"), one, e, f)

escaped_length : (b : Bool) (c : ℕ) → length (if b then 92 ∷ c ∷ [] else c ∷ []) ≡ 1 + (if b then 1 else 0)
escaped_length true c = refl
escaped_length false c = refl

escapes_length : (bs : List ℕ) → length (flat_map escaped bs) ≡ length bs + count_by is_escaped bs
escapes_length [] = refl
escapes_length (b ∷ bs) =
    let listed : length (flat_map escaped (b ∷ bs)) ≡ length (escaped b ++ flat_map escaped bs) = refl in
    omega (arith, listed, sum_by-cons (λ x. if is_escaped x then 1 else 0) b bs, two (escaped b) (flat_map escaped bs), escaped_length (is_escaped b) b, escapes_length bs)

literal_text_length : (l : Literal) → length (text_of (literal_value l)) ≡ literal_length l
literal_text_length (Integer n) = refl
literal_text_length (Object n) = omega arith
literal_text_length (Error e) = refl
literal_text_length (Str s) = omega (arith, three (codes "\"") (flat_map escaped s) (codes "\""), escapes_length s)

mutual
  pub length_listed : (e : Expr) → length (listed e) ≡ listed_length e
  length_listed (literal l) = literal_text_length l
  length_listed (variable s) = refl
  length_listed length_mark = refl
  length_listed (unary o a) = omega (arith, two (unary_sign o) (in_parentheses (is_compound a) (listed a)), unary_sign_length o, in_parentheses_length (is_compound a) (listed a) (listed_length a) (length_listed a))
  length_listed (binary o a b) = omega (arith, five (in_parentheses (is_compound a) (listed a)) (codes " ") (binary_sign o) (codes " ") (in_parentheses (is_compound b) (listed b)), in_parentheses_length (is_compound a) (listed a) (listed_length a) (length_listed a), in_parentheses_length (is_compound b) (listed b) (listed_length b) (length_listed b))
  length_listed (logic o a b) = omega (arith, five (in_parentheses (is_compound a) (listed a)) (codes " ") (logic_sign o) (codes " ") (in_parentheses (is_compound b) (listed b)), logic_sign_length o, in_parentheses_length (is_compound a) (listed a) (listed_length a) (length_listed a), in_parentheses_length (is_compound b) (listed b) (listed_length b) (length_listed b))
  length_listed (conditional a b c) = omega (arith, five (in_parentheses (is_compound a) (listed a)) (codes " ? ") (in_parentheses (is_compound b) (listed b)) (codes " | ") (in_parentheses (is_compound c) (listed c)), in_parentheses_length (is_compound a) (listed a) (listed_length a) (length_listed a), in_parentheses_length (is_compound b) (listed b) (listed_length b) (length_listed b), in_parentheses_length (is_compound c) (listed c) (listed_length c) (length_listed c))
  length_listed (index a b) = omega (arith, two (in_parentheses (is_compound_base a) (listed a) ++ codes "[" ++ listed b) (codes "]"), three (in_parentheses (is_compound_base a) (listed a)) (codes "[") (listed b), in_parentheses_length (is_compound_base a) (listed a) (listed_length a) (length_listed a), length_listed b)
  length_listed (range a b c) = omega (arith, two (in_parentheses (is_compound_base a) (listed a) ++ codes "[" ++ listed b ++ codes ".." ++ listed c) (codes "]"), five (in_parentheses (is_compound_base a) (listed a)) (codes "[") (listed b) (codes "..") (listed c), in_parentheses_length (is_compound_base a) (listed a) (listed_length a) (length_listed a), length_listed b, length_listed c)
  length_listed (list xs) = omega (arith, three (codes "{") (listed_items xs) (codes "}"), length_listed_items xs)
  length_listed (property a b) = selected_text_length (codes ".") (constant_name b) (is_system_object a) (in_parentheses (is_compound_base a) (listed a)) (listed b) (length_in_parentheses (is_compound_base a) (listed_length a)) (listed_length b) refl (in_parentheses_length (is_compound_base a) (listed a) (listed_length a) (length_listed a)) (length_listed b)
  length_listed (verb_call a b xs) = omega (arith, two (selected (codes ":") (constant_name b) (is_system_object a) (in_parentheses (is_compound_base a) (listed a)) (listed b) ++ codes "(" ++ listed_items xs) (codes ")"), three (selected (codes ":") (constant_name b) (is_system_object a) (in_parentheses (is_compound_base a) (listed a)) (listed b)) (codes "(") (listed_items xs), selected_text_length (codes ":") (constant_name b) (is_system_object a) (in_parentheses (is_compound_base a) (listed a)) (listed b) (length_in_parentheses (is_compound_base a) (listed_length a)) (listed_length b) refl (in_parentheses_length (is_compound_base a) (listed a) (listed_length a) (length_listed a)) (length_listed b), length_listed_items xs)
  length_listed (call s xs) = omega (arith, two (s ++ codes "(" ++ listed_items xs) (codes ")"), three s (codes "(") (listed_items xs), length_listed_items xs)
  length_listed (assign a b) = omega (arith, three (in_parentheses (is_compound a) (listed a)) (codes " = ") (listed b), in_parentheses_length (is_compound a) (listed a) (listed_length a) (length_listed a), length_listed b)
  length_listed (catch a c) = omega (arith, five (codes "`") (listed a) (codes " ! ") (listed_codes c) (codes "'"), length_listed a, length_listed_codes c)
  length_listed (catch_or a c b) = omega (arith, two (codes "`" ++ listed a ++ codes " ! " ++ listed_codes c ++ codes " => " ++ listed b) (codes "'"), two (codes "`" ++ listed a ++ codes " ! " ++ listed_codes c ++ codes " => ") (listed b), five (codes "`") (listed a) (codes " ! ") (listed_codes c) (codes " => "), length_listed a, length_listed_codes c, length_listed b)

  pub length_listed_items : (xs : Items) → length (listed_items xs) ≡ items_length xs
  length_listed_items no_items = refl
  length_listed_items (element a xs) = omega (arith, two (listed a) (further xs (listed_items xs)), length_listed a, further_text_length xs (listed_items xs) (items_length xs) (length_listed_items xs))
  length_listed_items (splice a xs) = omega (arith, three (codes "@") (listed a) (further xs (listed_items xs)), length_listed a, further_text_length xs (listed_items xs) (items_length xs) (length_listed_items xs))
  length_listed_items (optional s xs) = omega (arith, three (codes "?") s (further xs (listed_items xs)), further_text_length xs (listed_items xs) (items_length xs) (length_listed_items xs))
  length_listed_items (defaulted s a xs) = omega (arith, five (codes "?") s (codes " = ") (listed a) (further xs (listed_items xs)), length_listed a, further_text_length xs (listed_items xs) (items_length xs) (length_listed_items xs))

  pub length_listed_codes : (c : Codes) → length (listed_codes c) ≡ codes_length c
  length_listed_codes any_error = refl
  length_listed_codes (listed_errors xs) = length_listed_items xs

item_in_front : (x : Item) (xs : Items) → items_length (with_item x xs) ≡ item_length x + further_length xs (items_length xs)
item_in_front (Element' p e) xs = refl
item_in_front (Splice' p e) xs = refl
item_in_front (Optional s) xs = refl
item_in_front (Defaulted' s p e) xs = refl

further_items : (x : Item) (ys : Items) (n : ℕ) → further_length (with_item x ys) n ≡ 2 + n
further_items (Element' p e) ys n = refl
further_items (Splice' p e) ys n = refl
further_items (Optional s) ys n = refl
further_items (Defaulted' s p e) ys n = refl

-- the length of items, counted one by one
pub items_length_sum : (x : Item) (ys : List Item) → items_length (items_of (x ∷ ys)) ≡ item_length x + sum_by further_item_length ys
items_length_sum x [] = omega (arith, item_in_front x no_items)
items_length_sum x (y ∷ ys) =
    omega (arith, sum_by-cons further_item_length y ys, item_in_front x (items_of (y ∷ ys)), further_items y (items_of ys) (items_length (items_of (y ∷ ys))), items_length_sum y ys)

-- the bytes of a line that a text at its end takes
pub leaves_after : (room middle n total : ℕ) (result : Option ℕ) → room + n ≡ middle + total → Leaves middle n result → Leaves room total result
leaves_after room middle n total None e l = omega (arith, e, l)
leaves_after room middle n total (Some rest) e l = omega (arith, e, l)
