-- The listing of a program is read as its tokens.
use Rattle.std.proofs.Common.{ℕ, suc, ℤ, pos, negsuc, List, [], ◌∷◌, ◌++◌, ◌≡◌, ◌^◌, ◌<◌, ◌≤◌, ◌%◌, refl, ap, ◌∙◌, sym, subst, Bool, true, false, Option, Some, None, ◌⊎◌, inl, inr, nat_eq, nat_lt, length, take, drop, append_assoc, codes, rules, arith}
use Rattle.std.specs.Prelude.{FitsSigned}
use Rattle.std.specs.List.{list_all, prefix_len}
use Rattle.std.specs.Int.{int_wrapping_neg, w32}
use Rattle.std.specs.Fmt.{decimal}
use Rattle.std.proofs.lemmas.Int.{to_z_pos, wrapping_neg_is, int_wrap_fits}
use Rattle.std.proofs.lemmas.Bool.{cases_lt}
use Rattle.std.proofs.lemmas.List.{take_at, drop_at}
use Rattle.std.proofs.lemmas.Bool.Decides.{nat_tests}
use Rattle.moo_value.specs.Text.{literal as text_of}
use Rattle.moo_syntax_token.specs.declared.sign.Sign.{Sign}
use Rattle.moo_syntax_token.specs.declared.sign.Sign.TheVariants as sign
use Rattle.moo_syntax_token.specs.declared.keyword.Keyword.TheVariants as keyword
use Rattle.moo_syntax_token.specs.declared.token.Token.{Token}
use Rattle.moo_syntax_token.specs.declared.token.Token.TheVariants as token
use Rattle.moo_syntax_token.specs.declared.token.Spot.{Spot}
use Rattle.moo_value.specs.Digits.{is_digit, number, wrapped}
use Rattle.moo_syntax_token.specs.Tokens.{begins_name, continues_name, begins_fraction, integer_at, token_at}
use Rattle.moo_syntax_token.specs.Lexing.{begins_comment, Lexes, outside, complete}
use Rattle.moo_syntax_token.specs.Lexing
use Rattle.moo_syntax_token.specs.Spelling.{spell as spelling, HasSpelling, joins, joins_sign, begins_with, sign_text, is_word, is_name}
use Rattle.moo_syntax_token.proofs.SpelledWords.{error_is_word, name_is_word, both, front_length}
use Rattle.moo_syntax_token.proofs.SpelledNumbers.{decimal_is}
use Rattle.moo_syntax_token.proofs.Spellings.{lexes_spelling, lexes_blank}
use Rattle.moo_value.specs.Errors.{error_name}
use Rattle.moo_syntax_ast.specs.declared.operator.UnaryOperator.TheVariants as unary
use Rattle.moo_syntax_ast.specs.declared.operator.BinaryOperator.{BinaryOperator}
use Rattle.moo_syntax_ast.specs.declared.operator.BinaryOperator.TheVariants as binary
use Rattle.moo_syntax_ast.specs.declared.operator.LogicOperator.{LogicOperator}
use Rattle.moo_syntax_ast.specs.declared.operator.LogicOperator.TheVariants as logic
use Rattle.moo_syntax_ast.specs.declared.tree.Literal.{Literal}
use Rattle.moo_syntax_ast.specs.declared.tree.Literal.TheVariants as literal
use Rattle.moo_syntax_ast.specs.Tree
use Rattle.moo_syntax_ast.specs.Tree.{Expr, Items, Codes, literal_value}
use Rattle.moo_syntax_ast.specs.Listing
use Rattle.moo_syntax_ast.specs.Listing.{is_compound, is_compound_base, in_parentheses, constant_name, is_system_object, binary_sign, logic_sign}
use Rattle.moo_unparse.specs.declared.form.Parentheses.{Parentheses}
use Rattle.moo_unparse.specs.declared.form.Parentheses.TheVariants.{All, Needed}
use Rattle.moo_unparse.specs.declared.form.Part.TheVariants as part
use Rattle.moo_unparse.specs.Parts.{rank, operator_part, left_of, right_of, needs}
use Rattle.moo_unparse.specs.Listings.{listed, listed_items, listed_codes}
use Rattle.moo_syntax_grammar.specs.Tokens.{words}
use Rattle.moo_unparse.proofs.Names.{constant_is}
use Rattle.moo_unparse.proofs.Listed.{binary_token, logic_mark, literal_tokens, parens, further, spell, spell_items, spell_codes, selected, IsSoundLiteral, IsSoundLabel, spell_label, IsSound, AreSound, AreSoundCodes}

-- at line n these bytes and the lines below have these tokens
pub record Reads (n : ℕ) (below : List (List ℕ)) (bs : List ℕ) (ts : List Token) : Type 0 where
  pub spots : List Spot
  pub lexes : Lexes complete outside n bs below spots
  pub same : words spots ≡ ts

-- no token that is written continues with these bytes; if it is no integer, they may begin with a dot
pub record Ends (integer : Bool) (rest : List ℕ) : Type 0 where
  pub name : begins_with continues_name rest ≡ false
  pub digit : begins_with is_digit rest ≡ false
  pub fraction : integer ≡ true → begins_fraction rest ≡ false

no_fraction : (c : ℕ) (x : List ℕ) → nat_eq c 69 ≡ false → nat_eq c 101 ≡ false → nat_eq c 46 ≡ false → begins_fraction (c ∷ x) ≡ false
unfolding begins_fraction
no_fraction c [] e f g = rw (e, f, g) refl
no_fraction c (b ∷ x) e f g = rw (e, f, g) refl

pub ends_at : (i : Bool) (c : ℕ) (x : List ℕ) → continues_name c ≡ false → is_digit c ≡ false → nat_eq c 69 ≡ false → nat_eq c 101 ≡ false → nat_eq c 46 ≡ false → Ends i (c ∷ x)
ends_at i c x n d e f g = record { name = n; digit = d; fraction = λ h. no_fraction c x e f g }

pub ends_dots : (i : Bool) (x : List ℕ) → Ends i (46 ∷ 46 ∷ x)
unfolding begins_fraction
ends_dots i x = record { name = refl; digit = refl; fraction = λ h. refl }

-- `.` or `:`
abbrev IsSelector : Sign → Type 0
IsSelector sign.Dot = Unit {0}
IsSelector sign.Colon = Unit {0}
IsSelector s = ⊥

ends_selector : (m : Sign) → IsSelector m → (x : List ℕ) → Ends false (sign_text m ++ x)
ends_selector sign.Dot h x = record { name = refl; digit = refl; fraction = λ h. absurd cc }
ends_selector sign.Colon h x = record { name = refl; digit = refl; fraction = λ h. absurd cc }
ends_selector _ h x = absurd h

-- bytes that may follow an integer may follow any token
loosely : (i : Bool) (x : List ℕ) → Ends true x → Ends i x
loosely i x e = record { name = e.name; digit = e.digit; fraction = λ h. e.fraction refl }

never : (s : Sign) → ((b : ℕ) → joins_sign s b ≡ false) → (rest : List ℕ) → begins_with (joins_sign s) rest ≡ false
never s h [] = refl
never s h (b ∷ bs) = h b

-- the bytes that may follow `!`
NoEqual : List ℕ → Type 0
NoEqual bs = begins_with (joins_sign sign.Bang) bs ≡ false

letter_no_equal : (b : ℕ) → begins_name b ≡ true → nat_eq b 61 ≡ false
letter_no_equal b h = grind (arith, nat_tests)

digit_no_equal : (b : ℕ) → is_digit b ≡ true → nat_eq b 61 ≡ false
digit_no_equal b h = grind (arith, nat_tests)

letter_no_dot : (b : ℕ) → begins_name b ≡ true → nat_eq b 46 ≡ false
letter_no_dot b h = grind (arith, nat_tests)

word_no_dot : (w rest : List ℕ) → is_word w ≡ true → begins_with (joins_sign sign.Dot) (w ++ rest) ≡ false
word_no_dot [] rest h = absurd cc
word_no_dot (b ∷ bs) rest h = letter_no_dot b (both (begins_name b) (list_all continues_name bs) h).0

-- a name or a parenthesis follows `.` or `:`
name_apart : (m : Sign) → IsSelector m → (s rest : List ℕ) → is_name s ≡ true → begins_with (joins_sign m) (s ++ rest) ≡ false
name_apart sign.Dot h s rest is = word_no_dot s rest (name_is_word s is)
name_apart sign.Colon h s rest is = never sign.Colon (λ b. refl) (s ++ rest)
name_apart _ h s rest is = absurd h

parenthesis_apart : (m : Sign) → IsSelector m → (rest : List ℕ) → begins_with (joins_sign m) (40 ∷ rest) ≡ false
parenthesis_apart sign.Dot h rest = refl
parenthesis_apart sign.Colon h rest = refl
parenthesis_apart _ h rest = absurd h

word_no_equal : (w rest : List ℕ) → is_word w ≡ true → NoEqual (w ++ rest)
unfolding NoEqual
word_no_equal [] rest h = absurd cc
word_no_equal (b ∷ bs) rest h = letter_no_equal b (both (begins_name b) (list_all continues_name bs) h).0

digits_no_equal : (ds rest : List ℕ) → list_all is_digit ds ≡ true → 0 < length ds → NoEqual (ds ++ rest)
unfolding NoEqual
digits_no_equal [] rest d s = absurd (omega arith)
digits_no_equal (b ∷ bs) rest d s = digit_no_equal b (both (is_digit b) (list_all is_digit bs) d).0

selected_no_equal : (text : List ℕ) (s : Option (List ℕ)) (system : Bool) (base name rest : List ℕ) → ((more : List ℕ) → NoEqual (base ++ more)) → NoEqual (Listing.selected text s system base name ++ rest)
unfolding NoEqual
selected_no_equal text (Some s) true base name rest h = refl
selected_no_equal text (Some s) false base name rest h = simp append_assoc (h (text ++ (s ++ rest)))
selected_no_equal text None system base name rest h = simp append_assoc (h (text ++ (40 ∷ (name ++ (41 ∷ rest)))))

base_no_equal : (p : Parentheses) (e : Expr) → IsSound e → (rest : List ℕ) → NoEqual (in_parentheses (is_compound_base e) (listed p e) ++ rest)
unfolding NoEqual
base_no_equal p (Tree.literal (literal.Integer n)) s rest = refl
base_no_equal p (Tree.literal (literal.Object n)) s rest = refl
base_no_equal p (Tree.literal (literal.Error c)) s rest = word_no_equal (error_name c) rest (error_is_word c)
base_no_equal p (Tree.literal (literal.Str t)) s rest = refl
base_no_equal p (Tree.variable w) s rest = word_no_equal w rest (name_is_word w s)
base_no_equal p Tree.length_mark s rest = refl
base_no_equal p (Tree.unary o a) s rest = refl
base_no_equal p (Tree.binary o a b) s rest = refl
base_no_equal p (Tree.logic o a b) s rest = refl
base_no_equal p (Tree.conditional a b c) s rest = refl
base_no_equal p (Tree.index a b) s rest = simp append_assoc (base_no_equal p a s.0 (91 ∷ (listed p b ++ (93 ∷ rest))))
base_no_equal p (Tree.range a b c) s rest = simp append_assoc (base_no_equal p a s.0 (91 ∷ (listed p b ++ (46 ∷ 46 ∷ (listed p c ++ (93 ∷ rest))))))
base_no_equal p (Tree.list xs) s rest = refl
base_no_equal p (Tree.property a b) s rest = selected_no_equal (codes ".") (constant_name b) (is_system_object a) (in_parentheses (is_compound_base a) (listed p a)) (listed p b) rest (base_no_equal p a s.0)
base_no_equal p (Tree.verb_call a b xs) s rest = simp append_assoc (selected_no_equal (codes ":") (constant_name b) (is_system_object a) (in_parentheses (is_compound_base a) (listed p a)) (listed p b) (40 ∷ (listed_items p xs ++ (41 ∷ rest))) (base_no_equal p a s.0))
base_no_equal p (Tree.call w xs) s rest = simp append_assoc (word_no_equal w (40 ∷ (listed_items p xs ++ (41 ∷ rest))) (name_is_word w s.0))
base_no_equal p (Tree.assign a b) s rest = refl
base_no_equal p (Tree.catch a c) s rest = refl
base_no_equal p (Tree.catch_or a c b) s rest = refl

-- an operator between two operands is in parentheses after a sign
binary_no_equal : (o : BinaryOperator) (text rest : List ℕ) → NoEqual (in_parentheses (nat_lt (rank (operator_part o)) 7) text ++ rest)
unfolding NoEqual
binary_no_equal binary.Add text rest = refl
binary_no_equal binary.Subtract text rest = refl
binary_no_equal binary.Multiply text rest = refl
binary_no_equal binary.Divide text rest = refl
binary_no_equal binary.Remainder text rest = refl
binary_no_equal binary.Power text rest = refl
binary_no_equal binary.Equal text rest = refl
binary_no_equal binary.NotEqual text rest = refl
binary_no_equal binary.Less text rest = refl
binary_no_equal binary.LessOrEqual text rest = refl
binary_no_equal binary.Greater text rest = refl
binary_no_equal binary.GreaterOrEqual text rest = refl
binary_no_equal binary.In text rest = refl

operand_no_equal : (p : Parentheses) (e : Expr) → IsSound e → (rest : List ℕ) → NoEqual (in_parentheses (needs p part.Sign e) (listed p e) ++ rest)
unfolding NoEqual
operand_no_equal All (Tree.literal (literal.Integer (pos n))) s rest = let d = decimal_is n (omega (arith, s.sfits)) in digits_no_equal (decimal n) rest d.digits d.some
operand_no_equal All (Tree.literal (literal.Integer (negsuc n))) s rest = refl
operand_no_equal All (Tree.literal (literal.Object n)) s rest = refl
operand_no_equal All (Tree.literal (literal.Error c)) s rest = word_no_equal (error_name c) rest (error_is_word c)
operand_no_equal All (Tree.literal (literal.Str t)) s rest = refl
operand_no_equal All (Tree.variable w) s rest = word_no_equal w rest (name_is_word w s)
operand_no_equal All Tree.length_mark s rest = refl
operand_no_equal All (Tree.unary o a) s rest = refl
operand_no_equal All (Tree.binary o a b) s rest = refl
operand_no_equal All (Tree.logic o a b) s rest = refl
operand_no_equal All (Tree.conditional a b c) s rest = refl
operand_no_equal All (Tree.index a b) s rest = base_no_equal All (Tree.index a b) s rest
operand_no_equal All (Tree.range a b c) s rest = base_no_equal All (Tree.range a b c) s rest
operand_no_equal All (Tree.list xs) s rest = refl
operand_no_equal All (Tree.property a b) s rest = base_no_equal All (Tree.property a b) s rest
operand_no_equal All (Tree.verb_call a b xs) s rest = base_no_equal All (Tree.verb_call a b xs) s rest
operand_no_equal All (Tree.call w xs) s rest = base_no_equal All (Tree.call w xs) s rest
operand_no_equal All (Tree.assign a b) s rest = refl
operand_no_equal All (Tree.catch a c) s rest = refl
operand_no_equal All (Tree.catch_or a c b) s rest = refl
operand_no_equal Needed (Tree.literal (literal.Integer (pos n))) s rest = let d = decimal_is n (omega (arith, s.sfits)) in digits_no_equal (decimal n) rest d.digits d.some
operand_no_equal Needed (Tree.literal (literal.Integer (negsuc n))) s rest = refl
operand_no_equal Needed (Tree.literal (literal.Object n)) s rest = refl
operand_no_equal Needed (Tree.literal (literal.Error c)) s rest = word_no_equal (error_name c) rest (error_is_word c)
operand_no_equal Needed (Tree.literal (literal.Str t)) s rest = refl
operand_no_equal Needed (Tree.variable w) s rest = word_no_equal w rest (name_is_word w s)
operand_no_equal Needed Tree.length_mark s rest = refl
operand_no_equal Needed (Tree.unary unary.Not a) s rest = refl
operand_no_equal Needed (Tree.unary unary.Negate a) s rest = refl
operand_no_equal Needed (Tree.binary o a b) s rest = binary_no_equal o (listed Needed (Tree.binary o a b)) rest
operand_no_equal Needed (Tree.logic o a b) s rest = refl
operand_no_equal Needed (Tree.conditional a b c) s rest = refl
operand_no_equal Needed (Tree.index a b) s rest = base_no_equal Needed (Tree.index a b) s rest
operand_no_equal Needed (Tree.range a b c) s rest = base_no_equal Needed (Tree.range a b c) s rest
operand_no_equal Needed (Tree.list xs) s rest = refl
operand_no_equal Needed (Tree.property a b) s rest = base_no_equal Needed (Tree.property a b) s rest
operand_no_equal Needed (Tree.verb_call a b xs) s rest = base_no_equal Needed (Tree.verb_call a b xs) s rest
operand_no_equal Needed (Tree.call w xs) s rest = base_no_equal Needed (Tree.call w xs) s rest
operand_no_equal Needed (Tree.assign a b) s rest = refl
operand_no_equal Needed (Tree.catch a c) s rest = refl
operand_no_equal Needed (Tree.catch_or a c b) s rest = refl

no_equal : (p : Parentheses) (e : Expr) → IsSound e → (rest : List ℕ) → begins_with (joins_sign sign.Bang) (in_parentheses (needs p part.Sign e) (listed p e) ++ rest) ≡ false
unfolding NoEqual
no_equal p e s rest = operand_no_equal p e s rest

digit_begins_none : (b : ℕ) → is_digit b ≡ true → begins_name b ≡ false
digit_begins_none b h = grind (arith, nat_tests)

digit_no_slash : (b : ℕ) → is_digit b ≡ true → nat_eq b 47 ≡ false
digit_no_slash b h = grind (arith, nat_tests)

at_digits : (ds rest : List ℕ) → list_all is_digit ds ≡ true → 0 < length ds → token_at (ds ++ rest) ≡ integer_at (ds ++ rest)
unfolding token_at
at_digits [] rest d s = absurd (omega arith)
at_digits (b ∷ bs) rest d s =
    let h = (both (is_digit b) (list_all is_digit bs) d).0 in
    rw (digit_begins_none b h, h) refl

-- digits are an integer, from 2 ^ 31 on a negative one
digits_token : (ds rest : List ℕ) → list_all is_digit ds ≡ true → Ends true rest → integer_at (ds ++ rest) ≡ Some (token.Integer (wrapped ds), length ds)
unfolding integer_at
digits_token ds rest d e =
    let front : prefix_len is_digit (ds ++ rest) ≡ length ds = front_length is_digit ds rest d e.digit in
    let part : take (length ds) (ds ++ rest) ≡ ds = take_at ds rest (length ds) refl in
    let after : drop (length ds) (ds ++ rest) ≡ rest = drop_at ds rest (length ds) refl in
    let f = e.fraction refl in
    rw (front, after, f, part) refl

digits_no_comment : (ds rest : List ℕ) → list_all is_digit ds ≡ true → 0 < length ds → begins_comment (ds ++ rest) ≡ false
unfolding begins_comment
digits_no_comment [] rest d s = absurd (omega arith)
digits_no_comment (b ∷ []) [] d s = refl
digits_no_comment (b ∷ []) (c ∷ rest) d s = rw (digit_no_slash b (both (is_digit b) true d).0) refl
digits_no_comment (b ∷ c ∷ bs) rest d s = rw (digit_no_slash b (both (is_digit b) (list_all is_digit (c ∷ bs)) d).0) refl

-- without its minus
magnitude_by : (k : ℕ) (ds : List ℕ) → number ds ≡ suc k → k < 2 ^ 31 → (suc k < 2 ^ 31) ⊎ (2 ^ 31 ≤ suc k) → wrapped ds ≡ int_wrapping_neg w32 (negsuc k)
magnitude_by k ds v h (inl l) =
    let f : FitsSigned w32 (negsuc k) = record { sfits = h } in
    let g : FitsSigned w32 (pos (suc k)) = record { sfits = l } in
    let one : int_wrapping_neg w32 (negsuc k) ≡ pos (suc k) = wrapping_neg_is w32 (negsuc k) f ∙ int_wrap_fits w32 (pos (suc k)) g in
    let small : suc k % 4294967296 ≡ suc k = omega arith in
    rw (one, v, small) (to_z_pos w32 (suc k) l)
magnitude_by k ds v h (inr g) =
    let e : k ≡ 2147483647 = omega arith in
    rw (v, e) refl

magnitude : (k : ℕ) (ds : List ℕ) → number ds ≡ suc k → k < 2 ^ 31 → wrapped ds ≡ int_wrapping_neg w32 (negsuc k)
magnitude k ds v h = magnitude_by k ds v h (cases_lt (suc k) (2 ^ 31))

ends_further : (p : Parentheses) (xs : Items) (rest : List ℕ) → Ends true rest → Ends true (Listing.further xs (listed_items p xs) ++ rest)
ends_further p Tree.no_items rest e = e
ends_further p (Tree.element a xs) rest e = ends_at true 44 _ refl refl refl refl refl
ends_further p (Tree.splice a xs) rest e = ends_at true 44 _ refl refl refl refl refl
ends_further p (Tree.optional s xs) rest e = ends_at true 44 _ refl refl refl refl refl
ends_further p (Tree.defaulted s a xs) rest e = ends_at true 44 _ refl refl refl refl refl

module _ {n : ℕ} {below : List (List ℕ)} where
  -- one token, which no byte after it joins
  pub step : (x : Token) (rest : List ℕ) (ts : List Token) → HasSpelling x → joins x rest ≡ false → Reads n below rest ts → Reads n below (spelling x ++ rest) (x ∷ ts)
  step x rest ts h j r = record {
    spots = record { token = x; line = n } ∷ r.spots;
    lexes = lexes_spelling complete n x rest below r.spots h j r.lexes;
    same = ap (λ (us : List Token). x ∷ us) r.same;
  }

  pub blank : (rest : List ℕ) (ts : List Token) → Reads n below rest ts → Reads n below (32 ∷ rest) ts
  blank rest ts r = record { spots = r.spots; lexes = lexes_blank complete n rest below r.spots r.lexes; same = r.same }

  mark : (s : Sign) (rest : List ℕ) (ts : List Token) → begins_with (joins_sign s) rest ≡ false → Reads n below rest ts → Reads n below (sign_text s ++ rest) (token.Sign s ∷ ts)
  mark s rest ts j r = step (token.Sign s) rest ts tt j r

  pub plain : (s : Sign) → ((b : ℕ) → joins_sign s b ≡ false) → (rest : List ℕ) (ts : List Token) → Reads n below rest ts → Reads n below (sign_text s ++ rest) (token.Sign s ∷ ts)
  plain s h rest ts r = mark s rest ts (never s h rest) r

  digits : (k : ℕ) (rest : List ℕ) (ts : List Token) → k < 2 ^ 31 → Ends true rest → Reads n below rest ts → Reads n below (decimal (suc k) ++ rest) (token.Integer (int_wrapping_neg w32 (negsuc k)) ∷ ts)
  digits k rest ts h e r =
      let d = decimal_is (suc k) (omega arith) in
      let at : token_at (decimal (suc k) ++ rest) ≡ Some (token.Integer (int_wrapping_neg w32 (negsuc k)), length (decimal (suc k))) =
      at_digits (decimal (suc k)) rest d.digits d.some ∙ digits_token (decimal (suc k)) rest d.digits e ∙ ap (λ (z : ℤ). Some (token.Integer z, length (decimal (suc k)))) (magnitude k (decimal (suc k)) d.value h) in
      let after : drop (length (decimal (suc k))) (decimal (suc k) ++ rest) ≡ rest = drop_at (decimal (suc k)) rest (length (decimal (suc k))) refl in
      record {
        spots = record { token = token.Integer (int_wrapping_neg w32 (negsuc k)); line = n } ∷ r.spots;
        lexes = Lexing.token (digits_no_comment (decimal (suc k)) rest d.digits d.some) at (subst (λ bs. Lexes complete outside n bs below r.spots) (sym after) r.lexes);
        same = ap (λ (us : List Token). token.Integer (int_wrapping_neg w32 (negsuc k)) ∷ us) r.same;
      }

  read_literal : (l : Literal) → IsSoundLiteral l → (rest : List ℕ) (ts : List Token) → Ends (is_compound_base (Tree.literal l)) rest → Reads n below rest ts → Reads n below (text_of (literal_value l) ++ rest) (literal_tokens l ts)
  read_literal (literal.Integer (pos k)) f rest ts e r = step (token.Integer (pos k)) rest ts (search rules, f) (rw (e.digit, e.fraction refl) refl) r
  read_literal (literal.Integer (negsuc k)) f rest ts e r = plain sign.Minus (λ b. refl) _ _ (digits k rest ts f.sfits e r)
  read_literal (literal.Object o) f rest ts e r = step (token.Object o) rest ts f e.digit r
  read_literal (literal.Error c) f rest ts e r = step (token.Error c) rest ts tt e.name r
  read_literal (literal.Str s) f rest ts e r = step (token.Str s) rest ts tt refl r

  read_binary : (o : BinaryOperator) (rest : List ℕ) (ts : List Token) → Reads n below rest ts → Reads n below (binary_sign o ++ (32 ∷ rest)) (binary_token o ∷ ts)
  read_binary binary.Add rest ts r = mark sign.Plus _ _ refl (blank _ _ r)
  read_binary binary.Subtract rest ts r = mark sign.Minus _ _ refl (blank _ _ r)
  read_binary binary.Multiply rest ts r = mark sign.Star _ _ refl (blank _ _ r)
  read_binary binary.Divide rest ts r = mark sign.Slash _ _ refl (blank _ _ r)
  read_binary binary.Remainder rest ts r = mark sign.Percent _ _ refl (blank _ _ r)
  read_binary binary.Power rest ts r = mark sign.Caret _ _ refl (blank _ _ r)
  read_binary binary.Equal rest ts r = mark sign.Equal _ _ refl (blank _ _ r)
  read_binary binary.NotEqual rest ts r = mark sign.NotEqual _ _ refl (blank _ _ r)
  read_binary binary.Less rest ts r = mark sign.Less _ _ refl (blank _ _ r)
  read_binary binary.LessOrEqual rest ts r = mark sign.LessEqual _ _ refl (blank _ _ r)
  read_binary binary.Greater rest ts r = mark sign.Greater _ _ refl (blank _ _ r)
  read_binary binary.GreaterOrEqual rest ts r = mark sign.GreaterEqual _ _ refl (blank _ _ r)
  read_binary binary.In rest ts r = step (token.Keyword keyword.In) _ _ tt refl (blank _ _ r)

  read_logic : (o : LogicOperator) (rest : List ℕ) (ts : List Token) → Reads n below rest ts → Reads n below (logic_sign o ++ (32 ∷ rest)) (token.Sign (logic_mark o) ∷ ts)
  read_logic logic.And rest ts r = mark sign.AndAnd _ _ refl (blank _ _ r)
  read_logic logic.Or rest ts r = mark sign.OrOr _ _ refl (blank _ _ r)

  -- a text that is read, in parentheses or bare
  bracketed : (i : Bool) (text : List ℕ) (f : List Token → List Token) → ((rest : List ℕ) (ts : List Token) → Ends i rest → Reads n below rest ts → Reads n below (text ++ rest) (f ts)) → (rest : List ℕ) (ts : List Token) → Reads n below rest ts → Reads n below (in_parentheses true text ++ rest) (parens true f ts)
  bracketed i text f k rest ts r =
      rw (append_assoc text (codes ")") rest) (plain sign.LeftParen (λ b. refl) _ _ (k (41 ∷ rest) _ (ends_at i 41 rest refl refl refl refl refl) (plain sign.RightParen (λ b. refl) rest ts r)))

  group : (p i : Bool) (text : List ℕ) (f : List Token → List Token) → ((rest : List ℕ) (ts : List Token) → Ends i rest → Reads n below rest ts → Reads n below (text ++ rest) (f ts)) → (rest : List ℕ) (ts : List Token) → Ends true rest → Reads n below rest ts → Reads n below (in_parentheses p text ++ rest) (parens p f ts)
  group true i text f k rest ts e r = bracketed i text f k rest ts r
  group false i text f k rest ts e r = k rest ts (loosely i rest e) r

  -- the text of a base that is read, in parentheses or without, before a possible dot
  base : (i : Bool) (text : List ℕ) (f : List Token → List Token) → ((rest : List ℕ) (ts : List Token) → Ends i rest → Reads n below rest ts → Reads n below (text ++ rest) (f ts)) → (rest : List ℕ) (ts : List Token) → Ends false rest → Reads n below rest ts → Reads n below (in_parentheses i text ++ rest) (parens i f ts)
  base true text f k rest ts e r = bracketed true text f k rest ts r
  base false text f k rest ts e r = k rest ts e r

  read_further : (p : Parentheses) (xs : Items) (rest : List ℕ) (ts : List Token) → Reads n below (listed_items p xs ++ rest) (spell_items p xs ts) → Reads n below (Listing.further xs (listed_items p xs) ++ rest) (further xs (spell_items p xs ts))
  read_further p Tree.no_items rest ts r = r
  read_further p (Tree.element a xs) rest ts r = plain sign.Comma (λ b. refl) _ _ (blank _ _ r)
  read_further p (Tree.splice a xs) rest ts r = plain sign.Comma (λ b. refl) _ _ (blank _ _ r)
  read_further p (Tree.optional s xs) rest ts r = plain sign.Comma (λ b. refl) _ _ (blank _ _ r)
  read_further p (Tree.defaulted s a xs) rest ts r = plain sign.Comma (λ b. refl) _ _ (blank _ _ r)

  -- a sign with a blank on each side
  spaced : (m : Sign) (rest : List ℕ) (ts : List Token) → begins_with (joins_sign m) (32 ∷ rest) ≡ false → Reads n below rest ts → Reads n below (32 ∷ (sign_text m ++ (32 ∷ rest))) (token.Sign m ∷ ts)
  spaced m rest ts h r = blank _ _ (mark m _ _ h (blank _ _ r))

  -- a property or a verb of a base
  read_selected : (m : Sign) → IsSelector m → (b : Expr) (s : Option (List ℕ)) → constant_name b ≡ s → (system : Bool) (base name : List ℕ) (f g : List Token → List Token) → ((rest : List ℕ) (ts : List Token) → Ends false rest → Reads n below rest ts → Reads n below (base ++ rest) (f ts)) → ((rest : List ℕ) (ts : List Token) → Ends true rest → Reads n below rest ts → Reads n below (name ++ rest) (g ts)) → (rest : List ℕ) (ts : List Token) → Ends false rest → Reads n below rest ts → Reads n below (Listing.selected (sign_text m) s system base name ++ rest) (selected m s system f g ts)
  read_selected m h b (Some s) is true base name f g k l rest ts e r = plain sign.Dollar (λ b. refl) _ _ (step (token.Name s) rest ts (constant_is b s is).name e.name r)
  read_selected m h b (Some s) is false base name f g k l rest ts e r =
      simp append_assoc (k _ _ (ends_selector m h (s ++ rest)) (mark m _ _ (name_apart m h s rest (constant_is b s is).name) (step (token.Name s) rest ts (constant_is b s is).name e.name r)))
  read_selected m h b None is system base name f g k l rest ts e r =
      simp append_assoc (k _ _ (ends_selector m h (40 ∷ (name ++ (41 ∷ rest)))) (mark m _ _ (parenthesis_apart m h (name ++ (41 ∷ rest))) (plain sign.LeftParen (λ b. refl) _ _ (l _ _ (ends_at true 41 rest refl refl refl refl refl) (plain sign.RightParen (λ b. refl) rest ts r)))))

  mutual
    pub read : (p : Parentheses) (e : Expr) → IsSound e → (rest : List ℕ) (ts : List Token) → Ends (is_compound_base e) rest → Reads n below rest ts → Reads n below (listed p e ++ rest) (spell p e ts)
    read p (Tree.literal l) s rest ts e r = read_literal l s rest ts e r
    read p (Tree.variable w) s rest ts e r = step (token.Name w) rest ts s e.name r
    read p Tree.length_mark s rest ts e r = plain sign.Dollar (λ b. refl) rest ts r
    read p (Tree.unary unary.Not a) s rest ts e r = mark sign.Bang _ _ (no_equal p a s rest) (group (needs p part.Sign a) (is_compound_base a) (listed p a) (spell p a) (read p a s) rest ts e r)
    read p (Tree.unary unary.Negate a) s rest ts e r = plain sign.Minus (λ b. refl) _ _ (group (needs p part.Sign a) (is_compound_base a) (listed p a) (spell p a) (read p a s) rest ts e r)
    read p (Tree.binary o a b) s rest ts e r =
        simp append_assoc (group (needs p (left_of (operator_part o)) a) (is_compound_base a) (listed p a) (spell p a) (read p a s.0) _ _ (ends_at true 32 _ refl refl refl refl refl) (blank _ _ (read_binary o _ _ (group (needs p (right_of (operator_part o)) b) (is_compound_base b) (listed p b) (spell p b) (read p b s.1) rest ts e r))))
    read p (Tree.logic o a b) s rest ts e r =
        simp append_assoc (group (needs p (left_of part.Logic) a) (is_compound_base a) (listed p a) (spell p a) (read p a s.0) _ _ (ends_at true 32 _ refl refl refl refl refl) (blank _ _ (read_logic o _ _ (group (needs p (right_of part.Logic) b) (is_compound_base b) (listed p b) (spell p b) (read p b s.1) rest ts e r))))
    read p (Tree.conditional a b c) s rest ts e r =
        simp append_assoc (group (needs p part.Logic a) (is_compound_base a) (listed p a) (spell p a) (read p a s.0) _ _ (ends_at true 32 _ refl refl refl refl refl) (spaced sign.Question _ _ refl (group (needs p part.Assignment b) (is_compound_base b) (listed p b) (spell p b) (read p b s.1) _ _ (ends_at true 32 _ refl refl refl refl refl) (spaced sign.Pipe _ _ refl (group (needs p part.Conditional c) (is_compound_base c) (listed p c) (spell p c) (read p c s.2) rest ts e r)))))
    read p (Tree.index a b) s rest ts e r =
        simp append_assoc (base (is_compound_base a) (listed p a) (spell p a) (read p a s.0) _ _ (ends_at false 91 _ refl refl refl refl refl) (plain sign.LeftBracket (λ b. refl) _ _ (read p b s.1 _ _ (ends_at (is_compound_base b) 93 _ refl refl refl refl refl) (plain sign.RightBracket (λ b. refl) rest ts r))))
    read p (Tree.range a b c) s rest ts e r =
        simp append_assoc (base (is_compound_base a) (listed p a) (spell p a) (read p a s.0) _ _ (ends_at false 91 _ refl refl refl refl refl) (plain sign.LeftBracket (λ b. refl) _ _ (read p b s.1 _ _ (ends_dots (is_compound_base b) _) (plain sign.DotDot (λ b. refl) _ _ (read p c s.2 _ _ (ends_at (is_compound_base c) 93 _ refl refl refl refl refl) (plain sign.RightBracket (λ b. refl) rest ts r))))))
    read p (Tree.list xs) s rest ts e r =
        simp append_assoc (plain sign.LeftBrace (λ b. refl) _ _ (read_items p xs s _ _ (ends_at true 125 _ refl refl refl refl refl) (plain sign.RightBrace (λ b. refl) rest ts r)))
    read p (Tree.property a b) s rest ts e r =
        read_selected sign.Dot tt b (constant_name b) refl (is_system_object a) (in_parentheses (is_compound_base a) (listed p a)) (listed p b) (λ ts. parens (is_compound_base a) (spell p a) ts) (spell p b) (base (is_compound_base a) (listed p a) (spell p a) (read p a s.0)) (λ rest ts e r. read p b s.1 rest ts (loosely (is_compound_base b) rest e) r) rest ts e r
    read p (Tree.verb_call a b xs) s rest ts e r =
        simp append_assoc (read_selected sign.Colon tt b (constant_name b) refl (is_system_object a) (in_parentheses (is_compound_base a) (listed p a)) (listed p b) (λ ts. parens (is_compound_base a) (spell p a) ts) (spell p b) (base (is_compound_base a) (listed p a) (spell p a) (read p a s.0)) (λ rest ts e r. read p b s.1 rest ts (loosely (is_compound_base b) rest e) r) _ _ (ends_at false 40 _ refl refl refl refl refl) (plain sign.LeftParen (λ b. refl) _ _ (read_items p xs s.2 _ _ (ends_at true 41 _ refl refl refl refl refl) (plain sign.RightParen (λ b. refl) rest ts r))))
    read p (Tree.call w xs) s rest ts e r =
        simp append_assoc (step (token.Name w) _ _ s.0 refl (plain sign.LeftParen (λ b. refl) _ _ (read_items p xs s.1 _ _ (ends_at true 41 _ refl refl refl refl refl) (plain sign.RightParen (λ b. refl) rest ts r))))
    read p (Tree.assign a b) s rest ts e r =
        simp append_assoc (group (is_compound a) (is_compound_base a) (listed p a) (spell p a) (read p a s.0) _ _ (ends_at true 32 _ refl refl refl refl refl) (spaced sign.Assign _ _ refl (read p b s.1 rest ts (loosely (is_compound_base b) rest e) r)))
    read p (Tree.catch a c) s rest ts e r =
        simp append_assoc (plain sign.Backquote (λ b. refl) _ _ (read p a s.0 _ _ (ends_at (is_compound_base a) 32 _ refl refl refl refl refl) (spaced sign.Bang _ _ refl (read_codes p c s.1 _ _ (ends_at true 39 _ refl refl refl refl refl) (plain sign.Quote (λ b. refl) rest ts r)))))
    read p (Tree.catch_or a c b) s rest ts e r =
        simp append_assoc (plain sign.Backquote (λ b. refl) _ _ (read p a s.0 _ _ (ends_at (is_compound_base a) 32 _ refl refl refl refl refl) (spaced sign.Bang _ _ refl (read_codes p c s.1 _ _ (ends_at true 32 _ refl refl refl refl refl) (spaced sign.Arrow _ _ refl (read p b s.2 _ _ (ends_at (is_compound_base b) 39 _ refl refl refl refl refl) (plain sign.Quote (λ b. refl) rest ts r)))))))

    read_items : (p : Parentheses) (xs : Items) → AreSound xs → (rest : List ℕ) (ts : List Token) → Ends true rest → Reads n below rest ts → Reads n below (listed_items p xs ++ rest) (spell_items p xs ts)
    read_items p Tree.no_items s rest ts e r = r
    read_items p (Tree.element a xs) s rest ts e r =
        simp append_assoc (read p a s.0 _ _ (loosely (is_compound_base a) _ (ends_further p xs rest e)) (read_further p xs rest ts (read_items p xs s.1 rest ts e r)))
    read_items p (Tree.splice a xs) s rest ts e r =
        simp append_assoc (plain sign.At (λ b. refl) _ _ (read p a s.0 _ _ (loosely (is_compound_base a) _ (ends_further p xs rest e)) (read_further p xs rest ts (read_items p xs s.1 rest ts e r))))
    read_items p (Tree.optional w xs) s rest ts e r =
        simp append_assoc (plain sign.Question (λ b. refl) _ _ (step (token.Name w) _ _ s.0 (ends_further p xs rest e).name (read_further p xs rest ts (read_items p xs s.1 rest ts e r))))
    read_items p (Tree.defaulted w a xs) s rest ts e r =
        simp append_assoc (plain sign.Question (λ b. refl) _ _ (step (token.Name w) _ _ s.0 refl (spaced sign.Assign _ _ refl (read p a s.1 _ _ (loosely (is_compound_base a) _ (ends_further p xs rest e)) (read_further p xs rest ts (read_items p xs s.2 rest ts e r))))))

    pub read_codes : (p : Parentheses) (c : Codes) → AreSoundCodes c → (rest : List ℕ) (ts : List Token) → Ends true rest → Reads n below rest ts → Reads n below (listed_codes p c ++ rest) (spell_codes p c ts)
    read_codes p Tree.any_error s rest ts e r = step (token.Keyword keyword.Any) rest ts tt e.name r
    read_codes p (Tree.listed_errors xs) s rest ts e r = read_items p xs s rest ts e r

  pub read_label : (l : Option (List ℕ)) → IsSoundLabel l → (rest : List ℕ) (ts : List Token) → begins_with continues_name rest ≡ false → Reads n below rest ts → Reads n below (Listing.labelled l ++ rest) (spell_label l ts)
  read_label None s rest ts e r = r
  read_label (Some w) s rest ts e r = blank _ _ (step (token.Name w) rest ts s e r)
