-- A word that is written is read back.
use Rattle.std.proofs.Common.{ℕ, List, [], ◌∷◌, ◌++◌, ◌≡◌, refl, ap, ◌∙◌, Bool, true, false, Option, Some, None, length, take, ◌&&◌, is_none, arith, nat_eq}
use Rattle.std.specs.List.{list_all, prefix_len}
use Rattle.std.proofs.lemmas.List.{take_at}
use Rattle.std.proofs.lemmas.Bool.Decides.{nat_tests}
use Rattle.moo_value.specs.Errors.{error_name, error_named}
use Rattle.moo_value.specs.declared.error_code.ErrorCode.{ErrorCode}
use Rattle.moo_value.specs.declared.error_code.ErrorCode.TheVariants as error
use Rattle.moo_syntax_token.specs.declared.keyword.Keyword.{Keyword}
use Rattle.moo_syntax_token.specs.declared.keyword.Keyword.TheVariants.{If, Else, ElseIf, EndIf, For, In, EndFor, While, EndWhile, Fork, EndFork, Return, Try, EndTry, Except, Finally, Any, Break, Continue}
use Rattle.moo_syntax_token.specs.declared.token.Token.TheVariants as token
use Rattle.moo_syntax_token.specs.Words.{keyword_of}
use Rattle.moo_syntax_token.specs.Tokens.{begins_name, continues_name, named, word, token_at}
use Rattle.moo_syntax_token.specs.Lexing.{begins_comment}
use Rattle.moo_syntax_token.specs.Spelling.{is_word, is_name, spelled_keyword, begins_with}

pub both : (a b : Bool) → (a && b) ≡ true → (a ≡ true) × (b ≡ true)
both true b h = (refl, h)
both false b h = cc

-- the front of bytes that pass a test, if the byte after them does not
pub front_length : (p : ℕ → Bool) (xs rest : List ℕ) → list_all p xs ≡ true → begins_with p rest ≡ false → prefix_len p (xs ++ rest) ≡ length xs
front_length p [] [] h e = refl
front_length p [] (b ∷ bs) h e = rw e refl
front_length p (x ∷ xs) rest h e =
    let passes = both (p x) (list_all p xs) h in
    let more : prefix_len p (xs ++ rest) ≡ length xs = front_length p xs rest passes.1 e in
    rw (passes.0, more) (omega arith)

pub begins_continues : (b : ℕ) → begins_name b ≡ true → continues_name b ≡ true
begins_continues b h = rw h refl

slash_begins_none : (b : ℕ) → begins_name b ≡ true → nat_eq b 47 ≡ false
slash_begins_none b h = grind (arith, nat_tests)

at_word : (b : ℕ) (cs : List ℕ) → begins_name b ≡ true → token_at (b ∷ cs) ≡ Some (word (take (prefix_len continues_name (b ∷ cs)) (b ∷ cs)), prefix_len continues_name (b ∷ cs))
unfolding token_at
at_word b cs h = rw h refl

pub word_read : (w rest : List ℕ) → is_word w ≡ true → begins_with continues_name rest ≡ false → token_at (w ++ rest) ≡ Some (word w, length w)
word_read [] rest h e = cc
word_read (b ∷ bs) rest h e =
    let passes = both (begins_name b) (list_all continues_name bs) h in
    let all : list_all continues_name (b ∷ bs) ≡ true = rw (begins_continues b passes.0, passes.1) refl in
    let front : prefix_len continues_name (b ∷ (bs ++ rest)) ≡ length (b ∷ bs) = front_length continues_name (b ∷ bs) rest all e in
    let part : take (length (b ∷ bs)) (b ∷ (bs ++ rest)) ≡ b ∷ bs = take_at (b ∷ bs) rest (length (b ∷ bs)) refl in
    at_word b (bs ++ rest) passes.0
    ∙ ap (λ (n : ℕ). Some (word (take n (b ∷ (bs ++ rest))), n)) front
    ∙ ap (λ (w : List ℕ). Some (word w, length (b ∷ bs))) part

pub word_no_comment : (w rest : List ℕ) → is_word w ≡ true → begins_comment (w ++ rest) ≡ false
unfolding begins_comment
word_no_comment [] rest h = cc
word_no_comment (b ∷ []) [] h = refl
word_no_comment (b ∷ []) (c ∷ rest) h = let passes = both (begins_name b) _ h in rw (slash_begins_none b passes.0) refl
word_no_comment (b ∷ c ∷ bs) rest h = let passes = both (begins_name b) _ h in rw (slash_begins_none b passes.0) refl

pub keyword_is_word : (k : Keyword) → is_word (spelled_keyword k) ≡ true
keyword_is_word If = refl
keyword_is_word Else = refl
keyword_is_word ElseIf = refl
keyword_is_word EndIf = refl
keyword_is_word For = refl
keyword_is_word In = refl
keyword_is_word EndFor = refl
keyword_is_word While = refl
keyword_is_word EndWhile = refl
keyword_is_word Fork = refl
keyword_is_word EndFork = refl
keyword_is_word Return = refl
keyword_is_word Try = refl
keyword_is_word EndTry = refl
keyword_is_word Except = refl
keyword_is_word Finally = refl
keyword_is_word Any = refl
keyword_is_word Break = refl
keyword_is_word Continue = refl

pub keyword_is : (k : Keyword) → word (spelled_keyword k) ≡ token.Keyword k
unfolding keyword_of
keyword_is If = refl
keyword_is Else = refl
keyword_is ElseIf = refl
keyword_is EndIf = refl
keyword_is For = refl
keyword_is In = refl
keyword_is EndFor = refl
keyword_is While = refl
keyword_is EndWhile = refl
keyword_is Fork = refl
keyword_is EndFork = refl
keyword_is Return = refl
keyword_is Try = refl
keyword_is EndTry = refl
keyword_is Except = refl
keyword_is Finally = refl
keyword_is Any = refl
keyword_is Break = refl
keyword_is Continue = refl

pub error_is_word : (e : ErrorCode) → is_word (error_name e) ≡ true
error_is_word error.NoError = refl
error_is_word error.TypeMismatch = refl
error_is_word error.Division = refl
error_is_word error.Permission = refl
error_is_word error.PropertyNotFound = refl
error_is_word error.VerbNotFound = refl
error_is_word error.VariableNotFound = refl
error_is_word error.InvalidIndirection = refl
error_is_word error.RecursiveMove = refl
error_is_word error.MaximumRecursion = refl
error_is_word error.Range = refl
error_is_word error.Arguments = refl
error_is_word error.NotAccepted = refl
error_is_word error.InvalidArgument = refl
error_is_word error.Quota = refl
error_is_word error.Float = refl

pub error_is : (e : ErrorCode) → word (error_name e) ≡ token.Error e
unfolding keyword_of error_named
error_is error.NoError = refl
error_is error.TypeMismatch = refl
error_is error.Division = refl
error_is error.Permission = refl
error_is error.PropertyNotFound = refl
error_is error.VerbNotFound = refl
error_is error.VariableNotFound = refl
error_is error.InvalidIndirection = refl
error_is error.RecursiveMove = refl
error_is error.MaximumRecursion = refl
error_is error.Range = refl
error_is error.Arguments = refl
error_is error.NotAccepted = refl
error_is error.InvalidArgument = refl
error_is error.Quota = refl
error_is error.Float = refl

named_name : (w : List ℕ) (k : Option Keyword) (e : Option ErrorCode) → is_none k ≡ true → is_none e ≡ true → named w k e ≡ token.Name w
named_name w (Some k) e h i = cc
named_name w None (Some e) h i = cc
named_name w None None h i = refl

pub name_is_word : (w : List ℕ) → is_name w ≡ true → is_word w ≡ true
unfolding is_name
name_is_word w h = (both _ _ (both (is_word w && is_none (keyword_of w)) _ h).0).0

pub name_is : (w : List ℕ) → is_name w ≡ true → word w ≡ token.Name w
unfolding is_name
name_is w h =
    let outer = both (is_word w && is_none (keyword_of w)) (is_none (error_named w)) h in
    let inner = both (is_word w) (is_none (keyword_of w)) outer.0 in
    named_name w (keyword_of w) (error_named w) inner.1 outer.1
