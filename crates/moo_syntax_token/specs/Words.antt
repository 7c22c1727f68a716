-- Keywords: words that are no names, in any case.
use Rattle.std.specs.Prelude.{ℕ, Bool, ◌==◌, ◌&&◌, List, [], ◌∷◌, Option, length, filter, find, get_or, codes}
use Rattle.std.specs.Str.{str_eq_ignore_ascii_case}
use Rattle.moo_value.specs.Compare.{folded}
use Rattle.moo_syntax_token.specs.declared.keyword.Keyword.{Keyword}
use Rattle.moo_syntax_token.specs.declared.keyword.Keyword.TheVariants.{If, Else, ElseIf, EndIf, For, In, EndFor, While, EndWhile, Fork, EndFork, Return, Try, EndTry, Except, Finally, Any, Break, Continue}

abbrev pub keyword_text : Keyword → List ℕ
keyword_text If = codes "if"
keyword_text Else = codes "else"
keyword_text ElseIf = codes "elseif"
keyword_text EndIf = codes "endif"
keyword_text For = codes "for"
keyword_text In = codes "in"
keyword_text EndFor = codes "endfor"
keyword_text While = codes "while"
keyword_text EndWhile = codes "endwhile"
keyword_text Fork = codes "fork"
keyword_text EndFork = codes "endfork"
keyword_text Return = codes "return"
keyword_text Try = codes "try"
keyword_text EndTry = codes "endtry"
keyword_text Except = codes "except"
keyword_text Finally = codes "finally"
keyword_text Any = codes "any"
keyword_text Break = codes "break"
keyword_text Continue = codes "continue"

abbrev pub all_keywords : List Keyword
all_keywords = If ∷ Else ∷ ElseIf ∷ EndIf ∷ For ∷ In ∷ EndFor ∷ While ∷ EndWhile ∷ Fork ∷ EndFork ∷ Return ∷ Try ∷ EndTry ∷ Except ∷ Finally ∷ Any ∷ Break ∷ Continue ∷ []

-- the word, in any case, is the keyword
abbrev pub is_spelled : List ℕ → Keyword → Bool
is_spelled word k = str_eq_ignore_ascii_case (keyword_text k) word

-- the keyword that the word is, in any case
unfoldable pub keyword_of : List ℕ → Option Keyword
keyword_of word = find (is_spelled word) all_keywords

-- for private clauses: the first letter of a word in lower case
abbrev pub first_letter : List ℕ → ℕ
first_letter word = get_or (folded word) 0 0

-- for private clauses: the keywords of this length that begin with this lower-case letter
abbrev pub likely : ℕ → ℕ → List Keyword
likely count letter = filter (λ k. (length (keyword_text k) == count) && (get_or (keyword_text k) 0 0 == letter)) all_keywords
