-- The tokens without their lines.
use Rattle.std.proofs.Common.{ℕ, zero, suc, List, [], ◌∷◌, ◌++◌, ◌≡◌, ◌<◌, ◌+◌, refl, sym, ap, ◌∙◌, length, get_or, take, drop, append_assoc}
use Rattle.std.proofs.lemmas.List.{take-append-drop, take_more}
use Rattle.moo_syntax_token.specs.declared.token.Token.{Token}
use Rattle.moo_syntax_token.specs.declared.token.Spot.{Spot}
use Rattle.moo_syntax_grammar.specs.Tokens.{words}

pub words_drop : (n : ℕ) (ss : List Spot) → words (drop n ss) ≡ drop n (words ss)
words_drop zero ss = refl
words_drop (suc n) [] = refl
words_drop (suc n) (x ∷ ss) = words_drop n ss

pub words_length : (ss : List Spot) → length (words ss) ≡ length ss
words_length [] = refl
words_length (x ∷ ss) = ap suc (words_length ss)

pub words_append : (ss ts : List Spot) → words (ss ++ ts) ≡ words ss ++ words ts
words_append [] ts = refl
words_append (x ∷ ss) ts = ap (λ v. x.token ∷ v) (words_append ss ts)

-- the tokens up to a place, and those from it on
pub words_parts : (n : ℕ) (ss : List Spot) → words (take n ss) ++ words (drop n ss) ≡ words ss
words_parts n ss = sym (words_append (take n ss) (drop n ss)) ∙ ap words (take-append-drop n ss)

-- the tokens up to and including the next one, before others
pub words_front : (ss : List Spot) (i : ℕ) (x : Spot) → i < length ss → x ≡ get_or ss i x → (ts : List Token) → words (take (i + 1) ss) ++ ts ≡ words (take i ss) ++ x.token ∷ ts
words_front ss i x h e ts =
    let one : take (i + 1) ss ≡ take i ss ++ x ∷ [] = take_more ss i x h ∙ ap (λ v. take i ss ++ v ∷ []) (sym e) in
    ap (λ v. words v ++ ts) one ∙ ap (λ v. v ++ ts) (words_append (take i ss) (x ∷ [])) ∙ append_assoc (words (take i ss)) (x.token ∷ []) ts
