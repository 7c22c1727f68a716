-- No line of a listing is a dot alone.
use Rattle.std.proofs.Common.{◌≡◌, ◌≢◌, ℕ, suc, ◌<◌, List, [], ◌∷◌, ◌++◌, codes, length, get_or, refl, ap, arith}
use Rattle.std.specs.List.{AllByRecursion}
use Rattle.std.proofs.lemmas.List.{length-append}
use Rattle.moo_syntax_ast.specs.Tree.{Stmt, return_nothing, returns, performs, branches, for_list, for_range, while_loop, breaks, continues, try_except, try_finally, Arms, no_else, otherwise, elseif, Handlers, no_handler, handler, Block, no_statement, then}
use Rattle.moo_syntax_ast.specs.Listing.{listed, head, elseif_head, except_head, below, listed_arms, listed_handlers, listing}

abbrev pub IsMore : List ℕ → Type 0
IsMore line = line ≢ codes "."

-- a line that begins with another byte
begun : (n : ℕ) (line : List ℕ) → get_or line 0 0 ≡ n → 46 < n → IsMore line
begun n line is high e =
    let same : get_or line 0 0 ≡ 46 = ap (λ (l : List ℕ). get_or l 0 0) e in
    absurd (omega (arith, is, high, same))

ended : (xs : List ℕ) → IsMore (xs ++ codes ";")
ended [] e = begun 59 (codes ";") refl (omega arith) e
ended (x ∷ xs) e =
    let parts = length-append xs (codes ";") in
    let same : suc (length (xs ++ codes ";")) ≡ 1 = ap length e in
    absurd (omega (arith, parts, same))

head_more : (s : Stmt) → IsMore (head s)
head_more return_nothing = begun 114 (head return_nothing) refl (omega arith)
head_more (returns a) = begun 114 (head (returns a)) refl (omega arith)
head_more (performs a) = ended (listed a)
head_more (branches a b c) = begun 105 (head (branches a b c)) refl (omega arith)
head_more (for_list s a b) = begun 102 (head (for_list s a b)) refl (omega arith)
head_more (for_range s a b c) = begun 102 (head (for_range s a b c)) refl (omega arith)
head_more (while_loop n a b) = begun 119 (head (while_loop n a b)) refl (omega arith)
head_more (breaks n) = begun 98 (head (breaks n)) refl (omega arith)
head_more (continues n) = begun 99 (head (continues n)) refl (omega arith)
head_more (try_except b h) = begun 116 (head (try_except b h)) refl (omega arith)
head_more (try_finally b c) = begun 116 (head (try_finally b c)) refl (omega arith)

endfor_more : IsMore (codes "endfor")
endfor_more = begun 101 (codes "endfor") refl (omega arith)

endwhile_more : IsMore (codes "endwhile")
endwhile_more = begun 101 (codes "endwhile") refl (omega arith)

endtry_more : IsMore (codes "endtry")
endtry_more = begun 101 (codes "endtry") refl (omega arith)

endif_more : IsMore (codes "endif")
endif_more = begun 101 (codes "endif") refl (omega arith)

else_more : IsMore (codes "else")
else_more = begun 101 (codes "else") refl (omega arith)

finally_more : IsMore (codes "finally")
finally_more = begun 102 (codes "finally") refl (omega arith)

all_parts : (P : List ℕ → Type 0) (xs ys : List (List ℕ)) → AllByRecursion P xs → AllByRecursion P ys → AllByRecursion P (xs ++ ys)
all_parts P [] ys h k = k
all_parts P (x ∷ xs) ys h k = (h.0, all_parts P xs ys h.1 k)

last_more : (xs : List (List ℕ)) (line : List ℕ) → AllByRecursion IsMore xs → IsMore line → AllByRecursion IsMore (xs ++ line ∷ [])
last_more xs line h more = all_parts IsMore xs (line ∷ []) h (more, tt)

mutual
  pub listing_more : (b : Block) → AllByRecursion IsMore (listing b)
  listing_more no_statement = tt
  listing_more (then s ss) = (head_more s, all_parts IsMore (below s) (listing ss) (below_more s) (listing_more ss))

  below_more : (s : Stmt) → AllByRecursion IsMore (below s)
  below_more return_nothing = tt
  below_more (returns a) = tt
  below_more (performs a) = tt
  below_more (branches a b c) = all_parts IsMore (listing b) (listed_arms c) (listing_more b) (arms_more c)
  below_more (for_list s a b) = last_more (listing b) (codes "endfor") (listing_more b) endfor_more
  below_more (for_range s a b c) = last_more (listing c) (codes "endfor") (listing_more c) endfor_more
  below_more (while_loop n a b) = last_more (listing b) (codes "endwhile") (listing_more b) endwhile_more
  below_more (breaks n) = tt
  below_more (continues n) = tt
  below_more (try_except b h) = all_parts IsMore (listing b) (listed_handlers h) (listing_more b) (handlers_more h)
  below_more (try_finally b c) = last_more (listing b ++ (codes "finally" ∷ listing c)) (codes "endtry") (all_parts IsMore (listing b) (codes "finally" ∷ listing c) (listing_more b) (finally_more, listing_more c)) endtry_more

  arms_more : (c : Arms) → AllByRecursion IsMore (listed_arms c)
  arms_more no_else = (endif_more, tt)
  arms_more (otherwise b) = (else_more, last_more (listing b) (codes "endif") (listing_more b) endif_more)
  arms_more (elseif a b c) = (begun 101 (elseif_head a) refl (omega arith), all_parts IsMore (listing b) (listed_arms c) (listing_more b) (arms_more c))

  handlers_more : (h : Handlers) → AllByRecursion IsMore (listed_handlers h)
  handlers_more no_handler = (endtry_more, tt)
  handlers_more (handler n c b h) = (begun 101 (except_head n c) refl (omega arith), all_parts IsMore (listing b) (listed_handlers h) (listing_more b) (handlers_more h))
