-- The lengths of the lines of the full listing.
use Rattle.std.proofs.Common.{ℕ, ◌+◌, ◌<◌, List, [], ◌∷◌, ◌++◌, ◌≡◌, refl, ap, sym, ◌∙◌, Bool, true, false, ◌&&◌, length, arith, Option, Some, None, nat_lt, get_or, drop, Box, Vec, Global}
use Rattle.std.specs.Prelude.{codes, IsTrue, ◌↔◌, is_some}
use Rattle.std.proofs.lemmas.Bool.Decides.{nat_tests}
use Rattle.moo_syntax_ast.specs.Tree.{Expr, Codes, Stmt, return_nothing, returns, performs, branches, for_list, for_range, while_loop, breaks, continues, try_except, try_finally, Arms, no_else, otherwise, elseif, Handlers, no_handler, handler, Block, no_statement, then}
use Rattle.moo_syntax_ast.specs.declared.tree.Arm.{Arm, ElseIf', Else'}
use Rattle.moo_syntax_ast.specs.declared.tree.Arm.TheBlock as hidden
use Rattle.moo_syntax_ast.specs.declared.tree.Stmt as code
use Rattle.moo_syntax_ast.specs.declared.tree.Expr as expr
use Rattle.moo_syntax_ast.proofs.Rows.{row_block}
use Rattle.moo_syntax_ast.specs.declared.tree.Handler.{Handler, Except', ExceptAs'}
use Rattle.std.proofs.lemmas.List.{drop_more}
use Rattle.moo_syntax_ast.specs.Limits.{AllFit}
use Rattle.moo_syntax_ast.specs.Listing.{listed, listed_codes, labelled, head, below, elseif_head, except_head, listed_arms, listed_handlers, listing}
use Rattle.moo_syntax_ast.specs.View.{root, block, arms_of, with_arm, with_handler}
use Rattle.moo_syntax_listing.specs.Length.{listed_length, codes_length, label_length, head_length, fits, block_fits, below_fits, arms_fit, handlers_fit, handler_fits, Leaves}
use Rattle.moo_syntax_listing.proofs.Lengths.{two, three, five, length_listed, length_listed_codes}

label : (n : Option (List ℕ)) → length (labelled n) ≡ label_length n
label None = refl
label (Some s) = two (codes " ") s

pub length_head : (s : Stmt) → length (head s) ≡ head_length s
length_head return_nothing = refl
length_head (returns a) = omega (arith, three (codes "return ") (listed a) (codes ";"), length_listed a)
length_head (performs a) = omega (arith, two (listed a) (codes ";"), length_listed a)
length_head (branches a b c) = omega (arith, three (codes "if (") (listed a) (codes ")"), length_listed a)
length_head (for_list s a b) = omega (arith, five (codes "for ") s (codes " in (") (listed a) (codes ")"), length_listed a)
length_head (for_range s a b c) = omega (arith, three (codes "for " ++ s ++ codes " in [" ++ listed a ++ codes "..") (listed b) (codes "]"), five (codes "for ") s (codes " in [") (listed a) (codes ".."), length_listed a, length_listed b)
length_head (while_loop n a b) = omega (arith, five (codes "while") (labelled n) (codes " (") (listed a) (codes ")"), label n, length_listed a)
length_head (breaks n) = omega (arith, three (codes "break") (labelled n) (codes ";"), label n)
length_head (continues n) = omega (arith, three (codes "continue") (labelled n) (codes ";"), label n)
length_head (try_except b h) = refl
length_head (try_finally b c) = refl

pub length_elseif : (a : Expr) → length (elseif_head a) ≡ 9 + listed_length a
length_elseif a = omega (arith, three (codes "elseif (") (listed a) (codes ")"), length_listed a)

pub length_except : (n : Option (List ℕ)) (c : Codes) → length (except_head n c) ≡ 9 + label_length n + codes_length c
length_except n c = omega (arith, five (codes "except") (labelled n) (codes " (") (listed_codes c) (codes ")"), label n, length_listed_codes c)

-- a text fits if as many bytes are left
pub fits_where_left : (n : ℕ) (result : Option ℕ) → Leaves 999999 n result → is_some result ≡ nat_lt n 1000000
fits_where_left n None l = grind (arith, nat_tests, l)
fits_where_left n (Some rest) l = grind (arith, nat_tests, l)

AllFit-append : (ls ms : List (List ℕ)) → AllFit (ls ++ ms) ↔ (AllFit ls × AllFit ms)
AllFit-append [] ms = (λ h. (tt, h), λ h. h.1)
AllFit-append (l ∷ ls) ms =
    let a = AllFit-append ls ms in
    (λ h. let p = a.0 h.1 in ((h.0, p.0), p.1), λ h. (h.0.0, a.1 (h.0.1, h.1)))

both : (a b : Bool) → IsTrue (a && b) → IsTrue a × IsTrue b
both true true h = (refl, refl)
both true false h = absurd cc
both false b h = absurd cc

joined : (a b : Bool) → IsTrue a → IsTrue b → IsTrue (a && b)
joined true true g h = refl
joined true false g h = absurd cc
joined false b g h = absurd cc

short : (n : ℕ) → n < 1000 → n < 1000000
short n h = omega (arith, h)

-- lines one after another
abbrev Fit : Bool → List (List ℕ) → Type 0
Fit a ls = IsTrue a ↔ AllFit ls

beside : (a b : Bool) (ls ms : List (List ℕ)) → Fit a ls → Fit b ms → Fit (a && b) (ls ++ ms)
beside a b ls ms f g =
    let s = AllFit-append ls ms in
    (λ h. let p = both a b h in s.1 (f.0 p.0, g.0 p.1), λ h. let p = s.0 h in joined a b (f.1 p.0) (g.1 p.1))

line_fits : (n : ℕ) → IsTrue (nat_lt n 1000000) ↔ (n < 1000000)
line_fits n = (λ h. grind (arith, nat_tests), λ h. grind (arith, nat_tests))

line : (l : List ℕ) → Fit (fits l) (l ∷ [])
line l = let f = line_fits (length l) in (λ h. (f.0 h, tt), λ h. f.1 h.0)

-- lines and a short one after them
ended : (a : Bool) (ls : List (List ℕ)) (l : List ℕ) → length l < 1000 → Fit a ls → Fit a (ls ++ l ∷ [])
ended a ls l n f =
    let s = AllFit-append ls (l ∷ []) in
    (λ h. s.1 (f.0 h, (short (length l) n, tt)), λ h. f.1 (s.0 h).0)

-- and before them
begun : (a : Bool) (l : List ℕ) (ls : List (List ℕ)) → length l < 1000 → Fit a ls → Fit a (l ∷ ls)
begun a l ls n f = (λ h. (short (length l) n, f.0 h), λ h. f.1 h.1)

mutual
  pub fits_listing : (b : Block) → Fit (block_fits b) (listing b)
  fits_listing no_statement = (λ h. tt, λ h. refl)
  fits_listing (then s ss) = beside _ _ (head s ∷ below s) (listing ss) (beside _ _ (head s ∷ []) (below s) (line (head s)) (fits_below s)) (fits_listing ss)

  fits_below : (s : Stmt) → Fit (below_fits s) (below s)
  fits_below (branches a b c) = beside _ _ (listing b) (listed_arms c) (fits_listing b) (fits_arms c)
  fits_below (for_list s a b) = ended _ (listing b) (codes "endfor") (omega arith) (fits_listing b)
  fits_below (for_range s a b c) = ended _ (listing c) (codes "endfor") (omega arith) (fits_listing c)
  fits_below (while_loop n a b) = ended _ (listing b) (codes "endwhile") (omega arith) (fits_listing b)
  fits_below (try_except b h) = beside _ _ (listing b) (listed_handlers h) (fits_listing b) (fits_handlers h)
  fits_below (try_finally b c) = ended _ (listing b ++ codes "finally" ∷ listing c) (codes "endtry") (omega arith) (beside _ _ (listing b) (codes "finally" ∷ listing c) (fits_listing b) (begun _ (codes "finally") (listing c) (omega arith) (fits_listing c)))
  fits_below _ = (λ h. tt, λ h. refl)

  fits_arms : (c : Arms) → Fit (arms_fit c) (listed_arms c)
  fits_arms no_else = (λ h. (short 5 (omega arith), tt), λ h. refl)
  fits_arms (otherwise b) = ended _ (codes "else" ∷ listing b) (codes "endif") (omega arith) (begun _ (codes "else") (listing b) (omega arith) (fits_listing b))
  fits_arms (elseif a b c) = beside _ _ (elseif_head a ∷ listing b) (listed_arms c) (beside _ _ (elseif_head a ∷ []) (listing b) (line (elseif_head a)) (fits_listing b)) (fits_arms c)

  fits_handlers : (h : Handlers) → Fit (handlers_fit h) (listed_handlers h)
  fits_handlers no_handler = (λ h. (short 6 (omega arith), tt), λ h. refl)
  fits_handlers (handler n c b h) = beside _ _ (except_head n c ∷ listing b) (listed_handlers h) (beside _ _ (except_head n c ∷ []) (listing b) (line (except_head n c)) (fits_listing b)) (fits_handlers h)

pub when_true : (p q r s : Bool) → p ≡ true → p ≡ r → q ≡ s → q ≡ (r && s)
when_true p q true s e f g = g
when_true p q false s e f g = let n : false ≡ true = sym f ∙ e in absurd cc

pub when_false : (p r s : Bool) → p ≡ false → p ≡ r → p ≡ (r && s)
when_false p true s e f = let n : true ≡ false = sym f ∙ e in absurd cc
when_false p false s e f = f

pub handler_step : (h : Handler) (hs : Handlers) → handlers_fit (with_handler h hs) ≡ (handler_fits h && handlers_fit hs)
handler_step (Except' c shape ss) hs = refl
handler_step (ExceptAs' s c shape ss) hs = refl

pub all_pass : (p q r : Bool) → p ≡ true → q ≡ true → ((p && q) && r) ≡ r
all_pass true true r f g = refl
all_pass true false r f g = absurd cc
all_pass false q r f g = absurd cc

pub first_fails : (p q r : Bool) → p ≡ false → ((p && q) && r) ≡ false
first_fails true q r f = absurd cc
first_fails false q r f = refl

pub second_fails : (p q r : Bool) → q ≡ false → ((p && q) && r) ≡ false
second_fails true true r f = absurd cc
second_fails true false r f = refl
second_fails false q r f = refl

-- the arm at a place
module _ (arms : List Arm) (i : ℕ) (x : Arm) (h : i < length arms) (e : x ≡ get_or arms i x) where
  arms_at : arms_fit (arms_of (drop i arms)) ≡ arms_fit (with_arm x (arms_of (drop (i + 1) arms)))
  arms_at = ap (λ v. arms_fit (arms_of v)) (drop_more arms i x h ∙ ap (λ v. v ∷ drop (i + 1) arms) (sym e))

  pub at_elseif : (a : Box expr.Expr Global) (v : Vec code.Stmt Global) → x ≡ ElseIf' a (hidden.shape-the_row-Stmt-0 v) (hidden.hidden-the_row-Stmt-0 v) → arms_fit (arms_of (drop i arms)) ≡ ((fits (elseif_head (root a)) && block_fits (block v.items)) && arms_fit (arms_of (drop (i + 1) arms)))
  at_elseif a v is = arms_at ∙ ap (λ y. arms_fit (with_arm y (arms_of (drop (i + 1) arms)))) is ∙ ap (λ b. (fits (elseif_head (root a)) && block_fits b) && arms_fit (arms_of (drop (i + 1) arms))) (row_block v)

  pub at_else : (v : Vec code.Stmt Global) → x ≡ Else' (hidden.shape-the_row-Stmt-0 v) (hidden.hidden-the_row-Stmt-0 v) → arms_fit (arms_of (drop i arms)) ≡ block_fits (block v.items)
  at_else v is = arms_at ∙ ap (λ y. arms_fit (with_arm y (arms_of (drop (i + 1) arms)))) is ∙ ap block_fits (row_block v)
