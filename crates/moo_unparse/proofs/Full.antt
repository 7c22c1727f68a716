-- The full listing is the one in the form of all parentheses and no blanks.
use Rattle.std.proofs.Common.{[], ◌≡◌, refl, false}
use Rattle.moo_syntax_ast.specs.Tree
use Rattle.moo_syntax_ast.specs.Tree.{Expr, Items, Codes, Stmt, Arms, Handlers, Block}
use Rattle.moo_syntax_ast.specs.Listing as full
use Rattle.moo_unparse.specs.declared.form.Parentheses.TheVariants.{All}
use Rattle.moo_unparse.specs.declared.form.Form.{Form}
use Rattle.moo_unparse.specs.Listings.{listed, listed_items, listed_codes, head, below, arm_lines, handlers_lines, lines, listing_in}

mutual
  same : (e : Expr) → listed All e ≡ full.listed e
  same (Tree.literal l) = refl
  same (Tree.variable s) = refl
  same Tree.length_mark = refl
  same (Tree.unary o a) = rw (same a) refl
  same (Tree.binary o a b) = rw (same a, same b) refl
  same (Tree.logic o a b) = rw (same a, same b) refl
  same (Tree.conditional a b c) = rw (same a, same b, same c) refl
  same (Tree.index a b) = rw (same a, same b) refl
  same (Tree.range a b c) = rw (same a, same b, same c) refl
  same (Tree.list xs) = rw (same_items xs) refl
  same (Tree.property a b) = rw (same a, same b) refl
  same (Tree.verb_call a b xs) = rw (same a, same b, same_items xs) refl
  same (Tree.call s xs) = rw (same_items xs) refl
  same (Tree.assign a b) = rw (same a, same b) refl
  same (Tree.catch a c) = rw (same a, same_codes c) refl
  same (Tree.catch_or a c b) = rw (same a, same_codes c, same b) refl

  same_items : (xs : Items) → listed_items All xs ≡ full.listed_items xs
  same_items Tree.no_items = refl
  same_items (Tree.element a xs) = rw (same a, same_items xs) refl
  same_items (Tree.splice a xs) = rw (same a, same_items xs) refl
  same_items (Tree.optional s xs) = rw (same_items xs) refl
  same_items (Tree.defaulted s a xs) = rw (same a, same_items xs) refl

  same_codes : (c : Codes) → listed_codes All c ≡ full.listed_codes c
  same_codes Tree.any_error = refl
  same_codes (Tree.listed_errors xs) = same_items xs

same_head : (s : Stmt) → head All s ≡ full.head s
same_head Tree.return_nothing = refl
same_head (Tree.returns a) = rw (same a) refl
same_head (Tree.performs a) = rw (same a) refl
same_head (Tree.branches a b c) = rw (same a) refl
same_head (Tree.for_list s a b) = rw (same a) refl
same_head (Tree.for_range s a b c) = rw (same a, same b) refl
same_head (Tree.while_loop n a b) = rw (same a) refl
same_head (Tree.breaks n) = refl
same_head (Tree.continues n) = refl
same_head (Tree.try_except b h) = refl
same_head (Tree.try_finally b c) = refl

abbrev form : Form
form = record { parentheses = All; indent = false }

mutual
  same_below : (s : Stmt) → below form [] s ≡ full.below s
  same_below Tree.return_nothing = refl
  same_below (Tree.returns a) = refl
  same_below (Tree.performs a) = refl
  same_below (Tree.branches a b c) = rw (same_lines b, same_arms c) refl
  same_below (Tree.for_list s a b) = rw (same_lines b) refl
  same_below (Tree.for_range s a b c) = rw (same_lines c) refl
  same_below (Tree.while_loop n a b) = rw (same_lines b) refl
  same_below (Tree.breaks n) = refl
  same_below (Tree.continues n) = refl
  same_below (Tree.try_except b h) = rw (same_lines b, same_handlers h) refl
  same_below (Tree.try_finally b c) = rw (same_lines b, same_lines c) refl

  same_arms : (c : Arms) → arm_lines form [] c ≡ full.listed_arms c
  same_arms Tree.no_else = refl
  same_arms (Tree.otherwise b) = rw (same_lines b) refl
  same_arms (Tree.elseif a b c) = rw (same a, same_lines b, same_arms c) refl

  same_handlers : (h : Handlers) → handlers_lines form [] h ≡ full.listed_handlers h
  same_handlers Tree.no_handler = refl
  same_handlers (Tree.handler n c b h) = rw (same_codes c, same_lines b, same_handlers h) refl

  same_lines : (b : Block) → lines form [] b ≡ full.listing b
  same_lines Tree.no_statement = refl
  same_lines (Tree.then s ss) = rw (same_head s, same_below s, same_lines ss) refl

pub full_is_a_form : (b : Block) → listing_in form b ≡ full.listing b
full_is_a_form b = same_lines b
