-- A listing of the program of a text is a text of that program, within the limits.
use Rattle.std.proofs.Common.{ℕ, List, [], ◌≡◌, refl, subst, false, arith}
use Rattle.moo_syntax_ast.specs.Tree.{Block}
use Rattle.moo_syntax_ast.specs.Limits.{IsWithinLimits}
use Rattle.moo_syntax_ast.specs.Listing.{listing}
use Rattle.moo_syntax_grammar.specs.declared.names.Names.{Names}
use Rattle.moo_syntax_grammar.specs.Rules.{strict}
use Rattle.moo_syntax_grammar.specs.Texts.{IsProgramOf, IsParsed}
use Rattle.moo_syntax_grammar.proofs.Unique.{one_program_of_text}
use Rattle.moo_unparse.specs.declared.form.Parentheses.TheVariants.{All}
use Rattle.moo_unparse.specs.declared.form.Form.{Form}
use Rattle.moo_unparse.specs.Listings.{listing_in}
use Rattle.moo_unparse.proofs.Full.{full_is_a_form}
use Rattle.moo_unparse.proofs.Good.{good_program}
use Rattle.moo_unparse.proofs.Open.{open_by_height}
use Rattle.moo_unparse.proofs.ReadLines.{read_block}
use Rattle.moo_unparse.proofs.Sound.{tokens_sound}

pub form_is_program : (f : Form) (names : Names) (lines : List (List ℕ)) (b : Block) → IsProgramOf names lines b → IsProgramOf names (listing_in f b) b
form_is_program f names lines b p =
    let g = good_program {p = f.parentheses} {g = strict names} refl p.program (tokens_sound lines p.spots p.tokens) in
    let r = read_block f b g.sound 0 in
    record { spots = r.spots; tokens = r.lexes; program = rw r.same (g.statements []) }

pub form_is_no_other : (f : Form) (names : Names) (lines : List (List ℕ)) (b c : Block) → IsProgramOf names lines b → IsProgramOf names (listing_in f b) c → c ≡ b
form_is_no_other f names lines b c p q = one_program_of_text names (listing_in f b) c b q (form_is_program f names lines b p)

pub listing_is_program : (names : Names) (lines : List (List ℕ)) (b : Block) → IsProgramOf names lines b → IsProgramOf names (listing b) b
listing_is_program names lines b p = subst (λ (v : List (List ℕ)). IsProgramOf names v b) (full_is_a_form b) (form_is_program (record { parentheses = All; indent = false }) names lines b p)

pub listing_is_no_other : (names : Names) (lines : List (List ℕ)) (b c : Block) → IsProgramOf names lines b → IsProgramOf names (listing b) c → c ≡ b
listing_is_no_other names lines b c p q = one_program_of_text names (listing b) c b q (listing_is_program names lines b p)

pub form_is_parsed : (f : Form) (names : Names) (lines : List (List ℕ)) (b : Block) → IsProgramOf names lines b → IsWithinLimits b → IsParsed names (listing_in f b) b
form_is_parsed f names lines b p h =
    let g = good_program {p = f.parentheses} {g = strict names} refl p.program (tokens_sound lines p.spots p.tokens) in
    let r = read_block f b g.sound 0 in
    record {
      spots = r.spots;
      tokens = r.lexes;
      program = rw r.same (g.statements []);
      limits = record { brackets = rw r.same (omega (arith, open_by_height f.parentheses b, h.nodes)); program = h };
    }

pub listing_is_parsed : (names : Names) (lines : List (List ℕ)) (b : Block) → IsProgramOf names lines b → IsWithinLimits b → IsParsed names (listing b) b
listing_is_parsed names lines b p h = subst (λ (v : List (List ℕ)). IsParsed names v b) (full_is_a_form b) (form_is_parsed (record { parentheses = All; indent = false }) names lines b p h)
