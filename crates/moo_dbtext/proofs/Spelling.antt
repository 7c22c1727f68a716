-- The canonical text of a saved world spells it.
use Rattle.std.proofs.Common.{◌≡◌, ℤ, List, [], ◌∷◌, Option, Some, None, refl, sym, ap, subst, map}
use Rattle.moo_syntax_ast.specs.Tree.{Block}
use Rattle.moo_syntax_ast.specs.Listing.{listing}
use Rattle.moo_syntax_grammar.specs.declared.names.Names.TheVariants.{Any}
use Rattle.moo_syntax_grammar.specs.Texts.{IsProgramOf, IsParsed}
use Rattle.moo_unparse.proofs.Law.{listing_is_program, listing_is_parsed}
use Rattle.moo_world_table.specs.World.{World, IsWellFormed}
use Rattle.moo_dbtext_object.specs.Lines.{Line, unlimited, limited}
use Rattle.moo_dbtext_record.specs.Texts.{Link}
use Rattle.moo_dbtext_record.specs.Writing.{canonical as slack_of, IsWritable}
use Rattle.moo_dbtext_read.specs.Says.{HasSource}
use Rattle.moo_dbtext_restore.specs.Records.{program_at}
use Rattle.moo_dbtext_restore.specs.Recorded.{records_of}
use Rattle.moo_dbtext_restore.proofs.Writing.{says_itself}
use Rattle.moo_dbtext_restore.proofs.Worlds.{shaped}
use Rattle.moo_dbtext.specs.Held.{IsHeldBlock, IsHeldProgram, IsHeld}
use Rattle.moo_dbtext.specs.Texts.{source_of, link_to, text_of_world, canonical_bytes}
use Rattle.moo_dbtext.proofs.Sources.{source_at, held_at}
use Rattle.moo_dbtext_read.specs.Saved.{IsTextOf, SpellsSaved, SpellsSavedWithin}

whos_again : (whos : List ℤ) → map (λ (l : Link). l.who) (map link_to whos) ≡ whos
whos_again [] = refl
whos_again (who ∷ whos) = ap (λ l. who ∷ l) (whos_again whos)

has_listing : (P : List Line → Block → Type 0) → ((b : Block) → IsHeldBlock b → P (listing b) b) → (p : Option Block) → IsHeldProgram p → HasSource P (source_of p) p
has_listing P step None h = tt
has_listing P step (Some b) h = step b h

module _ (w : World) (whos : List ℤ) (formed : IsWellFormed w) (held : IsHeld w whos) where
  text_says : (P : List Line → Block → Type 0) → ((b : Block) → IsHeldBlock b → P (listing b) b) → IsTextOf P (text_of_world w whos) (record { world = w; connected = whos })
  text_says P step = record {
    records = records_of w;
    objects = refl;
    players = refl;
    sources = λ o v.
        let p = program_at (records_of w) o v in
        subst (λ (source : Option (List Line)). HasSource P source p) (sym (source_at (records_of w).programs o v)) (has_listing P step p (held_at w o v held.programs));
    says = says_itself w formed;
    connected = whos_again whos;
  }

  pub spelled : IsWritable unlimited (text_of_world w whos) → SpellsSaved (canonical_bytes w whos) (record { world = w; connected = whos })
  spelled written = record {
    text = text_of_world w whos;
    spelled = record { slack = slack_of (text_of_world w whos).programs; written = written; lines = refl };
    says = text_says (IsProgramOf Any) (λ b h. listing_is_program Any h.text.lines b h.text.program);
    shaped = shaped w formed;
  }

  pub spelled_within : IsWritable limited (text_of_world w whos) → SpellsSavedWithin (canonical_bytes w whos) (record { world = w; connected = whos })
  spelled_within written = record {
    text = text_of_world w whos;
    spelled = record { slack = slack_of (text_of_world w whos).programs; written = written; lines = refl };
    says = text_says (IsParsed Any) (λ b h. listing_is_parsed Any h.text.lines b h.text.program h.limits);
    formed = formed;
  }
