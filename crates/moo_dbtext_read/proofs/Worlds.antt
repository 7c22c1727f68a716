-- The saved worlds that a text describes, with programs within the limits and without.
use Rattle.std.proofs.Common.{◌≡◌, ℕ, List, Option, Some, None, subst}
use Rattle.moo_syntax_ast.specs.Tree.{Block}
use Rattle.moo_syntax_grammar.specs.declared.names.Names.TheVariants.{Any}
use Rattle.moo_syntax_grammar.specs.Texts.{IsProgramOf, IsParsed}
use Rattle.moo_dbtext_object.specs.Lines.{Line}
use Rattle.moo_dbtext_record.specs.Programs.{entry_at}
use Rattle.moo_dbtext_record.specs.Texts.{Text}
use Rattle.moo_dbtext_record.proofs.ReadLaws.{one_text, within_limits}
use Rattle.moo_dbtext_read.specs.Says.{HasSource}
use Rattle.moo_dbtext_restore.specs.Records.{Records}
use Rattle.moo_dbtext_restore.proofs.Worlds.{shaped}
use Rattle.moo_dbtext_read.specs.Saved.{Saved, IsTextOf, SpellsSaved, SpellsSavedWithin}
use Rattle.moo_dbtext_read.proofs.One.{one_saved}
use Rattle.moo_dbtext_restore.specs.Faults.{IsWellPlaced, HasItsCells}
use Rattle.moo_dbtext_read.specs.Objects.{of_objects}

-- ---- sources have one program

parsed_is : (lines : List Line) (b : Block) → IsParsed Any lines b → IsProgramOf Any lines b
parsed_is lines b h = record { spots = h.spots; tokens = h.tokens; program = h.program }

loose_source : (s : Option (List Line)) (b : Option Block) → HasSource (IsParsed Any) s b → HasSource (IsProgramOf Any) s b
loose_source None None h = tt
loose_source None (Some b) h = absurd h
loose_source (Some s) None h = absurd h
loose_source (Some s) (Some b) h = parsed_is s b h

pub loose_text : (t : Text) (s : Saved) → IsTextOf (IsParsed Any) t s → IsTextOf (IsProgramOf Any) t s
loose_text t s h = record { records = h.records; objects = h.objects; players = h.players; sources = λ o v. loose_source (entry_at t.programs o v) (entry_at h.records.programs o v) (h.sources o v); says = h.says; connected = h.connected }

-- ---- an object that isn't at fault isn't so among the objects alone

pub placed_as : (r : Records) (x : ℕ) → IsWellPlaced r x → IsWellPlaced (of_objects r.objects) x
placed_as r x h = record { trees = h.trees; names = record { once = h.names.once; apart = h.names.apart } }

pub cells_as : (r : Records) (x : ℕ) → HasItsCells r x → HasItsCells (of_objects r.objects) x
cells_as r x h = record { lineage = h.lineage; is = h.is; count = h.count }

pub one_spelled : (bytes : List ℕ) (a b : Saved) → SpellsSaved bytes a → SpellsSaved bytes b → a ≡ b
one_spelled bytes a b h k = one_saved k.text a b (subst (λ (t : Text). IsTextOf (IsProgramOf Any) t a) (one_text bytes h.text k.text h.spelled k.spelled) h.says) k.says

pub spelled_within : (bytes : List ℕ) (s : Saved) → SpellsSavedWithin bytes s → SpellsSaved bytes s
spelled_within bytes s h = record { text = h.text; spelled = within_limits bytes h.text h.spelled; says = loose_text h.text s h.says; shaped = shaped s.world h.formed }
