-- Bytes spell at most one saved world.
use Rattle.std.proofs.Common.{◌≡◌, ℕ, ℤ, List, Option, Some, None, refl, sym, ap, subst, ◌∙◌, get_or}
use Rattle.moo_syntax_ast.specs.Tree.{Block}
use Rattle.moo_syntax_grammar.specs.declared.names.Names.TheVariants.{Any}
use Rattle.moo_syntax_grammar.specs.Texts.{IsProgramOf}
use Rattle.moo_syntax_grammar.proofs.Unique.{one_program_of_text}
use Rattle.moo_world_object.specs.Objects.{Object}
use Rattle.moo_world_table.specs.World.{World, object_of}
use Rattle.moo_dbtext_object.specs.Lines.{Line}
use Rattle.moo_dbtext_object.specs.Objects as recorded
use Rattle.moo_dbtext_record.specs.Texts.{Text}
use Rattle.moo_dbtext_restore.specs.Records.{Records}
use Rattle.moo_dbtext_restore.specs.Says.{SaysObject, SaysAt, Says}
use Rattle.moo_dbtext_restore.proofs.Same.{one_world}
use Rattle.moo_dbtext_record.specs.Programs.{entry_at}
use Rattle.moo_dbtext_read.specs.Says.{HasSource}
use Rattle.moo_dbtext_read.specs.Saved.{Saved, IsTextOf}

same_program : (s : Option (List Line)) (b c : Option Block) → HasSource (IsProgramOf Any) s b → HasSource (IsProgramOf Any) s c → b ≡ c
same_program None None None p q = refl
same_program None None (Some c) p q = absurd q
same_program None (Some b) c p q = absurd p
same_program (Some s) None c p q = absurd p
same_program (Some s) (Some b) None p q = absurd q
same_program (Some s) (Some b) (Some c) p q = ap (λ (x : Block). Some x) (one_program_of_text Any s b c p q)

-- the world that records describe depends only on the programs of the verbs, not on the shape of their table
module _ (objects : List (Option recorded.Object)) (players : List ℤ) (ps qs : List (List (Option Block))) (same : (o v : ℕ) → entry_at ps o v ≡ entry_at qs o v) where
  object_again : (x : ℕ) (b : recorded.Object) (o : Object) → SaysObject (record { objects = objects; programs = ps; players = players }) x b o
      → SaysObject (record { objects = objects; programs = qs; players = players }) x b o
  object_again x b o s = record {
    name = s.name;
    owner = s.owner;
    flags = s.flags;
    verbs = s.verbs;
    programs = λ v low. s.programs v low ∙ same x v;
    names = s.names;
    cells = s.cells;
  }

  at_again : (x : ℕ) (b : Option recorded.Object) (o : Option Object) → SaysAt (record { objects = objects; programs = ps; players = players }) x b o
      → SaysAt (record { objects = objects; programs = qs; players = players }) x b o
  at_again x None None s = tt
  at_again x None (Some o) s = s
  at_again x (Some b) None s = s
  at_again x (Some b) (Some o) s = object_again x b o s

  pub says_again : (w : World) → Says (record { objects = objects; programs = ps; players = players }) w → Says (record { objects = objects; programs = qs; players = players }) w
  says_again w s = record {
    many = s.many;
    objects = λ x. at_again x (get_or objects x None) (object_of w.objects x) (s.objects x);
    definitions = s.definitions;
    parents = s.parents;
    places = s.places;
    players = s.players;
  }

one_saying : (r q : Records) (v w : World) → r.objects ≡ q.objects → r.players ≡ q.players → ((o n : ℕ) → entry_at r.programs o n ≡ entry_at q.programs o n) → Says r v → Says q w → v ≡ w
one_saying r q v w objects players programs s t =
    let first : Says (record { objects = q.objects; programs = r.programs; players = r.players }) v = subst (λ (os : List (Option recorded.Object)). Says (record { objects = os; programs = r.programs; players = r.players }) v) objects s in
    let second : Says (record { objects = q.objects; programs = r.programs; players = q.players }) v = subst (λ (ps : List ℤ). Says (record { objects = q.objects; programs = r.programs; players = ps }) v) players first in
    one_world q v w (says_again q.objects q.players r.programs q.programs programs v second) t

same_saved : (s u : Saved) → s.world ≡ u.world → s.connected ≡ u.connected → s ≡ u
same_saved s u world connected =
    ap (λ (w : World). (let x : Saved = record { world = w; connected = s.connected } in x)) world
    ∙ ap (λ (l : List ℤ). (let x : Saved = record { world = u.world; connected = l } in x)) connected

pub one_saved : (t : Text) (s u : Saved) → IsTextOf (IsProgramOf Any) t s → IsTextOf (IsProgramOf Any) t u → s ≡ u
one_saved t s u p q = same_saved s u
    (one_saying p.records q.records s.world u.world (p.objects ∙ sym q.objects) (p.players ∙ sym q.players)
    (λ o v. same_program (entry_at t.programs o v) (entry_at p.records.programs o v) (entry_at q.records.programs o v) (p.sources o v) (q.sources o v)) p.says q.says)
    (sym p.connected ∙ q.connected)
