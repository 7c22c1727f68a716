-- Records describe at most one world.
use Rattle.std.proofs.Common.{◌≡◌, ℕ, ◌<◌, List, [], ◌∷◌, ◌++◌, length, Option, Some, None, refl, sym, ap, ◌∙◌, arith, map, get_or}
use Rattle.std.specs.Option.{unwrap_or}
use Rattle.std.proofs.lemmas.List.{length-map}
use Rattle.std.proofs.lemmas.List.FromFn.{fill_by_all}
use Rattle.moo_value.specs.Compare.{folded}
use Rattle.moo_syntax_ast.specs.Tree.{Block}
use Rattle.moo_world_tree.specs.Forest.{Links, ancestors}
use Rattle.moo_world_object.specs.Cells.{Key, key_of}
use Rattle.moo_world_object.specs.declared.verb.Verb.{Verb}
use Rattle.moo_world_object.specs.Objects.{Object}
use Rattle.moo_dbtext_restore.proofs.Bits.{flags_number_apart}
use Rattle.moo_world_table.specs.World.{World, nothing, object_of, thing_of, keys_defined_on, keys_along}
use Rattle.moo_dbtext_object.specs.Objects as recorded
use Rattle.moo_dbtext_restore.specs.Records.{Records, record_at, program_at, parent_links, place_links}
use Rattle.moo_dbtext_restore.specs.Says.{recorded_verb, program_of, SaysObject, SaysAt, Says}
use Rattle.moo_dbtext_restore.proofs.Apart.{verbs_apart, cells_apart}
use Rattle.moo_dbtext_restore.proofs.Trees.{one_tree}
use Rattle.moo_dbtext_restore.proofs.Worlds.{defined_names}

-- two lists of programs that are looked up in one table
programs_same : (at : ℕ → Option Block) (vs ws : List Verb) → length vs ≡ length ws → ((v : ℕ) → v < length vs → get_or (map program_of vs) v None ≡ at v) →
    ((v : ℕ) → v < length ws → get_or (map program_of ws) v None ≡ at v) → map program_of vs ≡ map program_of ws
programs_same at vs ws many p q =
    fill_by_all at (map program_of vs) (length vs) None (length-map vs program_of) p
    ∙ sym (fill_by_all at (map program_of ws) (length vs) None (length-map ws program_of ∙ sym many) (λ k low. q k (omega (arith, low, many))))

object_same : (r : Records) (x : ℕ) (b : recorded.Object) (o p : Object) → SaysObject r x b o → SaysObject r x b p → map key_of o.cells ≡ map key_of p.cells → o ≡ p
object_same r x b o p s t keys =
    let name = s.name ∙ sym t.name in
    let owner = s.owner ∙ sym t.owner in
    let flags = flags_number_apart o.flags p.flags (s.flags ∙ sym t.flags) in
    let recorded_same = s.verbs ∙ sym t.verbs in
    let many : length o.verbs ≡ length p.verbs = sym (length-map o.verbs recorded_verb) ∙ (ap length recorded_same ∙ length-map p.verbs recorded_verb) in
    let verbs = verbs_apart o.verbs p.verbs recorded_same (programs_same (program_at r x) o.verbs p.verbs many s.programs t.programs) in
    let defined = s.names ∙ sym t.names in
    let cells = cells_apart o.cells p.cells (s.cells ∙ sym t.cells) keys in
    λ i. record { name = name i; owner = owner i; flags = flags i; verbs = verbs i; defined = defined i; cells = cells i }

at_same : (r : Records) (x : ℕ) (b : Option recorded.Object) (o p : Option Object) → SaysAt r x b o → SaysAt r x b p → map key_of (unwrap_or o nothing).cells ≡ map key_of (unwrap_or p nothing).cells → o ≡ p
at_same r x None None None s t keys = refl
at_same r x None None (Some p) s t keys = absurd t
at_same r x None (Some o) p s t keys = absurd s
at_same r x (Some b) None p s t keys = absurd s
at_same r x (Some b) (Some o) None s t keys = absurd t
at_same r x (Some b) (Some o) (Some p) s t keys = ap (λ q. Some q) (object_same r x b o p s t keys)

module _ (r : Records) (v w : World) (s : Says r v) (t : Says r w) where
  same_defined_on : (x : ℕ) → keys_defined_on v.objects x ≡ keys_defined_on w.objects x
  same_defined_on x = ap (map (λ (name : List ℕ). (x, folded name)))
      (defined_names r x (record_at r x) (object_of v.objects x) (s.objects x) ∙ sym (defined_names r x (record_at r x) (object_of w.objects x) (t.objects x)))

  same_along : (way : List ℕ) → keys_along v.objects way ≡ keys_along w.objects way
  same_along [] = refl
  same_along (x ∷ way) =
      ap (λ (ks : List Key). ks ++ keys_along v.objects way) (same_defined_on x) ∙ ap (λ (ks : List Key). keys_defined_on w.objects x ++ ks) (same_along way)

  same_parents : v.inheritance ≡ w.inheritance
  same_parents = one_tree (parent_links r) v.inheritance w.inheritance s.parents t.parents

  same_keys : (x : ℕ) → map key_of (thing_of v.objects x).cells ≡ map key_of (thing_of w.objects x).cells
  same_keys x =
      s.definitions x ∙ (same_along (x ∷ ancestors v.inheritance x)
      ∙ (ap (λ (tree : List Links). keys_along w.objects (x ∷ ancestors tree x)) same_parents ∙ sym (t.definitions x)))

  same_at : (x : ℕ) → object_of v.objects x ≡ object_of w.objects x
  same_at x = at_same r x (record_at r x) (object_of v.objects x) (object_of w.objects x) (s.objects x) (t.objects x) (same_keys x)

  same_objects : v.objects ≡ w.objects
  same_objects =
      fill_by_all (object_of w.objects) v.objects (length r.objects) None s.many (λ k low. same_at k)
      ∙ sym (fill_by_all (object_of w.objects) w.objects (length r.objects) None t.many (λ k low. refl))

  pub one_world : v ≡ w
  one_world =
      let places = one_tree (place_links r) v.containment w.containment s.places t.places in
      let players = s.players ∙ sym t.players in
      λ i. record { objects = same_objects i; inheritance = same_parents i; containment = places i; players = players i }
