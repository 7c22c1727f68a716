-- The first object at fault in one of the two trees.
use Rattle.std.proofs.Common.{◌≡◌, ℕ, List, length, Option, subst, ◌∙◌}
use Rattle.std.proofs.lemmas.List.{length-map}
use Rattle.std.specs.Option.{option_map}
use Rattle.moo_dbtext_object.specs.Objects as recorded
use Rattle.moo_dbtext_restore.specs.declared.link.Link.{Link}
use Rattle.moo_dbtext_restore.specs.First.{IsFirst, least_of}
use Rattle.moo_dbtext_restore.specs.Links.{IsSound}
use Rattle.moo_dbtext_restore.specs.Records.{parent_link, place_link, parent_links_of, place_links_of}
use Rattle.moo_dbtext_restore.specs.Faults.{IsJoinedWell}
use Rattle.moo_dbtext_restore.proofs.Firsts.{first_along, first_of_both}

found_in : (n : ℕ) (links read : List (Option Link)) (r : Option ℕ) → read ≡ links → length links ≡ n → IsFirst (IsSound read) (length read) r → IsFirst (IsSound links) n r
found_in n links read r same many f = subst (λ k. IsFirst (IsSound links) k r) many (subst (λ l. IsFirst (IsSound l) (length l) r) same f)

pub first_in_both : (objects : List (Option recorded.Object)) (n : ℕ) (parents places : List (Option Link)) (a b : Option ℕ) → length objects ≡ n →
    parents ≡ parent_links_of objects → places ≡ place_links_of objects → IsFirst (IsSound parents) (length parents) a → IsFirst (IsSound places) (length places) b →
    IsFirst (IsJoinedWell objects) n (least_of a b)
first_in_both objects n parents places a b many p q f g =
    let P = IsSound (parent_links_of objects) in
    let Q = IsSound (place_links_of objects) in
    first_along (λ x. P x × Q x) (IsJoinedWell objects) n (least_of a b)
    (λ x s. record { parent = s.0; place = s.1 })
    (λ x s. (s.parent, s.place))
    (first_of_both P Q n a b
    (found_in n (parent_links_of objects) parents a p (length-map objects (option_map parent_link) ∙ many) f)
    (found_in n (place_links_of objects) places b q (length-map objects (option_map place_link) ∙ many) g))
