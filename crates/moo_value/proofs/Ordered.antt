-- The order of values, swapped, and where it says that neither comes first.
use Rattle.std.proofs.Common.{◌≡◌, ℕ, List, [], ◌∷◌, Some, nat_cmp, option_map, refl, sym, ap, ◌∙◌, Less, Equal}
use Rattle.std.specs.Ordering.{ordering_reverse}
use Rattle.std.specs.declared.cmp.Ordering.{Ordering}
use Rattle.std.proofs.lemmas.Cmp.{int_cmp_total, nat_cmp_total, nat_list_cmp_total}
use Rattle.std.specs.Cmp.Lexicographic.{slice_cmp}
use Rattle.std.proofs.lemmas.Str.Ascii.{lowercase-lowercase}
use Rattle.std.proofs.lemmas.Map.Lookups.{exact_signed, exact_unsigned, exact_bytes}
use Rattle.moo_value.specs.declared.error_code.ErrorCode.{ErrorCode}
use Rattle.moo_value.specs.Errors.{error_number}
use Rattle.moo_value.specs.Tree.{Tree, integer, object, error, string, list}
use Rattle.moo_value.specs.TreeCode.{error_numbered, error_numbered-error_number}
use Rattle.moo_value.specs.Compare.{order, folded, fold_letters}

pub order-swapped : (t u : Tree) → order u t ≡ option_map ordering_reverse (order t u)
order-swapped (integer i) (integer j) = ap Some (int_cmp_total.antisymm j i)
order-swapped (object o) (object p) = ap Some (int_cmp_total.antisymm p o)
order-swapped (error e) (error f) = ap Some (nat_cmp_total.antisymm (error_number f) (error_number e))
order-swapped (string r) (string s) = ap Some (nat_list_cmp_total.antisymm (folded s) (folded r))
order-swapped (list es) (list fs) = refl
order-swapped (integer i) _ = refl
order-swapped (object o) _ = refl
order-swapped (error e) _ = refl
order-swapped (string s) _ = refl
order-swapped (list es) _ = refl

is_equal : (o : Ordering) → Some o ≡ Some Equal → o ≡ Equal
is_equal o h = cc

same_number : (e f : ErrorCode) → error_number e ≡ error_number f → e ≡ f
same_number e f h = sym (error_numbered-error_number e) ∙ ap error_numbered h ∙ error_numbered-error_number f

pub equal_where_ordered : (t u : Tree) → order t u ≡ Some Equal → fold_letters t ≡ fold_letters u
equal_where_ordered (integer i) (integer j) h = ap integer (exact_signed i j (is_equal _ h))
equal_where_ordered (object o) (object p) h = ap object (exact_signed o p (is_equal _ h))
equal_where_ordered (error e) (error f) h = ap error (same_number e f (exact_unsigned _ _ (is_equal _ h)))
equal_where_ordered (string r) (string s) h = ap string (exact_bytes (folded r) (folded s) (is_equal _ h))
equal_where_ordered (integer i) _ h = cc
equal_where_ordered (object o) _ h = cc
equal_where_ordered (error e) _ h = cc
equal_where_ordered (string s) _ h = cc
equal_where_ordered (list es) _ h = cc

folded-again : (s : List ℕ) → folded (folded s) ≡ folded s
folded-again [] = refl
folded-again (b ∷ s) = rw (lowercase-lowercase b, folded-again s)

is_less : (o : Ordering) → Some o ≡ Some Less → o ≡ Less
is_less o h = cc

pub order-less : (t u v : Tree) → order t u ≡ Some Less → order u v ≡ Some Less → order t v ≡ Some Less
order-less (integer i) (integer j) (integer k) h l = ap Some (int_cmp_total.trans i j k (is_less _ h) (is_less _ l))
order-less (object o) (object p) (object q) h l = ap Some (int_cmp_total.trans o p q (is_less _ h) (is_less _ l))
order-less (error e) (error f) (error g) h l =
    ap Some (nat_cmp_total.trans (error_number e) (error_number f) (error_number g) (is_less _ h) (is_less _ l))
order-less (string r) (string s) (string w) h l =
    ap Some (nat_list_cmp_total.trans (folded r) (folded s) (folded w) (is_less _ h) (is_less _ l))
order-less (integer i) (integer j) _ h l = cc
order-less (object o) (object p) _ h l = cc
order-less (error e) (error f) _ h l = cc
order-less (string r) (string s) _ h l = cc
order-less (integer i) _ v h l = cc
order-less (object o) _ v h l = cc
order-less (error e) _ v h l = cc
order-less (string r) _ v h l = cc
order-less (list es) _ v h l = cc

-- the order sees no more of a value than its folded letters leave
order-folded : (t u : Tree) → order (fold_letters t) u ≡ order t u
order-folded (string r) (string s) = ap (λ w. Some (slice_cmp nat_cmp w (folded s))) (folded-again r)
order-folded (integer i) _ = refl
order-folded (object o) _ = refl
order-folded (error e) _ = refl
order-folded (string r) _ = refl
order-folded (list es) _ = refl

pub order-alike : (t u v : Tree) → fold_letters t ≡ fold_letters u → order t v ≡ order u v
order-alike t u v same = sym (order-folded t v) ∙ ap (λ w. order w v) same ∙ order-folded u v
