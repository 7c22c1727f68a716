-- Facts of an answer that may be none.
use Rattle.std.proofs.Common.{◌≡◌, Option, Some, None, IfSome, option_map, sym}

pub told_some : {A B : Type 0} (f : A → B) (r : Option A) {o : Option B} → option_map f r ≡ o → IfSome r (λ x. o ≡ Some (f x))
told_some f None e = tt
told_some f (Some x) e = sym e
