-- Steps that did not fail.
use Rattle.std.proofs.Common.{◌≡◌, Bool, true, false, cond, Result, Ok, Err, ◌⊎◌, inl, inr, refl}
use Rattle.moo_dbtext_object.specs.declared.fault.LineFault.{LineFault}
use Rattle.moo_dbtext_object.specs.Lines.{◌>>=◌, Sizes, unlimited, limited, within}

-- the value of a step that did not fail
pub bind_ok : {A B : Type 0} (r : Result A LineFault) (f : A → Result B LineFault) (y : B) → (r >>= f) ≡ Ok y → (x : A) × (r ≡ Ok x) × (f x ≡ Ok y)
bind_ok (Ok x) f y e = (x, refl, e)
bind_ok (Err d) f y e = absurd cc

abbrev done : {A : Type 0} → A → Result A LineFault
done x = Ok x

pub ok_is : {A : Type 0} (x y : A) → done x ≡ done y → x ≡ y
ok_is x y e = cc

-- what is within the limits is itself
pub within_ok : {A : Type 0} (s : Sizes) (b : Bool) (x y : A) → within s b x ≡ Ok y → x ≡ y
within_ok unlimited b x y e = cc
within_ok limited true x y e = cc
within_ok limited false x y e = absurd cc

pub within_true : {A : Type 0} (s : Sizes) (b : Bool) (x : A) → b ≡ true → within s b x ≡ Ok x
within_true unlimited b x e = refl
within_true limited true x e = refl
within_true limited false x e = absurd cc

-- a first alternative, or what comes after it
pub branch : {A : Type 0} (b : Bool) (x y : A) (rest : Result A LineFault) → cond b (Ok x) rest ≡ Ok y → ((b ≡ true) × (x ≡ y)) ⊎ (rest ≡ Ok y)
branch true x y rest e = inl (refl, cc)
branch false x y rest e = inr e

pub never : {A : Type 0} (b : Bool) (f g : LineFault) (y : A) → cond b (Err f) (Err g) ≡ Ok y → ⊥
never true f g y e = cc
never false f g y e = cc
