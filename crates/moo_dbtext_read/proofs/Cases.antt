-- What holds of a result by its cases.
use Rattle.std.proofs.Common.{Result, Ok, Err}
use Rattle.std.specs.Prelude.{OnOk, IfErr, MatchResult}

pub ok_then : {A E : Type 0} (r : Result A E) (P Q : Type 0) → OnOk r P → (P → Q) → OnOk r Q
ok_then (Ok x) P Q h f = f h
ok_then (Err e) P Q h f = tt

pub both_then : {A E : Type 0} (r : Result A E) (P Q R : Type 0) → OnOk r P → OnOk r Q → (P → Q → R) → OnOk r R
both_then (Ok x) P Q R h k f = f h k
both_then (Err e) P Q R h k f = tt

pub err_then : {A E : Type 0} (r : Result A E) (P Q : E → Type 0) → IfErr r P → ((e : E) → P e → Q e) → IfErr r Q
err_then (Ok x) P Q h f = tt
err_then (Err e) P Q h f = f e h

pub match_of : {A E : Type 0} (r : Result A E) (P : Type 0) (Q : E → Type 0) → OnOk r P → IfErr r Q → MatchResult r (λ _. P) Q
match_of (Ok x) P Q h k = h
match_of (Err e) P Q h k = k

pub ok_of : {A E : Type 0} (r : Result A E) (P : Type 0) (Q : E → Type 0) → MatchResult r (λ _. P) Q → OnOk r P
ok_of (Ok x) P Q h = h
ok_of (Err e) P Q h = tt

pub err_of : {A E : Type 0} (r : Result A E) (P : Type 0) (Q : E → Type 0) → MatchResult r (λ _. P) Q → IfErr r Q
err_of (Ok x) P Q h = tt
err_of (Err e) P Q h = h
