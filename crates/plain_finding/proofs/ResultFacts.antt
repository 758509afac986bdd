-- What clauses on a result say together.
use Rattle.std.proofs.Common.{◌≡◌, Result, Ok, Err, subst}
use Rattle.std.specs.Result.{IfOk, IfErr}

pub if_ok_two : {T E : Type 0} (P Q R : T → Type 0) (r : Result T E) → ((x : T) → P x → Q x → R x) → IfOk r P → IfOk r Q → IfOk r R
if_ok_two P Q R (Ok x) f p q = f x p q
if_ok_two P Q R (Err e) f p q = p

-- what holds of each fault holds of this one
pub refused_so : {T E : Type 0} (P : E → Type 0) (r : Result T E) (e : E) → r ≡ Err e → IfErr r P → P e
refused_so P r e is h = subst (λ x. IfErr x P) is h
