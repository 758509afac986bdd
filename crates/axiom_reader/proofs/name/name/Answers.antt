-- A name is UTF-8, so it is always given as text.
use Rattle.std.proofs.Common.{Ok, Err, refl}
use Rattle.std.specs.Bool.{⊤}
use Rattle.std.specs.Option.{MatchOption}
use Rattle.std.specs.Prelude.{Result}
use Rattle.std.specs.Result.{MatchResult, result_ok}
use Rattle.axiom_reader.proofs.name.name.Goals as goal

-- what never fails is there
there : {T E : Type 0} (r : Result T E) (Q : T → Type 0) (R : E → Type 0) (P : Type 0) → MatchResult r Q R → ((e : E) → R e → ⊥)
    → MatchOption (result_ok r) P (λ _. ⊤)
there (Ok x) Q R P h never = tt
there (Err e) Q R P h never = absurd (never e h)

pub returns-then-is_name-clause-none : goal.returns-then-is_name-clause-none
returns-then-is_name-clause-none c =
    let utf8 = c.is_name.ensures.utf8 (c.if-is_name.ensures.exact.0 refl) in
    rw c.ok.ensures.value (there c.from_utf8.result _ _ _ c.from_utf8.ensures.cases (λ e h. h.0 utf8))
