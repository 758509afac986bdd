-- What is said of the words of a job is said of all that they mean.
use Rattle.std.proofs.Common.{ℕ, List, Result, Ok, Err, IfOk, IfErr, subst}
use Rattle.std.proofs.lemmas.Result.{IfErr-weaker, IfOk-weaker}
use Rattle.cqapri_words.specs.Requests.{AskFor, HaveOneMeaning, Request}

-- what holds of one job that the words ask for holds of each
pub of_request : HaveOneMeaning → (words : List (List ℕ)) (q other : Request) → AskFor words q → AskFor words other → (P : Request → Type 0) → P q
    → P other
of_request meaning words q other w v P p = subst P (meaning words q other w v) p

-- for each result
pub if_ok : {T E : Type 0} (P Q : T → Type 0) (r : Result T E) → ((x : T) → P x → Q x) → IfOk r P → IfOk r Q
if_ok P Q r f p = IfOk-weaker r P Q f p

pub if_err : {T E : Type 0} (P Q : E → Type 0) (r : Result T E) → ((x : E) → P x → Q x) → IfErr r P → IfErr r Q
if_err P Q r f p = IfErr-weaker r P Q f p

-- of both clauses of an error
pub if_errs : {T E : Type 0} (P O Q : E → Type 0) (r : Result T E) → ((x : E) → P x → O x → Q x) → IfErr r P → IfErr r O → IfErr r Q
if_errs P O Q (Ok x) f p o = tt
if_errs P O Q (Err e) f p o = f e p o

-- what holds of every error
pub all_errors : {T E : Type 0} (Q : E → Type 0) (r : Result T E) → ((x : E) → Q x) → IfErr r Q
all_errors Q (Ok x) f = tt
all_errors Q (Err e) f = f e
