-- The clauses of a log with their numbers.
use Rattle.std.proofs.Common.{◌≡◌, ℕ, List, [], ◌∷◌, ◌++◌, length, refl, ap, arith}
use Rattle.proof_logs.specs.Logs.{Learned}
use Rattle.proof_logs.specs.MemLogs.{numbered}

-- one more of each
pub numbered-push : (numbers : List ℕ) (clauses : List (List ℕ)) (number : ℕ) (clause : List ℕ) → length numbers ≡ length clauses
    → numbered (numbers ++ number ∷ []) (clauses ++ clause ∷ []) ≡ numbered numbers clauses ++ record { number = number; clause = clause } ∷ []
numbered-push [] [] number clause e = refl
numbered-push [] (c ∷ cs) number clause e = absurd (omega arith)
numbered-push (n ∷ ns) [] number clause e = absurd (omega arith)
numbered-push (n ∷ ns) (c ∷ cs) number clause e =
    ap (λ (xs : List Learned). record { number = n; clause = c } ∷ xs) (numbered-push ns cs number clause (omega arith))
