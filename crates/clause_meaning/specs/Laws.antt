-- The laws that the crate's functions prove. A clause of a contract ranges over lists, and not over sets.
use Rattle.std.specs.Prelude.{◌≡◌, ◌↔◌, ℕ, List, ◌∷◌, Bool, true, Contains}
use Rattle.clause_meaning.specs.Literals.{variable_of}
use Rattle.clause_meaning.specs.Refutation.{Refutes, Follows, IsClosed}
use Rattle.clause_meaning.specs.Assignments.{IsTrueIn, Satisfies, SatisfiesAll, IsOutside, Separates, Inside}

-- more clauses and more literals refute what fewer do
abbrev pub MoreRefutesMore : Type 0
MoreRefutesMore = (S T : List (List ℕ)) (L M : List ℕ)
    → ((c : List ℕ) → Contains S c → Contains T c) → ((l : ℕ) → Contains L l → Contains M l)
    → Refutes (Contains S) (Contains L) → Refutes (Contains T) (Contains M)

-- no assignment satisfies clauses that refute literals, and makes these literals true
abbrev pub RefutedIsFalse : Type 0
RefutedIsFalse = (S : List (List ℕ)) (L : List ℕ) → Refutes (Contains S) (Contains L)
    → (v : ℕ → Bool) → SatisfiesAll v (Contains S) → ((l : ℕ) → Contains L l → IsTrueIn v l) → ⊥

-- literals that are closed under the clauses, and those among them, aren't refuted
abbrev pub ClosedIsNotRefuted : Type 0
ClosedIsNotRefuted = (S : List (List ℕ)) (L Known : List ℕ) → IsClosed (Contains S) (Contains Known)
    → ((l : ℕ) → Contains L l → Contains Known l) → Refutes (Contains S) (Contains L) → ⊥

-- a clause that follows is true wherever the clauses are
abbrev pub FollowingIsTrue : Type 0
FollowingIsTrue = (S : List (List ℕ)) (clause : List ℕ) → Follows (Contains S) clause
    → (v : ℕ → Bool) → SatisfiesAll v (Contains S) → Satisfies v clause

-- a clause that follows takes no assignment away
abbrev pub FollowingKeeps : Type 0
FollowingKeeps = (S : List (List ℕ)) (clause : List ℕ) → Follows (Contains S) clause
    → (v : ℕ → Bool) → SatisfiesAll v (Contains S) ↔ SatisfiesAll v (Contains (clause ∷ S))

-- where the clauses outside a scope can be satisfied, those inside refute alone what all refute
abbrev pub ScopeRefutesAlone : Type 0
ScopeRefutesAlone = (S : List (List ℕ)) (L : List ℕ) (scope : ℕ → Bool) → Separates scope (Contains S)
    → ((l : ℕ) → Contains L l → scope (variable_of l) ≡ true)
    → (v : ℕ → Bool) → ((c : List ℕ) → Contains S c → IsOutside scope c → Satisfies v c)
    → Refutes (Contains S) (Contains L) → Refutes (Inside scope (Contains S)) (Contains L)
