-- The live clauses of a solver: the given ones and the learned ones.
use Rattle.std.proofs.Common.{◌≡◌, ℕ, suc, ◌⊎◌, ◌↔◌, inl, inr, List, [], ◌∷◌, ◌++◌, map, Contains, refl, subst, ap, ◌∙◌, arith}
use Rattle.std.proofs.Common.{Option, Some, None}
use Rattle.std.specs.List.{Any}
use Rattle.std.proofs.lemmas.List.{append-nil}
use Rattle.cq_meaning.proofs.Members.{Contains-head, Contains-later, Contains-cases, Contains-nil}
use Rattle.clause_meaning.proofs.Members.{Contains-map, Contains-map_cases}
use Rattle.cdcl_core.specs.State.{LiveClause}
use Rattle.report_rules.specs.Live.{Learned}
use Rattle.report_laws.specs.OpenAnswers.{IsAmong}
use Rattle.answer_desk.specs.Desks.{given_in, put_given, learned_in, put_learned}

-- a live clause is a given one or a learned one
here : (o : Option ℕ) (literals c : List ℕ) (gs : List (List ℕ)) (ls : List Learned) → literals ≡ c
    → Contains (put_given o literals gs) c ⊎ IsAmong (put_learned o literals ls) c
here None literals c gs ls e = inl (subst (Contains (literals ∷ gs)) e (Contains-head literals gs))
here (Some n) literals c gs ls e = inr (
  n,
  subst (λ (x : List ℕ). Contains (record { number = n; clause = literals } ∷ ls) (record { number = n; clause = x })) e
      (Contains-head (record { number = n; clause = literals }) ls),
)

later : (o : Option ℕ) (literals c : List ℕ) (gs : List (List ℕ)) (ls : List Learned) → Contains gs c ⊎ IsAmong ls c
    → Contains (put_given o literals gs) c ⊎ IsAmong (put_learned o literals ls) c
later None literals c gs ls (inl m) = inl (Contains-later literals gs c m)
later None literals c gs ls (inr m) = inr m
later (Some n) literals c gs ls (inl m) = inl m
later (Some n) literals c gs ls (inr (k, m)) =
    inr (k, Contains-later (record { number = n; clause = literals }) ls (record { number = k; clause = c }) m)

back : (o : Option ℕ) (literals c : List ℕ) (gs : List (List ℕ)) (ls : List Learned)
    → Contains (put_given o literals gs) c ⊎ IsAmong (put_learned o literals ls) c
    → (literals ≡ c) ⊎ (Contains gs c ⊎ IsAmong ls c)
back None literals c gs ls (inl m) = elim (Contains-cases literals gs c m) [ inl e ↦ inl e | inr k ↦ inr (inl k) ]
back None literals c gs ls (inr m) = inr (inr m)
back (Some n) literals c gs ls (inl m) = inr (inl m)
back (Some n) literals c gs ls (inr (k, m)) =
    elim (Contains-cases (record { number = n; clause = literals }) ls (record { number = k; clause = c }) m) [
      | inl e ↦ inl (ap (λ (x : Learned). x.clause) e)
      | inr t ↦ inr (inr (k, t))
    ]

pub live_cases : (live : List LiveClause) (c : List ℕ) → Any (λ (entry : LiveClause). entry.literals ≡ c) live
    → Contains (given_in live) c ⊎ IsAmong (learned_in live) c
live_cases [] c (k, x, l, is, same) = absurd (Contains-nil x (k, l, is))
live_cases (entry ∷ live) c (k, x, l, is, same) = elim (Contains-cases entry live x (k, l, is)) [
  | inl e ↦ here entry.number entry.literals c (given_in live) (learned_in live) (ap (λ (y : LiveClause). y.literals) e ∙ same)
  | inr m ↦ later entry.number entry.literals c (given_in live) (learned_in live) (live_cases live c (m.0, x, m.1, m.2, same))
]

pub live_from : (live : List LiveClause) (c : List ℕ) → Contains (given_in live) c ⊎ IsAmong (learned_in live) c
    → Any (λ (entry : LiveClause). entry.literals ≡ c) live
live_from [] c (inl m) = absurd (Contains-nil c m)
live_from [] c (inr (n, m)) = absurd (Contains-nil (record { number = n; clause = c }) m)
live_from (entry ∷ live) c m = elim (back entry.number entry.literals c (given_in live) (learned_in live) m) [
  | inl e ↦ (0, entry, omega arith, refl, e)
  | inr r ↦ (let w = live_from live c r in (suc w.0, w.1, omega (arith, w.2), w.3, w.4))
]

-- the literals of the live clauses as a list
pub literals_listed : (live : List LiveClause) (c : List ℕ) → Contains (map (λ (entry : LiveClause). entry.literals) live) c
    ↔ Any (λ (entry : LiveClause). entry.literals ≡ c) live
literals_listed live c = (
  (λ m. let w = Contains-map_cases (λ (entry : LiveClause). entry.literals) live c m in (w.1.0, w.0, w.1.1, w.1.2, w.2)),
  (λ (k, x, l, is, same). subst (Contains (map (λ (entry : LiveClause). entry.literals) live)) same
      (Contains-map (λ (entry : LiveClause). entry.literals) live x (k, l, is))),
)

-- ---- more clauses

put_given-append : (number : Option ℕ) (literals : List ℕ) (xs ys : List (List ℕ)) → put_given number literals (xs ++ ys) ≡ put_given number literals xs ++ ys
put_given-append None literals xs ys = refl
put_given-append (Some n) literals xs ys = refl

pub given_in-append : (xs ys : List LiveClause) → given_in (xs ++ ys) ≡ given_in xs ++ given_in ys
given_in-append [] ys = refl
given_in-append (x ∷ xs) ys = ap (put_given x.number x.literals) (given_in-append xs ys) ∙ put_given-append x.number x.literals (given_in xs) (given_in ys)

put_learned-append : (number : Option ℕ) (literals : List ℕ) (xs ys : List Learned)
    → put_learned number literals (xs ++ ys) ≡ put_learned number literals xs ++ ys
put_learned-append None literals xs ys = refl
put_learned-append (Some n) literals xs ys = refl

pub learned_in-append : (xs ys : List LiveClause) → learned_in (xs ++ ys) ≡ learned_in xs ++ learned_in ys
learned_in-append [] ys = refl
learned_in-append (x ∷ xs) ys = ap (put_learned x.number x.literals) (learned_in-append xs ys)
    ∙ put_learned-append x.number x.literals (learned_in xs) (learned_in ys)

-- one more learned clause
pub given_more : (live : List LiveClause) (n : ℕ) (c : List ℕ) → given_in (live ++ record { number = Some n; literals = c } ∷ []) ≡ given_in live
given_more live n c = given_in-append live (record { number = Some n; literals = c } ∷ []) ∙ append-nil (given_in live)

pub learned_more : (live : List LiveClause) (n : ℕ) (c : List ℕ)
    → learned_in (live ++ record { number = Some n; literals = c } ∷ []) ≡ learned_in live ++ record { number = n; clause = c } ∷ []
learned_more live n c = learned_in-append live (record { number = Some n; literals = c } ∷ [])
