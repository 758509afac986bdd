-- The list of moves so far, one move after the other.
use Rattle.std.proofs.Common.{◌≡◌, ℕ, ◌+◌, ◌<◌, ◌≤◌, ◌⊎◌, inl, inr, Option, Some, None, List, [], ◌∷◌, ◌++◌, length, refl, subst, arith, Contains}
use Rattle.std.specs.List.{slice_get}
use Rattle.std.proofs.lemmas.List.Elements.{All-push, Contains-push, Contains-append_left}
use Rattle.std.proofs.lemmas.List.Quantifiers.{all_pairs_push}
use Rattle.std.proofs.lemmas.Option.{slice_get_within}
use Rattle.std.proofs.lemmas.Bool.{cases_lt}
use Rattle.cq_terms.specs.declared.axioms.Axiom.{Axiom}
use Rattle.cq_terms.specs.Query.{Query}
use Rattle.cq_meaning.specs.Rewriting.{IsAxiomStepAt, IsReduceStepAt, IsAxiomMove, IsReduceMove}
use Rattle.cq_steps.specs.declared.moves.Move.{Move}
use Rattle.cq_steps.specs.declared.moves.Move.TheVariants as move
use Rattle.cq_steps.specs.Moves.{IsMove, IsBefore, AreSuccessors, AreSuccessorsBefore, with_result}
use Rattle.cq_steps.specs.Steps.{IsResultOf}
use Rattle.cq_steps.proofs.OneResult.{IsMoveResult, IsMoveResult-axiom, IsMoveResult-reduce}

-- the bound comes right behind the move
record Follows (m bound : Move) : Type 0 where
  it : IsBefore m bound
  keeps : (k : Move) → IsBefore k m → IsBefore k bound
  last : (k : Move) → IsBefore k bound → IsBefore k m ⊎ (k ≡ m)

axiom_follows : (i n : ℕ) → Follows (move.Axiom i n) (move.Axiom i (n + 1))
axiom_follows i n = record { it = inr (refl, omega arith); keeps = keeps; last = last }
  where
    keeps : (k : Move) → IsBefore k (move.Axiom i n) → IsBefore k (move.Axiom i (n + 1))
    keeps (move.Axiom j m) (inl h) = inl h
    keeps (move.Axiom j m) (inr h) = inr (h.0, omega (arith, h.1))
    keeps (move.Reduce j m) h = absurd h

    later : (j m : ℕ) → j ≡ i → m < n + 1 → (m < n) ⊎ (n ≤ m) → IsBefore (move.Axiom j m) (move.Axiom i n) ⊎ (move.Axiom j m ≡ move.Axiom i n)
    later j m e h (inl less) = inl (inr (e, less))
    later j m e h (inr more) = let same : m ≡ n = omega arith in inr cc

    last : (k : Move) → IsBefore k (move.Axiom i (n + 1)) → IsBefore k (move.Axiom i n) ⊎ (k ≡ move.Axiom i n)
    last (move.Axiom j m) (inl h) = inl (inl h)
    last (move.Axiom j m) (inr h) = later j m h.0 h.1 (cases_lt m n)
    last (move.Reduce j m) h = absurd h

reduce_follows : (i n : ℕ) → Follows (move.Reduce i n) (move.Reduce i (n + 1))
reduce_follows i n = record { it = inr (refl, omega arith); keeps = keeps; last = last }
  where
    keeps : (k : Move) → IsBefore k (move.Reduce i n) → IsBefore k (move.Reduce i (n + 1))
    keeps (move.Reduce j m) (inl h) = inl h
    keeps (move.Reduce j m) (inr h) = inr (h.0, omega (arith, h.1))
    keeps (move.Axiom j m) h = tt

    later : (j m : ℕ) → j ≡ i → m < n + 1 → (m < n) ⊎ (n ≤ m) → IsBefore (move.Reduce j m) (move.Reduce i n) ⊎ (move.Reduce j m ≡ move.Reduce i n)
    later j m e h (inl less) = inl (inr (e, less))
    later j m e h (inr more) = let same : m ≡ n = omega arith in inr cc

    last : (k : Move) → IsBefore k (move.Reduce i (n + 1)) → IsBefore k (move.Reduce i n) ⊎ (k ≡ move.Reduce i n)
    last (move.Reduce j m) (inl h) = inl (inl h)
    last (move.Reduce j m) (inr h) = later j m h.0 h.1 (cases_lt m n)
    last (move.Axiom j m) h = inl tt

-- the bound moves past a move, whose result goes behind the list
past : (axioms : List Axiom) (q : Query) (m bound : Move) (found : List (Move × Query)) (next : Option Query) → Follows m bound → IsMoveResult axioms q m next
    → AreSuccessorsBefore axioms q m found → AreSuccessorsBefore axioms q bound (with_result found m next)
past axioms q m bound found None f none so = record {
  ascending = so.ascending;
  sound = λ k d lt. ((so.sound k d lt).0, f.keeps _ ((so.sound k d lt).1));
  complete = λ k r h is. elim (f.last k h) [
    | inl before ↦ so.complete k r before is
    | inr same ↦ absurd (none r (subst (λ (l : Move). IsMove axioms q l r) same is))
  ];
}
past axioms q m bound found (Some p) f (is_p, only) so = record {
  ascending = all_pairs_push (λ s t. IsBefore s.0 t.0) found (m, p) so.ascending (λ k d lt. (so.sound k d lt).1);
  sound = All-push (λ s. IsMove axioms q s.0 s.1 × IsBefore s.0 bound) found (m, p)
      (λ k d lt. ((so.sound k d lt).0, f.keeps _ ((so.sound k d lt).1))) (is_p, f.it);
  complete = λ k r h is. elim (f.last k h) [
    | inl before ↦ Contains-append_left found ((m, p) ∷ []) (k, r) (so.complete k r before is)
    | inr same ↦ new k r same (only r (subst (λ (l : Move). IsMove axioms q l r) same is))
  ];
}
  where
    new : (k : Move) (r : Query) → k ≡ m → r ≡ p → Contains (found ++ (m, p) ∷ []) (k, r)
    new k r e h = rw (e, h) (Contains-push found (m, p))

-- the bound moves where no move with a result lies between
further : (axioms : List Axiom) (q : Query) (m bound : Move) (found : List (Move × Query))
    → ((k : Move) → IsBefore k m → IsBefore k bound) → ((k : Move) (r : Query) → IsBefore k bound → IsMove axioms q k r → IsBefore k m)
    → AreSuccessorsBefore axioms q m found → AreSuccessorsBefore axioms q bound found
further axioms q m bound found keeps back so = record {
  ascending = so.ascending;
  sound = λ k d lt. ((so.sound k d lt).0, keeps _ ((so.sound k d lt).1));
  complete = λ k r h is. so.complete k r (back k r h is) is;
}

axiom_inside : (axioms : List Axiom) (q : Query) (i n : ℕ) (r : Query) → IsAxiomMove axioms q i n r → (i < length q.body) × (n < length axioms)
axiom_inside axioms q i n r (rule, p, at, (x, y, there, step, made), is) = (slice_get_within q.body i x there, slice_get_within axioms n rule at)

reduce_inside : (q : Query) (i j : ℕ) (r : Query) → IsReduceMove q i j r → (i < j) × (j < length q.body)
reduce_inside q i j r (p, (x, y, f, z, order, at, at_j, u, made), is) = (order, slice_get_within q.body j y at_j)

-- nothing comes before the first move
pub none_before : (axioms : List Axiom) (q : Query) → AreSuccessorsBefore axioms q (move.Axiom 0 0) []
none_before axioms q = record {
  ascending = λ i j d h lt. absurd (omega arith);
  sound = λ k d lt. absurd (omega arith);
  complete =
      λ m r h is. absurd (first m h);
}
  where
    first : (m : Move) → IsBefore m (move.Axiom 0 0) → ⊥
    first (move.Axiom i n) (inl h) = omega arith
    first (move.Axiom i n) (inr h) = omega (arith, h.1)
    first (move.Reduce i j) h = h

-- one axiom was tried on the atom
pub axiom_tried : (axioms : List Axiom) (q : Query) (i n : ℕ) (rule : Axiom) (next : Option Query) (found : List (Move × Query))
    → slice_get axioms n ≡ Some rule
    → IsResultOf (IsAxiomStepAt rule q i) next → AreSuccessorsBefore axioms q (move.Axiom i n) found
    → AreSuccessorsBefore axioms q (move.Axiom i (n + 1)) (with_result found (move.Axiom i n) next)
axiom_tried axioms q i n rule next found at result so = past axioms q (move.Axiom i n) (move.Axiom i (n + 1)) found next (axiom_follows i n)
    (IsMoveResult-axiom axioms q i n rule next at result) so

-- one second atom was tried
pub reduce_tried : (axioms : List Axiom) (q : Query) (i j : ℕ) (next : Option Query) (found : List (Move × Query))
    → IsResultOf (IsReduceStepAt q i j) next → AreSuccessorsBefore axioms q (move.Reduce i j) found
    → AreSuccessorsBefore axioms q (move.Reduce i (j + 1)) (with_result found (move.Reduce i j) next)
reduce_tried axioms q i j next found result so = past axioms q (move.Reduce i j) (move.Reduce i (j + 1)) found next (reduce_follows i j)
    (IsMoveResult-reduce axioms q i j next result) so

-- all axioms were tried on the atom
pub atom_done : (axioms : List Axiom) (q : Query) (i n : ℕ) (found : List (Move × Query)) → length axioms ≤ n
    → AreSuccessorsBefore axioms q (move.Axiom i n) found → AreSuccessorsBefore axioms q (move.Axiom (i + 1) 0) found
atom_done axioms q i n found h = further axioms q (move.Axiom i n) (move.Axiom (i + 1) 0) found keeps back
  where
    keeps : (k : Move) → IsBefore k (move.Axiom i n) → IsBefore k (move.Axiom (i + 1) 0)
    keeps (move.Axiom j m) (inl l) = inl (omega arith)
    keeps (move.Axiom j m) (inr l) = inl (omega (arith, l.0))
    keeps (move.Reduce j m) l = absurd l

    at_row : (j m : ℕ) → j < i + 1 → m < length axioms → (j < i) ⊎ (i ≤ j) → IsBefore (move.Axiom j m) (move.Axiom i n)
    at_row j m l inside (inl less) = inl less
    at_row j m l inside (inr more) = inr (omega arith, omega arith)

    back : (k : Move) (r : Query) → IsBefore k (move.Axiom (i + 1) 0) → IsMove axioms q k r → IsBefore k (move.Axiom i n)
    back (move.Axiom j m) r (inl l) is = at_row j m l ((axiom_inside axioms q j m r is).1) (cases_lt j i)
    back (move.Axiom j m) r (inr l) is = absurd (omega (arith, l.1))
    back (move.Reduce j m) r l is = absurd l

-- all atoms had their axiom steps
pub atoms_done : (axioms : List Axiom) (q : Query) (i : ℕ) (found : List (Move × Query)) → length q.body ≤ i
    → AreSuccessorsBefore axioms q (move.Axiom i 0) found → AreSuccessorsBefore axioms q (move.Reduce 0 0) found
atoms_done axioms q i found h = further axioms q (move.Axiom i 0) (move.Reduce 0 0) found keeps back
  where
    keeps : (k : Move) → IsBefore k (move.Axiom i 0) → IsBefore k (move.Reduce 0 0)
    keeps (move.Axiom j m) l = tt
    keeps (move.Reduce j m) l = absurd l

    back : (k : Move) (r : Query) → IsBefore k (move.Reduce 0 0) → IsMove axioms q k r → IsBefore k (move.Axiom i 0)
    back (move.Axiom j m) r l is = let inside = axiom_inside axioms q j m r is in inl (omega (arith, inside.0))
    back (move.Reduce j m) r (inl l) is = absurd (omega arith)
    back (move.Reduce j m) r (inr l) is = absurd (omega (arith, l.1))

-- no atom comes behind itself
pub first_done : (axioms : List Axiom) (q : Query) (i : ℕ) (found : List (Move × Query)) → AreSuccessorsBefore axioms q (move.Reduce i 0) found
    → AreSuccessorsBefore axioms q (move.Reduce i (i + 1)) found
first_done axioms q i found = further axioms q (move.Reduce i 0) (move.Reduce i (i + 1)) found keeps back
  where
    keeps : (k : Move) → IsBefore k (move.Reduce i 0) → IsBefore k (move.Reduce i (i + 1))
    keeps (move.Axiom j m) l = tt
    keeps (move.Reduce j m) (inl l) = inl l
    keeps (move.Reduce j m) (inr l) = absurd (omega (arith, l.1))

    back : (k : Move) (r : Query) → IsBefore k (move.Reduce i (i + 1)) → IsMove axioms q k r → IsBefore k (move.Reduce i 0)
    back (move.Axiom j m) r l is = tt
    back (move.Reduce j m) r (inl l) is = inl l
    back (move.Reduce j m) r (inr l) is = let inside = reduce_inside q j m r is in absurd (omega (arith, l.0, l.1, inside.0))

-- all second atoms were tried
pub row_done : (axioms : List Axiom) (q : Query) (i j : ℕ) (found : List (Move × Query)) → length q.body ≤ j
    → AreSuccessorsBefore axioms q (move.Reduce i j) found → AreSuccessorsBefore axioms q (move.Reduce (i + 1) 0) found
row_done axioms q i j found h = further axioms q (move.Reduce i j) (move.Reduce (i + 1) 0) found keeps back
  where
    keeps : (k : Move) → IsBefore k (move.Reduce i j) → IsBefore k (move.Reduce (i + 1) 0)
    keeps (move.Axiom k m) l = tt
    keeps (move.Reduce k m) (inl l) = inl (omega arith)
    keeps (move.Reduce k m) (inr l) = inl (omega (arith, l.0))

    at_row : (k m : ℕ) → k < i + 1 → m < length q.body → (k < i) ⊎ (i ≤ k) → IsBefore (move.Reduce k m) (move.Reduce i j)
    at_row k m l inside (inl less) = inl less
    at_row k m l inside (inr more) = inr (omega arith, omega arith)

    back : (k : Move) (r : Query) → IsBefore k (move.Reduce (i + 1) 0) → IsMove axioms q k r → IsBefore k (move.Reduce i j)
    back (move.Axiom k m) r l is = tt
    back (move.Reduce k m) r (inl l) is = at_row k m l ((reduce_inside q k m r is).1) (cases_lt k i)
    back (move.Reduce k m) r (inr l) is = absurd (omega (arith, l.1))

-- all first atoms were tried
pub all_done : (axioms : List Axiom) (q : Query) (i : ℕ) (found : List (Move × Query)) → length q.body ≤ i
    → AreSuccessorsBefore axioms q (move.Reduce i 0) found → AreSuccessors axioms q found
all_done axioms q i found h so = record {
  ascending = so.ascending;
  sound = λ k d lt. (so.sound k d lt).0;
  complete = λ m r is. so.complete m r (inside m r is) is;
}
  where
    inside : (k : Move) (r : Query) → IsMove axioms q k r → IsBefore k (move.Reduce i 0)
    inside (move.Axiom j m) r is = tt
    inside (move.Reduce j m) r is = let at = reduce_inside q j m r is in inl (omega (arith, at.0, at.1))
