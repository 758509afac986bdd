-- Moves make no body longer.
use Rattle.std.proofs.Common.{◌≡◌, ℕ, ◌≤◌, zero, suc, Bool, true, false, cond, not, List, [], ◌∷◌, length, map, refl, ap, sym, ◌∙◌, subst, arith}
use Rattle.std.specs.List.{filter}
use Rattle.std.specs.Ordering.{is_le}
use Rattle.std.proofs.lemmas.List.{length-set, length-map}
use Rattle.std.proofs.lemmas.Option.{slice_get_within}
use Rattle.cq_terms.specs.declared.axioms.Axiom.{Axiom}
use Rattle.cq_terms.specs.declared.query.QAtom.{QAtom}
use Rattle.cq_terms.specs.Query.{Query}
use Rattle.cq_meaning.specs.NormalForm.{same_atom, atom_cmp, distinct_atoms, map_atom, unbound_to_any, simplified, insert, sorted, normal, without}
use Rattle.cq_meaning.specs.Rewriting.{IsAxiomStepAt, IsReduceStepAt}
use Rattle.cq_steps.specs.declared.moves.Move.{Move}
use Rattle.cq_steps.specs.declared.moves.Move.TheVariants as move
use Rattle.cq_steps.specs.Moves.{IsMove}
use Rattle.cq_steps.specs.Ordered.{round_of}
use Rattle.cq_steps.proofs.Without.{length-without}

filter_step : {X : Type 0} (b : Bool) (x : X) (rest : List X) (n : ℕ) → length rest ≤ n → length (cond b (x ∷ rest) rest) ≤ suc n
filter_step true x rest n h = omega arith
filter_step false x rest n h = omega arith

length-filter : {X : Type 0} (p : X → Bool) (xs : List X) → length (filter p xs) ≤ length xs
length-filter p [] = omega arith
length-filter p (x ∷ xs) = filter_step (p x) x (filter p xs) (length xs) (length-filter p xs)

length-distinct : (xs : List QAtom) → length (distinct_atoms xs) ≤ length xs
length-distinct [] = omega arith
length-distinct (x ∷ xs) =
    let fewer = length-filter (λ b. not (same_atom x b)) (distinct_atoms xs) in
    let rest = length-distinct xs in
    omega arith

insert_step : (b : Bool) (a x : QAtom) (xs rest : List QAtom) → length rest ≡ suc (length xs) → length (cond b (a ∷ x ∷ xs) (x ∷ rest)) ≡ suc (suc (length xs))
insert_step true a x xs rest h = refl
insert_step false a x xs rest h = ap suc h

length-insert : (a : QAtom) (xs : List QAtom) → length (insert a xs) ≡ suc (length xs)
length-insert a [] = refl
length-insert a (x ∷ xs) = insert_step (is_le (atom_cmp a x)) a x xs (insert a xs) (length-insert a xs)

length-sorted : (xs : List QAtom) → length (sorted xs) ≡ length xs
length-sorted [] = refl
length-sorted (x ∷ xs) = length-insert x (sorted xs) ∙ ap suc (length-sorted xs)

round_shorter : (q : Query) → length (round_of q).body ≤ length q.body
round_shorter q = rw (length-map (distinct_atoms q.body) (map_atom (unbound_to_any (record { head = q.head; body = distinct_atoms q.body }))))
    (length-distinct q.body)

simplified_shorter : (n : ℕ) (q : Query) → length (simplified n q).body ≤ length q.body
simplified_shorter zero q = omega arith
simplified_shorter (suc n) q =
    let rest = simplified_shorter n (round_of q) in
    let first = round_shorter q in
    omega (arith, rest, first)

-- the normal form has no more atoms
pub normal_shorter : (q : Query) → length (normal q).body ≤ length q.body
normal_shorter q = rw (length-sorted (simplified (suc (length q.body)) q).body) (simplified_shorter (suc (length q.body)) q)

axiom_step_same : (rule : Axiom) (q : Query) (i : ℕ) (p : Query) → IsAxiomStepAt rule q i p → length p.body ≡ length q.body
axiom_step_same rule q i p (x, y, at, step, made) = ap (λ (r : Query). length r.body) made ∙ length-set q.body i y

reduce_step_shorter : (q : Query) (i j : ℕ) (p : Query) → IsReduceStepAt q i j p → length p.body ≤ length q.body
reduce_step_shorter q i j p (x, y, f, z, order, at, at_j, u, made) =
    let fewer = length-without q.body j (slice_get_within q.body j y at_j) in
    let same = ap (λ (r : Query). length r.body) made ∙ length-set (map (map_atom f) (without q.body j)) i z ∙ length-map (without q.body j) (map_atom f) in
    omega (arith, same, fewer)

-- a move makes no body longer
pub move_shorter : (axioms : List Axiom) (q r : Query) (s : Move) → IsMove axioms q s r → length r.body ≤ length q.body
move_shorter axioms q r (move.Axiom i n) (rule, p, at, step, is) =
    let same = axiom_step_same rule q i p step in
    let less = normal_shorter p in
    subst (λ (w : Query). length w.body ≤ length q.body) (sym is) (omega (arith, same, less))
move_shorter axioms q r (move.Reduce i j) (p, step, is) =
    let fewer = reduce_step_shorter q i j p step in
    let less = normal_shorter p in
    subst (λ (w : Query). length w.body ≤ length q.body) (sym is) (omega (arith, fewer, less))
