-- The normal form of a safe query is safe.
use Rattle.std.proofs.Common.{◌≡◌, ℕ, ◌<◌, zero, suc, inl, inr, Bool, true, false, not, ◌&&◌, ◌==◌, List, [], ◌∷◌, length, get_or, map, refl, ap, sym, ◌∙◌}
use Rattle.std.proofs.Common.{arith, cond, subst}
use Rattle.std.specs.List.{Any, filter}
use Rattle.std.specs.Ordering.{is_le}
use Rattle.std.proofs.lemmas.Bool.Decides.{nat_tests}
use Rattle.cq_terms.specs.declared.query.Term.{Term}
use Rattle.cq_terms.specs.declared.query.Term.TheVariants.{Var, Ind}
use Rattle.cq_terms.specs.declared.query.Term.TheVariants as term
use Rattle.cq_terms.specs.declared.query.QAtom.{QAtom}
use Rattle.cq_terms.specs.declared.query.QAtom.TheVariants as atom
use Rattle.cq_terms.specs.Query.{Query, StandsIn, IsMeant, IsSafe}
use Rattle.cq_meaning.specs.NormalForm.{same_atom, atom_cmp, distinct_atoms, map_atom, times_in_term, times_in_head, times_in_body, unbound_to_any}
use Rattle.cq_meaning.specs.NormalForm.{with_unbound_any, simplified, insert, sorted, normal}
use Rattle.cq_steps.specs.Ordered.{round_of}
use Rattle.cq_steps.proofs.Same.{same_atom-equal}
use Rattle.cq_steps.proofs.Anywhere.{Any-head, Any-later, Any-cases, Any-nil, Any-map, Any-length, Any-of-length}

-- what isn't equal to a, behind a
abbrev after : QAtom → List QAtom → List QAtom
after a xs = a ∷ filter (λ b. not (same_atom a b)) xs

kept-head : (P : QAtom → Type 0) (a x : QAtom) (rest : List QAtom) (t : Bool) → same_atom a x ≡ t → P x → Any P (a ∷ cond (not t) (x ∷ rest) rest)
kept-head P a x rest true e p = Any-head P a rest (subst P (sym (same_atom-equal a x e)) p)
kept-head P a x rest false e p = Any-later P a (x ∷ rest) (Any-head P x rest p)

kept-later : (P : QAtom → Type 0) (a x : QAtom) (rest : List QAtom) (t : Bool) → Any P (a ∷ rest) → Any P (a ∷ cond (not t) (x ∷ rest) rest)
kept-later P a x rest true some = some
kept-later P a x rest false some =
    elim (Any-cases P a rest some) [ inl p ↦ Any-head P a (x ∷ rest) p | inr later ↦ Any-later P a (x ∷ rest) (Any-later P x rest later) ]

kept : (P : QAtom → Type 0) (a : QAtom) (xs : List QAtom) → Any P xs → Any P (after a xs)
kept P a [] some = absurd (Any-nil P some)
kept P a (x ∷ xs) some =
    elim (Any-cases P x xs some) [
      | inl p ↦ kept-head P a x (filter (λ b. not (same_atom a b)) xs) (same_atom a x) refl p
      | inr later ↦ kept-later P a x (filter (λ b. not (same_atom a b)) xs) (same_atom a x) (kept P a xs later)
    ]

-- without repeats there is still an atom for each one
pub Any-distinct : (P : QAtom → Type 0) (xs : List QAtom) → Any P xs → Any P (distinct_atoms xs)
Any-distinct P [] some = some
Any-distinct P (x ∷ xs) some =
    elim (Any-cases P x xs some) [
      | inl p ↦ Any-head P x (filter (λ b. not (same_atom x b)) (distinct_atoms xs)) p
      | inr later ↦ kept P x (distinct_atoms xs) (Any-distinct P xs later)
    ]

inserted : (P : QAtom → Type 0) (a b : QAtom) (xs rest : List QAtom) (t : Bool) → (Any P (a ∷ xs) → Any P rest) → Any P (a ∷ b ∷ xs)
    → Any P (cond t (a ∷ b ∷ xs) (b ∷ rest))
inserted P a b xs rest true h some = some
inserted P a b xs rest false h some =
    elim (Any-cases P a (b ∷ xs) some) [
      | inl p ↦ Any-later P b rest (h (Any-head P a xs p))
      | inr later ↦ elim (Any-cases P b xs later) [ inl p ↦ Any-head P b rest p | inr end ↦ Any-later P b rest (h (Any-later P a xs end)) ]
    ]

Any-insert : (P : QAtom → Type 0) (a : QAtom) (xs : List QAtom) → Any P (a ∷ xs) → Any P (insert a xs)
Any-insert P a [] some = some
Any-insert P a (b ∷ xs) some = inserted P a b xs (insert a xs) (is_le (atom_cmp a b)) (Any-insert P a xs) some

-- in order there is still each atom
pub Any-sorted : (P : QAtom → Type 0) (xs : List QAtom) → Any P xs → Any P (sorted xs)
Any-sorted P [] some = some
Any-sorted P (x ∷ xs) some =
    Any-insert P x (sorted xs) (elim (Any-cases P x xs some) [
      | inl p ↦ Any-head P x (sorted xs) p
      | inr later ↦
          Any-later P x (sorted xs) (Any-sorted P xs later)
    ])

counts : (l : ℕ) → times_in_term l (Var l) ≡ 1
counts l = grind (arith, nat_tests)

-- a variable of the head is counted there
once : (l : ℕ) (t : Term) → t ≡ Var l → times_in_term l t ≡ 1
once l t e = rw e (counts l)

counted : (l : ℕ) (head : List Term) (k : ℕ) (d : Term) → k < length head → get_or head k d ≡ Var l → 0 < times_in_head l head
counted l [] k d h e = absurd (omega arith)
counted l (t ∷ head) zero d h e = let one = once l t e in omega arith
counted l (t ∷ head) (suc k) d h e = let more = counted l head k d (omega arith) e in omega arith

bound : (n : ℕ) (m : Bool) → 0 < n → (n == 0 && m) ≡ false
bound n m h = let e : (n == 0) ≡ false = grind (arith, nat_tests) in rw e

stays : (q : Query) (l : ℕ) → 0 < times_in_head l q.head → unbound_to_any q (Var l) ≡ Var l
stays q l h = rw (bound (times_in_head l q.head) (times_in_body l q.body == 1) h)

-- a term that f leaves as it is stands where it stood
pub StandsIn-map : (l : ℕ) (f : Term → Term) → f (Var l) ≡ Var l → (a : QAtom) → StandsIn l a → StandsIn l (map_atom f a)
StandsIn-map l f e (atom.Concept a t) h = ap f h ∙ e
StandsIn-map l f e (atom.Link p s t) (inl h) = inl (ap f h ∙ e)
StandsIn-map l f e (atom.Link p s t) (inr h) = inr (ap f h ∙ e)

meant-term : (body more : List QAtom) (t : Term) → ((l : ℕ) → t ≡ Var l → Any (StandsIn l) body → Any (StandsIn l) more) → IsMeant body t → IsMeant more t
meant-term body more (Var l) h m = h l refl m
meant-term body more (Ind c) h m = tt
meant-term body more term.Any h m = m

-- where another body still has each variable of the head, the query with it is safe
pub IsSafe-from : (q : Query) (body : List QAtom) → ((l : ℕ) → 0 < times_in_head l q.head → Any (StandsIn l) q.body → Any (StandsIn l) body)
    → 0 < length body → IsSafe q → IsSafe (record { head = q.head; body = body })
IsSafe-from q body h some safe = record {
  body = some;
  head = λ k d lt. meant-term q.body body (get_or q.head k d) (λ l e. h l (counted l q.head k d lt e)) (safe.head k d lt);
}

distinct_is_safe : (q : Query) → IsSafe q → IsSafe (record { head = q.head; body = distinct_atoms q.body })
distinct_is_safe q safe =
    IsSafe-from q (distinct_atoms q.body) (λ l h. Any-distinct (StandsIn l) q.body)
    (Any-length (λ (x : QAtom). Unit {0}) (distinct_atoms q.body) (Any-distinct (λ (x : QAtom). Unit {0}) q.body (Any-of-length q.body safe.body))) safe

unbound_is_safe : (q : Query) → IsSafe q → IsSafe (with_unbound_any q)
unbound_is_safe q safe =
    let f = map_atom (unbound_to_any q) in
    IsSafe-from q (map f q.body) (λ l h. Any-map (StandsIn l) (StandsIn l) f (StandsIn-map l (unbound_to_any q) (stays q l h)) q.body)
    (Any-length (λ (x : QAtom). Unit {0}) (map f q.body) (Any-map (λ (x : QAtom). Unit {0}) (λ (x : QAtom). Unit {0}) f (λ x u. u) q.body
    (Any-of-length q.body safe.body))) safe

simplified_is_safe : (n : ℕ) (q : Query) → IsSafe q → IsSafe (simplified n q)
simplified_is_safe zero q safe = safe
simplified_is_safe (suc n) q safe =
    simplified_is_safe n (round_of q) (unbound_is_safe (record { head = q.head; body = distinct_atoms q.body }) (distinct_is_safe q safe))

sorted_is_safe : (q : Query) → IsSafe q → IsSafe (record { head = q.head; body = sorted q.body })
sorted_is_safe q safe =
    IsSafe-from q (sorted q.body) (λ l h. Any-sorted (StandsIn l) q.body)
    (Any-length (λ (x : QAtom). Unit {0}) (sorted q.body) (Any-sorted (λ (x : QAtom). Unit {0}) q.body (Any-of-length q.body safe.body))) safe

-- the normal form of a safe query is safe
pub normal_is_safe : (q : Query) → IsSafe q → IsSafe (normal q)
normal_is_safe q safe = sorted_is_safe (simplified (suc (length q.body)) q) (simplified_is_safe (suc (length q.body)) q safe)
