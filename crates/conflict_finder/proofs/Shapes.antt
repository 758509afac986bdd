-- Queries of disjointnesses and of their closures have no head and at most two atoms.
use Rattle.std.proofs.Common.{cond, not, ◌≡◌, ℕ, zero, suc, ◌<◌, ◌≤◌, List, [], ◌∷◌, length, map, inl, inr, Bool, true, false, slice_get, Some, refl, sym, ap}
use Rattle.std.proofs.Common.{◌∙◌, subst, arith}
use Rattle.std.specs.Ordering.{is_le}
use Rattle.std.proofs.lemmas.Option.{slice_get_within}
use Rattle.std.proofs.lemmas.List.{length-map, length-set}
use Rattle.cq_terms.specs.declared.axioms.Axiom.{Axiom}
use Rattle.cq_terms.specs.declared.axioms.Axiom.TheVariants.{Sub, Disjoint, SubRole, DisjointRole}
use Rattle.cq_terms.specs.declared.query.QAtom.{QAtom}
use Rattle.cq_terms.specs.Query.{Query}
use Rattle.cq_meaning.specs.NormalForm.{normal, simplified, distinct_atoms, with_unbound_any, unbound_to_any, map_atom, sorted, insert, same_atom, atom_cmp}
use Rattle.cq_meaning.specs.NormalForm.{without}
use Rattle.cq_meaning.specs.Rewriting.{Reaches, IsInClosure, disjointness_query, basic_at, role_at}
use Rattle.cq_meaning.proofs.NormalLaws.{head_normal}
use Rattle.cq_terms.specs.declared.query.Term.TheVariants.{Var}
use Rattle.cq_meaning.proofs.Places.{some_inj}
use Rattle.cq_meaning.proofs.Moves.{StepsTo, step_of}
use Rattle.cq_meaning.proofs.Settled.{filter_least}
use Rattle.conflict_finder.specs.Images.{IsShort}

distinct_least : (body : List QAtom) → length (distinct_atoms body) ≤ length body
distinct_least [] = omega arith
distinct_least (a ∷ body) = omega (arith, filter_least (λ b. not (same_atom a b)) (distinct_atoms body), distinct_least body)

simplified_least : (n : ℕ) (q : Query) → length (simplified n q).body ≤ length q.body
simplified_least zero q = omega arith
simplified_least (suc n) q =
    let p : Query = record { head = q.head; body = distinct_atoms q.body } in
    omega (arith, simplified_least n (with_unbound_any p), length-map (distinct_atoms q.body) (map_atom (unbound_to_any p)), distinct_least q.body)

distinct_some : (body : List QAtom) → 0 < length body → 0 < length (distinct_atoms body)
distinct_some [] l = l
distinct_some (a ∷ body) l = omega arith

simplified_some : (n : ℕ) (q : Query) → 0 < length q.body → 0 < length (simplified n q).body
simplified_some zero q l = l
simplified_some (suc n) q l =
    let p : Query = record { head = q.head; body = distinct_atoms q.body } in
    simplified_some n (with_unbound_any p) (let k = distinct_some q.body l in
    omega (arith, k, length-map (distinct_atoms q.body) (map_atom (unbound_to_any p))))

insert_length : (a : QAtom) (body : List QAtom) → length (insert a body) ≡ suc (length body)
insert_length a [] = refl
insert_length a (b ∷ body) = go (is_le (atom_cmp a b)) (insert_length a body)
  where
    go : (t : Bool) → length (insert a body) ≡ suc (length body) → length (cond t (a ∷ b ∷ body) (b ∷ insert a body)) ≡ suc (suc (length body))
    go true h = refl
    go false h = ap suc h

sorted_length : (body : List QAtom) → length (sorted body) ≡ length body
sorted_length [] = refl
sorted_length (a ∷ body) = insert_length a (sorted body) ∙ ap suc (sorted_length body)

pub short_normal : (q : Query) → IsShort q → IsShort (normal q)
short_normal q s = (
  head_normal q ∙ s.0,
  (let k = simplified_some (suc (length q.body)) q s.1 in omega (arith, k, sorted_length (simplified (suc (length q.body)) q).body)),
  (let k = s.2 in omega (arith, k, simplified_least (suc (length q.body)) q, sorted_length (simplified (suc (length q.body)) q).body)),
)

without_one : (body : List QAtom) (i : ℕ) (a : QAtom) → slice_get body i ≡ Some a → suc (length (without body i)) ≡ length body
without_one [] i a e = cc
without_one (b ∷ body) zero a e = refl
without_one (b ∷ body) (suc i) a e = ap suc (without_one body i a e)

short_step : (axioms : List Axiom) (q p : Query) → IsShort q → StepsTo axioms q p → IsShort p
short_step axioms q p s (inl (i, rule, c, (x, y, g, st, d))) =
    subst IsShort (sym d) (s.0, (let k = s.1 in omega (arith, k, length-set q.body i y)), (let k = s.2 in omega (arith, k, length-set q.body i y)))
short_step axioms q p s (inr (i, j, (x, y, f, z, l, g, g', u, d))) =
    let a = length-set (map (map_atom f) (without q.body j)) i z in
    let b = length-map (without q.body j) (map_atom f) in
    let k = without_one q.body j y g' in
    let w = slice_get_within q.body j y g' in
    let m = s.2 in
    subst IsShort (sym d) (ap (map f) s.0, omega (arith, a, b, k, w, l), omega (arith, a, b, k, m))

pub short_reached : (axioms : List Axiom) (n : ℕ) (q p : Query) → IsShort q → Reaches axioms n q p → IsShort p
short_reached axioms zero q p s e = subst IsShort e s
short_reached axioms (suc n) q p s (r, m, more) = let t = step_of axioms q r m in
    short_reached axioms n r p (subst IsShort (sym t.2) (short_normal t.0 (short_step axioms q t.0 s t.1))) more

pub short_in_closure : (axioms : List Axiom) (q p : Query) → IsShort q → IsInClosure axioms q p → IsShort p
short_in_closure axioms q p s (n, r) = short_reached axioms n (normal q) p (short_normal q s) r

two_short : (x y : QAtom) → IsShort (normal (record { head = []; body = x ∷ y ∷ [] }))
two_short x y = short_normal (record { head = []; body = x ∷ y ∷ [] }) (refl, omega arith, omega arith)

pub short_forbidden : (rule : Axiom) (q : Query) → disjointness_query rule ≡ Some q → IsShort q
short_forbidden (Disjoint b c) q e = subst IsShort (some_inj e) (two_short (basic_at b (Var 0)) (basic_at c (Var 0)))
short_forbidden (DisjointRole r s) q e = subst IsShort (some_inj e) (two_short (role_at r (Var 0) (Var 1)) (role_at s (Var 0) (Var 1)))
short_forbidden (Sub b c) q e = cc
short_forbidden (SubRole r s) q e = cc
