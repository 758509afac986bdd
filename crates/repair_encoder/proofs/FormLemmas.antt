-- The form of base clauses: ascending literals of distinct facts.
use Rattle.std.proofs.Common.{◌≡◌, ◌<◌, ◌+◌, ◌*◌, ◌/◌, ◌⊎◌, inl, inr, ◌↔◌, ℕ, List, [], ◌∷◌, length, get_or, refl, sym, subst, arith, Contains, All}
use Rattle.std.proofs.lemmas.List.Elements.{Contains-get_or}
use Rattle.cq_meaning.proofs.Ascending.{All-of}
use Rattle.clause_meaning.specs.Literals.{variable_of, HaveDistinctVariables}
use Rattle.cq_terms.specs.Conflicts.{ConflictGraph, AreInConflict, AreClashes}
use Rattle.cq_terms.specs.Lists.{IsAscending}
use Rattle.priority_graph.specs.Priority.{Priority, IsOver}
use Rattle.repair_clauses.specs.BaseClauses.{present, absent, conflict_clause, Blocks, IsBaseClause}
use Rattle.repair_encoder.specs.Forms.{HasForm}
use Rattle.repair_clauses.specs.Components.{IsClosedUnder}
use Rattle.priority_graph.proofs.DirectLemmas.{conflict_over}
use Rattle.repair_encoder.proofs.BaseLemmas.{couple_up}
use Rattle.repair_clauses.proofs.ListLemmas.{one_of, one_of_two}

-- all literals are of facts of the list, and of one sign
abbrev AreOf : List ℕ → ℕ → List ℕ → Type 0
AreOf facts sign clause = (l : ℕ) → Contains clause l → (f : ℕ) × Contains facts f × (l ≡ 2 * f + sign)

of_one_sign : (facts : List ℕ) (sign : ℕ) (clause : List ℕ) → sign < 2 → 0 < length clause → IsAscending clause → AreOf facts sign clause → HasForm facts clause
unfolding variable_of
of_one_sign facts sign clause small some up h = record {
  some = some;
  ascending = up;
  distinct = apart;
  inside = All-of (λ l. Contains facts (variable_of l)) clause inside;
}
  where
    apart : HaveDistinctVariables clause
    apart i j d l m e =
        let a = h (get_or clause i d) (Contains-get_or clause i d (omega arith)) in
        let b = h (get_or clause j d) (Contains-get_or clause j d m) in
        let less = up i j d l m in
        omega (arith, a.2, b.2)

    inside : (l : ℕ) → Contains clause l → Contains facts (variable_of l)
    inside l m =
        let w = h l m in
        let same : w.0 ≡ l / 2 = omega (arith, w.2) in
        subst (Contains facts) same w.1

pair_ascending : (x y : ℕ) → x < y → IsAscending (x ∷ y ∷ [])
pair_ascending x y l i j d less inside =
    let first : i ≡ 0 = omega arith in
    let second : j ≡ 1 = omega arith in
    rw (first, second) l

pub base_has_form : (p : Priority) (g : ConflictGraph) (facts clause : List ℕ) → IsOver p g → AreClashes g.facts g.clashes
    → IsClosedUnder (AreInConflict g.clashes) (Contains facts) → IsBaseClause p (Contains facts) clause → HasForm facts clause
base_has_form p g facts clause over kept closed (inl (a, s, (b, r, m, e))) =
    let less = couple_up g a b kept (subst (λ (cs : List (ℕ × ℕ)). Contains cs (a, b)) over.couples m) in
    subst (HasForm facts) (sym e) (of_one_sign facts 1 (conflict_clause a b) (omega arith) (omega arith) (pair_ascending (absent a) (absent b) (omega arith))
    two)
  where
    two : AreOf facts 1 (conflict_clause a b)
    two l k = elim (one_of_two (absent a) (absent b) l k) [ inl is ↦ (a, s, is) | inr is ↦ (b, r, is) ]
base_has_form p g facts clause over kept closed (inr (f, s, inl (o, e))) =
    subst (HasForm facts) (sym e) (of_one_sign facts 1 (absent f ∷ []) (omega arith) (omega arith) (λ i j d l m. absurd (omega arith))
    (λ l k. (f, s, one_of (absent f) l k)))
base_has_form p g facts clause over kept closed (inr (f, s, inr (n, b))) =
    let here : Contains clause (present f) = (b.exact (present f)).1 (f, inl refl, refl) in
    of_one_sign facts 0 clause (omega arith) (omega (arith, here.1)) b.ascending (λ l k. each l ((b.exact l).0 k))
  where
    each : (l : ℕ) → (j : ℕ) × ((j ≡ f) ⊎ Blocks p f j) × (l ≡ present j) → (j : ℕ) × Contains facts j × (l ≡ 2 * j + 0)
    each l (j, inl e, is) = (j, subst (Contains facts) (sym e) s, omega (arith, is))
    each l (j, inr w, is) = (j, closed f j s (conflict_over p g f j over w.0), omega (arith, is))

pub all_have_form : (p : Priority) (g : ConflictGraph) (facts : List ℕ) (clauses : List (List ℕ)) → IsOver p g → AreClashes g.facts g.clashes
    → IsClosedUnder (AreInConflict g.clashes) (Contains facts)
    → ((c : List ℕ) → Contains clauses c ↔ IsBaseClause p (Contains facts) c) → All (HasForm facts) clauses
all_have_form p g facts clauses over kept closed h = All-of (HasForm facts) clauses (λ c m. base_has_form p g facts c over kept closed ((h c).0 m))
