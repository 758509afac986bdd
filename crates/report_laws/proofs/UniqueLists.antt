-- There is one list of conflicts, one of causes and one of candidates.
use Rattle.std.proofs.Common.{◌≡◌, ℕ, ◌<◌, ◌⊎◌, inl, inr, List, sym, ap, ◌∙◌, arith}
use Rattle.std.specs.Ordering.{nat_cmp, ordering_reverse}
use Rattle.std.specs.Cmp.Lexicographic.{slice_cmp}
use Rattle.std.specs.declared.cmp.Ordering.{Ordering}
use Rattle.std.specs.declared.cmp.Ordering.TheVariants.{Less, Equal, Greater}
use Rattle.std.proofs.lemmas.Cmp.{nat_list_cmp_total}
use Rattle.std.proofs.lemmas.List.Elements.{All-contains}
use Rattle.cq_meaning.specs.Conflicts.{FactsEntail}
use Rattle.cq_meaning.specs.Candidates.{Every}
use Rattle.cq_meaning.proofs.Ascending.{pairs_same, ascending_same}
use Rattle.report_rules.specs.ConflictLists.{conflict_lists}
use Rattle.report_laws.specs.ListLaws.{ConflictsAreOne, ConflictListsAreOne, CausesAreOne, CandidatesAreOne, LawsOfLists}
use Rattle.report_laws.proofs.CauseLemmas.{same_causes}

-- of two lists none is before the other and behind it
pub less_once : (a b : List ℕ) → slice_cmp nat_cmp a b ≡ Less → slice_cmp nat_cmp b a ≡ Less → ⊥
less_once a b p q = by (slice_cmp nat_cmp b a) q (sym p ∙ nat_list_cmp_total.antisymm a b)
  where
    by : (o : Ordering) → o ≡ Less → Less ≡ ordering_reverse o → ⊥
    by Less e h = cc h
    by Equal e h = cc e
    by Greater e h = cc e

pair_once : (p r : ℕ × ℕ) → (p.0 < r.0) ⊎ ((p.0 ≡ r.0) × (p.1 < r.1)) → (r.0 < p.0) ⊎ ((r.0 ≡ p.0) × (r.1 < p.1)) → ⊥
pair_once p r (inl a) (inl b) = omega arith
pair_once p r (inl a) (inr (e, b)) = omega arith
pair_once p r (inr (e, a)) (inl b) = omega arith
pair_once p r (inr (e, a)) (inr (f, b)) = omega arith

pub conflicts_one : ConflictsAreOne
conflicts_one kb owns others pairs couples u w = (
  ascending_same owns others u.owns_ascending w.owns_ascending (λ i m. (w.owns_exact i).1 ((u.owns_exact i).0 m))
      (λ i m. (u.owns_exact i).1 ((w.owns_exact i).0 m)),
  pairs_same (λ (p r : ℕ × ℕ). (p.0 < r.0) ⊎ ((p.0 ≡ r.0) × (p.1 < r.1))) pair_once pairs couples u.pairs_ascending w.pairs_ascending
      (λ (p : ℕ × ℕ) m. (w.pairs_exact p.0 p.1).1 ((u.pairs_exact p.0 p.1).0 m)) (λ (p : ℕ × ℕ) m. (u.pairs_exact p.0 p.1).1 ((w.pairs_exact p.0 p.1).0 m)),
)

pub conflict_lists_one : ConflictListsAreOne
conflict_lists_one kb lists others (owns, pairs, u, e) (owns', pairs', w, f) =
    let same = conflicts_one kb owns owns' pairs pairs' u w in
    e ∙ (ap (λ (xs : List ℕ). conflict_lists xs pairs) same.0 ∙ ap (λ (ps : List (ℕ × ℕ)). conflict_lists owns' ps) same.1) ∙ sym f

pub causes_one : CausesAreOne
causes_one kb q tuple causes others u w =
    pairs_same (λ (a b : List ℕ). slice_cmp nat_cmp a b ≡ Less) less_once causes others u.ascending w.ascending (same_causes kb q tuple causes others u w)
    (same_causes kb q tuple others causes w u)

pub candidates_one : CandidatesAreOne
candidates_one kb q tuples others u w =
    pairs_same (λ (a b : List ℕ). slice_cmp nat_cmp a b ≡ Less) less_once tuples others u.ascending w.ascending
    (λ t m. w.complete t (All-contains (FactsEntail kb Every q) tuples t u.entailed m))
    (λ t m. u.complete t (All-contains (FactsEntail kb Every q) others t w.entailed m))

pub laws : LawsOfLists
laws = record { conflicts = conflicts_one; conflict_lists = conflict_lists_one; causes = causes_one; candidates = candidates_one }
