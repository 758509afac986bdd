-- Clashes of two facts each, from the pairs in conflict.
use Rattle.std.proofs.Common.{◌≡◌, ◌<◌, ◌≤◌, ◌^◌, ◌+◌, inl, ℕ, List, [], ◌∷◌, ◌++◌, length, map, refl, sym, ap, subst, arith, Contains, All}
use Rattle.std.specs.List.{AllPairs}
use Rattle.std.proofs.lemmas.List.{length_push, length-map}
use Rattle.std.proofs.lemmas.List.Elements.{All-nil, All-cons, All-append, All-map, All-weaker}
use Rattle.std.proofs.lemmas.List.Quantifiers.{all_pairs_push}
use Rattle.cq_terms.specs.declared.hits.Clash.{Clash}
use Rattle.cq_terms.specs.Conflicts.{IsBefore, IsOneOrTwo, AreClashes, own_facts, couples}
use Rattle.cq_terms.specs.Lists.{IsAscending}
use Rattle.cq_meaning.proofs.Members.{Contains-nil}

abbrev pub clash_of : ℕ × ℕ → Clash
clash_of c = record { facts = c.0 ∷ c.1 ∷ []; «axiom» = 0; member = 0 }

abbrev pub clashes_of : List (ℕ × ℕ) → List Clash
clashes_of listed = map clash_of listed

pub no_own : (listed : List (ℕ × ℕ)) → own_facts (clashes_of listed) ≡ []
no_own [] = refl
no_own (c ∷ listed) = no_own listed

pub same_couples : (listed : List (ℕ × ℕ)) → couples (clashes_of listed) ≡ listed
same_couples [] = refl
same_couples (c ∷ listed) = ap (λ (more : List (ℕ × ℕ)). c ∷ more) (same_couples listed)

of_two : (listed : List (ℕ × ℕ)) → All (λ c. length c.facts ≡ 2) (clashes_of listed)
of_two [] = All-nil (λ (c : Clash). length c.facts ≡ 2)
of_two (c ∷ listed) = All-cons (λ (c : Clash). length c.facts ≡ 2) (clash_of c) (clashes_of listed) refl (of_two listed)

pub are_clashes : (facts : ℕ) (listed : List (ℕ × ℕ)) → facts ≤ 2 ^ 31 → length listed < 2 ^ 31
    → All (λ c. (c.0 < c.1) × (c.1 < facts)) listed → AllPairs IsBefore listed → AreClashes facts (clashes_of listed)
are_clashes facts listed few short upward ascending = record {
  few_facts = few;
  few = omega (arith, length-map listed clash_of);
  each = All-map (λ (c : Clash). IsOneOrTwo facts c.facts) clash_of listed upward;
  own_first = λ i j d l m. let a = of_two listed i d (omega arith) in let b = of_two listed j d m in omega arith;
  own_ascending = subst IsAscending (sym (no_own listed)) (λ i j d l m. absurd (omega arith));
  couples_ascending = subst (λ (cs : List (ℕ × ℕ)). AllPairs IsBefore cs) (sym (same_couples listed)) ascending;
  apart = λ i j o. absurd (Contains-nil i (subst (λ (own : List ℕ). Contains own i) (no_own listed) o));
}

-- a ring's pairs so far: they begin below the next fact
pub record IsRing (facts next : ℕ) (listed : List (ℕ × ℕ)) : Type 0 where
  pub long : length listed ≡ next + 1
  pub earlier : All (λ c. c.0 < next) listed
  pub upward : All (λ c. (c.0 < c.1) × (c.1 < facts)) listed
  pub ascending : AllPairs IsBefore listed

pub ring_more : (facts next : ℕ) (listed : List (ℕ × ℕ)) → IsRing facts next listed → next + 1 < facts
    → IsRing facts (next + 1) (listed ++ (next, next + 1) ∷ [])
ring_more facts next listed h l = record {
  long = omega (arith, h.long, length_push listed (next, next + 1));
  earlier = All-append (λ (c : ℕ × ℕ). c.0 < next + 1) listed ((next, next + 1) ∷ [])
      (All-weaker (λ (c : ℕ × ℕ). c.0 < next) (λ (c : ℕ × ℕ). c.0 < next + 1) (λ c m. omega arith) listed h.earlier)
      (All-cons (λ (c : ℕ × ℕ). c.0 < next + 1) (next, next + 1) [] (omega arith) (All-nil (λ (c : ℕ × ℕ). c.0 < next + 1)));
  upward = All-append (λ (c : ℕ × ℕ). (c.0 < c.1) × (c.1 < facts)) listed ((next, next + 1) ∷ []) h.upward
      (All-cons (λ (c : ℕ × ℕ). (c.0 < c.1) × (c.1 < facts)) (next, next + 1) [] (omega arith, l) (All-nil (λ (c : ℕ × ℕ). (c.0 < c.1) × (c.1 < facts))));
  ascending = all_pairs_push IsBefore listed (next, next + 1) h.ascending (λ k d m. inl (h.earlier k d m));
}
