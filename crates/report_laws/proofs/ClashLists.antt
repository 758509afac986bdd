-- Ordered clashes as the lists of their facts.
use Rattle.std.proofs.Common.{◌≡◌, ℕ, ◌≤◌, List, [], ◌∷◌, length, Contains, AllPairs, Option, None, refl, sym, subst, ap, ◌∙◌, arith}
use Rattle.std.specs.List.{cons_option}
use Rattle.std.proofs.lemmas.List.Elements.{All-contains}
use Rattle.cq_terms.specs.declared.hits.Clash.{Clash}
use Rattle.cq_terms.specs.Conflicts.{ConflictGraph, AreClashes, IsOneOrTwo, single, couple, own_facts, couples}
use Rattle.cq_terms.specs.Knowledge.{Knowledge}
use Rattle.cq_meaning.proofs.Members.{Contains-head, Contains-later}
use Rattle.cq_meaning.specs.ConflictGraphs.{AreConflictsOf}
use Rattle.report_rules.specs.ConflictLists.{conflict_lists, AreConflictLists}
use Rattle.report_laws.specs.ConflictLaws.{facts_told}
use Rattle.report_laws.proofs.ListLemmas.{AllPairs-head, AllPairs-tail}

-- one more clash in front, behind which there are none of one fact if it has two
with_clash : (n : ℕ) (facts owns : List ℕ) (pairs : List (ℕ × ℕ)) → IsOneOrTwo n facts → (2 ≤ length facts → owns ≡ [])
    → facts ∷ conflict_lists owns pairs ≡ conflict_lists (cons_option (single facts) owns) (cons_option (couple facts) pairs)
with_clash n [] owns pairs h e = absurd h
with_clash n (i ∷ []) owns pairs h e = refl
with_clash n (i ∷ j ∷ []) owns pairs h e = subst (λ (os : List ℕ). (i ∷ j ∷ []) ∷ conflict_lists os pairs ≡ conflict_lists os ((i, j) ∷ pairs))
    (sym (e (omega arith))) refl
with_clash n (i ∷ j ∷ l ∷ more) owns pairs h e = absurd h

-- a clash of two or more facts is not one of one
single_none : (facts : List ℕ) → 2 ≤ length facts → single facts ≡ None
single_none [] l = absurd (omega arith)
single_none (i ∷ []) l = absurd (omega arith)
single_none (i ∷ j ∷ facts) l = refl

no_own : (clashes : List Clash) → ((c : Clash) → Contains clashes c → 2 ≤ length c.facts) → own_facts clashes ≡ []
no_own [] h = refl
no_own (c ∷ clashes) h = ap (λ (o : Option ℕ). cons_option o (own_facts clashes)) (single_none c.facts (h c (Contains-head c clashes)))
    ∙ no_own clashes (λ d m. h d (Contains-later c clashes d m))

lists_are : (n : ℕ) (clashes : List Clash) → ((c : Clash) → Contains clashes c → IsOneOrTwo n c.facts)
    → AllPairs (λ c d. length c.facts ≤ length d.facts) clashes
    → facts_told clashes ≡ conflict_lists (own_facts clashes) (couples clashes)
lists_are n [] each order = refl
lists_are n (c ∷ clashes) each order =
    ap (λ (more : List (List ℕ)). c.facts ∷ more) (lists_are n clashes (λ d m. each d (Contains-later c clashes d m))
    (AllPairs-tail (λ (c d : Clash). length c.facts ≤ length d.facts) c clashes order))
    ∙ with_clash n c.facts (own_facts clashes) (couples clashes) (each c (Contains-head c clashes))
    (λ l. no_own clashes (λ d m. longer d l (AllPairs-head (λ (c d : Clash). length c.facts ≤ length d.facts) c clashes order d m)))
  where
    longer : (d : Clash) → 2 ≤ length c.facts → length c.facts ≤ length d.facts → 2 ≤ length d.facts
    longer d l k = omega arith

pub clashes_are_conflict_lists : (kb : Knowledge) (g : ConflictGraph) → AreConflictsOf kb g → AreClashes g.facts g.clashes
    → AreConflictLists kb (facts_told g.clashes)
clashes_are_conflict_lists kb g of ordered = (
  own_facts g.clashes,
  couples g.clashes,
  of.exact,
  lists_are g.facts g.clashes (λ c m. All-contains (λ (c : Clash). IsOneOrTwo g.facts c.facts) g.clashes c ordered.each m) ordered.own_first,
)
