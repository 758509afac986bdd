use Rattle.std.proofs.Common.{◌≡◌, ◌≢◌, ◌∙◌, ℕ, zero, suc, List, [], ◌∷◌, All, None, sym, ap, subst, arith}
use Rattle.cq_terms.specs.declared.query.Term.TheVariants.{Var}
use Rattle.cq_terms.specs.declared.query.QAtom.TheVariants as atom
use Rattle.cq_terms.specs.Query.{Query}
use Rattle.cq_steps.specs.declared.closure.Member.{Member}
use Rattle.rewriting_tests.proofs.steps.a_member_is_put_last.Goals as goal

-- the query of a concept
abbrev all_of : ℕ → Query
all_of n = record { head = Var 0 ∷ []; body = atom.Concept n (Var 0) ∷ [] }

same_body : (m n : ℕ) → atom.Concept m (Var 0) ∷ [] ≡ atom.Concept n (Var 0) ∷ [] → m ≡ n
same_body m n e = cc

alone : (m : Member) (r : Query) → (m.query ≡ r → ⊥) → All (λ (n : Member). n.query ≢ r) (m ∷ [])
alone m r h zero d l = h
alone m r h (suc k) d l = absurd (omega (arith, l))

differs : (q r : Query) (members : List Member) → members ≡ record { query = q; step = None } ∷ [] → q ≡ all_of 0 → r ≡ all_of 1
    → All (λ (n : Member). n.query ≢ r) members
differs q r members is first second =
    subst (All (λ (n : Member). n.query ≢ r)) (sym is)
    (alone (record { query = q; step = None }) r (λ e. let same = same_body 0 1 (ap (λ (x : Query). x.body) (sym first ∙ e ∙ second)) in omega (arith, same)))

pub push-requires-clause-new : goal.push-requires-clause-new
push-requires-clause-new g c = differs c.in_ok-first.first c.in_ok-query.query c.in_ok-closure.closure c.in_ok-closure.ensures.exact c.in_ok-first.ensures
    c.in_ok-query.ensures
