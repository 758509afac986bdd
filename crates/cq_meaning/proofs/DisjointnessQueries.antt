-- Facts are consistent exactly where they entail the query of no disjointness.
use Rattle.std.proofs.Common.{◌≡◌, ℕ, zero, suc, ◌↔◌, List, [], ◌∷◌, Contains, Some, refl, sym, subst, ap, ◌∙◌}
use Rattle.cq_terms.specs.declared.axioms.Role.{Role}
use Rattle.cq_terms.specs.declared.axioms.Basic.{Basic}
use Rattle.cq_terms.specs.declared.axioms.Axiom.{Axiom}
use Rattle.cq_terms.specs.declared.axioms.Axiom.TheVariants.{Sub, Disjoint, SubRole, DisjointRole}
use Rattle.cq_terms.specs.declared.facts.Fact.{Fact}
use Rattle.cq_terms.specs.declared.query.Term.TheVariants.{Var}
use Rattle.cq_terms.specs.Query.{Query}
use Rattle.cq_meaning.specs.Chase.{Node, role_atom, PutsIn, InStage, Violates, Consistent}
use Rattle.cq_meaning.specs.Entailment.{HasMatch, Entails}
use Rattle.cq_meaning.specs.NormalForm.{normal}
use Rattle.cq_meaning.specs.Rewriting.{role_at, basic_at, disjointness_query}
use Rattle.cq_meaning.proofs.Places.{some_inj}
use Rattle.cq_meaning.proofs.Rewrites.{role_becomes, role_becomes_only, basic_becomes, basic_becomes_only}
use Rattle.cq_meaning.proofs.NormalBack.{normal_back}
use Rattle.cq_meaning.proofs.NormalLaws.{normal_forth}

-- the query of what a disjointness of concepts forbids, before the normal form
abbrev in_both : Basic → Basic → Query
in_both b c = record { head = []; body = basic_at b (Var 0) ∷ basic_at c (Var 0) ∷ [] }

-- the query of what a disjointness of roles forbids, before the normal form
abbrev joined_twice : Role → Role → Query
joined_twice r q = record { head = []; body = role_at r (Var 0) (Var 1) ∷ role_at q (Var 0) (Var 1) ∷ [] }

-- the valuation of the two variables
abbrev two : Node → Node → ℕ → Node
two s t zero = s
two s t (suc i) = t

module _ (axioms : List Axiom) (F : Fact → Type 0) (k : ℕ) where
  violation_matches : (rule : Axiom) → Violates axioms F k rule → (q : Query) × (disjointness_query rule ≡ Some q) × HasMatch (InStage axioms F k) q []
  violation_matches (Disjoint b c) (t, (x, s, p), (y, s', p')) =
      let v : ℕ → Node = λ i. t in (
        normal (in_both b c),
        refl,
        normal_forth (InStage axioms F k) (in_both b c) []
            (v, tt, ((x, s, basic_becomes v b (Var 0) t x refl p), ((y, s', basic_becomes v c (Var 0) t y refl p'), tt))),
      )
  violation_matches (DisjointRole r q) (s, t, m, n) = (
    normal (joined_twice r q),
    refl,
    normal_forth (InStage axioms F k) (joined_twice r q) [] (
      two s t,
      tt,
      (
        (role_atom r s t, m, role_becomes (two s t) r (Var 0) (Var 1) s t refl refl),
        ((role_atom q s t, n, role_becomes (two s t) q (Var 0) (Var 1) s t refl refl), tt),
      ),
    ),
  )
  violation_matches (Sub b c) v = absurd v
  violation_matches (SubRole r q) v = absurd v

  both_violate : (b c : Basic) → HasMatch (InStage axioms F k) (in_both b c) [] → Violates axioms F k (Disjoint b c)
  both_violate b c (v, h, ((x, s, p), ((y, s', p'), l))) =
      let w = basic_becomes_only v b (Var 0) x p in
      let w' = basic_becomes_only v c (Var 0) y p' in
      (v 0, (x, s, subst (λ t. PutsIn x t b) w.1 w.2), (y, s', subst (λ t. PutsIn y t c) w'.1 w'.2))

  twice_violate : (r q : Role) → HasMatch (InStage axioms F k) (joined_twice r q) [] → Violates axioms F k (DisjointRole r q)
  twice_violate r q (v, h, ((x, s, p), ((y, s', p'), l))) =
      let w = role_becomes_only v r (Var 0) (Var 1) x p in
      let w' = role_becomes_only v q (Var 0) (Var 1) y p' in (
        v 0,
        v 1,
        subst (InStage axioms F k) (w.4 ∙ same_role r w.0 w.1 (v 0) (v 1) w.2 w.3) s,
        subst (InStage axioms F k) (w'.4 ∙ same_role q w'.0 w'.1 (v 0) (v 1) w'.2 w'.3) s',
      )
    where
      same_role : (r : Role) (m n m' n' : Node) → m ≡ m' → n ≡ n' → role_atom r m n ≡ role_atom r m' n'
      same_role r m n m' n' e d = ap (λ t. role_atom r t n) e ∙ ap (λ t. role_atom r m' t) d

  pub matches_violate : (rule : Axiom) (q : Query) → disjointness_query rule ≡ Some q → HasMatch (InStage axioms F k) q [] → Violates axioms F k rule
  matches_violate (Disjoint b c) q e h = both_violate b c (normal_back (InStage axioms F k) (in_both b c) []
      (subst (λ (p : Query). HasMatch (InStage axioms F k) p []) (sym (some_inj e)) h))
  matches_violate (DisjointRole r p) q e h = twice_violate r p
      (normal_back (InStage axioms F k) (joined_twice r p) [] (subst (λ (p : Query). HasMatch (InStage axioms F k) p []) (sym (some_inj e)) h))
  matches_violate (Sub b c) q e h = absurd (cc)
  matches_violate (SubRole r p) q e h = absurd (cc)

pub consistent_by_queries : (axioms : List Axiom) (F : Fact → Type 0) → Consistent axioms F
    ↔ ((rule : Axiom) (q : Query) → Contains axioms rule → disjointness_query rule ≡ Some q → ¬ Entails axioms F q [])
consistent_by_queries axioms F = (
  (λ c rule q m d e. c e.0 rule m (matches_violate axioms F e.0 rule q d e.1)),
  (λ none k rule m v. let w = violation_matches axioms F k rule v in none rule w.0 m w.1 (k, w.2)),
)
