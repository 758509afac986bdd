-- Bounds over the conflicts of a table, and the lists of what conflicts reach.
use Rattle.std.proofs.Common.{ℕ, zero, suc, ◌<◌, ◌≤◌, ◌⊎◌, ◌↔◌, inl, inr, List, [], ◌∷◌, ◌++◌, length, Contains, refl, sym, subst, arith}
use Rattle.std.proofs.lemmas.Bool.{cases_eq}
use Rattle.cq_terms.specs.declared.facts.Repairs.TheVariants as modes
use Rattle.cq_terms.specs.Conflicts.{ConflictGraph, AreInConflict, own_facts, couples}
use Rattle.cq_terms.specs.Knowledge.{Knowledge}
use Rattle.cq_meaning.specs.Conflicts.{Conflict}
use Rattle.cq_meaning.proofs.Ascending.{with_property}
use Rattle.cq_meaning.proofs.ByLists.{Conflict-within}
use Rattle.cq_meaning.proofs.Extension.{Conflict-sym}
use Rattle.cq_meaning.proofs.Listed.{all_or_some, append_left, append_right, append_cases, member, removed}
use Rattle.cq_meaning.proofs.Members.{Contains-head, Contains-later, Contains-cases, Contains-nil}
use Rattle.priority_graph.specs.Priority.{Priority}
use Rattle.priority_graph.specs.Inputs.{IsPriorityOf}
use Rattle.cq_meaning.specs.ConflictGraphs.{AreConflictsOf}
use Rattle.priority_graph.proofs.InputLemmas.{empty_is_all}
use Rattle.repair_clauses.specs.Components.{IsReachedIn}
use Rattle.report_rules.specs.ConflictLists.{IsLinkedIn, IsInComponents, IsInConflict, AreConflictFacts}
use Rattle.report_laws.specs.Scopes.{AreComponents}
use Rattle.report_laws.specs.Bounds.{IsReachedFrom, HasRival, GraphTells}
use Rattle.report_laws.proofs.BaseClauseLemmas.{means}
use Rattle.report_laws.proofs.ConflictsExist.{conflict_or_not}
use Rattle.report_laws.proofs.ScopeLemmas.{linked_known}
use Rattle.report_laws.proofs.FreeFacts.{in_conflict_or_not}

-- ---- the words over a graph

module _ (kb : Knowledge) (g : ConflictGraph) (of : AreConflictsOf kb g) where
  conflict_tells : (i j : ℕ) → AreInConflict g.clashes i j ↔ Conflict kb i j
  conflict_tells = (means kb modes.All none of_none).conflict
    where
      none : Priority
      none = record { facts = g.facts; own = own_facts g.clashes; couples = couples g.clashes; pairs = [] }

      of_none : IsPriorityOf kb modes.All none
      of_none = empty_is_all kb g none of (record { facts = refl; own = refl; couples = refl }) (λ i j m. Contains-nil (record { upper = i; lower = j }) m)

  linked_tells : (n i j : ℕ) → IsReachedIn g n i j ↔ IsLinkedIn kb n i j
  linked_tells zero i j = ((λ e. e), (λ e. e))
  linked_tells (suc n) i j = (
    (λ (l, r, c). (l, (linked_tells n i l).0 r, (conflict_tells l j).0 c)),
    (λ (l, r, c). (l, (linked_tells n i l).1 r, (conflict_tells l j).1 c)),
  )

  reached_tells : (causes : List (List ℕ)) (f : ℕ) → IsReachedFrom g causes f ↔ IsInComponents kb causes f
  reached_tells causes f = (
    (λ (cause, i, c, k, (n, r)). (cause, i, n, c, k, (linked_tells n i f).0 r)),
    (λ (cause, i, n, c, k, r). (cause, i, c, k, (n, (linked_tells n i f).1 r))),
  )

  rival_tells : (i : ℕ) → HasRival g i ↔ IsInConflict kb i
  rival_tells i = ((λ (j, c). (j, (conflict_tells i j).0 c)), (λ (j, c). (j, (conflict_tells i j).1 c)))

  pub graph_tells : GraphTells kb g
  graph_tells = record {
    conflict = conflict_tells;
    linked = linked_tells;
    reached = λ causes facts. (
      (λ w. record {
        ascending = w.ascending;
        exact = λ i. (
          (λ m. (reached_tells causes i).0 ((w.exact i).0 m)),
          (λ c. (w.exact i).1 ((reached_tells causes i).1 c)),
        );
      }),
      (λ w. record {
        ascending = w.ascending;
        exact = λ i. (
          (λ m. (reached_tells causes i).1 ((w.exact i).0 m)),
          (λ c. (w.exact i).1 ((reached_tells causes i).0 c)),
        );
      }),
    );
    bound = λ causes facts. (
      (λ w. record {
        ascending = w.ascending;
        exact = λ i. (
          (λ m. let x = (w.exact i).0 m in ((rival_tells i).0 x.0, (reached_tells causes i).0 x.1)),
          (λ x. (w.exact i).1 ((rival_tells i).1 x.0, (reached_tells causes i).1 x.1)),
        );
      }),
      (λ w. record {
        ascending = w.ascending;
        exact = λ i. (
          (λ m. let x = (w.exact i).0 m in ((rival_tells i).1 x.0, (reached_tells causes i).1 x.1)),
          (λ x. (w.exact i).1 ((rival_tells i).0 x.0, (reached_tells causes i).0 x.1)),
        );
      }),
    );
  }

-- ---- what conflicts reach is a list

-- the members of some list
members_of : List (List ℕ) → List ℕ
members_of [] = []
members_of (cause ∷ causes) = cause ++ members_of causes

to_members : (causes : List (List ℕ)) (cause : List ℕ) (i : ℕ) → Contains causes cause → Contains cause i → Contains (members_of causes) i
unfolding members_of
to_members [] cause i c m = absurd (Contains-nil cause c)
to_members (x ∷ causes) cause i c m = elim (Contains-cases x causes cause c) [
  | inl e ↦ append_left x (members_of causes) i (subst (λ (xs : List ℕ). Contains xs i) (sym e) m)
  | inr k ↦ append_right x (members_of causes) i (to_members causes cause i k m)
]

from_members : (causes : List (List ℕ)) (i : ℕ) → Contains (members_of causes) i → (cause : List ℕ) × Contains causes cause × Contains cause i
unfolding members_of
from_members [] i m = absurd (Contains-nil i m)
from_members (x ∷ causes) i m = elim (append_cases x (members_of causes) i m) [
  | inl k ↦ (x, Contains-head x causes, k)
  | inr k ↦ (let w = from_members causes i k in (w.0, Contains-later x causes w.0 w.1, w.2))
]

module _ (kb : Knowledge) (causes : List (List ℕ)) (known : (cause : List ℕ) (i : ℕ) → Contains causes cause → Contains cause i → i < length kb.facts) where
  in_components : (f : ℕ) → IsInComponents kb causes f → f < length kb.facts
  in_components f (cause, i, n, c, k, linked) = linked_known kb n i f (known cause i c k) linked

  -- facts of the components among which are those of the causes
  record Grows (facts : List ℕ) : Type 0 where
    first : (i : ℕ) → Contains (members_of causes) i → Contains facts i
    inside : (i : ℕ) → Contains facts i → IsInComponents kb causes i

  -- all of them
  record Grown (facts : List ℕ) : Type 0 where
    first : (i : ℕ) → Contains (members_of causes) i → Contains facts i
    inside : (i : ℕ) → Contains facts i → IsInComponents kb causes i
    closed : (i j : ℕ) → Contains facts i → Conflict kb i j → Contains facts j

  abbrev Rival : List ℕ → ℕ → Type 0
  Rival facts j = (i : ℕ) × Contains facts i × Conflict kb i j

  rival_cases : (facts : List ℕ) (j : ℕ) → (Rival facts j → ⊥) ⊎ Rival facts j
  rival_cases facts j = elim (all_or_some (λ i. Conflict kb i j → ⊥) (λ i. Conflict kb i j)
      (λ i. elim (conflict_or_not kb i j) [ inl c ↦ inr c | inr n ↦ inl n ]) facts) [
        | inl none ↦ inl (λ (i, m, c). none i m c)
        | inr w ↦ inr w
      ]

  -- facts of the components, and a list of those that are left
  record IsCut (facts left : List ℕ) : Type 0 where
    grows : Grows facts
    covers : (j : ℕ) → j < length kb.facts → Contains facts j ⊎ Contains left j

  -- none that is left conflicts with one of these
  finished : (facts left : List ℕ) → IsCut facts left → ((j : ℕ) → Contains left j → Rival facts j → ⊥) → (all : List ℕ) × Grown all
  finished facts left w none = (
    facts,
    record {
      first = w.grows.first;
      inside = w.grows.inside;
      closed = λ i j m c. elim (w.covers j (Conflict-within kb j i (Conflict-sym kb i j c))) [ inl k ↦ k | inr k ↦ absurd (none j k (i, m, c)) ];
    },
  )

  -- or one does, and moves over
  moved : (facts left : List ℕ) → IsCut facts left → (j : ℕ) → Contains left j → Rival facts j → (less : List ℕ) × (length less < length left)
      × IsCut (j ∷ facts) less
  moved facts left w j m (i, k, c) =
      let (less, shorter, rest) = removed left j m in (
        less,
        shorter,
        record {
          grows = record {
            first = λ x h. Contains-later j facts x (w.grows.first x h);
            inside = λ x h. elim (Contains-cases j facts x h) [
              | inl e ↦ (let (cause, y, n, d, z, linked) = w.grows.inside i k in subst (IsInComponents kb causes) e (cause, y, suc n, d, z, (i, linked, c)))
              | inr old ↦ w.grows.inside x old
            ];
          };
          covers = λ x l. elim (w.covers x l) [
            | inl old ↦ inl (Contains-later j facts x old)
            | inr new ↦ elim (rest x new) [ inl e ↦ inl (subst (Contains (j ∷ facts)) (sym e) (Contains-head j facts)) | inr h ↦ inr h ]
          ];
        },
      )

  step : (facts left : List ℕ) → ((j : ℕ) → Contains left j → Rival facts j → ⊥) ⊎ ((j : ℕ) × Contains left j × Rival facts j)
  step facts left = all_or_some (λ j. Rival facts j → ⊥) (Rival facts) (rival_cases facts) left

  grow : (fuel : ℕ) (facts left : List ℕ) → length left ≤ fuel → IsCut facts left → (all : List ℕ) × Grown all
  grow zero facts left few w = elim (step facts left) [
    | inl none ↦ finished facts left w none
    | inr (j, (k, l, e), r) ↦ absurd (omega arith)
  ]
  grow (suc fuel) facts left few w = elim (step facts left) [
    | inl none ↦ finished facts left w none
    | inr (j, m, r) ↦ (let (less, shorter, cut) = moved facts left w j m r in grow fuel (j ∷ facts) less (omega arith) cut)
  ]

  all_grown : (all : List ℕ) × Grown all
  all_grown =
      let w = with_property (λ j. Unit {0}) (λ j. inl tt) (length kb.facts) in
      grow (length w.0) (members_of causes) w.0 (omega arith) (record {
        grows = record { first = λ i m. m; inside = λ i m. let c = from_members causes i m in (c.0, i, zero, c.1, c.2, refl) };
        covers = λ j l. inr ((w.2 j).1 (l, tt));
      })

  -- a fact is in the components exactly where the list has it
  grown_exact : (all : List ℕ) → Grown all → (f : ℕ) → IsInComponents kb causes f → Contains all f
  grown_exact all w f (cause, i, n, c, k, linked) = along n f linked
    where
      along : (n f : ℕ) → IsLinkedIn kb n i f → Contains all f
      along zero f e = subst (Contains all) e (w.first i (to_members causes cause i c k))
      along (suc n) f (l, linked, conflict) = w.closed l f (along n l linked) conflict

  pub components_exist : (facts : List ℕ) × AreComponents kb causes facts
  components_exist = go all_grown
    where
      go : (all : List ℕ) × Grown all → (facts : List ℕ) × AreComponents kb causes facts
      go (all, w) =
          let s = with_property (Contains all) (λ i. member cases_eq i all) (length kb.facts) in
          (s.0, record { ascending = s.1; exact = λ i. ((λ m. w.inside i ((s.2 i).0 m).1), (λ c. (s.2 i).1 (in_components i c, grown_exact all w i c))) })

  pub bound_exists : (facts : List ℕ) × AreConflictFacts kb causes facts
  bound_exists = go components_exist
    where
      go : (all : List ℕ) × AreComponents kb causes all → (facts : List ℕ) × AreConflictFacts kb causes facts
      go (all, w) =
          let s = with_property (λ i. IsInConflict kb i × Contains all i) both (length kb.facts) in (
            s.0,
            record {
              ascending = s.1;
              exact = λ i. ((λ m. let x = ((s.2 i).0 m).1 in (x.0, (w.exact i).0 x.1)), (λ x. (s.2 i).1 (in_components i x.1, (x.0, (w.exact i).1 x.1))));
            },
          )
        where
          both : (i : ℕ) → (IsInConflict kb i × Contains all i) ⊎ (IsInConflict kb i × Contains all i → ⊥)
          both i = elim (in_conflict_or_not kb i) [
            | inr n ↦ inr (λ x. n x.0)
            | inl c ↦ elim (member cases_eq i all) [ inl m ↦ inl (c, m) | inr n ↦ inr (λ x. n x.1) ]
          ]
