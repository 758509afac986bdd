-- The walk over facts in conflicts: one fact seen, the facts of one step, one more step, and the end.
use Rattle.std.proofs.Common.{◌≡◌, ◌≢◌, ◌<◌, ◌≤◌, ◌+◌, ◌⊎◌, inl, inr, ◌↔◌, ℕ, zero, suc, Bool, true, false, List, [], ◌∷◌, ◌++◌, length, take, set, get_or}
use Rattle.std.proofs.Common.{refl, sym, ap, ◌∙◌, subst, arith, Contains, length-append, append_assoc, get_or-set_other, get_or-set_same}
use Rattle.std.proofs.lemmas.Bool.{cases_eq, cases_lt, true≢false}
use Rattle.std.proofs.lemmas.List.{take_more, take_all, take-append-le, append-nil, length-set}
use Rattle.std.proofs.lemmas.List.Elements.{All-push, All-weaker, Contains-get_or, Contains-append_left, Contains-append_right}
use Rattle.std.proofs.lemmas.List.Elements.{Contains-append_cases, Contains-push, Contains-push_cases}
use Rattle.std.proofs.lemmas.List.Quantifiers.{all_pairs_push}
use Rattle.cq_terms.specs.declared.hits.Clash.{Clash}
use Rattle.cq_terms.specs.Conflicts.{ConflictGraph, AreInConflict}
use Rattle.cq_terms.specs.Knowledge.{Knowledge}
use Rattle.cq_terms.specs.Lists.{IsSorted}
use Rattle.cq_meaning.specs.Conflicts.{Conflict}
use Rattle.cq_meaning.specs.ConflictGraphs.{AreConflictsOf}
use Rattle.cq_meaning.proofs.ByLists.{Conflict-within}
use Rattle.cq_meaning.proofs.Extension.{Conflict-sym}
use Rattle.cq_meaning.proofs.Members.{Contains-head, Contains-cases, Contains-nil}
use Rattle.priority_graph.proofs.CountLemmas.{distinct_length}
use Rattle.report_rules.specs.ConflictLists.{IsLinkedIn, IsInComponents, IsInConflict, AreConflictFacts}
use Rattle.plain_finding.specs.Walks.{AreSeen, HasRival, Visits}

-- the facts in conflict are those of the knowledge base
pub graph_conflict : (kb : Knowledge) (g : ConflictGraph) → AreConflictsOf kb g → (i j : ℕ) → AreInConflict g.clashes i j ↔ Conflict kb i j
graph_conflict kb g of i j = (to, λ w. from w (cases_lt i j))
  where
    to : AreInConflict g.clashes i j → Conflict kb i j
    to (inl c) = ((of.exact.pairs_exact i j).0 c).1
    to (inr c) = Conflict-sym kb j i ((of.exact.pairs_exact j i).0 c).1

    from : Conflict kb i j → (i < j) ⊎ (j ≤ i) → AreInConflict g.clashes i j
    from w (inl l) = inl ((of.exact.pairs_exact i j).1 (l, w))
    from w (inr l) = let d = w.different in inr ((of.exact.pairs_exact j i).1 (omega arith, Conflict-sym kb i j w))

-- a fact that isn't to be reached, or was reached before
pub seen_not : (clashes : List Clash) (bound : ℕ) (reached : List ℕ) (fact : ℕ) → (fact < bound → HasRival clashes fact → Contains reached fact)
    → Visits clashes bound reached reached (fact ∷ [])
seen_not clashes bound reached fact h = record {
  more = [];
  grown = sym (append-nil reached);
  of = λ i m. absurd (Contains-nil i m);
  all = λ i m l r. elim (Contains-cases fact [] i m) [
    | inl e ↦ subst (Contains reached) e (h (subst (λ (n : ℕ). n < bound) (sym e) l) (subst (HasRival clashes) (sym e) r))
    | inr n ↦ absurd (Contains-nil i n)
  ];
}

pub seen_now : (clashes : List Clash) (bound : ℕ) (reached : List ℕ) (fact : ℕ) → HasRival clashes fact
    → Visits clashes bound reached (reached ++ fact ∷ []) (fact ∷ [])
seen_now clashes bound reached fact r = record {
  more = fact ∷ [];
  grown = refl;
  of = λ i m. (m, elim (Contains-cases fact [] i m) [ inl e ↦ subst (HasRival clashes) e r | inr n ↦ absurd (Contains-nil i n) ]);
  all = λ i m l s. Contains-append_right reached (fact ∷ []) i m;
}

-- a fact that is seen for the first time
pub seen_more : (seen marked : List Bool) (reached : List ℕ) (fact : ℕ) → AreSeen seen reached → fact < length seen → get_or seen fact false ≡ false
    → marked ≡ set seen fact true → AreSeen marked (reached ++ fact ∷ [])
seen_more seen marked reached fact h l f is = record {
  exact = λ i m. by i (subst (λ (n : ℕ). i < n) long m) (cases_eq i fact);
  known = All-push (λ i. i < length marked) reached fact (All-weaker (λ i. i < length seen) (λ i. i < length marked)
      (λ i m. subst (λ (n : ℕ). i < n) (sym long) m) reached h.known) (subst (λ (n : ℕ). fact < n) (sym long) l);
  once = all_pairs_push (λ i j. i ≢ j) reached fact h.once (λ k d m e. new (subst (Contains reached) e (Contains-get_or reached k d m)));
}
  where
    long : length marked ≡ length seen
    long = ap (λ (xs : List Bool). length xs) is ∙ length-set seen fact true

    new : Contains reached fact → ⊥
    new m = true≢false (sym ((h.exact fact l).1 m) ∙ f)

    by : (i : ℕ) → i < length seen → (i ≡ fact) ⊎ (i ≡ fact → ⊥) → (get_or marked i false ≡ true) ↔ Contains (reached ++ fact ∷ []) i
    by i m (inl e) = (
      (λ t. subst (Contains (reached ++ fact ∷ [])) (sym e) (Contains-push reached fact)),
      (λ c. ap (λ (n : ℕ). get_or marked n false) e ∙ ap (λ (xs : List Bool). get_or xs fact false) is ∙ get_or-set_same seen fact true false l),
    )
    by i m (inr n) =
        let same : get_or marked i false ≡ get_or seen i false = ap (λ (xs : List Bool). get_or xs i false) is ∙ get_or-set_other seen fact i true false n in (
          (λ t. Contains-append_left reached (fact ∷ []) i ((h.exact i m).0 (sym same ∙ t))),
          (λ c. elim (Contains-push_cases reached fact i c) [ inl k ↦ same ∙ (h.exact i m).1 k | inr e ↦ absurd (n (sym e)) ]),
        )

-- nothing seen
pub seen_none : (seen : List Bool) → ((i : ℕ) → i < length seen → get_or seen i false ≡ false) → AreSeen seen []
seen_none seen h = record {
  exact = λ i l. ((λ t. absurd (true≢false (sym t ∙ h i l))), (λ m. absurd (Contains-nil i m)));
  known = λ k d l. absurd (omega arith);
  once = λ i j d l m. absurd (omega arith);
}

module _ (clashes : List Clash) (bound : ℕ) where
  pub visits_none : (reached : List ℕ) → Visits clashes bound reached reached []
  visits_none reached = record { more = []; grown = sym (append-nil reached); of = λ i m. absurd (Contains-nil i m); all = λ i m. absurd (Contains-nil i m) }

  -- the facts so far and one more
  pub visits_more : (facts : List ℕ) (k : ℕ) (old some new : List ℕ) → k < length facts → Visits clashes bound old some (take k facts)
      → Visits clashes bound some new (get_or facts k 0 ∷ []) → Visits clashes bound old new (take (k + 1) facts)
  visits_more facts k old some new l h one = record {
    more = h.more ++ one.more;
    grown = one.grown ∙ ap (λ (xs : List ℕ). xs ++ one.more) h.grown ∙ append_assoc old h.more one.more;
    of = λ i m. elim (Contains-append_cases h.more one.more i m) [
      | inl n ↦ let w = h.of i n in (left i w.0, w.1)
      | inr n ↦ let w = one.of i n in (right i w.0, w.1)
    ];
    all = λ i m b r. elim (Contains-push_cases (take k facts) fact i (subst (λ (xs : List ℕ). Contains xs i) next m)) [
      | inl n ↦ subst (λ (xs : List ℕ). Contains xs i) (sym one.grown) (Contains-append_left some one.more i (h.all i n b r))
      | inr e ↦ subst (Contains new) e (one.all fact (Contains-head fact []) (subst (λ (n : ℕ). n < bound) (sym e) b) (subst (HasRival clashes) (sym e) r))
    ];
  }
    where
      fact : ℕ
      fact = get_or facts k 0

      next : take (k + 1) facts ≡ take k facts ++ fact ∷ []
      next = take_more facts k 0 l

      left : (i : ℕ) → Contains (take k facts) i → Contains (take (k + 1) facts) i
      left i m = subst (λ (xs : List ℕ). Contains xs i) (sym next) (Contains-append_left (take k facts) (fact ∷ []) i m)

      right : (i : ℕ) → Contains (fact ∷ []) i → Contains (take (k + 1) facts) i
      right i m = subst (λ (xs : List ℕ). Contains xs i) (sym next) (Contains-append_right (take k facts) (fact ∷ []) i m)

  pub visits_all : (facts : List ℕ) (k : ℕ) (old new : List ℕ) → length facts ≤ k → Visits clashes bound old new (take k facts)
      → Visits clashes bound old new facts
  visits_all facts k old new l h = rw (take_all k facts l) at h

-- a chain of so many conflicts of the graph leads from the first fact to the second
abbrev pub IsChained : ConflictGraph → ℕ → ℕ → ℕ → Type 0
IsChained g zero i j = i ≡ j
IsChained g (suc n) i j = (l : ℕ) × IsChained g n i l × AreInConflict g.clashes l j

-- a chain leads to the fact from a fact of a cause
abbrev pub IsFromCauses : ConflictGraph → List (List ℕ) → ℕ → Type 0
IsFromCauses g causes f = (cause : List ℕ) × (i : ℕ) × (n : ℕ) × Contains causes cause × Contains cause i × IsChained g n i f

-- the walk has reached facts in conflicts of the components, among them those of the causes, and what conflicts with those before the next one
pub record IsWalked (g : ConflictGraph) (causes : List (List ℕ)) (next : ℕ) (seen : List Bool) (reached : List ℕ) : Type 0 where
  pub marks : AreSeen seen reached
  pub sized : length seen ≡ g.facts
  pub begun : (cause : List ℕ) (i : ℕ) → Contains causes cause → Contains cause i → i < g.facts → HasRival g.clashes i → Contains reached i
  pub linked : (i : ℕ) → Contains reached i → IsFromCauses g causes i × HasRival g.clashes i
  pub passed : (i : ℕ) → Contains (take next reached) i → (j : ℕ) → AreInConflict g.clashes i j → j < g.facts → Contains reached j
  pub within : next ≤ length reached

module _ (g : ConflictGraph) where
  pub walked_none : (seen : List Bool) (reached : List ℕ) → AreSeen seen reached → length seen ≡ g.facts → reached ≡ [] → IsWalked g [] 0 seen reached
  walked_none seen reached marks sized none = record {
    marks = marks;
    sized = sized;
    begun = λ cause i m. absurd (Contains-nil cause m);
    linked = λ i m. absurd (Contains-nil i (subst (λ (xs : List ℕ). Contains xs i) none m));
    passed = λ i m. absurd (Contains-nil i m);
    within = omega arith;
  }

  -- the facts of one more cause
  pub walked_cause : (causes : List (List ℕ)) (k : ℕ) (seen marked : List Bool) (reached new : List ℕ) → k < length causes
      → IsWalked g (take k causes) 0 seen reached → AreSeen marked new → length marked ≡ g.facts
      → Visits g.clashes g.facts reached new (get_or causes k []) → IsWalked g (take (k + 1) causes) 0 marked new
  walked_cause causes k seen marked reached new l w marks sized h = record {
    marks = marks;
    sized = sized;
    begun = λ c i m n b r. elim (Contains-push_cases (take k causes) cause c (subst (λ (xs : List (List ℕ)). Contains xs c) next m)) [
      | inl o ↦ wider i (w.begun c i o n b r)
      | inr e ↦ h.all i (subst (λ (xs : List ℕ). Contains xs i) (sym e) n) b r
    ];
    linked = λ i m. elim (Contains-append_cases reached h.more i (subst (λ (xs : List ℕ). Contains xs i) h.grown m)) [
      | inl n ↦ let v = w.linked i n in let f = v.0 in ((f.0, f.1, f.2, left f.0 f.3, f.4, f.5), v.1)
      | inr n ↦ let v = h.of i n in ((cause, i, 0, here, v.0, refl), v.1)
    ];
    passed = λ i m. absurd (Contains-nil i m);
    within = omega arith;
  }
    where
      cause : List ℕ
      cause = get_or causes k []

      next : take (k + 1) causes ≡ take k causes ++ cause ∷ []
      next = take_more causes k [] l

      left : (c : List ℕ) → Contains (take k causes) c → Contains (take (k + 1) causes) c
      left c m = subst (λ (xs : List (List ℕ)). Contains xs c) (sym next) (Contains-append_left (take k causes) (cause ∷ []) c m)

      here : Contains (take (k + 1) causes) cause
      here = subst (λ (xs : List (List ℕ)). Contains xs cause) (sym next) (Contains-push (take k causes) cause)

      wider : (i : ℕ) → Contains reached i → Contains new i
      wider i m = subst (λ (xs : List ℕ). Contains xs i) (sym h.grown) (Contains-append_left reached h.more i m)

  pub walked_causes : (causes : List (List ℕ)) (k : ℕ) (seen : List Bool) (reached : List ℕ) → length causes ≤ k
      → IsWalked g (take k causes) 0 seen reached → IsWalked g causes 0 seen reached
  walked_causes causes k seen reached l w = rw (take_all k causes l) at w

  -- the rivals of one more fact
  pub walked_more : (causes : List (List ℕ)) (next : ℕ) (seen marked : List Bool) (reached new rivals : List ℕ) → IsWalked g causes next seen reached
      → next < length reached → ((j : ℕ) → Contains rivals j ↔ AreInConflict g.clashes (get_or reached next 0) j)
      → AreSeen marked new → length marked ≡ g.facts → Visits g.clashes g.facts reached new rivals → IsWalked g causes (next + 1) marked new
  walked_more causes next seen marked reached new rivals w l against marks sized h = record {
    marks = marks;
    sized = sized;
    begun = λ c i m n b r. wider i (w.begun c i m n b r);
    linked = λ i m. elim (Contains-append_cases reached h.more i (subst (λ (xs : List ℕ). Contains xs i) h.grown m)) [
      | inl n ↦ w.linked i n
      | inr n ↦
          let v = h.of i n in
          let f = (w.linked fact (Contains-get_or reached next 0 l)).0 in
          ((f.0, f.1, suc f.2, f.3, f.4, (fact, f.5, (against i).0 v.0)), v.1)
    ];
    passed = λ i m j c b. elim (Contains-push_cases (take next reached) fact i (subst (λ (xs : List ℕ). Contains xs i) first m)) [
      | inl n ↦ wider j (w.passed i n j c b)
      | inr e ↦ (let c' = subst (λ (k : ℕ). AreInConflict g.clashes k j) (sym e) c in
          h.all j ((against j).1 c') b (fact, turned c'))
    ];
    within = omega (arith, ap (λ (xs : List ℕ). length xs) h.grown, length-append reached h.more);
  }
    where
      fact : ℕ
      fact = get_or reached next 0

      turned : {i j : ℕ} → AreInConflict g.clashes i j → AreInConflict g.clashes j i
      turned (inl c) = inr c
      turned (inr c) = inl c

      wider : (i : ℕ) → Contains reached i → Contains new i
      wider i m = subst (λ (xs : List ℕ). Contains xs i) (sym h.grown) (Contains-append_left reached h.more i m)

      first : take (next + 1) new ≡ take next reached ++ fact ∷ []
      first = ap (λ (xs : List ℕ). take (next + 1) xs) h.grown ∙ take-append-le (next + 1) reached h.more (omega arith) ∙ take_more reached next 0 l

  -- no more facts are reached than there are
  pub walked_few : (causes : List (List ℕ)) (next : ℕ) (seen : List Bool) (reached : List ℕ) → IsWalked g causes next seen reached → length reached ≤ g.facts
  walked_few causes next seen reached w = omega (arith, distinct_length (length seen) reached w.marks.once w.marks.known, w.sized)

-- in ascending order they are the facts in conflicts of the components
module _ (kb : Knowledge) (g : ConflictGraph) (of : AreConflictsOf kb g) (causes : List (List ℕ)) where
  linked_from : (n i j : ℕ) → IsChained g n i j → IsLinkedIn kb n i j
  linked_from zero i j e = e
  linked_from (suc n) i j (l, c, a) = (l, linked_from n i l c, (graph_conflict kb g of l j).0 a)

  in_table : (i j : ℕ) → Conflict kb i j → i < g.facts
  in_table i j c = subst (λ (n : ℕ). i < n) (sym of.facts) (Conflict-within kb i j c)

  pub walked_all : (next : ℕ) (seen : List Bool) (reached facts : List ℕ) → IsWalked g causes next seen reached → length reached ≤ next
      → IsSorted reached facts → AreConflictFacts kb causes facts
  walked_all next seen reached facts w l h = record {
    ascending = h.ascending;
    exact = λ i. ((λ m. to i ((h.same i).0 m)), (λ (c, (cause, s, n, m, k, link)). (h.same i).1 (from cause s m k n i c link)));
  }
    where
      to : (i : ℕ) → Contains reached i → IsInConflict kb i × IsInComponents kb causes i
      to i m = let v = w.linked i m in let f = v.0 in let r = v.1 in
          ((r.0, (graph_conflict kb g of i r.0).0 r.1), (f.0, f.1, f.2, f.3, f.4, linked_from f.2 f.1 i f.5))

      rival : (i : ℕ) → IsInConflict kb i → HasRival g.clashes i
      rival i (j, c) = (j, (graph_conflict kb g of i j).1 c)

      from : (cause : List ℕ) (s : ℕ) → Contains causes cause → Contains cause s → (n i : ℕ) → IsInConflict kb i → IsLinkedIn kb n s i → Contains reached i
      from cause s m k zero i (j, c) e = subst (Contains reached) e
          (w.begun cause s m k (subst (λ (x : ℕ). x < g.facts) (sym e) (in_table i j c)) (subst (HasRival g.clashes) (sym e) (rival i (j, c))))
      from cause s m k (suc n) i (j, c) (t, link, a) =
          w.passed t (subst (λ (xs : List ℕ). Contains xs t) (sym (take_all next reached l)) (from cause s m k n t (i, a) link)) i
          ((graph_conflict kb g of t i).1 a) (in_table i j c)

-- a fact with rivals has one, and one with none has none
pub rival_of : (clashes : List Clash) (fact : ℕ) (rivals : List ℕ) → ((j : ℕ) → Contains rivals j ↔ AreInConflict clashes fact j) → 0 < length rivals
    → HasRival clashes fact
rival_of clashes fact rivals are l = (get_or rivals 0 0, (are (get_or rivals 0 0)).0 (Contains-get_or rivals 0 0 l))

pub rival_none : (clashes : List Clash) (fact : ℕ) (rivals : List ℕ) → ((j : ℕ) → Contains rivals j ↔ AreInConflict clashes fact j) → length rivals ≡ 0
    → HasRival clashes fact → ⊥
rival_none clashes fact rivals are e (j, c) = let (k, l, is) = (are j).1 c in omega arith
