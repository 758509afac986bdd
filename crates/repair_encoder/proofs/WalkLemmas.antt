-- The walk over a component: one fact seen, the facts of one step, one more step, and the end.
use Rattle.std.proofs.Common.{◌≡◌, ◌≢◌, ◌<◌, ◌≤◌, ◌+◌, ◌⊎◌, inl, inr, ◌↔◌, ℕ, suc, Bool, true, false, List, [], ◌∷◌, ◌++◌, length, take, set, get_or, refl}
use Rattle.std.proofs.Common.{sym, ap, ◌∙◌, subst, arith, Contains, All, length-append, append_assoc, get_or-set_other, get_or-set_same}
use Rattle.std.proofs.lemmas.Bool.{cases_eq, true≢false}
use Rattle.std.proofs.lemmas.List.{take_more, take_all, take-append-le, append-nil, length-set}
use Rattle.std.proofs.lemmas.List.Elements.{All-contains, All-push, All-weaker, Contains-get_or, Contains-append_left, Contains-append_right}
use Rattle.std.proofs.lemmas.List.Elements.{Contains-append_cases, Contains-push, Contains-push_cases}
use Rattle.std.proofs.lemmas.List.Quantifiers.{all_pairs_push}
use Rattle.cq_meaning.proofs.Ascending.{All-of}
use Rattle.cq_meaning.proofs.Members.{Contains-head, Contains-cases, Contains-nil}
use Rattle.cq_terms.specs.Conflicts.{ConflictGraph, AreInConflict}
use Rattle.priority_graph.proofs.CountLemmas.{distinct_length}
use Rattle.repair_clauses.specs.Components.{IsClosedUnder, IsReached, IsComponent}
use Rattle.repair_clauses.proofs.LawLemmas.{reached_inside}
use Rattle.repair_encoder.specs.Walks.{AreSeen, Visits}
use Rattle.cq_terms.specs.Lists.{IsSorted}

-- a fact that was seen before
pub seen_before : (seen : List Bool) (reached : List ℕ) (fact : ℕ) → AreSeen seen reached → fact < length seen → get_or seen fact false ≡ true
    → Visits reached reached (fact ∷ [])
seen_before seen reached fact h l t = record {
  more = [];
  grown = sym (append-nil reached);
  of = λ i m. absurd (Contains-nil i m);
  all = λ i m. elim (Contains-cases fact [] i m) [ inl e ↦ subst (Contains reached) e ((h.exact fact l).0 t) | inr n ↦ absurd (Contains-nil i n) ];
}

pub seen_now : (reached : List ℕ) (fact : ℕ) → Visits reached (reached ++ fact ∷ []) (fact ∷ [])
seen_now reached fact = record {
  more = fact ∷ [];
  grown = refl;
  of = λ i m. m;
  all = λ i m. Contains-append_right reached (fact ∷ []) i m;
}

-- a fact that is seen for the first time
pub seen_more : (seen marked : List Bool) (reached : List ℕ) (fact : ℕ) → AreSeen seen reached → fact < length seen → get_or seen fact false ≡ false
    → marked ≡ set seen fact true → AreSeen marked (reached ++ fact ∷ [])
seen_more seen marked reached fact h l f is = record {
  exact = λ i m. by i (subst (λ (n : ℕ). i < n) long m) (cases_eq i fact);
  known = All-push (λ i. i < length marked) reached fact (All-weaker (λ i. i < length seen) (λ i. i < length marked)
      (λ i m. subst (λ (n : ℕ). i < n) (sym long) m) reached h.known) (subst (λ (n : ℕ). fact < n) (sym long) l);
  once = all_pairs_push (λ i j. i ≢ j) reached fact h.once (λ k d m e. new (subst (Contains reached) e (Contains-get_or reached k d m)));
}
  where
    long : length marked ≡ length seen
    long = ap (λ (xs : List Bool). length xs) is ∙ length-set seen fact true

    new : Contains reached fact → ⊥
    new m = true≢false (sym ((h.exact fact l).1 m) ∙ f)

    by : (i : ℕ) → i < length seen → (i ≡ fact) ⊎ (i ≡ fact → ⊥) → (get_or marked i false ≡ true) ↔ Contains (reached ++ fact ∷ []) i
    by i m (inl e) = (
      (λ t. subst (Contains (reached ++ fact ∷ [])) (sym e) (Contains-push reached fact)),
      (λ c. ap (λ (n : ℕ). get_or marked n false) e ∙ ap (λ (xs : List Bool). get_or xs fact false) is ∙ get_or-set_same seen fact true false l),
    )
    by i m (inr n) =
        let same : get_or marked i false ≡ get_or seen i false = ap (λ (xs : List Bool). get_or xs i false) is ∙ get_or-set_other seen fact i true false n in (
          (λ t. Contains-append_left reached (fact ∷ []) i ((h.exact i m).0 (sym same ∙ t))),
          (λ c. elim (Contains-push_cases reached fact i c) [ inl k ↦ same ∙ (h.exact i m).1 k | inr e ↦ absurd (n (sym e)) ]),
        )

-- nothing seen
pub seen_none : (seen : List Bool) → ((i : ℕ) → i < length seen → get_or seen i false ≡ false) → AreSeen seen []
seen_none seen h = record {
  exact = λ i l. ((λ t. absurd (true≢false (sym t ∙ h i l))), (λ m. absurd (Contains-nil i m)));
  known = λ k d l. absurd (omega arith);
  once = λ i j d l m. absurd (omega arith);
}

pub visits_none : (reached : List ℕ) → Visits reached reached []
visits_none reached = record { more = []; grown = sym (append-nil reached); of = λ i m. m; all = λ i m. absurd (Contains-nil i m) }

-- the facts so far and one more
pub visits_more : (facts : List ℕ) (k : ℕ) (old some new : List ℕ) → k < length facts → Visits old some (take k facts)
    → Visits some new (get_or facts k 0 ∷ []) → Visits old new (take (k + 1) facts)
visits_more facts k old some new l h one = record {
  more = h.more ++ one.more;
  grown = one.grown ∙ ap (λ (xs : List ℕ). xs ++ one.more) h.grown ∙ append_assoc old h.more one.more;
  of = λ i m. elim (Contains-append_cases h.more one.more i m) [ inl n ↦ left i (h.of i n) | inr n ↦ right i (one.of i n) ];
  all = λ i m. elim (Contains-push_cases (take k facts) fact i (subst (λ (xs : List ℕ). Contains xs i) next m)) [
    | inl n ↦ subst (λ (xs : List ℕ). Contains xs i) (sym one.grown) (Contains-append_left some one.more i (h.all i n))
    | inr e ↦ subst (Contains new) e (one.all fact (Contains-head fact []))
  ];
}
  where
    fact : ℕ
    fact = get_or facts k 0

    next : take (k + 1) facts ≡ take k facts ++ fact ∷ []
    next = take_more facts k 0 l

    left : (i : ℕ) → Contains (take k facts) i → Contains (take (k + 1) facts) i
    left i m = subst (λ (xs : List ℕ). Contains xs i) (sym next) (Contains-append_left (take k facts) (fact ∷ []) i m)

    right : (i : ℕ) → Contains (fact ∷ []) i → Contains (take (k + 1) facts) i
    right i m = subst (λ (xs : List ℕ). Contains xs i) (sym next) (Contains-append_right (take k facts) (fact ∷ []) i m)

pub visits_all : (facts : List ℕ) (k : ℕ) (old new : List ℕ) → length facts ≤ k → Visits old new (take k facts) → Visits old new facts
visits_all facts k old new l h = rw (take_all k facts l) at h

-- the walk has reached facts of the component, and what conflicts with those before the next one
pub record IsWalked (g : ConflictGraph) (start next : ℕ) (seen : List Bool) (reached : List ℕ) : Type 0 where
  pub marks : AreSeen seen reached
  pub all : length seen ≡ g.facts
  pub begun : Contains reached start
  pub linked : (i : ℕ) → Contains reached i → IsReached g start i
  pub done : (i : ℕ) → Contains (take next reached) i → (j : ℕ) → AreInConflict g.clashes i j → Contains reached j
  pub within : next ≤ length reached

pub walked_begun : (g : ConflictGraph) (start : ℕ) (seen : List Bool) (reached : List ℕ) → AreSeen seen reached → length seen ≡ g.facts
    → Visits [] reached (start ∷ []) → IsWalked g start 0 seen reached
walked_begun g start seen reached marks all h = record {
  marks = marks;
  all = all;
  begun = h.all start (Contains-head start []);
  linked = λ i m. elim (Contains-cases start [] i (h.of i (subst (λ (xs : List ℕ). Contains xs i) h.grown m)))
      [ inl e ↦ (0, e) | inr n ↦ absurd (Contains-nil i n) ];
  done = λ i m. absurd (Contains-nil i m);
  within = omega arith;
}

pub walked_more : (g : ConflictGraph) (start next : ℕ) (seen marked : List Bool) (reached new rivals : List ℕ) → IsWalked g start next seen reached
    → next < length reached
    → ((j : ℕ) → Contains rivals j ↔ AreInConflict g.clashes (get_or reached next 0) j) → AreSeen marked new → length marked ≡ length seen
    → Visits reached new rivals → IsWalked g start (next + 1) marked new
walked_more g start next seen marked reached new rivals w l against marks all h = record {
  marks = marks;
  all = all ∙ w.all;
  begun = wider start w.begun;
  linked = λ i m. elim (Contains-append_cases reached h.more i (subst (λ (xs : List ℕ). Contains xs i) h.grown m)) [
    | inl n ↦ w.linked i n
    | inr n ↦ let r = w.linked fact (Contains-get_or reached next 0 l) in (suc r.0, (fact, r.1, (against i).0 (h.of i n)))
  ];
  done = λ i m j c. elim (Contains-push_cases (take next reached) fact i (subst (λ (xs : List ℕ). Contains xs i) first m)) [
    | inl n ↦ wider j (w.done i n j c)
    | inr e ↦ h.all j ((against j).1 (subst (λ (k : ℕ). AreInConflict g.clashes k j) (sym e) c))
  ];
  within = omega (arith, ap (λ (xs : List ℕ). length xs) h.grown, length-append reached h.more);
}
  where
    fact : ℕ
    fact = get_or reached next 0

    wider : (i : ℕ) → Contains reached i → Contains new i
    wider i m = subst (λ (xs : List ℕ). Contains xs i) (sym h.grown) (Contains-append_left reached h.more i m)

    first : take (next + 1) new ≡ take next reached ++ fact ∷ []
    first = ap (λ (xs : List ℕ). take (next + 1) xs) h.grown ∙ take-append-le (next + 1) reached h.more (omega arith) ∙ take_more reached next 0 l

-- no more facts are reached than there are
pub walked_few : (g : ConflictGraph) (start next : ℕ) (seen : List Bool) (reached : List ℕ) → IsWalked g start next seen reached → length reached ≤ g.facts
walked_few g start next seen reached w = omega (arith, distinct_length (length seen) reached w.marks.once w.marks.known, w.all)

-- what a walk that has come to its end has reached is closed under conflict
pub walked_closed : (g : ConflictGraph) (start next : ℕ) (seen : List Bool) (reached : List ℕ) → IsWalked g start next seen reached → length reached ≤ next
    → IsClosedUnder (AreInConflict g.clashes) (Contains reached)
walked_closed g start next seen reached w l i j m c = w.done i (subst (λ (xs : List ℕ). Contains xs i) (sym (take_all next reached l)) m) j c

-- in ascending order it is the component
module _ (g : ConflictGraph) (start next : ℕ) (seen : List Bool) (reached : List ℕ) (w : IsWalked g start next seen reached) (l : length reached ≤ next)
    (facts : List ℕ) (h : IsSorted reached facts) where
  pub walked_component : IsComponent g start facts
  walked_component = record {
    ascending = h.ascending;
    exact = λ j. (
      (λ m. w.linked j ((h.same j).0 m)),
      (λ (n, r). (h.same j).1 (reached_inside g start (Contains reached) (walked_closed g start next seen reached w l) w.begun n j r)),
    );
  }

  pub component_closed : IsClosedUnder (AreInConflict g.clashes) (Contains facts)
  component_closed i j m c = (h.same j).1 (walked_closed g start next seen reached w l i j ((h.same i).0 m) c)

  pub component_known : All (λ f. f < g.facts) facts
  component_known = All-of (λ f. f < g.facts) facts (λ f m. subst (λ (n : ℕ). f < n) w.all
      (All-contains (λ i. i < length seen) reached f w.marks.known ((h.same f).0 m)))
