-- Facts that share one clause, and that no base clause is built twice.
use Rattle.std.proofs.Common.{suc, ◌≡◌, ◌≢◌, ◌<◌, ◌≤◌, ◌+◌, ◌⊎◌, inl, inr, ◌↔◌, ℕ, List, [], ◌∷◌, ◌++◌, length, take, get_or, ltb, refl, sym, ap, ◌∙◌, subst}
use Rattle.std.proofs.Common.{arith, Contains, append_assoc}
use Rattle.std.specs.List.{AllPairs, filter}
use Rattle.std.proofs.lemmas.Bool.{cases_lt}
use Rattle.std.proofs.lemmas.List.{append-nil, get_or-take, get_or_default, length-take-le, length-map}
use Rattle.std.proofs.lemmas.List.Elements.{Contains-push_cases, Contains-get_or}
use Rattle.std.proofs.lemmas.List.Quantifiers.{all_pairs_push}
use Rattle.std.proofs.lemmas.List.Kept.{AllPairs-filter}
use Rattle.cq_meaning.proofs.Members.{Contains-head, Contains-later}
use Rattle.cq_terms.specs.Conflicts.{ConflictGraph, AreInConflict, AreClashes}
use Rattle.cq_terms.specs.Lists.{IsAscending}
use Rattle.priority_graph.specs.Priority.{Priority, IsOver, Conflict, AreBlockers}
use Rattle.repair_clauses.specs.BaseClauses.{present, absent, conflict_clause, IsBlockingClause, IsFactClause}
use Rattle.repair_encoder.specs.Forms.{conflict_clauses}
use Rattle.repair_clauses.specs.Components.{IsClosedUnder}
use Rattle.repair_encoder.specs.Twins.{SpeaksOf, AreTwins, HasLesserTwin, PushesFact}
use Rattle.repair_clauses.proofs.ListLemmas.{get_or-map_in, one_of, one_of_two}
use Rattle.repair_encoder.proofs.ListLemmas.{rising}
use Rattle.priority_graph.proofs.DirectLemmas.{conflict_over}
use Rattle.repair_encoder.proofs.BaseLemmas.{IsBuilt, conflict_clauses_to, built_more, pushed_clause}

-- ---- lists

all_pairs_append : {X : Type 0} (R : X → X → Type 0) (xs ys : List X) → AllPairs R xs → AllPairs R ys → ((x y : X) → Contains xs x → Contains ys y → R x y)
    → AllPairs R (xs ++ ys)
all_pairs_append R xs [] a b cross = subst (AllPairs R) (sym (append-nil xs)) a
all_pairs_append {X} R xs (y ∷ ys) a b cross =
    subst (AllPairs R) (append_assoc xs (y ∷ []) ys)
    (all_pairs_append R (xs ++ y ∷ []) ys (all_pairs_push R xs y a (λ k d l. cross (get_or xs k d) y (Contains-get_or xs k d l) (Contains-head y ys)))
    (λ i j d less l. b (suc i) (suc j) d (omega arith) (omega arith)) later)
  where
    first : (z : X) → Contains ys z → R y z
    first z (k, l, e) = subst (R y) e (b 0 (suc k) z (omega arith) (omega arith))

    later : (x z : X) → Contains (xs ++ y ∷ []) x → Contains ys z → R x z
    later x z m n = elim (Contains-push_cases xs y x m) [ inl k ↦ cross x z k (Contains-later y ys z n) | inr e ↦ subst (λ u. R u z) e (first z n) ]

-- a lesser number of an ascending list stands before
pub earlier_in : (facts : List ℕ) (k e : ℕ) → IsAscending facts → k < length facts → Contains facts e → e < get_or facts k 0 → Contains (take k facts) e
earlier_in facts k e up l (i, m, is) less = elim (cases_lt i k) [
  | inl b ↦ let short = length-take-le k facts (omega arith) in (i, omega arith, get_or-take k facts i e b ∙ is)
  | inr n ↦ let high = rising facts up k i n m in let here = get_or_default facts i 0 e m in absurd (omega (arith, high, here, is, less))
]

earlier_less : (facts : List ℕ) (k e : ℕ) → IsAscending facts → k < length facts → Contains (take k facts) e → e < get_or facts k 0
earlier_less facts k e up l (i, m, is) =
    let short = length-take-le k facts (omega arith) in
    let same : get_or facts i 0 ≡ e = get_or_default facts i 0 e (omega arith) ∙ sym (get_or-take k facts i e (omega arith)) ∙ is in
    let less = up i k 0 (omega arith) l in
    omega arith

-- ---- clauses that are the same

first_same : (a b c d : ℕ) → conflict_clause a b ≡ conflict_clause c d → a ≡ c
first_same a b c d e = let same : absent a ≡ absent c = cc in omega arith

second_same : (a b c d : ℕ) → conflict_clause a b ≡ conflict_clause c d → b ≡ d
second_same a b c d e = let same : absent b ≡ absent d = cc in omega arith

fact_no_conflict : (p : Priority) (f a b : ℕ) (c : List ℕ) → IsFactClause p f c → c ≡ conflict_clause a b → ⊥
fact_no_conflict p f a b c (inl (o, e)) is = let long = ap (λ (xs : List ℕ). length xs) (sym e ∙ is) in omega arith
fact_no_conflict p f a b c (inr (n, w)) is =
    elim (one_of_two (absent a) (absent b) (present f) (subst (λ (xs : List ℕ). Contains xs (present f)) is ((w.exact (present f)).1 (f, inl refl, refl))))
    [ inl e ↦ omega arith | inr e ↦ omega arith ]

twin_half : (p : Priority) (f e : ℕ) (c : List ℕ) → IsBlockingClause p f c → IsBlockingClause p e c → (j : ℕ) → SpeaksOf p f j → SpeaksOf p e j
twin_half p f e c w u j s =
    let k = (u.exact (present j)).0 ((w.exact (present j)).1 (j, s, refl)) in
    let same : k.0 ≡ j = omega (arith, k.2) in
    subst (SpeaksOf p e) same k.1

same_clause : (p : Priority) (f e : ℕ) (c : List ℕ) → IsFactClause p f c → IsFactClause p e c → e < f → HasLesserTwin p f
same_clause p f e c (inl (o, is)) (inl (q, be)) less =
    let same : absent f ≡ absent e = one_of (absent e) (absent f)
    (subst (λ (xs : List ℕ). Contains xs (absent f)) (sym is ∙ be) (Contains-head (absent f) [])) in absurd (omega arith)
same_clause p f e c (inl (o, is)) (inr (n, w)) less =
    let same : present e ≡ absent f = one_of (absent f) (present e)
    (subst (λ (xs : List ℕ). Contains xs (present e)) is ((w.exact (present e)).1 (e, inl refl, refl))) in absurd (omega arith)
same_clause p f e c (inr (n, w)) (inl (o, is)) less =
    let same : present f ≡ absent e = one_of (absent e) (present f)
    (subst (λ (xs : List ℕ). Contains xs (present f)) is ((w.exact (present f)).1 (f, inl refl, refl))) in absurd (omega arith)
same_clause p f e c (inr (n, w)) (inr (m, u)) less = (e, less, λ j. (twin_half p f e c w u j, twin_half p e f c u w j))

-- a twin is in conflict with the fact
twin_conflict : (p : Priority) (f e : ℕ) → e < f → AreTwins p f e → Conflict p f e
twin_conflict p f e less twins = elim ((twins e).1 (inl refl)) [ inl is ↦ absurd (omega arith) | inr b ↦ b.0 ]

twin_clause : (p : Priority) (g : ConflictGraph) (f e : ℕ) (c : List ℕ) → IsOver p g → AreClashes g.facts g.clashes → e < f → AreTwins p f e
    → IsFactClause p f c → IsFactClause p e c
twin_clause p g f e c over kept less twins h = go h
  where
    against : AreInConflict g.clashes f e
    against = conflict_over p g f e over (twin_conflict p f e less twins)

    back : AreInConflict g.clashes e f
    back = elim against [ inl m ↦ inr m | inr m ↦ inl m ]

    never : (i j : ℕ) → AreInConflict g.clashes i j → ¬ Contains p.own i
    never i j c o = kept.apart i j (subst (λ (l : List ℕ). Contains l i) over.own o) c

    go : IsFactClause p f c → IsFactClause p e c
    go (inl (o, is)) = absurd (never f e against o)
    go (inr (n, w)) = inr (
      never e f back,
      record {
        ascending = w.ascending;
        exact = λ l. (
          (λ m. let k = (w.exact l).0 m in (k.0, (twins k.0).0 k.1, k.2)),
          (λ (j, s, is). (w.exact l).1 (j, (twins j).1 s, is)),
        );
      },
    )

-- ---- the walk

module _ (p : Priority) (g : ConflictGraph) (over : IsOver p g) (kept : AreClashes g.facts g.clashes) (facts : List ℕ) (up : IsAscending facts)
    (closed : IsClosedUnder (AreInConflict g.clashes) (Contains facts))
    (k : ℕ) (l : k < length facts) (old new : List (List ℕ)) (rivals : List ℕ) (h : (c : List ℕ) → Contains old c ↔ IsBuilt p g (Contains (take k facts)) c)
    (against : (j : ℕ) → Contains rivals j ↔ AreInConflict g.clashes (get_or facts k 0) j) where
  abbrev pub here : ℕ
  here = get_or facts k 0

  -- what is built with one more fact, whose clause a lesser one may share
  pub pushed_more : PushesFact p here old new → (c : List ℕ) → Contains (new ++ conflict_clauses here rivals) c ↔ IsBuilt p g (Contains (take (k + 1) facts)) c
  pushed_more pushed = built_more p g facts k old new rivals l h (alone pushed) against
    where
      alone : PushesFact p here old new → (c : List ℕ) → Contains new c ↔ (Contains old c ⊎ IsFactClause p here c)
      alone (inr (none, (clause, says, is))) c = rw is (pushed_clause p here old clause says c)
      alone (inl ((e, less, twins), is)) c = rw is (
        (λ m. inl m),
        elim [
          | inl m ↦ m
          | inr w ↦
              (h c).1 (inl (e, before, twin_clause p g here e c over kept less twins w))
        ],
      )
        where
          before : Contains (take k facts) e
          before = earlier_in facts k e up l (closed here e (Contains-get_or facts k 0 l) (conflict_over p g here e over (twin_conflict p here e less twins)))
              less

  -- each clause is built once
  pub pushed_once : IsAscending rivals → AllPairs (λ c d. c ≢ d) old → PushesFact p here old new → AllPairs (λ c d. c ≢ d) (new ++ conflict_clauses here rivals)
  pushed_once rivals_up once pushed = all_pairs_append (λ c d. c ≢ d) new (conflict_clauses here rivals) (first pushed) own_once (cross pushed)
    where
      first : PushesFact p here old new → AllPairs (λ c d. c ≢ d) new
      first (inl (t, is)) = rw is once
      first (inr (none, (clause, alone, is))) = rw is (all_pairs_push (λ c d. c ≢ d) old clause once
          (λ i d m e. fresh (subst (Contains old) e (Contains-get_or old i d m))))
        where
          fresh : Contains old clause → ⊥
          fresh m = go ((h clause).0 m)
            where
              go : IsBuilt p g (Contains (take k facts)) clause → ⊥
              go (inl (f, n, w)) = none (same_clause p here f clause alone w (earlier_less facts k f up l n))
              go (inr (a, n, (b, less, w, be))) = fact_no_conflict p here a b clause alone be

      own_once : AllPairs (λ c d. c ≢ d) (conflict_clauses here rivals)
      own_once i j d less m same =
          let long = length-map (filter (ltb here) rivals) (conflict_clause here) in
          let a = get_or-map_in (conflict_clause here) (filter (ltb here) rivals) i d 0 (omega arith) in
          let b = get_or-map_in (conflict_clause here) (filter (ltb here) rivals) j d 0 (omega arith) in
          let rises = AllPairs-filter (λ i j. i < j) (ltb here) rivals rivals_up i j 0 less (omega arith) in
          let is = second_same here _ here _ (sym a ∙ same ∙ b) in
          omega arith

      no_old : (x y : List ℕ) → Contains old x → Contains (conflict_clauses here rivals) y → x ≢ y
      no_old x y m n e = go ((h x).0 m) (conflict_clauses_to here rivals y n)
        where
          go : IsBuilt p g (Contains (take k facts)) x → ((b : ℕ) × (here < b) × Contains rivals b × (y ≡ conflict_clause here b)) → ⊥
          go (inl (f, q, w)) r = fact_no_conflict p f here r.0 x w (e ∙ r.3)
          go (inr (a, q, s)) r = let same = first_same a s.0 here r.0 (sym s.3 ∙ e ∙ r.3) in let less = earlier_less facts k a up l q in omega arith

      cross : PushesFact p here old new → (x y : List ℕ) → Contains new x → Contains (conflict_clauses here rivals) y → x ≢ y
      cross (inl (t, is)) x y m n e = no_old x y (subst (λ (xs : List (List ℕ)). Contains xs x) is m) n e
      cross (inr (none, (clause, alone, is))) x y m n e = elim (Contains-push_cases old clause x (subst (λ (xs : List (List ℕ)). Contains xs x) is m)) [
        | inl q ↦ no_old x y q n e
        | inr be ↦ let w = conflict_clauses_to here rivals y n in fact_no_conflict p here here w.0 clause alone (be ∙ e ∙ w.3)
      ]

-- ---- the tests

pub speaks : (p : Priority) (fact j : ℕ) (blockers : List ℕ) → AreBlockers p fact blockers → ((j ≡ fact) ⊎ Contains blockers j) ↔ SpeaksOf p fact j
speaks p fact j blockers b = (
  elim [ inl e ↦ inl e | inr m ↦ inr ((b.exact j).0 m) ],
  elim [ inl e ↦ inl e | inr w ↦ inr ((b.exact j).1 w) ],
)

-- each blocker of the other fact is spoken of
pub speaks_of_each : (p : Priority) (fact other k : ℕ) (blockers : List ℕ) → AreBlockers p other blockers → length blockers ≤ k → SpeaksOf p fact other
    → ((i : ℕ) → i < k → SpeaksOf p fact (get_or blockers i 0))
    → (f : ℕ) → SpeaksOf p other f → SpeaksOf p fact f
speaks_of_each p fact other k blockers b l own each f (inl e) = subst (SpeaksOf p fact) (sym e) own
speaks_of_each p fact other k blockers b l own each f (inr w) =
    let m = (b.exact f).1 w in
    subst (SpeaksOf p fact) (get_or_default blockers m.0 0 f m.1 ∙ m.2) (each m.0 (omega (arith, m.1)))

-- no lesser blocker is a twin
pub no_lesser_twin : (p : Priority) (fact k : ℕ) (blockers : List ℕ) → AreBlockers p fact blockers → length blockers ≤ k
    → ((i : ℕ) → i < k → get_or blockers i 0 < fact → ¬ AreTwins p fact (get_or blockers i 0)) → ¬ HasLesserTwin p fact
no_lesser_twin p fact k blockers b l none (e, less, twins) = elim ((twins e).1 (inl refl)) [
  | inl is ↦ absurd (omega arith)
  | inr w ↦
      let m = (b.exact e).1 w in
      let same : get_or blockers m.0 0 ≡ e = get_or_default blockers m.0 0 e m.1 ∙ m.2 in
      none m.0 (omega (arith, m.1)) (omega (arith, same, less)) (subst (AreTwins p fact) (sym same) twins)
]
