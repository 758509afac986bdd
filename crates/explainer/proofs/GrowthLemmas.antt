-- A core that grows: one more dropped fact, a list of them, and all that conflict with a kept fact.
use Rattle.std.proofs.Common.{◌≡◌, ◌<◌, ◌≤◌, ◌+◌, ◌⊎◌, inl, inr, ◌↔◌, ℕ, List, [], ◌∷◌, ◌++◌, length, take, get_or, sym, ap, ◌∙◌, subst, Contains, append_assoc}
use Rattle.std.proofs.lemmas.List.{take_more, take_all, append-nil}
use Rattle.std.proofs.lemmas.List.Elements.{Contains-append_left, Contains-append_cases, Contains-push, Contains-push_cases}
use Rattle.cq_terms.specs.Conflicts.{ConflictGraph, AreInConflict}
use Rattle.cq_meaning.proofs.Members.{Contains-nil}
use Rattle.priority_graph.specs.Priority.{Priority, Conflict, IsBetter, IsOver}
use Rattle.priority_graph.specs.Cores.{IsBlocked}
use Rattle.priority_graph.proofs.DirectLemmas.{Conflict-sym, conflict_of, conflict_over}
use Rattle.repair_clauses.specs.BaseClauses.{Blocks}
use Rattle.explainer.specs.declared.growth.Growing.{Growing}
use Rattle.explainer.specs.Growth.{IsSettled, AreSettled, Keeps, Drops}
use Rattle.explainer.specs.Sets.{Gains, Meets}

-- a list that has grown has what it had
pub wider : (old new more : List ℕ) → new ≡ old ++ more → (i : ℕ) → Contains old i → Contains new i
wider old new more grown i m = subst (λ (xs : List ℕ). Contains xs i) (sym grown) (Contains-append_left old more i m)

-- what may be dropped may be dropped where more is kept
pub settled_wider : (p : Priority) (old new more : List ℕ) → new ≡ old ++ more → (j : ℕ) → IsSettled p old j → IsSettled p new j
settled_wider p old new more grown j (inl own) = inl own
settled_wider p old new more grown j (inr (i, m, c, b)) = inr (i, wider old new more grown i m, c, b)

-- the first facts of a list and one more
pub start_more : (start : List ℕ) (k : ℕ) (old new : List ℕ) → k < length start → ((i : ℕ) → Contains old i ↔ Contains (take k start) i)
    → Gains (get_or start k 0) old new → (i : ℕ) → Contains new i ↔ Contains (take (k + 1) start) i
start_more start k old new l h gains i = (to, from)
  where
    fact : ℕ
    fact = get_or start k 0

    next : take (k + 1) start ≡ take k start ++ fact ∷ []
    next = take_more start k 0 l

    to : Contains new i → Contains (take (k + 1) start) i
    to m = subst (λ (xs : List ℕ). Contains xs i) (sym next) (elim
        (Contains-append_cases old gains.more i (subst (λ (xs : List ℕ). Contains xs i) gains.grown m)) [
          | inl n ↦ Contains-append_left (take k start) (fact ∷ []) i ((h i).0 n)
          | inr n ↦ subst (Contains (take k start ++ fact ∷ [])) (sym (gains.of i n)) (Contains-push (take k start) fact)
        ])

    from : Contains (take (k + 1) start) i → Contains new i
    from m = elim (Contains-push_cases (take k start) fact i (subst (λ (xs : List ℕ). Contains xs i) next m)) [
      | inl n ↦ wider old new gains.more gains.grown i ((h i).1 n)
      | inr e ↦ subst (Contains new) e gains.has
    ]

-- ---- what is kept for one fact

-- nothing, where it may be dropped already
pub keeps_none : (p : Priority) (present : List ℕ) (fact : ℕ) (kept : List ℕ) → IsSettled p kept fact → Keeps p present fact kept kept
keeps_none p present fact kept h = record { more = []; grown = sym (append-nil kept); of = λ i m. absurd (Contains-nil i m); settled = h }

-- a kept fact that blocks it
pub keeps_met : (p : Priority) (present : List ℕ) (fact : ℕ) (kept blockers : List ℕ)
    → ((j : ℕ) → Contains blockers j ↔ (Conflict p fact j × ¬ IsBetter p fact j)) → Meets blockers kept → Keeps p present fact kept kept
keeps_met p present fact kept blockers exact (i, b, m) = keeps_none p present fact kept (inr (i, m, ((exact i).0 b).0, ((exact i).0 b).1))

-- a present fact that blocks it
pub keeps_one : (p : Priority) (present : List ℕ) (fact blocker : ℕ) (old new blockers : List ℕ)
    → ((j : ℕ) → Contains blockers j ↔ (Conflict p fact j × ¬ IsBetter p fact j)) → Contains blockers blocker → Contains present blocker
    → Gains blocker old new → Keeps p present fact old new
keeps_one p present fact blocker old new blockers exact b m gains = record {
  more = gains.more;
  grown = gains.grown;
  of = λ i n. (subst (Contains present) (sym (gains.of i n)) m, subst (Blocks p fact) (sym (gains.of i n)) ((exact blocker).0 b));
  settled = inr (blocker, gains.has, ((exact blocker).0 b).0, ((exact blocker).0 b).1);
}

-- a fact that present ones block has a present blocker
pub meets_present : (p : Priority) (present : List ℕ) (fact : ℕ) (blockers : List ℕ)
    → ((j : ℕ) → Contains blockers j ↔ (Conflict p fact j × ¬ IsBetter p fact j)) → IsBlocked p (Contains present) fact → Meets blockers present
meets_present p present fact blockers exact (i, m, c, b) = (i, (exact i).1 (c, b), m)

-- ---- one more dropped fact

pub settled_more : (p : Priority) (present : List ℕ) (fact : ℕ) (old new : Growing) → Keeps p present fact old.kept new.kept
    → Gains fact old.dropped new.dropped → AreSettled p old → AreSettled p new
settled_more p present fact old new keeps gains h j m = elim (Contains-append_cases old.dropped gains.more j
    (subst (λ (xs : List ℕ). Contains xs j) gains.grown m)) [
      | inl n ↦ settled_wider p old.kept new.kept keeps.more keeps.grown j (h j n)
      | inr n ↦ subst (IsSettled p new.kept) (sym (gains.of j n)) keeps.settled
    ]

pub drops_one : (p : Priority) (present : List ℕ) (fact : ℕ) (old new : Growing) → Keeps p present fact old.kept new.kept → Gains fact old.dropped new.dropped
    → Drops p present (λ j. j ≡ fact) old new
drops_one p present fact old new keeps gains = record {
  more = keeps.more;
  grown = keeps.grown;
  of = λ i m. let w = keeps.of i m in (w.0, (fact, gains.has, w.1));
  exact = λ j. (
    (λ m. elim (Contains-append_cases old.dropped gains.more j (subst (λ (xs : List ℕ). Contains xs j) gains.grown m))
        [ inl n ↦ inl n | inr n ↦ inr (gains.of j n) ]),
    elim [ inl m ↦ wider old.dropped new.dropped gains.more gains.grown j m | inr e ↦ subst (Contains new.dropped) (sym e) gains.has ],
  );
}

-- nothing more where it was dropped before
pub drops_again : (p : Priority) (present : List ℕ) (fact : ℕ) (core : Growing) → Contains core.dropped fact → Drops p present (λ j. j ≡ fact) core core
drops_again p present fact core m = record {
  more = [];
  grown = sym (append-nil core.kept);
  of = λ i n. absurd (Contains-nil i n);
  exact = λ j. ((λ n. inl n), elim [ inl n ↦ n | inr e ↦ subst (Contains core.dropped) (sym e) m ]);
}

-- ---- a list of dropped facts

pub drops_none : (p : Priority) (present : List ℕ) (core : Growing) → Drops p present (Contains []) core core
drops_none p present core = record {
  more = [];
  grown = sym (append-nil core.kept);
  of = λ i n. absurd (Contains-nil i n);
  exact = λ j. ((λ n. inl n), elim [ inl n ↦ n | inr n ↦ absurd (Contains-nil j n) ]);
}

-- one set and then another
drops_then : (p : Priority) (present : List ℕ) (S T U : ℕ → Type 0) (old mid new : Growing) → ((j : ℕ) → U j ↔ (S j ⊎ T j)) → Drops p present S old mid
    → Drops p present T mid new → Drops p present U old new
drops_then p present S T U old mid new same f g = record {
  more = f.more ++ g.more;
  grown = g.grown ∙ ap (λ (xs : List ℕ). xs ++ g.more) f.grown ∙ append_assoc old.kept f.more g.more;
  of = λ i m. elim (Contains-append_cases f.more g.more i m) [
    | inl n ↦ let w = f.of i n in
        (w.0, (w.1.0, (g.exact w.1.0).1 (inl w.1.1), w.1.2))
    | inr n ↦ g.of i n
  ];
  exact = λ j. (to j, from j);
}
  where
    to : (j : ℕ) → Contains new.dropped j → Contains old.dropped j ⊎ U j
    to j m = elim ((g.exact j).0 m) [
      | inl n ↦ elim ((f.exact j).0 n) [ inl o ↦ inl o | inr s ↦ inr ((same j).1 (inl s)) ]
      | inr t ↦ inr ((same j).1 (inr t))
    ]

    from : (j : ℕ) → Contains old.dropped j ⊎ U j → Contains new.dropped j
    from j (inl o) = (g.exact j).1 (inl ((f.exact j).1 (inl o)))
    from j (inr u) = elim ((same j).0 u) [ inl s ↦ (g.exact j).1 (inl ((f.exact j).1 (inr s))) | inr t ↦ (g.exact j).1 (inr t) ]

pub drops_more : (p : Priority) (present facts : List ℕ) (k : ℕ) (old mid new : Growing) → k < length facts
    → Drops p present (Contains (take k facts)) old mid → Drops p present (λ j. j ≡ get_or facts k 0) mid new
    → Drops p present (Contains (take (k + 1) facts)) old new
drops_more p present facts k old mid new l f g = drops_then p present (Contains (take k facts)) (λ j. j ≡ get_or facts k 0) (Contains (take (k + 1) facts))
    old mid new (λ j. (to j, from j)) f g
  where
    next : take (k + 1) facts ≡ take k facts ++ get_or facts k 0 ∷ []
    next = take_more facts k 0 l

    to : (j : ℕ) → Contains (take (k + 1) facts) j → Contains (take k facts) j ⊎ (j ≡ get_or facts k 0)
    to j m = elim (Contains-push_cases (take k facts) (get_or facts k 0) j (subst (λ (xs : List ℕ). Contains xs j) next m))
        [ inl n ↦ inl n | inr e ↦ inr (sym e) ]

    from : (j : ℕ) → Contains (take k facts) j ⊎ (j ≡ get_or facts k 0) → Contains (take (k + 1) facts) j
    from j (inl n) = subst (λ (xs : List ℕ). Contains xs j) (sym next) (Contains-append_left (take k facts) (get_or facts k 0 ∷ []) j n)
    from j (inr e) = subst (λ (xs : List ℕ). Contains xs j) (sym next)
        (subst (Contains (take k facts ++ get_or facts k 0 ∷ [])) (sym e) (Contains-push (take k facts) (get_or facts k 0)))

pub drops_all : (p : Priority) (present facts : List ℕ) (k : ℕ) (old new : Growing) → length facts ≤ k → Drops p present (Contains (take k facts)) old new
    → Drops p present (Contains facts) old new
drops_all p present facts k old new l h = rw (take_all k facts l) at h

-- the same facts by another word
drops_as : (p : Priority) (present : List ℕ) (S T : ℕ → Type 0) (old new : Growing) → ((j : ℕ) → S j ↔ T j) → Drops p present S old new
    → Drops p present T old new
drops_as p present S T old new same h = record {
  more = h.more;
  grown = h.grown;
  of = h.of;
  exact = λ j. (
    (λ m. elim ((h.exact j).0 m) [ inl n ↦ inl n | inr s ↦ inr ((same j).0 s) ]),
    elim [ inl n ↦ (h.exact j).1 (inl n) | inr t ↦ (h.exact j).1 (inr ((same j).1 t)) ],
  );
}

-- ---- all that conflict with a fact

pub drops_rivals : (p : Priority) (g : ConflictGraph) (present rivals : List ℕ) (kept k : ℕ) (old new : Growing) → IsOver p g
    → ((j : ℕ) → Contains rivals j ↔ AreInConflict g.clashes kept j) → length rivals ≤ k
    → Drops p present (Contains (take k rivals)) old new → Drops p present (Conflict p kept) old new
drops_rivals p g present rivals kept k old new over exact l h = drops_as p present (Contains rivals) (Conflict p kept) old new
    (λ j. ((λ m. conflict_of p g kept j over ((exact j).0 m)), (λ c. (exact j).1 (conflict_over p g kept j over c)))) (drops_all p present rivals k old new l h)

-- a kept fact blocks what conflicts with it and isn't better
pub blocks_rival : (p : Priority) (kept : List ℕ) (fact rival : ℕ) → Contains kept fact → Conflict p fact rival → ¬ IsBetter p rival fact
    → IsSettled p kept rival
blocks_rival p kept fact rival m c b = inr (fact, m, Conflict-sym p fact rival c, b)

-- what may be dropped and isn't self-inconsistent is blocked
pub blocked_unless_own : (p : Priority) (kept : List ℕ) (j : ℕ) → IsSettled p kept j → (Contains p.own j → ⊥) → IsBlocked p (Contains kept) j
blocked_unless_own p kept j (inl own) alone = absurd (alone own)
blocked_unless_own p kept j (inr b) alone = b
