-- What holds among the clauses of an arena holds among the clauses that the store shows.
use Rattle.std.proofs.Common.{◌≡◌, ℕ, ◌<◌, inl, inr, ◌⊎◌, List, length, get_or, Contains, true, sym, subst, ◌∙◌, arith}
use Rattle.std.proofs.lemmas.List.Elements.{All-contains, All-weaker, Contains-get_or}
use Rattle.clause_meaning.specs.Literals.{opposite_of, variable_of}
use Rattle.clause_meaning.specs.Refutation.{Refutes, OppositesOf}
use Rattle.clause_meaning.specs.Assignments.{Inside, Separates}
use Rattle.clause_meaning.proofs.Chains.{Refutes-more, Reaches-more}
use Rattle.clause_arena.specs.State.{State as Arena, HeldClause, LiveIn as ArenaLive}
use Rattle.cdcl_trail.specs.State.{State as Trail}
use Rattle.cq_terms.specs.Lists.{IsAscending}
use Rattle.cdcl_trail.specs.Choices.{DifferInPairs}
use Rattle.clause_meaning.specs.Learning.{is_in, Nothing, OccursIn, IsUndecided, IsLearnable}
use Rattle.clause_learning.specs.Searching.{Searched, IsProper as IsProperClause}
use Rattle.clause_learning.specs.Lessons.{IsLesson}
use Rattle.clause_learning.proofs.Refuting.{known_unrefuted}
use Rattle.cdcl_core.specs.declared.seeking.Stop.{Stop}
use Rattle.cdcl_core.specs.declared.seeking.Stop.TheVariants as stop
use Rattle.cdcl_core.specs.State.{LiveIn, value_in}
use Rattle.cdcl_core.specs.Store.{StoreState, IsProper, AreProper, AreCounted, IsKept}
use Rattle.cdcl_core.specs.Shown.{literals_on}
use Rattle.cdcl_core.specs.Solving.{IsModelOf}
use Rattle.cdcl_core.specs.Seeking.{IsSameQuestion, Stops, StoreStops, bare}
use Rattle.cdcl_core.proofs.Labelling.{labelled_live, live_labelled}

-- the live clauses are the same
pub live_shown : (p : StoreState) (c : List ℕ) → length p.labels ≡ length p.arena.live → ArenaLive p.arena c → LiveIn (bare p) c
live_shown p c parallel m = labelled_live p.labels p.arena.live c parallel m

pub shown_live : (p : StoreState) (c : List ℕ) → LiveIn (bare p) c → ArenaLive p.arena c
shown_live p c m = live_labelled p.labels p.arena.live c m

pub refuted_shown : (p : StoreState) (L M : ℕ → Type 0) → length p.labels ≡ length p.arena.live → ((l : ℕ) → L l → M l) → Refutes (Searched p.trail p.arena) L
    → Refutes (Inside (is_in p.trail.focus) (LiveIn (bare p))) M
refuted_shown p L M parallel more r =
    Refutes-more (Searched p.trail p.arena) (Inside (is_in p.trail.focus) (LiveIn (bare p))) L M (λ c m. (live_shown p c parallel m.0, m.1)) more r

pub shown_refuted : (p : StoreState) (L : ℕ → Type 0) → Refutes (Inside (is_in p.trail.focus) (LiveIn (bare p))) L → Refutes (Searched p.trail p.arena) L
shown_refuted p L r = Refutes-more (Inside (is_in p.trail.focus) (LiveIn (bare p))) (Searched p.trail p.arena) L L (λ c m. (shown_live p c m.0, m.1))
    (λ l m. m) r

pub separates_live : (p : StoreState) (scope : List ℕ) → length p.labels ≡ length p.arena.live → Separates (is_in scope) (LiveIn (bare p))
    → Separates (is_in scope) (ArenaLive p.arena)
separates_live p scope parallel h c m = h c (live_shown p c parallel m)

-- the same clauses have the same models
pub IsModelOf-same : (S T : List ℕ → Type 0) (scope assume literals : List ℕ) → ((c : List ℕ) → S c → T c) → ((c : List ℕ) → T c → S c)
    → IsModelOf S scope assume literals → IsModelOf T scope assume literals
IsModelOf-same S T scope assume literals to from h = record {
  assumed = h.assumed;
  satisfied = λ c m. h.satisfied c (from c m.0, m.1);
  others = λ v is. others v is;
}
  where
    occurs : (l : ℕ) → Contains assume l ⊎ OccursIn S l → Contains assume l ⊎ OccursIn T l
    occurs l (inl m) = inl m
    occurs l (inr (c, s, m)) = inr (c, to c s, m)

    others : (v : ℕ) → value_in literals v ≡ true → (is_in scope v ≡ true) × (l : ℕ) × (variable_of l ≡ v) × (Contains assume l ⊎ OccursIn T l)
    others v is = (let o = h.others v is in (o.0, o.1, o.2, occurs o.1 o.3))

-- and the same clauses may be learned at them
pub IsLearnable-same : (S T : List ℕ → Type 0) (clause : List ℕ) → ((c : List ℕ) → S c → T c) → ((c : List ℕ) → T c → S c) → IsLearnable S clause
    → IsLearnable T clause
IsLearnable-same S T clause to from h = record {
  not_empty = h.not_empty;
  distinct = h.distinct;
  follows = Refutes-more S T (OppositesOf clause) (OppositesOf clause) to (λ l m. m) h.follows;
  new = λ (c, t, within). h.new (c, from c t, within);
  occur = All-weaker (OccursIn S) (OccursIn T) (λ l (c, s, m). (c, to c s, m)) clause h.occur;
  undecided = All-weaker (IsUndecided S) (IsUndecided T) (λ l u. (
    λ r. u.0 (Reaches-more T S Nothing Nothing from (λ k g. g) l r),
    λ r. u.1 (Reaches-more T S Nothing Nothing from (λ k g. g) (opposite_of l) r),
  )) clause h.undecided;
  joins_nothing = λ m never part parts free. h.joins_nothing m (λ (c, s, has). never (c, to c s, has)) part (λ c s f. parts c (to c s) f) free;
}

-- what a stop says, by what the store shows
pub stops_shown : (assume : List ℕ) (p : StoreState) (at : Stop) → length p.labels ≡ length p.arena.live → Stops assume p.trail p.arena at
    → StoreStops assume p at
stops_shown assume p stop.Refuted parallel r = refuted_shown p (Contains assume) (Contains assume) parallel (λ l m. m) r
stops_shown assume p stop.Model parallel h = IsModelOf-same (ArenaLive p.arena) (LiveIn (bare p)) p.trail.focus assume (literals_on p.trail.entries)
    (λ c m. live_shown p c parallel m) (λ c m. shown_live p c m) h
stops_shown assume p (stop.Falsified clause assumed) parallel (seeks, above, falsified) = (
  seeks,
  above,
  falsified,
  λ r. known_unrefuted p.trail p.arena (Contains assume) assumed seeks.searching above (seeks.known above) (shown_refuted p (Contains assume) r),
)

-- an ascending list has no variable twice
pub differ_from_ascending : (variables : List ℕ) → IsAscending variables → DifferInPairs variables
differ_from_ascending variables up i j d before within e = (let h = up i j d before within in omega (arith, h, e))

-- each live clause is proper
pub proper_live : (n : ℕ) (arena : Arena) (clause : List ℕ) → AreProper n arena.live → ArenaLive arena clause → IsProperClause clause
proper_live n arena clause proper (k, held, p, is, same) =
    let h : IsProper n held.literals = All-contains (λ (x : HeldClause). IsProper n x.literals) arena.live held proper (k, p, is) in
    subst IsProperClause same (record { some = h.some; distinct = h.distinct })

-- another trail with the same variables and counts
pub IsKept-trail : (p : StoreState) (trail : Trail) → IsKept p → IsSameQuestion p.trail trail → IsKept (record p { trail = trail })
IsKept-trail p trail kept same = record {
  few = kept.few;
  same_variables = same.variables ∙ kept.same_variables;
  parallel = kept.parallel;
  stay = kept.stay;
  proper = kept.proper;
  counted = subst (λ (cs : List ℕ). AreCounted (record trail { counts = cs }) p.arena.live) (sym same.counts) kept.counted;
  numbered = kept.numbered;
}

-- the clause of a lesson is proper
pub lesson_proper : (n : ℕ) (trail : Trail) (arena : Arena) (clause : List ℕ) (asserting back : ℕ) → AreProper n arena.live
    → IsLesson (Searched trail arena) trail clause asserting back → IsProper n clause
lesson_proper n trail arena clause asserting back proper lesson = record {
  some = lesson.learnable.not_empty;
  in_range = λ k d p. in_range (get_or clause k d) (Contains-get_or clause k d p);
  distinct = lesson.learnable.distinct;
}
  where
    held_range : (l : ℕ) → (c : List ℕ) → ArenaLive arena c → Contains c l → variable_of l < n
    held_range l c (k, held, p, is, same) m =
        let h : IsProper n held.literals = All-contains (λ (x : HeldClause). IsProper n x.literals) arena.live held proper (k, p, is) in
        All-contains (λ (x : ℕ). variable_of x < n) held.literals l h.in_range (subst (λ (d : List ℕ). Contains d l) (sym same) m)

    in_range : (l : ℕ) → Contains clause l → variable_of l < n
    in_range l m = (let o : OccursIn (Searched trail arena) l = All-contains (OccursIn (Searched trail arena)) clause l lesson.learnable.occur m in
        held_range l o.0 o.1.0 o.2)
