-- What a store keeps when a clause is added, clauses are dropped, and references are renamed.
use Rattle.std.proofs.Common.{◌≡◌, ℕ, ◌+◌, List, [], ◌∷◌, ◌++◌, length, map, Bool, true, false, not, None, refl, sym, subst, ap, ◌∙◌, arith}
use Rattle.std.specs.List.{filter}
use Rattle.std.proofs.lemmas.List.{length-map, length_push, append-nil}
use Rattle.std.proofs.lemmas.List.Elements.{All-push, All-nil, All-cons, All-head, All-tail, All-weaker, filter_passes}
use Rattle.clause_arena.specs.State.{State as Arena, HeldClause, Holds, renamed, with_clause}
use Rattle.cdcl_trail.specs.State.{State as Trail}
use Rattle.cdcl_core.specs.declared.labels.Label.{Label}
use Rattle.cdcl_core.specs.declared.labels.Selection.{Selection}
use Rattle.cdcl_core.specs.State.{LiveClause, numbers_in}
use Rattle.cdcl_core.specs.Labels.{labelled, is_taken, stays, Drops}
use Rattle.cdcl_core.specs.Store.{StoreState, occurrences, AreCounted, IsProper, AreProper, AreNumbered, IsKept, OnlyCounts}
use Rattle.cdcl_core.specs.Changes.{Becomes, live_in}
use Rattle.cdcl_core.proofs.Tallies.{occurrences-cons}
use Rattle.cdcl_core.proofs.Labelling.{labelled-push, labelled-renamed, numbers_in-push}
use Rattle.cdcl_core.proofs.Numbering.{AreNumbered-filter}

-- the trail is over the same variables
same_trail : (old new : Trail) → OnlyCounts old new → new.variables ≡ old.variables
same_trail old new only = ap (λ (t : Trail). t.variables) only

-- a label that stays isn't marked
unmarked : (label : Label) → stays label ≡ true → label.goes ≡ false
unmarked label = step label.goes
  where
    step : (b : Bool) → not b ≡ true → b ≡ false
    step true e = absurd (cc)
    step false e = refl

-- after clauses were dropped and their labels taken out
pub IsKept-dropped : (which : Selection) (p : StoreState) (arena : Arena) (marked : List Label) (trail : Trail) → IsKept p
    → Drops which p.labels p.arena.live marked arena.live
    → arena.variables ≡ p.arena.variables → AreCounted trail arena.live → AreProper arena.variables arena.live → OnlyCounts p.trail trail
    → IsKept (record { arena = arena; labels = filter stays marked; trail = trail; next = p.next })
IsKept-dropped which p arena marked trail kept drops variables counted proper only = record {
  few = (let few = kept.few in omega (arith, few, variables));
  same_variables = same_trail p.trail trail only ∙ (kept.same_variables ∙ sym variables);
  parallel = drops.parallel;
  stay = All-weaker (λ label. stays label ≡ true) (λ label. label.goes ≡ false) unmarked (filter stays marked) (filter_passes stays marked);
  proper = proper;
  counted = counted;
  numbered = subst (λ (live : List LiveClause). AreNumbered p.next (numbers_in live)) (sym drops.shown)
      (AreNumbered-filter p.next (λ entry. not (is_taken which entry)) (live_in p) kept.numbered);
}

pub Becomes-dropped : (which : Selection) (p : StoreState) (arena : Arena) (marked : List Label) (trail : Trail)
    → Drops which p.labels p.arena.live marked arena.live
    → arena.variables ≡ p.arena.variables → OnlyCounts p.trail trail
    → Becomes p (record { arena = arena; labels = filter stays marked; trail = trail; next = p.next })
    (filter (λ entry. not (is_taken which entry)) (live_in p)) p.next
Becomes-dropped which p arena marked trail drops variables only = record { variables = variables; clauses = drops.shown; next = refl; only_counts = only }

-- new references
occurrences-renamed : (v : ℕ) (f : ℕ → ℕ) (live : List HeldClause) → occurrences v (map (renamed f) live) ≡ occurrences v live
occurrences-renamed v f [] = refl
occurrences-renamed v f (h ∷ hs) =
    let front = occurrences-cons v (renamed f h) (map (renamed f) hs) in
    let back = occurrences-cons v h hs in
    let rest = occurrences-renamed v f hs in
    omega (arith, front, back, rest)

AreProper-renamed : (n : ℕ) (f : ℕ → ℕ) (live : List HeldClause) → AreProper n live → AreProper n (map (renamed f) live)
AreProper-renamed n f [] proper = All-nil (λ held. IsProper n held.literals)
AreProper-renamed n f (h ∷ hs) proper =
    All-cons (λ held. IsProper n held.literals) (renamed f h) (map (renamed f) hs) (All-head (λ held. IsProper n held.literals) h hs proper)
    (AreProper-renamed n f hs (All-tail (λ held. IsProper n held.literals) h hs proper))

pub IsKept-renamed : (f : ℕ → ℕ) (p : StoreState) (arena : Arena) → IsKept p → Holds p.arena arena (map (renamed f) p.arena.live)
    → IsKept (record p { arena = arena })
IsKept-renamed f p arena kept holds = record {
  few = (let few = kept.few in let same = holds.variables in omega (arith, few, same));
  same_variables = kept.same_variables ∙ sym holds.variables;
  parallel = kept.parallel ∙ sym (ap length holds.live ∙ length-map p.arena.live (renamed f));
  stay = kept.stay;
  proper = subst (λ (n : ℕ). AreProper n arena.live) (sym holds.variables)
      (subst (AreProper p.arena.variables) (sym holds.live) (AreProper-renamed p.arena.variables f p.arena.live kept.proper));
  counted = λ v. kept.counted v ∙ sym (ap (occurrences v) holds.live ∙ occurrences-renamed v f p.arena.live);
  numbered = subst (λ (live : List LiveClause). AreNumbered p.next (numbers_in live))
      (sym (ap (labelled p.labels) holds.live ∙ labelled-renamed f p.labels p.arena.live)) kept.numbered;
}

pub Becomes-renamed : (f : ℕ → ℕ) (p : StoreState) (arena : Arena) → Holds p.arena arena (map (renamed f) p.arena.live)
    → Becomes p (record p { arena = arena }) (live_in p) p.next
Becomes-renamed f p arena holds = record {
  variables = holds.variables;
  clauses = ap (labelled p.labels) holds.live ∙ labelled-renamed f p.labels p.arena.live;
  next = refl;
  only_counts = refl;
}

-- more room
pub IsKept-same : (p : StoreState) (arena : Arena) → IsKept p → Holds p.arena arena p.arena.live → IsKept (record p { arena = arena })
IsKept-same p arena kept holds = record {
  few = (let few = kept.few in let same = holds.variables in omega (arith, few, same));
  same_variables = kept.same_variables ∙ sym holds.variables;
  parallel = kept.parallel ∙ sym (ap length holds.live);
  stay = kept.stay;
  proper = subst (λ (n : ℕ). AreProper n arena.live) (sym holds.variables) (subst (AreProper p.arena.variables) (sym holds.live) kept.proper);
  counted = λ v. kept.counted v ∙ sym (ap (occurrences v) holds.live);
  numbered = subst (λ (live : List LiveClause). AreNumbered p.next (numbers_in live)) (sym (ap (labelled p.labels) holds.live)) kept.numbered;
}

pub Becomes-same : (p : StoreState) (arena : Arena) → Holds p.arena arena p.arena.live → Becomes p (record p { arena = arena }) (live_in p) p.next
Becomes-same p arena holds = record { variables = holds.variables; clauses = ap (labelled p.labels) holds.live; next = refl; only_counts = refl }

-- one more clause, with the label of a given one
pub IsKept-given : (p : StoreState) (arena : Arena) (trail : Trail) (r : ℕ) (literals : List ℕ) → IsKept p
    → Holds p.arena arena (with_clause p.arena.live r literals)
    → IsProper p.arena.variables literals → AreCounted trail arena.live → OnlyCounts p.trail trail
    → IsKept (record { arena = arena; labels = p.labels ++ record { number = None; goes = false } ∷ []; trail = trail; next = p.next })
IsKept-given p arena trail r literals kept holds proper counted only =
    let held : HeldClause = record { reference = r; literals = literals } in
    let label : Label = record { number = None; goes = false } in
    let entry : LiveClause = record { number = None; literals = literals } in
    let shown = ap (labelled (p.labels ++ label ∷ [])) holds.live ∙ labelled-push p.labels p.arena.live label held kept.parallel in
    record {
      few = (let few = kept.few in let same = holds.variables in omega (arith, few, same));
      same_variables = same_trail p.trail trail only ∙ (kept.same_variables ∙ sym holds.variables);
      parallel = length_push p.labels label ∙ (ap (λ (n : ℕ). n + 1) kept.parallel ∙ sym (ap length holds.live ∙ length_push p.arena.live held));
      stay = All-push (λ (l : Label). l.goes ≡ false) p.labels label kept.stay refl;
      proper = subst (λ (n : ℕ). AreProper n arena.live) (sym holds.variables) (subst (AreProper p.arena.variables) (sym holds.live)
          (All-push (λ (h : HeldClause). IsProper p.arena.variables h.literals) p.arena.live held kept.proper proper));
      counted = counted;
      numbered = subst (λ (live : List LiveClause). AreNumbered p.next (numbers_in live)) (sym shown)
          (subst (AreNumbered p.next) (sym (numbers_in-push (live_in p) entry ∙ append-nil (numbers_in (live_in p)))) kept.numbered);
    }

pub Becomes-given : (p : StoreState) (arena : Arena) (trail : Trail) (r : ℕ) (literals : List ℕ) → IsKept p
    → Holds p.arena arena (with_clause p.arena.live r literals) → OnlyCounts p.trail trail
    → Becomes p (record { arena = arena; labels = p.labels ++ record { number = None; goes = false } ∷ []; trail = trail; next = p.next })
    (live_in p ++ record { number = None; literals = literals } ∷ []) p.next
Becomes-given p arena trail r literals kept holds only =
    let held : HeldClause = record { reference = r; literals = literals } in
    let label : Label = record { number = None; goes = false } in
    record {
      variables = holds.variables;
      clauses = ap (labelled (p.labels ++ label ∷ [])) holds.live ∙ labelled-push p.labels p.arena.live label held kept.parallel;
      next = refl;
      only_counts = only;
    }

-- the same, where room was made before
pub Becomes-given_after : (p : StoreState) (room arena : Arena) (trail : Trail) (r : ℕ) (literals : List ℕ) → IsKept p → Holds p.arena room p.arena.live
    → Holds room arena (with_clause room.live r literals) → OnlyCounts p.trail trail
    → Becomes p (record { arena = arena; labels = p.labels ++ record { number = None; goes = false } ∷ []; trail = trail; next = p.next })
    (live_in p ++ record { number = None; literals = literals } ∷ []) p.next
Becomes-given_after p room arena trail r literals kept same holds only =
    let entry : LiveClause = record { number = None; literals = literals } in
    let h = Becomes-given (record p { arena = room }) arena trail r literals (IsKept-same p room kept same) holds only in
    record {
      variables = h.variables ∙ same.variables;
      clauses = h.clauses ∙ ap (λ (live : List LiveClause). live ++ entry ∷ []) (ap (labelled p.labels) same.live);
      next = refl;
      only_counts = only;
    }
