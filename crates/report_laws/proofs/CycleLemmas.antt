-- Accepted pieces for which no cycle is told are true.
use Rattle.std.proofs.Common.{◌≡◌, ℕ, zero, suc, ◌<◌, ◌≤◌, ◌⊎◌, arith, inl, inr, List, [], ◌∷◌, ◌++◌, map, Contains, Option, Some, None, refl, sym, subst, ap}
use Rattle.std.proofs.Common.{◌∙◌}
use Rattle.std.specs.Prelude.{reverse}
use Rattle.std.proofs.lemmas.Bool.{cases_lt}
use Rattle.std.proofs.lemmas.List.{append-nil, reverse-reverse}
use Rattle.cq_terms.specs.declared.facts.Repairs.{Repairs}
use Rattle.cq_terms.specs.declared.facts.Repairs.TheVariants as mode
use Rattle.cq_terms.specs.Knowledge.{Knowledge}
use Rattle.cq_terms.specs.Query.{Query}
use Rattle.cq_meaning.specs.Conflicts.{Conflict}
use Rattle.cq_meaning.specs.Repairs.{IsBetter, IsAcyclic}
use Rattle.cq_meaning.proofs.Extension.{Conflict-sym}
use Rattle.cq_meaning.proofs.Members.{Contains-nil}
use Rattle.report_text.specs.declared.line.Line.{Line}
use Rattle.report_text.specs.declared.line.Line.TheVariants as line
use Rattle.report_rules.specs.declared.place.Place.TheVariants.{AtEnd, InConflicts}
use Rattle.report_rules.specs.Inputs.{Input, report_on}
use Rattle.report_rules.specs.ConflictLists.{conflict_lists, AreConflictLists}
use Rattle.report_rules.specs.Order.{place_of}
use Rattle.report_rules.specs.Told.{conflicts_of, mode_of}
use Rattle.report_rules.specs.Accepted.{Right, AreRight}
use Rattle.report_rules.specs.Broken.{IsAcceptedAfter, IsAccepted, HasCycle}
use Rattle.report_laws.specs.Laws.{AreTrueAnswers, lines_of}
use Rattle.report_laws.proofs.PlaceLemmas.{starts_empty}
use Rattle.report_laws.proofs.BreakingLemmas.{back, accepted_pieces}
use Rattle.report_laws.proofs.TruthLemmas.{accepted_is_true}

-- nothing is better than anything in mode all
pub all_acyclic : (kb : Knowledge) → IsAcyclic kb mode.All
all_acyclic kb zero i b = b.ranked refl
all_acyclic kb (suc n) i (l, b, rest) = b.ranked refl

-- where nothing is better, no fact is reached
pub none_acyclic : (kb : Knowledge) (m : Repairs) → ((i j : ℕ) → IsBetter kb m i j → ⊥) → IsAcyclic kb m
none_acyclic kb m h zero i b = h i i b
none_acyclic kb m h (suc n) i (l, b, rest) = h i l b

-- where all conflicts are none, nothing conflicts
pub no_conflict : (kb : Knowledge) (lists : List (List ℕ)) → lists ≡ [] → AreConflictLists kb lists → (i j : ℕ) → Conflict kb i j → ⊥
no_conflict kb lists e (owns, pairs, exact, same) i j c = elim (cases_lt i j) [
  | inl h ↦ nowhere i j ((exact.pairs_exact i j).1 (h, c))
  | inr h ↦ nowhere j i ((exact.pairs_exact j i).1 (less i j h c.different, Conflict-sym kb i j c))
]
  where
    less : (i j : ℕ) → j ≤ i → (i ≡ j → ⊥) → j < i
    less i j h n = grind arith

    empty : (owns : List ℕ) (pairs : List (ℕ × ℕ)) → [] ≡ conflict_lists owns pairs → pairs ≡ []
    empty [] [] d = refl
    empty [] (p ∷ pairs) d = absurd (cc)
    empty (i ∷ owns) pairs d = absurd (cc)

    nowhere : (i j : ℕ) → Contains pairs (i, j) → ⊥
    nowhere i j m = Contains-nil (i, j) (subst (λ (xs : List (ℕ × ℕ)). Contains xs (i, j)) (empty owns pairs (sym e ∙ same)) m)

-- the lines up to the last conflict line
record UpToConflicts (input : Input) (before : List Line) (rest : List (Option Line)) : Type 0 where
  early : List Line
  later : List (Option Line)
  same : map Some (reverse before) ++ rest ≡ map Some (reverse early) ++ later
  right : AreRight input early
  at : place_of early ≡ InConflicts
  same_conflicts : conflicts_of early ≡ conflicts_of before
  same_mode : mode_of early ≡ mode_of before

-- the last line is a conflict, comes first, or changes neither conflicts nor options
step_of : (input : Input) (x : Line) (b : List Line) → Right input b x
    → (place_of (x ∷ b) ≡ InConflicts) ⊎ (((b ≡ []) × (conflicts_of (x ∷ b) ≡ [])) ⊎ ((conflicts_of b ≡ conflicts_of (x ∷ b)) × (mode_of b ≡ mode_of (x ∷ b))))
step_of input (line.Conflict facts rule member) b r = inl refl
step_of input (line.Head axioms budget facts keep repairs version) b r = inr (inl (starts_empty b r.order, ap conflicts_of (starts_empty b r.order)))
step_of input (line.Cq o query step) b r = inr (inr (refl, refl))
step_of input (line.Ask candidate tuple causes members) b r = inr (inr (refl, refl))
step_of input (line.Try question assume) b r = inr (inr (refl, refl))
step_of input (line.Learn number clause) b r = inr (inr (refl, refl))
step_of input (line.Core number kept dropped) b r = inr (inr (refl, refl))
step_of input (line.Done how core) b r = inr (inr (refl, refl))
step_of input (line.Forget clauses) b r = inr (inr (refl, refl))
step_of input (line.Answer brave ar iar cores names tuple) b r = inr (inr (refl, refl))
step_of input (line.End answers brave ar iar undecided) b r = inr (inr (refl, refl))

up_to : (input : Input) (before : List Line) → AreRight input before → (rest : List (Option Line)) → UpToConflicts input before rest
    ⊎ (conflicts_of before ≡ [])
up_to input [] r rest = inr refl
up_to input (x ∷ b) (r, rs) rest = go (step_of input x b r) (up_to input b rs (Some x ∷ rest))
  where
    go : (place_of (x ∷ b) ≡ InConflicts) ⊎ (((b ≡ []) × (conflicts_of (x ∷ b) ≡ []))
        ⊎ ((conflicts_of b ≡ conflicts_of (x ∷ b)) × (mode_of b ≡ mode_of (x ∷ b))))
        → UpToConflicts input b (Some x ∷ rest) ⊎ (conflicts_of b ≡ []) → UpToConflicts input (x ∷ b) rest ⊎ (conflicts_of (x ∷ b) ≡ [])
    go (inl e) again = inl (record { early = x ∷ b; later = rest; same = refl; right = (r, rs); at = e; same_conflicts = refl; same_mode = refl })
    go (inr (inl e)) again = inr e.1
    go (inr (inr (c, m))) (inl w) = inl (record {
      early = w.early;
      later = w.later;
      same = back input x b rest ∙ w.same;
      right = w.right;
      at = w.at;
      same_conflicts = w.same_conflicts ∙ c;
      same_mode = w.same_mode ∙ m;
    })
    go (inr (inr (c, m))) (inr e) = inr (sym c ∙ e)

-- where no cycle is told, the priority is acyclic
acyclic_of : (kb : Knowledge) (names : List (List ℕ)) (q : Query) (before : List Line) → AreRight (report_on kb names q) before
    → AreConflictLists kb (conflicts_of before)
    → ¬ HasCycle kb names q (map Some (reverse before)) → IsAcyclic kb (mode_of before)
acyclic_of kb names q before r w n = go (mode_of before) refl (up_to (report_on kb names q) before r [])
  where
    go : (m : Repairs) → mode_of before ≡ m → UpToConflicts (report_on kb names q) before [] ⊎ (conflicts_of before ≡ []) → IsAcyclic kb m
    go mode.All e u = all_acyclic kb
    go mode.Pareto e (inr c) = none_acyclic kb mode.Pareto (λ i j b. no_conflict kb (conflicts_of before) c w i j b.conflict)
    go mode.Pareto e (inl u) = λ k i b. n (
      u.early,
      u.later,
      sym (append-nil (map Some (reverse before))) ∙ u.same,
      u.right,
      u.at,
      subst (AreConflictLists kb) (sym u.same_conflicts) w,
      u.same_mode ∙ e,
      (λ a. a k i b),
    )

-- at the end all conflicts are told
pub conflicts_complete : (input : Input) (before : List Line) → AreRight input before → place_of before ≡ AtEnd
    → AreConflictLists input.kb (conflicts_of before)
conflicts_complete input (line.End answers brave ar iar undecided ∷ b) (r, rs) e = r.complete
conflicts_complete input (line.Head _ _ _ _ _ _ ∷ b) r e = absurd (cc)
conflicts_complete input (line.Cq _ _ _ ∷ b) r e = absurd (cc)
conflicts_complete input (line.Conflict _ _ _ ∷ b) r e = absurd (cc)
conflicts_complete input (line.Ask _ _ _ _ ∷ b) r e = absurd (cc)
conflicts_complete input (line.Try _ _ ∷ b) r e = absurd (cc)
conflicts_complete input (line.Learn _ _ ∷ b) r e = absurd (cc)
conflicts_complete input (line.Core _ _ _ ∷ b) r e = absurd (cc)
conflicts_complete input (line.Done _ _ ∷ b) r e = absurd (cc)
conflicts_complete input (line.Forget _ ∷ b) r e = absurd (cc)
conflicts_complete input (line.Answer _ _ _ _ _ _ ∷ b) r e = absurd (cc)
conflicts_complete input [] r e = absurd (cc)

-- accepted pieces are all lines
pub all_lines : (input : Input) (before : List Line) (pieces : List (Option Line)) → IsAcceptedAfter input before pieces → map Some (lines_of pieces) ≡ pieces
all_lines input before [] a = refl
all_lines input before (None ∷ pieces) a = absurd a
all_lines input before (Some l ∷ pieces) (r, a) = ap (λ xs. Some l ∷ xs) (all_lines input (l ∷ before) pieces a)

-- an accepted report for which no cycle is told is true
lines_true : (kb : Knowledge) (names : List (List ℕ)) (q : Query) (lines : List Line) → IsAccepted kb names q (map Some lines)
    → ¬ HasCycle kb names q (map Some lines) → AreTrueAnswers kb q lines
lines_true kb names q lines a n =
    let w = (accepted_pieces kb names q lines).0 a in
    accepted_is_true kb names q lines w (acyclic_of kb names q (reverse lines) w.right
    (conflicts_complete (report_on kb names q) (reverse lines) w.right w.ended)
    (subst (λ xs. ¬ HasCycle kb names q (map Some xs)) (sym (reverse-reverse lines)) n))

pub confirmed_is_true : (kb : Knowledge) (names : List (List ℕ)) (q : Query) (pieces : List (Option Line)) → IsAccepted kb names q pieces
    → ¬ HasCycle kb names q pieces → AreTrueAnswers kb q (lines_of pieces)
confirmed_is_true kb names q pieces a n =
    let same = all_lines (report_on kb names q) [] pieces a in
    lines_true kb names q (lines_of pieces) (subst (IsAccepted kb names q) (sym same) a) (λ h. n (subst (HasCycle kb names q) same h))
