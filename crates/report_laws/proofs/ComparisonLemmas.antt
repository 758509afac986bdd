-- Two right beginnings of the same pieces, and pieces that tell no cycle.
use Rattle.std.proofs.Common.{◌≡◌, ℕ, suc, ◌<◌, ◌⊎◌, inl, inr, List, [], ◌∷◌, ◌++◌, length, map, Option, Some, None, refl, sym, subst, ap, ◌∙◌, arith}
use Rattle.std.proofs.Common.{append_assoc}
use Rattle.std.specs.Prelude.{◌≢◌, reverse}
use Rattle.std.proofs.lemmas.List.{length-append, reverse-append, reverse-reverse}
use Rattle.cq_terms.specs.declared.facts.Repairs.TheVariants as mode
use Rattle.cq_terms.specs.Knowledge.{Knowledge}
use Rattle.cq_terms.specs.Query.{Query}
use Rattle.report_text.specs.declared.line.Line.{Line}
use Rattle.report_text.specs.declared.line.Line.TheVariants as line
use Rattle.report_rules.specs.declared.place.Place.TheVariants.{InConflicts}
use Rattle.report_rules.specs.declared.rule.Rule.{Rule}
use Rattle.report_rules.specs.Inputs.{Input, report_on}
use Rattle.report_rules.specs.ConflictLists.{AreConflictLists}
use Rattle.report_rules.specs.Order.{place_of}
use Rattle.report_rules.specs.Told.{mode_of, conflicts_of}
use Rattle.report_rules.specs.Accepted.{Right, AreRight}
use Rattle.report_rules.specs.Broken.{IsBrokenAt, HasCycle}
use Rattle.report_laws.specs.CycleLaws.{GoesOn, BeginningsCompare, CycleIsTold, AcyclicTellsNone, NoConflictsNoCycle, AllTellsNone, IncompleteTellsNone}
use Rattle.report_laws.specs.CycleLaws.{IsAcyclicSo, IsConflictLine, BrokenTellsNone, EndedTellsNone, LawsOfCycles}
use Rattle.report_laws.proofs.AnswerLemmas.{same_options}
use Rattle.report_laws.proofs.BreakingLemmas.{right_unbroken}
use Rattle.report_laws.proofs.CycleLemmas.{none_acyclic, no_conflict, conflicts_complete}
use Rattle.report_laws.proofs.PlaceLemmas.{starts_empty}
use Rattle.report_laws.proofs.UniqueLists.{conflict_lists_one}

-- ---- two beginnings

-- oldest first
abbrev Longer : List Line → List (Option Line) → List Line → List (Option Line) → Type 0
Longer more rest less others = (between : List Line) × (more ≡ less ++ between) × (others ≡ map Some between ++ rest)

compared : (one other : List Line) (rest others : List (Option Line)) → map Some one ++ rest ≡ map Some other ++ others → Longer one rest other others
    ⊎ Longer other others one rest
compared [] other rest others e = inr (other, refl, e)
compared (l ∷ one) [] rest others e = inl (l ∷ one, refl, sym e)
compared (l ∷ one) (k ∷ other) rest others e =
    let first : l ≡ k = cc e in
    let later : map Some one ++ rest ≡ map Some other ++ others = cc e in
    elim (compared one other rest others later) [
      | inl w ↦ inl (w.0, ap (λ (ls : List Line). l ∷ ls) w.1 ∙ ap (λ (x : Line). x ∷ (other ++ w.0)) first, w.2)
      | inr w ↦ inr (w.0, ap (λ (ls : List Line). k ∷ ls) w.1 ∙ ap (λ (x : Line). x ∷ (one ++ w.0)) (sym first), w.2)
    ]

newest : (more less : List Line) (rest others : List (Option Line)) → Longer (reverse more) rest (reverse less) others → GoesOn more rest less others
newest more less rest others (between, e, f) = (
  reverse between,
  sym (reverse-reverse more) ∙ ap reverse e ∙ reverse-append (reverse less) between ∙ ap (λ (ls : List Line). reverse between ++ ls) (reverse-reverse less),
  f ∙ ap (λ (ls : List Line). map Some ls ++ rest) (sym (reverse-reverse between)),
)

pub compare : BeginningsCompare
compare one other rest others e = elim (compared (reverse one) (reverse other) rest others e) [
  | inl w ↦ inl (newest one other rest others w)
  | inr w ↦ inr (newest other one others rest w)
]

-- ---- what stays behind right lines

-- the mode, behind the first line
mode_kept : (input : Input) (between before : List Line) → AreRight input (between ++ before) → before ≢ [] → mode_of (between ++ before) ≡ mode_of before
mode_kept input [] before w ne = refl
mode_kept input (l ∷ between) before (r, rs) ne = elim (same_options input l (between ++ before) r) [
  | inl e ↦ absurd (ne (empty between e))
  | inr s ↦ sym s.0 ∙ mode_kept input between before rs ne
]
  where
    empty : (xs : List Line) → xs ++ before ≡ [] → before ≡ []
    empty [] e = e
    empty (x ∷ xs) e = absurd (cc e)

-- the conflicts, once they are complete
conflicts_kept : (input : Input) (between before : List Line) → AreRight input (between ++ before) → AreConflictLists input.kb (conflicts_of before)
    → conflicts_of (between ++ before) ≡ conflicts_of before
conflicts_kept input [] before w all = refl
conflicts_kept input (line.Conflict facts rule member ∷ between) before (r, rs) all =
    let again = conflicts_kept input between before rs all in
    absurd (longer r.own.next.0 (conflict_lists_one input.kb (conflicts_of before) (conflicts_of before ++ facts ∷ r.own.next.0) all
    (subst (λ (cs : List (List ℕ)). AreConflictLists input.kb (cs ++ facts ∷ r.own.next.0)) again r.own.next.1)))
  where
    longer : (rest : List (List ℕ)) → conflicts_of before ≡ conflicts_of before ++ facts ∷ rest → ⊥
    longer rest e = let size = ap length e ∙ length-append (conflicts_of before) (facts ∷ rest) in omega arith
conflicts_kept input (line.Head axioms budget facts keep repairs version ∷ between) before (r, rs) all = conflicts_kept input between before rs all
conflicts_kept input (line.Cq o query step ∷ between) before (r, rs) all = conflicts_kept input between before rs all
conflicts_kept input (line.Ask candidate tuple causes members ∷ between) before (r, rs) all = conflicts_kept input between before rs all
conflicts_kept input (line.Try question assume ∷ between) before (r, rs) all = conflicts_kept input between before rs all
conflicts_kept input (line.Learn number clause ∷ between) before (r, rs) all = conflicts_kept input between before rs all
conflicts_kept input (line.Core number kept dropped ∷ between) before (r, rs) all = conflicts_kept input between before rs all
conflicts_kept input (line.Done how core ∷ between) before (r, rs) all = conflicts_kept input between before rs all
conflicts_kept input (line.Forget clauses ∷ between) before (r, rs) all = conflicts_kept input between before rs all
conflicts_kept input (line.Answer brave ar iar cores names tuple ∷ between) before (r, rs) all = conflicts_kept input between before rs all
conflicts_kept input (line.End answers brave ar iar undecided ∷ between) before (r, rs) all = conflicts_kept input between before rs all

right_part : (input : Input) (between before : List Line) → AreRight input (between ++ before) → AreRight input before
right_part input [] before w = w
right_part input (l ∷ between) before (r, rs) = right_part input between before rs

-- ---- cycles

pub told : CycleIsTold
told kb names q before rest w at all m n = (before, rest, refl, w, at, all, m, n)

pub acyclic : AcyclicTellsNone
acyclic kb names q pieces a (early, later, same, w, at, all, m, n) = n a

pub no_conflicts : NoConflictsNoCycle
no_conflicts kb all = none_acyclic kb mode.Pareto (λ i j b. no_conflict kb [] refl all i j b.conflict)

not_empty : (b : List Line) → place_of b ≡ InConflicts → b ≢ []
not_empty b at e = let both = sym at ∙ ap place_of e in cc both

pub all_repairs : AllTellsNone
all_repairs kb names q before rest w ne m (early, later, same, right, at, all, ranked, n) = elim (compare before early rest later same) [
  | inl (between, e, f) ↦ clash (ap mode_of e ∙ mode_kept (report_on kb names q) between early (subst (AreRight (report_on kb names q)) e w)
      (not_empty early at))
  | inr (between, e, f) ↦ clash (sym (ap mode_of e ∙ mode_kept (report_on kb names q) between before (subst (AreRight (report_on kb names q)) e right) ne))
]
  where
    clash : mode_of before ≡ mode_of early → ⊥
    clash h = let both : mode.All ≡ mode.Pareto = sym m ∙ (h ∙ ranked) in cc both

module _ (input : Input) where
  -- pieces are broken behind the lines before
  number_above : (pieces : List (Option Line)) (before : List Line) (n : ℕ) (r : Rule) → IsBrokenAt input before pieces n r → length before < n
  number_above [] before n r (ne, e, f) = omega arith
  number_above (None ∷ rest) before n r (e, f) = omega arith
  number_above (Some l ∷ rest) before n r (inl (b, e)) = omega arith
  number_above (Some l ∷ rest) before n r (inr (w, b)) = let h = number_above rest (l ∷ before) n r b in omega arith

  -- no right line comes where the next is broken
  next_broken : (l : Line) (lines before : List Line) (others : List (Option Line)) (r : Rule) → AreRight input ((lines ++ l ∷ []) ++ before)
      → IsBrokenAt input before (map Some (reverse (lines ++ l ∷ [])) ++ others) (suc (length before)) r → ⊥
  next_broken l lines before others r w b = go (subst (λ (os : List (Option Line)). IsBrokenAt input before os (suc (length before)) r) first b)
    where
      first : map Some (reverse (lines ++ l ∷ [])) ++ others ≡ Some l ∷ (map Some (reverse lines) ++ others)
      first = ap (λ (ls : List Line). map Some ls ++ others) (reverse-append lines (l ∷ []))

      right : Right input before l
      right = (right_part input lines (l ∷ before) (subst (AreRight input) (append_assoc lines (l ∷ []) before) w)).0

      go : IsBrokenAt input before (Some l ∷ (map Some (reverse lines) ++ others)) (suc (length before)) r → ⊥
      go (inl (breaks, e)) = right_unbroken input before l r right breaks
      go (inr (also, later)) = let h = number_above (map Some (reverse lines) ++ others) (l ∷ before) (suc (length before)) r later in omega arith

pub incomplete : IncompleteTellsNone
incomplete kb names q before rest r w part b (early, later, same, right, at, all, ranked, n) = elim (compare before early rest later same) [
  | inl (between, e, f) ↦ part (subst (AreConflictLists kb) (sym
      (ap conflicts_of e ∙ conflicts_kept (report_on kb names q) between early (subst (AreRight (report_on kb names q)) e w) all)) all)
  | inr (between, e, f) ↦ ends between e f (last between)
]
  where
    last : (ls : List Line) → (ls ≡ []) ⊎ ((lines : List Line) × (l : Line) × (ls ≡ lines ++ l ∷ []))
    last [] = inl refl
    last (k ∷ ls) = elim (last ls) [ inl e ↦ inr ([], k, ap (λ (xs : List Line). k ∷ xs) e) | inr w ↦ inr (k ∷ w.0, w.1, ap (λ (xs : List Line). k ∷ xs) w.2) ]

    ends : (between : List Line) → early ≡ between ++ before → rest ≡ map Some (reverse between) ++ later → (between ≡ [])
        ⊎ ((lines : List Line) × (l : Line) × (between ≡ lines ++ l ∷ [])) → ⊥
    ends between e f (inl none) = part (subst (AreConflictLists kb) (ap conflicts_of (e ∙ ap (λ (ls : List Line). ls ++ before) none)) all)
    ends between e f (inr (lines, l, g)) = next_broken (report_on kb names q) l lines before later r
        (subst (AreRight (report_on kb names q)) (e ∙ ap (λ (ls : List Line). ls ++ before) g) right)
        (subst (λ (os : List (Option Line)). IsBrokenAt (report_on kb names q) before os (suc (length before)) r)
        (f ∙ ap (λ (ls : List Line). map Some (reverse ls) ++ later) g) b)

-- ---- what is kept

first_acyclic : (kb : Knowledge) → IsAcyclicSo kb []
first_acyclic kb all = inr (no_conflicts kb all)

module _ (kb : Knowledge) (names : List (List ℕ)) (q : Query) (before : List Line) where
  stays : (l : Line) → Right (report_on kb names q) before l → ¬ IsConflictLine l → IsAcyclicSo kb before → IsAcyclicSo kb (l ∷ before)
  stays (line.Head axioms budget facts keep repairs version) r n h all =
      inr (no_conflicts kb (subst (AreConflictLists kb) (ap conflicts_of (starts_empty before r.order)) all))
  stays (line.Conflict facts rule member) r n h all = absurd (n tt)
  stays (line.Cq o query step) r n h all = elim (h all) [ inl w ↦ inl (w.0, λ e. cc e) | inr a ↦ inr a ]
  stays (line.Ask candidate tuple causes members) r n h all = elim (h all) [ inl w ↦ inl (w.0, λ e. cc e) | inr a ↦ inr a ]
  stays (line.Try question assume) r n h all = elim (h all) [ inl w ↦ inl (w.0, λ e. cc e) | inr a ↦ inr a ]
  stays (line.Learn number clause) r n h all = elim (h all) [ inl w ↦ inl (w.0, λ e. cc e) | inr a ↦ inr a ]
  stays (line.Core number kept dropped) r n h all = elim (h all) [ inl w ↦ inl (w.0, λ e. cc e) | inr a ↦ inr a ]
  stays (line.Done how core) r n h all = elim (h all) [ inl w ↦ inl (w.0, λ e. cc e) | inr a ↦ inr a ]
  stays (line.Forget clauses) r n h all = elim (h all) [ inl w ↦ inl (w.0, λ e. cc e) | inr a ↦ inr a ]
  stays (line.Answer brave ar iar cores names tuple) r n h all = elim (h all) [ inl w ↦ inl (w.0, λ e. cc e) | inr a ↦ inr a ]
  stays (line.End answers brave ar iar undecided) r n h all = elim (h all) [ inl w ↦ inl (w.0, λ e. cc e) | inr a ↦ inr a ]

  stopped : (rest : List (Option Line)) → AreRight (report_on kb names q) before → IsAcyclicSo kb before
      → HasCycle kb names q (map Some (reverse before) ++ rest) → ¬ AreConflictLists kb (conflicts_of before)
  stopped rest w h cycle all = elim (h all) [
    | inl v ↦ all_repairs kb names q before rest w v.1 v.0 cycle
    | inr a ↦ acyclic kb names q (map Some (reverse before) ++ rest) a cycle
  ]

pub broken_tells : BrokenTellsNone
broken_tells kb names q before rest r w h b cycle = incomplete kb names q before rest r w (stopped kb names q before rest w h cycle) b cycle

pub ended_tells : EndedTellsNone
ended_tells kb names q before rest w h e cycle = stopped kb names q before rest w h cycle (conflicts_complete (report_on kb names q) before w e)

pub laws : LawsOfCycles
laws = record {
  compare = compare;
  told = told;
  acyclic = acyclic;
  no_conflicts = no_conflicts;
  all_repairs = all_repairs;
  incomplete = incomplete;
  stays = λ kb. (first_acyclic kb, λ names q before l r n h. stays kb names q before l r n h);
  broken = broken_tells;
  ended = ended_tells;
}
