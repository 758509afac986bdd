-- What a right line makes of a state that fits the lines before it.
use Rattle.std.proofs.Common.{◌≡◌, ◌↔◌, ◌⊎◌, inl, inr, ℕ, ◌+◌, ◌<◌, ◌≤◌, ◌^◌, List, [], ◌∷◌}
use Rattle.std.proofs.Common.{◌++◌, length, map, All, Contains, true, false, not, Option, Some, None, refl, sym, ap, subst, ◌∙◌, arith}
use Rattle.std.specs.Prelude.{Result, Ok, Err, OnOk}
use Rattle.std.specs.Option.{IfSome, IsSomeAnd}
use Rattle.std.proofs.lemmas.Option.{slice_get_within}
use Rattle.clause_meaning.specs.Literals.{AreBelow}
use Rattle.cq_steps.specs.declared.moves.Move.{Move}
use Rattle.cq_terms.specs.declared.facts.Repairs.{Repairs}
use Rattle.cq_terms.specs.declared.facts.Repairs.TheVariants as mode
use Rattle.cq_terms.specs.Conflicts.{ConflictGraph, AreClashes}
use Rattle.cq_terms.specs.Knowledge.{Knowledge}
use Rattle.cq_terms.specs.Query.{Query}
use Rattle.cq_meaning.specs.ConflictGraphs.{AreConflictsOf}
use Rattle.cq_meaning.specs.Repairs.{IsAcyclic, IsBetter}
use Rattle.cq_meaning.proofs.Ascending.{All-of}
use Rattle.priority_graph.specs.Inputs.{IsPriorityOf}
use Rattle.priority_graph.specs.Priority.{Priority, IsOver}
use Rattle.priority_graph.specs.Relations.{IsCycle}
use Rattle.priority_graph.specs.Split.{has}
use Rattle.repair_clauses.specs.CauseClauses.{cause_clause}
use Rattle.report_text.specs.declared.line.Line.{Line}
use Rattle.report_text.specs.declared.line.Line.TheVariants as line
use Rattle.report_text.specs.declared.line.Origin.{Origin}
use Rattle.report_text.specs.declared.line.Question.{Question}
use Rattle.report_text.specs.declared.line.Verdict.{Verdict}
use Rattle.report_text.specs.declared.line.How.{How}
use Rattle.report_rules.specs.declared.place.Place.{Place}
use Rattle.report_rules.specs.declared.place.Place.TheVariants as place
use Rattle.report_rules.specs.ConflictLists.{AreConflictFacts, AreConflictLists}
use Rattle.report_rules.specs.Inputs.{OneQuery, report_on, query_at}
use Rattle.report_rules.specs.Live.{Learned, has_variable}
use Rattle.report_rules.specs.Order.{is_answering, place_of}
use Rattle.report_rules.specs.Told.{mode_of, conflicts_of, query_of}
use Rattle.report_rules.specs.Tries.{Asked, asked}
use Rattle.report_rules.specs.Accepted.{Right, AreRight}
use Rattle.report_laws.specs.AtStanding.{Candidate, AreCandidatesOf}
use Rattle.report_laws.specs.CycleLaws.{IsConflictLine}
use Rattle.report_laws.specs.Standing.{Standing, standing_of, after}
use Rattle.report_laws.proofs.CauseLemmas.{listed_within}
use Rattle.report_laws.proofs.ComparisonLemmas as cycles
use Rattle.report_laws.proofs.PlaceLemmas.{over_closed, block_closed, between_closed, ask_closed, try_open}
use Rattle.report_laws.proofs.StandingLemmas.{moves_on}
use Rattle.plain_finding.specs.Kept.{Kept, Holds, kept_at}
use Rattle.refutation_confirmer.specs.Following.{FollowsLines}
use Rattle.refutation_confirmer.specs.Kinds.{IsBegun}
use Rattle.refutation_confirmer.specs.State.{State, Fits, IsFound, AreKnown, HaveVariables, IsTrying, TellsNow}
use Rattle.refutation_confirmer.specs.Steps.{Takes, FitsBefore}
use Rattle.refutation_confirmer.proofs.FittingLemmas.{the_some, some_has, rules_at, place_is, lists_at, graph_at, live_of, told_behind}
use Rattle.refutation_confirmer.proofs.FoundLemmas.{Alike, if_some, standing_so, found_alike}
use Rattle.refutation_confirmer.proofs.RangeLemmas.{over_same, assumed_below, causes_below}
use Rattle.report_standing.proofs.LearnLemmas.{literals_below}
use Rattle.refutation_confirmer.proofs.StepLemmas.{follows_ask, follows_learn, follows_forget, follows_answer}

-- ---- the parts of fitting

module _ (kb : Knowledge) (names : List (List ℕ)) (q : Query) (before : List Line) (s : State) (f : Fits (report_on kb names q) before s) (l : Line)
    (r : Right (report_on kb names q) before l) where
  kept_next : (x : Standing) → x ≡ after (length kb.facts) s.standing l → x ≡ standing_of (length kb.facts) (l ∷ before)
  kept_next x e = e ∙ (ap (λ (t : Standing). after (length kb.facts) t l) f.standing ∙ sym (moves_on (length kb.facts) before l))

  -- a line that tells no conflict
  next : (t : State) → t.standing ≡ after (length kb.facts) s.standing l → ¬ IsConflictLine l → IsFound kb (q ∷ []) t
      → Fits (report_on kb names q) (l ∷ before) t
  next t e n found = record {
    right = (r, f.right);
    standing = kept_next t.standing e;
    found = found;
    acyclic = (cycles.laws.stays kb).1 names q before l r n f.acyclic;
  }

  -- where it leaves alone what was found out
  next_alike : (x : Standing) → x ≡ after (length kb.facts) s.standing l → ¬ IsConflictLine l → Alike s.standing (after (length kb.facts) s.standing l)
      → (IsBegun (after (length kb.facts) s.standing l).place → IsBegun s.standing.place)
      → (IsTrying (after (length kb.facts) s.standing l).place
      → IfSome s.clauses (λ k. AreBelow k.variables (after (length kb.facts) s.standing l).assumed))
      → ((after (length kb.facts) s.standing l).place ≡ place.AtStart → ⊥)
      → Fits (report_on kb names q) (l ∷ before) (standing_so s x)
  next_alike x e n alike begun trying start = next (standing_so s x) e n
      (subst (λ (y : Standing). IsFound kb (q ∷ []) (standing_so s y)) (sym e)
      (found_alike kb (q ∷ []) s (after (length kb.facts) s.standing l) f.found alike begun trying start))

  -- the place of a line is that of the state
  at_place : (P : Place → Type 0) → P (place_of before) → P s.standing.place
  at_place P h = subst P (sym (place_is kb names q before s f)) h

  -- the candidate that was asked is known by its selector
  selector_at : (k : Kept) → s.clauses ≡ Some k → is_answering s.standing.place ≡ true → length kb.facts + (asked before).candidate < k.variables
  selector_at k e a = subst (λ (t : Standing). length kb.facts + t.asked.candidate < k.variables) f.standing
      ((some_has (HaveVariables kb s.standing) s.clauses k e f.found.variables).selector a)

-- of whatever there is
each_some : {X : Type 0} (P : X → Type 0) (o : Option X) → ((x : X) → o ≡ Some x → P x) → IfSome o P
each_some P None h = tt
each_some P (Some x) h = h x refl

-- ---- lines that leave what was found out alone

pub takes_cq : (s : State) (x : Standing) (kb : Knowledge) (o : Origin) (member : Query) (step : Option (ℕ × Move))
    → x ≡ after (length kb.facts) s.standing (line.Cq o member step) → Takes kb s (line.Cq o member step) (standing_so s x)
takes_cq s x kb o member step e names q before f r = next_alike kb names q before s f (line.Cq o member step) r x e (λ c. c)
    (record {
      repairs = refl;
      ends = refl;
      asked = refl;
      learned = refl;
      answering = ap is_answering (place_is kb names q before s f) ∙ block_closed OneQuery kb.axioms (place_of before) o r.order;
    })
    (λ b. absurd b) (λ b. absurd b) (λ e. cc e)

pub takes_try : (s : State) (x : Standing) (kb : Knowledge) (question : Question) (assume : List ℕ)
    → x ≡ after (length kb.facts) s.standing (line.Try question assume) → Takes kb s (line.Try question assume) (standing_so s x)
takes_try s x kb question assume e names q before f r = next_alike kb names q before s f (line.Try question assume) r x e (λ c. c)
    (record { repairs = refl; ends = refl; asked = refl; learned = refl; answering = answering })
    (λ b. at_place kb names q before s f (line.Try question assume) r IsBegun (subst IsBegun (sym r.order) tt))
    (λ t. each_some (λ (k : Kept). AreBelow k.variables assume) s.clauses
    (λ k d. assumed_below (report_on kb names q) (line.Try question assume ∷ before) k.variables (r, f.right) (inl refl)
    (selector_at kb names q before s f (line.Try question assume) r k d answering)))
    (λ e. cc e)
  where
    answering : is_answering s.standing.place ≡ true
    answering = ap is_answering (place_is kb names q before s f ∙ r.order)

pub takes_core : (s : State) (x : Standing) (kb : Knowledge) (number : ℕ) (kept dropped : List ℕ)
    → x ≡ after (length kb.facts) s.standing (line.Core number kept dropped) → Takes kb s (line.Core number kept dropped) (standing_so s x)
takes_core s x kb number kept dropped e names q before f r = next_alike kb names q before s f (line.Core number kept dropped) r x e (λ c. c)
    (record { repairs = refl; ends = refl; asked = refl; learned = refl; answering = ap is_answering at })
    (λ b. subst IsBegun (sym at) tt)
    (λ t. if_some (HaveVariables kb s.standing) (λ (k : Kept). AreBelow k.variables s.standing.assumed) s.clauses
    (λ k h. h.assumed (subst IsTrying (sym at) tt)) f.found.variables)
    (λ e. cc e)
  where
    at : s.standing.place ≡ place.InTry
    at = place_is kb names q before s f ∙ r.order

pub takes_done : (s : State) (x : Standing) (kb : Knowledge) (how : How) (core : Option ℕ)
    → x ≡ after (length kb.facts) s.standing (line.Done how core) → Takes kb s (line.Done how core) (standing_so s x)
takes_done s x kb how core e names q before f r = next_alike kb names q before s f (line.Done how core) r x e (λ c. c)
    (record {
      repairs = refl;
      ends = refl;
      asked = refl;
      learned = refl;
      answering = ap is_answering (place_is kb names q before s f) ∙ try_open (place_of before) r.order;
    })
    (λ b. at_place kb names q before s f (line.Done how core) r IsBegun (begun r.order)) (λ b. absurd b) (λ e. cc e)
  where
    begun : (place_of before ≡ place.InTry) ⊎ (place_of before ≡ place.AfterCore) → IsBegun (place_of before)
    begun (inl e) = subst IsBegun (sym e) tt
    begun (inr e) = subst IsBegun (sym e) tt

-- those that may want memory
pub takes_cq_ok : {T E : Type 0} (r : Result T E) (s : State) (x : Standing) (o : Origin) (member : Query)
    → OnOk r ((facts : ℕ) (step : Option (ℕ × Move)) → x ≡ after facts s.standing (line.Cq o member step))
    → OnOk r ((kb : Knowledge) (step : Option (ℕ × Move)) → Takes kb s (line.Cq o member step) (standing_so s x))
takes_cq_ok (Ok v) s x o member w = λ kb step. takes_cq s x kb o member step (w (length kb.facts) step)
takes_cq_ok (Err e) s x o member w = tt

pub takes_core_ok : {T E : Type 0} (r : Result T E) (s : State) (x : Standing) (kept dropped : List ℕ)
    → OnOk r ((facts number : ℕ) → x ≡ after facts s.standing (line.Core number kept dropped))
    → OnOk r ((kb : Knowledge) (number : ℕ) → Takes kb s (line.Core number kept dropped) (standing_so s x))
takes_core_ok (Ok v) s x kept dropped w = λ kb number. takes_core s x kb number kept dropped (w (length kb.facts) number)
takes_core_ok (Err e) s x kept dropped w = tt

pub takes_done_ok : {T E : Type 0} (r : Result T E) (s : State) (x : Standing) (how : How) (core : Option ℕ)
    → OnOk r ((facts : ℕ) → x ≡ after facts s.standing (line.Done how core))
    → OnOk r ((kb : Knowledge) → Takes kb s (line.Done how core) (standing_so s x))
takes_done_ok (Ok v) s x how core w = λ kb. takes_done s x kb how core (w (length kb.facts))
takes_done_ok (Err e) s x how core w = tt

-- ---- the head

no_priority : (kb : Knowledge) (m : Repairs) (s : State) → s.priority ≡ None → IfSome s.priority (IsPriorityOf kb m)
no_priority kb m s e = subst (λ (o : Option Priority). IfSome o (IsPriorityOf kb m)) (sym e) tt

no_clauses : (P : Kept → Type 0) (s : State) → s.clauses ≡ None → IfSome s.clauses P
no_clauses P s e = subst (λ (o : Option Kept). IfSome o P) (sym e) tt

pub takes_head : (s : State) (x : Standing) (kb : Knowledge) (axioms budget facts keep version : ℕ) (repairs : Repairs)
    → x ≡ after (length kb.facts) s.standing (line.Head axioms budget facts keep repairs version)
    → Takes kb s (line.Head axioms budget facts keep repairs version) (standing_so s x)
takes_head s x kb axioms budget facts keep version repairs e names q before f r =
    next kb names q before s f (line.Head axioms budget facts keep repairs version) r (standing_so s x) e (λ c. c)
    (subst (λ (y : Standing). IsFound kb (q ∷ []) (standing_so s y)) (sym e) (record {
      plain = f.found.plain;
      conflicts = f.found.conflicts;
      priority = no_priority kb repairs s early.0;
      over = f.found.over;
      candidates = f.found.candidates;
      clauses = no_clauses (FollowsLines kb (after (length kb.facts) s.standing (line.Head axioms budget facts keep repairs version))) s early.1;
      variables = no_clauses (HaveVariables kb (after (length kb.facts) s.standing (line.Head axioms budget facts keep repairs version))) s early.1;
      selectors = f.found.selectors;
      causes = λ a. cc a;
      learnable = λ a. cc a;
      has_learnable = λ a. cc a;
      known = λ b. absurd b;
      early = λ d. cc d;
    }))
  where
    early : (s.priority ≡ None) × (s.clauses ≡ None)
    early = f.found.early (place_is kb names q before s f ∙ r.order)

-- ---- conflicts

-- what a conflict line makes of what is kept, whatever it says
abbrev conflict_kept : Standing → Standing
conflict_kept s = after 0 s (line.Conflict [] 0 0)

conflict_alike : (kb : Knowledge) (names : List (List ℕ)) (q : Query) (before : List Line) (s : State) (f : Fits (report_on kb names q) before s)
    (facts : List ℕ) (rule member : ℕ) → Right (report_on kb names q) before (line.Conflict facts rule member)
    → IsFound kb (q ∷ []) (standing_so s (conflict_kept s.standing))
conflict_alike kb names q before s f facts rule member r = found_alike kb (q ∷ []) s (conflict_kept s.standing) f.found
    (record {
      repairs = refl;
      ends = refl;
      asked = refl;
      learned = refl;
      answering = ap is_answering (place_is kb names q before s f) ∙ over_closed OneQuery kb.axioms (place_of before) r.order;
    })
    (λ b. absurd b) (λ b. absurd b) (λ e. cc e)

-- what is told behind a conflict line
module _ (kb : Knowledge) (names : List (List ℕ)) (q : Query) (before : List Line) (s : State) (f : Fits (report_on kb names q) before s)
    (facts : List ℕ) (rule member : ℕ) (r : Right (report_on kb names q) before (line.Conflict facts rule member)) (g : ConflictGraph)
    (e : s.conflicts ≡ Some g) where
  behind : AreRight (report_on kb names q) (line.Conflict facts rule member ∷ before)
  behind = (r, f.right)

  kept_behind : conflict_kept s.standing ≡ standing_of (length kb.facts) (line.Conflict facts rule member ∷ before)
  kept_behind = kept_next kb names q before s f (line.Conflict facts rule member) r (conflict_kept s.standing) refl

  mode_behind : s.standing.repairs ≡ mode_of before
  mode_behind = ap (λ (t : Standing). t.repairs) f.standing

  all_behind : AreConflictLists kb (conflicts_of (line.Conflict facts rule member ∷ before)) ↔ ((conflict_kept s.standing).told ≡ length g.clashes)
  all_behind = told_behind kb names q (line.Conflict facts rule member ∷ before) (conflict_kept s.standing) g behind kept_behind
      (lists_at kb names q before s f g e)

  -- the state behind it, with whatever is found out of the priority
  found_behind : (o : Option Priority) → IfSome o (IsPriorityOf kb s.standing.repairs)
      → IsFound kb (q ∷ []) (record (standing_so s (conflict_kept s.standing)) { priority = o })
  found_behind o of =
      let w = conflict_alike kb names q before s f facts rule member r in
      record {
        plain = w.plain;
        conflicts = w.conflicts;
        priority = of;
        over = if_some (λ (h : ConflictGraph). AreConflictsOf kb h × AreClashes h.facts h.clashes) (λ (h : ConflictGraph). IfSome o (λ p. IsOver p h))
            s.conflicts
            (λ h a. if_some (IsPriorityOf kb s.standing.repairs) (λ (p : Priority). IsOver p h) o (λ p b. over_same kb s.standing.repairs p h b a.0) of)
            w.conflicts;
        candidates = w.candidates;
        clauses = w.clauses;
        variables = w.variables;
        selectors = w.selectors;
        causes = w.causes;
        learnable = w.learnable;
        has_learnable = w.has_learnable;
        known = λ b. absurd b;
        early = λ d. cc d;
      }

all_or_pareto : (m : Repairs) → (m ≡ mode.Pareto → ⊥) → m ≡ mode.All
all_or_pareto mode.All n = refl
all_or_pareto mode.Pareto n = absurd (n refl)

-- where a conflict is left out or all repairs are asked about
pub takes_conflict : (s : State) (x : Standing) (g : ConflictGraph) (kb : Knowledge) → s.conflicts ≡ Some g → x ≡ conflict_kept s.standing
    → (x.told ≡ length g.clashes → x.repairs ≡ mode.Pareto → ⊥) → (l : Line) → IsConflictLine l → Takes kb s l (standing_so s x)
takes_conflict s x g kb e same n (line.Conflict facts rule member) k names q before f r = record {
  right = (r, f.right);
  standing = same ∙ kept_behind kb names q before s f facts rule member r g e;
  found = subst (λ (y : Standing). IsFound kb (q ∷ []) (standing_so s y)) (sym same) (conflict_alike kb names q before s f facts rule member r);
  acyclic = λ all. inl (
    sym (mode_behind kb names q before s f facts rule member r g e)
        ∙ all_or_pareto s.standing.repairs (λ p. subst (λ (y : Standing). y.told ≡ length g.clashes → y.repairs ≡ mode.Pareto → ⊥) same n
        ((all_behind kb names q before s f facts rule member r g e).0 all) p),
    λ d. cc d,
  );
}
takes_conflict s x g kb e same n (line.Head axioms budget facts keep repairs version) k names q before f r = absurd k
takes_conflict s x g kb e same n (line.Cq o query step) k names q before f r = absurd k
takes_conflict s x g kb e same n (line.Ask candidate tuple causes members) k names q before f r = absurd k
takes_conflict s x g kb e same n (line.Try question assume) k names q before f r = absurd k
takes_conflict s x g kb e same n (line.Learn number clause) k names q before f r = absurd k
takes_conflict s x g kb e same n (line.Core number kept dropped) k names q before f r = absurd k
takes_conflict s x g kb e same n (line.Done how core) k names q before f r = absurd k
takes_conflict s x g kb e same n (line.Forget clauses) k names q before f r = absurd k
takes_conflict s x g kb e same n (line.Answer brave ar iar cores texts tuple) k names q before f r = absurd k
takes_conflict s x g kb e same n (line.End answers brave ar iar undecided) k names q before f r = absurd k

abbrev ranked_so : State → Standing → Option Priority → State
ranked_so s x o = record (standing_so s x) { priority = o }

-- where the priority is found and has no cycle
pub takes_last : (s : State) (x : Standing) (g : ConflictGraph) (kb : Knowledge) (o : Option Priority) → s.conflicts ≡ Some g → x ≡ conflict_kept s.standing
    → x.repairs ≡ mode.Pareto → IfSome o (IsPriorityOf kb mode.Pareto) → IsAcyclic kb mode.Pareto → (l : Line) → IsConflictLine l
    → Takes kb s l (ranked_so s x o)
takes_last s x g kb o e same asks of a (line.Conflict facts rule member) k names q before f r = record {
  right = (r, f.right);
  standing = same ∙ kept_behind kb names q before s f facts rule member r g e;
  found = subst (λ (y : Standing). IsFound kb (q ∷ []) (ranked_so s y o)) (sym same) (found_behind kb names q before s f facts rule member r g e o
      (subst (λ (m : Repairs). IfSome o (IsPriorityOf kb m)) (sym asks ∙ ap (λ (y : Standing). y.repairs) same) of));
  acyclic = λ all. inr a;
}
takes_last s x g kb o e same asks of a (line.Head axioms budget facts keep repairs version) k names q before f r = absurd k
takes_last s x g kb o e same asks of a (line.Cq o' query step) k names q before f r = absurd k
takes_last s x g kb o e same asks of a (line.Ask candidate tuple causes members) k names q before f r = absurd k
takes_last s x g kb o e same asks of a (line.Try question assume) k names q before f r = absurd k
takes_last s x g kb o e same asks of a (line.Learn number clause) k names q before f r = absurd k
takes_last s x g kb o e same asks of a (line.Core number kept dropped) k names q before f r = absurd k
takes_last s x g kb o e same asks of a (line.Done how core) k names q before f r = absurd k
takes_last s x g kb o e same asks of a (line.Forget clauses) k names q before f r = absurd k
takes_last s x g kb o e same asks of a (line.Answer brave ar iar cores texts tuple) k names q before f r = absurd k
takes_last s x g kb o e same asks of a (line.End answers brave ar iar undecided) k names q before f r = absurd k

pub takes_last_ok : {T E : Type 0} (r : Result T E) (s : State) (x : Standing) (g : ConflictGraph) (kb : Knowledge) (t : State) → s.conflicts ≡ Some g
    → x ≡ conflict_kept s.standing → x.repairs ≡ mode.Pareto → OnOk r (t ≡ ranked_so s x t.priority) → OnOk r (IfSome t.priority (IsPriorityOf kb mode.Pareto))
    → OnOk r (IsAcyclic kb mode.Pareto) → OnOk r ((l : Line) → IsConflictLine l → Takes kb s l t)
takes_last_ok (Ok v) s x g kb t e same asks is of a = λ l k. subst (λ (u : State). Takes kb s l u) (sym is)
    (takes_last s x g kb t.priority e same asks of a l k)
takes_last_ok (Err y) s x g kb t e same asks is of a = tt

-- where it has a cycle
pub cycle_told : (s : State) (x : Standing) (g : ConflictGraph) (kb : Knowledge) (cycle : List ℕ) → s.conflicts ≡ Some g → x ≡ conflict_kept s.standing
    → x.told ≡ length g.clashes → x.repairs ≡ mode.Pareto → IsCycle (IsBetter kb mode.Pareto) cycle × ¬ IsAcyclic kb mode.Pareto
    → (names : List (List ℕ)) (q : Query) (before : List Line) (l : Line) → IsConflictLine l → Fits (report_on kb names q) before s
    → Right (report_on kb names q) before l → TellsNow (report_on kb names q) before l cycle
cycle_told s x g kb cycle e same all asks round names q before (line.Conflict facts rule member) k f r = record {
  place = refl;
  complete = (all_behind kb names q before s f facts rule member r g e).1 (sym (ap (λ (y : Standing). y.told) same) ∙ all);
  ranked = sym (mode_behind kb names q before s f facts rule member r g e) ∙ (sym (ap (λ (y : Standing). y.repairs) same) ∙ asks);
  round = round.0;
  cyclic = round.1;
}
cycle_told s x g kb cycle e same all asks round names q before (line.Head axioms budget facts keep repairs version) k f r = absurd k
cycle_told s x g kb cycle e same all asks round names q before (line.Cq o query step) k f r = absurd k
cycle_told s x g kb cycle e same all asks round names q before (line.Ask candidate tuple causes members) k f r = absurd k
cycle_told s x g kb cycle e same all asks round names q before (line.Try question assume) k f r = absurd k
cycle_told s x g kb cycle e same all asks round names q before (line.Learn number clause) k f r = absurd k
cycle_told s x g kb cycle e same all asks round names q before (line.Core number kept dropped) k f r = absurd k
cycle_told s x g kb cycle e same all asks round names q before (line.Done how core) k f r = absurd k
cycle_told s x g kb cycle e same all asks round names q before (line.Forget clauses) k f r = absurd k
cycle_told s x g kb cycle e same all asks round names q before (line.Answer brave ar iar cores texts tuple) k f r = absurd k
cycle_told s x g kb cycle e same all asks round names q before (line.End answers brave ar iar undecided) k f r = absurd k

-- ---- the candidate that is asked

abbrev asked_so : State → Standing → Kept → List ℕ → State
asked_so s x k learnable = record s { standing = x; clauses = Some k; learnable = Some learnable }

selector_below : (n candidate answers size variables : ℕ) → candidate ≡ answers → answers < size → n + size ≤ variables → n + candidate < variables
selector_below n candidate answers size variables e l h = omega arith

-- the selector of a candidate that is right is a variable, and its causes are of facts of the table
module _ (kb : Knowledge) (names : List (List ℕ)) (q : Query) (before : List Line) (s : State) (f : Fits (report_on kb names q) before s)
    (candidate : ℕ) (tuple : List ℕ) (causes : List (List ℕ)) (members : List ℕ)
    (r : Right (report_on kb names q) before (line.Ask candidate tuple causes members)) where
  pub asked_below : (k : Kept) → AreKnown s → s.clauses ≡ Some k → length kb.facts + candidate < k.variables
  asked_below k known e =
      let (cs, d) = the_some s.candidates known.candidates in
      let right = ((rules_at kb names q before s f).ask cs
      (subst (λ (t : Standing). AreCandidatesOf kb (query_at (q ∷ []) t.ends) cs) f.standing
      (some_has (AreCandidatesOf kb (query_at (q ∷ []) s.standing.ends)) s.candidates cs d f.found.candidates)) candidate tuple causes members).1 r.own in
      let enough = subst (λ (o : Option (List Candidate)). IsSomeAnd o (λ xs. length kb.facts + length xs ≤ k.variables)) d
      (some_has (λ (h : Kept). IsSomeAnd s.candidates (λ xs. length kb.facts + length xs ≤ h.variables)) s.clauses k e f.found.selectors) in
      selector_below (length kb.facts) candidate s.standing.answers (length cs) k.variables right.number
      (slice_get_within cs s.standing.answers (record { tuple = tuple; causes = causes }) right.next) enough

  within : (cause : List ℕ) → Contains causes cause → (i : ℕ) → Contains cause i → i < length kb.facts
  within = listed_within kb (query_of (report_on kb names q) before) tuple causes r.own.causes_are

  pub asked_causes : (k : Kept) → s.clauses ≡ Some k → All (All (λ i. i < k.variables)) causes
  asked_causes k e = causes_below kb k.variables (record { candidate = candidate; tuple = tuple; causes = causes }) within
      (some_has (HaveVariables kb s.standing) s.clauses k e f.found.variables).facts

  causes_within : All (λ cause. All (λ i. i < length kb.facts) cause) causes
  causes_within = All-of (λ (cause : List ℕ). All (λ i. i < length kb.facts) cause) causes
      (λ cause m. All-of (λ (i : ℕ). i < length kb.facts) cause (within cause m))

  closed_here : is_answering s.standing.place ≡ false
  closed_here = ap is_answering (place_is kb names q before s f) ∙ ask_closed OneQuery kb.axioms (place_of before) r.order

-- so the selector is one number more
pub asked_fits : (kb : Knowledge) (s : State) (g : ConflictGraph) (k : Kept) (n candidate : ℕ) (tuple : List ℕ) (causes : List (List ℕ)) (members : List ℕ)
    → FitsBefore kb s (line.Ask candidate tuple causes members) → AreKnown s → s.conflicts ≡ Some g → s.clauses ≡ Some k → n ≡ g.facts
    → (n + candidate < k.variables) × (k.variables ≤ 2 ^ 31)
asked_fits kb s g k n candidate tuple causes members w known e d size = (
  subst (λ (m : ℕ). m + candidate < k.variables) (sym (size ∙ (graph_at kb w.names w.query w.before s w.fits g e).facts))
      (asked_below kb w.names w.query w.before s w.fits candidate tuple causes members w.right k known d),
  (some_has (HaveVariables kb s.standing) s.clauses k d w.fits.found.variables).few,
)

pub takes_ask : (s : State) (x : Standing) (g : ConflictGraph) (k next' : Kept) (learnable : List ℕ) (n candidate : ℕ) (tuple : List ℕ)
    (causes : List (List ℕ)) → AreKnown s → s.conflicts ≡ Some g → s.clauses ≡ Some k → n ≡ g.facts + candidate → next'.variables ≡ k.variables
    → ((base learned : List (List ℕ)) → Holds k base [] learned → Holds next' base (map (cause_clause n) causes) learned)
    → ((kb : Knowledge) → AreConflictsOf kb g → AreConflictFacts kb causes learnable)
    → ((facts : ℕ) (members : List ℕ) → x ≡ after facts s.standing (line.Ask candidate tuple causes members))
    → (kb : Knowledge) (members : List ℕ) → Takes kb s (line.Ask candidate tuple causes members) (asked_so s x next' learnable)
takes_ask s x g k next' learnable n candidate tuple causes known e d size same open' are kept kb members names q before f r =
    next kb names q before s f (line.Ask candidate tuple causes members) r (asked_so s x next' learnable) (kept (length kb.facts) members) (λ c. c)
    (subst (λ (y : Standing). IsFound kb (q ∷ []) (asked_so s y next' learnable)) (sym (kept (length kb.facts) members)) (record {
      plain = f.found.plain;
      conflicts = f.found.conflicts;
      priority = f.found.priority;
      over = f.found.over;
      candidates = f.found.candidates;
      clauses = follows_ask (length kb.facts) kb s.standing k next' (some_has (FollowsLines kb s.standing) s.clauses k d f.found.clauses) candidate tuple
          causes members
          (closed_here kb names q before s f candidate tuple causes members r)
          (subst (λ (m : ℕ). (base learned : List (List ℕ)) → Holds k base [] learned → Holds next' base (map (cause_clause m) causes) learned) selector open');
      variables = record {
        few = subst (λ (m : ℕ). m ≤ 2 ^ 31) (sym same) old.few;
        facts = subst (λ (m : ℕ). length kb.facts ≤ m) (sym same) old.facts;
        selector = λ a. subst (λ (m : ℕ). length kb.facts + candidate < m) (sym same)
            (asked_below kb names q before s f candidate tuple causes members r k known d);
        assumed = λ t. absurd t;
      };
      selectors = subst (λ (m : ℕ). IsSomeAnd s.candidates (λ xs. length kb.facts + length xs ≤ m)) (sym same)
          (some_has (λ (h : Kept). IsSomeAnd s.candidates (λ xs. length kb.facts + length xs ≤ h.variables)) s.clauses k d f.found.selectors);
      causes = λ a. causes_within kb names q before s f candidate tuple causes members r;
      learnable = λ a. are kb (graph_at kb names q before s f g e);
      has_learnable = λ a. refl;
      known = λ b. record { conflicts = known.conflicts; priority = known.priority; candidates = known.candidates; clauses = refl };
      early = λ c. cc c;
    }))
  where
    old : HaveVariables kb s.standing k
    old = some_has (HaveVariables kb s.standing) s.clauses k d f.found.variables

    selector : n ≡ length kb.facts + candidate
    selector = size ∙ ap (λ (m : ℕ). m + candidate) (graph_at kb names q before s f g e).facts

-- ---- lines that change the live clauses

abbrev clauses_so : State → Standing → Kept → State
clauses_so s x k = record s { standing = x; clauses = Some k }

-- the variables of a line that asks for no candidate
variables_stay : (kb : Knowledge) (s t : Standing) (k next' : Kept) → next'.variables ≡ k.variables → t.asked ≡ s.asked
    → (is_answering t.place ≡ true → is_answering s.place ≡ true) → (IsTrying t.place → AreBelow k.variables t.assumed) → HaveVariables kb s k
    → HaveVariables kb t next'
variables_stay kb s t k next' same asks open' trying h = record {
  few = subst (λ (m : ℕ). m ≤ 2 ^ 31) (sym same) h.few;
  facts = subst (λ (m : ℕ). length kb.facts ≤ m) (sym same) h.facts;
  selector = λ a. subst (λ (m : ℕ). length kb.facts + t.asked.candidate < m) (sym same)
      (subst (λ (y : Asked). length kb.facts + y.candidate < k.variables) (sym asks) (h.selector (open' a)));
  assumed = λ b. subst (λ (m : ℕ). AreBelow m t.assumed) (sym same) (trying b);
}

selectors_stay : (kb : Knowledge) (q : Query) (s : State) (k next' : Kept) → IsFound kb (q ∷ []) s → s.clauses ≡ Some k → next'.variables ≡ k.variables
    → IsSomeAnd s.candidates (λ xs. length kb.facts + length xs ≤ next'.variables)
selectors_stay kb q s k next' f d same = subst (λ (m : ℕ). IsSomeAnd s.candidates (λ xs. length kb.facts + length xs ≤ m)) (sym same)
    (some_has (λ (h : Kept). IsSomeAnd s.candidates (λ xs. length kb.facts + length xs ≤ h.variables)) s.clauses k d f.selectors)

-- a learned clause is of the variables
pub learn_below : (kb : Knowledge) (s : State) (number : ℕ) (clause : List ℕ) (k : Kept) → FitsBefore kb s (line.Learn number clause) → s.clauses ≡ Some k
    → AreBelow k.variables clause
learn_below kb s number clause k w e =
    let at = place_is kb w.names w.query w.before s w.fits ∙ w.right.order in
    let (live, are, has') = live_of kb w.names w.query w.before s w.fits k e in
    let learn = ((rules_at kb w.names w.query w.before s w.fits).learn live are number clause).1 w.right.own in
    literals_below kb s.standing.asked k.variables clause
    ((some_has (HaveVariables kb s.standing) s.clauses k e w.fits.found.variables).selector (ap is_answering at)) learn.literals

pub takes_learn : (s : State) (x : Standing) (k next' : Kept) (number : ℕ) (clause : List ℕ) → s.clauses ≡ Some k → next'.variables ≡ k.variables
    → ((base causes learned : List (List ℕ)) → Holds k base causes learned → Holds next' base causes (learned ++ clause ∷ []))
    → ((facts : ℕ) → x ≡ after facts s.standing (line.Learn number clause))
    → (kb : Knowledge) → Takes kb s (line.Learn number clause) (clauses_so s x next')
takes_learn s x k next' number clause d same learn kept kb names q before f r =
    next kb names q before s f (line.Learn number clause) r (clauses_so s x next') (kept (length kb.facts)) (λ c. c)
    (subst (λ (y : Standing). IsFound kb (q ∷ []) (clauses_so s y next')) (sym (kept (length kb.facts))) (record {
      plain = f.found.plain;
      conflicts = f.found.conflicts;
      priority = f.found.priority;
      over = f.found.over;
      candidates = f.found.candidates;
      clauses = follows_learn (length kb.facts) kb s.standing k next' (some_has (FollowsLines kb s.standing) s.clauses k d f.found.clauses) number clause
          answering learn;
      variables = variables_stay kb s.standing (after (length kb.facts) s.standing (line.Learn number clause)) k next' same refl (λ a. answering)
          (λ t. old.assumed (subst IsTrying (sym at) tt)) old;
      selectors = selectors_stay kb q s k next' f.found d same;
      causes = λ a. f.found.causes answering;
      learnable = λ a. f.found.learnable answering;
      has_learnable = λ a. f.found.has_learnable answering;
      known = λ b. let w = f.found.known (subst IsBegun (sym at) tt) in
          record { conflicts = w.conflicts; priority = w.priority; candidates = w.candidates; clauses = refl };
      early = λ c. cc c;
    }))
  where
    at : s.standing.place ≡ place.InTry
    at = place_is kb names q before s f ∙ r.order

    answering : is_answering s.standing.place ≡ true
    answering = ap is_answering at

    old : HaveVariables kb s.standing k
    old = some_has (HaveVariables kb s.standing) s.clauses k d f.found.variables

pub takes_learn_ok : {T E : Type 0} (r : Result T E) (s : State) (x : Standing) (k next' : Kept) (number : ℕ) (clause : List ℕ) → s.clauses ≡ Some k
    → next'.variables ≡ k.variables
    → ((base causes learned : List (List ℕ)) → Holds k base causes learned → Holds next' base causes (learned ++ clause ∷ []))
    → OnOk r ((facts : ℕ) → x ≡ after facts s.standing (line.Learn number clause))
    → OnOk r ((kb : Knowledge) → Takes kb s (line.Learn number clause) (clauses_so s x next'))
takes_learn_ok (Ok v) s x k next' number clause d same learn w = takes_learn s x k next' number clause d same learn w
takes_learn_ok (Err e) s x k next' number clause d same learn w = tt

pub takes_forget : (s : State) (x : Standing) (k next' : Kept) (numbers : List ℕ) → AreKnown s → s.clauses ≡ Some k → next'.variables ≡ k.variables
    → ((base causes learned : List (List ℕ)) → length learned ≡ length (map (λ (c : Learned). not (has numbers c.number)) s.standing.learned)
    → Holds k base causes learned → Holds next' base causes (kept_at (map (λ (c : Learned). not (has numbers c.number)) s.standing.learned) learned))
    → ((facts : ℕ) → x ≡ after facts s.standing (line.Forget numbers))
    → (kb : Knowledge) → Takes kb s (line.Forget numbers) (clauses_so s x next')
takes_forget s x k next' numbers known d same keep kept kb names q before f r =
    next kb names q before s f (line.Forget numbers) r (clauses_so s x next') (kept (length kb.facts)) (λ c. c)
    (subst (λ (y : Standing). IsFound kb (q ∷ []) (clauses_so s y next')) (sym (kept (length kb.facts))) (record {
      plain = f.found.plain;
      conflicts = f.found.conflicts;
      priority = f.found.priority;
      over = f.found.over;
      candidates = f.found.candidates;
      clauses = follows_forget (length kb.facts) kb s.standing k next' (some_has (FollowsLines kb s.standing) s.clauses k d f.found.clauses) numbers
          (ap is_answering (place_is kb names q before s f) ∙ between_closed OneQuery kb.axioms (place_of before) r.order) keep;
      variables = variables_stay kb s.standing (after (length kb.facts) s.standing (line.Forget numbers)) k next' same refl (λ a. cc a)
          (λ t. absurd t) (some_has (HaveVariables kb s.standing) s.clauses k d f.found.variables);
      selectors = selectors_stay kb q s k next' f.found d same;
      causes = λ a. cc a;
      learnable = λ a. cc a;
      has_learnable = λ a. cc a;
      known = λ b. record { conflicts = known.conflicts; priority = known.priority; candidates = known.candidates; clauses = refl };
      early = λ c. cc c;
    }))

pub takes_answer : (kb : Knowledge) (s : State) (x : Standing) (k middle next' : Kept) (brave ar iar : Verdict) → AreKnown s → s.clauses ≡ Some k
    → middle.variables ≡ k.variables → next'.variables ≡ middle.variables
    → ((base causes learned : List (List ℕ)) → Holds k base causes learned → Holds middle base [] learned)
    → ((base causes learned : List (List ℕ))
    → length learned ≡ length (map (λ (c : Learned). not (has_variable (length kb.facts + s.standing.asked.candidate) c.clause)) s.standing.learned)
    → Holds middle base causes learned
    → Holds next' base causes (kept_at (map (λ (c : Learned). not (has_variable (length kb.facts + s.standing.asked.candidate) c.clause)) s.standing.learned)
    learned))
    → ((cores : List ℕ) (texts : List (List ℕ)) (tuple : List ℕ) → x ≡ after (length kb.facts) s.standing (line.Answer brave ar iar cores texts tuple))
    → (cores : List ℕ) (texts : List (List ℕ)) (tuple : List ℕ) → Takes kb s (line.Answer brave ar iar cores texts tuple) (clauses_so s x next')
takes_answer kb s x k middle next' brave ar iar known d first second close keep kept cores texts tuple names q before f r =
    next kb names q before s f (line.Answer brave ar iar cores texts tuple) r (clauses_so s x next') (kept cores texts tuple) (λ c. c)
    (subst (λ (y : Standing). IsFound kb (q ∷ []) (clauses_so s y next')) (sym (kept cores texts tuple)) (record {
      plain = f.found.plain;
      conflicts = f.found.conflicts;
      priority = f.found.priority;
      over = f.found.over;
      candidates = f.found.candidates;
      clauses = follows_answer (length kb.facts) kb s.standing k next' (some_has (FollowsLines kb s.standing) s.clauses k d f.found.clauses) middle brave ar
          iar cores texts tuple
          close keep;
      variables = variables_stay kb s.standing (after (length kb.facts) s.standing (line.Answer brave ar iar cores texts tuple)) k next' (second ∙ first) refl
          (λ a. cc a)
          (λ t. absurd t) (some_has (HaveVariables kb s.standing) s.clauses k d f.found.variables);
      selectors = selectors_stay kb q s k next' f.found d (second ∙ first);
      causes = λ a. cc a;
      learnable = λ a. cc a;
      has_learnable = λ a. cc a;
      known = λ b. record { conflicts = known.conflicts; priority = known.priority; candidates = known.candidates; clauses = refl };
      early = λ c. cc c;
    }))

-- ---- the end

abbrev ended_so : State → Standing → State
ended_so s x = record s { standing = x; candidates = None; clauses = None }

pub takes_end : (s : State) (x : Standing) (kb : Knowledge) (answers brave ar iar undecided : ℕ)
    → x ≡ after (length kb.facts) s.standing (line.End answers brave ar iar undecided) → Takes kb s (line.End answers brave ar iar undecided) (ended_so s x)
takes_end s x kb answers brave ar iar undecided e names q before f r =
    next kb names q before s f (line.End answers brave ar iar undecided) r (ended_so s x) e (λ c. c)
    (subst (λ (y : Standing). IsFound kb (q ∷ []) (ended_so s y)) (sym e) (record {
      plain = f.found.plain;
      conflicts = f.found.conflicts;
      priority = f.found.priority;
      over = f.found.over;
      candidates = tt;
      clauses = tt;
      variables = tt;
      selectors = tt;
      causes = λ a. cc a;
      learnable = λ a. cc a;
      has_learnable = λ a. cc a;
      known = λ b. absurd b;
      early = λ c. cc c;
    }))
