-- The rule of a line's own kind over a state that fits the lines before it.
use Rattle.std.proofs.Common.{◌≡◌, ◌↔◌, ◌⊎◌, inl, inr, ℕ, ◌+◌, ◌<◌, List, [], ◌∷◌, length, Bool, true, Option, Some, sym, ap, subst, ◌∙◌, IsTrue}
use Rattle.std.specs.Prelude.{Result, Ok, Err, IfOk}
use Rattle.std.specs.Option.{IfSome, IsSome}
use Rattle.clause_meaning.specs.Literals.{AreBelow}
use Rattle.cq_steps.specs.declared.moves.Move.{Move}
use Rattle.cq_terms.specs.declared.axioms.Axiom.{Axiom}
use Rattle.cq_terms.specs.Conflicts.{ConflictGraph}
use Rattle.cq_terms.specs.Knowledge.{Knowledge}
use Rattle.cq_terms.specs.Query.{Query}
use Rattle.cq_meaning.specs.ConflictGraphs.{AreConflictsOf}
use Rattle.priority_graph.specs.Inputs.{IsPriorityOf}
use Rattle.priority_graph.specs.Priority.{Priority, IsOver}
use Rattle.report_text.specs.declared.line.Line.{Line}
use Rattle.report_text.specs.declared.line.Line.TheVariants as line
use Rattle.report_text.specs.declared.line.How.{How}
use Rattle.report_text.specs.declared.line.Origin.{Origin}
use Rattle.report_text.specs.declared.line.Question.{Question}
use Rattle.report_text.specs.declared.line.Verdict.{Verdict}
use Rattle.report_rules.specs.declared.place.Place.{Place}
use Rattle.report_rules.specs.declared.place.Place.TheVariants as place
use Rattle.report_rules.specs.ConflictLists.{AreConflictFacts}
use Rattle.report_rules.specs.Inputs.{OneQuery, report_on, query_at}
use Rattle.report_rules.specs.Order.{MayCome, is_answering}
use Rattle.report_laws.specs.AtStanding.{Candidate, AreCandidatesOf, JoinsAt, ConflictAt, AskAt, LearnAt}
use Rattle.report_laws.specs.AtStanding.{CoreAt, DoneAt, ForgetAt, AnswerAt, EndAt, is_right_try}
use Rattle.report_laws.specs.AtStanding.{evidence_at}
use Rattle.report_laws.specs.ConflictLaws.{facts_told}
use Rattle.report_laws.specs.Standing.{Standing, members_at}
use Rattle.plain_finding.specs.Kept.{Kept, HasLive}
use Rattle.refutation_confirmer.specs.Kinds.{IsBegun, IsBehindBlocks, IsBehindConflicts}
use Rattle.refutation_confirmer.specs.State.{State, Fits, AreKnown, HaveVariables, IsTrying}
use Rattle.refutation_confirmer.specs.Steps.{Comes, IsReadyFor, TellsRule}
use Rattle.refutation_confirmer.proofs.FittingLemmas.{some_has, rules_at, place_is, lists_at, graph_at, live_of}

-- what holds of the value under each premise
pub if_ok_under : {T E X : Type 0} (F : X → Type 0) (P : X → T → Type 0) (r : Result T E) → ((x : X) → F x → IfOk r (P x))
    → IfOk r (λ v. (x : X) → F x → P x v)
if_ok_under F P (Ok v) h = λ x f. h x f
if_ok_under F P (Err e) h = tt

-- a test of the one is a test of the other
pub told_by : (A B : Type 0) (b : Bool) → IsTrue b ↔ A → A ↔ B → IsTrue b ↔ B
told_by A B b w v = ((λ t. v.0 (w.0 t)), (λ h. w.1 (v.1 h)))

-- ---- what the place says

-- the line stands in an answer
abbrev IsOfAnswer : Line → Type 0
IsOfAnswer (line.Try _ _) = Unit {0}
IsOfAnswer (line.Learn _ _) = Unit {0}
IsOfAnswer (line.Core _ _ _) = Unit {0}
IsOfAnswer (line.Done _ _) = Unit {0}
IsOfAnswer (line.Answer _ _ _ _ _ _) = Unit {0}
IsOfAnswer _ = ⊥

pub begun_at : (axioms : List Axiom) (p : Place) (l : Line) → MayCome OneQuery axioms p l → IsOfAnswer l → IsBegun p
begun_at axioms p (line.Try question assume) m k = subst IsBegun (sym m) tt
begun_at axioms p (line.Learn number clause) m k = subst IsBegun (sym m) tt
begun_at axioms p (line.Core number kept dropped) m k = subst IsBegun (sym m) tt
begun_at axioms p (line.Done how core) (inl e) k = subst IsBegun (sym e) tt
begun_at axioms p (line.Done how core) (inr e) k = subst IsBegun (sym e) tt
begun_at axioms p (line.Answer brave ar iar cores names tuple) m k = subst IsBegun (sym m) tt
begun_at axioms p (line.Head axioms' budget facts keep repairs version) m k = absurd k
begun_at axioms p (line.Cq o query step) m k = absurd k
begun_at axioms p (line.Conflict facts rule member) m k = absurd k
begun_at axioms p (line.Ask candidate tuple causes members) m k = absurd k
begun_at axioms p (line.Forget clauses) m k = absurd k
begun_at axioms p (line.End answers brave ar iar undecided) m k = absurd k

-- in an answer all is known
pub known_in : (kb : Knowledge) (s : State) (l : Line) → IsOfAnswer l → Comes kb s l → AreKnown s
known_in kb s l k c = c.some.fits.found.known (begun_at kb.axioms s.standing.place l c.order k)

-- what the rule of the line asks for is known, where what stands behind the conflicts has it
pub ready_for : (kb : Knowledge) (s : State) (l : Line) → Comes kb s l → (IsBehindBlocks l → IsSome s.conflicts) → ¬ IsBehindConflicts l → IsReadyFor s l
ready_for kb s (line.Head axioms budget facts keep repairs version) c known n = tt
ready_for kb s (line.Cq o query step) c known n = tt
ready_for kb s (line.Conflict facts rule member) c known n = known tt
ready_for kb s (line.Ask candidate tuple causes members) c known n = absurd (n tt)
ready_for kb s (line.Forget clauses) c known n = absurd (n tt)
ready_for kb s (line.End answers brave ar iar undecided) c known n = absurd (n tt)
ready_for kb s (line.Try question assume) c known n = known_in kb s (line.Try question assume) tt c
ready_for kb s (line.Learn number clause) c known n = known_in kb s (line.Learn number clause) tt c
ready_for kb s (line.Core number kept dropped) c known n = known_in kb s (line.Core number kept dropped) tt c
ready_for kb s (line.Done how core) c known n = known_in kb s (line.Done how core) tt c
ready_for kb s (line.Answer brave ar iar cores names tuple) c known n = known_in kb s (line.Answer brave ar iar cores names tuple) tt c

pub ready_behind : (s : State) (l : Line) → IsBehindConflicts l → AreKnown s → IsReadyFor s l
ready_behind s (line.Ask candidate tuple causes members) k known = known
ready_behind s (line.Forget clauses) k known = known
ready_behind s (line.End answers brave ar iar undecided) k known = known
ready_behind s (line.Head axioms budget facts keep repairs version) k known = absurd k
ready_behind s (line.Cq o query step) k known = absurd k
ready_behind s (line.Conflict facts rule member) k known = absurd k
ready_behind s (line.Try question assume) k known = absurd k
ready_behind s (line.Learn number clause) k known = absurd k
ready_behind s (line.Core number kept dropped) k known = absurd k
ready_behind s (line.Done how core) k known = absurd k
ready_behind s (line.Answer brave ar iar cores names tuple) k known = absurd k

in_try : (p : Place) → (p ≡ place.InTry) ⊎ (p ≡ place.AfterCore) → IsTrying p × (is_answering p ≡ true)
in_try p (inl e) = (subst IsTrying (sym e) tt, ap is_answering e)
in_try p (inr e) = (subst IsTrying (sym e) tt, ap is_answering e)

pub variables_have : (kb : Knowledge) (s : State) (l : Line) (k : Kept) → Comes kb s l → s.clauses ≡ Some k → HaveVariables kb s.standing k
variables_have kb s l k c e = some_has (HaveVariables kb s.standing) s.clauses k e c.some.fits.found.variables

-- what a `learn` line is judged by
pub learn_assumed : (kb : Knowledge) (s : State) (k : Kept) (number : ℕ) (clause : List ℕ) → Comes kb s (line.Learn number clause) → s.clauses ≡ Some k
    → AreBelow k.variables s.standing.assumed × (length kb.facts + s.standing.asked.candidate < k.variables)
learn_assumed kb s k number clause c e =
    let h = variables_have kb s (line.Learn number clause) k c e in
    let t = in_try s.standing.place (inl c.order) in
    (h.assumed t.0, h.selector t.1)

pub learn_learnable : (kb : Knowledge) (s : State) (number : ℕ) (clause : List ℕ) → Comes kb s (line.Learn number clause) → IsSome s.learnable
learn_learnable kb s number clause c = c.some.fits.found.has_learnable (in_try s.standing.place (inl c.order)).1

-- what a `done` line is judged by
pub done_assumed : (kb : Knowledge) (s : State) (k : Kept) (how : How) (core : Option ℕ) → Comes kb s (line.Done how core) → s.clauses ≡ Some k
    → AreBelow k.variables s.standing.assumed
done_assumed kb s k how core c e = (variables_have kb s (line.Done how core) k c e).assumed (in_try s.standing.place c.order).0

-- the priority is over the conflicts
pub over_at : (kb : Knowledge) (s : State) (l : Line) (g : ConflictGraph) (p : Priority) → Comes kb s l → s.conflicts ≡ Some g → s.priority ≡ Some p
    → IsOver p g
over_at kb s l g p c e d = some_has (λ (x : Priority). IsOver x g) s.priority p d
    (some_has (λ (h : ConflictGraph). IfSome s.priority (λ x. IsOver x h)) s.conflicts g e c.some.fits.found.over)

-- ---- the rules

module _ (kb : Knowledge) (names : List (List ℕ)) (q : Query) (s : State) where
  module _ (before : List Line) (f : Fits (report_on kb names q) before s) where
    candidates_at : (cs : List Candidate) → s.candidates ≡ Some cs → AreCandidatesOf kb (query_at (q ∷ []) s.standing.ends) cs
    candidates_at cs e = some_has (AreCandidatesOf kb (query_at (q ∷ []) s.standing.ends)) s.candidates cs e f.found.candidates

  pub tells_cq : {E : Type 0} (r : Result Bool E) (o : Origin) (member : Query) (step : Option (ℕ × Move))
      → IfOk r (λ b. IsTrue b ↔ JoinsAt (report_on kb names q) s.standing o (members_at s.standing.blocks o) member step)
      → IfOk r (TellsRule (report_on kb names q) s (line.Cq o member step))
  tells_cq (Ok b) o member step w = λ before f. told_by _ _ b w ((rules_at kb names q before s f).cq o member step)
  tells_cq (Err e) o member step w = tt

  pub tells_conflict : {E : Type 0} (r : Result Bool E) (g : ConflictGraph) (facts : List ℕ) (rule member : ℕ) → s.conflicts ≡ Some g
      → ((kb' : Knowledge) → kb'.facts ≡ s.plain → IfOk r (λ b. IsTrue b ↔ ConflictAt kb' (facts_told g.clashes) s.standing facts rule member))
      → IfOk r (TellsRule (report_on kb names q) s (line.Conflict facts rule member))
  tells_conflict (Ok b) g facts rule member e w = λ before f. told_by _ _ b (w kb (sym f.found.plain))
      ((rules_at kb names q before s f).conflict (facts_told g.clashes) (lists_at kb names q before s f g e) facts rule member)
  tells_conflict (Err x) g facts rule member e w = tt

  pub tells_ask : {E : Type 0} (r : Result Bool E) (cs : List Candidate) (candidate : ℕ) (tuple : List ℕ) (causes : List (List ℕ)) (members : List ℕ)
      → s.candidates ≡ Some cs
      → ((kb' : Knowledge) → kb'.facts ≡ s.plain → IfOk r (λ b. IsTrue b ↔ AskAt kb' cs s.standing candidate tuple causes members))
      → IfOk r (TellsRule (report_on kb names q) s (line.Ask candidate tuple causes members))
  tells_ask (Ok b) cs candidate tuple causes members e w = λ before f. told_by _ _ b (w kb (sym f.found.plain))
      ((rules_at kb names q before s f).ask cs
      (subst (λ (t : Standing). AreCandidatesOf kb (query_at (q ∷ []) t.ends) cs) f.standing (candidates_at before f cs e)) candidate tuple causes members)
  tells_ask (Err x) cs candidate tuple causes members e w = tt

  pub tells_try : (b : Bool) (question : Question) (assume : List ℕ) → s.standing.place ≡ place.InAnswer
      → b ≡ is_right_try (evidence_at kb s.standing []) question assume → TellsRule (report_on kb names q) s (line.Try question assume) b
  tells_try b question assume at e before f =
      let w = (rules_at kb names q before s f).try' (sym (place_is kb names q before s f) ∙ at) question assume in
      ((λ t. w.0 (sym e ∙ t)), (λ h. e ∙ w.1 h))

  pub tells_learn : {E : Type 0} (r : Result Bool E) (k : Kept) (learnable : List ℕ) (number : ℕ) (clause : List ℕ) → s.clauses ≡ Some k
      → s.learnable ≡ Some learnable → s.standing.place ≡ place.InTry
      → IfOk r (λ b. (live : List (List ℕ)) → HasLive k live → AreConflictFacts kb s.standing.asked.causes learnable
      → IsTrue b ↔ LearnAt kb live s.standing number clause)
      → IfOk r (TellsRule (report_on kb names q) s (line.Learn number clause))
  tells_learn (Ok b) k learnable number clause e d at w = λ before f.
      let (live, are, has) = live_of kb names q before s f k e in
      let facts = some_has (AreConflictFacts kb s.standing.asked.causes) s.learnable learnable d (f.found.learnable (ap is_answering at)) in
      told_by _ _ b (w live has facts) ((rules_at kb names q before s f).learn live are number clause)
  tells_learn (Err x) k learnable number clause e d at w = tt

  pub tells_core : (b : Bool) (g : ConflictGraph) (p : Priority) (number : ℕ) (kept dropped : List ℕ) → s.conflicts ≡ Some g → s.priority ≡ Some p
      → ((kb' : Knowledge) → AreConflictsOf kb' g → IsTrue b ↔ CoreAt kb' p s.standing number kept dropped)
      → TellsRule (report_on kb names q) s (line.Core number kept dropped) b
  tells_core b g p number kept dropped e d w before f = told_by _ _ b (w kb (graph_at kb names q before s f g e))
      ((rules_at kb names q before s f).core p
      (subst (λ (t : Standing). IsPriorityOf kb t.repairs p) f.standing (some_has (IsPriorityOf kb s.standing.repairs) s.priority p d f.found.priority))
      number kept dropped)

  pub tells_done : {E : Type 0} (r : Result Bool E) (g : ConflictGraph) (p : Priority) (k : Kept) (how : How) (core : Option ℕ) → s.conflicts ≡ Some g
      → s.priority ≡ Some p → s.clauses ≡ Some k → (s.standing.place ≡ place.InTry) ⊎ (s.standing.place ≡ place.AfterCore)
      → IfOk r (λ b. (kb' : Knowledge) (live : List (List ℕ)) → HasLive k live → AreConflictsOf kb' g → IsPriorityOf kb' s.standing.repairs p
      → IsTrue b ↔ DoneAt kb' live s.standing how core)
      → IfOk r (TellsRule (report_on kb names q) s (line.Done how core))
  tells_done (Ok b) g p k how core e d h at w = λ before f.
      let (live, are, has) = live_of kb names q before s f k h in
      let same = sym (place_is kb names q before s f) in
      told_by _ _ b (w kb live has (graph_at kb names q before s f g e) (some_has (IsPriorityOf kb s.standing.repairs) s.priority p d f.found.priority))
      ((rules_at kb names q before s f).done (elim at [ inl x ↦ inl (same ∙ x) | inr x ↦ inr (same ∙ x) ]) live are how core)
  tells_done (Err x) g p k how core e d h at w = tt

  pub tells_forget : {E : Type 0} (r : Result Bool E) (numbers : List ℕ) → IfOk r (λ b. IsTrue b ↔ ForgetAt s.standing numbers)
      → IfOk r (TellsRule (report_on kb names q) s (line.Forget numbers))
  tells_forget (Ok b) numbers w = λ before f. told_by _ _ b w ((rules_at kb names q before s f).forget numbers)
  tells_forget (Err x) numbers w = tt

  pub tells_answer : (b : Bool) (brave ar iar : Verdict) (cores : List ℕ) (texts : List (List ℕ)) (tuple : List ℕ)
      → IsTrue b ↔ AnswerAt kb names s.standing brave ar iar cores texts tuple
      → TellsRule (report_on kb names q) s (line.Answer brave ar iar cores texts tuple) b
  tells_answer b brave ar iar cores texts tuple w before f =
      told_by _ _ b w ((rules_at kb names q before s f).answer brave ar iar cores texts tuple)

  pub tells_end : (b : Bool) (cs : List Candidate) (answers brave ar iar undecided : ℕ) → s.candidates ≡ Some cs
      → IsTrue b ↔ EndAt cs s.standing answers brave ar iar undecided
      → TellsRule (report_on kb names q) s (line.End answers brave ar iar undecided) b
  tells_end b cs answers brave ar iar undecided e w before f = told_by _ _ b w ((rules_at kb names q before s f).end cs
      (subst (λ (t : Standing). AreCandidatesOf kb (query_at (q ∷ []) t.ends) cs) f.standing (candidates_at before f cs e)) answers brave ar iar undecided)
