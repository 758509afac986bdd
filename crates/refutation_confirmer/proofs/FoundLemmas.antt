-- What was found out stays right behind each further line.
use Rattle.std.proofs.Common.{◌≡◌, ℕ, ◌+◌, ◌<◌, Bool, true≢false, cond, List, [], length, map, All, Option, Some, None, sym, subst, ap, ◌∙◌}
use Rattle.std.specs.Option.{IfSome}
use Rattle.cq_terms.specs.declared.facts.Repairs.{Repairs}
use Rattle.cq_terms.specs.Knowledge.{Knowledge}
use Rattle.cq_terms.specs.Query.{Query}
use Rattle.clause_meaning.specs.Literals.{AreBelow}
use Rattle.priority_graph.specs.Inputs.{IsPriorityOf}
use Rattle.report_rules.specs.declared.place.Place.TheVariants.{AtStart}
use Rattle.report_rules.specs.Inputs.{query_at}
use Rattle.report_rules.specs.ConflictLists.{AreConflictFacts}
use Rattle.report_rules.specs.Live.{Learned}
use Rattle.report_rules.specs.Order.{is_answering}
use Rattle.report_rules.specs.Tries.{Asked}
use Rattle.report_laws.specs.LiveLists.{AreBaseClauses, cause_clauses}
use Rattle.report_laws.specs.Standing.{Standing, standing_of}
use Rattle.report_laws.specs.AtStanding.{AreCandidatesOf}
use Rattle.plain_finding.specs.Kept.{Kept, Holds}
use Rattle.refutation_confirmer.specs.Following.{FollowsLines}
use Rattle.refutation_confirmer.specs.Kinds.{IsBegun}
use Rattle.refutation_confirmer.specs.State.{State, IsFound, HaveVariables, IsTrying}

-- what a line leaves that doesn't touch what the live clauses and the candidates are told by
pub record Alike (s t : Standing) : Type 0 where
  pub repairs : s.repairs ≡ t.repairs
  pub ends : s.ends ≡ t.ends
  pub asked : s.asked ≡ t.asked
  pub learned : s.learned ≡ t.learned
  pub answering : is_answering s.place ≡ is_answering t.place

-- what holds of the thing, if there is one
pub if_some : {X : Type 0} (P Q : X → Type 0) (o : Option X) → ((x : X) → P x → Q x) → IfSome o P → IfSome o Q
if_some P Q None f h = h
if_some P Q (Some x) f h = f x h

pub follows_alike : (kb : Knowledge) (s t : Standing) (k : Kept) → Alike s t → FollowsLines kb s k → FollowsLines kb t k
follows_alike kb s t k w f = record {
  base = f.base;
  are_base = subst (λ (m : Repairs). AreBaseClauses kb m f.base) w.repairs f.are_base;
  holds = subst (λ (ls : List Learned). Holds k f.base (cond (is_answering t.place) (cause_clauses kb t.asked) []) (map (λ (c : Learned). c.clause) ls))
      w.learned
      (subst (λ (a : Asked). Holds k f.base (cond (is_answering t.place) (cause_clauses kb a) []) (map (λ (c : Learned). c.clause) s.learned)) w.asked
      (subst (λ (b : Bool). Holds k f.base (cond b (cause_clauses kb s.asked) []) (map (λ (c : Learned). c.clause) s.learned)) w.answering f.holds));
}

abbrev pub standing_so : State → Standing → State
standing_so s t = record s { standing = t }

-- what was found out before a line that leaves that alone is right behind it
pub found_alike : (kb : Knowledge) (queries : List Query) (s : State) (t : Standing) → IsFound kb queries s → Alike s.standing t
    → (IsBegun t.place → IsBegun s.standing.place) → (IsTrying t.place → IfSome s.clauses (λ k. AreBelow k.variables t.assumed))
    → (t.place ≡ AtStart → ⊥) → IsFound kb queries (standing_so s t)
found_alike kb queries s t f w begun assumed on = record {
  plain = f.plain;
  conflicts = f.conflicts;
  priority = subst (λ (m : Repairs). IfSome s.priority (IsPriorityOf kb m)) w.repairs f.priority;
  over = f.over;
  candidates = subst (λ (n : ℕ). IfSome s.candidates (AreCandidatesOf kb (query_at queries n))) w.ends f.candidates;
  clauses = if_some (FollowsLines kb s.standing) (FollowsLines kb t) s.clauses (λ k h. follows_alike kb s.standing t k w h) f.clauses;
  variables = have s.clauses assumed f.variables;
  selectors = f.selectors;
  causes = λ a. subst (λ (x : Asked). All (λ cause. All (λ i. i < length kb.facts) cause) x.causes) w.asked (f.causes (w.answering ∙ a));
  learnable = λ a. subst (λ (x : Asked). IfSome s.learnable (AreConflictFacts kb x.causes)) w.asked (f.learnable (w.answering ∙ a));
  has_learnable = λ a. f.has_learnable (w.answering ∙ a);
  known = λ b. let k = f.known (begun b) in record { conflicts = k.conflicts; priority = k.priority; candidates = k.candidates; clauses = k.clauses };
  early = λ e. absurd (on e);
}
  where
    have : (o : Option Kept) → (IsTrying t.place → IfSome o (λ k. AreBelow k.variables t.assumed)) → IfSome o (HaveVariables kb s.standing)
        → IfSome o (HaveVariables kb t)
    have None g h = h
    have (Some k) g h = record {
      few = h.few;
      facts = h.facts;
      selector = λ a. subst (λ (x : Asked). length kb.facts + x.candidate < k.variables) w.asked (h.selector (w.answering ∙ a));
      assumed = g;
    }

-- before any line nothing is found out
pub found_none : (kb : Knowledge) (queries : List Query) (s : State) → s.plain ≡ kb.facts → s.standing ≡ standing_of (length kb.facts) []
    → s.conflicts ≡ None → s.priority ≡ None → s.candidates ≡ None → s.clauses ≡ None → s.learnable ≡ None → IsFound kb queries s
found_none kb queries s plain standing conflicts priority candidates clauses learnable = record {
  plain = plain;
  conflicts = none _ s.conflicts conflicts;
  priority = none _ s.priority priority;
  over = none _ s.conflicts conflicts;
  candidates = none _ s.candidates candidates;
  clauses = none _ s.clauses clauses;
  variables = none _ s.clauses clauses;
  selectors = none _ s.clauses clauses;
  causes = λ a. absurd (true≢false (sym a ∙ ap (λ (t : Standing). is_answering t.place) standing));
  learnable = λ a. none _ s.learnable learnable;
  has_learnable = λ a. absurd (true≢false (sym a ∙ ap (λ (t : Standing). is_answering t.place) standing));
  known = λ b. absurd (subst (λ (t : Standing). IsBegun t.place) standing b);
  early = λ e. (priority, clauses);
}
  where
    none : {X : Type 0} (P : X → Type 0) (o : Option X) → o ≡ None → IfSome o P
    none {X} P o e = subst (λ (p : Option X). IfSome p P) (sym e) tt
