-- Whether a line is right, and which rule it breaks, by what a reader tests step by step.
use Rattle.std.proofs.Common.{◌≡◌, inl, inr, ℕ, List, length, Option, Some, None, refl, sym, ap, subst}
use Rattle.std.specs.Prelude.{Result, Ok, Err, OnOk}
use Rattle.std.specs.Option.{IfSome, IsSome}
use Rattle.cq_terms.specs.Conflicts.{ConflictGraph}
use Rattle.cq_terms.specs.Knowledge.{Knowledge}
use Rattle.cq_terms.specs.Query.{Query}
use Rattle.report_text.specs.declared.line.Line.{Line}
use Rattle.report_text.specs.declared.line.Line.TheVariants as line
use Rattle.report_text.specs.declared.line.Origin.TheVariants as origin
use Rattle.report_text.specs.declared.line.Verdict.{Verdict}
use Rattle.report_rules.specs.declared.rule.Rule.{Rule}
use Rattle.report_rules.specs.declared.rule.Rule.TheVariants as rule
use Rattle.report_rules.specs.Inputs.{OneQuery, report_on}
use Rattle.report_rules.specs.Order.{MayCome}
use Rattle.report_rules.specs.Told.{HasQueryLeft}
use Rattle.report_rules.specs.Rules.{LeavesNoneOut}
use Rattle.report_rules.specs.Accepted.{Obeys, Right}
use Rattle.report_rules.specs.Broken.{IsInOrder, Breaks, rule_of}
use Rattle.report_laws.specs.AtStanding.{LeavesClosedAt}
use Rattle.report_laws.specs.CycleLaws.{IsConflictLine}
use Rattle.report_laws.specs.Standing.{Standing}
use Rattle.refutation_confirmer.specs.Kinds.{IsBehindBlocks, IsBehindConflicts}
use Rattle.refutation_confirmer.specs.State.{State, Fits, AreKnown}
use Rattle.refutation_confirmer.specs.Steps.{Comes, HasConflicts, IsReadyFor, StillFits, Takes}
use Rattle.refutation_confirmer.proofs.FittingLemmas.{rules_at, may_come_to, may_come_from, blocks_stand, still_blocks, all_told, behind_blocks}
use Rattle.refutation_confirmer.proofs.ObeyingLemmas.{ready_behind}

-- a report on one query asks for no further query
query_left : (kb : Knowledge) (names : List (List ℕ)) (q : Query) (before : List Line) (l : Line) → HasQueryLeft (report_on kb names q) before l
query_left kb names q before (line.Cq origin.Query query step) = λ e. absurd (cc e)
query_left kb names q before (line.Cq (origin.Negative i) query step) = tt
query_left kb names q before (line.Head axioms budget facts keep repairs version) = tt
query_left kb names q before (line.Conflict facts rule' member) = tt
query_left kb names q before (line.Ask candidate tuple causes members) = tt
query_left kb names q before (line.Try question assume) = tt
query_left kb names q before (line.Learn number clause) = tt
query_left kb names q before (line.Core number kept dropped) = tt
query_left kb names q before (line.Done how core) = tt
query_left kb names q before (line.Forget clauses) = tt
query_left kb names q before (line.Answer brave ar iar cores texts tuple) = tt
query_left kb names q before (line.End answers brave ar iar undecided) = tt

module _ (kb : Knowledge) (names : List (List ℕ)) (q : Query) (before : List Line) (s : State) (f : Fits (report_on kb names q) before s) (l : Line) where
  in_order : MayCome OneQuery kb.axioms s.standing.place l → IsInOrder (report_on kb names q) before l
  in_order may = (may_come_to kb names q before s f l may, query_left kb names q before l)

  pub order_broken : (MayCome OneQuery kb.axioms s.standing.place l → ⊥) → Breaks (report_on kb names q) before l rule.Order
  order_broken n = inl (refl, λ o. n (may_come_from kb names q before s f l o.0))

  pub closed_broken : MayCome OneQuery kb.axioms s.standing.place l → (LeavesClosedAt (report_on kb names q) s.standing l → ⊥)
      → Breaks (report_on kb names q) before l rule.Closed
  closed_broken may n = inr (in_order may, inl (refl, λ c. n (((rules_at kb names q before s f).closed l).1 c)))

  pub conflict_broken : MayCome OneQuery kb.axioms s.standing.place l → LeavesClosedAt (report_on kb names q) s.standing l
      → (LeavesNoneOut (report_on kb names q) before l → ⊥) → Breaks (report_on kb names q) before l rule.Conflict
  conflict_broken may closed n = inr (in_order may, inr (((rules_at kb names q before s f).closed l).0 closed, inl (refl, n)))

  pub own_broken : (r : Rule) → MayCome OneQuery kb.axioms s.standing.place l → LeavesClosedAt (report_on kb names q) s.standing l
      → LeavesNoneOut (report_on kb names q) before l → r ≡ rule_of l → (Obeys (report_on kb names q) before l → ⊥)
      → Breaks (report_on kb names q) before l r
  own_broken r may closed none e n = inr (in_order may, inr (((rules_at kb names q before s f).closed l).0 closed, inr (none, (e, n))))

  pub is_right : MayCome OneQuery kb.axioms s.standing.place l → LeavesClosedAt (report_on kb names q) s.standing l
      → LeavesNoneOut (report_on kb names q) before l → Obeys (report_on kb names q) before l → Right (report_on kb names q) before l
  is_right may closed none own = record {
    order = may_come_to kb names q before s f l may;
    query_left = query_left kb names q before l;
    closed = ((rules_at kb names q before s f).closed l).0 closed;
    complete = none;
    own = own;
  }

-- the line may still come where what is kept stays
pub comes_still : (kb : Knowledge) (s t : State) (l : Line) → t.standing ≡ s.standing → StillFits kb s t → Comes kb s l → Comes kb t l
comes_still kb s t l e fits c = record {
  some = record { names = c.some.names; query = c.some.query; before = c.some.before; fits = fits c.some.names c.some.query c.some.before c.some.fits };
  order = subst (λ (x : Standing). MayCome OneQuery kb.axioms x.place l) (sym e) c.order;
}

each_told : {X : Type 0} (P : X → Type 0) (o : Option X) → ((x : X) → o ≡ Some x → P x) → IfSome o P
each_told P None h = tt
each_told P (Some x) h = h x refl

-- behind a line that leaves none out, all conflicts are known and told
pub has_conflicts : (kb : Knowledge) (s t : State) (l : Line) → t.standing ≡ s.standing → StillFits kb s t → Comes kb s l
    → ((names : List (List ℕ)) (q : Query) → LeavesClosedAt (report_on kb names q) s.standing l) → (IsBehindBlocks l → IsSome t.conflicts)
    → ((names : List (List ℕ)) (q : Query) (before : List Line) → Fits (report_on kb names q) before t → LeavesNoneOut (report_on kb names q) before l)
    → IsBehindConflicts l → HasConflicts kb t
has_conflicts kb s t l e fits c closed known none k = record {
  blocks = still_blocks kb s t e fits (blocks_stand kb s l c.some c.order closed (behind_blocks l k));
  known = known (behind_blocks l k);
  told = each_told (λ (g : ConflictGraph). t.standing.told ≡ length g.clashes) t.conflicts
      (λ g d. (all_told kb c.some.names c.some.query c.some.before t g l after_fits d k).1 (none c.some.names c.some.query c.some.before after_fits));
}
  where
    after_fits : Fits (report_on kb c.some.names c.some.query) c.some.before t
    after_fits = fits c.some.names c.some.query c.some.before c.some.fits

-- a conflict line finds the conflicts known
pub ready_conflict : (s : State) (l : Line) → IsConflictLine l → IsReadyFor s l → IsSome s.conflicts
ready_conflict s (line.Conflict facts rule' member) k h = h
ready_conflict s (line.Head axioms budget facts keep repairs version) k h = absurd k
ready_conflict s (line.Cq o query step) k h = absurd k
ready_conflict s (line.Ask candidate tuple causes members) k h = absurd k
ready_conflict s (line.Try question assume) k h = absurd k
ready_conflict s (line.Learn number clause) k h = absurd k
ready_conflict s (line.Core number kept dropped) k h = absurd k
ready_conflict s (line.Done how core) k h = absurd k
ready_conflict s (line.Forget clauses) k h = absurd k
ready_conflict s (line.Answer brave ar iar cores texts tuple) k h = absurd k
ready_conflict s (line.End answers brave ar iar undecided) k h = absurd k

-- what holds of each such thing holds of the one
pub on_ok_at : {T E X : Type 0} (C P : X → Type 0) (r : Result T E) (x : X) → C x → OnOk r ((y : X) → C y → P y) → OnOk r (P x)
on_ok_at C P (Ok v) x k h = h x k
on_ok_at C P (Err e) x k h = tt

-- ---- one step after another

-- the conflicts stay told where neither what is kept nor they change
conflicts_still : (kb : Knowledge) (s t : State) → t.standing ≡ s.standing → t.conflicts ≡ s.conflicts → StillFits kb s t → HasConflicts kb s
    → HasConflicts kb t
conflicts_still kb s t e d fits h = record {
  blocks = still_blocks kb s t e fits h.blocks;
  known = subst (λ (o : Option ConflictGraph). IsSome o) (sym d) h.known;
  told = subst (λ (o : Option ConflictGraph). IfSome o (λ g. t.standing.told ≡ length g.clashes)) (sym d)
      (subst (λ (x : Standing). IfSome s.conflicts (λ g. x.told ≡ length g.clashes)) (sym e) h.told);
}

pub with_new_priority : (kb : Knowledge) (s t : State) → t ≡ record s { priority = t.priority } → StillFits kb s t → HasConflicts kb s → HasConflicts kb t
with_new_priority kb s t e fits h = conflicts_still kb s t (ap (λ (u : State). u.standing) e) (ap (λ (u : State). u.conflicts) e) fits h

pub with_new_candidates : (kb : Knowledge) (s t : State) → t ≡ record s { candidates = t.candidates } → StillFits kb s t → HasConflicts kb s → HasConflicts kb t
with_new_candidates kb s t e fits h = conflicts_still kb s t (ap (λ (u : State). u.standing) e) (ap (λ (u : State). u.conflicts) e) fits h

pub fits_then : {T E : Type 0} (r : Result T E) (kb : Knowledge) (s t u v : State) → StillFits kb s t → StillFits kb t u → HasConflicts kb u
    → OnOk r ((kb' : Knowledge) → HasConflicts kb' u → StillFits kb' u v) → OnOk r (StillFits kb s v)
fits_then (Ok x) kb s t u v first second told w = λ names q before f. w kb told names q before (second names q before (first names q before f))
fits_then (Err e) kb s t u v first second told w = tt

pub ready_ok : {T E : Type 0} (r : Result T E) (s : State) (l : Line) → IsBehindConflicts l → OnOk r (AreKnown s) → OnOk r (IsReadyFor s l)
ready_ok (Ok x) s l k w = ready_behind s l k w
ready_ok (Err e) s l k w = tt

-- what a call takes is the line
pub learn_taken : {T E : Type 0} (r : Result T E) (kb : Knowledge) (s t : State) (l m : Line) → l ≡ m → OnOk r ((kb' : Knowledge) → Takes kb' s m t)
    → OnOk r (Takes kb s l t)
learn_taken (Ok x) kb s t l m e w = subst (λ (n : Line). Takes kb s n t) (sym e) (w kb)
learn_taken (Err y) kb s t l m e w = tt

pub core_taken : {T E : Type 0} (r : Result T E) (kb : Knowledge) (s t : State) (l : Line) (number : ℕ) (kept dropped : List ℕ)
    → l ≡ line.Core number kept dropped → OnOk r ((kb' : Knowledge) (n : ℕ) → Takes kb' s (line.Core n kept dropped) t) → OnOk r (Takes kb s l t)
core_taken (Ok x) kb s t l number kept dropped e w = subst (λ (n : Line). Takes kb s n t) (sym e) (w kb number)
core_taken (Err y) kb s t l number kept dropped e w = tt

pub answer_taken : {T E : Type 0} (r : Result T E) (kb : Knowledge) (s t : State) (l : Line) (brave ar iar : Verdict) (cores : List ℕ) (names : List (List ℕ))
    (tuple : List ℕ) → l ≡ line.Answer brave ar iar cores names tuple
    → OnOk r ((ns : List ℕ) (texts : List (List ℕ)) (xs : List ℕ) → Takes kb s (line.Answer brave ar iar ns texts xs) t) → OnOk r (Takes kb s l t)
answer_taken (Ok x) kb s t l brave ar iar cores names tuple e w = subst (λ (n : Line). Takes kb s n t) (sym e) (w cores names tuple)
answer_taken (Err y) kb s t l brave ar iar cores names tuple e w = tt
