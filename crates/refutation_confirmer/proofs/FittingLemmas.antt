-- What a state tells of the lines that it fits.
use Rattle.std.proofs.Common.{◌≡◌, ◌↔◌, ◌⊎◌, inl, inr, ℕ, List, [], ◌∷◌, length, false, Option, Some, None, refl, sym, ap, subst, ◌∙◌}
use Rattle.std.specs.Option.{IfSome, IsSome, is_some}
use Rattle.std.proofs.lemmas.List.{length-map}
use Rattle.cq_terms.specs.declared.axioms.Axiom.{Axiom}
use Rattle.cq_terms.specs.declared.facts.Repairs.TheVariants as mode
use Rattle.cq_terms.specs.declared.hits.Clash.{Clash}
use Rattle.cq_terms.specs.Conflicts.{ConflictGraph, AreClashes}
use Rattle.cq_terms.specs.Knowledge.{Knowledge}
use Rattle.cq_terms.specs.Query.{Query}
use Rattle.cq_meaning.specs.ConflictGraphs.{AreConflictsOf}
use Rattle.cq_meaning.specs.Repairs.{IsAcyclic}
use Rattle.cq_meaning.specs.Rewriting.{IsClosure}
use Rattle.report_text.specs.declared.line.Line.{Line}
use Rattle.report_text.specs.declared.line.Line.TheVariants as line
use Rattle.report_text.specs.declared.line.Origin.{Origin}
use Rattle.report_text.specs.declared.line.Origin.TheVariants as origin
use Rattle.report_rules.specs.declared.place.Place.{Place}
use Rattle.report_rules.specs.declared.place.Place.TheVariants as place
use Rattle.report_rules.specs.Inputs.{OneQuery, report_on, query_at}
use Rattle.report_rules.specs.ConflictLists.{AreConflictLists}
use Rattle.report_rules.specs.Order.{place_of, is_answering, MayCome, AreBlocksOver, MayHaveBlock}
use Rattle.report_rules.specs.Told.{conflicts_of, block_of}
use Rattle.report_rules.specs.Blocks.{IsClosedBlock}
use Rattle.report_rules.specs.Rules.{LeavesNoneOut}
use Rattle.report_rules.specs.Live.{learned}
use Rattle.report_rules.specs.Accepted.{AreRight}
use Rattle.report_laws.specs.AtStanding.{RulesAtStanding, LeavesClosedAt}
use Rattle.report_laws.specs.ConflictLaws.{facts_told}
use Rattle.report_laws.specs.HitLaws.{OverAndClosed, negative_members}
use Rattle.report_laws.specs.LiveLists.{AreLive}
use Rattle.report_laws.specs.Standing.{Standing, standing_of, members_at}
use Rattle.report_laws.proofs.AtStandingLemmas.{rules_kept}
use Rattle.report_laws.proofs.ClashLists.{clashes_are_conflict_lists}
use Rattle.report_laws.proofs.ComponentLemmas.{query_block}
use Rattle.report_laws.proofs.PlaceLemmas.{over_closed, starts_empty}
use Rattle.report_laws.proofs.StandingLemmas.{blocks_listed}
use Rattle.plain_finding.specs.Kept.{Kept, HasLive}
use Rattle.refutation_confirmer.specs.Following.{FollowsLines}
use Rattle.refutation_confirmer.specs.Kinds.{IsBegun, IsBehindBlocks, IsBehindConflicts}
use Rattle.plain_finding.specs.Ready.{TellConflicts}
use Rattle.refutation_confirmer.specs.State.{State, Fits, AreKnown, IsFound}
use Rattle.refutation_confirmer.specs.Steps.{FitsSome, HasBlocks, HasConflicts, StillFits}
use Rattle.refutation_confirmer.proofs.ReadyLemmas as ready
use Rattle.refutation_confirmer.proofs.StepLemmas.{follows_live}

-- ---- options

pub the_some : {X : Type 0} (o : Option X) → IsSome o → (x : X) × (o ≡ Some x)
the_some None e = absurd (cc e)
the_some (Some x) e = (x, refl)

pub is_some_so : {X : Type 0} (o : Option X) (x : X) → o ≡ Some x → IsSome o
is_some_so {X} o x e = subst (λ (p : Option X). IsSome p) (sym e) refl

pub none_so : {X : Type 0} (o : Option X) → is_some o ≡ false → o ≡ None
none_so None e = refl
none_so (Some x) e = absurd (cc e)

pub some_not_none : {X : Type 0} (o : Option X) → IsSome o → o ≡ None → ⊥
some_not_none None e f = cc e
some_not_none (Some x) e f = cc f

-- what holds of whatever there is holds of the thing
pub some_has : {X : Type 0} (P : X → Type 0) (o : Option X) (x : X) → o ≡ Some x → IfSome o P → P x
some_has {X} P o x e h = subst (λ (p : Option X). IfSome p P) e h

-- ---- a state and the lines that it fits

-- how many conflicts are told, where all are known
pub told_behind : (kb : Knowledge) (names : List (List ℕ)) (q : Query) (lines : List Line) (x : Standing) (g : ConflictGraph)
    → AreRight (report_on kb names q) lines → x ≡ standing_of (length kb.facts) lines → AreConflictLists kb (facts_told g.clashes)
    → AreConflictLists kb (conflicts_of lines) ↔ (x.told ≡ length g.clashes)
told_behind kb names q lines x g right e all =
    let rules = subst (RulesAtStanding (report_on kb names q) lines) (sym e) (rules_kept (report_on kb names q) lines right) in
    let w = (rules.complete (facts_told g.clashes) all).0 in
    let size = length-map g.clashes (λ (c : Clash). c.facts) in
    ((λ told. w.0 told ∙ size), (λ t. w.1 (t ∙ sym size)))

module _ (kb : Knowledge) (names : List (List ℕ)) (q : Query) (before : List Line) (s : State) (f : Fits (report_on kb names q) before s) where
  pub rules_at : RulesAtStanding (report_on kb names q) before s.standing
  rules_at = subst (RulesAtStanding (report_on kb names q) before) (sym f.standing) (rules_kept (report_on kb names q) before f.right)

  pub place_is : s.standing.place ≡ place_of before
  place_is = ap (λ (t : Standing). t.place) f.standing

  pub may_come_to : (l : Line) → MayCome OneQuery kb.axioms s.standing.place l → MayCome OneQuery kb.axioms (place_of before) l
  may_come_to l h = subst (λ (p : Place). MayCome OneQuery kb.axioms p l) place_is h

  pub may_come_from : (l : Line) → MayCome OneQuery kb.axioms (place_of before) l → MayCome OneQuery kb.axioms s.standing.place l
  may_come_from l h = subst (λ (p : Place). MayCome OneQuery kb.axioms p l) (sym place_is) h

  -- known conflicts are those that the lines have to tell
  pub lists_at : (g : ConflictGraph) → s.conflicts ≡ Some g → AreConflictLists kb (facts_told g.clashes)
  lists_at g e =
      let w = some_has (λ (h : ConflictGraph). AreConflictsOf kb h × AreClashes h.facts h.clashes) s.conflicts g e f.found.conflicts in
      clashes_are_conflict_lists kb g w.0 w.1

  pub graph_at : (g : ConflictGraph) → s.conflicts ≡ Some g → AreConflictsOf kb g
  graph_at g e = (some_has (λ (h : ConflictGraph). AreConflictsOf kb h × AreClashes h.facts h.clashes) s.conflicts g e f.found.conflicts).0

  pub told_at : (g : ConflictGraph) → s.conflicts ≡ Some g → AreConflictLists kb (conflicts_of before) ↔ (s.standing.told ≡ length g.clashes)
  told_at g e = told_behind kb names q before s.standing g f.right f.standing (lists_at g e)

  -- the live clauses as a list that the checker has
  pub live_of : (k : Kept) → s.clauses ≡ Some k → (live : List (List ℕ)) × AreLive kb before live × HasLive k live
  live_of k e = follows_live (report_on kb names q) before k f.right
      (subst (λ (t : Standing). FollowsLines kb t k) f.standing (some_has (FollowsLines kb s.standing) s.clauses k e f.found.clauses))

-- whoever may come before the first line is the head
not_at_start : (axioms : List Axiom) (p : Place) → AreBlocksOver OneQuery axioms p → p ≡ place.AtStart → ⊥
not_at_start axioms place.AtStart h e = h
not_at_start axioms place.AfterHead h e = h
not_at_start axioms (place.InBlock o) h e = cc e
not_at_start axioms place.InConflicts h e = cc e
not_at_start axioms place.AfterForget h e = h
not_at_start axioms place.InAnswer h e = h
not_at_start axioms place.InTry h e = h
not_at_start axioms place.AfterCore h e = h
not_at_start axioms place.AfterAnswer h e = h
not_at_start axioms place.AtEnd h e = h

-- ---- places before any answer

abbrev IsEarly : Place → Type 0
IsEarly place.AtStart = Unit {0}
IsEarly place.AfterHead = Unit {0}
IsEarly (place.InBlock o) = Unit {0}
IsEarly place.InConflicts = Unit {0}
IsEarly _ = ⊥

over_early : (axioms : List Axiom) (p : Place) → AreBlocksOver OneQuery axioms p → IsEarly p
over_early axioms (place.InBlock o) h = tt
over_early axioms place.InConflicts h = tt
over_early axioms _ h = absurd h

block_early : (axioms : List Axiom) (p : Place) (o : Origin) → MayHaveBlock OneQuery axioms p o → IsEarly p
block_early axioms place.AfterHead o h = tt
block_early axioms (place.InBlock o') o h = tt
block_early axioms _ o h = absurd h

-- before any answer nothing is learned
early_learns : (kb : Knowledge) (names : List (List ℕ)) (q : Query) (facts : ℕ) (b : List Line) → AreRight (report_on kb names q) b → IsEarly (place_of b)
    → learned facts b ≡ []
early_learns kb names q facts [] r h = refl
early_learns kb names q facts (line.Head axioms budget count keep repairs version ∷ b) (r, rs) h = ap (learned facts) (starts_empty b r.order)
early_learns kb names q facts (line.Cq o query step ∷ b) (r, rs) h = early_learns kb names q facts b rs (block_early kb.axioms (place_of b) o r.order)
early_learns kb names q facts (line.Conflict numbers rule member ∷ b) (r, rs) h = early_learns kb names q facts b rs (over_early kb.axioms (place_of b) r.order)
early_learns kb names q facts (line.Ask candidate tuple causes members ∷ b) r h = absurd h
early_learns kb names q facts (line.Try question assume ∷ b) r h = absurd h
early_learns kb names q facts (line.Learn number clause ∷ b) r h = absurd h
early_learns kb names q facts (line.Core number kept dropped ∷ b) r h = absurd h
early_learns kb names q facts (line.Done how core ∷ b) r h = absurd h
early_learns kb names q facts (line.Forget clauses ∷ b) r h = absurd h
early_learns kb names q facts (line.Answer brave ar iar cores names' tuple ∷ b) r h = absurd h
early_learns kb names q facts (line.End answers brave ar iar undecided ∷ b) r h = absurd h

-- ---- what a line behind the blocks may take for granted

-- the blocks are over and closed, where a line behind them may come and leaves none open
pub blocks_stand : (kb : Knowledge) (s : State) (l : Line) → FitsSome kb s → MayCome OneQuery kb.axioms s.standing.place l
    → ((names : List (List ℕ)) (q : Query) → LeavesClosedAt (report_on kb names q) s.standing l) → IsBehindBlocks l → HasBlocks kb s
blocks_stand kb s l some may closed behind = record {
  some = some;
  over = λ n. subst (λ (p : Place). AreBlocksOver OneQuery kb.axioms p) (sym at) (stand n).over;
  closed = λ n o e. subst (λ (ms : List Query). IsClosedBlock kb.axioms ms) (sym (members o)) ((stand n).closed o (sym at ∙ e));
}
  where
    at : s.standing.place ≡ place_of some.before
    at = place_is kb some.names some.query some.before s some.fits

    stand : (IsBegun s.standing.place → ⊥) → OverAndClosed (report_on kb some.names some.query) some.before
    stand n = ready.over_closed kb some.names some.query some.before l (may_come_to kb some.names some.query some.before s some.fits l may)
        (((rules_at kb some.names some.query some.before s some.fits).closed l).0 (closed some.names some.query)) behind
        (λ b. n (subst IsBegun (sym at) b))

    members : (o : Origin) → members_at s.standing.blocks o ≡ block_of o some.before
    members o = ap (λ (t : Standing). members_at t.blocks o) some.fits.standing ∙ blocks_listed some.before o

module _ (kb : Knowledge) (names : List (List ℕ)) (q : Query) (before : List Line) (s : State) (f : Fits (report_on kb names q) before s)
    (h : HasBlocks kb s) where
  members_are : (o : Origin) → members_at s.standing.blocks o ≡ block_of o before
  members_are o = ap (λ (t : Standing). members_at t.blocks o) f.standing ∙ blocks_listed before o

  -- whichever lines the state fits, their blocks are over and closed
  pub over_and_closed : (IsBegun s.standing.place → ⊥) → OverAndClosed (report_on kb names q) before
  over_and_closed n = record {
    over = subst (λ (p : Place). AreBlocksOver OneQuery kb.axioms p) (place_is kb names q before s f) (h.over n);
    closed = λ o e. subst (λ (ms : List Query). IsClosedBlock kb.axioms ms) (members_are o) (h.closed n o (place_is kb names q before s f ∙ e));
  }

  -- the query's block is the closure of the query
  pub closure_stands : (IsBegun s.standing.place → ⊥) → IsClosure kb.axioms (query_at (q ∷ []) s.standing.ends) (members_at s.standing.blocks origin.Query)
  closure_stands n = subst (λ (ms : List Query). IsClosure kb.axioms (query_at (q ∷ []) s.standing.ends) ms) (sym (members_are origin.Query))
      (subst (λ (t : Standing). IsClosure kb.axioms (query_at (q ∷ []) t.ends) (block_of origin.Query before)) (sym f.standing)
      (query_block (report_on kb names q) before f.right refl (over_and_closed n)))

  -- nothing is learned, and no answer is open
  pub none_learned : (IsBegun s.standing.place → ⊥) → (s.standing.learned ≡ []) × (is_answering s.standing.place ≡ false)
  none_learned n = (
    ap (λ (t : Standing). t.learned) f.standing ∙ early_learns kb names q (length kb.facts) before f.right
        (subst IsEarly (place_is kb names q before s f) (over_early kb.axioms s.standing.place (h.over n))),
    over_closed OneQuery kb.axioms s.standing.place (h.over n),
  )

-- where not all is known, no answer has begun
pub not_begun_if : (kb : Knowledge) (queries : List Query) (s : State) → IsFound kb queries s → (AreKnown s → ⊥) → IsBegun s.standing.place → ⊥
not_begun_if kb queries s f n b = n (f.known b)

-- where the conflicts aren't known the lines tell them
pub tell_conflicts : (kb : Knowledge) (s : State) (queries : List Query) → HasBlocks kb s → s.conflicts ≡ None
    → queries ≡ negative_members s.standing.blocks → TellConflicts kb queries
tell_conflicts kb s queries h none told = record {
  names = h.some.names;
  query = h.some.query;
  before = h.some.before;
  right = h.some.fits.right;
  over = over_and_closed kb h.some.names h.some.query h.some.before s h.some.fits h
      (not_begun_if kb (h.some.query ∷ []) s h.some.fits.found (λ k. some_not_none s.conflicts k.conflicts none));
  kept = told ∙ ap (λ (t : Standing). negative_members t.blocks) h.some.fits.standing;
}

-- the report isn't at its start
pub past_start : (kb : Knowledge) (s : State) → HasBlocks kb s → s.standing.place ≡ place.AtStart → ⊥
past_start kb s h e = not_at_start kb.axioms s.standing.place (h.over (λ b. subst IsBegun e b)) e

-- behind all conflicts all repairs are asked about, or the priority is acyclic
pub acyclic_at : (kb : Knowledge) (s : State) → HasConflicts kb s → (s.standing.repairs ≡ mode.All) ⊎ IsAcyclic kb mode.Pareto
acyclic_at kb s h =
    let some = h.blocks.some in
    let (g, e) = the_some s.conflicts h.known in
    let told = some_has (λ (x : ConflictGraph). s.standing.told ≡ length x.clashes) s.conflicts g e h.told in
    elim (some.fits.acyclic ((told_at kb some.names some.query some.before s some.fits g e).1 told)) [
      | inl w ↦ inl (ap (λ (t : Standing). t.repairs) some.fits.standing ∙ w.0)
      | inr a ↦ inr a
    ]

-- a line behind the conflicts leaves none out exactly where all are told
pub all_told : (kb : Knowledge) (names : List (List ℕ)) (q : Query) (before : List Line) (s : State) (g : ConflictGraph) (l : Line)
    → Fits (report_on kb names q) before s → s.conflicts ≡ Some g → IsBehindConflicts l
    → (s.standing.told ≡ length g.clashes) ↔ LeavesNoneOut (report_on kb names q) before l
all_told kb names q before s g (line.Forget clauses) f e k = let w = told_at kb names q before s f g e in (w.1, w.0)
all_told kb names q before s g (line.Ask candidate tuple causes members) f e k = let w = told_at kb names q before s f g e in (w.1, w.0)
all_told kb names q before s g (line.End answers brave ar iar undecided) f e k = let w = told_at kb names q before s f g e in (w.1, w.0)
all_told kb names q before s g (line.Head axioms budget facts keep repairs version) f e k = absurd k
all_told kb names q before s g (line.Cq o query step) f e k = absurd k
all_told kb names q before s g (line.Conflict facts rule member) f e k = absurd k
all_told kb names q before s g (line.Try question assume) f e k = absurd k
all_told kb names q before s g (line.Learn number clause) f e k = absurd k
all_told kb names q before s g (line.Core number kept dropped) f e k = absurd k
all_told kb names q before s g (line.Done how core) f e k = absurd k
all_told kb names q before s g (line.Answer brave ar iar cores names' tuple) f e k = absurd k

-- any other line leaves none out
pub none_out_else : (kb : Knowledge) (names : List (List ℕ)) (q : Query) (before : List Line) (l : Line) → ¬ IsBehindConflicts l
    → LeavesNoneOut (report_on kb names q) before l
none_out_else kb names q before (line.Cq origin.Query query step) n = λ e. absurd (cc e)
none_out_else kb names q before (line.Cq (origin.Negative i) query step) n = tt
none_out_else kb names q before (line.Forget clauses) n = absurd (n tt)
none_out_else kb names q before (line.Ask candidate tuple causes members) n = absurd (n tt)
none_out_else kb names q before (line.End answers brave ar iar undecided) n = absurd (n tt)
none_out_else kb names q before (line.Head axioms budget facts keep repairs version) n = tt
none_out_else kb names q before (line.Conflict facts rule member) n = tt
none_out_else kb names q before (line.Try question assume) n = tt
none_out_else kb names q before (line.Learn number clause) n = tt
none_out_else kb names q before (line.Core number kept dropped) n = tt
none_out_else kb names q before (line.Done how core) n = tt
none_out_else kb names q before (line.Answer brave ar iar cores names' tuple) n = tt

-- a line behind the conflicts is one behind the blocks
pub behind_blocks : (l : Line) → IsBehindConflicts l → IsBehindBlocks l
behind_blocks (line.Forget clauses) k = tt
behind_blocks (line.Ask candidate tuple causes members) k = tt
behind_blocks (line.End answers brave ar iar undecided) k = tt
behind_blocks (line.Head axioms budget facts keep repairs version) k = absurd k
behind_blocks (line.Cq o query step) k = absurd k
behind_blocks (line.Conflict facts rule member) k = absurd k
behind_blocks (line.Try question assume) k = absurd k
behind_blocks (line.Learn number clause) k = absurd k
behind_blocks (line.Core number kept dropped) k = absurd k
behind_blocks (line.Done how core) k = absurd k
behind_blocks (line.Answer brave ar iar cores names tuple) k = absurd k

-- ---- what stays

-- what the state tells of the blocks stays where what is kept does
pub still_blocks : (kb : Knowledge) (s t : State) → t.standing ≡ s.standing → StillFits kb s t → HasBlocks kb s → HasBlocks kb t
still_blocks kb s t e fits h = record {
  some = record { names = h.some.names; query = h.some.query; before = h.some.before; fits = fits h.some.names h.some.query h.some.before h.some.fits };
  over = subst (λ (x : Standing). (IsBegun x.place → ⊥) → AreBlocksOver OneQuery kb.axioms x.place) (sym e) h.over;
  closed = subst (λ (x : Standing). (IsBegun x.place → ⊥) → (o : Origin) → x.place ≡ place.InBlock o → IsClosedBlock kb.axioms (members_at x.blocks o)) (sym e)
      h.closed;
}
