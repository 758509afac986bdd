-- The live clauses keep step with the lines.
use Rattle.std.proofs.Common.{◌≡◌, ◌+◌, ℕ, List, [], ◌∷◌, ◌++◌, length, map, Bool, true, false, not, cond, Option, sym, subst, ap, ◌∙◌, filter, if◌then◌else◌}
use Rattle.std.proofs.lemmas.List.{map-append, length-map}
use Rattle.priority_graph.specs.Split.{has}
use Rattle.cq_terms.specs.Knowledge.{Knowledge}
use Rattle.cq_terms.specs.Query.{Query}
use Rattle.cq_steps.specs.declared.moves.Move.{Move}
use Rattle.repair_clauses.specs.CauseClauses.{cause_clause}
use Rattle.report_text.specs.declared.line.Line.{Line}
use Rattle.report_text.specs.declared.line.Line.TheVariants as line
use Rattle.report_text.specs.declared.line.Origin.{Origin}
use Rattle.report_text.specs.declared.line.Question.{Question}
use Rattle.report_text.specs.declared.line.Verdict.{Verdict}
use Rattle.report_text.specs.declared.line.How.{How}
use Rattle.report_rules.specs.Inputs.{Input}
use Rattle.report_rules.specs.Live.{Learned, has_variable}
use Rattle.report_rules.specs.Order.{is_answering}
use Rattle.report_rules.specs.Accepted.{AreRight}
use Rattle.report_laws.specs.AtStanding.{live_at}
use Rattle.report_laws.specs.LiveLists.{AreLive, cause_clauses}
use Rattle.report_laws.specs.Standing.{Standing, standing_of, after}
use Rattle.report_laws.proofs.AtStandingLemmas.{rules_kept}
use Rattle.plain_finding.specs.Kept.{Kept, HasLive, Holds, kept_at}
use Rattle.refutation_confirmer.specs.Following.{FollowsLines}
use Rattle.plain_finding.proofs.KeptLemmas.{holds_live}
use Rattle.plain_finding.proofs.PartLemmas.{map-kept_at, kept_at-tested}

-- the clauses of the open answer's causes
abbrev opened : Knowledge → Standing → List (List ℕ)
opened kb s = if is_answering s.place then cause_clauses kb s.asked else []

abbrev clauses_of : List Learned → List (List ℕ)
clauses_of learned = map (λ (c : Learned). c.clause) learned

opened_inside : (kb : Knowledge) (s : Standing) → is_answering s.place ≡ true → opened kb s ≡ cause_clauses kb s.asked
opened_inside kb s e = ap (λ (b : Bool). cond b (cause_clauses kb s.asked) []) e

opened_outside : (kb : Knowledge) (s : Standing) → is_answering s.place ≡ false → opened kb s ≡ []
opened_outside kb s e = ap (λ (b : Bool). cond b (cause_clauses kb s.asked) []) e

-- what stays by the marks of a test
stays_by : (test : Learned → Bool) (learned : List Learned) → kept_at (map test learned) (clauses_of learned) ≡ clauses_of (filter test learned)
stays_by test learned = sym (map-kept_at (λ (c : Learned). c.clause) (map test learned) learned)
    ∙ ap clauses_of (kept_at-tested test learned)

sizes : (test : Learned → Bool) (learned : List Learned) → length (clauses_of learned) ≡ length (map test learned)
sizes test learned = length-map learned (λ (c : Learned). c.clause) ∙ sym (length-map learned test)

module _ (facts : ℕ) (kb : Knowledge) (s : Standing) (k next : Kept) (w : FollowsLines kb s k) where
  inside : is_answering s.place ≡ true → Holds k w.base (cause_clauses kb s.asked) (clauses_of s.learned)
  inside e = subst (λ (cs : List (List ℕ)). Holds k w.base cs (clauses_of s.learned)) (opened_inside kb s e) w.holds

  outside : is_answering s.place ≡ false → Holds k w.base [] (clauses_of s.learned)
  outside e = subst (λ (cs : List (List ℕ)). Holds k w.base cs (clauses_of s.learned)) (opened_outside kb s e) w.holds

  pub follows_ask : (candidate : ℕ) (tuple : List ℕ) (causes : List (List ℕ)) (members : List ℕ) → is_answering s.place ≡ false
      → ((base learned : List (List ℕ)) → Holds k base [] learned → Holds next base (map (cause_clause (length kb.facts + candidate)) causes) learned)
      → FollowsLines kb (after facts s (line.Ask candidate tuple causes members)) next
  follows_ask candidate tuple causes members e open' =
      record { base = w.base; are_base = w.are_base; holds = open' w.base (clauses_of s.learned) (outside e) }

  pub follows_learn : (number : ℕ) (clause : List ℕ) → is_answering s.place ≡ true
      → ((base causes learned : List (List ℕ)) → Holds k base causes learned → Holds next base causes (learned ++ clause ∷ []))
      → FollowsLines kb (after facts s (line.Learn number clause)) next
  follows_learn number clause e learn = record {
    base = w.base;
    are_base = w.are_base;
    holds = subst (Holds next w.base (cause_clauses kb s.asked))
        (sym (map-append (λ (c : Learned). c.clause) s.learned (record { number = number; clause = clause } ∷ [])))
        (learn w.base (cause_clauses kb s.asked) (clauses_of s.learned) (inside e));
  }

  pub follows_forget : (numbers : List ℕ) → is_answering s.place ≡ false
      → ((base causes learned : List (List ℕ)) → length learned ≡ length (map (λ (c : Learned). not (has numbers c.number)) s.learned)
      → Holds k base causes learned → Holds next base causes (kept_at (map (λ (c : Learned). not (has numbers c.number)) s.learned) learned))
      → FollowsLines kb (after facts s (line.Forget numbers)) next
  follows_forget numbers e keep = record {
    base = w.base;
    are_base = w.are_base;
    holds = subst (Holds next w.base []) (stays_by (λ (c : Learned). not (has numbers c.number)) s.learned)
        (keep w.base [] (clauses_of s.learned) (sizes (λ (c : Learned). not (has numbers c.number)) s.learned) (outside e));
  }

  -- behind an answer the clauses of its causes are gone, and the learned ones with its selector
  pub follows_answer : (middle : Kept) (brave ar iar : Verdict) (cores : List ℕ) (names : List (List ℕ)) (tuple : List ℕ)
      → ((base causes learned : List (List ℕ)) → Holds k base causes learned → Holds middle base [] learned)
      → ((base causes learned : List (List ℕ))
      → length learned ≡ length (map (λ (c : Learned). not (has_variable (facts + s.asked.candidate) c.clause)) s.learned)
      → Holds middle base causes learned
      → Holds next base causes (kept_at (map (λ (c : Learned). not (has_variable (facts + s.asked.candidate) c.clause)) s.learned) learned))
      → FollowsLines kb (after facts s (line.Answer brave ar iar cores names tuple)) next
  follows_answer middle brave ar iar cores names tuple close keep = record {
    base = w.base;
    are_base = w.are_base;
    holds = subst (Holds next w.base []) (stays_by (λ (c : Learned). not (has_variable (facts + s.asked.candidate) c.clause)) s.learned)
        (keep w.base [] (clauses_of s.learned) (sizes (λ (c : Learned). not (has_variable (facts + s.asked.candidate) c.clause)) s.learned)
        (close w.base (opened kb s) (clauses_of s.learned) w.holds));
  }

module _ (facts : ℕ) (kb : Knowledge) (s : Standing) (k : Kept) (w : FollowsLines kb s k) where
  -- a line inside an answer that neither learns nor answers changes no clause
  pub follows_try : (q : Question) (assume : List ℕ) → is_answering s.place ≡ true → FollowsLines kb (after facts s (line.Try q assume)) k
  follows_try q assume e = record { base = w.base; are_base = w.are_base; holds = inside facts kb s k k w e }

  pub follows_core : (number : ℕ) (kept dropped : List ℕ) → is_answering s.place ≡ true
      → FollowsLines kb (after facts s (line.Core number kept dropped)) k
  follows_core number kept dropped e = record { base = w.base; are_base = w.are_base; holds = inside facts kb s k k w e }

  pub follows_done : (how : How) (core : Option ℕ) → is_answering s.place ≡ true → FollowsLines kb (after facts s (line.Done how core)) k
  follows_done how core e = record { base = w.base; are_base = w.are_base; holds = inside facts kb s k k w e }

  -- nor does a line of a block, a conflict or an end outside of one
  pub follows_cq : (o : Origin) (q : Query) (step : Option (ℕ × Move)) → is_answering s.place ≡ false
      → FollowsLines kb (after facts s (line.Cq o q step)) k
  follows_cq o q step e = record { base = w.base; are_base = w.are_base; holds = outside facts kb s k k w e }

  pub follows_conflict : (numbers : List ℕ) (rule member : ℕ) → is_answering s.place ≡ false
      → FollowsLines kb (after facts s (line.Conflict numbers rule member)) k
  follows_conflict numbers rule member e = record { base = w.base; are_base = w.are_base; holds = outside facts kb s k k w e }

  pub follows_end : (answers brave ar iar undecided : ℕ) → is_answering s.place ≡ false
      → FollowsLines kb (after facts s (line.End answers brave ar iar undecided)) k
  follows_end answers brave ar iar undecided e = record { base = w.base; are_base = w.are_base; holds = outside facts kb s k k w e }

  -- the clauses of the checker are those that the lines have live
  pub follows_live_at : HasLive k (live_at kb w.base s)
  follows_live_at = holds_live k w.base (opened kb s) (clauses_of s.learned) w.holds

-- after right lines some list has exactly the live clauses, and the checker has them
pub follows_live : (input : Input) (before : List Line) (k : Kept) → AreRight input before
    → FollowsLines input.kb (standing_of (length input.kb.facts) before) k
    → (live : List (List ℕ)) × AreLive input.kb before live × HasLive k live
follows_live input before k right w = (
  live_at input.kb w.base (standing_of (length input.kb.facts) before),
  (rules_kept input before right).live w.base w.are_base,
  follows_live_at (length input.kb.facts) input.kb (standing_of (length input.kb.facts) before) k w,
)
