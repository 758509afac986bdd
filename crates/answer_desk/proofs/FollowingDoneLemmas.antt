-- The lines by which a try ends, after what the search says or with a core.
use Rattle.std.proofs.Common.{◌≡◌, ℕ, ◌+◌, ◌<◌, inl, inr, List, ◌∷◌, length, All, refl, sym, subst, ap, ◌∙◌}
use Rattle.std.proofs.Common.{Some, None}
use Rattle.std.proofs.lemmas.List.Elements.{All-contains}
use Rattle.cq_terms.specs.Knowledge.{Knowledge}
use Rattle.cq_meaning.specs.Cores as cores
use Rattle.cq_meaning.proofs.Ascending.{All-of}
use Rattle.cq_meaning.proofs.Members.{Contains-head}
use Rattle.priority_graph.specs.Split.{has}
use Rattle.cdcl_core.specs.State.{State}
use Rattle.proof_logs.specs.Logs.{Learned}
use Rattle.cdcl_core.specs.Learning.{IsRefuted}
use Rattle.report_text.specs.declared.line.Line.{Line}
use Rattle.report_text.specs.declared.line.Line.TheVariants as line
use Rattle.report_text.specs.declared.line.Question.{Question}
use Rattle.report_text.specs.declared.line.How.TheVariants as how
use Rattle.report_rules.specs.Inputs.{Input}
use Rattle.report_rules.specs.Tries.{Asked, question_of, assumed, count_cores}
use Rattle.report_rules.specs.Live.{learned_for}
use Rattle.report_rules.specs.TryRules.{IsEasy, ShowsAsked, CoreIsRight, DoneIsRight}
use Rattle.report_laws.specs.OpenAnswers.{Tells}
use Rattle.report_laws.proofs.BaseClauseLemmas.{means}
use Rattle.priority_graph.specs.Priority.{Priority, IsPriority}
use Rattle.priority_graph.proofs.DirectLemmas.{Conflict-sym, conflict_below}
use Rattle.answer_evidence.specs.declared.evidence.Evidence.{Evidence}
use Rattle.answer_desk.specs.Following.{Frame, own_scope, lines_on, IsToldBefore, IsBaseOf, Follows, Stage, FollowsTry, try_lines, core_lines}
use Rattle.answer_desk.specs.Following.{IsNextInside}
use Rattle.answer_evidence.specs.Aims.{IsCoreOver}
use Rattle.answer_desk.proofs.FollowingLineLemmas.{skip_learns}
use Rattle.answer_desk.proofs.FollowingSearchLemmas.{IsTrying, told_by, trying_on, steps, stands, refuted_there, refuted_back, follows_done, follows_core}

-- the facts that a core drops are facts of the table
dropped_known : (p : Priority) → IsPriority p → (kept dropped : List ℕ) → IsCoreOver p kept dropped → All (λ i. i < p.facts) dropped
dropped_known p h kept dropped c = All-of (λ i. i < p.facts) dropped (λ j m. elim (c.core.blocked j m) [
  | inl own ↦ All-contains (λ i. i < p.facts) p.own j h.own_known own
  | inr (i, k, conflict, worse) ↦ conflict_below p h i j (Conflict-sym p j i conflict)
])

module _ (w : Frame) (more : List Line) (q : Question) (assume : List ℕ) (used : ℕ) (entries : List Learned) (state : State) (cores_now : ℕ) (stage : Stage)
    (e : Evidence) (t : FollowsTry w more q assume used entries state cores_now stage e) where
  trying : (before : List Line) → IsToldBefore w before
      → IsTrying q assume (used + length entries) (lines_on w (try_lines q assume entries more) before)
  trying = trying_on w more q assume used entries t.used_is

  -- the clauses refute the assumptions
  pub next_refuted : IsRefuted state (own_scope w) assume → IsNextInside w (try_lines q assume entries more) (line.Done how.Refuted None)
  next_refuted r = record {
    right = λ input before of told. record {
      order = inl (trying before (told_by w input.kb of before told)).place;
      own = (steps w (try_lines q assume entries more) state t.follows q assume (used + length entries) trying input before of told).refuted
          (refuted_there w (try_lines q assume entries more) state t.follows q assume (used + length entries) trying input before of told r);
    };
    number = tt;
  }

  -- the budget is used up
  pub next_spent : (IsRefuted state (own_scope w) assume → ⊥) → used + length entries ≡ w.start.budget
      → ((kb : Knowledge) → IsBaseOf w kb → ¬ IsEasy kb w.start.mode q assume)
      → IsNextInside w (try_lines q assume entries more) (line.Done how.Spent None)
  next_spent unrefuted whole hard = record {
    right = λ input before of told. record {
      order = inl (trying before (told_by w input.kb of before told)).place;
      own = spent input before of told;
    };
    number = tt;
  }
    where
      spent : (input : Input) (before : List Line) → IsBaseOf w input.kb → Tells (length input.kb.facts) w.start before
          → DoneIsRight input (lines_on w (try_lines q assume entries more) before) how.Spent None
      spent input before of told =
          let n = trying before (told_by w input.kb of before told) in
          let s = stands w (try_lines q assume entries more) state t.follows q assume (used + length entries) trying input before of told in
          let lines : List Line = lines_on w (try_lines q assume entries more) before in
          (steps w (try_lines q assume entries more) state t.follows q assume (used + length entries) trying input before of told).spent
          (λ r. unrefuted (refuted_back w (try_lines q assume entries more) state t.follows q assume (used + length entries) trying input before of told r))
          (ap (λ (x : Question). learned_for x lines) n.question_is ∙ (n.used_is ∙ (whole ∙ sym s.same_budget)))
          (λ easy. hard input.kb of (subst (λ a. IsEasy input.kb w.start.mode q a) n.assumed_is
          (subst (λ x. IsEasy input.kb w.start.mode x (assumed lines)) n.question_is
          (subst (λ m. IsEasy input.kb m (question_of lines) (assumed lines)) s.same_mode easy))))

  -- a core with the next number
  module _ (kept dropped : List ℕ) (c : IsCoreOver w.better kept dropped) where
    same_count : count_cores (try_lines q assume entries more) ≡ count_cores more
    same_count = skip_learns count_cores (λ n k b. refl) entries (line.Try q assume ∷ more)

    pub next_core : IsNextInside w (try_lines q assume entries more) (line.Core cores_now kept dropped)
    next_core = record {
      right = λ input before of told. record {
        order = (trying before (told_by w input.kb of before told)).place;
        own = right_core input before of told;
      };
      number = t.cores_are ∙ ap (λ (n : ℕ). w.start.cores + n) (sym same_count);
    }
      where
        right_core : (input : Input) (before : List Line) → IsBaseOf w input.kb → Tells (length input.kb.facts) w.start before
            → CoreIsRight input (lines_on w (try_lines q assume entries more) before) (count_cores (lines_on w (try_lines q assume entries more) before))
            kept dropped
        right_core input before of told =
            let s = stands w (try_lines q assume entries more) state t.follows q assume (used + length entries) trying input before of told in
            record {
              counts = refl;
              kept_ascending = c.kept_ascending;
              kept_facts = subst (λ (n : ℕ). All (λ i. i < n) kept) of.facts c.kept_known;
              dropped_ascending = c.dropped_ascending;
              dropped_facts = subst (λ (n : ℕ). All (λ i. i < n) dropped) of.facts
                  (dropped_known w.better t.follows.frame.priority kept dropped c);
              core = subst (λ m. cores.IsCore input.kb m (has kept) (has dropped)) (sym s.same_mode)
                  (((means input.kb w.start.mode w.better of).core kept dropped).0 c.core).1;
            }

    follows_its_core : Follows w (line.Core cores_now kept dropped ∷ try_lines q assume entries more) state
    follows_its_core = follows_core w (try_lines q assume entries more) state t.follows cores_now kept dropped next_core

    -- which shows what was asked
    module _ (shows : ShowsAsked w.asked q assume kept dropped) where
      pub next_model : IsNextInside w (line.Core cores_now kept dropped ∷ try_lines q assume entries more) (line.Done how.Model (Some cores_now))
      next_model = record {
        right = λ input before of told. record { order = inr refl; own = right_done input before of told };
        number = tt;
      }
        where
          right_done : (input : Input) (before : List Line) → IsBaseOf w input.kb → Tells (length input.kb.facts) w.start before
              → DoneIsRight input (line.Core cores_now kept dropped ∷ lines_on w (try_lines q assume entries more) before) how.Model (Some cores_now)
          right_done input before of told =
              let n = trying before (told_by w input.kb of before told) in
              let s = stands w (try_lines q assume entries more) state t.follows q assume (used + length entries) trying input before of told in
              let lines : List Line = lines_on w (try_lines q assume entries more) before in (
                kept,
                dropped,
                Contains-head (line.Core cores_now kept dropped) lines,
                subst (λ (x : Asked). ShowsAsked x (question_of lines) (assumed lines) kept dropped) (sym s.asks)
                    (subst (λ x. ShowsAsked w.asked x (assumed lines) kept dropped) (sym n.question_is)
                    (subst (λ a. ShowsAsked w.asked q a kept dropped) (sym n.assumed_is) shows)),
              )

      pub follows_model : Follows w (core_lines cores_now kept dropped (try_lines q assume entries more)) state
      follows_model = follows_done w (line.Core cores_now kept dropped ∷ try_lines q assume entries more) state follows_its_core how.Model (Some cores_now)
          next_model

  pub follows_refuted : IsRefuted state (own_scope w) assume → Follows w (line.Done how.Refuted None ∷ try_lines q assume entries more) state
  follows_refuted r = follows_done w (try_lines q assume entries more) state t.follows how.Refuted None (next_refuted r)

  pub follows_spent : (IsRefuted state (own_scope w) assume → ⊥) → used + length entries ≡ w.start.budget
      → ((kb : Knowledge) → IsBaseOf w kb → ¬ IsEasy kb w.start.mode q assume)
      → Follows w (line.Done how.Spent None ∷ try_lines q assume entries more) state
  follows_spent unrefuted whole hard =
      follows_done w (try_lines q assume entries more) state t.follows how.Spent None (next_spent unrefuted whole hard)
