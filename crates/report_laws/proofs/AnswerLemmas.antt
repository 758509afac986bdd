-- Where an answer line stands among right lines.
use Rattle.std.proofs.Common.{◌≡◌, ℕ, ◌⊎◌, inl, inr, List, [], ◌∷◌, Contains, refl, subst, ◌∙◌}
use Rattle.cq_meaning.proofs.Members.{Contains-cases, Contains-nil}
use Rattle.report_text.specs.declared.line.Line.{Line}
use Rattle.report_text.specs.declared.line.Line.TheVariants as line
use Rattle.report_text.specs.declared.line.Verdict.{Verdict}
use Rattle.report_rules.specs.declared.place.Place.TheVariants.{InAnswer}
use Rattle.report_rules.specs.Inputs.{Input}
use Rattle.report_rules.specs.Order.{place_of}
use Rattle.report_rules.specs.Told.{mode_of, budget_of}
use Rattle.report_rules.specs.Rules.{AnswerIsRight}
use Rattle.report_rules.specs.Accepted.{Right, AreRight}
use Rattle.report_laws.proofs.PlaceLemmas.{starts_empty}

-- the answer stands behind right lines with the options of all lines
pub record AnswerAt (input : Input) (before : List Line) (brave ar iar : Verdict) (cores : List ℕ) (names : List (List ℕ)) (tuple : List ℕ) : Type 0 where
  pub earlier : List Line
  pub right : AreRight input earlier
  pub at : place_of earlier ≡ InAnswer
  pub same_mode : mode_of earlier ≡ mode_of before
  pub same_budget : budget_of earlier ≡ budget_of before
  pub own : AnswerIsRight input earlier brave ar iar cores names tuple

-- so it does where the line is an answer
abbrev pub AnswersAt : Input → List Line → Line → Type 0
AnswersAt input before (line.Answer brave ar iar cores names tuple) = AnswerAt input before brave ar iar cores names tuple
AnswersAt input before _ = Unit {0}

-- among more lines with the same options
wider : (input : Input) (b c : List Line) → mode_of b ≡ mode_of c → budget_of b ≡ budget_of c → (l : Line) → AnswersAt input b l → AnswersAt input c l
wider input b c m n (line.Answer brave ar iar cores names tuple) w =
    record { earlier = w.earlier; right = w.right; at = w.at; same_mode = w.same_mode ∙ m; same_budget = w.same_budget ∙ n; own = w.own }
wider input b c m n (line.Head axioms budget facts keep repairs version) w = tt
wider input b c m n (line.Cq o query step) w = tt
wider input b c m n (line.Conflict facts rule member) w = tt
wider input b c m n (line.Ask candidate tuple causes members) w = tt
wider input b c m n (line.Try question assume) w = tt
wider input b c m n (line.Learn number clause) w = tt
wider input b c m n (line.Core number kept dropped) w = tt
wider input b c m n (line.Done how core) w = tt
wider input b c m n (line.Forget clauses) w = tt
wider input b c m n (line.End answers brave ar iar undecided) w = tt

-- the last line stands so
last_at : (input : Input) (x : Line) (b : List Line) → Right input b x → AreRight input b → AnswersAt input (x ∷ b) x
last_at input (line.Answer brave ar iar cores names tuple) b r rs =
    record { earlier = b; right = rs; at = r.order; same_mode = refl; same_budget = refl; own = r.own }
last_at input (line.Head axioms budget facts keep repairs version) b r rs = tt
last_at input (line.Cq o query step) b r rs = tt
last_at input (line.Conflict facts rule member) b r rs = tt
last_at input (line.Ask candidate tuple causes members) b r rs = tt
last_at input (line.Try question assume) b r rs = tt
last_at input (line.Learn number clause) b r rs = tt
last_at input (line.Core number kept dropped) b r rs = tt
last_at input (line.Done how core) b r rs = tt
last_at input (line.Forget clauses) b r rs = tt
last_at input (line.End answers brave ar iar undecided) b r rs = tt

-- the options stay behind the head
pub same_options : (input : Input) (x : Line) (b : List Line) → Right input b x → (b ≡ []) ⊎ ((mode_of b ≡ mode_of (x ∷ b)) × (budget_of b ≡ budget_of (x ∷ b)))
same_options input (line.Head axioms budget facts keep repairs version) b r = inl (starts_empty b r.order)
same_options input (line.Answer brave ar iar cores names tuple) b r = inr (refl, refl)
same_options input (line.Cq o query step) b r = inr (refl, refl)
same_options input (line.Conflict facts rule member) b r = inr (refl, refl)
same_options input (line.Ask candidate tuple causes members) b r = inr (refl, refl)
same_options input (line.Try question assume) b r = inr (refl, refl)
same_options input (line.Learn number clause) b r = inr (refl, refl)
same_options input (line.Core number kept dropped) b r = inr (refl, refl)
same_options input (line.Done how core) b r = inr (refl, refl)
same_options input (line.Forget clauses) b r = inr (refl, refl)
same_options input (line.End answers brave ar iar undecided) b r = inr (refl, refl)

-- each answer line stands so
pub answers_at : (input : Input) (before : List Line) → AreRight input before → (l : Line) → Contains before l → AnswersAt input before l
answers_at input [] r l m = absurd (Contains-nil l m)
answers_at input (x ∷ b) (r, rs) l m = elim (Contains-cases x b l m) [
  | inl e ↦ subst (AnswersAt input (x ∷ b)) e (last_at input x b r rs)
  | inr k ↦ elim (same_options input x b r) [
    | inl empty ↦ absurd (Contains-nil l (subst (λ xs. Contains xs l) empty k))
    | inr same ↦ wider input b (x ∷ b) same.0 same.1 l (answers_at input b rs l k)
  ]
]
