-- The numbers of core lines.
use Rattle.std.proofs.Common.{◌≡◌, ℕ, ◌<◌, inl, inr, List, [], ◌∷◌, Contains, false, true≢false, refl, sym, subst, ap, ◌∙◌, arith}
use Rattle.cq_meaning.proofs.Members.{Contains-cases, Contains-nil}
use Rattle.report_text.specs.declared.line.Line.{Line}
use Rattle.report_text.specs.declared.line.Line.TheVariants as line
use Rattle.report_rules.specs.Inputs.{Input}
use Rattle.report_rules.specs.Tries.{count_cores}
use Rattle.report_rules.specs.Accepted.{Right, AreRight}
use Rattle.report_laws.specs.OpenAnswers.{HasNextNumber, CoresAreNumbered, CoresAreUnique}
use Rattle.report_laws.proofs.LiveLemmas.{is_core}

-- a core line with the next number
core_numbered : (b : List Line) (number : ℕ) (kept' dropped' : List ℕ) → number ≡ count_cores b → CoresAreNumbered b
    → CoresAreNumbered (line.Core number kept' dropped' ∷ b)
core_numbered b number kept' dropped' e h n kept dropped m = elim (Contains-cases (line.Core number kept' dropped') b (line.Core n kept dropped) m) [
  | inl s ↦ (let same : number ≡ n = cc in omega arith)
  | inr l ↦ (let k = h n kept dropped l in omega arith)
]

core_unique : (b : List Line) (number : ℕ) (kept' dropped' : List ℕ) → number ≡ count_cores b → CoresAreNumbered b → CoresAreUnique b
    → CoresAreUnique (line.Core number kept' dropped' ∷ b)
core_unique b number x y e h u n k d k' d' m m' = elim (Contains-cases (line.Core number x y) b (line.Core n k d) m) [
  | inl s ↦ elim (Contains-cases (line.Core number x y) b (line.Core n k' d') m') [
    | inl t ↦ (let a : x ≡ k = cc in let c : y ≡ d = cc in let a' : x ≡ k' = cc in let c' : y ≡ d' = cc in (sym a ∙ a', sym c ∙ c'))
    | inr l ↦ absurd (let same : number ≡ n = cc in let j = h n k' d' l in omega arith)
  ]
  | inr l ↦ elim (Contains-cases (line.Core number x y) b (line.Core n k' d') m') [
    | inl t ↦ absurd (let same : number ≡ n = cc in let j = h n k d l in omega arith)
    | inr l' ↦ u n k d k' d' l l'
  ]
]

-- a line of another kind adds none
others : (x : Line) (b : List Line) → is_core x ≡ false → count_cores (x ∷ b) ≡ count_cores b → CoresAreNumbered b → CoresAreUnique b
    → CoresAreNumbered (x ∷ b) × CoresAreUnique (x ∷ b)
others x b f e h u = (
  (λ n kept dropped m. subst (λ c. n < c) (sym e) (h n kept dropped (older n kept dropped m))),
  (λ n k d k' d' m m'. u n k d k' d' (older n k d m) (older n k' d' m')),
)
  where
    older : (n : ℕ) (kept dropped : List ℕ) → Contains (x ∷ b) (line.Core n kept dropped) → Contains b (line.Core n kept dropped)
    older n kept dropped m = elim (Contains-cases x b (line.Core n kept dropped) m) [ inl s ↦ absurd (true≢false (sym (ap is_core s) ∙ f)) | inr l ↦ l ]

pub cores_go_on : (b : List Line) → CoresAreNumbered b → CoresAreUnique b → (x : Line) → HasNextNumber b x → CoresAreNumbered (x ∷ b) × CoresAreUnique (x ∷ b)
cores_go_on b h u (line.Core number kept dropped) e = (core_numbered b number kept dropped e h, core_unique b number kept dropped e h u)
cores_go_on b h u (line.Head axioms budget facts keep repairs version) e = others (line.Head axioms budget facts keep repairs version) b refl refl h u
cores_go_on b h u (line.Cq o query step) e = others (line.Cq o query step) b refl refl h u
cores_go_on b h u (line.Conflict facts rule member) e = others (line.Conflict facts rule member) b refl refl h u
cores_go_on b h u (line.Ask candidate tuple causes members) e = others (line.Ask candidate tuple causes members) b refl refl h u
cores_go_on b h u (line.Try question assume) e = others (line.Try question assume) b refl refl h u
cores_go_on b h u (line.Learn number clause) e = others (line.Learn number clause) b refl refl h u
cores_go_on b h u (line.Done how core) e = others (line.Done how core) b refl refl h u
cores_go_on b h u (line.Forget clauses) e = others (line.Forget clauses) b refl refl h u
cores_go_on b h u (line.Answer brave ar iar cores names tuple) e = others (line.Answer brave ar iar cores names tuple) b refl refl h u
cores_go_on b h u (line.End answers brave ar iar undecided) e = others (line.End answers brave ar iar undecided) b refl refl h u

-- a right line has the next number
next_number : (input : Input) (b : List Line) (x : Line) → Right input b x → HasNextNumber b x
next_number input b (line.Core number kept dropped) r = r.own.counts
next_number input b (line.Learn number clause) r = r.own.counts
next_number input b (line.Head axioms budget facts keep repairs version) r = tt
next_number input b (line.Cq o query step) r = tt
next_number input b (line.Conflict facts rule member) r = tt
next_number input b (line.Ask candidate tuple causes members) r = tt
next_number input b (line.Try question assume) r = tt
next_number input b (line.Done how core) r = tt
next_number input b (line.Forget clauses) r = tt
next_number input b (line.Answer brave ar iar cores names tuple) r = tt
next_number input b (line.End answers brave ar iar undecided) r = tt

pub right_cores_numbered : (input : Input) (before : List Line) → AreRight input before → CoresAreNumbered before × CoresAreUnique before
right_cores_numbered input [] r = (
  (λ n kept dropped m. absurd (Contains-nil (line.Core n kept dropped) m)),
  (λ n k d k' d' m m'. absurd (Contains-nil (line.Core n k d) m)),
)
right_cores_numbered input (x ∷ b) (r, rs) = let w = right_cores_numbered input b rs in cores_go_on b w.0 w.1 x (next_number input b x r)
