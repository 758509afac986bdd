-- When a candidate may be asked.
use Rattle.std.proofs.Common.{◌≡◌, ◌↔◌, ℕ, Bool, List, Some, slice_get, sym, subst, IsTrue}
use Rattle.std.specs.List.{AllZip}
use Rattle.cq_terms.specs.declared.facts.Fact.{Fact}
use Rattle.cq_terms.specs.Knowledge.{Knowledge}
use Rattle.report_text.specs.declared.line.Origin.TheVariants as origin
use Rattle.report_rules.specs.Rules.{MemberMatches}
use Rattle.report_laws.specs.Standing.{Standing, members_at}
use Rattle.report_laws.specs.AtStanding.{Candidate, AskAt}

-- each cause has its member
abbrev pub AreMatched : List Fact → Standing → List ℕ → List (List ℕ) → List ℕ → Type 0
AreMatched facts s tuple causes members = AllZip (λ cause place. MemberMatches facts (members_at s.blocks origin.Query) place tuple cause) causes members

abbrev candidate_so : List ℕ → List (List ℕ) → Candidate
candidate_so tuple causes = record { tuple = tuple; causes = causes }

-- where the number and the lists are the next candidate's, the members decide
pub ask_tells : (kb : Knowledge) (plain : List Fact) (candidates : List Candidate) (s : Standing) (candidate : ℕ) (tuple : List ℕ) (causes : List (List ℕ))
    (members : List ℕ) (b : Bool) → kb.facts ≡ plain → candidate ≡ s.answers → slice_get candidates s.answers ≡ Some (candidate_so tuple causes)
    → (IsTrue b ↔ AreMatched plain s tuple causes members) → IsTrue b ↔ AskAt kb candidates s candidate tuple causes members
ask_tells kb plain candidates s candidate tuple causes members b e number next w = (
  (λ t. record { number = number; next = next; found = subst (λ (fs : List Fact). AreMatched fs s tuple causes members) (sym e) (w.0 t) }),
  (λ h. w.1 (subst (λ (fs : List Fact). AreMatched fs s tuple causes members) e h.found)),
)
