-- The choice among the first variables of a list, one variable at a time; and how many different variables there are.
use Rattle.std.proofs.Common.{ℕ, ◌<◌, ◌≤◌, ◌+◌, inl, inr, List, length, take, get_or, All, Option, Some, None, IfSome, IfNone, sym, subst, arith, ◌∙◌}
use Rattle.std.proofs.lemmas.Bool.{eqb-true}
use Rattle.std.proofs.lemmas.Bool.Decides.{Decides-eqb}
use Rattle.std.proofs.lemmas.Grind.{get_or_default_zero}
use Rattle.std.proofs.lemmas.List.Elements.{All-contains}
use Rattle.std.proofs.lemmas.Map.Made.{IsDistinct-from_AllPairs}
use Rattle.std.proofs.lemmas.Map.Steps.{length-le_from_distinct_below}
use Rattle.std.proofs.lemmas.Map.Views.{Contains-from_any}
use Rattle.clause_meaning.proofs.Members.{Contains-take, Contains-take_all, Contains-take_more_cases, Contains-take_more_left, Contains-take_more_at}
use Rattle.cdcl_trail.specs.declared.trail_entry.TrailEntry.{TrailEntry}
use Rattle.cdcl_trail.specs.Choices.{DifferInPairs, IsOpen, AreAssigned, IsPick, Improves}
use Rattle.cdcl_trail.proofs.Entries.{assigned_or_not}

-- different variables below n are at most n
pub few_below : (variables : List ℕ) (n : ℕ) → DifferInPairs variables → All (λ (v : ℕ). v < n) variables → length variables ≤ n
few_below variables n differ below =
    length-le_from_distinct_below variables n (IsDistinct-from_AllPairs Decides-eqb variables differ)
    (λ q is. All-contains (λ (v : ℕ). v < n) variables q below (Contains-from_any eqb-true q variables is))

-- the choice so far is in range
pub picked_below : (Open : ℕ → Type 0) (variables : List ℕ) (i n : ℕ) (r : Option ℕ) → All (λ (v : ℕ). v < n) variables → IsPick Open (take i variables) r
    → IfSome r (λ (v : ℕ). v < n)
picked_below Open variables i n None below pick = tt
picked_below Open variables i n (Some v) below pick = All-contains (λ (v : ℕ). v < n) variables v below (Contains-take variables i v pick.0)

-- nothing is chosen of no variables
pub IsPick-none : (Open : ℕ → Type 0) (variables : List ℕ) → IsPick Open (take 0 variables) None
IsPick-none Open variables v (k, p, is) free = absurd (omega arith)

-- one more variable
pub IsPick-more : (Open : ℕ → Type 0) (variables : List ℕ) (i : ℕ) (best r : Option ℕ) → i < length variables → IsPick Open (take i variables) best
    → Improves Open best (get_or variables i 0) r → IsPick Open (take (i + 1) variables) r
IsPick-more Open variables i best None below pick (is, shut) =
    λ v m free. elim (Contains-take_more_cases variables i 0 v below m) [
      | inl old ↦ subst (IsPick Open (take i variables)) is pick v old free
      | inr e ↦ shut (subst Open (sym e) free)
    ]
IsPick-more Open variables i best (Some w) below pick (inl is) =
    let old : IsPick Open (take i variables) (Some w) = subst (IsPick Open (take i variables)) is pick in
    (Contains-take_more_left variables i w old.0, old.1)
IsPick-more Open variables i best (Some w) below pick (inr (e, free)) =
    (Contains-take_more_at variables i w below (get_or_default_zero variables i w below ∙ sym e), subst Open (sym e) free)

-- all variables were looked at
pub IsPick-all : (Open : ℕ → Type 0) (variables : List ℕ) (i : ℕ) (r : Option ℕ) → length variables ≤ i → IsPick Open (take i variables) r
    → IsPick Open variables r
IsPick-all Open variables i None past pick = λ v m free. pick v (Contains-take_all variables i v past m) free
IsPick-all Open variables i (Some w) past pick = (Contains-take variables i w pick.0, pick.1)

-- where nothing is chosen, the variables with a count are assigned
pub assigned_where_none : (entries : List TrailEntry) (counts variables : List ℕ) (r : Option ℕ) → IsPick (IsOpen entries counts) variables r
    → IfNone r (AreAssigned entries counts variables)
assigned_where_none entries counts variables None pick =
    λ v m some. elim (assigned_or_not entries v) [ inl held ↦ held | inr free ↦ absurd (pick v m (free, some)) ]
assigned_where_none entries counts variables (Some v) pick = tt
