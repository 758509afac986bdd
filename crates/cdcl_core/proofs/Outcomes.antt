-- What a solver shows after its store was searched.
use Rattle.std.proofs.Common.{◌≡◌, ◌<◌, ℕ, List, [], ◌∷◌, All, Bool, true, refl, sym, subst, ap, ◌∙◌}
use Rattle.std.proofs.lemmas.Bool.{both_ways}
use Rattle.std.proofs.lemmas.List.Elements.{All-contains}
use Rattle.cdcl_core.specs.declared.outcome.Budget.{Budget}
use Rattle.cdcl_core.specs.declared.outcome.Outcome.{Outcome}
use Rattle.cdcl_core.specs.declared.outcome.Outcome.TheVariants as outcome
use Rattle.cdcl_core.specs.State.{State, value_in}
use Rattle.cdcl_core.specs.Store.{StoreState}
use Rattle.cdcl_core.specs.Shown.{literals_on, values_on}
use Rattle.cdcl_core.specs.Changes.{live_in}
use Rattle.cdcl_core.specs.Solving.{AreAskable, Ends, Learns}
use Rattle.proof_logs.specs.Logs.{Learned}
use Rattle.cdcl_core.specs.Learning.{with_learned, with_all}
use Rattle.cdcl_core.specs.Seeking.{StoreEnds, is_model_of, bare}
use Rattle.cdcl_core.proofs.Seeks.{contains_in}

-- with the values of its trail, where a model was found
abbrev pub seen : StoreState → Bool → State
seen parts found = record { variables = parts.arena.variables; live = live_in parts; next = parts.next; values = values_on found parts.trail.entries }

pub AreAskable-bare : (parts : StoreState) (found : Bool) (scope assume : List ℕ) → AreAskable (seen parts found) scope assume
    → AreAskable (bare parts) scope assume
AreAskable-bare parts found scope assume h = record { ascending = h.ascending; in_range = h.in_range; assumed = h.assumed; separates = h.separates }

pub ends_seen : (parts : StoreState) (found : Bool) (scope assume : List ℕ) (budget : Budget) (o : Outcome) → found ≡ is_model_of o
    → StoreEnds parts scope assume budget o → Ends (seen parts found) scope assume budget o
ends_seen parts found scope assume budget outcome.Refuted is h = (h, ap (λ (b : Bool). values_on b parts.trail.entries) is)
ends_seen parts found scope assume budget outcome.Spent is (spent, unrefuted) = (spent, unrefuted, ap (λ (b : Bool). values_on b parts.trail.entries) is)
ends_seen parts found scope assume budget outcome.Model is h = (literals_on parts.trail.entries, ap (λ (b : Bool). values_on b parts.trail.entries) is, h)

all_variables : (s : State) (entries : List Learned) → (with_all s entries).variables ≡ s.variables
all_variables s [] = refl
all_variables s (e ∷ es) = all_variables (with_learned s e) es

-- what a model makes present is in range
pub present_in_range : (old new : StoreState) (found : Bool) (scope assume : List ℕ) (was now budget : Budget) (entries : List Learned) (o : Outcome)
    → found ≡ is_model_of o
    → StoreEnds new scope assume budget o → Learns (bare old) (bare new) scope assume was now entries → All (λ v. v < old.arena.variables) scope
    → found ≡ true → (v : ℕ) → value_in (literals_on new.trail.entries) v ≡ true → v < new.arena.variables
present_in_range old new found scope assume was now budget entries outcome.Refuted is h learns in_range told v present = absurd (both_ways found is told)
present_in_range old new found scope assume was now budget entries outcome.Spent is h learns in_range told v present = absurd (both_ways found is told)
present_in_range old new found scope assume was now budget entries outcome.Model is h learns in_range told v present =
    let same : new.arena.variables ≡ old.arena.variables = ap (λ (s : State). s.variables) learns.live ∙ all_variables (bare old) entries in
    subst (λ (n : ℕ). v < n) (sym same) (All-contains (λ (w : ℕ). w < old.arena.variables) scope v in_range (contains_in scope v (h.others v present).0))
