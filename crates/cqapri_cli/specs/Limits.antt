-- The limits of the words, and what is refused behind the files.
use Rattle.std.specs.Prelude.{◌≡◌, ℕ, ◌<◌, List, length, All}
use Rattle.cq_terms.specs.Knowledge.{Knowledge}
use Rattle.cq_terms.specs.Query.{Query}
use Rattle.cq_terms.specs.declared.facts.Fact.{Fact}
use Rattle.cq_terms.specs.declared.names.Vocab.{Vocab}
use Rattle.preparation.specs.Refusals.{IsRefused, IsWithin}
use Rattle.preparation.specs.declared.limits.Limits.{Limits}
use Rattle.preparation.specs.declared.refusal.PrepareRefusal.{PrepareRefusal}
use Rattle.preparation.specs.declared.refusal.PrepareRefusal.TheVariants as prepare
use Rattle.cqapri_words.specs.Cycles.{NamedCycle, facts_at}
use Rattle.cqapri_words.specs.Words.{Settings}
use Rattle.cqapri_words.specs.declared.files.Quantity.TheVariants as quantity
use Rattle.cqapri_words.specs.declared.refusal.Refusal.{Refusal}
use Rattle.cqapri_words.specs.declared.refusal.Refusal.TheVariants as refusal

-- the limits of the words
abbrev pub limits_of : Settings → Limits
limits_of settings = record { members = settings.most_queries; conflicts = settings.most_conflicts; supports = settings.most_supports }

-- no limit is exceeded, and the priority has no cycle
abbrev pub IsWithinLimits : Knowledge → Query → Settings → Type 0
IsWithinLimits kb q settings = IsWithin kb q settings.repairs (limits_of settings)

-- the facts of these numbers, with the names
abbrev pub named_cycle : List Fact → Vocab → List ℕ → NamedCycle
named_cycle facts vocab numbers = record { facts = facts_at facts numbers; vocab = vocab }

-- a cycle that the refusal names is one of these facts
abbrev pub NamesFacts : List Fact → PrepareRefusal → Type 0
NamesFacts facts (prepare.Cycle numbers) = All (λ n. n < length facts) numbers
NamesFacts facts why = Unit {0}

-- what a refusal behind the files is for the job
abbrev pub refusal_of_preparing : List Fact → Vocab → PrepareRefusal → Refusal
refusal_of_preparing facts vocab prepare.Members = refusal.Limit quantity.Closure
refusal_of_preparing facts vocab prepare.Conflicts = refusal.Limit quantity.Conflicts
refusal_of_preparing facts vocab (prepare.Cycle numbers) = refusal.Cycle (named_cycle facts vocab numbers)
refusal_of_preparing facts vocab prepare.Supports = refusal.Limit quantity.Supports
refusal_of_preparing facts vocab prepare.NoMemory = refusal.NoMemory

-- a limit or a cycle refuses what the files say, or memory ran out
abbrev pub StopsPreparing : Knowledge → Query → Vocab → Settings → Refusal → Type 0
StopsPreparing kb q vocab settings r = (why : PrepareRefusal) × IsRefused kb q settings.repairs (limits_of settings) why
    × (r ≡ refusal_of_preparing kb.facts vocab why)
