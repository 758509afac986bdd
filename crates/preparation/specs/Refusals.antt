-- What a refusal of a part is for the whole, and when each refusal comes.
use Rattle.std.specs.Prelude.{◌≡◌, ◌⊎◌, ℕ}
use Rattle.cq_terms.specs.declared.facts.Repairs.{Repairs}
use Rattle.cq_terms.specs.declared.facts.Repairs.TheVariants as mode
use Rattle.cq_terms.specs.Knowledge.{Knowledge, kb_of}
use Rattle.cq_terms.specs.Query.{Query}
use Rattle.cq_meaning.specs.Repairs.{IsBetter, IsAcyclic}
use Rattle.perfect_ref.specs.declared.refusal.CloseRefusal.{CloseRefusal}
use Rattle.perfect_ref.specs.declared.refusal.CloseRefusal.TheVariants as close
use Rattle.perfect_ref.specs.BreadthFirst.{HasMoreThan}
use Rattle.conflict_finder.specs.declared.refusal.FindRefusal.{FindRefusal}
use Rattle.conflict_finder.specs.declared.refusal.FindRefusal.TheVariants as find
use Rattle.conflict_finder.specs.Finding.{IsFirstTooLarge, HasMoreConflicts}
use Rattle.priority_graph.specs.declared.refusal.PriorityRefusal.{PriorityRefusal}
use Rattle.priority_graph.specs.declared.refusal.PriorityRefusal.TheVariants as priority
use Rattle.priority_graph.specs.Relations.{IsCycle}
use Rattle.cause_finder.specs.declared.refusal.CauseRefusal.{CauseRefusal}
use Rattle.cause_finder.specs.declared.refusal.CauseRefusal.TheVariants as causes
use Rattle.cause_finder.specs.Causes.{HasMoreSupports}
use Rattle.preparation.specs.declared.limits.Limits.{Limits}
use Rattle.preparation.specs.declared.refusal.PrepareRefusal.{PrepareRefusal}
use Rattle.preparation.specs.declared.refusal.PrepareRefusal.TheVariants as refusal

abbrev pub of_close : CloseRefusal → PrepareRefusal
of_close close.TooManyCqs = refusal.Members
of_close close.NoMemory = refusal.NoMemory

abbrev pub of_find : FindRefusal → PrepareRefusal
of_find (find.Closure n) = refusal.Members
of_find find.Conflicts = refusal.Conflicts
of_find find.NoMemory = refusal.NoMemory

abbrev pub of_priority : PriorityRefusal → PrepareRefusal
of_priority (priority.Cycle facts) = refusal.Cycle facts
of_priority priority.NoMemory = refusal.NoMemory

abbrev pub of_causes : CauseRefusal → PrepareRefusal
of_causes causes.TooManySupports = refusal.Supports
of_causes causes.NoMemory = refusal.NoMemory

-- the closure of the query, or that of a disjointness, has more members than the limit
abbrev pub HasMoreMembers : Knowledge → Query → ℕ → Type 0
HasMoreMembers kb q limit = HasMoreThan kb.axioms q limit ⊎ ((n : ℕ) × IsFirstTooLarge kb.axioms limit n)

-- there are more self-inconsistent facts and pairs in conflict than the limit; the pairs of the knowledge base play no part
abbrev pub HasMoreClashes : Knowledge → ℕ → Type 0
HasMoreClashes kb limit = HasMoreConflicts (kb_of kb.axioms kb.facts) limit

-- there are more pairs of a tuple and a support of it than the limit
abbrev pub HasMoreTupleSupports : Knowledge → Query → ℕ → Type 0
HasMoreTupleSupports kb q limit = HasMoreSupports (kb_of kb.axioms kb.facts) q limit

-- when each refusal comes, in this order; want of memory says nothing
abbrev pub IsRefused : Knowledge → Query → Repairs → Limits → PrepareRefusal → Type 0
IsRefused kb q repairs limits refusal.Members = HasMoreMembers kb q limits.members
IsRefused kb q repairs limits refusal.Conflicts = (¬ HasMoreMembers kb q limits.members) × HasMoreClashes kb limits.conflicts
IsRefused kb q repairs limits (refusal.Cycle facts) =
    (¬ HasMoreMembers kb q limits.members) × (¬ HasMoreClashes kb limits.conflicts) × IsCycle (IsBetter kb repairs) facts
IsRefused kb q repairs limits refusal.Supports =
    (¬ HasMoreMembers kb q limits.members) × (¬ HasMoreClashes kb limits.conflicts) × IsAcyclic kb repairs
    × HasMoreTupleSupports kb q limits.supports
IsRefused kb q repairs limits refusal.NoMemory = Unit {0}

-- nothing but want of memory refuses it
pub record IsWithin (kb : Knowledge) (q : Query) (repairs : Repairs) (limits : Limits) : Type 0 where
  pub members : ¬ HasMoreMembers kb q limits.members
  pub clashes : ¬ HasMoreClashes kb limits.conflicts
  pub acyclic : IsAcyclic kb repairs
  pub supports : ¬ HasMoreTupleSupports kb q limits.supports

-- a cycle of the priority; want of memory, and nothing else
abbrev pub IsRefusedPriority : Knowledge → Repairs → PrepareRefusal → Type 0
IsRefusedPriority kb repairs (refusal.Cycle facts) = IsCycle (IsBetter kb repairs) facts
IsRefusedPriority kb repairs refusal.NoMemory = Unit {0}
IsRefusedPriority kb repairs refusal.Members = ⊥
IsRefusedPriority kb repairs refusal.Conflicts = ⊥
IsRefusedPriority kb repairs refusal.Supports = ⊥
