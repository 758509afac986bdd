-- At which file a reading ends, and which fetches of the shelf come before.
use Rattle.std.specs.Prelude.{◌≡◌, ℕ, suc, List, Option, Some, None, IsSome, Bool, false}
use Rattle.cq_io.specs.Failing.{Failing}
use Rattle.cqapri_words.specs.Words.{FileNames}
use Rattle.cqapri_words.specs.declared.fault.Fault.{Fault}
use Rattle.cqapri_words.specs.declared.fault.Fault.TheVariants as fault
use Rattle.cqapri_words.specs.declared.files.File.{File}
use Rattle.cqapri_words.specs.declared.files.File.TheVariants as file
use Rattle.cqapri_words.specs.declared.files.Quantity.{Quantity}
use Rattle.cqapri_words.specs.declared.files.Quantity.TheVariants as quantity
use Rattle.cqapri_words.specs.declared.refusal.Refusal.{Refusal}
use Rattle.cqapri_words.specs.declared.refusal.Refusal.TheVariants as refusal
use Rattle.input_files.specs.Fetching.{Succeed, TellsNext, after_fetches, is_fault}
use Rattle.input_files.specs.Inputs.{name_of}

-- the file in which its reader finds the fault, where it is one that is read here: a report isn't
abbrev pub file_of : Fault → Option File
file_of (fault.LineNotUtf8 line) = Some file.Ontology
file_of (fault.BadLine line) = Some file.Ontology
file_of (fault.BadWidth number) = Some file.Facts
file_of (fault.RecordNotUtf8 number) = Some file.Facts
file_of (fault.EmptyField number) = Some file.Facts
file_of (fault.PairWidth number) = Some file.Priority
file_of (fault.BadNumber number) = Some file.Priority
file_of (fault.NoSuchRecord number) = Some file.Priority
file_of (fault.BadToken at) = Some file.Query
file_of (fault.RepeatedHead place) = Some file.Query
file_of (fault.HeadNotInBody place) = Some file.Query
file_of (fault.ReportLine line) = None

-- the file that has too much of the quantity, where it is one of a file
abbrev pub file_beyond : Quantity → Option File
file_beyond quantity.OntologyLength = Some file.Ontology
file_beyond quantity.Axioms = Some file.Ontology
file_beyond quantity.FactsLength = Some file.Facts
file_beyond quantity.Records = Some file.Facts
file_beyond quantity.PriorityLength = Some file.Priority
file_beyond quantity.Pairs = Some file.Priority
file_beyond quantity.QueryLength = Some file.Query
file_beyond quantity.QueryAtoms = Some file.Query
file_beyond quantity.ReportLength = Some file.Report
file_beyond quantity.Closure = None
file_beyond quantity.Conflicts = None
file_beyond quantity.Supports = None

-- the refusal is one that fetching or reading the file may give
abbrev pub IsOf : File → Refusal → Type 0
IsOf f (refusal.NotThere g) = g ≡ f
IsOf f (refusal.Faulty wrong) = file_of wrong ≡ Some f
IsOf f (refusal.Limit beyond) = file_beyond beyond ≡ Some f
IsOf f (refusal.ReadFault g) = g ≡ f
IsOf f refusal.NoMemory = Unit {0}
IsOf f r = ⊥

-- how many fetches the priority takes: one, where it is named
abbrev pub priority_fetches : Option (List ℕ) → ℕ
priority_fetches None = 0
priority_fetches (Some name) = 1

-- whether the next fetch fails, where a priority is named, and else that none did
abbrev pub TellsPriority : Option (List ℕ) → Option Failing → Bool → Type 0
TellsPriority None failing failed = failed ≡ false
TellsPriority (Some name) failing failed = TellsNext failing failed

-- how many files are fetched before this one
abbrev pub place_of : FileNames → File → ℕ
place_of names file.Ontology = 0
place_of names file.Facts = 1
place_of names file.Priority = 2
place_of names file.Query = suc (suc (priority_fetches names.priority))
place_of names file.Report = suc (suc (suc (priority_fetches names.priority)))

-- the reading of these files ends at this one with the refusal: the fetches before don't fail, its own does exactly where the refusal
-- is a fault of the shelf, and none comes after it
pub record EndsAt (names : FileNames) (f : File) (r : Refusal) (old new : Option Failing) : Type 0 where
  pub named : IsSome (name_of names f)
  pub of_file : IsOf f r
  pub earlier : Succeed (place_of names f) old
  pub own : TellsNext (after_fetches (place_of names f) old) (is_fault r)
  pub after : new ≡ after_fetches (suc (place_of names f)) old

-- the reading of these files ends at one of them with the refusal
abbrev pub EndsBy : FileNames → Refusal → Option Failing → Option Failing → Type 0
EndsBy names r old new = (f : File) × EndsAt names f r old new
