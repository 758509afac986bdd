-- The statuses and the texts of refusals.
use Rattle.std.specs.Prelude.{◌≡◌, ℕ, ◌⊎◌, List, [], ◌∷◌, ◌++◌, take, Option, Some, None, codes, decimal}
use Rattle.cq_io.specs.Faults.{CountsFault}
use Rattle.cq_io.specs.Writing.{appended}
use Rattle.cqapri_words.specs.declared.status.Status.{Status}
use Rattle.cqapri_words.specs.declared.status.Status.TheVariants as status
use Rattle.cqapri_words.specs.declared.refusal.Refusal.{Refusal}
use Rattle.cqapri_words.specs.declared.refusal.Refusal.TheVariants as refusal
use Rattle.cqapri_words.specs.Cycles.{cycle_text}
use Rattle.cqapri_words.specs.Faults.{fault_text}
use Rattle.cqapri_words.specs.Files.{file_text, quantity_text}

-- the status that a refusal ends with
abbrev pub status_of : Refusal → Status
status_of refusal.Words = status.Words
status_of (refusal.NotThere f) = status.Refused
status_of (refusal.Faulty wrong) = status.Refused
status_of (refusal.Limit beyond) = status.Limit
status_of (refusal.Cycle cycle) = status.Refused
status_of (refusal.ReadFault f) = status.ReadFault
status_of refusal.WriteFault = status.WriteFault
status_of refusal.NoMemory = status.NoMemory

-- what a refusal's text says after `cqapri: `
abbrev pub reason_of : Refusal → List ℕ
reason_of refusal.Words = codes "words"
reason_of (refusal.NotThere f) = file_text f ++ codes ": not there"
reason_of (refusal.Faulty wrong) = fault_text wrong
reason_of (refusal.Limit beyond) = codes "limit: " ++ quantity_text beyond
reason_of (refusal.Cycle cycle) = cycle_text cycle
reason_of (refusal.ReadFault f) = file_text f ++ codes ": read fault"
reason_of refusal.WriteFault = codes "write fault"
reason_of refusal.NoMemory = codes "memory"

-- the text of a refusal, one line
abbrev pub text_of : Refusal → List ℕ
text_of r = codes "cqapri: " ++ (reason_of r ++ 10 ∷ [])

-- the decimal digits of a number, where there is one
abbrev pub number_text : Option ℕ → List ℕ
number_text (Some number) = decimal number
number_text None = []

-- the sink got these bytes whole and counted no fault, or it counted one and got the first of them
abbrev pub Writes : List ℕ → Option (List ℕ) → Option (List ℕ) → ℕ → ℕ → Type 0
Writes bytes old new before now =
    ((new ≡ appended old bytes) × (now ≡ before))
    ⊎ (CountsFault before now × ((count : ℕ) × (new ≡ appended old (take count bytes))))

-- the sink got the refusal's text, or the first of it where it failed
abbrev pub Tells : Refusal → Option (List ℕ) → Option (List ℕ) → ℕ → ℕ → Type 0
Tells r old new before now = Writes (text_of r) old new before now
