-- What holds of all files: they say one thing, and they ask for one end.
use Rattle.std.specs.Prelude.{◌≡◌, List, ℕ, Some}
use Rattle.cq_terms.specs.Knowledge.{Knowledge}
use Rattle.cq_terms.specs.Query.{Query}
use Rattle.cq_terms.specs.declared.names.Vocab.{Vocab}
use Rattle.cqapri_words.specs.Words.{FileNames}
use Rattle.cqapri_words.specs.declared.refusal.Refusal.{Refusal}
use Rattle.cqapri_words.specs.declared.refusal.Refusal.TheVariants as refusal
use Rattle.input_files.specs.Fetching.{Held}
use Rattle.input_files.specs.Inputs.{AreAccepted, IsReportThere, StopsFiles, StopsReport}
use Rattle.input_files.specs.Meaning.{FilesSay}

-- the files say one thing by numbers
abbrev pub FilesSayOneThing : Type 0
FilesSayOneThing =
    (held : Held) (names : FileNames) (kb other_kb : Knowledge) (query other_query : Query) (vocab other_vocab : Vocab)
    → FilesSay (Some held) names kb query vocab → FilesSay (Some held) names other_kb other_query other_vocab
    → (kb ≡ other_kb) × (query ≡ other_query) × (vocab ≡ other_vocab)

-- the refusal is one that files ask for: no fault of the shelf, and no want of memory
abbrev pub IsOfContent : Refusal → Type 0
IsOfContent (refusal.NotThere f) = Unit {0}
IsOfContent (refusal.Faulty wrong) = Unit {0}
IsOfContent (refusal.Limit beyond) = Unit {0}
IsOfContent r = ⊥

-- no files ask for two refusals, accepted files ask for none, and files that say something are accepted
pub record EachEndIsOne : Type 0 where
  pub one : (held : Held) (names : FileNames) (r s : Refusal) → IsOfContent r → IsOfContent s → StopsFiles held names r → StopsFiles held names s → r ≡ s
  pub none : (held : Held) (names : FileNames) (r : Refusal) → IsOfContent r → StopsFiles held names r → ¬ AreAccepted held names
  pub said : (held : Held) (names : FileNames) (kb : Knowledge) (query : Query) (vocab : Vocab) → FilesSay (Some held) names kb query vocab
      → AreAccepted held names

-- no report asks for two refusals, and a report that is there, within its limit, for none
pub record EachReportEndIsOne : Type 0 where
  pub one : (held : Held) (name : List ℕ) (r s : Refusal) → IsOfContent r → IsOfContent s → StopsReport held name r → StopsReport held name s → r ≡ s
  pub none : (held : Held) (name : List ℕ) (r : Refusal) → IsOfContent r → StopsReport held name r → ¬ IsReportThere held name
