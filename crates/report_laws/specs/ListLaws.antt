-- The laws of exact lists: there is one list of conflicts, one of causes and one of candidates.
use Rattle.std.specs.Prelude.{◌≡◌, ℕ, List}
use Rattle.cq_terms.specs.Knowledge.{Knowledge}
use Rattle.cq_terms.specs.Query.{Query}
use Rattle.cq_meaning.specs.Conflicts.{AreConflicts}
use Rattle.cq_meaning.specs.Candidates.{AreCandidates, AreCauses}
use Rattle.report_rules.specs.ConflictLists.{AreConflictLists}

-- a table has one list of self-inconsistent facts and one of conflicts
abbrev pub ConflictsAreOne : Type 0
ConflictsAreOne = (kb : Knowledge) (owns others : List ℕ) (pairs couples : List (ℕ × ℕ)) → AreConflicts kb owns pairs
    → AreConflicts kb others couples → (owns ≡ others) × (pairs ≡ couples)

-- and one list of both
abbrev pub ConflictListsAreOne : Type 0
ConflictListsAreOne = (kb : Knowledge) (lists others : List (List ℕ)) → AreConflictLists kb lists → AreConflictLists kb others
    → lists ≡ others

-- a tuple has one list of causes
abbrev pub CausesAreOne : Type 0
CausesAreOne = (kb : Knowledge) (q : Query) (tuple : List ℕ) (causes others : List (List ℕ)) → AreCauses kb q tuple causes
    → AreCauses kb q tuple others → causes ≡ others

-- a query has one list of candidates
abbrev pub CandidatesAreOne : Type 0
CandidatesAreOne = (kb : Knowledge) (q : Query) (tuples others : List (List ℕ)) → AreCandidates kb q tuples
    → AreCandidates kb q others → tuples ≡ others

-- the exact lists are one each
pub record LawsOfLists : Type 0 where
  pub conflicts : ConflictsAreOne
  pub conflict_lists : ConflictListsAreOne
  pub causes : CausesAreOne
  pub candidates : CandidatesAreOne
