-- Which records are those of pairs, and the faults of the others.
use Rattle.std.specs.Prelude.{◌≡◌, ℕ, zero, suc, ◌+◌, List, [], ◌∷◌, Option, None, Some, IsSome, option_and_then, slice_get, length}
use Rattle.std.specs.List.{AllByRecursion}
use Rattle.cq_terms.specs.declared.facts.Pair.{Pair}
use Rattle.fact_tables.specs.Numbers.{number_in}
use Rattle.fact_tables.specs.Tables.{Fields}

-- how many records a table of pairs may have
abbrev pub most_pairs : ℕ
most_pairs = 400000

-- the fact number of the fact record with this number, from 1
abbrev pub fact_number : List ℕ → ℕ → Option ℕ
fact_number records zero = None
fact_number records (suc place) = slice_get records place

-- the fact number that a field names by the number of a fact record
abbrev pub named_by : List ℕ → List ℕ → Option ℕ
named_by records field = option_and_then (fact_number records) (number_in field)

-- each field is a number
abbrev pub AreNumbers : Fields → Type 0
AreNumbers fields = AllByRecursion (λ field. IsSome (number_in field)) fields

-- each field names a fact record
abbrev pub NameRecords : List ℕ → Fields → Type 0
NameRecords records fields = AllByRecursion (λ field. IsSome (named_by records field)) fields

-- the record is that of a pair
pub record IsPairRecord (records : List ℕ) (fields : Fields) : Type 0 where
  pub width : length fields ≡ 2
  pub numbers : AreNumbers fields
  pub named : NameRecords records fields

-- the pair is that of the record: the fact of the first field is preferred to that of the second
abbrev pub IsPairOf : List ℕ → Fields → Pair → Type 0
IsPairOf records (upper ∷ lower ∷ []) pair =
    (named_by records upper ≡ Some pair.upper) × (named_by records lower ≡ Some pair.lower)
IsPairOf records fields pair = ⊥

-- why a table of pairs may be refused
pub data PairFault : Type 0 where
  bad_width : PairFault
  bad_number : PairFault
  no_such_record : PairFault
  too_many : PairFault

-- the record of this number, from 1, has the fault, and none that is named before it
abbrev pub HasFault : List ℕ → PairFault → ℕ → Fields → Type 0
HasFault records bad_width number fields = ¬ (length fields ≡ 2)
HasFault records bad_number number fields = (length fields ≡ 2) × ¬ (AreNumbers fields)
HasFault records no_such_record number fields = (length fields ≡ 2) × AreNumbers fields × ¬ (NameRecords records fields)
HasFault records too_many number fields = IsPairRecord records fields × (number ≡ most_pairs + 1)
