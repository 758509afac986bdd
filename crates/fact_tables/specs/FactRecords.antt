-- Which records are those of facts, and the faults of the others.
use Rattle.std.specs.Prelude.{◌≡◌, ◌≢◌, ◌⊎◌, ℕ, ◌+◌, [], length}
use Rattle.std.specs.List.{AllByRecursion}
use Rattle.std.specs.Str.{IsUtf8}
use Rattle.fact_tables.specs.Tables.{Fields}

-- how many records a table of facts may have
abbrev pub most_records : ℕ
most_records = 200000

-- a concept and an individual, or a role and two individuals
abbrev pub HasFactWidth : Fields → Type 0
HasFactWidth fields = (length fields ≡ 2) ⊎ (length fields ≡ 3)

-- each field is UTF-8
abbrev pub AreTexts : Fields → Type 0
AreTexts fields = AllByRecursion IsUtf8 fields

-- no field is empty
abbrev pub AreFilled : Fields → Type 0
AreFilled fields = AllByRecursion (λ field. field ≢ []) fields

-- the record is that of a fact
pub record IsFactRecord (fields : Fields) : Type 0 where
  pub width : HasFactWidth fields
  pub texts : AreTexts fields
  pub filled : AreFilled fields

-- why a table of facts may be refused
pub data FactFault : Type 0 where
  bad_width : FactFault
  not_utf8 : FactFault
  empty_field : FactFault
  too_many : FactFault

-- the record of this number, from 1, has the fault, and none that is named before it
abbrev pub HasFault : FactFault → ℕ → Fields → Type 0
HasFault bad_width number fields = ¬ (HasFactWidth fields)
HasFault not_utf8 number fields = HasFactWidth fields × ¬ (AreTexts fields)
HasFault empty_field number fields = HasFactWidth fields × AreTexts fields × ¬ (AreFilled fields)
HasFault too_many number fields = IsFactRecord fields × (number ≡ most_records + 1)
