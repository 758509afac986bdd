-- The two fields of a record of a pair.
use Rattle.std.proofs.Common.{◌≡◌, ℕ, zero, suc, ◌-◌, ◌^◌, ◌<◌, ◌≤◌, min, nat_lt, Bool, true, false, List, [], ◌∷◌, length, Option, Some, None, slice_get}
use Rattle.std.proofs.Common.{refl, sym, ap, ◌∙◌, subst, All, arith}
use Rattle.std.specs.Prelude.{Err, IfErr, IfNone, IsSome, Ok, Result, option_and_then}
use Rattle.std.specs.Result.{IsErrAnd}
use Rattle.std.proofs.lemmas.Bool.{ltb-true, ltb-false}
use Rattle.std.proofs.lemmas.List.Elements.{All-get_or}
use Rattle.std.proofs.lemmas.Option.{get_or_from_slice_get, slice_get_within}
use Rattle.csv.specs.Records.{field_at}
use Rattle.cq_terms.specs.declared.facts.Pair.{Pair}
use Rattle.fact_tables.specs.FactRecords.{most_records}
use Rattle.fact_tables.specs.declared.refusal.PairRefusal.{PairRefusal}
use Rattle.fact_tables.specs.declared.refusal.PairRefusal.TheVariants as refusal
use Rattle.fact_tables.specs.Pairs.{IsRecordRefusal}
use Rattle.fact_tables.specs.Numbers.{capped, number_in}
use Rattle.fact_tables.specs.PairRecords.{AreNumbers, IsPairOf, IsPairRecord, NameRecords, fact_number, named_by}
use Rattle.fact_tables.specs.Tables.{Fields}
use Rattle.fact_tables.proofs.FieldLemmas.{each_field, some_field, two_fields}

-- where a field is no number, not all are
pub not_numbers : (fields : Fields) (place : ℕ) → place < length fields → None ≡ capped (option_and_then number_in (field_at fields place))
    → ¬ (AreNumbers fields)
not_numbers fields place within none all = by (field_at fields place) refl none
  where
    named : (field : List ℕ) → field_at fields place ≡ Some field → (o : Option ℕ) → number_in field ≡ o → None ≡ capped o → ⊥
    named field at None e h = let some : IsSome (number_in field) = each_field (λ f. IsSome (number_in f)) fields place field all at in cc (rw e at some)
    named field at (Some n) e h = cc h

    by : (o : Option (List ℕ)) → field_at fields place ≡ o → None ≡ capped (option_and_then number_in o) → ⊥
    by None at h = some_field fields place within (sym at)
    by (Some field) at h = named field at (number_in field) refl h

-- where nothing is read of the field at a place, not all fields are numbers
pub none_said : (fields : Fields) (place : ℕ) (r : Option ℕ) → place < length fields → r ≡ capped (option_and_then number_in (field_at fields place))
    → IfNone r (¬ (AreNumbers fields))
none_said fields place None within e = not_numbers fields place within e
none_said fields place (Some n) within e = tt

-- past the records there is no fact number
past : (records : List ℕ) (n : ℕ) → length records < n → fact_number records n ≡ None
past records zero h = absurd (omega (arith, h))
past records (suc place) h = by (slice_get records place) refl
  where
    by : (o : Option ℕ) → slice_get records place ≡ o → o ≡ None
    by None e = refl
    by (Some x) e = absurd (omega (arith, h, slice_get_within records place x e))

-- a number beyond 64 bits is that of no record, and so is the greatest of them
capped_number : (records : List ℕ) (n : ℕ) → length records ≤ most_records → fact_number records (min n (2 ^ 64 - 1)) ≡ fact_number records n
capped_number records n few = by (nat_lt (2 ^ 64 - 1) n) refl
  where
    by : (b : Bool) → nat_lt (2 ^ 64 - 1) n ≡ b → fact_number records (min n (2 ^ 64 - 1)) ≡ fact_number records n
    by true e =
        let large = ltb-true (2 ^ 64 - 1) n e in
        past records (min n (2 ^ 64 - 1)) (omega (arith, large, few)) ∙ sym (past records n (omega (arith, large, few)))
    by false e =
        let small = ltb-false (2 ^ 64 - 1) n e in
        let same : min n (2 ^ 64 - 1) ≡ n = omega (arith, small) in
        ap (fact_number records) same

-- what is read of a field that says a number
said : (o : Option ℕ) (m : ℕ) → Some m ≡ capped o → (n : ℕ) × (o ≡ Some n) × (m ≡ min n (2 ^ 64 - 1))
said None m h = cc h
said (Some n) m h = (n, refl, cc h)

-- what is read of the field at a place that says a number
said_at : (fields : Fields) (place m : ℕ) → Some m ≡ capped (option_and_then number_in (field_at fields place)) → (field : List ℕ) × (n : ℕ)
    × (field_at fields place ≡ Some field) × (number_in field ≡ Some n) × (m ≡ min n (2 ^ 64 - 1))
said_at fields place m h = by (field_at fields place) refl h
  where
    by : (o : Option (List ℕ)) → field_at fields place ≡ o → Some m ≡ capped (option_and_then number_in o) → (field : List ℕ) × (n : ℕ)
        × (field_at fields place ≡ Some field) × (number_in field ≡ Some n) × (m ≡ min n (2 ^ 64 - 1))
    by None at h = cc h
    by (Some field) at h = let s = said (number_in field) m h in (field, s.0, at, s.1, s.2)

module _ (records : List ℕ) (few : length records ≤ most_records) where
  -- the fact number of what is read of a field is the one that the field names
  pub named_at : (fields : Fields) (place m : ℕ) → Some m ≡ capped (option_and_then number_in (field_at fields place)) → (field : List ℕ)
      × (field_at fields place ≡ Some field) × (IsSome (number_in field)) × (named_by records field ≡ fact_number records m)
  named_at fields place m h =
      let (field, n, at, number, m_is) = said_at fields place m h in
      (field, at, rw number refl, ap (option_and_then (fact_number records)) number ∙ sym (capped_number records n few) ∙ ap (fact_number records) (sym m_is))

  -- where a field names no record, not all do
  pub not_named : (fields : Fields) (place m : ℕ) → Some m ≡ capped (option_and_then number_in (field_at fields place)) → None ≡ fact_number records m
      → ¬ (NameRecords records fields)
  not_named fields place m h none all =
      let (field, at, number, named) = named_at fields place m h in
      let some : IsSome (named_by records field) = each_field (λ f. IsSome (named_by records f)) fields place field all at in
      cc (rw (named, ← none) at some)

  -- two numbers are two fields that are numbers
  pub both_numbers : (fields : Fields) (u l : ℕ) → length fields ≡ 2 → Some u ≡ capped (option_and_then number_in (field_at fields 0))
      → Some l ≡ capped (option_and_then number_in (field_at fields 1)) → AreNumbers fields
  both_numbers fields u l width first second =
      let (a, at0, number0, named0) = named_at fields 0 u first in
      let (b, at1, number1, named1) = named_at fields 1 l second in
      rw (two_fields fields a b width at0 at1) (number0, (number1, tt))

  module _ (fields : Fields) (u l x y : ℕ) (width : length fields ≡ 2) (first : Some u ≡ capped (option_and_then number_in (field_at fields 0)))
      (second : Some l ≡ capped (option_and_then number_in (field_at fields 1)))
      (upper : Some x ≡ fact_number records u) (lower : Some y ≡ fact_number records l) where
    -- the record is that of a pair
    pub pair_right : IsPairRecord records fields
    pair_right =
        let (a, at0, number0, named0) = named_at fields 0 u first in
        let (b, at1, number1, named1) = named_at fields 1 l second in
        let both = two_fields fields a b width at0 at1 in
        record {
          width = width;
          numbers = both_numbers fields u l width first second;
          named = rw (both, named0, named1, ← upper, ← lower) (refl, (refl, tt));
        }

    -- and this is the pair
    pub pair_exact : IsPairOf records fields (record { upper = x; lower = y })
    pair_exact =
        let (a, at0, number0, named0) = named_at fields 0 u first in
        let (b, at1, number1, named1) = named_at fields 1 l second in
        rw (two_fields fields a b width at0 at1) (named0 ∙ sym upper, named1 ∙ sym lower)

-- the refusal of a record that names no fact record
pub refused_as : {T U : Type 0} (r : Result T PairRefusal) (given : PairRefusal) (records : List ℕ) (number : ℕ) (fields : Fields)
    → IsErrAnd r (λ e. e ≡ given) → ◌≡◌ {A = Result U PairRefusal} (Err given) (Err (refusal.NoSuchRecord number))
    → length fields ≡ 2 → AreNumbers fields → ¬ (NameRecords records fields) → IfErr r (λ e. IsRecordRefusal records number fields e)
refused_as (Ok x) given records number fields h what width numbers unnamed = tt
refused_as (Err e) given records number fields h what width numbers unnamed =
    let is : given ≡ refusal.NoSuchRecord number = cc what in
    rw (h, is) ((width, numbers, unnamed), refl)

-- what holds of all fact numbers of records holds of the one that a field names
named_holds : (P : ℕ → Type 0) (records field : List ℕ) (m : ℕ) → All P records → named_by records field ≡ Some m → P m
named_holds P records field m all at = by (number_in field) refl at
  where
    place : (n : ℕ) → fact_number records n ≡ Some m → P m
    place zero h = cc h
    place (suc i) h = subst P (get_or_from_slice_get records i m 0 h) (All-get_or P records i 0 (slice_get_within records i m h) all)

    by : (o : Option ℕ) → number_in field ≡ o → option_and_then (fact_number records) o ≡ Some m → P m
    by None e h = cc h
    by (Some n) e h = place n h

-- the numbers of a pair are those of facts
pub pair_named : (records : List ℕ) (count : ℕ) (fields : Fields) (pair : Pair) → All (λ n. n < count) records → IsPairOf records fields pair
    → (pair.upper < count) × (pair.lower < count)
pair_named records count [] pair all h = absurd h
pair_named records count (a ∷ []) pair all h = absurd h
pair_named records count (a ∷ b ∷ []) pair all h = (
  named_holds (λ n. n < count) records a pair.upper all h.0,
  named_holds (λ n. n < count) records b pair.lower all h.1,
)
pair_named records count (a ∷ b ∷ d ∷ fields) pair all h = absurd h
