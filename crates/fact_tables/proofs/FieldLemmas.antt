-- The fields of a record at their places.
use Rattle.std.proofs.Common.{◌≡◌, ℕ, zero, suc, ◌<◌, List, [], ◌∷◌, length, Some, None, subst, arith}
use Rattle.std.specs.Prelude.{IfNone, Result, Ok, Err}
use Rattle.std.specs.Result.{MatchResult, result_ok}
use Rattle.std.specs.List.{AllByRecursion}
use Rattle.std.specs.Str.{IsUtf8}
use Rattle.csv.specs.Records.{field_at}
use Rattle.fact_tables.specs.FactRecords.{AreTexts}
use Rattle.fact_tables.specs.Tables.{Fields}

-- what holds of each field holds of that at a place
pub each_field : (P : List ℕ → Type 0) (fields : Fields) (i : ℕ) (f : List ℕ) → AllByRecursion P fields → field_at fields i ≡ Some f → P f
unfolding field_at
each_field P [] i f all at = cc at
each_field P (g ∷ fields) zero f all at = let e : g ≡ f = cc at in subst P e all.0
each_field P (g ∷ fields) (suc i) f all at = each_field P fields i f all.1 at

-- there is a field at each place
pub some_field : (fields : Fields) (i : ℕ) → i < length fields → None ≡ field_at fields i → ⊥
unfolding field_at
some_field [] i within none = absurd (omega (arith, within))
some_field (f ∷ fields) zero within none = cc none
some_field (f ∷ fields) (suc i) within none = some_field fields i (omega (arith, within)) none

-- two fields at their places are all of two
pub two_fields : (fields : Fields) (a b : List ℕ) → length fields ≡ 2 → field_at fields 0 ≡ Some a → field_at fields 1 ≡ Some b → fields ≡ a ∷ b ∷ []
unfolding field_at
two_fields [] a b width at0 at1 = absurd (omega (arith, width))
two_fields (x ∷ []) a b width at0 at1 = absurd (omega (arith, width))
two_fields (x ∷ y ∷ []) a b width at0 at1 = cc
two_fields (x ∷ y ∷ z ∷ fields) a b width at0 at1 = absurd (omega (arith, width))

-- three fields at their places are all of three
pub three_fields : (fields : Fields) (a b c : List ℕ) → length fields ≡ 3 → field_at fields 0 ≡ Some a → field_at fields 1 ≡ Some b
    → field_at fields 2 ≡ Some c → fields ≡ a ∷ b ∷ c ∷ []
unfolding field_at
three_fields [] a b c width at0 at1 at2 = absurd (omega (arith, width))
three_fields (x ∷ []) a b c width at0 at1 at2 = absurd (omega (arith, width))
three_fields (x ∷ y ∷ []) a b c width at0 at1 at2 = absurd (omega (arith, width))
three_fields (x ∷ y ∷ z ∷ []) a b c width at0 at1 at2 = cc
three_fields (x ∷ y ∷ z ∷ w ∷ fields) a b c width at0 at1 at2 = absurd (omega (arith, width))

-- where a field isn't UTF-8, not all are
pub not_texts : (fields : Fields) (i : ℕ) (f : List ℕ) → field_at fields i ≡ Some f → ¬ (IsUtf8 f) → ¬ (AreTexts fields)
not_texts fields i f at not all = not (each_field IsUtf8 fields i f all at)

-- where the text of a result is asked for and there is none, the result is an error
pub none_of_err : {T E : Type 0} (r : Result T E) (P : T → Type 0) (Q : E → Type 0) (R : Type 0) → MatchResult r P Q → ((e : E) → Q e → R)
    → IfNone (result_ok r) R
none_of_err (Ok x) P Q R h more = tt
none_of_err (Err e) P Q R h more = more e h

-- fields that are known to be texts
pub two_texts : (fields : Fields) (a b : List ℕ) → fields ≡ a ∷ b ∷ [] → IsUtf8 a → IsUtf8 b → AreTexts fields
two_texts fields a b e x y = rw e (x, (y, tt))

pub three_texts : (fields : Fields) (a b c : List ℕ) → fields ≡ a ∷ b ∷ c ∷ [] → IsUtf8 a → IsUtf8 b → IsUtf8 c → AreTexts fields
three_texts fields a b c e x y z = rw e (x, (y, (z, tt)))
