-- The fields of the records of a text have together no more bytes than the text.
use Rattle.std.proofs.Common.{◌≡◌, ℕ, zero, suc, ◌+◌, ◌≤◌, Bool, true, false, cond, List, [], ◌∷◌, ◌++◌, length, Option, Some, None, refl, sym, ap, subst}
use Rattle.std.proofs.Common.{arith, if◌then◌else◌, append_assoc, ◌∙◌}
use Rattle.std.proofs.lemmas.List.{length-append, append-nil}
use Rattle.std.specs.List.{flat_map}
use Rattle.csv.specs.Machine.{Read, next_record, step, is_end, ends_at_end, fields_after, field_after}
use Rattle.csv.specs.Reading.{default_config, records_from, records_next, is_bom}
use Rattle.csv.specs.declared.parser.Config.{Config}
use Rattle.csv.specs.declared.parser.State.{State}
use Rattle.csv.specs.declared.parser.State.TheVariants as st
use Rattle.csv.specs.declared.parser.Action.{Action}
use Rattle.csv.specs.declared.parser.Action.TheVariants as act
use Rattle.fact_tables.specs.FactSteps.{bytes_in}
use Rattle.fact_tables.specs.Tables.{Fields, records_of, skip_marks}

-- how many bytes the fields of the records have together
abbrev pub bytes_of : List Fields → ℕ
bytes_of [] = 0
bytes_of (fields ∷ rows) = bytes_in fields + bytes_of rows

pub bytes_of-append : (rows more : List Fields) → bytes_of (rows ++ more) ≡ bytes_of rows + bytes_of more
bytes_of-append [] more = omega arith
bytes_of-append (fields ∷ rows) more = let e = bytes_of-append rows more in omega (arith, e)

joined_push : (fields : Fields) (field : List ℕ) → flat_map (λ f. f) (fields ++ field ∷ []) ≡ flat_map (λ f. f) fields ++ field
joined_push [] field = append-nil field
joined_push (f ∷ fields) field = ap (λ t. f ++ t) (joined_push fields field) ∙ sym (append_assoc f (flat_map (λ g. g) fields) field)

-- one more field
bytes_in-push : (fields : Fields) (field : List ℕ) → bytes_in (fields ++ field ∷ []) ≡ bytes_in fields + length field
bytes_in-push fields field = ap length (joined_push fields field) ∙ length-append _ field

-- one byte adds at most itself
step_bytes : (a : Action) (c : ℕ) (fields : Fields) (field : List ℕ)
    → bytes_in (fields_after a fields field) + length (field_after a c field) ≤ bytes_in fields + length field + 1
step_bytes act.Copy c fields field = let e = length-append field (c ∷ []) in omega (arith, e)
step_bytes act.EndField c fields field = let e = bytes_in-push fields field in omega (arith, e)
step_bytes act.Skip c fields field = omega arith
step_bytes act.EndRecord c fields field = let e = bytes_in-push fields field in omega (arith, e)

-- a record and what follows it have no more bytes than the text
record_bytes : (cfg : Config) (s : State) (fields : Fields) (field xs : List ℕ) (p : Read)
    → next_record cfg s fields field xs ≡ Some p → bytes_in p.0 + length p.2 ≤ bytes_in fields + length field + length xs
unfolding next_record
record_bytes cfg s fields field [] p h = by (ends_at_end s) h
  where
    by : (b : Bool) → cond b (Some (fields ++ (field ∷ []), st.StartRecord, [])) None ≡ Some p → bytes_in p.0 + length p.2 ≤ bytes_in fields + length field + 0
    by true e =
        let same : (fields ++ (field ∷ []), st.StartRecord, []) ≡ p = cc e in
        let size = bytes_in-push fields field in
        subst (λ (q : Read). bytes_in q.0 + length q.2 ≤ bytes_in fields + length field + 0) same (omega (arith, size))
    by false e = cc e
record_bytes cfg s fields field (c ∷ rest) p h = by (is_end (step cfg s c).1) h (λ k. record_bytes cfg (step cfg s c).0 _ _ rest p k)
  where
    by : (b : Bool)
        → cond b (Some (fields_after (step cfg s c).1 fields field, (step cfg s c).0, rest))
        (next_record cfg (step cfg s c).0 (fields_after (step cfg s c).1 fields field) (field_after (step cfg s c).1 c field) rest) ≡ Some p
        → (next_record cfg (step cfg s c).0 (fields_after (step cfg s c).1 fields field) (field_after (step cfg s c).1 c field) rest ≡ Some p
        → bytes_in p.0 + length p.2 ≤ bytes_in (fields_after (step cfg s c).1 fields field) + length (field_after (step cfg s c).1 c field) + length rest)
        → bytes_in p.0 + length p.2 ≤ bytes_in fields + length field + length (c ∷ rest)
    by true k more =
        let same : (fields_after (step cfg s c).1 fields field, (step cfg s c).0, rest) ≡ p = cc k in
        let size = step_bytes (step cfg s c).1 c fields field in
        subst (λ (q : Read). bytes_in q.0 + length q.2 ≤ bytes_in fields + length field + length (c ∷ rest)) same (omega (arith, size))
    by false k more = let size = step_bytes (step cfg s c).1 c fields field in omega (arith, size, more k)

-- so have all records
records_bytes : (n : ℕ) (s : State) (xs : List ℕ) → bytes_of (records_from default_config n s xs) ≤ length xs
unfolding records_from
records_bytes zero s xs = omega arith
records_bytes (suc n) s xs = by (next_record default_config s [] [] xs) (λ p e. record_bytes default_config s [] [] xs p e) (λ p. records_bytes n p.1 p.2)
  where
    by : (o : Option Read) → ((p : Read) → o ≡ Some p → bytes_in p.0 + length p.2 ≤ 0 + 0 + length xs)
        → ((p : Read) → bytes_of (records_from default_config n p.1 p.2) ≤ length p.2) → bytes_of (records_next (records_from default_config n) o) ≤ length xs
    by None one more = omega arith
    by (Some p) one more = omega (arith, one p refl, more p)

length-skip_marks : (bytes : List ℕ) → length (skip_marks bytes) ≤ length bytes
unfolding skip_marks
length-skip_marks [] = omega arith
length-skip_marks (a ∷ []) = omega arith
length-skip_marks (a ∷ b ∷ []) = omega arith
length-skip_marks (a ∷ b ∷ c ∷ rest) = by (is_bom a b c) (length-skip_marks rest)
  where
    by : (m : Bool) → length (skip_marks rest) ≤ length rest → length (if m then skip_marks rest else a ∷ b ∷ c ∷ rest) ≤ length (a ∷ b ∷ c ∷ rest)
    by true h = omega (arith, h)
    by false h = omega arith

-- the records of a table have no more bytes than it
pub table_bytes : (bytes : List ℕ) → bytes_of (records_of bytes) ≤ length bytes
table_bytes bytes =
    let all = records_bytes (length (skip_marks bytes) + 1) st.StartRecord (skip_marks bytes) in
    omega (arith, all, length-skip_marks bytes)
