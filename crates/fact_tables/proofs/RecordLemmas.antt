-- Byte order marks, and the records of a text one after another.
use Rattle.std.proofs.Common.{◌≡◌, ℕ, zero, suc, ◌+◌, ◌<◌, ◌≤◌, Bool, true, false, cond, ◌==◌, ◌&&◌, List, [], ◌∷◌, ◌++◌, length, drop, Option, Some, None}
use Rattle.std.proofs.Common.{nat_eq, refl, ap, subst, ◌∙◌, arith, if◌then◌else◌}
use Rattle.std.proofs.lemmas.Bool.Decides.{nat_tests}
use Rattle.std.specs.List.{starts_with}
use Rattle.csv.specs.Machine.{Read, next_record, step, is_end, ends_at_end, fields_after, field_after, ends_with, after_end, in_field, start_field}
use Rattle.csv.specs.Machine.{start_record, is_byte}
use Rattle.csv.specs.Reading.{default_config, records, records_from, records_next, strip_bom, is_bom}
use Rattle.csv.specs.declared.parser.Config.{Config}
use Rattle.csv.specs.declared.parser.State.{State}
use Rattle.csv.specs.declared.parser.State.TheVariants as st
use Rattle.csv.specs.declared.parser.Action.{Action}
use Rattle.csv.specs.declared.parser.Terminator.{Terminator}
use Rattle.csv.specs.declared.parser.Terminator.TheVariants as term
use Rattle.fact_tables.specs.Tables.{skip_marks}
use Rattle.fact_tables.specs.Rows.{rows_from}

abbrev pub mark : List ℕ
mark = 239 ∷ 187 ∷ 191 ∷ []

-- ---- marks

no_and : (b : Bool) → (b && false) ≡ true → ⊥
no_and true h = cc
no_and false h = cc

no_and2 : (a b : Bool) → (a && (b && false)) ≡ true → ⊥
no_and2 true b h = no_and b h
no_and2 false b h = cc

is_bom-starts : (a b c : ℕ) (rest : List ℕ) → is_bom a b c ≡ starts_with nat_eq (a ∷ b ∷ c ∷ rest) mark
is_bom-starts a b c rest = grind (arith, nat_tests)

pub skip_marks-mark : (xs : List ℕ) → starts_with nat_eq xs mark ≡ true → skip_marks (drop 3 xs) ≡ skip_marks xs
unfolding skip_marks
skip_marks-mark [] h = cc
skip_marks-mark (a ∷ []) h = absurd (no_and _ h)
skip_marks-mark (a ∷ b ∷ []) h = absurd (no_and2 _ _ h)
skip_marks-mark (a ∷ b ∷ c ∷ rest) h = rw (is_bom-starts a b c rest, h) refl

pub skip_marks-none : (xs : List ℕ) → starts_with nat_eq xs mark ≡ false → skip_marks xs ≡ xs
unfolding skip_marks
skip_marks-none [] h = refl
skip_marks-none (a ∷ []) h = refl
skip_marks-none (a ∷ b ∷ []) h = refl
skip_marks-none (a ∷ b ∷ c ∷ rest) h = rw (is_bom-starts a b c rest, h) refl

pub strip_bom-skip_marks : (xs : List ℕ) → strip_bom (skip_marks xs) ≡ skip_marks xs
unfolding skip_marks strip_bom
strip_bom-skip_marks [] = refl
strip_bom-skip_marks (a ∷ []) = refl
strip_bom-skip_marks (a ∷ b ∷ []) = refl
strip_bom-skip_marks (a ∷ b ∷ c ∷ rest) = by (is_bom a b c) refl (strip_bom-skip_marks rest)
  where
    by : (m : Bool) → is_bom a b c ≡ m → strip_bom (skip_marks rest) ≡ skip_marks rest
        → strip_bom (if m then skip_marks rest else a ∷ b ∷ c ∷ rest) ≡ (if m then skip_marks rest else a ∷ b ∷ c ∷ rest)
    by true e h = h
    by false e h = rw e refl

-- ---- records

-- the end of a record leaves a state in which the end of the text ends none
abbrev Fine : State × Action → Type 0
Fine p = is_end p.1 ≡ true → ends_at_end p.0 ≡ false

fine_if : (b : Bool) (p q : State × Action) → Fine p → Fine q → Fine (if b then p else q)
fine_if true p q h k = h
fine_if false p q h k = k

ended : (t : Terminator) (c : ℕ) → ends_at_end (after_end t c) ≡ false
ended term.CRLF c = elim (c == 13) as (λ b. ends_at_end (if b then st.AfterCr else st.StartRecord) ≡ false) [ true ↦ refl | false ↦ refl ]
ended (term.Any t) c = refl

fine_in_field : (cfg : Config) (c : ℕ) → Fine (in_field cfg c)
fine_in_field cfg c = fine_if (c == cfg.delimiter) _ _ (λ e. cc e) (fine_if (ends_with cfg.terminator c) _ _ (λ e. ended cfg.terminator c) (λ e. cc e))

fine_start_field : (cfg : Config) (c : ℕ) → Fine (start_field cfg c)
fine_start_field cfg c = fine_if (cfg.quoting && (c == cfg.quote)) _ _ (λ e. cc e) (fine_in_field cfg c)

fine_start_record : (cfg : Config) (c : ℕ) → Fine (start_record cfg c)
fine_start_record cfg c = fine_if (ends_with cfg.terminator c) _ _ (λ e. cc e) (fine_if (is_byte cfg.comment c) _ _ (λ e. cc e) (fine_start_field cfg c))

fine_step : (cfg : Config) (s : State) (c : ℕ) → Fine (step cfg s c)
fine_step cfg st.StartRecord c = fine_start_record cfg c
fine_step cfg st.StartField c = fine_start_field cfg c
fine_step cfg st.InField c = fine_in_field cfg c
fine_step cfg st.InQuoted c = fine_if (cfg.quoting && (c == cfg.quote)) _ _ (λ e. cc e)
    (fine_if (cfg.quoting && is_byte cfg.escape c) _ _ (λ e. cc e) (λ e. cc e))
fine_step cfg st.InEscape c = λ e. cc e
fine_step cfg st.AfterQuote c = fine_if (cfg.quoting && cfg.double_quote && (c == cfg.quote)) _ _ (λ e. cc e) (fine_in_field cfg c)
fine_step cfg st.InComment c = fine_if (c == 10) _ _ (λ e. cc e) (λ e. cc e)
fine_step cfg st.AfterCr c = fine_if (c == 10) _ _ (λ e. cc e) (fine_start_record cfg c)

-- what the end of the text may still give
abbrev last_of : State → ℕ
last_of s = cond (ends_at_end s) 1 0

last_le : (s : State) → last_of s ≤ 1
last_le s = elim (ends_at_end s) as (λ b. cond b 1 0 ≤ 1) [ true ↦ omega arith | false ↦ omega arith ]

-- a record takes some of the text, or the end of it
shorter : (cfg : Config) (s : State) (fields : List (List ℕ)) (field xs : List ℕ) (p : Read)
    → next_record cfg s fields field xs ≡ Some p → length p.2 + last_of p.1 < length xs + last_of s
unfolding next_record
shorter cfg s fields field [] p h = by (ends_at_end s) h
  where
    by : (b : Bool) → cond b (Some (fields ++ (field ∷ []), st.StartRecord, [])) None ≡ Some p → length p.2 + last_of p.1 < 0 + cond b 1 0
    by true e = let same : (fields ++ (field ∷ []), st.StartRecord, []) ≡ p = cc e in subst (λ (q : Read). length q.2 + last_of q.1 < 0 + 1) same (omega arith)
    by false e = cc e
shorter cfg s fields field (c ∷ rest) p h = by (is_end (step cfg s c).1) refl h (λ k. shorter cfg (step cfg s c).0 _ _ rest p k)
  where
    by : (b : Bool) → is_end (step cfg s c).1 ≡ b
        → cond b (Some (fields_after (step cfg s c).1 fields field, (step cfg s c).0, rest))
        (next_record cfg (step cfg s c).0 (fields_after (step cfg s c).1 fields field) (field_after (step cfg s c).1 c field) rest) ≡ Some p
        → (next_record cfg (step cfg s c).0 (fields_after (step cfg s c).1 fields field) (field_after (step cfg s c).1 c field) rest ≡ Some p
        → length p.2 + last_of p.1 < length rest + last_of (step cfg s c).0)
        → length p.2 + last_of p.1 < length (c ∷ rest) + last_of s
    by true e k more =
        let same : (fields_after (step cfg s c).1 fields field, (step cfg s c).0, rest) ≡ p = cc k in
        let none : last_of (step cfg s c).0 ≡ 0 = rw (fine_step cfg s c e) refl in
        subst (λ (q : Read). length q.2 + last_of q.1 < length (c ∷ rest) + last_of s) same (omega (arith, none))
    by false e k more = omega (arith, more k, last_le (step cfg s c).0)

-- more turns than there are records make no difference
records_from-turns : (cfg : Config) (n m : ℕ) (s : State) (xs : List ℕ) → length xs + last_of s < n → length xs + last_of s < m
    → records_from cfg n s xs ≡ records_from cfg m s xs
unfolding records_from
records_from-turns cfg zero m s xs a b = absurd (omega arith)
records_from-turns cfg (suc n) zero s xs a b = absurd (omega arith)
records_from-turns cfg (suc n) (suc m) s xs a b =
    by (next_record cfg s [] [] xs) (λ p e. let less = shorter cfg s [] [] xs p e in
    records_from-turns cfg n m p.1 p.2 (omega (arith, less)) (omega (arith, less)))
  where
    by : (o : Option Read) → ((p : Read) → o ≡ Some p → records_from cfg n p.1 p.2 ≡ records_from cfg m p.1 p.2)
        → records_next (records_from cfg n) o ≡ records_next (records_from cfg m) o
    by None more = refl
    by (Some p) more = ap (λ rows. p.0 ∷ rows) (more p refl)

-- one record more than there are turns left
rows_from-next : (s : State) (xs : List ℕ) → rows_from s xs ≡ records_next (records_from default_config (length xs + 1)) (next_record default_config s [] [] xs)
unfolding records_from
rows_from-next s xs = let last = last_le s in records_from-turns default_config (length xs + 2) (suc (length xs + 1)) s xs (omega (arith, last))
    (omega (arith, last))

-- a record, and those after it
pub rows_from-some : (s : State) (xs : List ℕ) (p : Read) → next_record default_config s [] [] xs ≡ Some p → rows_from s xs ≡ p.0 ∷ rows_from p.1 p.2
rows_from-some s xs p e =
    let less = shorter default_config s [] [] xs p e in
    let here = last_le s in
    let there = last_le p.1 in
    rows_from-next s xs ∙ ap (records_next (records_from default_config (length xs + 1))) e
    ∙ ap (λ rows. p.0 ∷ rows) (records_from-turns default_config (length xs + 1) (length p.2 + 2) p.1 p.2 (omega (arith, less, here)) (omega (arith, there)))

-- no record
pub rows_from-none : (s : State) (xs : List ℕ) → next_record default_config s [] [] xs ≡ None → rows_from s xs ≡ []
rows_from-none s xs e = rows_from-next s xs ∙ ap (records_next (records_from default_config (length xs + 1))) e

-- all records of the bytes
pub rows_from-start : (xs : List ℕ) → rows_from st.StartRecord xs ≡ records default_config xs
rows_from-start xs = records_from-turns default_config (length xs + 2) (length xs + 1) st.StartRecord xs (omega arith) (omega arith)
