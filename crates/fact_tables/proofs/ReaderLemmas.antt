-- What one read of a reader does to the records that it has left.
use Rattle.std.proofs.Common.{◌≡◌, ℕ, Bool, true, false, List, [], ◌∷◌, Option, Some, None, Bor, inl, inr, refl, sym, ◌∙◌}
use Rattle.std.specs.Prelude.{IsSome}
use Rattle.csv.specs.Machine.{Read}
use Rattle.csv.specs.Reading.{NextIs, Ready, ReadRecord, ReadsNext, default_config, has_failed, pending_of}
use Rattle.csv.specs.declared.parser.State.{State}
use Rattle.csv.specs.declared.reader.Reader.{Reader}
use Rattle.csv.specs.declared.reader.Trim.TheVariants as trim
use Rattle.fact_tables.specs.Tables.{Fields}
use Rattle.fact_tables.specs.Rows.{IsTableReader, bytes_left, rows_left}
use Rattle.fact_tables.proofs.RecordLemmas.{rows_from-some, rows_from-none}

-- what a record that was found is
found_one : (o : Option Read) (f : Fields) (s : State) (rest : List ℕ) → NextIs o true f s rest → o ≡ Some (f, s, rest)
found_one None f s rest n = cc n
found_one (Some p) f s rest n = let e = n.1 in let d = n.2 in let g = n.3 in rw (e, d, g) refl

found_none : (o : Option Read) (f : Fields) (s : State) (rest : List ℕ) → NextIs o false f s rest → o ≡ None
found_none None f s rest n = refl
found_none (Some p) f s rest n = cc n.0

-- a record was found
some_next : (before after : Option (List ℕ)) (s t : State) (f : Fields) → IsSome before → ReadsNext default_config s before after true f t
    → rows_left before s ≡ f ∷ rows_left after t
some_next None after s t f known r = cc known
some_next (Some xs) None s t f known r = absurd r
some_next (Some xs) (Some ys) s t f known r = rows_from-some s xs (f, t, ys) (found_one _ f t ys r)

-- none was found
none_next : (before after : Option (List ℕ)) (s t : State) (f : Fields) → IsSome before → ReadsNext default_config s before after false f t
    → rows_left before s ≡ []
none_next None after s t f known r = cc known
none_next (Some xs) None s t f known r = absurd r
none_next (Some xs) (Some ys) s t f known r = rows_from-none s xs (found_none _ f t ys r)

module _ (a b : Reader (Bor (List ℕ))) (found : Bool) (f : Fields) (table : IsTableReader a) (failed : has_failed a ≡ true → found ≡ false)
    (reads : a.trim ≡ trim.None → Ready a → ReadRecord (λ (s : Bor (List ℕ)). Some s.now) a b found f) where
  -- a read that finds a record takes the first of those that are left
  pub reads_some : found ≡ true → rows_left (bytes_left a) a.state ≡ f ∷ rows_left (bytes_left b) b.state
  reads_some e = by table
    where
      by : IsTableReader a → rows_left (bytes_left a) a.state ≡ f ∷ rows_left (bytes_left b) b.state
      by (inl stopped) = let no : true ≡ false = sym e ∙ failed stopped in cc
      by (inr good) =
          let r = reads good.trim good.ready in
          let next = rw (good.config, e) at r.0 in
          rw r.1 (some_next (bytes_left a) (pending_of (Some b.rdr.now) b) a.state b.state f good.known next)

  -- a read that finds none ends the table
  pub reads_none : found ≡ false → rows_left (bytes_left a) a.state ≡ []
  reads_none e = by table
    where
      by : IsTableReader a → rows_left (bytes_left a) a.state ≡ []
      by (inl stopped) = rw stopped refl
      by (inr good) =
          let r = reads good.trim good.ready in
          let next = rw (good.config, e) at r.0 in
          none_next (bytes_left a) (pending_of (Some b.rdr.now) b) a.state b.state f good.known next
