-- No text has two readings: its reader accepts it, or refuses it for a limit or for a fault.
use Rattle.std.proofs.Common.{◌≡◌, ◌⊎◌, inl, inr, ℕ, zero, suc, ◌+◌, ◌<◌, ◌≤◌, List, [], ◌∷◌, ◌++◌, length, All, refl, sym, ap, ap₂, ◌∙◌, subst, arith}
use Rattle.std.proofs.Common.{Option, Some, None, IsSome, option_and_then, slice_get}
use Rattle.std.specs.List.{AllByRecursion}
use Rattle.std.proofs.lemmas.List.Elements.{recursion_from_All}
use Rattle.axiom_reader.specs.Meaning.{IsRefused}
use Rattle.axiom_reader.specs.Reading.{ComesTo, EachTextHasOneReading as EachOntologyHasOneReading, Fault as LineFault, bad_line, line_not_utf8, reads}
use Rattle.axiom_reader.specs.Reading.{refuses, too_many as too_many_axioms}
use Rattle.axiom_reader.specs.declared.refusal.AxiomRefusal.{AxiomRefusal}
use Rattle.axiom_reader.specs.declared.refusal.AxiomRefusal.TheVariants as axiom_refusal
use Rattle.fact_tables.specs.FactRecords.{FactFault, HasFault, IsFactRecord, bad_width, empty_field, most_records, not_utf8, too_many}
use Rattle.fact_tables.specs.Facts.{FirstFault, IsFactRefusal}
use Rattle.fact_tables.specs.PairRecords.{HasFault as HasPairFault, IsPairRecord, NameRecords, PairFault, bad_number, fact_number, most_pairs}
use Rattle.fact_tables.specs.PairRecords.{bad_width as pair_width, no_such_record, too_many as too_many_pairs}
use Rattle.fact_tables.specs.Numbers.{number_in}
use Rattle.fact_tables.specs.Pairs.{FirstFault as FirstPairFault, IsPairRefusal}
use Rattle.fact_tables.specs.Tables.{Fields, HasOneReading, records_of}
use Rattle.fact_tables.specs.declared.refusal.PairRefusal.{PairRefusal}
use Rattle.fact_tables.specs.declared.refusal.PairRefusal.TheVariants as pair_refusal
use Rattle.fact_tables.specs.declared.refusal.FactRefusal.{FactRefusal}
use Rattle.fact_tables.specs.declared.refusal.FactRefusal.TheVariants as fact_refusal
use Rattle.query_reader.specs.Faults.{FaultsAreUnique}
use Rattle.query_reader.specs.Grammar.{EachTextHasOneReading as EachQueryHasOneReading, NamedQuery}
use Rattle.query_reader.specs.Queries.{Explains, IsFirstOutside, IsFirstRepeat, IsInBody, after_marks}
use Rattle.query_reader.specs.declared.refusal.QueryRefusal.{QueryRefusal}
use Rattle.query_reader.specs.declared.refusal.QueryRefusal.TheVariants as query_refusal
use Rattle.input_files.specs.Inputs.{Accepts, IsQuery, Refuses}
use Rattle.input_files.specs.Laws.{IsOfContent}
use Rattle.input_files.specs.Refusals.{refusal_of_axioms, refusal_of_facts, refusal_of_pairs, refusal_of_query}
use Rattle.cqapri_words.specs.declared.fault.Fault.TheVariants as fault
use Rattle.cqapri_words.specs.declared.files.File.{File}
use Rattle.cqapri_words.specs.declared.files.File.TheVariants as file
use Rattle.cqapri_words.specs.declared.files.Quantity.TheVariants as quantity
use Rattle.cqapri_words.specs.declared.refusal.Refusal.{Refusal}
use Rattle.cqapri_words.specs.declared.refusal.Refusal.TheVariants as refusal

-- the laws of the three readers
pub record ReaderLaws : Type 0 where
  pub ontologies : EachOntologyHasOneReading
  pub tables : HasOneReading FactFault IsFactRecord most_records HasFault
  pub priorities : (records : List ℕ) → HasOneReading PairFault (IsPairRecord records) most_pairs (HasPairFault records)
  pub queries : EachQueryHasOneReading
  pub faults : FaultsAreUnique

-- the refusal of a fault of an ontology
abbrev line_refusal : LineFault → ℕ → Refusal
line_refusal line_not_utf8 line = refusal.Faulty (fault.LineNotUtf8 line)
line_refusal bad_line line = refusal.Faulty (fault.BadLine line)
line_refusal too_many_axioms line = refusal.Limit quantity.Axioms

-- an ontology comes to the fault of the refusal
record HasLineFault (bytes : List ℕ) (r : Refusal) : Type 0 where
  wrong : LineFault
  line : ℕ
  comes : ComesTo bytes (refuses wrong line)
  is : r ≡ line_refusal wrong line

line_fault : (bytes : List ℕ) (r : Refusal) (refused : AxiomRefusal) → IsRefused bytes refused → r ≡ refusal_of_axioms refused → IsOfContent r
    → HasLineFault bytes r
line_fault bytes r (axiom_refusal.NotUtf8 line) why e k = record { wrong = line_not_utf8; line = line; comes = why; is = e }
line_fault bytes r (axiom_refusal.BadLine line) why e k = record { wrong = bad_line; line = line; comes = why; is = e }
line_fault bytes r axiom_refusal.TooMany (line, why) e k = record { wrong = too_many_axioms; line = line; comes = why; is = e }
line_fault bytes r axiom_refusal.NoMemory why e k = absurd (subst IsOfContent e k)

-- the refusal of a fault of a table
abbrev record_refusal : FactFault → ℕ → Refusal
record_refusal bad_width number = refusal.Faulty (fault.BadWidth number)
record_refusal not_utf8 number = refusal.Faulty (fault.RecordNotUtf8 number)
record_refusal empty_field number = refusal.Faulty (fault.EmptyField number)
record_refusal too_many number = refusal.Limit quantity.Records

-- a table comes to the fault of the refusal
record HasRecordFault (bytes : List ℕ) (r : Refusal) : Type 0 where
  wrong : FactFault
  number : ℕ
  first : FirstFault wrong bytes number
  is : r ≡ record_refusal wrong number

record_fault : (bytes : List ℕ) (r : Refusal) (refused : FactRefusal) → IsFactRefusal bytes refused → r ≡ refusal_of_facts refused → IsOfContent r
    → HasRecordFault bytes r
record_fault bytes r (fact_refusal.BadWidth number) why e k = record { wrong = bad_width; number = number; first = why; is = e }
record_fault bytes r (fact_refusal.NotUtf8 number) why e k = record { wrong = not_utf8; number = number; first = why; is = e }
record_fault bytes r (fact_refusal.EmptyField number) why e k = record { wrong = empty_field; number = number; first = why; is = e }
record_fault bytes r fact_refusal.TooMany why e k = record { wrong = too_many; number = most_records + 1; first = why; is = e }
record_fault bytes r fact_refusal.NoMemory why e k = absurd (subst IsOfContent e k)

-- the refusal of a fault of a priority
abbrev pair_refusal_of : PairFault → ℕ → Refusal
pair_refusal_of pair_width number = refusal.Faulty (fault.PairWidth number)
pair_refusal_of bad_number number = refusal.Faulty (fault.BadNumber number)
pair_refusal_of no_such_record number = refusal.Faulty (fault.NoSuchRecord number)
pair_refusal_of too_many_pairs number = refusal.Limit quantity.Pairs

-- a priority comes to the fault of the refusal
record HasPriorityFault (records bytes : List ℕ) (r : Refusal) : Type 0 where
  wrong : PairFault
  number : ℕ
  first : FirstPairFault records wrong bytes number
  is : r ≡ pair_refusal_of wrong number

pair_fault : (records bytes : List ℕ) (r : Refusal) (refused : PairRefusal) → IsPairRefusal bytes records refused → r ≡ refusal_of_pairs refused
    → IsOfContent r → HasPriorityFault records bytes r
pair_fault records bytes r (pair_refusal.BadWidth number) why e k = record { wrong = pair_width; number = number; first = why; is = e }
pair_fault records bytes r (pair_refusal.BadNumber number) why e k = record { wrong = bad_number; number = number; first = why; is = e }
pair_fault records bytes r (pair_refusal.NoSuchRecord number) why e k = record { wrong = no_such_record; number = number; first = why; is = e }
pair_fault records bytes r pair_refusal.TooMany why e k = record { wrong = too_many_pairs; number = most_pairs + 1; first = why; is = e }
pair_fault records bytes r pair_refusal.NoMemory why e k = absurd (subst IsOfContent e k)

-- whether a place is one of a list goes by its length alone
some_at : (a b : List ℕ) → length a ≡ length b → (i : ℕ) → IsSome (slice_get a i) → IsSome (slice_get b i)
some_at [] [] e i h = h
some_at (x ∷ a) (y ∷ b) e zero h = refl
some_at (x ∷ a) (y ∷ b) e (suc i) h = some_at a b (cc) i h
some_at [] (y ∷ b) e i h = absurd (omega arith)
some_at (x ∷ a) [] e i h = absurd (omega arith)

some_number : (a b : List ℕ) → length a ≡ length b → (number : Option ℕ) → IsSome (option_and_then (fact_number a) number)
    → IsSome (option_and_then (fact_number b) number)
some_number a b e None h = h
some_number a b e (Some zero) h = h
some_number a b e (Some (suc place)) h = some_at a b e place h

-- so does what is a record of a pair
same_named : (a b : List ℕ) → length a ≡ length b → (fields : Fields) → NameRecords a fields → NameRecords b fields
same_named a b e [] h = tt
same_named a b e (field ∷ fields) h = (some_number a b e (number_in field) h.0, same_named a b e fields h.1)

same_pair : (a b : List ℕ) → length a ≡ length b → (fields : Fields) → IsPairRecord a fields → IsPairRecord b fields
same_pair a b e fields right = record { width = right.width; numbers = right.numbers; named = same_named a b e fields right.named }

pub same_pairs : (a b : List ℕ) → length a ≡ length b → (rows : List Fields) → AllByRecursion (IsPairRecord a) rows → AllByRecursion (IsPairRecord b) rows
same_pairs a b e [] h = tt
same_pairs a b e (fields ∷ rows) h = (same_pair a b e fields h.0, same_pairs a b e rows h.1)

-- and its fault
same_fault : (a b : List ℕ) → length a ≡ length b → (wrong : PairFault) (number : ℕ) (fields : Fields) → HasPairFault a wrong number fields
    → HasPairFault b wrong number fields
same_fault a b e pair_width number fields h = h
same_fault a b e bad_number number fields h = h
same_fault a b e no_such_record number fields h = (h.0, h.1, λ k. h.2 (same_named b a (sym e) fields k))
same_fault a b e too_many_pairs number fields h = (same_pair a b e fields h.0, h.1)

same_first : (a b : List ℕ) → length a ≡ length b → (wrong : PairFault) (bytes : List ℕ) (number : ℕ) → FirstPairFault a wrong bytes number
    → FirstPairFault b wrong bytes number
same_first a b e wrong bytes number first = record {
  before = first.before;
  fields = first.fields;
  after = first.after;
  cut = first.cut;
  place = first.place;
  right = same_pairs a b e first.before first.right;
  few = first.few;
  has_fault = same_fault a b e wrong number first.fields first.has_fault;
}

-- what holds of each element of a list holds of one in the middle
middle : (P : List ℕ → Type 0) (before : List (List ℕ)) (text : List ℕ) (after : List (List ℕ)) → AllByRecursion P (before ++ text ∷ after) → P text
middle P [] text after all = all.0
middle P (first ∷ before) text after all = middle P before text after all.1

-- a query of more than 12 atoms isn't short
not_short : (query other : NamedQuery) → query ≡ other → 12 < length query.body → length other.body ≤ 12 → ⊥
not_short query other e many few = let few' : length query.body ≤ 12 = subst (λ q. length q.body ≤ 12) (sym e) few in omega arith

-- how two cuts of one list agree: at one place, or the one within the other's front
record IsWithin (before : List (List ℕ)) (text : List ℕ) (whole : List (List ℕ)) : Type 0 where
  rest : List (List ℕ)
  is : whole ≡ before ++ text ∷ rest

cuts : (a b : List (List ℕ)) (x y : List ℕ) (c d : List (List ℕ)) → a ++ x ∷ c ≡ b ++ y ∷ d → (length a ≡ length b) ⊎ (IsWithin a x b ⊎ IsWithin b y a)
cuts [] [] x y c d e = inl refl
cuts [] (first ∷ b) x y c d e = inr (inl (record { rest = b; is = let same : x ≡ first = cc in ap (λ t. t ∷ b) (sym same) }))
cuts (first ∷ a) [] x y c d e = inr (inr (record { rest = a; is = let same : first ≡ y = cc in ap (λ t. t ∷ a) same }))
cuts (first ∷ a) (other ∷ b) x y c d e = go (cuts a b x y c d (cc))
  where
    same : first ≡ other
    same = cc

    go : (length a ≡ length b) ⊎ (IsWithin a x b ⊎ IsWithin b y a) → (length (first ∷ a) ≡ length (other ∷ b))
        ⊎ (IsWithin (first ∷ a) x (other ∷ b) ⊎ IsWithin (other ∷ b) y (first ∷ a))
    go (inl l) = inl (ap suc l)
    go (inr (inl w)) = inr (inl (record { rest = w.rest; is = ap₂ (λ (t : List ℕ) (ts : List (List ℕ)). t ∷ ts) (sym same) w.is }))
    go (inr (inr w)) = inr (inr (record { rest = w.rest; is = ap₂ (λ (t : List ℕ) (ts : List (List ℕ)). t ∷ ts) same w.is }))

-- a head has one first repeat
same_repeat : (head : List (List ℕ)) (x y : ℕ) → IsFirstRepeat head x → IsFirstRepeat head y → x ≡ y
same_repeat head x y a b = go (cuts a.before b.before a.letters b.letters a.after b.after (sym a.whole ∙ b.whole))
  where
    go : (length a.before ≡ length b.before) ⊎ (IsWithin a.before a.letters b.before ⊎ IsWithin b.before b.letters a.before) → x ≡ y
    go (inl l) = a.place_is ∙ l ∙ sym b.place_is
    go (inr (inl w)) = absurd (b.first a.before w.rest a.letters w.is a.repeated)
    go (inr (inr w)) = absurd (a.first b.before w.rest b.letters w.is b.repeated)

-- and one first variable that isn't in the body
same_outside : (query : NamedQuery) (x y : ℕ) → IsFirstOutside query x → IsFirstOutside query y → x ≡ y
same_outside query x y a b = go (cuts a.before b.before a.letters b.letters a.after b.after (sym a.whole ∙ b.whole))
  where
    go : (length a.before ≡ length b.before) ⊎ (IsWithin a.before a.letters b.before ⊎ IsWithin b.before b.letters a.before) → x ≡ y
    go (inl l) = a.place_is ∙ l ∙ sym b.place_is
    go (inr (inl w)) = absurd (a.outside (middle (IsInBody query.body) a.before a.letters w.rest
        (recursion_from_All _ _ (subst (All (IsInBody query.body)) w.is b.first))))
    go (inr (inr w)) = absurd (b.outside (middle (IsInBody query.body) b.before b.letters w.rest
        (recursion_from_All _ _ (subst (All (IsInBody query.body)) w.is a.first))))

module _ (laws : ReaderLaws) where
  -- two refusals of one query are one
  same_query : (bytes : List ℕ) (a b : QueryRefusal) → Explains bytes a → Explains bytes b → IsOfContent (refusal_of_query a)
      → IsOfContent (refusal_of_query b) → a ≡ b
  same_query bytes (query_refusal.BadToken x) (query_refusal.BadToken y) why other k m = ap query_refusal.BadToken (laws.faults.one bytes x y why other)
  same_query bytes (query_refusal.BadToken x) query_refusal.TooManyAtoms why (query, text, many) k m = absurd (laws.faults.none bytes query x text why)
  same_query bytes (query_refusal.BadToken x) (query_refusal.RepeatedHead y) why (query, short, first) k m =
      absurd (laws.faults.none bytes query x short.text why)
  same_query bytes (query_refusal.BadToken x) (query_refusal.HeadNotInBody y) why (query, short, distinct, first) k m =
      absurd (laws.faults.none bytes query x short.text why)
  same_query bytes query_refusal.TooManyAtoms (query_refusal.BadToken y) (query, text, many) other k m = absurd (laws.faults.none bytes query y text other)
  same_query bytes query_refusal.TooManyAtoms query_refusal.TooManyAtoms why other k m = refl
  same_query bytes query_refusal.TooManyAtoms (query_refusal.RepeatedHead y) (query, text, many) (others, short, first) k m =
      absurd (not_short query others (laws.queries bytes query others text short.text) many short.few)
  same_query bytes query_refusal.TooManyAtoms (query_refusal.HeadNotInBody y) (query, text, many) (others, short, distinct, first) k m =
      absurd (not_short query others (laws.queries bytes query others text short.text) many short.few)
  same_query bytes (query_refusal.RepeatedHead x) (query_refusal.BadToken y) (query, short, first) other k m =
      absurd (laws.faults.none bytes query y short.text other)
  same_query bytes (query_refusal.RepeatedHead x) query_refusal.TooManyAtoms (others, short, first) (query, text, many) k m =
      absurd (not_short query others (laws.queries bytes query others text short.text) many short.few)
  same_query bytes (query_refusal.RepeatedHead x) (query_refusal.RepeatedHead y) (query, short, first) (others, more, second) k m =
      let e : others ≡ query = laws.queries bytes others query more.text short.text in
      ap query_refusal.RepeatedHead (same_repeat query.head x y first (subst (λ q. IsFirstRepeat q.head y) e second))
  same_query bytes (query_refusal.RepeatedHead x) (query_refusal.HeadNotInBody y) (query, short, first) (others, more, distinct, second) k m =
      let e : query ≡ others = laws.queries bytes query others short.text more.text in
      absurd (distinct first.before first.after first.letters (sym (ap (λ q. q.head) e) ∙ first.whole) first.repeated)
  same_query bytes (query_refusal.HeadNotInBody x) (query_refusal.BadToken y) (query, short, distinct, first) other k m =
      absurd (laws.faults.none bytes query y short.text other)
  same_query bytes (query_refusal.HeadNotInBody x) query_refusal.TooManyAtoms (others, short, distinct, first) (query, text, many) k m =
      absurd (not_short query others (laws.queries bytes query others text short.text) many short.few)
  same_query bytes (query_refusal.HeadNotInBody x) (query_refusal.RepeatedHead y) (others, more, distinct, second) (query, short, first) k m =
      let e : query ≡ others = laws.queries bytes query others short.text more.text in
      absurd (distinct first.before first.after first.letters (sym (ap (λ q. q.head) e) ∙ first.whole) first.repeated)
  same_query bytes (query_refusal.HeadNotInBody x) (query_refusal.HeadNotInBody y) (query, short, distinct, first) (others, more, also, second) k m =
      let e : others ≡ query = laws.queries bytes others query more.text short.text in
      ap query_refusal.HeadNotInBody (same_outside query x y first (subst (λ q. IsFirstOutside q y) e second))
  same_query bytes query_refusal.NoMemory b why other k m = absurd k
  same_query bytes a query_refusal.NoMemory why other k m = absurd m

  -- an accepted query has no refusal
  query_accepted : (bytes : List ℕ) (query : NamedQuery) → IsQuery bytes query → (refused : QueryRefusal) → Explains (after_marks bytes) refused
      → IsOfContent (refusal_of_query refused) → ⊥
  query_accepted bytes query is (query_refusal.BadToken at) why k = laws.faults.none (after_marks bytes) query at is.text.text why
  query_accepted bytes query is query_refusal.TooManyAtoms (other, text, many) k =
      not_short other query (laws.queries (after_marks bytes) other query text is.text.text) many is.text.few
  query_accepted bytes query is (query_refusal.RepeatedHead place) (other, short, first) k =
      let e : other ≡ query = laws.queries (after_marks bytes) other query short.text is.text.text in
      is.distinct first.before first.after first.letters (sym (ap (λ q. q.head) e) ∙ first.whole) first.repeated
  query_accepted bytes query is (query_refusal.HeadNotInBody place) (other, short, distinct, first) k =
      let e : query ≡ other = laws.queries (after_marks bytes) query other is.text.text short.text in
      let all : All (IsInBody other.body) other.head = subst (λ q. All (IsInBody q.body) q.head) e is.inside in
      let all' : All (IsInBody other.body) (first.before ++ first.letters ∷ first.after) = subst (All (IsInBody other.body)) first.whole all in
      first.outside (middle (IsInBody other.body) first.before first.letters first.after (recursion_from_All _ _ all'))
  query_accepted bytes query is query_refusal.NoMemory why k = k

  -- two refusals of one text are one
  pub same_refusal : (count : ℕ) (f : File) (bytes : List ℕ) (r s : Refusal) → IsOfContent r → Refuses count f bytes r → IsOfContent s
      → Refuses count f bytes s → r ≡ s
  same_refusal count file.Ontology bytes r s k (a, why, e) m (b, other, d) =
      let one = line_fault bytes r a why e k in
      let two = line_fault bytes s b other d m in
      let same : refuses one.wrong one.line ≡ refuses two.wrong two.line = (laws.ontologies bytes).1 _ _ one.comes two.comes in
      let wrong : one.wrong ≡ two.wrong = cc in
      let line : one.line ≡ two.line = cc in
      one.is ∙ ap₂ (λ (x : LineFault) (n : ℕ). line_refusal x n) wrong line ∙ sym two.is
  same_refusal count file.Facts bytes r s k (a, why, e) m (b, other, d) =
      let one = record_fault bytes r a why e k in
      let two = record_fault bytes s b other d m in
      let same = laws.tables.one_fault (records_of bytes) one.wrong two.wrong one.number two.number one.first two.first in
      one.is ∙ ap₂ (λ (x : FactFault) (n : ℕ). record_refusal x n) same.0 same.1 ∙ sym two.is
  same_refusal count file.Priority bytes r s k a m b =
      let one = pair_fault a.numbers bytes r a.refused a.why a.is k in
      let two = pair_fault b.numbers bytes s b.refused b.why b.is m in
      let second = same_first b.numbers a.numbers (b.many ∙ sym a.many) two.wrong bytes two.number two.first in
      let same = (laws.priorities a.numbers).one_fault (records_of bytes) one.wrong two.wrong one.number two.number one.first second in
      one.is ∙ ap₂ (λ (x : PairFault) (n : ℕ). pair_refusal_of x n) same.0 same.1 ∙ sym two.is
  same_refusal count file.Query bytes r s k (a, why, e) m (b, other, d) =
      e ∙ ap refusal_of_query (same_query (after_marks bytes) a b why other (subst IsOfContent e k) (subst IsOfContent d m)) ∙ sym d
  same_refusal count file.Report bytes r s k a m b = absurd a

  -- an accepted text has no refusal
  pub not_both : (count : ℕ) (f : File) (bytes : List ℕ) → Accepts count f bytes → (r : Refusal) → IsOfContent r → Refuses count f bytes r → ⊥
  not_both count file.Ontology bytes (axioms, good) r k (a, why, e) =
      let one = line_fault bytes r a why e k in
      let same : reads axioms ≡ refuses one.wrong one.line = (laws.ontologies bytes).1 _ _ good one.comes in cc
  not_both count file.Facts bytes good r k (a, why, e) =
      let one = record_fault bytes r a why e k in
      laws.tables.not_both (records_of bytes) one.wrong one.number good.right good.few one.first
  not_both count file.Priority bytes good r k a =
      let one = pair_fault a.numbers bytes r a.refused a.why a.is k in
      let right = same_pairs good.numbers a.numbers (good.many ∙ sym a.many) (records_of bytes) good.right in
      (laws.priorities a.numbers).not_both (records_of bytes) one.wrong one.number right good.few one.first
  not_both count file.Query bytes (query, is) r k (a, why, e) = query_accepted bytes query is a why (subst IsOfContent e k)
  not_both count file.Report bytes good r k a = a
