-- How far a table of facts is read.
use Rattle.std.proofs.Common.{◌≡◌, ℕ, ◌+◌, ◌≤◌, ◌<◌, ◌^◌, List, [], ◌∷◌, ◌++◌, length, All, slice_get, Some, refl, sym, ap, ◌∙◌, arith, subst}
use Rattle.std.proofs.lemmas.List.Elements.{All-from_recursion}
use Rattle.std.proofs.lemmas.List.{append-nil, length_push}
use Rattle.std.specs.List.{AllByRecursion, AllZip}
use Rattle.cq_terms.specs.declared.names.Vocab.{Vocab}
use Rattle.fact_tables.specs.declared.refusal.FactRefusal.{FactRefusal}
use Rattle.fact_tables.specs.declared.refusal.FactRefusal.TheVariants as refusal
use Rattle.fact_tables.specs.FactRecords.{FactFault, HasFault, IsFactRecord, bad_width, empty_field, most_records, not_utf8, too_many}
use Rattle.fact_tables.specs.FactSteps.{AddsRecord, IsRecordRefusal, bytes_in, with_fact}
use Rattle.fact_tables.specs.Facts.{AreRead, FirstFault, IsFactOf, IsFactRefusal, IsNumbered, ReadsFacts}
use Rattle.fact_tables.specs.FactTable.{Table}
use Rattle.fact_tables.specs.Numbering.{Grows, HasRoom, Keeps}
use Rattle.fact_tables.specs.Tables.{Fields, records_of}
use Rattle.fact_tables.proofs.DistinctFacts.{distinct_keeps, distinct_more, fact_stays_put, length-with_fact}
use Rattle.fact_tables.proofs.NamingLemmas.{each_numbered, fact_of_more, grows_same, grows_trans, keeps_same, keeps_trans, names_more}
use Rattle.fact_tables.proofs.SizeLemmas.{bytes_of, bytes_of-append, table_bytes}

-- these records are read, and the rest is left
pub record Progress (bytes : List ℕ) (rest : List Fields) (old new : Vocab) (table : Table) : Type 0 where
  pub read : List Fields
  pub cut : records_of bytes ≡ read ++ rest
  pub reads : AreRead read old new table
  pub kept : Keeps old new
  pub grown : Grows (bytes_of read) old new
  pub count : length table.records ≡ length read
  pub few_facts : length table.facts ≤ length table.records

-- where nothing is read
pub begun : (bytes : List ℕ) (vocab : Vocab) (table : Table) → table.facts ≡ [] → table.records ≡ [] → Progress bytes (records_of bytes) vocab vocab table
begun bytes vocab table no_facts no_records = record {
  read = [];
  cut = refl;
  reads = record {
    right = tt;
    few = omega arith;
    names = record { concepts = refl; roles = refl; inds = refl };
    facts = [];
    each = tt;
    distinct = no_facts;
    numbers = rw no_records tt;
  };
  kept = keeps_same vocab;
  grown = grows_same 0 vocab;
  count = ap length no_records;
  few_facts = rw (no_facts, no_records) (omega arith);
}

module _ {A B : Type 0} (R S : A → B → Type 0) (more : (x : A) (y : B) → R x y → S x y) where
  -- one more of each
  pub AllZip-push : (xs : List A) (ys : List B) (x : A) (y : B) → AllZip R xs ys → S x y → AllZip S (xs ++ x ∷ []) (ys ++ y ∷ [])
  AllZip-push [] [] x y all new = (new, tt)
  AllZip-push [] (b ∷ ys) x y all new = absurd all
  AllZip-push (a ∷ xs) [] x y all new = absurd all
  AllZip-push (a ∷ xs) (b ∷ ys) x y all new = (more a b all.0, AllZip-push xs ys x y all.1 new)

pub right_more : (P : Fields → Type 0) (rows : List Fields) (fields : Fields) → AllByRecursion P rows → P fields → AllByRecursion P (rows ++ fields ∷ [])
right_more P [] fields all new = (new, tt)
right_more P (r ∷ rows) fields all new = (all.0, right_more P rows fields all.1 new)

-- one more record
read_more : (rows : List Fields) (fields : Fields) (old now new : Vocab) (table more : Table) → AreRead rows old now table
    → AddsRecord fields now new table more → Keeps now new → length rows < most_records → AreRead (rows ++ fields ∷ []) old new more
read_more rows fields old now new table more r adds kept few =
    let size = length_push rows fields in
    record {
      right = right_more IsFactRecord rows fields r.right adds.right;
      few = omega (arith, size, few);
      names = names_more rows (fields ∷ []) old now new r.names adds.names;
      facts = r.facts ++ adds.fact ∷ [];
      each = AllZip-push (IsFactOf now) (IsFactOf new) (fact_of_more now new kept) rows r.facts fields adds.fact r.each adds.is_fact;
      distinct = adds.adds.facts ∙ ap (λ fs. with_fact fs adds.fact) r.distinct ∙ sym (distinct_more r.facts adds.fact);
      numbers = rw adds.adds.records (AllZip-push (λ f n. slice_get table.facts n ≡ Some f) (λ f n. slice_get more.facts n ≡ Some f)
          (λ f n at. rw adds.adds.facts (fact_stays_put table.facts adds.fact n f at)) r.facts table.records adds.fact adds.adds.number r.numbers
          adds.adds.named);
    }

module _ (bytes : List ℕ) (rest after : List Fields) (fields : Fields) (old now : Vocab) (table : Table) (p : Progress bytes rest old now table)
    (next : rest ≡ fields ∷ after) where
  cut_more : records_of bytes ≡ p.read ++ fields ∷ after
  cut_more = p.cut ∙ ap (λ rows. p.read ++ rows) next

  -- what is read and the next record have no more bytes than there are
  room_for : bytes_of p.read + bytes_in fields ≤ length bytes
  room_for =
      let all = table_bytes bytes in
      let sum : bytes_of (records_of bytes) ≡ bytes_of p.read + bytes_of (fields ∷ after) = ap bytes_of cut_more ∙ bytes_of-append p.read (fields ∷ after) in
      omega (arith, all, sum)

  -- the next record is read
  pub step : (new : Vocab) (more : Table) → AddsRecord fields now new table more → length table.records < most_records → Keeps now new
      → Grows (bytes_in fields) now new → Progress bytes after old new more
  step new more adds few kept grown =
      let size = length_push p.read fields in
      let places = ap length adds.adds.records ∙ length_push table.records adds.adds.number in
      let put = length-with_fact table.facts adds.fact in
      let facts = ap length adds.adds.facts in
      let sum = bytes_of-append p.read (fields ∷ []) in
      record {
        read = p.read ++ fields ∷ [];
        cut = cut_more ∙ append_assoc' p.read fields after;
        reads = read_more p.read fields old now new table more p.reads adds kept (omega (arith, p.count, few));
        kept = keeps_trans old now new p.kept kept;
        grown = grows_trans (bytes_of p.read) (bytes_in fields) _ old now new p.grown grown (omega (arith, sum));
        count = omega (arith, size, places, p.count);
        few_facts = omega (arith, places, put, facts, p.few_facts);
      }
    where
      append_assoc' : (rows : List Fields) (r : Fields) (last : List Fields) → rows ++ r ∷ last ≡ (rows ++ r ∷ []) ++ last
      append_assoc' [] r last = refl
      append_assoc' (x ∷ rows) r last = ap (λ t. x ∷ t) (append_assoc' rows r last)

  -- after a refusal of the next record
  pub kept_after : (new : Vocab) → Keeps now new → Keeps old new
  kept_after new kept = keeps_trans old now new p.kept kept

  pub grown_after : (new : Vocab) → Grows (bytes_in fields) now new → Grows (length bytes) old new
  grown_after new grown = grows_trans (bytes_of p.read) (bytes_in fields) (length bytes) old now new p.grown grown room_for

  first : (fault : FactFault) (number : ℕ) → HasFault fault number fields → number ≡ length table.records + 1 → FirstFault fault bytes number
  first fault number has place = record {
    before = p.read;
    fields = fields;
    after = after;
    cut = cut_more;
    place = omega (arith, place, p.count);
    right = p.reads.right;
    few = p.reads.few;
    has_fault = has;
  }

  -- the refusal of the next record is that of the bytes
  pub refuse : (given : FactRefusal) → IsRecordRefusal (length table.records + 1) fields given → IsFactRefusal bytes given
  refuse (refusal.BadWidth number) h = first bad_width number h.0 h.1
  refuse (refusal.NotUtf8 number) h = first not_utf8 number h.0 h.1
  refuse (refusal.EmptyField number) h = first empty_field number h.0 h.1
  refuse refusal.TooMany h = first too_many (most_records + 1) (h.0, refl) (sym h.1)
  refuse refusal.NoMemory h = tt

module _ (bytes : List ℕ) (rest : List Fields) (old now : Vocab) (table : Table) (p : Progress bytes rest old now table) where
  -- what is read has no more bytes than there are
  room : bytes_of p.read ≤ length bytes
  room =
      let all = table_bytes bytes in
      let sum : bytes_of (records_of bytes) ≡ bytes_of p.read + bytes_of rest = ap bytes_of p.cut ∙ bytes_of-append p.read rest in
      omega (arith, all, sum)

  pub grown_so_far : Grows (length bytes) old now
  grown_so_far = grows_trans (bytes_of p.read) 0 (length bytes) old now now p.grown (grows_same 0 now) (omega (arith, room))

  -- there is room for the names of the next record
  pub concepts_fit : HasRoom bytes old → length now.concepts < 2 ^ 31
  concepts_fit has = let a = has.concepts in let b = grown_so_far.concepts in omega (arith, a, b)

  pub roles_fit : HasRoom bytes old → length now.roles < 2 ^ 31
  roles_fit has = let a = has.roles in let b = grown_so_far.roles in omega (arith, a, b)

  pub inds_fit : HasRoom bytes old → length now.inds < 2 ^ 31
  inds_fit has = let a = has.inds in let b = grown_so_far.inds in omega (arith, a, b)

  pub few_so_far : length table.records ≤ most_records
  few_so_far = omega (arith, p.count, p.reads.few)

  -- where all is read
  pub ended : rest ≡ [] → ReadsFacts bytes old now table
  ended none = subst (λ rows. AreRead rows old now table) (sym (p.cut ∙ ap (λ rows. p.read ++ rows) none ∙ append-nil p.read)) p.reads

  -- the numbers of the facts are those of names
  pub all_numbered : All (IsNumbered now) table.facts
  all_numbered = All-from_recursion (IsNumbered now) table.facts
      (subst (AllByRecursion (IsNumbered now)) (sym p.reads.distinct)
      (distinct_keeps (IsNumbered now) p.reads.facts (each_numbered now p.read p.reads.facts p.reads.each)))
