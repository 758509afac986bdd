-- How far a table of pairs is read.
use Rattle.std.proofs.Common.{◌≡◌, ◌≢◌, ℕ, ◌+◌, ◌≤◌, ◌<◌, List, [], ◌∷◌, ◌++◌, length, All, refl, sym, ap, ◌∙◌, arith, subst}
use Rattle.std.proofs.lemmas.List.Elements.{All-from_recursion}
use Rattle.std.proofs.lemmas.List.{append-nil, length_push}
use Rattle.std.specs.List.{AllByRecursion, AllZip}
use Rattle.cq_terms.specs.Knowledge.{NameFacts}
use Rattle.cq_terms.specs.declared.facts.Fact.{Fact}
use Rattle.cq_terms.specs.declared.facts.Pair.{Pair}
use Rattle.fact_tables.specs.declared.refusal.PairRefusal.{PairRefusal}
use Rattle.fact_tables.specs.declared.refusal.PairRefusal.TheVariants as refusal
use Rattle.fact_tables.specs.PairRecords.{HasFault, IsPairOf, IsPairRecord, PairFault, bad_number, bad_width, most_pairs, no_such_record, too_many}
use Rattle.fact_tables.specs.Pairs.{ArePairs, FirstFault, IsPairRefusal, IsRecordRefusal, ReadsPairs}
use Rattle.fact_tables.specs.Tables.{Fields, records_of}
use Rattle.fact_tables.proofs.FactProgress.{AllZip-push, right_more}
use Rattle.fact_tables.proofs.PairLemmas.{pair_named}

-- these records are read, and the rest is left
pub record Progress (bytes records : List ℕ) (rest : List Fields) (pairs : List Pair) : Type 0 where
  pub read : List Fields
  pub cut : records_of bytes ≡ read ++ rest
  pub reads : ArePairs records read pairs
  pub count : length pairs ≡ length read

-- where nothing is read
pub begun : (bytes records : List ℕ) (pairs : List Pair) → pairs ≡ [] → Progress bytes records (records_of bytes) pairs
begun bytes records pairs none = record {
  read = [];
  cut = refl;
  reads = record { right = tt; few = omega arith; each = rw none tt };
  count = ap length none;
}

push_first : (rows : List Fields) (r : Fields) (last : List Fields) → rows ++ r ∷ last ≡ (rows ++ r ∷ []) ++ last
push_first [] r last = refl
push_first (x ∷ rows) r last = ap (λ t. x ∷ t) (push_first rows r last)

module _ (bytes records : List ℕ) (rest after : List Fields) (fields : Fields) (pairs : List Pair) (p : Progress bytes records rest pairs)
    (next : rest ≡ fields ∷ after) where
  cut_more : records_of bytes ≡ p.read ++ fields ∷ after
  cut_more = p.cut ∙ ap (λ rows. p.read ++ rows) next

  -- the next record is read
  pub step : (pair : Pair) (more : List Pair) → IsPairRecord records fields → IsPairOf records fields pair → ◌≢◌ (length pairs) most_pairs
      → more ≡ pairs ++ pair ∷ [] → Progress bytes records after more
  step pair more right exact few pushed =
      let size = length_push p.read fields in
      let places = ap length pushed ∙ length_push pairs pair in
      record {
        read = p.read ++ fields ∷ [];
        cut = cut_more ∙ push_first p.read fields after;
        reads = record {
          right = right_more (IsPairRecord records) p.read fields p.reads.right right;
          few = omega (arith, size, few, p.count, p.reads.few);
          each = rw pushed (AllZip-push (IsPairOf records) (IsPairOf records) (λ f q h. h) p.read pairs fields pair p.reads.each exact);
        };
        count = omega (arith, size, places, p.count);
      }

  first : (fault : PairFault) (number : ℕ) → HasFault records fault number fields → number ≡ length pairs + 1 → FirstFault records fault bytes number
  first fault number has place = record {
    before = p.read;
    fields = fields;
    after = after;
    cut = cut_more;
    place = omega (arith, place, p.count);
    right = p.reads.right;
    few = p.reads.few;
    has_fault = has;
  }

  -- the refusal of the next record is that of the bytes
  pub refuse : (given : PairRefusal) → IsRecordRefusal records (length pairs + 1) fields given → IsPairRefusal bytes records given
  refuse (refusal.BadWidth number) h = first bad_width number h.0 h.1
  refuse (refusal.BadNumber number) h = first bad_number number h.0 h.1
  refuse (refusal.NoSuchRecord number) h = first no_such_record number h.0 h.1
  refuse refusal.TooMany h = first too_many (most_pairs + 1) (h.0, refl) (sym h.1)
  refuse refusal.NoMemory h = tt

each_named : (records : List ℕ) (count : ℕ) (rows : List Fields) (pairs : List Pair) → All (λ n. n < count) records → AllZip (IsPairOf records) rows pairs
    → AllByRecursion (λ p. (p.upper < count) × (p.lower < count)) pairs
each_named records count [] [] all each = tt
each_named records count [] (q ∷ pairs) all each = absurd each
each_named records count (r ∷ rows) [] all each = absurd each
each_named records count (r ∷ rows) (q ∷ pairs) all each = (pair_named records count r q all each.0, each_named records count rows pairs all each.1)

module _ (bytes records : List ℕ) (rest : List Fields) (pairs : List Pair) (p : Progress bytes records rest pairs) where
  pub few_so_far : length pairs ≤ most_pairs
  few_so_far = omega (arith, p.count, p.reads.few)

  -- where all is read
  pub ended : rest ≡ [] → ReadsPairs bytes records pairs
  ended none = subst (λ rows. ArePairs records rows pairs) (sym (p.cut ∙ ap (λ rows. p.read ++ rows) none ∙ append-nil p.read)) p.reads

  -- the numbers of the pairs are those of facts
  pub all_named : (facts : List Fact) → All (λ n. n < length facts) records → NameFacts facts pairs
  all_named facts all = All-from_recursion _ pairs (each_named records (length facts) p.read pairs all p.reads.each)
