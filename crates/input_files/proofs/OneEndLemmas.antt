-- The files of a job ask for one end alone, and so does a report.
use Rattle.std.proofs.Common.{◌≡◌, ◌<◌, ◌≤◌, ◌⊎◌, inl, inr, ℕ, List, length, Option, Some, None, IfSome, sym, ap, ◌∙◌, subst, arith}
use Rattle.std.specs.Prelude.{IsSomeAnd}
use Rattle.cq_terms.specs.Knowledge.{Knowledge}
use Rattle.cq_terms.specs.Query.{Query}
use Rattle.cq_terms.specs.declared.names.Vocab.{Vocab}
use Rattle.cqapri_words.specs.Files.{length_of, limit_of}
use Rattle.cqapri_words.specs.Words.{FileNames}
use Rattle.cqapri_words.specs.declared.files.File.{File}
use Rattle.cqapri_words.specs.declared.files.File.TheVariants as file
use Rattle.cqapri_words.specs.declared.refusal.Refusal.{Refusal}
use Rattle.cqapri_words.specs.declared.refusal.Refusal.TheVariants as refusal
use Rattle.input_files.specs.Fetching.{Held, Holds, IsTooLong, StopsFetch}
use Rattle.input_files.specs.Inputs.{Accepts, AreAccepted, IsAccepted, IsReportThere, Refuses, StopsAt, StopsFile, StopsFiles, StopsReport}
use Rattle.input_files.specs.Inputs.{name_of, record_count}
use Rattle.input_files.specs.Laws.{IsOfContent}
use Rattle.input_files.specs.Meaning.{FilesSay, no_names}
use Rattle.input_files.proofs.LawLemmas.{ReaderLaws, not_both, same_refusal}
use Rattle.input_files.proofs.StopLemmas.{Facts, accepted_facts, accepted_ontology, accepted_priority, accepted_query}

-- a file isn't there
record IsMissing (held : Held) (name : List ℕ) (f : File) (r : Refusal) : Type 0 where
  missing : held name ≡ None
  is : r ≡ refusal.NotThere f

-- a file is too long
record IsLong (held : Held) (name : List ℕ) (f : File) (r : Refusal) : Type 0 where
  too_long : IsTooLong held name f
  is : r ≡ refusal.Limit (length_of f)

-- how a file isn't fetched
abbrev Unfetched : Held → List ℕ → File → Refusal → Type 0
Unfetched held name f r = IsMissing held name f r ⊎ IsLong held name f r

unfetched : (held : Held) (name : List ℕ) (f : File) (r : Refusal) → IsOfContent r → StopsFetch held name f r → Unfetched held name f r
unfetched held name f (refusal.NotThere g) k (same, missing) = inl (record { missing = missing; is = ap refusal.NotThere same })
unfetched held name f (refusal.Limit quantity) k (same, long) = inr (record { too_long = long; is = ap refusal.Limit same })
unfetched held name f (refusal.Faulty fault) k s = absurd s
unfetched held name f (refusal.Cycle cycle) k s = absurd k
unfetched held name f refusal.Words k s = absurd k
unfetched held name f (refusal.ReadFault g) k s = absurd k
unfetched held name f refusal.WriteFault k s = absurd k
unfetched held name f refusal.NoMemory k s = absurd k

-- a file that isn't there has no bytes
not_there : (o : Option (List ℕ)) (bytes : List ℕ) → o ≡ None → o ≡ Some bytes → ⊥
not_there o bytes missing there = let both : None ≡ Some bytes = sym missing ∙ there in cc

-- a file has one text
one_text : (o : Option (List ℕ)) (bytes others : List ℕ) → o ≡ Some bytes → o ≡ Some others → bytes ≡ others
one_text o bytes others e d = let both : Some bytes ≡ Some others = sym e ∙ d in cc

-- a text isn't too long and within the limit
not_long : (f : File) (bytes others : List ℕ) → bytes ≡ others → limit_of f < length bytes → length others ≤ limit_of f → ⊥
not_long f bytes others e long short = let long' : limit_of f < length others = subst (λ b. limit_of f < length b) e long in omega arith

-- a file that is there, within its limit, is fetched
fetched_all : (held : Held) (name : List ℕ) (f : File) (P : List ℕ → Type 0) (r : Refusal) → Holds held name f P → Unfetched held name f r → ⊥
fetched_all held name f P r good (inl a) = not_there (held name) good.bytes a.missing good.there
fetched_all held name f P r good (inr a) =
    not_long f _ _ (one_text (held name) a.too_long.bytes good.bytes a.too_long.there good.there) a.too_long.long good.short

-- two refusals of a fetch are one
same_unfetched : (held : Held) (name : List ℕ) (f : File) (r s : Refusal) → Unfetched held name f r → Unfetched held name f s → r ≡ s
same_unfetched held name f r s (inl a) (inl b) = a.is ∙ sym b.is
same_unfetched held name f r s (inl a) (inr b) = absurd (not_there (held name) b.too_long.bytes a.missing b.too_long.there)
same_unfetched held name f r s (inr a) (inl b) = absurd (not_there (held name) a.too_long.bytes b.missing a.too_long.there)
same_unfetched held name f r s (inr a) (inr b) = a.is ∙ sym b.is

-- two refusals of a report are one
pub same_report : (held : Held) (name : List ℕ) (r s : Refusal) → IsOfContent r → IsOfContent s → StopsReport held name r → StopsReport held name s → r ≡ s
same_report held name r s k m x y =
    same_unfetched held name file.Report r s (unfetched held name file.Report r k x) (unfetched held name file.Report s m y)

-- a report that is there, within its limit, has none
pub report_there : (held : Held) (name : List ℕ) (r : Refusal) → IsOfContent r → StopsReport held name r → IsReportThere held name → ⊥
report_there held name r k x there = fetched_all held name file.Report (λ bytes. Unit {0}) r there (unfetched held name file.Report r k x)

module _ (laws : ReaderLaws) (held : Held) where
  -- two stops at one file are one
  same_stop : (count : ℕ) (name : List ℕ) (f : File) (r s : Refusal) → IsOfContent r → IsOfContent s → StopsAt count held name f r
      → StopsAt count held name f s → r ≡ s
  same_stop count name f r s k m (inl a) (inl b) = same_unfetched held name f r s (unfetched held name f r k a) (unfetched held name f s m b)
  same_stop count name f r s k m (inl a) (inr b) = absurd (fetched_all held name f (λ bytes. Refuses count f bytes s) r b (unfetched held name f r k a))
  same_stop count name f r s k m (inr a) (inl b) = absurd (fetched_all held name f (λ bytes. Refuses count f bytes r) s a (unfetched held name f s m b))
  same_stop count name f r s k m (inr a) (inr b) =
      let e : b.bytes ≡ a.bytes = one_text (held name) b.bytes a.bytes b.there a.there in
      same_refusal laws count f a.bytes r s k a.has m (subst (λ t. Refuses count f t s) e b.has)

  -- an accepted file doesn't stop a job
  good_stops_not : (count : ℕ) (name : List ℕ) (f : File) → Holds held name f (Accepts count f) → (r : Refusal) → IsOfContent r
      → StopsAt count held name f r → ⊥
  good_stops_not count name f good r k (inl a) = fetched_all held name f (Accepts count f) r good (unfetched held name f r k a)
  good_stops_not count name f good r k (inr a) =
      let e : a.bytes ≡ good.bytes = one_text (held name) a.bytes good.bytes a.there good.there in
      not_both laws count f good.bytes good.has r k (subst (λ t. Refuses count f t r) e a.has)

  -- the same where the file may have no name
  same_named : (count : ℕ) (named : Option (List ℕ)) (f : File) (r s : Refusal) → IsOfContent r → IsOfContent s
      → IsSomeAnd named (λ name. StopsAt count held name f r) → IsSomeAnd named (λ name. StopsAt count held name f s) → r ≡ s
  same_named count None f r s k m x y = absurd x
  same_named count (Some name) f r s k m x y = same_stop count name f r s k m x y

  named_stops_not : (count : ℕ) (named : Option (List ℕ)) (f : File) → IfSome named (λ name. Holds held name f (Accepts count f)) → (r : Refusal)
      → IsOfContent r → IsSomeAnd named (λ name. StopsAt count held name f r) → ⊥
  named_stops_not count None f good r k x = x
  named_stops_not count (Some name) f good r k x = good_stops_not count name f good r k x

  module _ (names : FileNames) where
    same : (f : File) (r s : Refusal) → IsOfContent r → IsOfContent s → StopsFile held names f r → StopsFile held names f s → r ≡ s
    same f r s k m x y = same_named (record_count held names) (name_of names f) f r s k m x y

    no : (f : File) → IsAccepted held names f → (r : Refusal) → IsOfContent r → StopsFile held names f r → ⊥
    no f good r k x = named_stops_not (record_count held names) (name_of names f) f good r k x

    -- accepted files have no refusal
    pub accepted_files : AreAccepted held names → (r : Refusal) → IsOfContent r → StopsFiles held names r → ⊥
    accepted_files all r k (file.Ontology, reached, x) = no file.Ontology all.0 r k x
    accepted_files all r k (file.Facts, reached, x) = no file.Facts all.1 r k x
    accepted_files all r k (file.Priority, reached, x) = no file.Priority all.2 r k x
    accepted_files all r k (file.Query, reached, x) = no file.Query all.3 r k x
    accepted_files all r k (file.Report, reached, x) = x

    -- two refusals of the files are one: that of the first file that isn't accepted
    pub same_files : (r s : Refusal) → IsOfContent r → IsOfContent s → StopsFiles held names r → StopsFiles held names s → r ≡ s
    same_files r s k m (file.Ontology, a, x) (file.Ontology, b, y) = same file.Ontology r s k m x y
    same_files r s k m (file.Ontology, a, x) (file.Facts, b, y) = absurd (no file.Ontology b r k x)
    same_files r s k m (file.Ontology, a, x) (file.Priority, b, y) = absurd (no file.Ontology b.0 r k x)
    same_files r s k m (file.Ontology, a, x) (file.Query, b, y) = absurd (no file.Ontology b.0 r k x)
    same_files r s k m (file.Facts, a, x) (file.Ontology, b, y) = absurd (no file.Ontology a s m y)
    same_files r s k m (file.Facts, a, x) (file.Facts, b, y) = same file.Facts r s k m x y
    same_files r s k m (file.Facts, a, x) (file.Priority, b, y) = absurd (no file.Facts b.1 r k x)
    same_files r s k m (file.Facts, a, x) (file.Query, b, y) = absurd (no file.Facts b.1 r k x)
    same_files r s k m (file.Priority, a, x) (file.Ontology, b, y) = absurd (no file.Ontology a.0 s m y)
    same_files r s k m (file.Priority, a, x) (file.Facts, b, y) = absurd (no file.Facts a.1 s m y)
    same_files r s k m (file.Priority, a, x) (file.Priority, b, y) = same file.Priority r s k m x y
    same_files r s k m (file.Priority, a, x) (file.Query, b, y) = absurd (no file.Priority b.2 r k x)
    same_files r s k m (file.Query, a, x) (file.Ontology, b, y) = absurd (no file.Ontology a.0 s m y)
    same_files r s k m (file.Query, a, x) (file.Facts, b, y) = absurd (no file.Facts a.1 s m y)
    same_files r s k m (file.Query, a, x) (file.Priority, b, y) = absurd (no file.Priority a.2 s m y)
    same_files r s k m (file.Query, a, x) (file.Query, b, y) = same file.Query r s k m x y
    same_files r s k m (file.Report, a, x) other = absurd x
    same_files r s k m (file.Ontology, a, x) (file.Report, b, y) = absurd y
    same_files r s k m (file.Facts, a, x) (file.Report, b, y) = absurd y
    same_files r s k m (file.Priority, a, x) (file.Report, b, y) = absurd y
    same_files r s k m (file.Query, a, x) (file.Report, b, y) = absurd y

-- files that say something are accepted
pub said_accepted : (held : Held) (names : FileNames) (kb : Knowledge) (query : Query) (vocab : Vocab) → FilesSay (Some held) names kb query vocab
    → AreAccepted held names
said_accepted held names kb query vocab say =
    let facts : Facts (Some held) names say.says.after_ontology say.says.after_facts say.says.table =
    record { read = (say.facts_text, say.facts_file, say.says.facts_of) } in (
      accepted_ontology held names no_names say.says.after_ontology kb.axioms
          (record { read = (say.ontology_text, say.ontology_file, say.says.axioms) }),
      accepted_facts held names say.says.after_ontology say.says.after_facts say.says.table facts,
      accepted_priority held names say.says.after_ontology say.says.after_facts say.says.table kb.pairs facts
          (record { read = (say.priority_text, say.priority_file, say.says.pairs) }),
      accepted_query held names say.says.after_facts vocab query (record { read = (say.query_text, say.query_file, say.says.query_of) }),
    )
