-- Which fetches came before the end of a reading.
use Rattle.std.proofs.Common.{◌≡◌, ℕ, List, Option, Some, None, false, IsSome, refl, ap, ◌∙◌, subst}
use Rattle.cq_io.specs.Failing.{Failing, after_fetch}
use Rattle.cqapri_words.specs.Words.{FileNames}
use Rattle.cqapri_words.specs.declared.files.File.TheVariants as file
use Rattle.cqapri_words.specs.declared.refusal.Refusal.{Refusal}
use Rattle.input_files.specs.Ends.{EndsBy, IsOf, TellsPriority, place_of, priority_fetches}
use Rattle.input_files.specs.Fetching.{Succeed, TellsNext, after_fetches, is_fault}

-- the names, one by one
abbrev pub named_by : List ℕ → List ℕ → Option (List ℕ) → List ℕ → FileNames
named_by ontology facts priority query = record { ontology = ontology; facts = facts; priority = priority; query = query }

-- two fetches without a fault
pub record Two (old first second : Option Failing) : Type 0 where
  pub ontology : TellsNext old false
  pub facts : TellsNext first false
  pub first_is : first ≡ after_fetch old
  pub second_is : second ≡ after_fetch first

-- the place after two fetches
second_at : (old first second : Option Failing) → Two old first second → second ≡ after_fetch (after_fetch old)
second_at old first second two = two.second_is ∙ ap after_fetch two.first_is

-- what is told of the fetch of the facts, told of the first one
facts_told : (old first second : Option Failing) → Two old first second → TellsNext (after_fetch old) false
facts_told old first second two = subst (λ x. TellsNext x false) two.first_is two.facts

-- the ontology ends a reading
pub ends_ontology : (names : FileNames) (r : Refusal) (old new : Option Failing) → IsOf file.Ontology r → TellsNext old (is_fault r) → new ≡ after_fetch old
    → EndsBy names r old new
ends_ontology names r old new of told next = (file.Ontology, record { named = refl; of_file = of; earlier = tt; own = told; after = next })

-- the facts end it
pub ends_facts : (names : FileNames) (r : Refusal) (old first new : Option Failing) → TellsNext old false → first ≡ after_fetch old
    → IsOf file.Facts r → TellsNext first (is_fault r) → new ≡ after_fetch first → EndsBy names r old new
ends_facts names r old first new good e of told next = (
  file.Facts,
  record {
    named = refl;
    of_file = of;
    earlier = (good, tt);
    own = subst (λ x. TellsNext x (is_fault r)) e told;
    after = next ∙ ap after_fetch e;
  },
)

-- the priority ends it, where it is named
pub ends_priority : (ontology facts : List ℕ) (priority : Option (List ℕ)) (query : List ℕ) (r : Refusal) (old first second new : Option Failing)
    → Two old first second → IsSome priority → IsOf file.Priority r → TellsPriority priority second (is_fault r)
    → new ≡ after_fetches (priority_fetches priority) second → EndsBy (named_by ontology facts priority query) r old new
ends_priority ontology facts None query r old first second new two named of told next = cc named
ends_priority ontology facts (Some name) query r old first second new two named of told next = (
  file.Priority,
  record {
    named = refl;
    of_file = of;
    earlier = (two.ontology, (facts_told old first second two, tt));
    own = subst (λ x. TellsNext x (is_fault r)) (second_at old first second two) told;
    after = next ∙ ap after_fetch (second_at old first second two);
  },
)

-- the query ends it
pub ends_query : (ontology facts : List ℕ) (priority : Option (List ℕ)) (query : List ℕ) (r : Refusal) (old first second third new : Option Failing)
    → Two old first second → TellsPriority priority second false → third ≡ after_fetches (priority_fetches priority) second
    → IsOf file.Query r → TellsNext third (is_fault r) → new ≡ after_fetch third → EndsBy (named_by ontology facts priority query) r old new
ends_query ontology facts None query r old first second third new two good e of told next = (
  file.Query,
  record {
    named = refl;
    of_file = of;
    earlier = (two.ontology, (facts_told old first second two, tt));
    own = subst (λ x. TellsNext x (is_fault r)) (e ∙ second_at old first second two) told;
    after = next ∙ ap after_fetch (e ∙ second_at old first second two);
  },
)
ends_query ontology facts (Some name) query r old first second third new two good e of told next = (
  file.Query,
  record {
    named = refl;
    of_file = of;
    earlier = (two.ontology, (facts_told old first second two, (subst (λ x. TellsNext x false) (second_at old first second two) good, tt)));
    own = subst (λ x. TellsNext x (is_fault r)) (e ∙ ap after_fetch (second_at old first second two)) told;
    after = next ∙ ap after_fetch (e ∙ ap after_fetch (second_at old first second two));
  },
)

-- all fetches went well
pub all_succeed : (ontology facts : List ℕ) (priority : Option (List ℕ)) (query : List ℕ) (old first second third : Option Failing) → Two old first second
    → TellsPriority priority second false → third ≡ after_fetches (priority_fetches priority) second → TellsNext third false
    → Succeed (place_of (named_by ontology facts priority query) file.Report) old
all_succeed ontology facts None query old first second third two good e told = (
  two.ontology,
  (facts_told old first second two, (subst (λ x. TellsNext x false) (e ∙ second_at old first second two) told, tt)),
)
all_succeed ontology facts (Some name) query old first second third two good e told =
    let here = second_at old first second two in (
      two.ontology,
      (
        facts_told old first second two,
        (subst (λ x. TellsNext x false) here good, (subst (λ x. TellsNext x false) (e ∙ ap after_fetch here) told, tt)),
      ),
    )

-- where the shelf is after them
pub after_all : (ontology facts : List ℕ) (priority : Option (List ℕ)) (query : List ℕ) (old first second third new : Option Failing)
    → Two old first second → third ≡ after_fetches (priority_fetches priority) second → new ≡ after_fetch third
    → new ≡ after_fetches (place_of (named_by ontology facts priority query) file.Report) old
after_all ontology facts None query old first second third new two e next = next ∙ ap after_fetch (e ∙ second_at old first second two)
after_all ontology facts (Some name) query old first second third new two e next =
    next ∙ ap after_fetch (e ∙ ap after_fetch (second_at old first second two))
