-- The texts of facts.
use Rattle.std.proofs.Common.{◌≡◌, ℕ, ◌<◌, List, [], ◌∷◌, ◌++◌, length, slice_get, get_or, Option, Some, None, codes, refl, sym, ap, ◌∙◌, subst, All}
use Rattle.std.proofs.Common.{suc, arith}
use Rattle.std.specs.List.{cons_option, flat_map}
use Rattle.std.proofs.lemmas.List.{append-nil}
use Rattle.std.proofs.lemmas.Option.{get_or_from_slice_get, slice_get-get_or}
use Rattle.cq_terms.specs.declared.facts.Fact.{Fact}
use Rattle.cq_terms.specs.declared.facts.Fact.TheVariants as fact
use Rattle.cq_terms.specs.declared.names.Vocab.{Vocab}
use Rattle.cqapri_words.specs.Cycles.{NamedCycle, cycle_line, fact_text, facts_at, facts_text, later_fact, later_text, name_at}

-- the name of a number is the text at its place
pub name_at-found : (names : List (List ℕ)) (number : ℕ) (text : List ℕ) → slice_get names number ≡ Some text → text ≡ name_at names number
name_at-found names number text e = sym (get_or_from_slice_get names number text [] e)

-- the pieces of a fact of a concept are its text
pub concept_pieces : (vocab : Vocab) (given : Fact) (pred ind : ℕ) → given ≡ fact.Concept pred ind → (before concept name first second : List ℕ)
    → concept ≡ first → slice_get vocab.concepts pred ≡ Some first → name ≡ second → slice_get vocab.inds ind ≡ Some second
    → before ++ (concept ++ (codes "(" ++ (name ++ (codes ")" ++ [])))) ≡ before ++ fact_text vocab given
concept_pieces vocab given pred ind e before concept name first second c there n also =
    let c' : concept ≡ name_at vocab.concepts pred = c ∙ name_at-found vocab.concepts pred first there in
    let n' : name ≡ name_at vocab.inds ind = n ∙ name_at-found vocab.inds ind second also in rw (e, c', n') refl

-- and those of a link
pub link_pieces : (vocab : Vocab) (given : Fact) (pred from to : ℕ) → given ≡ fact.Link pred from to
    → (before role first second its one other : List ℕ) → role ≡ its → slice_get vocab.roles pred ≡ Some its → first ≡ one
    → slice_get vocab.inds from ≡ Some one → second ≡ other → slice_get vocab.inds to ≡ Some other
    → before ++ (role ++ (codes "(" ++ (first ++ (codes "," ++ (second ++ (codes ")" ++ [])))))) ≡ before ++ fact_text vocab given
link_pieces vocab given pred from to e before role first second its one other r there f also s last =
    let r' : role ≡ name_at vocab.roles pred = r ∙ name_at-found vocab.roles pred its there in
    let f' : first ≡ name_at vocab.inds from = f ∙ name_at-found vocab.inds from one also in
    let s' : second ≡ name_at vocab.inds to = s ∙ name_at-found vocab.inds to other last in rw (e, r', f', s') refl

-- a later fact of a number that has one
pub later_fact-at : (vocab : Vocab) (facts : List Fact) (number : ℕ) (other : Fact) → number < length facts
    → codes ", " ++ fact_text vocab (get_or facts number other) ≡ later_fact vocab (slice_get facts number)
later_fact-at vocab facts number other l = ap (later_fact vocab) (sym (slice_get-get_or facts number other l))

-- the text of facts is that of the first and of the others, each after a comma and a space
facts_text-cons : (vocab : Vocab) (one : Fact) (facts : List Fact)
    → facts_text vocab (one ∷ facts) ≡ fact_text vocab one ++ flat_map (λ other. codes ", " ++ fact_text vocab other) facts
facts_text-cons vocab one [] = sym (append-nil (fact_text vocab one))
facts_text-cons vocab one (other ∷ facts) =
    ap (λ t. fact_text vocab one ++ (codes ", " ++ t)) (facts_text-cons vocab other facts)

-- these texts by number
later : (vocab : Vocab) (facts : List Fact) (numbers : List ℕ) → flat_map (λ one. codes ", " ++ fact_text vocab one) (facts_at facts numbers)
    ≡ later_text vocab facts numbers
later vocab facts [] = refl
later vocab facts (number ∷ numbers) = by (slice_get facts number) (later vocab facts numbers)
  where
    by : (o : Option Fact) → flat_map (λ one. codes ", " ++ fact_text vocab one) (facts_at facts numbers) ≡ later_text vocab facts numbers
        → flat_map (λ one. codes ", " ++ fact_text vocab one) (cons_option o (facts_at facts numbers))
        ≡ later_fact vocab o ++ later_text vocab facts numbers
    by None h = h
    by (Some one) h = ap (λ t. (codes ", " ++ fact_text vocab one) ++ t) h

-- the text of the facts of numbers
pub facts_text-at : (vocab : Vocab) (facts : List Fact) (numbers : List ℕ) (first : ℕ) (rest : List ℕ) (other : Fact) → numbers ≡ first ∷ rest
    → first < length facts
    → fact_text vocab (get_or facts first other) ++ later_text vocab facts rest ≡ facts_text vocab (facts_at facts numbers)
facts_text-at vocab facts numbers first rest other e l =
    let one : Fact = get_or facts first other in
    let there : slice_get facts first ≡ Some one = slice_get-get_or facts first other l in
    ap (λ t. fact_text vocab one ++ t) (sym (later vocab facts rest)) ∙ sym (facts_text-cons vocab one (facts_at facts rest))
    ∙ ap (λ o. facts_text vocab (cons_option o (facts_at facts rest))) (sym there) ∙ ap (λ ns. facts_text vocab (facts_at facts ns)) (sym e)

-- the numbers after the first
pub tail_below : (limit : ℕ) (numbers : List ℕ) (first : ℕ) (rest : List ℕ) → numbers ≡ first ∷ rest → All (λ n. n < limit) numbers
    → All (λ n. n < limit) rest
tail_below limit numbers first rest e all = λ k d l.
    let whole : All (λ n. n < limit) (first ∷ rest) = subst (All (λ n. n < limit)) e all in whole (suc k) d (omega (arith, l))

-- what stands before the facts of a cycle
abbrev pub cycle_head : List ℕ
cycle_head = codes "cqapri: priority: cycle: "

-- the line of a cycle, from its fields
pub cycle_line-fields : (cycle : NamedCycle) (vocab : Vocab) (held facts : List Fact) (their numbers : List ℕ)
    → record { facts = facts_at held their; vocab = vocab } ≡ cycle → facts ≡ held → numbers ≡ their
    → (cycle_head ++ facts_text vocab (facts_at facts numbers)) ++ (10 ∷ []) ≡ cycle_line cycle
cycle_line-fields cycle vocab held facts their numbers v f n =
    ap (λ fs. cycle_head ++ (facts_text vocab (facts_at fs numbers) ++ 10 ∷ [])) f
    ∙ ap (λ ns. cycle_head ++ (facts_text vocab (facts_at held ns) ++ 10 ∷ [])) n ∙ ap cycle_line v
