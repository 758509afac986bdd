-- The four texts of the generated input. Concepts are `K` and a number, roles `R` and a number, individuals `p` or `d` and a number.
use Rattle.std.specs.Prelude.{◌≡◌, ◌==◌, ℕ, ◌+◌, ◌-◌, ◌*◌, ◌/◌, ◌%◌, List, [], ◌∷◌, ◌++◌, if◌then◌else◌, codes, string_bytes}
use Rattle.std.specs.List.{flat_map}
use Rattle.bench_texts.specs.Lines.{line, lines, for_each}
use Rattle.bench_texts.specs.declared.texts.Texts.{Texts}

-- the axioms, in this order: what is opposed, what is narrower, what is of concept 30, what the roles lead to, the narrower roles, and who
-- has a link
abbrev pub ontology_text : List ℕ
ontology_text =
    for_each 0 9 (λ i. line (codes "K") i (codes " < not K") (i + 10))
    ++ for_each 0 9 (λ i. line (codes "K") (i + 20) (codes " < K") i)
    ++ for_each 0 9 (λ i. line (codes "K") (i + 20) (codes " < not K") (i + 10))
    ++ for_each 0 4 (λ i. line (codes "K") i (codes " < K") 30)
    ++ for_each 10 13 (λ i. line (codes "K") i (codes " < K") 30)
    ++ for_each 31 39 (λ i. line (codes "K") i (codes " < K") 30)
    ++ for_each 0 29 (λ j. line (codes "some inv R") j (codes " < K") (30 + j % 10))
    ++ for_each 15 29 (λ j. line (codes "role R") j (codes " < R") (j - 15))
    ++ for_each 0 9 (λ j. line (codes "K") (j + 20) (codes " < some R") j)

-- the concepts of an individual by the remainder of its number
abbrev pub concepts_of : ℕ → List ℕ
concepts_of remainder =
    if remainder == 0 then 0 ∷ []
    else if remainder == 1 then 0 ∷ 10 ∷ []
    else if remainder == 2 then 5 ∷ 15 ∷ []
    else if remainder == 3 then 0 ∷ 10 ∷ []
    else 4 ∷ 14 ∷ []

-- the record that the individual has the concept: K{concept},p{i}
abbrev pub holds : ℕ → ℕ → List ℕ
holds concept i = line (codes "K") concept (codes ",p") i

-- the records of an individual: its link to another one, and then its concepts by i mod 5
abbrev pub person : ℕ → List ℕ
person i = line (codes "R15,p") i (codes ",d") i ++ flat_map (λ concept. holds concept i) (concepts_of (i % 5))

-- the records of as many individuals, from 0 on
abbrev pub facts_text : ℕ → List ℕ
facts_text size = lines person 0 size

-- the pair of an individual: where i mod 5 is 3 it is {14*b+10},{14*b+11}, with the whole part b of i / 5, by which K0,p{i} is preferred
-- to K10,p{i}
abbrev pub preference : ℕ → List ℕ
preference i = if i % 5 == 3 then line [] (14 * (i / 5) + 10) (codes ",") (14 * (i / 5) + 11) else []

-- the pairs of as many individuals, from 0 on
abbrev pub priority_text : ℕ → List ℕ
priority_text size = lines preference 0 size

-- the query
abbrev pub query_text : List ℕ
query_text = codes "?x <- K30(?x), R0(?x,?y)\n"

-- these are the texts of this size
pub record AreBenchTexts (size : ℕ) (texts : Texts) : Type 0 where
  pub ontology : string_bytes texts.ontology ≡ ontology_text
  pub facts : string_bytes texts.facts ≡ facts_text size
  pub priority : string_bytes texts.priority ≡ priority_text size
  pub query : string_bytes texts.query ≡ query_text
