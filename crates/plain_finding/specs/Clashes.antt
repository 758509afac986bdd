-- The clashes that hits without a tuple tell.
use Rattle.std.specs.Prelude.{◌++◌, ◌||◌, ℕ, List, [], ◌∷◌, map, filter, filter_map, Bool, not, Option, Some, None, if◌then◌else◌}
use Rattle.cq_terms.specs.declared.hits.Clash.{Clash}
use Rattle.cq_terms.specs.declared.hits.Hit.{Hit}
use Rattle.cq_terms.specs.Conflicts.{single, couple}
use Rattle.priority_graph.specs.Split.{has}

-- the one fact of the image, where the tuple is empty
abbrev pub own_in : List ℕ → List ℕ → Option ℕ
own_in [] image = single image
own_in (c ∷ tuple) image = None

-- the two facts of the image, where the tuple is empty
abbrev pub couple_in : List ℕ → List ℕ → Option (ℕ × ℕ)
couple_in [] image = couple image
couple_in (c ∷ tuple) image = None

-- the single facts of the hits
abbrev pub owns_in : List Hit → List ℕ
owns_in hits = filter_map (λ (h : Hit). own_in h.tuple h.image) hits

-- whether neither fact of the pair stands in the list
abbrev pub has_neither : List ℕ → ℕ × ℕ → Bool
has_neither owns p = not (has owns p.0 || has owns p.1)

-- the pairs of facts of the hits of which neither is one of the single facts
abbrev pub pairs_in : List ℕ → List Hit → List (ℕ × ℕ)
pairs_in owns hits = filter (has_neither owns) (filter_map (λ (h : Hit). couple_in h.tuple h.image) hits)

-- a clash of one fact
abbrev pub own_clash : ℕ → Clash
own_clash i = record { facts = i ∷ []; «axiom» = 0; member = 0 }

-- a clash of two facts
abbrev pub couple_clash : ℕ × ℕ → Clash
couple_clash p = record { facts = p.0 ∷ p.1 ∷ []; «axiom» = 0; member = 0 }

-- the clashes of the hits: those of one fact, and then those of two
abbrev pub clashes_in : List Hit → List Clash
clashes_in hits = map own_clash (owns_in hits) ++ map couple_clash (pairs_in (owns_in hits) hits)

-- the pair, where neither of its facts stands in the list
abbrev pub wanted : List ℕ → Option (ℕ × ℕ) → Option (ℕ × ℕ)
wanted owns None = None
wanted owns (Some p) = if has owns p.0 || has owns p.1 then None else Some p
