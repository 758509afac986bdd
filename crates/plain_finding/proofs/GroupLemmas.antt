-- Hits in order, grouped by their tuples, are the supports.
use Rattle.std.proofs.Common.{◌≡◌, ◌≢◌, ◌↔◌, ℕ, zero, suc, ◌-◌, ◌<◌, ◌≤◌, ◌⊎◌, inl, inr, List}
use Rattle.std.proofs.Common.{[], ◌∷◌, ◌++◌, length, map, Contains, AllPairs, All, refl, sym, subst, ap, ◌∙◌}
use Rattle.std.proofs.Common.{arith, get_or, take, drop, append_assoc, append-nil, length-drop, drop-cons}
use Rattle.std.specs.Ordering.{nat_cmp, ordering_then}
use Rattle.std.specs.Cmp.Lexicographic.{slice_cmp}
use Rattle.std.specs.declared.cmp.Ordering.{Ordering}
use Rattle.std.specs.declared.cmp.Ordering.TheVariants.{Less, Equal, Greater}
use Rattle.std.proofs.lemmas.Cmp.{nat_list_cmp_total, tied_itself}
use Rattle.std.proofs.lemmas.Map.Lookups.{exact_bytes}
use Rattle.std.proofs.lemmas.List.{take-append-drop, take_rest, length-take-le, get_or-take}
use Rattle.std.proofs.lemmas.Option.{slice_get_within}
use Rattle.std.proofs.lemmas.List.Elements.{Contains-get_or, All-contains}
use Rattle.std.proofs.lemmas.List.Kept.{AllPairs-cons}
use Rattle.std.proofs.lemmas.List.Quantifiers.{all_pairs_push}
use Rattle.cq_terms.specs.declared.facts.Fact.{Fact}
use Rattle.cq_terms.specs.declared.hits.Clash.{Clash}
use Rattle.cq_terms.specs.declared.hits.Hit.{Hit}
use Rattle.cq_terms.specs.Conflicts.{ConflictGraph, own_facts, couples}
use Rattle.cq_terms.specs.Knowledge.{Knowledge, AreDistinct}
use Rattle.cq_terms.specs.Lists.{IsAscending}
use Rattle.cq_terms.specs.Query.{Query}
use Rattle.cq_meaning.specs.ConflictGraphs.{AreConflictsOf}
use Rattle.cq_meaning.specs.Entailment.{HasImage}
use Rattle.cq_meaning.specs.Rewriting.{IsClosure}
use Rattle.cq_meaning.proofs.Ascending.{All-of}
use Rattle.cq_meaning.proofs.Listed.{append_left, append_right, append_cases}
use Rattle.cq_meaning.proofs.Members.{Contains-head, Contains-later, Contains-cases, Contains-nil}
use Rattle.clause_meaning.proofs.Members.{Contains-map, Contains-map_cases}
use Rattle.query_matching.specs.Hits.{IsBefore}
use Rattle.plain_match.specs.Hits.{AreHitsOfAll, IsHitOfAny}
use Rattle.report_laws.specs.AtStanding.{Candidate, AreCandidatesOf}
use Rattle.report_laws.specs.HitLaws.{Group, IsHit, AreInOrder, AreSupports, candidates_of, causes_of}
use Rattle.report_laws.proofs.HitLemmas as hit_laws
use Rattle.report_laws.proofs.ListLemmas.{AllPairs-head, AllPairs-tail, AllPairs-map}
use Rattle.plain_finding.specs.Groups.{images_of, hits_of, IsLess, AreGrouped, AreOfFacts}

abbrev hit : List ℕ → List ℕ → Hit
hit tuple image = record { tuple = tuple; image = image }

-- ---- the hits of groups

-- the hits of the groups are those of their tuples and images
hits_there : (groups : List Group) (tuple image : List ℕ) → Contains (hits_of groups) (hit tuple image)
    → (g : Group) × Contains groups g × (g.tuple ≡ tuple) × Contains g.images image
hits_there [] tuple image m = absurd (Contains-nil (hit tuple image) m)
hits_there (g ∷ groups) tuple image m = elim (append_cases (map (hit g.tuple) g.images) (hits_of groups) (hit tuple image) m) [
  | inl k ↦
      let (i, l, e) = Contains-map_cases (hit g.tuple) g.images (hit tuple image) k in
      (g, Contains-head g groups, ap (λ (h : Hit). h.tuple) e, subst (Contains g.images) (ap (λ (h : Hit). h.image) e) l)
  | inr k ↦ let (w, l, e, n) = hits_there groups tuple image k in (w, Contains-later g groups w l, e, n)
]

hits_back : (groups : List Group) (g : Group) (image : List ℕ) → Contains groups g → Contains g.images image → Contains (hits_of groups) (hit g.tuple image)
hits_back [] g image m k = absurd (Contains-nil g m)
hits_back (f ∷ groups) g image m k = elim (Contains-cases f groups g m) [
  | inl e ↦ append_left (map (hit f.tuple) f.images) (hits_of groups) (hit g.tuple image)
      (subst (λ (x : Group). Contains (map (hit x.tuple) x.images) (hit g.tuple image)) (sym e) (Contains-map (hit g.tuple) g.images image k))
  | inr l ↦ append_right (map (hit f.tuple) f.images) (hits_of groups) (hit g.tuple image) (hits_back groups g image l k)
]

-- the first of two lists in a row is in order where both are
pairs_left : {X : Type 0} (R : X → X → Type 0) (xs ys : List X) → AllPairs R (xs ++ ys) → AllPairs R xs
pairs_left R [] ys h = λ i j d l m. absurd (omega arith)
pairs_left R (x ∷ xs) ys h = AllPairs-cons R x xs (All-of (R x) xs (λ y m. AllPairs-head R x (xs ++ ys) h y (append_left xs ys y m)))
    (pairs_left R xs ys (AllPairs-tail R x (xs ++ ys) h))

-- and so is the second
pub pairs_right : {X : Type 0} (R : X → X → Type 0) (xs ys : List X) → AllPairs R (xs ++ ys) → AllPairs R ys
pairs_right R [] ys h = h
pairs_right R (x ∷ xs) ys h = pairs_right R xs ys (AllPairs-tail R x (xs ++ ys) h)

-- images of one tuple are in order where their hits are
images_rise : (tuple : List ℕ) (images : List (List ℕ)) → AllPairs IsBefore (map (hit tuple) images) → AreInOrder images
images_rise tuple [] h = λ i j d l m. absurd (omega arith)
images_rise tuple (image ∷ images) h = AllPairs-cons (λ (a b : List ℕ). slice_cmp nat_cmp a b ≡ Less) image images
    (All-of (λ (b : List ℕ). slice_cmp nat_cmp image b ≡ Less) images (λ b m. less b (AllPairs-head IsBefore (hit tuple image) (map (hit tuple) images) h
    (hit tuple b) (Contains-map (hit tuple) images b m))))
    (images_rise tuple images (AllPairs-tail IsBefore (hit tuple image) (map (hit tuple) images) h))
  where
    less : (b : List ℕ) → ordering_then (slice_cmp nat_cmp tuple tuple) (slice_cmp nat_cmp image b) ≡ Less → slice_cmp nat_cmp image b ≡ Less
    less b p = subst (λ (o : Ordering). ordering_then o (slice_cmp nat_cmp image b) ≡ Less) (tied_itself nat_list_cmp_total tuple) p

group_images : (groups : List Group) → AllPairs IsBefore (hits_of groups) → (g : Group) → Contains groups g → AreInOrder g.images
group_images [] h g m = absurd (Contains-nil g m)
group_images (f ∷ groups) h g m = elim (Contains-cases f groups g m) [
  | inl e ↦ subst (λ (x : Group). AreInOrder x.images) e (images_rise f.tuple f.images (pairs_left IsBefore (map (hit f.tuple) f.images) (hits_of groups) h))
  | inr l ↦ group_images groups (pairs_right IsBefore (map (hit f.tuple) f.images) (hits_of groups) h) g l
]

-- ---- the candidates

-- the candidates of all hits over a closure are those of the query
pub grouped_are : (kb : Knowledge) (q : Query) (members : List Query) (g : ConflictGraph) (hits : List Hit) (candidates : List Candidate)
    → AreDistinct kb.facts → AreConflictsOf kb g → IsClosure kb.axioms q members → AreHitsOfAll kb.facts members hits
    → AreGrouped g.clashes hits [] candidates → AreCandidatesOf kb q candidates
grouped_are kb q members g hits candidates distinct of closure are w = subst (λ (cs : List Candidate). AreCandidatesOf kb q cs) (sym w.candidates_are)
    (hit_laws.candidates kb distinct q (own_facts g.clashes) (couples g.clashes) of.exact w.groups supports)
  where
    all : hits_of w.groups ≡ hits
    all = sym (append-nil (hits_of w.groups)) ∙ w.all

    listed : (tuple numbers : List ℕ) → IsHit kb.facts members tuple numbers ↔ Contains (hits_of w.groups) (hit tuple numbers)
    listed tuple numbers = (
      (λ h. subst (λ (hs : List Hit). Contains hs (hit tuple numbers)) (sym all) (are.complete (hit tuple numbers) h)),
      (λ m. All-contains (IsHitOfAny kb.facts members) hits (hit tuple numbers) are.each (subst (λ (hs : List Hit). Contains hs (hit tuple numbers)) all m)),
    )

    supports : AreSupports kb q w.groups
    supports = record {
      tuples = AllPairs-map (λ (f h : Group). IsLess f.tuple h.tuple) IsLess (λ (f : Group). f.tuple) (λ f h p. p) w.groups w.before.ordered;
      images = All-of (λ (f : Group). AreInOrder f.images) w.groups
          (group_images w.groups (subst (λ (hs : List Hit). AllPairs IsBefore hs) (sym all) are.ascending));
      exact = λ tuple numbers. (
        (λ s. hits_there w.groups tuple numbers ((listed tuple numbers).0 ((hit_laws.supports kb q members closure tuple numbers).0 s))),
        (λ (f, m, e, k). (hit_laws.supports kb q members closure tuple numbers).1 ((listed tuple numbers).1
            (subst (λ (t : List ℕ). Contains (hits_of w.groups) (hit t numbers)) e (hits_back w.groups f numbers m k)))),
      );
      some = λ f m. All-contains (λ (x : Group). x.images ≢ []) w.groups f w.before.some m;
    }

-- ---- one group more

hits_of_more : (groups : List Group) (g : Group) → hits_of (groups ++ g ∷ []) ≡ hits_of groups ++ map (hit g.tuple) g.images
hits_of_more [] g = append-nil (map (hit g.tuple) g.images)
hits_of_more (f ∷ groups) g = ap (λ (hs : List Hit). map (hit f.tuple) f.images ++ hs) (hits_of_more groups g)
    ∙ sym (append_assoc (map (hit f.tuple) f.images) (hits_of groups) (map (hit g.tuple) g.images))

-- hits of one tuple are those of the tuple and their images
one_tuple : (tuple : List ℕ) (hits : List Hit) → ((h : Hit) → Contains hits h → h.tuple ≡ tuple) → map (hit tuple) (images_of hits) ≡ hits
one_tuple tuple [] same = refl
one_tuple tuple (h ∷ hits) same = ap (λ (t : List ℕ). hit t h.image ∷ map (hit tuple) (images_of hits)) (sym (same h (Contains-head h hits)))
    ∙ ap (λ (hs : List Hit). h ∷ hs) (one_tuple tuple hits (λ k m. same k (Contains-later h hits k m)))

then_less : (o p : Ordering) → ordering_then o p ≡ Less → (o ≡ Less) ⊎ (o ≡ Equal)
then_less Less p e = inl refl
then_less Equal p e = inr refl
then_less Greater p e = absurd (cc e)

-- the tuple of the one hit comes before that of the other, or is the same
tuple_rises : (g h : Hit) → IsBefore g h → IsLess g.tuple h.tuple ⊎ (g.tuple ≡ h.tuple)
tuple_rises g h before = elim (then_less (slice_cmp nat_cmp g.tuple h.tuple) (slice_cmp nat_cmp g.image h.image) before) [
  | inl l ↦ inl l
  | inr e ↦ inr (exact_bytes g.tuple h.tuple e)
]

-- the first hit's tuple comes before those of all others, where it differs from that of the next one
past_first : (t : List ℕ) (h : Hit) (rest : List Hit) → AllPairs IsBefore (h ∷ rest) → IsLess t h.tuple → (k : Hit) → Contains (h ∷ rest) k → IsLess t k.tuple
past_first t h rest order less k m = elim (Contains-cases h rest k m) [
  | inl e ↦ subst (λ (x : Hit). IsLess t x.tuple) e less
  | inr l ↦ elim (tuple_rises h k (AllPairs-head IsBefore h rest order k l)) [
    | inl p ↦ nat_list_cmp_total.trans t h.tuple k.tuple less p
    | inr e ↦ subst (IsLess t) e less
  ]
]

-- the first hits have one tuple, and the next, if there is one, another
pub record IsRun (first : Hit) (run more : List Hit) : Type 0 where
  pub same : (h : Hit) → Contains run h → h.tuple ≡ first.tuple
  pub inside : Contains run first
  pub other : (h : Hit) (rest : List Hit) → more ≡ h ∷ rest → h.tuple ≢ first.tuple

abbrev group_so : List ℕ → List (List ℕ) → Group
group_so tuple images = record { tuple = tuple; images = images }

-- a run of hits is one group more
pub grouped_more : (clashes : List Clash) (hits run more : List Hit) (first : Hit) (candidates : List Candidate) → AllPairs IsBefore hits
    → AreGrouped clashes hits (run ++ more) candidates → IsRun first run more
    → AreGrouped clashes hits more (candidates ++ candidates_of (own_facts clashes) (couples clashes) (group_so first.tuple (images_of run) ∷ []))
grouped_more clashes hits run more first candidates order w r = record {
  groups = w.groups ++ g ∷ [];
  all = ap (λ (hs : List Hit). hs ++ more) (hits_of_more w.groups g)
      ∙ ap (λ (hs : List Hit). (hits_of w.groups ++ hs) ++ more) (one_tuple first.tuple run r.same)
      ∙ append_assoc (hits_of w.groups) run more ∙ w.all;
  before = record {
    some = All-of (λ (x : Group). x.images ≢ []) (w.groups ++ g ∷ []) some;
    ordered = all_pairs_push (λ (x y : Group). IsLess x.tuple y.tuple) w.groups g w.before.ordered
        (λ k d l. earlier (get_or w.groups k d) (Contains-get_or w.groups k d l) first (append_left run more first r.inside));
    before = All-of (λ (x : Group). All (λ (h : Hit). IsLess x.tuple h.tuple) more) (w.groups ++ g ∷ [])
        (λ x m. All-of (λ (h : Hit). IsLess x.tuple h.tuple) more (λ h k. behind x m h k));
  };
  candidates_are = ap (λ (cs : List Candidate). cs ++ candidates_of (own_facts clashes) (couples clashes) (g ∷ [])) w.candidates_are
      ∙ sym (candidates_append w.groups (g ∷ []));
}
  where
    g : Group
    g = group_so first.tuple (images_of run)

    earlier : (x : Group) → Contains w.groups x → (h : Hit) → Contains (run ++ more) h → IsLess x.tuple h.tuple
    earlier x m h k = All-contains (λ (y : Hit). IsLess x.tuple y.tuple) (run ++ more) h
        (All-contains (λ (y : Group). All (λ (z : Hit). IsLess y.tuple z.tuple) (run ++ more)) w.groups x w.before.before m) k

    some : (x : Group) → Contains (w.groups ++ g ∷ []) x → x.images ≢ []
    some x m e = elim (append_cases w.groups (g ∷ []) x m) [
      | inl k ↦ All-contains (λ (y : Group). y.images ≢ []) w.groups x w.before.some k e
      | inr k ↦ elim (Contains-cases g [] x k) [
        | inl is ↦ Contains-nil first.image (subst (λ (is : List (List ℕ)). Contains is first.image) (ap (λ (y : Group). y.images) is ∙ e)
            (Contains-map (λ (h : Hit). h.image) run first r.inside))
        | inr n ↦ Contains-nil x n
      ]
    ]

    ordered : AllPairs IsBefore (run ++ more)
    ordered = pairs_right IsBefore (hits_of w.groups) (run ++ more) (subst (λ (hs : List Hit). AllPairs IsBefore hs) (sym w.all) order)

    later : (xs : List Hit) → more ≡ xs → (h : Hit) → Contains xs h → IsLess first.tuple h.tuple
    later [] e h m = absurd (Contains-nil h m)
    later (next ∷ rest) e h m =
        let there = subst (λ (xs : List Hit). AllPairs IsBefore (run ++ xs)) e ordered in
        let behind_run = pairs_right IsBefore run (next ∷ rest) there in
        let rises = pairs_across run (next ∷ rest) there first next r.inside (Contains-head next rest) in
        past_first first.tuple next rest behind_run (elim (tuple_rises first next rises) [
          | inl l ↦ l
          | inr same ↦ absurd (r.other next rest e (sym same))
        ]) h m
      where
        pairs_across : (xs ys : List Hit) → AllPairs IsBefore (xs ++ ys) → (x y : Hit) → Contains xs x → Contains ys y → IsBefore x y
        pairs_across [] ys p x y m k = absurd (Contains-nil x m)
        pairs_across (z ∷ xs) ys p x y m k = elim (Contains-cases z xs x m) [
          | inl e ↦ subst (λ (v : Hit). IsBefore v y) e (AllPairs-head IsBefore z (xs ++ ys) p y (append_right xs ys y k))
          | inr l ↦ pairs_across xs ys (AllPairs-tail IsBefore z (xs ++ ys) p) x y l k
        ]

    behind : (x : Group) → Contains (w.groups ++ g ∷ []) x → (h : Hit) → Contains more h → IsLess x.tuple h.tuple
    behind x m h k = elim (append_cases w.groups (g ∷ []) x m) [
      | inl l ↦ earlier x l h (append_right run more h k)
      | inr l ↦ elim (Contains-cases g [] x l) [
        | inl e ↦ subst (λ (y : Group). IsLess y.tuple h.tuple) e (later more refl h k)
        | inr n ↦ absurd (Contains-nil x n)
      ]
    ]

    candidates_append : (xs ys : List Group) → candidates_of (own_facts clashes) (couples clashes) (xs ++ ys)
        ≡ candidates_of (own_facts clashes) (couples clashes) xs ++ candidates_of (own_facts clashes) (couples clashes) ys
    candidates_append [] ys = refl
    candidates_append (x ∷ xs) ys = ap (λ (cs : List Candidate). candidates_of (own_facts clashes) (couples clashes) (x ∷ []) ++ cs) (candidates_append xs ys)

-- no groups yet
pub grouped_none : (clashes : List Clash) (hits : List Hit) → AreGrouped clashes hits hits []
grouped_none clashes hits = record {
  groups = [];
  all = refl;
  before = record { some = λ k d l. absurd (omega arith); ordered = λ i j d l m. absurd (omega arith); before = λ k d l. absurd (omega arith) };
  candidates_are = refl;
}

-- ---- the run that a walk finds

heads_same : {X : Type 0} (x y : X) (xs ys : List X) → x ∷ xs ≡ y ∷ ys → x ≡ y
heads_same x y xs ys e = cc e

-- hits from the first on with its tuple, up to one with another
run_is : (x : Hit) (xs : List Hit) (count : ℕ) → 0 < count → ((k : ℕ) (d : Hit) → k < count → (get_or (x ∷ xs) k d).tuple ≡ x.tuple)
    → ((d : Hit) → count < length (x ∷ xs) → (get_or (x ∷ xs) count d).tuple ≢ x.tuple) → count ≤ length (x ∷ xs)
    → IsRun x (take count (x ∷ xs)) (drop count (x ∷ xs))
run_is x xs zero some same other within = absurd (omega arith)
run_is x xs (suc m) some same other within = record {
  same = one;
  inside = Contains-head x (take m xs);
  other = next;
}
  where
    one : (h : Hit) → Contains (take (suc m) (x ∷ xs)) h → h.tuple ≡ x.tuple
    one h (k, l, e) =
        let below : k < suc m = subst (λ n. k < n) (length-take-le (suc m) (x ∷ xs) within) l in
        ap (λ (y : Hit). y.tuple) (sym e ∙ get_or-take (suc m) (x ∷ xs) k h below) ∙ same k h below

    next : (h : Hit) (rest : List Hit) → drop (suc m) (x ∷ xs) ≡ h ∷ rest → h.tuple ≢ x.tuple
    next h rest e =
        let size = length-drop (suc m) (x ∷ xs) in
        let more = ap (λ (hs : List Hit). length hs) e in
        let inside : suc m < length (x ∷ xs) = omega (arith, size, more) in
        let first = heads_same (get_or (x ∷ xs) (suc m) h) h (drop (suc (suc m)) (x ∷ xs)) rest (sym (drop-cons (x ∷ xs) (suc m) h inside) ∙ e) in
        λ s. other h inside (ap (λ (y : Hit). y.tuple) first ∙ s)

-- one run more, as the walk takes it
pub grouped_step : (clashes : List Clash) (hits rest : List Hit) (candidates : List Candidate) (count : ℕ) (c : Candidate) → AllPairs IsBefore hits
    → AreGrouped clashes hits rest candidates → 0 < length rest → 0 < count → count ≤ length rest
    → ((k : ℕ) (d : Hit) → k < count → (get_or rest k d).tuple ≡ (get_or rest 0 d).tuple)
    → ((d : Hit) → count < length rest → (get_or rest count d).tuple ≢ (get_or rest 0 d).tuple)
    → ((d : Hit) → c ≡ record {
      tuple = (get_or (take count rest) 0 d).tuple;
      causes = causes_of (own_facts clashes) (couples clashes)
          (images_of (take count rest));
    })
    → AreGrouped clashes hits (take (length rest - count) (drop count rest)) (candidates ++ c ∷ [])
grouped_step clashes hits [] candidates count c order w none some within same other is = absurd (omega arith)
grouped_step clashes hits (x ∷ xs) candidates zero c order w more some within same other is = absurd (omega arith)
grouped_step clashes hits (x ∷ xs) candidates (suc m) c order w more some within same other is =
    subst (λ (hs : List Hit). AreGrouped clashes hits hs (candidates ++ c ∷ [])) (sym (take_rest (x ∷ xs) (suc m)))
    (subst (λ (d : Candidate). AreGrouped clashes hits (drop (suc m) (x ∷ xs)) (candidates ++ d ∷ [])) (sym (is x)) next)
  where
    parted : AreGrouped clashes hits (take (suc m) (x ∷ xs) ++ drop (suc m) (x ∷ xs)) candidates
    parted = subst (λ (hs : List Hit). AreGrouped clashes hits hs candidates) (sym (take-append-drop (suc m) (x ∷ xs))) w

    next : AreGrouped clashes hits (drop (suc m) (x ∷ xs)) (candidates ++ candidates_of (own_facts clashes) (couples clashes)
        (group_so x.tuple (images_of (take (suc m) (x ∷ xs))) ∷ []))
    next = grouped_more clashes hits (take (suc m) (x ∷ xs)) (drop (suc m) (x ∷ xs)) x candidates order parted
        (run_is x xs (suc m) some same other within)

-- ---- the images

image_known : (facts : List Fact) (q : Query) (tuple numbers : List ℕ) → HasImage facts q tuple numbers → All (λ i. i < length facts) numbers
image_known facts q tuple numbers h = All-of (λ i. i < length facts) numbers (λ i m.
    let (image, match, exact) = h.match in
    let (f, there, at) = (exact i).0 m in
    slice_get_within facts i f at)

-- the images of hits ascend and are of facts of the table
pub hits_known : (facts : List Fact) (members : List Query) (hits : List Hit) → AreHitsOfAll facts members hits → AreOfFacts (length facts) hits
hits_known facts members hits are = All-of (λ (h : Hit). IsAscending h.image × All (λ i. i < length facts) h.image) hits (λ h m.
    let (k, q, l, e, image) = All-contains (IsHitOfAny facts members) hits h are.each m in
    (image.ascending, image_known facts q h.tuple h.image image))
