-- The blocks of queries as they are kept.
use Rattle.std.proofs.Common.{◌≡◌, ◌≢◌, ℕ, zero, suc, ◌<◌, ◌⊎◌, inl, inr, Bool, true, false, cond, List, [], ◌∷◌, ◌++◌, length}
use Rattle.std.proofs.Common.{Contains, slice_get, get_or, Some, None, refl, ap, sym, subst, ◌∙◌, arith}
use Rattle.std.specs.List.{insert, remove}
use Rattle.std.proofs.lemmas.List.Quantifiers.{all_pairs_remove}
use Rattle.std.proofs.lemmas.Option.{get_or_from_slice_get}
use Rattle.std.proofs.lemmas.List.Kept.{AllPairs-cons}
use Rattle.cq_terms.specs.Query.{Query}
use Rattle.cq_meaning.proofs.Ascending.{All-of}
use Rattle.cq_meaning.proofs.Members.{Contains-head, Contains-later, Contains-cases, Contains-nil, Contains-slice_get}
use Rattle.report_text.specs.declared.line.Origin.{Origin}
use Rattle.report_rules.specs.Told.{same_origin, is_query}
use Rattle.report_laws.specs.Standing.{Block, members_at, with_query}
use Rattle.report_laws.specs.HitLaws.{negative_members}
use Rattle.report_laws.proofs.StandingLemmas.{same_or_not}
use Rattle.report_laws.proofs.ListLemmas.{AllPairs-head, AllPairs-tail}
use Rattle.report_parts.specs.Blocks.{AreApart, IsPlaceOf}

-- the test of one origin passes
pub same_passes : (a b : Origin) → a ≡ b → same_origin a b ≡ true
same_passes a b e = elim (same_or_not a b) [ inl w ↦ w.0 | inr w ↦ absurd (w.1 e) ]

pub same_fails : (a b : Origin) → (a ≡ b → ⊥) → same_origin a b ≡ false
same_fails a b n = elim (same_or_not a b) [ inl w ↦ absurd (n w.1) | inr w ↦ w.0 ]

-- the queries of a block that stands at a place
pub members_there : (blocks : List Block) (o : Origin) (place : ℕ) (b : Block) → AreApart blocks → slice_get blocks place ≡ Some b → b.origin ≡ o
    → members_at blocks o ≡ b.members
members_there [] o place b h at e = absurd (cc at)
members_there (a ∷ blocks) o zero b h at e =
    let one : a ≡ b = cc at in
    let same : same_origin o a.origin ≡ true = same_passes o a.origin (sym e ∙ ap (λ (c : Block). c.origin) (sym one)) in
    ap (λ (t : Bool). cond t a.members (members_at blocks o)) same ∙ ap (λ (c : Block). c.members) one
members_there (a ∷ blocks) o (suc place) b h at e =
    let apart = AllPairs-head (λ (x y : Block). x.origin ≢ y.origin) a blocks h b (Contains-slice_get blocks place b at) in
    let other : same_origin o a.origin ≡ false = same_fails o a.origin (λ s. apart (sym s ∙ sym e)) in
    ap (λ (t : Bool). cond t a.members (members_at blocks o)) other
    ∙ members_there blocks o place b (AllPairs-tail (λ (x y : Block). x.origin ≢ y.origin) a blocks h) at e

-- there are none where no block is of the origin
pub members_none : (blocks : List Block) (o : Origin) → ((b : Block) → Contains blocks b → b.origin ≢ o) → members_at blocks o ≡ []
members_none [] o n = refl
members_none (a ∷ blocks) o n =
    ap (λ (t : Bool). cond t a.members (members_at blocks o)) (same_fails o a.origin (λ s. n a (Contains-head a blocks) (sym s)))
    ∙ members_none blocks o (λ b m. n b (Contains-later a blocks b m))

abbrev grown : Block → Query → Block
grown b q = record { origin = b.origin; members = b.members ++ q ∷ [] }

-- a query more for the block at the place
pub query_there : (blocks : List Block) (o : Origin) (q : Query) (place : ℕ) (b : Block) → AreApart blocks → slice_get blocks place ≡ Some b
    → b.origin ≡ o → insert (remove blocks place) place (grown b q) ≡ with_query blocks o q
query_there [] o q place b h at e = absurd (cc at)
query_there (a ∷ blocks) o q zero b h at e =
    let one : a ≡ b = cc at in
    let same : same_origin o a.origin ≡ true = same_passes o a.origin (sym e ∙ ap (λ (c : Block). c.origin) (sym one)) in
    ap (λ (c : Block). grown c q ∷ blocks) (sym one)
    ∙ sym (ap (λ (t : Bool). cond t (grown a q ∷ blocks) (a ∷ with_query blocks o q)) same)
query_there (a ∷ blocks) o q (suc place) b h at e =
    let apart = AllPairs-head (λ (x y : Block). x.origin ≢ y.origin) a blocks h b (Contains-slice_get blocks place b at) in
    let other : same_origin o a.origin ≡ false = same_fails o a.origin (λ s. apart (sym s ∙ sym e)) in
    ap (λ (bs : List Block). a ∷ bs) (query_there blocks o q place b (AllPairs-tail (λ (x y : Block). x.origin ≢ y.origin) a blocks h) at e)
    ∙ sym (ap (λ (t : Bool). cond t (grown a q ∷ blocks) (a ∷ with_query blocks o q)) other)

-- a query more where no block is of the origin
pub query_new : (blocks : List Block) (o : Origin) (q : Query) → ((b : Block) → Contains blocks b → b.origin ≢ o)
    → blocks ++ (record { origin = o; members = q ∷ [] }) ∷ [] ≡ with_query blocks o q
query_new [] o q n = refl
query_new (a ∷ blocks) o q n =
    ap (λ (bs : List Block). a ∷ bs) (query_new blocks o q (λ b m. n b (Contains-later a blocks b m)))
    ∙ sym (ap (λ (t : Bool). cond t (grown a q ∷ blocks) (a ∷ with_query blocks o q)) (same_fails o a.origin (λ s. n a (Contains-head a blocks) (sym s))))

-- what stands there with one more query is of the origin, or of one that was there
origin_of : (blocks : List Block) (o : Origin) (q : Query) (b : Block) → Contains (with_query blocks o q) b
    → (b.origin ≡ o) ⊎ ((c : Block) × Contains blocks c × (c.origin ≡ b.origin))
origin_of [] o q b m = elim (Contains-cases (record { origin = o; members = q ∷ [] }) [] b m) [
  | inl e ↦ inl (ap (λ (c : Block). c.origin) (sym e))
  | inr none ↦ absurd (Contains-nil b none)
]
origin_of (a ∷ blocks) o q b m = by (same_origin o a.origin) m (λ k. origin_of blocks o q b k)
  where
    by : (t : Bool) → Contains (cond t (grown a q ∷ blocks) (a ∷ with_query blocks o q)) b
        → (Contains (with_query blocks o q) b → (b.origin ≡ o) ⊎ ((c : Block) × Contains blocks c × (c.origin ≡ b.origin)))
        → (b.origin ≡ o) ⊎ ((c : Block) × Contains (a ∷ blocks) c × (c.origin ≡ b.origin))
    by true k again = elim (Contains-cases (grown a q) blocks b k) [
      | inl e ↦ inr (a, Contains-head a blocks, ap (λ (c : Block). c.origin) e)
      | inr l ↦ inr (b, Contains-later a blocks b l, refl)
    ]
    by false k again = elim (Contains-cases a (with_query blocks o q) b k) [
      | inl e ↦ inr (a, Contains-head a blocks, ap (λ (c : Block). c.origin) e)
      | inr l ↦ elim (again l) [ inl e ↦ inl e | inr w ↦ inr (w.0, Contains-later a blocks w.0 w.1, w.2) ]
    ]

-- one more query keeps the blocks apart
pub apart_with : (blocks : List Block) (o : Origin) (q : Query) → AreApart blocks → AreApart (with_query blocks o q)
apart_with [] o q h = λ i j d l m. absurd (omega arith)
apart_with (a ∷ blocks) o q h = elim (same_or_not o a.origin) [
  | inl w ↦ subst AreApart (sym (ap (λ (t : Bool). cond t (grown a q ∷ blocks) (a ∷ with_query blocks o q)) w.0))
      (AllPairs-cons (λ (x y : Block). x.origin ≢ y.origin) (grown a q) blocks
      (All-of (λ (y : Block). a.origin ≢ y.origin) blocks (AllPairs-head (λ (x y : Block). x.origin ≢ y.origin) a blocks h))
      (AllPairs-tail (λ (x y : Block). x.origin ≢ y.origin) a blocks h))
  | inr w ↦ subst AreApart (sym (ap (λ (t : Bool). cond t (grown a q ∷ blocks) (a ∷ with_query blocks o q)) w.0))
      (AllPairs-cons (λ (x y : Block). x.origin ≢ y.origin) a (with_query blocks o q)
      (All-of (λ (y : Block). a.origin ≢ y.origin) (with_query blocks o q) (λ y m e. elim (origin_of blocks o q y m) [
        | inl is ↦ w.1 (sym (e ∙ is))
        | inr v ↦ AllPairs-head (λ (x y : Block). x.origin ≢ y.origin) a blocks h v.0 v.1 (e ∙ sym v.2)
      ]))
      (apart_with blocks o q (AllPairs-tail (λ (x y : Block). x.origin ≢ y.origin) a blocks h)))
]

-- without one of them blocks stay apart
pub apart_without : (blocks : List Block) (place : ℕ) → place < length blocks → AreApart blocks → AreApart (remove blocks place)
apart_without blocks place l h = all_pairs_remove (λ (x y : Block). x.origin ≢ y.origin) blocks place l h

-- the members of further blocks stand behind those so far
pub negative_more : (blocks : List Block) (b : Block) (t : Bool) → is_query b.origin ≡ t
    → negative_members (b ∷ blocks) ≡ cond t (negative_members blocks) (b.members ++ negative_members blocks)
negative_more blocks b t e = ap (λ (s : Bool). cond s (negative_members blocks) (b.members ++ negative_members blocks)) e

-- ---- as the code has them

-- the block at the place, taken out and put back with one query more
pub query_put : (blocks : List Block) (o : Origin) (q : Query) (place : ℕ) (r b : Block) (left new : List Block) → AreApart blocks
    → IsPlaceOf blocks o (Some place) → r ≡ get_or blocks place r → left ≡ remove blocks place → b ≡ grown r q → new ≡ insert left place b
    → new ≡ with_query blocks o q
query_put blocks o q place r b left new apart (found, at, is) e l g n =
    let same : r ≡ found = e ∙ get_or_from_slice_get blocks place found r at in
    n ∙ ap (λ (ls : List Block). insert ls place b) l ∙ ap (λ (c : Block). insert (remove blocks place) place c) (g ∙ ap (λ (x : Block). grown x q) same)
    ∙ query_there blocks o q place found apart at is

abbrev block_so : Origin → List Query → Block
block_so o members = record { origin = o; members = members }

-- a new block with one query
pub query_added : (blocks : List Block) (o : Origin) (q : Query) (r b : Block) (new : List Block) → IsPlaceOf blocks o None → r ≡ block_so o []
    → b ≡ grown r q → new ≡ blocks ++ b ∷ [] → new ≡ with_query blocks o q
query_added blocks o q r b new none e g n =
    n ∙ ap (λ (c : Block). blocks ++ c ∷ []) (g ∙ ap (λ (x : Block). grown x q) e) ∙ query_new blocks o q none

-- the block at the place has the queries
pub block_there : (blocks : List Block) (o : Origin) (place : ℕ) (r : Block) → AreApart blocks → IsPlaceOf blocks o (Some place)
    → r ≡ get_or blocks place r → members_at blocks o ≡ r.members
block_there blocks o place r apart (found, at, is) e =
    let same : r ≡ found = e ∙ get_or_from_slice_get blocks place found r at in
    members_there blocks o place found apart at is ∙ ap (λ (b : Block). b.members) (sym same)
