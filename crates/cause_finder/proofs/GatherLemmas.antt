-- The supports that were gathered, member by member.
use Rattle.std.proofs.Common.{◌≡◌, ℕ, ◌+◌, ◌<◌, ◌≤◌, List, [], length, get_or, map, Contains, ◌⊎◌, inl, inr, slice_get, Some, sym, ◌∙◌, subst, arith}
use Rattle.std.specs.List.Sorted.{IsStrictlySortedBy}
use Rattle.std.proofs.lemmas.Bool.{cases_eq}
use Rattle.std.proofs.lemmas.List.{length-map}
use Rattle.std.proofs.lemmas.List.Elements.{All-map, Contains-get_or}
use Rattle.cq_terms.specs.declared.facts.Fact.{Fact}
use Rattle.cq_terms.specs.declared.hits.Hit.{Hit}
use Rattle.cq_terms.specs.Query.{Query}
use Rattle.cq_meaning.proofs.Members.{Contains-nil}
use Rattle.cq_meaning.proofs.Places.{some_inj}
use Rattle.cq_steps.specs.declared.closure.Member.{Member}
use Rattle.query_matching.specs.Hits.{IsHit, AreHits, HasMoreHits}
use Rattle.cause_finder.specs.declared.support.Support.{Support}
use Rattle.cause_finder.specs.Causes.{MatchesAt, IsLeastMember}
use Rattle.cause_finder.specs.Supports.{support_cmp, pair_of, Has, AddsOnly, AreTooMany, AreGathered, AreSupports, HasMorePairs}
use Rattle.cause_finder.proofs.PartLemmas.{step}
use Rattle.cause_finder.proofs.SupportLemmas.{pairs_ascend}

pub has_kept : (old new : List Support) → ((s : Support) → Contains old s → Contains new s) → (h : Hit) → Has old h → Has new h
has_kept old new kept h (s, there, e) = (s, kept s there, e)

-- ---- the hits of one member

module _ (P : Hit → Type 0) (place : ℕ) where
  pub adds_none : (xs : List Support) → AddsOnly P place xs xs
  adds_none xs = record { kept = λ s there. there; right = λ s there. inl there }

  pub adds_more : (old mid new : List Support) (hit : Hit) → AddsOnly P place old mid → P hit → AddsOnly (λ h. h ≡ hit) place mid new → AddsOnly P place old new
  adds_more old mid new hit first is more = record {
    kept = λ s there. more.kept s (first.kept s there);
    right = λ s there. by s (more.right s there);
  }
    where
      by : (s : Support) → Contains mid s ⊎ ((s.member ≡ place) × (pair_of s ≡ hit) × ¬ Has mid (pair_of s)) → Contains old s
          ⊎ ((s.member ≡ place) × P (pair_of s) × ¬ Has old (pair_of s))
      by s (inl there) = first.right s there
      by s (inr (m, e, none)) = inr (m, subst P (sym e) is, (λ h. none (has_kept old mid first.kept (pair_of s) h)))

-- the first hits are there, and so is the next one
pub found_more : (mid new : List Support) (hits : List Hit) (n : ℕ) (hit : Hit) → n < length hits → hit ≡ get_or hits n hit
    → ((s : Support) → Contains mid s → Contains new s) → Has new hit → ((k : ℕ) (d : Hit) → k < n → Has mid (get_or hits k d)) → (k : ℕ) (d : Hit)
    → k < n + 1 → Has new (get_or hits k d)
found_more mid new hits n hit inside at kept there before =
    step (Has new) hits n hit inside (λ k d l. has_kept mid new kept (get_or hits k d) (before k d l)) (subst (Has new) at there)

pub found_all : (facts : List Fact) (query : Query) (new : List Support) (hits : List Hit) (n : ℕ) → length hits ≤ n → AreHits facts query hits
    → ((k : ℕ) (d : Hit) → k < n → Has new (get_or hits k d)) → (h : Hit) → IsHit facts query h → Has new h
found_all facts query new hits n whole are all h is = let (k, l, e) = are.complete h is in subst (Has new) e (all k h (omega arith))

-- what is there besides is by this member
pub adds_hit : (facts : List Fact) (query : Query) (place : ℕ) (old mid new : List Support) (hits : List Hit) (n : ℕ) (hit : Hit) → n < length hits
    → hit ≡ get_or hits n hit → AreHits facts query hits → AddsOnly (IsHit facts query) place old mid → AddsOnly (λ h. h ≡ hit) place mid new
    → AddsOnly (IsHit facts query) place old new
adds_hit facts query place old mid new hits n hit inside at are first more =
    adds_more (IsHit facts query) place old mid new hit first (subst (IsHit facts query) (sym at) (are.each n hit inside)) more

-- ---- member by member

module _ (facts : List Fact) (members : List Member) where
  pub gathered_none : AreGathered facts members 0 []
  gathered_none = record { each = λ s there. absurd (Contains-nil s there); complete = λ i hit l m. absurd (omega arith) }

  module _ (place : ℕ) (m : Member) (old new : List Support) (at : slice_get members place ≡ Some m) (gathered : AreGathered facts members place old)
      (only : AddsOnly (IsHit facts m.query) place old new) where
    pub gathered_more : ((h : Hit) → IsHit facts m.query h → Has new h) → AreGathered facts members (place + 1) new
    gathered_more all = record { each = λ s there. by s (only.right s there); complete = λ i hit l w. found i hit l w (cases_eq i place) }
      where
        by : (s : Support) → Contains old s ⊎ ((s.member ≡ place) × IsHit facts m.query (pair_of s) × ¬ Has old (pair_of s)) → (s.member < place + 1)
            × IsLeastMember facts members s.tuple s.image s.member
        by s (inl there) = let w = gathered.each s there in (omega (arith, w.0), w.1)
        by s (inr (e, is, none)) =
            subst (λ (k : ℕ). (k < place + 1) × IsLeastMember facts members s.tuple s.image k) (sym e)
            (omega arith, record { matches = (m, at, is); least = λ i l w. none (gathered.complete i (pair_of s) l w) })

        found : (i : ℕ) (hit : Hit) → i < place + 1 → MatchesAt facts members hit.tuple hit.image i → (i ≡ place) ⊎ (i ≡ place → ⊥) → Has new hit
        found i hit l (m', at', is) (inl e) = all hit (subst (λ (x : Member). IsHit facts x.query hit)
            (some_inj (sym (subst (λ (k : ℕ). slice_get members k ≡ Some m') e at') ∙ at)) is)
        found i hit l w (inr ne) = has_kept old new only.kept hit (gathered.complete i hit (omega arith) w)

    pub too_many_gathered : (limit : ℕ) → HasMoreHits facts m.query limit ⊎ AreTooMany limit new → HasMorePairs facts members limit
    too_many_gathered limit (inl more) = record {
      items = more.items;
      each = λ k d l. (place, (m, at, more.each k d l));
      apart = more.apart;
      longer = more.longer;
    }
    too_many_gathered limit (inr more) = record {
      items = map pair_of new;
      each = All-map (λ (h : Hit). (i : ℕ) × MatchesAt facts members h.tuple h.image i) pair_of new
          (λ k d l. by (get_or new k d) (only.right (get_or new k d) (Contains-get_or new k d l)));
      apart = pairs_ascend new more.ordered;
      longer = omega (arith, more.longer, length-map new pair_of);
    }
      where
        by : (s : Support) → Contains old s ⊎ ((s.member ≡ place) × IsHit facts m.query (pair_of s) × ¬ Has old (pair_of s)) → (i : ℕ)
            × MatchesAt facts members s.tuple s.image i
        by s (inl there) = (s.member, (gathered.each s there).1.matches)
        by s (inr (e, is, none)) = (place, (m, at, is))

  pub supports_all : (place : ℕ) (keys supports : List Support) → place ≡ length members → supports ≡ keys → AreGathered facts members place keys
      → IsStrictlySortedBy support_cmp keys → AreSupports facts members supports
  supports_all place keys supports whole is gathered sorted = record {
    gathered = subst (AreGathered facts members (length members)) (sym is) (subst (λ (n : ℕ). AreGathered facts members n keys) whole gathered);
    ascending = subst (IsStrictlySortedBy support_cmp) (sym is) sorted;
  }
