-- A set of facts by its keys: look-ups, one more fact, that no fact comes twice, and facts in both of two lists.
use Rattle.std.proofs.Common.{◌≡◌, ◌≢◌, ◌<◌, ◌≤◌, inl, inr, ℕ, true, List, [], ◌∷◌, length, get_or, eqb, refl, sym, ◌∙◌, subst, arith, Contains, true≢false}
use Rattle.std.proofs.Common.{eqb-true}
use Rattle.std.specs.List.{AllPairs, IsDistinct, list_any}
use Rattle.std.proofs.lemmas.Bool.{cases_Bool, eq-eqb}
use Rattle.std.proofs.lemmas.List.{append-nil, get_or_default}
use Rattle.std.proofs.lemmas.List.Elements.{Contains-get_or, Contains-push}
use Rattle.std.proofs.lemmas.List.Folds.{list_any_at}
use Rattle.std.proofs.lemmas.Map.Keys.{apart_from_distinct}
use Rattle.indexmap.specs.IndexSet.{insert_key}
use Rattle.indexmap.proofs.CallerLemmas.{Contains-list_any}
use Rattle.cq_meaning.proofs.Members.{Contains-nil, Contains-cases}
use Rattle.explainer.specs.Sets.{Gains, Meets}

same_number : (x y : ℕ) → eqb x y ≡ true → x ≡ y
same_number x y t = eqb-true x y t

-- the look-up of a member
pub found_there : (keys : List ℕ) (fact : ℕ) → list_any (eqb fact) keys ≡ true → Contains keys fact
found_there keys fact t = Contains-list_any eqb same_number keys fact t

pub there_found : (keys : List ℕ) (fact : ℕ) → Contains keys fact → list_any (eqb fact) keys ≡ true
there_found keys fact (k, l, e) = list_any_at (eqb fact) keys k fact l (eq-eqb fact _ (sym e))

-- one more fact
pub gains_insert : (keys : List ℕ) (fact : ℕ) → Gains fact keys (insert_key eqb keys fact)
gains_insert keys fact = elim (cases_Bool (list_any (eqb fact) keys)) [
  | inl t ↦ rw t (record { more = []; grown = sym (append-nil keys); of = λ i m. absurd (Contains-nil i m); has = found_there keys fact t })
  | inr f ↦ rw f (record {
    more = fact ∷ [];
    grown = refl;
    of = λ i m. elim (Contains-cases fact [] i m) [ inl e ↦ sym e | inr n ↦ absurd (Contains-nil i n) ];
    has = Contains-push keys fact;
  })
]

-- no fact comes twice
pub distinct_once : (keys : List ℕ) → IsDistinct eqb keys → AllPairs (λ i j. i ≢ j) keys
distinct_once keys d i j z l m e = true≢false (sym (eq-eqb (get_or keys i z) (get_or keys j z) e) ∙ apart_from_distinct eqb keys i j z d l m)

-- a fact in both lists, and none
pub meets_at : (facts others : List ℕ) (k : ℕ) → k < length facts → Contains others (get_or facts k 0) → Meets facts others
meets_at facts others k l m = (get_or facts k 0, Contains-get_or facts k 0 l, m)

pub meets_none : (facts others : List ℕ) (k : ℕ) → length facts ≤ k → ((m : ℕ) → m < k → ¬ Contains others (get_or facts m 0)) → ¬ Meets facts others
meets_none facts others k l h (i, (m, n, e), there) = h m (omega arith) (subst (Contains others) (sym (get_or_default facts m 0 i n ∙ e)) there)
