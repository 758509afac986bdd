-- Literals joined to a resolvent, one at a time.
use Rattle.std.proofs.Common.{◌≡◌, ℕ, inl, inr, List, [], ◌∷◌, ◌++◌, Contains, subst}
use Rattle.std.proofs.lemmas.List.Elements.{Contains-append_left, Contains-append_right, Contains-append_cases, Contains-push_cases, Contains-get_or}
use Rattle.std.proofs.lemmas.List.Quantifiers.{all_pairs_push}
use Rattle.clause_meaning.proofs.Members.{Contains-nil, Contains-head}
use Rattle.cdcl_trail.specs.declared.trail_entry.TrailEntry.{TrailEntry}
use Rattle.clause_learning.specs.Resolving.{IsOpen, Joins}

pub Joins-none : (entries : List TrailEntry) (old : List ℕ) → Joins entries old [] old
Joins-none entries old = record {
  stays = λ k m. m;
  has = λ k m on. absurd (Contains-nil k m);
  from = λ k m. inl m;
  once = λ h. h;
}

-- one that is added
pub Joins-pushed : (entries : List TrailEntry) (old : List ℕ) (l : ℕ) → (Contains old l → ⊥) → IsOpen entries l → Joins entries old (l ∷ []) (old ++ l ∷ [])
Joins-pushed entries old l new fresh = record {
  stays = λ k m. Contains-append_left old (l ∷ []) k m;
  has = λ k m on. inl (Contains-append_right old (l ∷ []) k m);
  from = λ k m. elim (Contains-push_cases old l k m) [
    | inl was ↦ inl was
    | inr e ↦ inr (Contains-head l [] k e, subst (IsOpen entries) e fresh)
  ];
  once = λ o. all_pairs_push (λ (x y : ℕ). x ≡ y → ⊥) old l o (λ k d p e. new (subst (Contains old) e (Contains-get_or old k d p)));
}

-- first some literals and then others
pub Joins-append : (entries : List TrailEntry) (old first middle second new : List ℕ) → Joins entries old first middle → Joins entries middle second new
    → Joins entries old (first ++ second) new
Joins-append entries old first middle second new a b = record {
  stays = λ k m. b.stays k (a.stays k m);
  has = λ k m on. elim (Contains-append_cases first second k m) [
    | inl p ↦ elim (a.has k p on) [ inl q ↦ inl (b.stays k q) | inr fixed ↦ inr fixed ]
    | inr p ↦ b.has k p on
  ];
  from = λ k m. elim (b.from k m) [
    | inl p ↦ elim (a.from k p) [ inl q ↦ inl q | inr (q, fresh) ↦ inr (Contains-append_left first second k q, fresh) ]
    | inr (q, fresh) ↦ inr (Contains-append_right first second k q, fresh)
  ];
  once = λ o. b.once (a.once o);
}
