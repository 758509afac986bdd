-- Groups of supports: those of one tuple, and what is picked from them.
use Rattle.std.proofs.Common.{◌≡◌, ◌≢◌, ℕ, zero, suc, ◌+◌, ◌<◌, List, [], ◌∷◌, ◌++◌, length, get_or, map, take, drop, All, Contains, ◌⊎◌, inl, inr, refl, sym}
use Rattle.std.proofs.Common.{ap, ◌∙◌, subst, arith}
use Rattle.std.specs.Ordering.{nat_cmp, ordering_then}
use Rattle.std.specs.declared.cmp.Ordering.{Ordering}
use Rattle.std.specs.declared.cmp.Ordering.TheVariants.{Less, Equal, Greater}
use Rattle.std.specs.Cmp.Lexicographic.{slice_cmp, nat_list_cmp_total}
use Rattle.std.specs.List.Sorted.{IsStrictlySortedBy}
use Rattle.std.proofs.lemmas.Cmp.{tied_itself}
use Rattle.std.proofs.lemmas.List.{take_more, get_or_default, map-append, take-append-drop}
use Rattle.std.proofs.lemmas.List.Quantifiers.{all_pairs_push}
use Rattle.std.proofs.lemmas.Map.Keys.{Less-from_sorted}
use Rattle.std.proofs.lemmas.List.Elements.{All-contains, Contains-get_or}
use Rattle.cq_terms.specs.declared.hits.Clash.{Clash}
use Rattle.cq_meaning.proofs.Ascending.{All-of}
use Rattle.cq_meaning.proofs.Members.{Contains-head, Contains-later, Contains-cases, Contains-nil}
use Rattle.cq_meaning.proofs.Listed.{append_left, append_right, append_cases}
use Rattle.cause_finder.specs.declared.candidate.Candidate.{Candidate}
use Rattle.cause_finder.specs.declared.support.Support.{Support}
use Rattle.cause_finder.specs.Supports.{support_cmp}
use Rattle.cause_finder.specs.Groups.{IsFree, HasNoPart, ArePicked, ArePickedBy, IsPickedFrom, AreGrouped}
use Rattle.cause_finder.proofs.SmallerLemmas.{taken, sorted_left}
use Rattle.cause_finder.proofs.SupportLemmas.{sorted_head, sorted_tail, numbers_same}

-- ---- tuples in order

-- the tuple is less than that of the support
abbrev pub IsBelow : List ℕ → Support → Type 0
IsBelow t s = slice_cmp nat_cmp t s.tuple ≡ Less

-- of supports in order, the tuples don't fall
pub tuple_rises : (s r : Support) → support_cmp s r ≡ Less → IsBelow s.tuple r ⊎ (s.tuple ≡ r.tuple)
tuple_rises s r less = by (slice_cmp nat_cmp s.tuple r.tuple) refl less
  where
    by : (o : Ordering) → slice_cmp nat_cmp s.tuple r.tuple ≡ o → ordering_then o (slice_cmp nat_cmp s.image r.image) ≡ Less → IsBelow s.tuple r
        ⊎ (s.tuple ≡ r.tuple)
    by Less is e = inl is
    by Equal is e = inr (numbers_same s.tuple r.tuple is)
    by Greater is e = cc

-- below a support is below each one after it
below_later : (t : List ℕ) (s r : Support) → IsBelow t s → support_cmp s r ≡ Less → IsBelow t r
below_later t s r less after = elim (tuple_rises s r after) [
  | inl h ↦ nat_list_cmp_total.trans t s.tuple r.tuple less h
  | inr e ↦ subst (λ (u : List ℕ). slice_cmp nat_cmp t u ≡ Less) e less
]

within : (n : ℕ) (xs : List Support) (r : Support) → Contains (drop n xs) r → Contains xs r
within zero xs r c = c
within (suc n) [] r c = c
within (suc n) (x ∷ xs) r c = Contains-later x xs r (within n xs r c)

-- behind the first support of another tuple, all are above
pub above_behind : (f : Support) (more : List Support) (n : ℕ) → IsStrictlySortedBy support_cmp (f ∷ more)
    → ((d : Support) → n < length more → (get_or more n d).tuple ≢ f.tuple) → (r : Support) → Contains (drop n more) r → IsBelow f.tuple r
above_behind f [] zero sorted other r there = absurd (Contains-nil r there)
above_behind f [] (suc n) sorted other r there = absurd (Contains-nil r there)
above_behind f (x ∷ xs) zero sorted other r there = elim (tuple_rises f x (sorted_head f (x ∷ xs) sorted x (Contains-head x xs))) [
  | inr e ↦ absurd (other x (omega arith) (sym e))
  | inl less ↦ elim (Contains-cases x xs r there) [
    | inl e ↦ subst (IsBelow f.tuple) e less
    | inr c ↦ below_later f.tuple x r less (sorted_head x xs (sorted_tail f (x ∷ xs) sorted) r c)
  ]
]
above_behind f (x ∷ xs) (suc n) sorted other r there = elim (tuple_rises f x (sorted_head f (x ∷ xs) sorted x (Contains-head x xs))) [
  | inl less ↦ below_later f.tuple x r less (sorted_head x xs (sorted_tail f (x ∷ xs) sorted) r (within n xs r there))
  | inr e ↦ subst (λ (t : List ℕ). slice_cmp nat_cmp t r.tuple ≡ Less) (sym e)
      (above_behind x xs n (sorted_tail f (x ∷ xs) sorted) (λ d l h. other d (omega arith) (h ∙ sym e)) r there)
]

-- ---- picking from a group

module _ (P : Support → Type 0) where
  pub picked_none : ArePickedBy P [] []
  picked_none = record { each = λ s c. absurd (Contains-nil s c); complete = λ s c p. absurd (Contains-nil s c); ascending = λ i j d l w. absurd (omega arith) }

  pub picked_more : (xs picked : List Support) (x : Support) → ((s : Support) → Contains xs s → support_cmp s x ≡ Less) → P x → ArePickedBy P xs picked
      → ArePickedBy P (xs ++ x ∷ []) (picked ++ x ∷ [])
  picked_more xs picked x before p so_far = record {
    each = λ s c. elim (append_cases picked (x ∷ []) s c) [
      | inl d ↦ let w = so_far.each s d in (append_left xs (x ∷ []) s w.0, w.1)
      | inr d ↦ elim (Contains-cases x [] s d) [ inl e ↦ (append_right xs (x ∷ []) s d, subst P e p) | inr z ↦ absurd (Contains-nil s z) ]
    ];
    complete = λ s c q. elim (append_cases xs (x ∷ []) s c) [
      | inl d ↦ append_left picked (x ∷ []) s (so_far.complete s d q)
      | inr d ↦
          append_right picked (x ∷ []) s d
    ];
    ascending = all_pairs_push (λ (s r : Support). support_cmp s r ≡ Less) picked x so_far.ascending
        (λ k d l. before (get_or picked k d) (so_far.each (get_or picked k d) (Contains-get_or picked k d l)).0);
  }

  pub picked_same : (xs picked : List Support) (x : Support) → (P x → ⊥) → ArePickedBy P xs picked → ArePickedBy P (xs ++ x ∷ []) picked
  picked_same xs picked x out so_far = record {
    each = λ s c. let w = so_far.each s c in (append_left xs (x ∷ []) s w.0, w.1);
    complete = λ s c q. elim (append_cases xs (x ∷ []) s c) [
      | inl d ↦ so_far.complete s d q
      | inr d ↦ elim (Contains-cases x [] s d) [ inl e ↦ absurd (out (subst P (sym e) q)) | inr z ↦ absurd (Contains-nil s z) ]
    ];
    ascending = so_far.ascending;
  }

-- the next support of a group
next_taken : (group : List Support) (n : ℕ) (x : Support) → n < length group → x ≡ get_or group n x → take (n + 1) group ≡ take n group ++ x ∷ []
next_taken group n x inside at = take_more group n x inside ∙ ap (λ (y : Support). take n group ++ y ∷ []) (sym at)

module _ (P : Support → Type 0) (group picked : List Support) (n : ℕ) (x : Support) (inside : n < length group) (at : x ≡ get_or group n x)
    (so_far : ArePickedBy P (take n group) picked) where
  pub picked_next : IsStrictlySortedBy support_cmp group → P x → ArePickedBy P (take (n + 1) group) (picked ++ x ∷ [])
  picked_next sorted p = subst (λ (xs : List Support). ArePickedBy P xs (picked ++ x ∷ [])) (sym (next_taken group n x inside at))
      (picked_more P (take n group) picked x before p so_far)
    where
      before : (s : Support) → Contains (take n group) s → support_cmp s x ≡ Less
      before s c = taken (λ (r : Support). support_cmp r x ≡ Less) n group
          (λ k d l m. subst (λ (y : Support). support_cmp (get_or group k d) y ≡ Less) (get_or_default group n d x inside ∙ sym at)
          (Less-from_sorted support_cmp group k n d sorted l inside)) s c

  pub picked_not : (P x → ⊥) → ArePickedBy P (take (n + 1) group) picked
  picked_not out = subst (λ (xs : List Support). ArePickedBy P xs picked) (sym (next_taken group n x inside at))
      (picked_same P (take n group) picked x out so_far)

pub mapped_next : {Y : Type 0} (f : Support → Y) (picked : List Support) (x : Support) (old new : List Y) (y : Y) → old ≡ map f picked → new ≡ old ++ y ∷ []
    → y ≡ f x → new ≡ map f (picked ++ x ∷ [])
mapped_next f picked x old new y old_is new_is y_is = new_is ∙ ap (λ (ys : List _). ys ++ y ∷ []) old_is ∙ ap (λ (z : _). map f picked ++ z ∷ []) y_is
    ∙ sym (map-append f picked (x ∷ []))

-- all of a group
pub picked_all : (clashes : List Clash) (group : List Support) (tuple : List ℕ) (picked : List Support) → All (λ s. s.tuple ≡ tuple) group
    → ArePickedBy (λ s. IsFree clashes s.image × HasNoPart group s.image) group picked → ArePicked clashes group tuple picked
picked_all clashes group tuple picked same so_far = record {
  each = λ s c. let w = so_far.each s c in record {
    there = w.0;
    same = All-contains (λ (x : Support). x.tuple ≡ tuple) group s same w.0;
    free =
        w.1.0;
    least = λ r d e part. All-contains (λ (x : Support). All (Contains s.image) x.image → x.image ≡ s.image) group r w.1.1 d part;
  };
  complete = λ s p. so_far.complete s p.there (p.free, (λ k d l part. p.least (get_or group k d) (Contains-get_or group k d l) (same k d l) part));
  ascending = so_far.ascending;
}

-- what is picked depends on the supports of the tuple alone
pub picked_among : (clashes : List Clash) (xs ys : List Support) (c : Candidate) → ((s : Support) → s.tuple ≡ c.tuple → Contains xs s → Contains ys s)
    → ((s : Support) → s.tuple ≡ c.tuple → Contains ys s → Contains xs s) → IsPickedFrom clashes xs c → IsPickedFrom clashes ys c
picked_among clashes xs ys c there back (picked, are, causes, members) = (
  picked,
  record {
    each = λ s k. let w = are.each s k in record {
      there = there s w.same w.there;
      same = w.same;
      free = w.free;
      least =
          λ r d e part. w.least r (back r e d) e part;
    };
    complete = λ s p. are.complete s (record {
      there = back s p.same p.there;
      same = p.same;
      free = p.free;
      least =
          λ r d e part. p.least r (there r e d) e part;
    });
    ascending = are.ascending;
  },
  causes,
  members,
)

-- ---- group by group

-- the candidates of what stands before the rest, whose tuples are all above
pub record AreDone (clashes : List Clash) (supports rest : List Support) (candidates : List Candidate) : Type 0 where
  pub done : List Support
  pub whole : supports ≡ done ++ rest
  pub grouped : AreGrouped clashes done candidates
  pub above : (s r : Support) → Contains done s → Contains rest r → IsBelow s.tuple r
  pub sorted : IsStrictlySortedBy support_cmp rest

pub done_first : (clashes : List Clash) (supports : List Support) → IsStrictlySortedBy support_cmp supports → AreDone clashes supports supports []
done_first clashes supports sorted = record {
  done = [];
  whole = refl;
  grouped = record {
    each = λ c k. absurd (Contains-nil c k);
    complete = λ s k. absurd (Contains-nil s k);
    ascending = λ i j d l w. absurd (omega arith);
    picked = λ c k. absurd (Contains-nil c k);
  };
  above = λ s r k. absurd (Contains-nil s k);
  sorted = sorted;
}

irreflexive : (t : List ℕ) → slice_cmp nat_cmp t t ≡ Less → ⊥
irreflexive t e = let f = tied_itself nat_list_cmp_total t in cc (e, f)

take_drop : (n : ℕ) (xs : List Support) → xs ≡ take n xs ++ drop n xs
take_drop zero xs = refl
take_drop (suc n) [] = refl
take_drop (suc n) (x ∷ xs) = ap (λ (ys : List Support). x ∷ ys) (take_drop n xs)

sorted_drop : (n : ℕ) (xs : List Support) → IsStrictlySortedBy support_cmp xs → IsStrictlySortedBy support_cmp (drop n xs)
sorted_drop zero xs h = h
sorted_drop (suc n) [] h = h
sorted_drop (suc n) (x ∷ xs) h = sorted_drop n xs (sorted_tail x xs h)

append_assoc : (xs ys zs : List Support) → xs ++ (ys ++ zs) ≡ (xs ++ ys) ++ zs
append_assoc [] ys zs = refl
append_assoc (x ∷ xs) ys zs = ap (λ (us : List Support). x ∷ us) (append_assoc xs ys zs)

module _ (clashes : List Clash) (supports : List Support) (f : Support) (more : List Support) (n : ℕ) (candidates : List Candidate) (c : Candidate)
    (before : AreDone clashes supports (f ∷ more) candidates)
    (same : All (λ s. s.tuple ≡ f.tuple) (take n more)) (other : (d : Support) → n < length more → (get_or more n d).tuple ≢ f.tuple)
    (tuple : c.tuple ≡ f.tuple) (picked : IsPickedFrom clashes (f ∷ take n more) c) where
  of_tuple : (s : Support) → Contains (f ∷ take n more) s → s.tuple ≡ f.tuple
  of_tuple s k = elim (Contains-cases f (take n more) s k) [
    | inl e ↦ sym (ap (λ (x : Support). x.tuple) e)
    | inr d ↦
        All-contains (λ (x : Support). x.tuple ≡ f.tuple) (take n more) s same d
  ]

  below : (s : Support) → Contains before.done s → IsBelow s.tuple f
  below s k = before.above s f k (Contains-head f more)

  grouped : AreGrouped clashes (before.done ++ (f ∷ take n more)) (candidates ++ c ∷ [])
  grouped = record {
    each = λ a k. elim (append_cases candidates (c ∷ []) a k) [
      | inl d ↦ let w = before.grouped.each a d in (w.0, append_left before.done (f ∷ take n more) w.0 w.1, w.2)
      | inr d ↦ elim (Contains-cases c [] a d) [
        | inl e ↦ (
          f,
          append_right before.done (f ∷ take n more) f (Contains-head f (take n more)),
          sym tuple
              ∙ ap (λ (x : Candidate). x.tuple) e,
        )
        | inr z ↦ absurd (Contains-nil a z)
      ]
    ];
    complete = λ s k. elim (append_cases before.done (f ∷ take n more) s k) [
      | inl d ↦ let w = before.grouped.complete s d in (w.0, append_left candidates (c ∷ []) w.0 w.1, w.2)
      | inr d ↦ (c, append_right candidates (c ∷ []) c (Contains-head c []), tuple ∙ sym (of_tuple s d))
    ];
    ascending = all_pairs_push (λ (a b : Candidate). slice_cmp nat_cmp a.tuple b.tuple ≡ Less) candidates c before.grouped.ascending
        (λ k d l. under (get_or candidates k d) (Contains-get_or candidates k d l));
    picked = λ a k. elim (append_cases candidates (c ∷ []) a k) [
      | inl d ↦ picked_among clashes before.done (before.done ++ (f ∷ take n more)) a (λ s e m. append_left before.done (f ∷ take n more) s m)
          (λ s e m. elim (append_cases before.done (f ∷ take n more) s m) [
            | inl g ↦ g
            | inr g ↦ absurd (let h = under a d in irreflexive f.tuple (subst (λ (t : List ℕ). slice_cmp nat_cmp t f.tuple ≡ Less) (sym e ∙ of_tuple s g)
                (subst (λ (t : List ℕ). slice_cmp nat_cmp a.tuple t ≡ Less) tuple h)))
          ]) (before.grouped.picked a d)
      | inr d ↦ elim (Contains-cases c [] a d) [
        | inl e ↦ subst (IsPickedFrom clashes (before.done ++ (f ∷ take n more))) e
            (picked_among clashes (f ∷ take n more) (before.done ++ (f ∷ take n more)) c (λ s h m. append_right before.done (f ∷ take n more) s m)
            (λ s h m. elim (append_cases before.done (f ∷ take n more) s m) [
              | inl g ↦ absurd (irreflexive f.tuple (subst (λ (t : List ℕ). slice_cmp nat_cmp t f.tuple ≡ Less) (h ∙ tuple) (below s g)))
              | inr g ↦ g
            ]) picked)
        | inr z ↦ absurd (Contains-nil a z)
      ]
    ];
  }
    where
      under : (a : Candidate) → Contains candidates a → slice_cmp nat_cmp a.tuple c.tuple ≡ Less
      under a k =
          let w = before.grouped.each a k in
          subst (λ (t : List ℕ). slice_cmp nat_cmp t c.tuple ≡ Less) w.2
          (subst (λ (t : List ℕ). slice_cmp nat_cmp w.0.tuple t ≡ Less) (sym tuple) (below w.0 w.1))

  pub done_more : AreDone clashes supports (drop n more) (candidates ++ c ∷ [])
  done_more = record {
    done = before.done ++ (f ∷ take n more);
    whole = before.whole ∙ ap (λ (ys : List Support). before.done ++ (f ∷ ys)) (take_drop n more) ∙ append_assoc before.done (f ∷ take n more) (drop n more);
    grouped = grouped;
    above = λ s r k m. elim (append_cases before.done (f ∷ take n more) s k) [
      | inl d ↦ before.above s r d (Contains-later f more r (within n more r m))
      | inr d ↦ subst (λ (t : List ℕ). slice_cmp nat_cmp t r.tuple ≡ Less) (sym (of_tuple s d)) (above_behind f more n before.sorted other r m)
    ];
    sorted = sorted_drop n more (sorted_tail f more before.sorted);
  }

-- what holds of all supports holds of the first of the rest
pub all_of_group : (P : Support → Type 0) (clashes : List Clash) (supports rest : List Support) (candidates : List Candidate) (n : ℕ) (group : List Support)
    → group ≡ take n rest → AreDone clashes supports rest candidates → All P supports → All P group
all_of_group P clashes supports rest candidates n group is before all = All-of P group (λ s c. All-contains P supports s all (
    subst (λ (xs : List Support). Contains xs s) (sym before.whole)
    (append_right before.done rest s (subst (λ (xs : List Support). Contains xs s) (take-append-drop n rest)
    (append_left (take n rest) (drop n rest) s (subst (λ (xs : List Support). Contains xs s) is c))))
    ))

pub group_sorted : (clashes : List Clash) (supports rest : List Support) (candidates : List Candidate) (n : ℕ) (group : List Support) → group ≡ take n rest
    → AreDone clashes supports rest candidates → IsStrictlySortedBy support_cmp group
group_sorted clashes supports rest candidates n group is before =
    subst (IsStrictlySortedBy support_cmp) (sym is) (sorted_left support_cmp (take n rest) (drop n rest)
    (subst (IsStrictlySortedBy support_cmp) (sym (take-append-drop n rest)) before.sorted))

-- a group that was cut off the rest, and its candidate
pub group_done : (clashes : List Clash) (supports rest group others : List Support) (f : Support) (more : List Support) (n : ℕ) (tuple : List ℕ)
    (candidates new : List Candidate) (c : Candidate)
    → rest ≡ f ∷ more → group ≡ take (1 + n) rest → others ≡ drop (1 + n) rest → new ≡ candidates ++ c ∷ [] → tuple ≡ f.tuple
    → AreDone clashes supports rest candidates → All (λ s. s.tuple ≡ tuple) (take n more)
    → ((d : Support) → n < length more → (get_or more n d).tuple ≢ tuple) → c.tuple ≡ tuple → IsPickedFrom clashes group c
    → AreDone clashes supports others new
group_done clashes supports rest group others f more n tuple candidates new c cut group_is others_is new_is tuple_is before same other c_tuple picked =
    let counted : 1 + n ≡ suc n = omega arith in
    let group_cut : group ≡ f ∷ take n more = group_is ∙ ap (λ (k : ℕ). take k rest) counted ∙ ap (λ (xs : List Support). take (suc n) xs) cut in
    let others_cut : others ≡ drop n more = others_is ∙ ap (λ (k : ℕ). drop k rest) counted ∙ ap (λ (xs : List Support). drop (suc n) xs) cut in
    subst (λ (xs : List Support). AreDone clashes supports xs new) (sym others_cut)
    (subst (λ (xs : List Candidate). AreDone clashes supports (drop n more) xs) (sym new_is)
    (done_more clashes supports f more n candidates c (subst (λ (xs : List Support). AreDone clashes supports xs candidates) cut before)
    (subst (λ (t : List ℕ). All (λ (s : Support). s.tuple ≡ t) (take n more)) tuple_is same)
    (subst (λ (t : List ℕ). (d : Support) → n < length more → (get_or more n d).tuple ≢ t) tuple_is other)
    (c_tuple ∙ tuple_is)
    (subst (λ (xs : List Support). IsPickedFrom clashes xs c) group_cut picked)))
