-- The counted rounds reach a query that neither step changes.
use Rattle.std.proofs.Common.{◌≡◌, ℕ, zero, suc, ◌<◌, ◌≤◌, ◌⊎◌, inl, inr, List, [], ◌∷◌, length, map, filter, refl, sym, subst, ap, ◌∙◌, arith, Bool, true}
use Rattle.std.proofs.Common.{false, not, cond, ◌==◌, ◌&&◌, eqb-true, eq-eqb, true≢false, slice_get, Some}
use Rattle.std.proofs.lemmas.Bool.{cases_Bool}
use Rattle.cq_terms.specs.declared.query.Term.{Term}
use Rattle.cq_terms.specs.declared.query.Term.TheVariants.{Var, Ind, Any}
use Rattle.cq_terms.specs.declared.query.QAtom.{QAtom}
use Rattle.cq_terms.specs.declared.query.QAtom.TheVariants as atom
use Rattle.cq_terms.specs.Query.{Query}
use Rattle.cq_meaning.specs.NormalForm.{map_atom, same_term, same_atom, distinct_atoms, times_in_term, times_in_head, times_in_body, is_unbound}
use Rattle.cq_meaning.specs.NormalForm.{unbound_to_any, with_unbound_any, simplified, Simplifies}
use Rattle.cq_meaning.proofs.Places.{some_inj}
use Rattle.cq_meaning.proofs.Joined.{IsCounted, with_unbound_any_counted, unbound_term_gone, count_zero}
use Rattle.cq_meaning.proofs.Extension.{and_both}

-- one round of both steps
abbrev pub round : Query → Query
round q = with_unbound_any (record { head = q.head; body = distinct_atoms q.body })

-- ---- lengths

pub filter_least : {A : Type 0} (p : A → Bool) (xs : List A) → length (filter p xs) ≤ length xs
filter_least p [] = omega arith
filter_least {A} p (x ∷ xs) = go (p x) (filter_least p xs)
  where
    go : (b : Bool) → length (filter p xs) ≤ length xs → length (cond b (x ∷ filter p xs) (filter p xs)) ≤ suc (length xs)
    go true h = omega arith
    go false h = omega arith

pub filter_cases : {A : Type 0} (p : A → Bool) (xs : List A) → (filter p xs ≡ xs) ⊎ (length (filter p xs) < length xs)
filter_cases p [] = inl refl
filter_cases {A} p (x ∷ xs) = go (p x) (filter_cases p xs)
  where
    go : (b : Bool) → (filter p xs ≡ xs) ⊎ (length (filter p xs) < length xs) → (cond b (x ∷ filter p xs) (filter p xs) ≡ x ∷ xs)
        ⊎ (length (cond b (x ∷ filter p xs) (filter p xs)) < suc (length xs))
    go true (inl e) = inl (ap (λ (l : List A). x ∷ l) e)
    go true (inr l) = inr (omega arith)
    go false h = inr (let m = filter_least p xs in omega arith)

pub distinct_cases : (xs : List QAtom) → (distinct_atoms xs ≡ xs) ⊎ (length (distinct_atoms xs) < length xs)
distinct_cases [] = inl refl
distinct_cases (a ∷ xs) = go (distinct_cases xs) (filter_cases (λ b. not (same_atom a b)) (distinct_atoms xs))
  where
    go : (distinct_atoms xs ≡ xs) ⊎ (length (distinct_atoms xs) < length xs) → (filter (λ b. not (same_atom a b)) (distinct_atoms xs) ≡ distinct_atoms xs)
        ⊎ (length (filter (λ b. not (same_atom a b)) (distinct_atoms xs)) < length (distinct_atoms xs))
        → (distinct_atoms (a ∷ xs) ≡ a ∷ xs) ⊎ (length (distinct_atoms (a ∷ xs)) < length (a ∷ xs))
    go (inl e) (inl d) = inl (ap (λ (l : List QAtom). a ∷ l) (d ∙ e))
    go (inl e) (inr l) = let m = ap length e in inr (omega arith)
    go (inr l) (inl d) = let m = ap length d in inr (omega arith)
    go (inr l) (inr k) = inr (omega arith)

pub length_map : {A B : Type 0} (f : A → B) (xs : List A) → length (map f xs) ≡ length xs
length_map f [] = refl
length_map f (x ∷ xs) = ap suc (length_map f xs)

-- ---- where no variable is unbound, nothing becomes `_`

times_in_self : (l : ℕ) → times_in_term l (Var l) ≡ 1
times_in_self l = ap (λ b. cond b 1 0) (eq-eqb l l refl)

counted_not_unbound : (q : Query) → IsCounted q → (l : ℕ) → 0 < times_in_body l q.body → is_unbound q l ≡ false
counted_not_unbound q c l pos = go (cases_Bool (is_unbound q l)) (c l pos)
  where
    go : (is_unbound q l ≡ true) ⊎ (is_unbound q l ≡ false) → (0 < times_in_head l q.head) ⊎ (1 < times_in_body l q.body) → is_unbound q l ≡ false
    go (inr f) w = f
    go (inl t) w = let u = and_both (times_in_head l q.head == 0) (times_in_body l q.body == 1) t in
        no (eqb-true (times_in_head l q.head) 0 u.0) (eqb-true (times_in_body l q.body) 1 u.1) w
      where
        no : times_in_head l q.head ≡ 0 → times_in_body l q.body ≡ 1 → (0 < times_in_head l q.head) ⊎ (1 < times_in_body l q.body) → is_unbound q l ≡ false
        no h b (inl p) = absurd (omega arith)
        no h b (inr p) = absurd (omega arith)

unbound_term_same : (q : Query) (t : Term) → ((l : ℕ) → 0 < times_in_term l t → is_unbound q l ≡ false) → unbound_to_any q t ≡ t
unbound_term_same q (Ind c) h = refl
unbound_term_same q Any h = refl
unbound_term_same q (Var l) h = ap (λ b. cond b Any (Var l)) (h l (let e = times_in_self l in omega arith))

unbound_body_same : (q : Query) (body : List QAtom) → ((l : ℕ) → 0 < times_in_body l body → is_unbound q l ≡ false)
    → map (map_atom (unbound_to_any q)) body ≡ body
unbound_body_same q [] h = refl
unbound_body_same q (atom.Concept p t ∷ body) h =
    let e = unbound_term_same q t (λ l k. h l (omega arith)) in
    let d = unbound_body_same q body (λ l k. h l (omega arith)) in
    ap (λ (s : Term). atom.Concept p s ∷ map (map_atom (unbound_to_any q)) body) e ∙ ap (λ (b : List QAtom). atom.Concept p t ∷ b) d
unbound_body_same q (atom.Link p s t ∷ body) h =
    let e = unbound_term_same q s (λ l k. h l (omega arith)) in
    let e' = unbound_term_same q t (λ l k. h l (omega arith)) in
    let d = unbound_body_same q body (λ l k. h l (omega arith)) in
    ap (λ (u : Term). atom.Link p u (unbound_to_any q t) ∷ map (map_atom (unbound_to_any q)) body) e
    ∙ (ap (λ (u : Term). atom.Link p s u ∷ map (map_atom (unbound_to_any q)) body) e' ∙ ap (λ (b : List QAtom). atom.Link p s t ∷ b) d)

pub with_unbound_any_same : (q : Query) → IsCounted q → with_unbound_any q ≡ q
with_unbound_any_same q c = ap (λ (b : List QAtom). record { head = q.head; body = b }) (unbound_body_same q q.body (counted_not_unbound q c))

-- ---- the rounds settle

pub stays : (n : ℕ) (q : Query) → round q ≡ q → simplified n q ≡ q
stays zero q e = refl
stays (suc n) q e = ap (simplified n) e ∙ stays n q e

same_or_less : (q : Query) → IsCounted q → (round q ≡ q) ⊎ (length (round q).body < length q.body)
same_or_less q c = go (distinct_cases q.body)
  where
    go : (distinct_atoms q.body ≡ q.body) ⊎ (length (distinct_atoms q.body) < length q.body) → (round q ≡ q) ⊎ (length (round q).body < length q.body)
    go (inl e) = inl (ap (λ (b : List QAtom). with_unbound_any (record { head = q.head; body = b })) e ∙ with_unbound_any_same q c)
    go (inr l) = let m = length_map (map_atom (unbound_to_any (record { head = q.head; body = distinct_atoms q.body }))) (distinct_atoms q.body) in
        inr (omega arith)

settle : (n : ℕ) (q : Query) → IsCounted q → length q.body ≤ n → round (simplified n q) ≡ simplified n q
settle zero q c l = go (same_or_less q c)
  where
    go : (round q ≡ q) ⊎ (length (round q).body < length q.body) → round q ≡ q
    go (inl e) = e
    go (inr k) = absurd (omega arith)
settle (suc n) q c l = go (same_or_less q c) (λ k. settle n (round q) (with_unbound_any_counted (record { head = q.head; body = distinct_atoms q.body })) k)
  where
    go : (round q ≡ q) ⊎ (length (round q).body < length q.body) → (length (round q).body ≤ n → round (simplified n (round q)) ≡ simplified n (round q))
        → round (simplified (suc n) q) ≡ simplified (suc n) q
    go (inl e) again = let s = stays (suc n) q e in ap round s ∙ (e ∙ sym s)
    go (inr k) again = again (omega arith)

-- the counted rounds of the normal form end at a query that a further round leaves as it is
pub rounds_settle : (q : Query) → round (simplified (suc (length q.body)) q) ≡ simplified (suc (length q.body)) q
rounds_settle q = settle (length q.body) (round q) (with_unbound_any_counted (record { head = q.head; body = distinct_atoms q.body }))
    (go (distinct_cases q.body))
  where
    go : (distinct_atoms q.body ≡ q.body) ⊎ (length (distinct_atoms q.body) < length q.body) → length (round q).body ≤ length q.body
    go (inl e) = let m = length_map (map_atom (unbound_to_any (record { head = q.head; body = distinct_atoms q.body }))) (distinct_atoms q.body) in let d =
        ap length e in omega arith
    go (inr l) = let m = length_map (map_atom (unbound_to_any (record { head = q.head; body = distinct_atoms q.body }))) (distinct_atoms q.body) in omega arith

-- ---- such a query is changed by no step

filter_all : {A : Type 0} (p : A → Bool) (xs : List A) → filter p xs ≡ xs → (i : ℕ) (x : A) → slice_get xs i ≡ Some x → p x ≡ true
filter_all p [] e i x g = absurd (cc)
filter_all {A} p (y ∷ ys) e i x g = go (p y) refl e i g (λ d j h. filter_all p ys d j x h)
  where
    go : (b : Bool) → p y ≡ b → cond b (y ∷ filter p ys) (filter p ys) ≡ y ∷ ys → (i : ℕ) → slice_get (y ∷ ys) i ≡ Some x
        → (filter p ys ≡ ys → (j : ℕ) → slice_get ys j ≡ Some x → p x ≡ true) → p x ≡ true
    go true t e zero g again = subst (λ z. p z ≡ true) (some_inj g) t
    go true t e (suc i) g again = let d : filter p ys ≡ ys = cc in again d i g
    go false t e i g again = let m = filter_least p ys in let d = ap length e in absurd (omega arith)

pub same_self : (a : QAtom) → same_atom a a ≡ true
same_self (atom.Concept p t) = go (p == p) (eq-eqb p p refl) (same_term t t) (term t)
  where
    term : (t : Term) → same_term t t ≡ true
    term (Var i) = eq-eqb i i refl
    term (Ind c) = eq-eqb c c refl
    term Any = refl

    go : (x : Bool) → x ≡ true → (y : Bool) → y ≡ true → (x && y) ≡ true
    go true e true d = refl
    go true e false d = d
    go false e y d = e
same_self (atom.Link p s t) = go (p == p) (eq-eqb p p refl) (same_term s s) (term s) (same_term t t) (term t)
  where
    term : (t : Term) → same_term t t ≡ true
    term (Var i) = eq-eqb i i refl
    term (Ind c) = eq-eqb c c refl
    term Any = refl

    go : (x : Bool) → x ≡ true → (y : Bool) → y ≡ true → (z : Bool) → z ≡ true → ((x && y) && z) ≡ true
    go true e true d true f = refl
    go true e true d false f = f
    go true e false d z f = d
    go false e y d z f = e

not_both : (b : Bool) → b ≡ true → not b ≡ true → ⊥
not_both true e d = true≢false (sym d)
not_both false e d = true≢false (sym e)

-- where nothing is taken out, no atom stands at two places
distinct_places : (xs : List QAtom) → distinct_atoms xs ≡ xs → (i j : ℕ) (a : QAtom) → i < j → slice_get xs i ≡ Some a → slice_get xs j ≡ Some a → ⊥
distinct_places [] e i j a l g h = absurd (cc)
distinct_places (b ∷ xs) e i j a l g h = go (distinct_cases xs) (filter_cases (λ c. not (same_atom b c)) (distinct_atoms xs)) i j l g h
    (λ d i j l g h. distinct_places xs d i j a l g h)
  where
    tail : filter (λ c. not (same_atom b c)) (distinct_atoms xs) ≡ xs
    tail = cc

    go : (distinct_atoms xs ≡ xs) ⊎ (length (distinct_atoms xs) < length xs) → (filter (λ c. not (same_atom b c)) (distinct_atoms xs) ≡ distinct_atoms xs)
        ⊎ (length (filter (λ c. not (same_atom b c)) (distinct_atoms xs)) < length (distinct_atoms xs))
        → (i j : ℕ) → i < j → slice_get (b ∷ xs) i ≡ Some a → slice_get (b ∷ xs) j ≡ Some a
        → (distinct_atoms xs ≡ xs → (i j : ℕ) → i < j → slice_get xs i ≡ Some a → slice_get xs j ≡ Some a → ⊥) → ⊥
    go (inr l) w i j k g h again = let m = filter_least (λ c. not (same_atom b c)) (distinct_atoms xs) in let d = ap length tail in absurd (omega arith)
    go (inl d) w i zero k g h again = absurd (omega arith)
    go (inl d) w zero (suc j) k g h again =
        let f : filter (λ c. not (same_atom b c)) xs ≡ xs = subst (λ (l : List QAtom). filter (λ c. not (same_atom b c)) l ≡ xs) d tail in
        not_both (same_atom b a) (subst (λ (c : QAtom). same_atom b c ≡ true) (some_inj g) (same_self b)) (filter_all (λ c. not (same_atom b c)) xs f j a h)
    go (inl d) w (suc i) (suc j) k g h again = again d i j (omega arith) g h

-- where a round leaves the query as it is, no atom stands twice
pub settled_distinct : (r : Query) → round r ≡ r → distinct_atoms r.body ≡ r.body
settled_distinct r e = go (distinct_cases r.body)
  where
    go : (distinct_atoms r.body ≡ r.body) ⊎ (length (distinct_atoms r.body) < length r.body) → distinct_atoms r.body ≡ r.body
    go (inl d) = d
    go (inr l) = let m = sym (length_map _ (distinct_atoms r.body)) ∙ ap (λ (p : Query). length p.body) e in absurd (omega arith)

-- a query that a round leaves as it is, is changed by neither step
pub settled : (q : Query) → round q ≡ q → (s : Query) → ¬ Simplifies q s
settled q e s w = go (distinct_cases q.body) w
  where
    same : length (distinct_atoms q.body) ≡ length q.body
    same = sym (length_map (map_atom (unbound_to_any (record { head = q.head; body = distinct_atoms q.body }))) (distinct_atoms q.body))
        ∙ ap (λ (p : Query). length p.body) e

    still : distinct_atoms q.body ≡ q.body → with_unbound_any q ≡ q
    still d = ap (λ (b : List QAtom). with_unbound_any (record { head = q.head; body = b })) (sym d) ∙ e

    go : (distinct_atoms q.body ≡ q.body) ⊎ (length (distinct_atoms q.body) < length q.body) → Simplifies q s → ⊥
    go (inr l) w = let m = same in absurd (omega arith)
    go (inl d) (inl (i, j, a, l, g, h, r)) = distinct_places q.body d i j a l g h
    go (inl d) (inr (l, t, r)) =
        let z = count_zero l (unbound_to_any q) (unbound_term_gone q l t) q.body in
        let y : times_in_body l (with_unbound_any q).body ≡ times_in_body l q.body = ap (λ (p : Query). times_in_body l p.body) (still d) in
        let u = and_both (times_in_head l q.head == 0) (times_in_body l q.body == 1) t in
        let o = eqb-true (times_in_body l q.body) 1 u.1 in absurd (omega arith)

-- so neither step changes what the counted rounds reach
pub rounds_finish : (q : Query) (s : Query) → ¬ Simplifies (simplified (suc (length q.body)) q) s
rounds_finish q = settled (simplified (suc (length q.body)) q) (rounds_settle q)
