-- In a normal form each variable stands in the head, or at two places of the body.
use Rattle.std.proofs.Common.{◌≡◌, ◌≢◌, ℕ, zero, suc, ◌+◌, ◌<◌, ◌⊎◌, inl, inr, List, [], ◌∷◌, length, map, Contains, refl, sym, subst, ap, ◌∙◌, arith, Some}
use Rattle.std.proofs.Common.{slice_get, Bool, true, false, cond, ◌==◌, eq-eqb, ne_eqb, true≢false, eq-zero-or-pos}
use Rattle.std.specs.Ordering.{is_le}
use Rattle.std.proofs.lemmas.Bool.{cases_Bool, cases_eq}
use Rattle.cq_terms.specs.declared.query.Term.{Term}
use Rattle.cq_terms.specs.declared.query.Term.TheVariants.{Var, Ind, Any}
use Rattle.cq_terms.specs.declared.query.QAtom.{QAtom}
use Rattle.cq_terms.specs.declared.query.QAtom.TheVariants as atom
use Rattle.cq_terms.specs.Query.{Query}
use Rattle.cq_meaning.specs.NormalForm.{map_atom, distinct_atoms, times_in_term, times_in_atom, times_in_head, times_in_body, is_unbound, unbound_to_any}
use Rattle.cq_meaning.specs.NormalForm.{with_unbound_any, simplified, atom_cmp, insert, sorted, normal}
use Rattle.cq_meaning.proofs.Members.{Contains-head, Contains-later}
use Rattle.cq_meaning.proofs.Places.{some_inj}
use Rattle.cq_meaning.proofs.Extension.{and_true}

-- a variable of the body stands in the head, or twice in the body
abbrev pub IsCounted : Query → Type 0
IsCounted q = (l : ℕ) → 0 < times_in_body l q.body → (0 < times_in_head l q.head) ⊎ (1 < times_in_body l q.body)

pub times_in_other : (l i : ℕ) → i ≢ l → times_in_term l (Var i) ≡ 0
times_in_other l i ne = ap (λ b. cond b 1 0) (ne_eqb i l ne)

pub unbound_term_gone : (q : Query) (l : ℕ) → is_unbound q l ≡ true → (t : Term) → times_in_term l (unbound_to_any q t) ≡ 0
unbound_term_gone q l e (Ind c) = refl
unbound_term_gone q l e Any = refl
unbound_term_gone q l e (Var i) = go (cases_eq i l)
  where
    either : (b : Bool) → i ≢ l → times_in_term l (cond b Any (Var i)) ≡ 0
    either true ne = refl
    either false ne = times_in_other l i ne

    go : (i ≡ l) ⊎ (i ≡ l → ⊥) → times_in_term l (cond (is_unbound q i) Any (Var i)) ≡ 0
    go (inl d) = ap (λ b. times_in_term l (cond b Any (Var i))) (ap (is_unbound q) d ∙ e)
    go (inr ne) = either (is_unbound q i) ne

unbound_term_kept : (q : Query) (l : ℕ) → is_unbound q l ≡ false → (t : Term) → times_in_term l (unbound_to_any q t) ≡ times_in_term l t
unbound_term_kept q l e (Ind c) = refl
unbound_term_kept q l e Any = refl
unbound_term_kept q l e (Var i) = go (cases_eq i l)
  where
    either : (b : Bool) → i ≢ l → times_in_term l (cond b Any (Var i)) ≡ times_in_term l (Var i)
    either true ne = sym (times_in_other l i ne)
    either false ne = refl

    go : (i ≡ l) ⊎ (i ≡ l → ⊥) → times_in_term l (cond (is_unbound q i) Any (Var i)) ≡ times_in_term l (Var i)
    go (inl d) = ap (λ b. times_in_term l (cond b Any (Var i))) (ap (is_unbound q) d ∙ e)
    go (inr ne) = either (is_unbound q i) ne

pub count_zero : (l : ℕ) (f : Term → Term) → ((t : Term) → times_in_term l (f t) ≡ 0) → (body : List QAtom) → times_in_body l (map (map_atom f) body) ≡ 0
count_zero l f h [] = refl
count_zero l f h (atom.Concept p s ∷ body) = omega (arith, h s, count_zero l f h body)
count_zero l f h (atom.Link p s t ∷ body) = omega (arith, h s, h t, count_zero l f h body)

pub count_same : (l : ℕ) (f : Term → Term) → ((t : Term) → times_in_term l (f t) ≡ times_in_term l t) → (body : List QAtom)
    → times_in_body l (map (map_atom f) body) ≡ times_in_body l body
count_same l f h [] = refl
count_same l f h (atom.Concept p s ∷ body) = omega (arith, h s, count_same l f h body)
count_same l f h (atom.Link p s t ∷ body) = omega (arith, h s, h t, count_same l f h body)

pub with_unbound_any_counted : (q : Query) → IsCounted (with_unbound_any q)
with_unbound_any_counted q l pos = go (cases_Bool (is_unbound q l))
  where
    two : times_in_body l (with_unbound_any q).body ≡ times_in_body l q.body → is_unbound q l ≡ false → (times_in_head l q.head ≡ 0)
        ⊎ (times_in_head l q.head ≡ 0 → ⊥) → (times_in_body l q.body ≡ 1) ⊎ (times_in_body l q.body ≡ 1 → ⊥) → (0 < times_in_head l q.head)
        ⊎ (1 < times_in_body l (with_unbound_any q).body)
    two e f (inr n) c = inl (omega arith)
    two e f (inl z) (inl o) = absurd (true≢false (sym (and_true (times_in_head l q.head == 0) (times_in_body l q.body == 1)
        (eq-eqb (times_in_head l q.head) 0 z) (eq-eqb (times_in_body l q.body) 1 o)) ∙ f))
    two e f (inl z) (inr n) = inr (omega arith)

    go : (is_unbound q l ≡ true) ⊎ (is_unbound q l ≡ false) → (0 < times_in_head l q.head) ⊎ (1 < times_in_body l (with_unbound_any q).body)
    go (inl t) = let z = count_zero l (unbound_to_any q) (unbound_term_gone q l t) q.body in absurd (omega arith)
    go (inr f) = two (count_same l (unbound_to_any q) (unbound_term_kept q l f) q.body) f (cases_eq (times_in_head l q.head) 0)
        (cases_eq (times_in_body l q.body) 1)

simplified_counted : (n : ℕ) (q : Query) → IsCounted (simplified (suc n) q)
simplified_counted zero q = with_unbound_any_counted (record { head = q.head; body = distinct_atoms q.body })
simplified_counted (suc n) q = simplified_counted n (with_unbound_any (record { head = q.head; body = distinct_atoms q.body }))

count-insert : (l : ℕ) (a : QAtom) (body : List QAtom) → times_in_body l (insert a body) ≡ times_in_atom l a + times_in_body l body
count-insert l a [] = refl
count-insert l a (b ∷ body) = go (is_le (atom_cmp a b)) (count-insert l a body)
  where
    go : (c : Bool) → times_in_body l (insert a body) ≡ times_in_atom l a + times_in_body l body
        → times_in_body l (cond c (a ∷ b ∷ body) (b ∷ insert a body)) ≡ times_in_atom l a + (times_in_atom l b + times_in_body l body)
    go true h = refl
    go false h = omega arith

count-sorted : (l : ℕ) (body : List QAtom) → times_in_body l (sorted body) ≡ times_in_body l body
count-sorted l [] = refl
count-sorted l (a ∷ body) = count-insert l a (sorted body) ∙ ap (λ n. times_in_atom l a + n) (count-sorted l body)

-- each variable of a normal form stands in the head or twice in the body
pub normal_counted : (q : Query) → IsCounted (normal q)
normal_counted q l pos = go (simplified_counted (length q.body) q l (subst (λ n. 0 < n) (count-sorted l (simplified (suc (length q.body)) q).body) pos))
  where
    go : (0 < times_in_head l (simplified (suc (length q.body)) q).head) ⊎ (1 < times_in_body l (simplified (suc (length q.body)) q).body)
        → (0 < times_in_head l (normal q).head) ⊎ (1 < times_in_body l (normal q).body)
    go (inl h) = inl h
    go (inr h) = inr (subst (λ n. 1 < n) (sym (count-sorted l (simplified (suc (length q.body)) q).body)) h)

pub in_term_pos : (l : ℕ) (t : Term) → 0 < times_in_term l t → t ≡ Var l
in_term_pos l (Ind c) h = absurd (omega arith)
in_term_pos l Any h = absurd (omega arith)
in_term_pos l (Var i) h = go (cases_eq i l)
  where
    go : (i ≡ l) ⊎ (i ≡ l → ⊥) → Var i ≡ Var l
    go (inl e) = ap Var e
    go (inr ne) = let z = times_in_other l i ne in absurd (omega arith)

pub in_head_pos : (l : ℕ) (head : List Term) → 0 < times_in_head l head → Contains head (Var l)
in_head_pos l [] h = absurd (omega arith)
in_head_pos l (t ∷ head) h = go (eq-zero-or-pos (times_in_term l t)) (λ p. in_head_pos l head p)
  where
    go : (times_in_term l t ≡ 0) ⊎ (0 < times_in_term l t) → (0 < times_in_head l head → Contains head (Var l)) → Contains (t ∷ head) (Var l)
    go (inl z) again = Contains-later t head (Var l) (again (omega arith))
    go (inr p) again = let e = in_term_pos l t p in subst (Contains (t ∷ head)) e (Contains-head t head)

some_place : (l : ℕ) (body : List QAtom) → 0 < times_in_body l body → (j : ℕ) × (b : QAtom) × (slice_get body j ≡ Some b) × (0 < times_in_atom l b)
some_place l [] h = absurd (omega arith)
some_place l (a ∷ body) h = go (eq-zero-or-pos (times_in_atom l a)) (λ p. some_place l body p)
  where
    go : (times_in_atom l a ≡ 0) ⊎ (0 < times_in_atom l a) → (0 < times_in_body l body → (j : ℕ) × (b : QAtom) × (slice_get body j ≡ Some b)
        × (0 < times_in_atom l b)) → (j : ℕ) × (b : QAtom) × (slice_get (a ∷ body) j ≡ Some b) × (0 < times_in_atom l b)
    go (inl z) again = let w = again (omega arith) in (suc w.0, w.1, w.2, w.3)
    go (inr p) again = (0, a, refl, p)

pub other_place : (l : ℕ) (body : List QAtom) (i : ℕ) (a : QAtom) → slice_get body i ≡ Some a → times_in_atom l a < times_in_body l body → (j : ℕ)
    × (b : QAtom) × (j ≢ i) × (slice_get body j ≡ Some b) × (0 < times_in_atom l b)
other_place l [] i a e h = absurd (omega arith)
other_place l (c ∷ body) zero a e h =
    let d : times_in_atom l c ≡ times_in_atom l a = ap (times_in_atom l) (some_inj e) in
    let w = some_place l body (omega arith) in (suc w.0, w.1, (λ p. omega arith), w.2, w.3)
other_place l (c ∷ body) (suc i) a e h = go (eq-zero-or-pos (times_in_atom l c)) (λ p. other_place l body i a e p)
  where
    go : (times_in_atom l c ≡ 0) ⊎ (0 < times_in_atom l c) → (times_in_atom l a < times_in_body l body → (j : ℕ) × (b : QAtom) × (j ≢ i)
        × (slice_get body j ≡ Some b) × (0 < times_in_atom l b)) → (j : ℕ) × (b : QAtom) × (j ≢ suc i) × (slice_get (c ∷ body) j ≡ Some b)
        × (0 < times_in_atom l b)
    go (inl z) again = let w = again (omega arith) in (suc w.0, w.1, (λ p. w.2 (omega arith)), w.3, w.4)
    go (inr p) again = (0, c, (λ q. omega arith), refl, p)
