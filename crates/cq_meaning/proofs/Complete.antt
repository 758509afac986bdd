-- A match in the chase leads to a match of a rewritten query in the facts.
use Rattle.std.proofs.Common.{◌≡◌, ◌≢◌, ℕ, zero, suc, ◌≤◌, ◌<◌, ◌⊎◌, inl, inr, List, [], ◌∷◌, map, Contains, refl, sym, subst, ap, ◌∙◌, arith, Some}
use Rattle.std.proofs.Common.{slice_get, slice_set, Bool, true, false, cond, eq-eqb, eq-zero-or-pos}
use Rattle.std.specs.List.{AllZip}
use Rattle.std.proofs.lemmas.Bool.{cases_lt}
use Rattle.cq_terms.specs.declared.axioms.Role.{Role}
use Rattle.cq_terms.specs.declared.axioms.Axiom.{Axiom}
use Rattle.cq_terms.specs.declared.facts.Fact.{Fact}
use Rattle.cq_terms.specs.declared.query.Term.{Term}
use Rattle.cq_terms.specs.declared.query.Term.TheVariants.{Var}
use Rattle.cq_terms.specs.declared.query.QAtom.{QAtom}
use Rattle.cq_terms.specs.declared.query.QAtom.TheVariants as atom
use Rattle.cq_terms.specs.Query.{Query}
use Rattle.cq_meaning.specs.Chase.{Node, Named, Null, Atom, RoleAtom, role_atom, InStage}
use Rattle.cq_meaning.specs.Entailment.{Becomes, AtomBecomes, HeadBecomes}
use Rattle.cq_meaning.specs.NormalForm.{map_atom, times_in_term, times_in_atom, times_in_head, times_in_body, normal, without}
use Rattle.cq_meaning.specs.Rewriting.{role_at, IsAxiomStep, IsSuccessor, Reaches}
use Rattle.cq_meaning.proofs.Moves.{step_of, successor_of}
use Rattle.cq_meaning.proofs.Places.{AllZip-get, AllZip-get_back, AllZip-set, AllZip-without, AllZip-map, weight, weight-set, weight-without, heaviest}
use Rattle.cq_meaning.proofs.Places.{IsHeaviest, slice_get-without, some_inj}
use Rattle.cq_meaning.proofs.Members.{Contains-nil, Contains-cases}
use Rattle.cq_meaning.proofs.Nulls.{Mentions, born, null_late, Null-apart}
use Rattle.cq_meaning.proofs.Rewrites.{axiom_step_complete, IsStuck}
use Rattle.cq_meaning.proofs.NormalLaws.{normal_fits, head_normal}
use Rattle.cq_meaning.proofs.Joined.{IsCounted, normal_counted, in_term_pos, in_head_pos, other_place}
use Rattle.cq_meaning.proofs.Unify.{map_keeps, unifies_atoms}

-- the atom has the variable
abbrev pub HasVar : QAtom → ℕ → Type 0
HasVar (atom.Concept a s) l = s ≡ Var l
HasVar (atom.Link p s t) l = (s ≡ Var l) ⊎ (t ≡ Var l)

-- each variable of the body stands in the head, or twice in one atom, or in two atoms
abbrev pub IsJoined : Query → Type 0
IsJoined q = (i : ℕ) (a : QAtom) (l : ℕ) → slice_get q.body i ≡ Some a → HasVar a l
    → Contains q.head (Var l) ⊎ (((p : ℕ) × (a ≡ atom.Link p (Var l) (Var l)))
    ⊎ ((j : ℕ) × (b : QAtom) × (j ≢ i) × (slice_get q.body j ≡ Some b) × HasVar b l))

-- the image stands in its stage, and the query's atom becomes it
abbrev pub Fits : List Axiom → (Fact → Type 0) → (ℕ → Node) → QAtom → Atom × ℕ → Type 0
Fits axioms F v a e = InStage axioms F e.1 e.0 × AtomBecomes v a e.0

-- a match of the query in stages of the chase, of at most this weight
pub record Weighs (axioms : List Axiom) (F : Fact → Type 0) (q : Query) (tuple : List ℕ) (n : ℕ) : Type 0 where
  pub v : ℕ → Node
  pub head : HeadBecomes v q.head tuple
  pub images : List (Atom × ℕ)
  pub fits : AllZip (Fits axioms F v) q.body images
  pub few : weight images ≤ n

-- a variable that counts, as a variable of the atom
has_var : (b : QAtom) (l : ℕ) → 0 < times_in_atom l b → HasVar b l
has_var (atom.Concept p s) l h = in_term_pos l s h
has_var (atom.Link p s t) l h = go (eq-zero-or-pos (times_in_term l s))
  where
    go : (times_in_term l s ≡ 0) ⊎ (0 < times_in_term l s) → HasVar (atom.Link p s t) l
    go (inl z) = inr (in_term_pos l t (omega arith))
    go (inr p) = inl (in_term_pos l s p)

var_counts : (l : ℕ) → times_in_term l (Var l) ≡ 1
var_counts l = ap (λ b. cond b 1 0) (eq-eqb l l refl)

-- an atom that has the variable, has it once or is a link with it at both places
once_or_twice : (a : QAtom) (l : ℕ) → HasVar a l → (times_in_atom l a ≡ 1) ⊎ ((p : ℕ) × (a ≡ atom.Link p (Var l) (Var l)))
once_or_twice (atom.Concept p s) l e = inl (ap (times_in_term l) e ∙ var_counts l)
once_or_twice (atom.Link p s t) l h = go h (eq-zero-or-pos (times_in_term l s)) (eq-zero-or-pos (times_in_term l t))
  where
    one : (t : Term) → t ≡ Var l → times_in_term l t ≡ 1
    one t e = ap (times_in_term l) e ∙ var_counts l

    go : (s ≡ Var l) ⊎ (t ≡ Var l) → (times_in_term l s ≡ 0) ⊎ (0 < times_in_term l s) → (times_in_term l t ≡ 0) ⊎ (0 < times_in_term l t)
        → (times_in_atom l (atom.Link p s t) ≡ 1) ⊎ ((q : ℕ) × (atom.Link p s t ≡ atom.Link q (Var l) (Var l)))
    go h (inr c) (inr d) = let e = in_term_pos l s c in let e' = in_term_pos l t d in inr (p, cc)
    go (inl e) c (inl z) = let o = one s e in inl (omega arith)
    go (inr e) (inl z) d = let o = one t e in inl (omega arith)
    go (inl e) (inl z) d = let o = one s e in absurd (omega arith)
    go (inr e) c (inl z) = let o = one t e in absurd (omega arith)

le-in_body : (l : ℕ) (body : List QAtom) (i : ℕ) (a : QAtom) → slice_get body i ≡ Some a → times_in_atom l a ≤ times_in_body l body
le-in_body l [] i a e = absurd (cc)
le-in_body l (b ∷ body) zero a e = let d : times_in_atom l b ≡ times_in_atom l a = ap (times_in_atom l) (some_inj e) in omega arith
le-in_body l (b ∷ body) (suc i) a e = omega (arith, le-in_body l body i a e)

-- by count as by place
joined_by_place : (q : Query) → IsCounted q → IsJoined q
joined_by_place q h i a l e v = go (once_or_twice a l v)
  where
    apart : times_in_atom l a ≡ 1 → (0 < times_in_head l q.head) ⊎ (1 < times_in_body l q.body) → Contains q.head (Var l)
        ⊎ (((p : ℕ) × (a ≡ atom.Link p (Var l) (Var l)))
        ⊎ ((j : ℕ) × (b : QAtom) × (j ≢ i) × (slice_get q.body j ≡ Some b) × HasVar b l))
    apart o (inl p) = inl (in_head_pos l q.head p)
    apart o (inr t) = let w = other_place l q.body i a e (omega arith) in inr (inr (w.0, w.1, w.2, w.3, has_var w.1 l w.4))

    go : (times_in_atom l a ≡ 1) ⊎ ((p : ℕ) × (a ≡ atom.Link p (Var l) (Var l))) → Contains q.head (Var l) ⊎ (((p : ℕ) × (a ≡ atom.Link p (Var l) (Var l)))
        ⊎ ((j : ℕ) × (b : QAtom) × (j ≢ i) × (slice_get q.body j ≡ Some b) × HasVar b l))
    go (inr t) = inr (inl t)
    go (inl o) = apart o (h l (omega (arith, le-in_body l q.body i a e)))

has_var_image : (v : ℕ → Node) (b : QAtom) (z : Atom) (l : ℕ) → AtomBecomes v b z → HasVar b l → Mentions z (v l)
has_var_image v (atom.Concept p s) z l (n, h, e) d =
    subst (λ (w : Atom). Mentions w (v l)) (sym e) (subst (λ (t : Term). Becomes v t n) d h)
has_var_image v (atom.Link p s t) z l (m, n, h, k, e) (inl d) = subst (λ (w : Atom). Mentions w (v l)) (sym e) (inl (subst (λ (t : Term). Becomes v t m) d h))
has_var_image v (atom.Link p s t) z l (m, n, h, k, e) (inr d) = subst (λ (w : Atom). Mentions w (v l)) (sym e) (inr (subst (λ (t : Term). Becomes v t n) d k))

set_same : {X : Type 0} (xs : List X) (i : ℕ) (x : X) → slice_get xs i ≡ Some x → slice_set xs i x ≡ xs
set_same [] i x e = refl
set_same (y ∷ xs) zero x e = ap (λ w. w ∷ xs) (sym (some_inj e))
set_same (y ∷ xs) (suc i) x e = ap (λ w. y ∷ w) (set_same xs i x e)

-- a variable of the head stands for an individual
head_is_named : (v : ℕ → Node) (head : List Term) (tuple : List ℕ) (l : ℕ) → HeadBecomes v head tuple → Contains head (Var l) → (c : ℕ) × (Named c ≡ v l)
head_is_named v [] tuple l h m = absurd (Contains-nil (Var l) m)
head_is_named v (t ∷ head) [] l h m = absurd h
head_is_named v (t ∷ head) (c ∷ tuple) l h m = go (Contains-cases t head (Var l) m) (head_is_named v head tuple l h.1)
  where
    go : (t ≡ Var l) ⊎ Contains head (Var l) → (Contains head (Var l) → (c : ℕ) × (Named c ≡ v l)) → (c : ℕ) × (Named c ≡ v l)
    go (inl e) again = (c, subst (λ (u : Term). Becomes v u (Named c)) e h.0)
    go (inr d) again = again d

role_has_var : (r : Role) (s : Term) (l : ℕ) → HasVar (role_at r s (Var l)) l
role_has_var r s l = go r.inverse
  where
    go : (b : Bool) → HasVar (cond b (atom.Link r.pred (Var l) s) (atom.Link r.pred s (Var l))) l
    go true = inl refl
    go false = inr refl

-- no new null stands at both places of an atom
not_twice : (v : ℕ → Node) (p l : ℕ) (r : Role) (m : Node) (y : Atom) → AtomBecomes v (atom.Link p (Var l) (Var l)) y → y ≡ role_atom r m (Null m r) → ⊥
not_twice v p l r m y (n, n', h, h', e) d = go r.inverse (sym e ∙ d)
  where
    go : (b : Bool) → RoleAtom p n n' ≡ cond b (RoleAtom r.pred (Null m r) m) (RoleAtom r.pred m (Null m r)) → ⊥
    go true f = let g : n ≡ Null m r = cc in let g' : n' ≡ m = cc in Null-apart m r (sym g ∙ h ∙ sym h' ∙ g')
    go false f = let g : n ≡ m = cc in let g' : n' ≡ Null m r = cc in Null-apart m r (sym g' ∙ h' ∙ sym h ∙ g)

pub normal_keeps : (axioms : List Axiom) (F : Fact → Type 0) (q : Query) (tuple : List ℕ) (n : ℕ) → Weighs axioms F q tuple n
    → Weighs axioms F (normal q) tuple n
normal_keeps axioms F q tuple n w =
    let r = normal_fits (λ e. InStage axioms F e.1 e.0) w.v q w.images w.fits in
    record {
      v = w.v;
      head = subst (λ (h : List Term). HeadBecomes w.v h tuple) (sym (head_normal q)) w.head;
      images = r.0;
      fits = r.1;
      few = omega (arith, r.2, w.few);
    }

pub normal_joined : (q : Query) → IsJoined (normal q)
normal_joined q = joined_by_place (normal q) (normal_counted q)

module _ (axioms : List Axiom) (F : Fact → Type 0) where
  -- some rewritten query matches in the facts
  abbrev pub Rewritten : Query → List ℕ → Type 0
  Rewritten q tuple = (n : ℕ) × (q' : Query) × Reaches axioms n q q' × Weighs axioms F q' tuple 0

  after : (q p : Query) (tuple : List ℕ) → IsSuccessor axioms q p → Rewritten p tuple → Rewritten q tuple
  after q p tuple s (n, q', r, w) = (suc n, q', (p, s, r), w)

  -- the query lowered at an atom by an axiom step
  stepped : (q : Query) (tuple : List ℕ) (n : ℕ) (w : Weighs axioms F q tuple (suc n)) (i k : ℕ) (y x : Atom) (a a' : QAtom) (rule : Axiom)
      → slice_get q.body i ≡ Some a → slice_get w.images i ≡ Some (y, suc k) → Contains axioms rule → IsAxiomStep rule a a' → InStage axioms F k x
      → AtomBecomes w.v a' x
      → (p : Query) × IsSuccessor axioms q p × Weighs axioms F p tuple n
  stepped q tuple n w i k y x a a' rule ea ey m st s h =
      let p : Query = record { head = q.head; body = slice_set q.body i a' } in (
        normal p,
        successor_of axioms q p (inl (i, rule, m, (a, a', ea, st, refl))),
        normal_keeps axioms F p tuple n (record {
          v = w.v;
          head = w.head;
          images = slice_set w.images i (x, k);
          fits = AllZip-set (Fits axioms F w.v) q.body w.images w.fits i a' (x, k) (s, h);
          few = omega (arith, weight-set w.images i (y, suc k) (x, k) ey, w.few);
        }),
      )

  -- the same query with an image from an earlier stage
  earlier : (q : Query) (tuple : List ℕ) (n : ℕ) (w : Weighs axioms F q tuple (suc n)) (i k j : ℕ) (y : Atom) (a : QAtom)
      → slice_get q.body i ≡ Some a → slice_get w.images i ≡ Some (y, k) → j < k → InStage axioms F j y → AtomBecomes w.v a y → Weighs axioms F q tuple n
  earlier q tuple n w i k j y a ea ey l s h = record {
    v = w.v;
    head = w.head;
    images = slice_set w.images i (y, j);
    fits = subst (λ (body : List QAtom). AllZip (Fits axioms F w.v) body (slice_set w.images i (y, j))) (set_same q.body i a ea)
        (AllZip-set (Fits axioms F w.v) q.body w.images w.fits i a (y, j) (s, h));
    few = omega (arith, weight-set w.images i (y, k) (y, j) ey, w.few);
  }

  -- two atoms with one image become one
  reduced : (q : Query) (tuple : List ℕ) (n : ℕ) (w : Weighs axioms F q tuple (suc n)) (i j : ℕ) (a b : QAtom) (y : Atom) (k l : ℕ) → i < j
      → slice_get q.body i ≡ Some a → slice_get q.body j ≡ Some b → slice_get w.images i ≡ Some (y, k) → slice_get w.images j ≡ Some (y, l) → 0 < l
      → InStage axioms F k y → AtomBecomes w.v a y → AtomBecomes w.v b y
      → (p : Query) × IsSuccessor axioms q p × Weighs axioms F p tuple n
  reduced q tuple n w i j a b y k l ij ea eb ei ej z s h h' =
      let u = unifies_atoms w.v a b y h h' in
      let f : Term → Term = u.0 in
      let p : Query = record { head = map f q.head; body = slice_set (map (map_atom f) (without q.body j)) i u.1 } in
      let at : slice_get (without w.images j) i ≡ Some (y, k) = slice_get-without w.images i j ij ∙ ei in (
        normal p,
        successor_of axioms q p (inr (i, j, (a, b, f, u.1, ij, ea, eb, u.2, refl))),
        normal_keeps axioms F p tuple n (record {
          v = w.v;
          head = AllZip-map (λ t c. Becomes w.v t (Named c)) f (λ t c. u.3 t (Named c)) q.head tuple w.head;
          images = slice_set (without w.images j) i (y, k);
          fits = AllZip-set (Fits axioms F w.v) (map (map_atom f) (without q.body j)) (without w.images j)
              (AllZip-map (Fits axioms F w.v) (map_atom f) (λ c e (s, g). (s, map_keeps w.v f u.3 c e.0 g)) (without q.body j) (without w.images j)
              (AllZip-without (Fits axioms F w.v) q.body w.images w.fits j))
              i u.1 (y, k) (s, u.4);
          few = omega (arith, weight-set (without w.images j) i (y, k) (y, k) at, weight-without w.images j (y, l) ej, w.few);
        }),
      )

  -- each match of a positive weight has a lower one, of the query or of a successor
  abbrev pub Lower : Query → List ℕ → ℕ → Type 0
  Lower q tuple n = Weighs axioms F q tuple n ⊎ ((p : Query) × IsSuccessor axioms q p × Weighs axioms F p tuple n)

  -- a new null at a variable: the other atom with it is the same atom, or shows an earlier stage
  unstuck : (q : Query) (tuple : List ℕ) (n : ℕ) → IsJoined q → (w : Weighs axioms F q tuple (suc n)) (i k : ℕ) (y : Atom) (a : QAtom)
      → slice_get q.body i ≡ Some a → IsHeaviest w.images i (y, suc k) → InStage axioms F (suc k) y → AtomBecomes w.v a y → IsStuck w.v a y → Lower q tuple n
  unstuck q tuple n joined w i k y a ea top s h (r, m, t, l, d, hs, hn, ey) =
      where_else (joined i a l ea (subst (λ (c : QAtom). HasVar c l) (sym d) (role_has_var r t l)))
    where
      same : (j kj : ℕ) (b : QAtom) (z : Atom) → j ≢ i → slice_get q.body j ≡ Some b → slice_get w.images j ≡ Some (z, kj) → InStage axioms F kj z
          → AtomBecomes w.v b z → 0 < kj
          → z ≡ y → (i < j) ⊎ (j ≤ i) → Lower q tuple n
      same j kj b z ne eb ej sj hj pos e (inl ij) = inr (reduced q tuple n w i j a b y (suc k) kj ij ea eb top.there (ej ∙ ap (λ (x : Atom). Some (x, kj)) e)
          pos s h (subst (AtomBecomes w.v b) e hj))
      same j kj b z ne eb ej sj hj pos e (inr ji) = inr (reduced q tuple n w j i b a y kj (suc k) (omega arith) eb ea (ej ∙ ap (λ (x : Atom). Some (x, kj)) e)
          top.there (omega arith) (subst (InStage axioms F kj) e sj) (subst (AtomBecomes w.v b) e hj) h)

      other : (j kj : ℕ) (b : QAtom) (z : Atom) → j ≢ i → slice_get q.body j ≡ Some b → slice_get w.images j ≡ Some (z, kj) → InStage axioms F kj z
          → AtomBecomes w.v b z → Mentions z (Null m r)
          → (z ≡ role_atom r m (Null m r)) ⊎ ((j' : ℕ) × (suc j' ≡ kj) × InStage axioms F j' (role_atom r m (Null m r))) → Lower q tuple n
      other j kj b z ne eb ej sj hj mz (inl e) = same j kj b z ne eb ej sj hj (null_late axioms F kj z sj m r mz) (e ∙ sym ey) (cases_lt i j)
      other j kj b z ne eb ej sj hj mz (inr (j', e, s')) = let most = top.most j (z, kj) ej in
          inl (earlier q tuple n w i (suc k) j' y a ea top.there (omega arith) (subst (InStage axioms F j') (sym ey) s') h)

      beside : (j : ℕ) (b : QAtom) → j ≢ i → slice_get q.body j ≡ Some b → HasVar b l → Lower q tuple n
      beside j b ne eb hb =
          let e = AllZip-get (Fits axioms F w.v) q.body w.images w.fits j b eb in
          let mz : Mentions e.0.0 (Null m r) = subst (Mentions e.0.0) (sym hn) (has_var_image w.v b e.0.0 l e.2.1 hb) in
          other j e.0.1 b e.0.0 ne eb e.1 e.2.0 e.2.1 mz (born axioms F e.0.1 e.0.0 e.2.0 m r mz)

      where_else : Contains q.head (Var l) ⊎ (((p : ℕ) × (a ≡ atom.Link p (Var l) (Var l)))
          ⊎ ((j : ℕ) × (b : QAtom) × (j ≢ i) × (slice_get q.body j ≡ Some b) × HasVar b l)) → Lower q tuple n
      where_else (inl c) = let g = head_is_named w.v q.head tuple l w.head c in let e : Named g.0 ≡ Null m r = g.1 ∙ sym hn in absurd (cc)
      where_else (inr (inl (p, e))) = absurd (not_twice w.v p l r m y (subst (λ (c : QAtom). AtomBecomes w.v c y) e h) ey)
      where_else (inr (inr (j, b, ne, eb, hb))) = beside j b ne eb hb

  lower : (q : Query) (tuple : List ℕ) (n : ℕ) → IsJoined q → Weighs axioms F q tuple (suc n) → Lower q tuple n
  lower q tuple n joined w = go (heaviest w.images)
    where
      step : (i k : ℕ) (y : Atom) (a : QAtom) → slice_get q.body i ≡ Some a → IsHeaviest w.images i (y, suc k) → InStage axioms F (suc k) y
          → AtomBecomes w.v a y → Lower q tuple n
      step i k y a ea top (inl s) h = inl (earlier q tuple n w i (suc k) k y a ea top.there (omega arith) s h)
      step i k y a ea top (inr (x, s, (rule, m, c))) h = elim (axiom_step_complete w.v rule a x y c h) [
        | inl (a', st, h') ↦ inr (stepped q tuple n w i k y x a a' rule ea top.there m st s h')
        | inr stuck ↦ unstuck q tuple n joined w i k y a ea top (inr (x, s, (rule, m, c))) h stuck
      ]

      at : (i : ℕ) (y : Atom) (k : ℕ) → 0 < k → IsHeaviest w.images i (y, k) → (a : QAtom) × (slice_get q.body i ≡ Some a) × Fits axioms F w.v a (y, k)
          → Lower q tuple n
      at i y zero pos top f = absurd (omega arith)
      at i y (suc k) pos top (a, ea, (s, h)) = step i k y a ea top s h

      go : (weight w.images ≡ 0) ⊎ ((i : ℕ) × (e : Atom × ℕ) × (0 < e.1) × IsHeaviest w.images i e) → Lower q tuple n
      go (inl z) = inl (record { v = w.v; head = w.head; images = w.images; fits = w.fits; few = omega arith })
      go (inr (i, e, pos, top)) = at i e.0 e.1 pos top (AllZip-get_back (Fits axioms F w.v) q.body w.images w.fits i e top.there)

  -- a match in the chase leads to a match of a rewritten query in the facts
  pub complete : (n : ℕ) (q : Query) (tuple : List ℕ) → IsJoined q → Weighs axioms F q tuple n → Rewritten q tuple
  complete zero q tuple joined w = (0, q, refl, w)
  complete (suc n) q tuple joined w = elim (lower q tuple n joined w) [
    | inl w' ↦ complete n q tuple joined w'
    | inr (p, s, w') ↦ after q p tuple s (complete n p tuple (let t = step_of axioms q p s in subst IsJoined (sym t.2) (normal_joined t.0)) w')
  ]
