-- A query is found by its code.
use Rattle.std.proofs.Common.{◌≡◌, ◌≢◌, ℕ, ◌<◌, zero, suc, ◌⊎◌, inl, inr, Bool, true, false, ◌||◌, List, [], ◌∷◌, length, get_or, refl, ap, sym, ◌∙◌, arith}
use Rattle.std.proofs.Common.{All}
use Rattle.std.specs.List.{list_any}
use Rattle.std.specs.Str.{bytes_eq}
use Rattle.std.proofs.lemmas.Slice.Eq.{bytes_eq-Decides}
use Rattle.cq_terms.specs.declared.query.Term.{Term}
use Rattle.cq_terms.specs.declared.query.Term.TheVariants.{Var, Ind}
use Rattle.cq_terms.specs.declared.query.Term.TheVariants as term
use Rattle.cq_terms.specs.declared.query.QAtom.{QAtom}
use Rattle.cq_terms.specs.declared.query.QAtom.TheVariants as atom
use Rattle.cq_terms.specs.Query.{Query}
use Rattle.cq_steps.specs.declared.closure.Member.{Member}
use Rattle.cq_steps.specs.Closing.{IsQueryOf}
use Rattle.cq_steps.proofs.Anywhere.{Any-head, Any-later}
use Rattle.perfect_ref.specs.Code.{term_code, atom_code, body_code, head_code, code_of}
use Rattle.perfect_ref.specs.Search.{codes_of}

heads : (x y : ℕ) (xs ys : List ℕ) → x ∷ xs ≡ y ∷ ys → (x ≡ y) × (xs ≡ ys)
heads x y xs ys e = (cc, cc)

-- equal codes of terms before the rest are of equal terms and equal rests
term_code-injective : (s t : Term) (xs ys : List ℕ) → term_code s xs ≡ term_code t ys → (s ≡ t) × (xs ≡ ys)
term_code-injective (Var i) (Var j) xs ys e = (cc, cc)
term_code-injective (Var i) (Ind d) xs ys e = absurd (omega (arith, (heads 0 1 (i ∷ xs) (d ∷ ys) e).0))
term_code-injective (Var i) term.Any xs ys e = absurd (omega (arith, (heads 0 2 (i ∷ xs) (0 ∷ ys) e).0))
term_code-injective (Ind c) (Var j) xs ys e = absurd (omega (arith, (heads 1 0 (c ∷ xs) (j ∷ ys) e).0))
term_code-injective (Ind c) (Ind d) xs ys e = (cc, cc)
term_code-injective (Ind c) term.Any xs ys e = absurd (omega (arith, (heads 1 2 (c ∷ xs) (0 ∷ ys) e).0))
term_code-injective term.Any (Var j) xs ys e = absurd (omega (arith, (heads 2 0 (0 ∷ xs) (j ∷ ys) e).0))
term_code-injective term.Any (Ind d) xs ys e = absurd (omega (arith, (heads 2 1 (0 ∷ xs) (d ∷ ys) e).0))
term_code-injective term.Any term.Any xs ys e = (refl, cc)

atom_code-injective : (a b : QAtom) (xs ys : List ℕ) → atom_code a xs ≡ atom_code b ys → (a ≡ b) × (xs ≡ ys)
atom_code-injective (atom.Concept a s) (atom.Concept b t) xs ys e =
    let first = heads 0 0 (a ∷ term_code s xs) (b ∷ term_code t ys) e in
    let second = heads a b (term_code s xs) (term_code t ys) first.1 in
    let rest = term_code-injective s t xs ys second.1 in
    (cc (second.0, rest.0), rest.1)
atom_code-injective (atom.Concept a s) (atom.Link q t t2) xs ys e =
    absurd (omega (arith, (heads 0 1 (a ∷ term_code s xs) (q ∷ term_code t (term_code t2 ys)) e).0))
atom_code-injective (atom.Link p s s2) (atom.Concept b t) xs ys e =
    absurd (omega (arith, (heads 1 0 (p ∷ term_code s (term_code s2 xs)) (b ∷ term_code t ys) e).0))
atom_code-injective (atom.Link p s s2) (atom.Link q t t2) xs ys e =
    let first = heads 1 1 (p ∷ term_code s (term_code s2 xs)) (q ∷ term_code t (term_code t2 ys)) e in
    let second = heads p q (term_code s (term_code s2 xs)) (term_code t (term_code t2 ys)) first.1 in
    let from = term_code-injective s t (term_code s2 xs) (term_code t2 ys) second.1 in
    let to = term_code-injective s2 t2 xs ys from.1 in
    (cc (second.0, from.0, to.0), to.1)

no_atom : (a : QAtom) (xs : List ℕ) → atom_code a xs ≢ []
no_atom (atom.Concept a s) xs e = cc
no_atom (atom.Link p s s2) xs e = cc

body_code-injective : (xs ys : List QAtom) → body_code xs ≡ body_code ys → xs ≡ ys
body_code-injective [] [] e = refl
body_code-injective [] (b ∷ ys) e = absurd (no_atom b (body_code ys) (sym e))
body_code-injective (a ∷ xs) [] e = absurd (no_atom a (body_code xs) e)
body_code-injective (a ∷ xs) (b ∷ ys) e =
    let first = atom_code-injective a b (body_code xs) (body_code ys) e in
    let rest = body_code-injective xs ys first.1 in
    cc (first.0, rest)

no_term : (t : Term) (xs ys : List ℕ) → 3 ∷ xs ≢ term_code t ys
no_term (Var i) xs ys e = omega (arith, (heads 3 0 xs (i ∷ ys) e).0)
no_term (Ind c) xs ys e = omega (arith, (heads 3 1 xs (c ∷ ys) e).0)
no_term term.Any xs ys e = omega (arith, (heads 3 2 xs (0 ∷ ys) e).0)

head_code-injective : (h k : List Term) (xs ys : List ℕ) → head_code h xs ≡ head_code k ys → (h ≡ k) × (xs ≡ ys)
head_code-injective [] [] xs ys e = (refl, cc)
head_code-injective [] (t ∷ k) xs ys e = absurd (no_term t (0 ∷ xs) (head_code k ys) e)
head_code-injective (s ∷ h) [] xs ys e = absurd (no_term s (0 ∷ ys) (head_code h xs) (sym e))
head_code-injective (s ∷ h) (t ∷ k) xs ys e =
    let first = term_code-injective s t (head_code h xs) (head_code k ys) e in
    let rest = head_code-injective h k xs ys first.1 in
    (cc (first.0, rest.0), rest.1)

-- equal codes are of equal queries
pub code_of-injective : (q r : Query) → code_of q ≡ code_of r → q ≡ r
unfolding code_of
code_of-injective q r e =
    let head = head_code-injective q.head r.head (body_code q.body) (body_code r.body) e in
    let body = body_code-injective q.body r.body head.1 in
    ap (λ (h : List Term). let p : Query = record { head = h; body = q.body } in p) head.0
    ∙ ap (λ (b : List QAtom). let p : Query = record { head = r.head; body = b } in p) body

known_step : (b rest : Bool) → (b || rest) ≡ true → (b ≡ true) ⊎ (rest ≡ true)
known_step true rest h = inl refl
known_step false rest h = inr h

new_step : (b rest : Bool) → (b || rest) ≡ false → (b ≡ false) × (rest ≡ false)
new_step true rest h = cc
new_step false rest h = (refl, h)

-- a code that is known is that of a member's query
pub known-from_codes : (members : List Member) (q : Query) → list_any (bytes_eq (code_of q)) (codes_of members) ≡ true → IsQueryOf members q
known-from_codes [] q h = cc
known-from_codes (m ∷ members) q h =
    elim (known_step (bytes_eq (code_of q) (code_of m.query)) (list_any (bytes_eq (code_of q)) (codes_of members)) h) [
      | inl e ↦ Any-head (λ n. n.query ≡ q) m members (sym (code_of-injective q m.query ((bytes_eq-Decides (code_of q) (code_of m.query)).0 e)))
      | inr later ↦ Any-later (λ n. n.query ≡ q) m members (known-from_codes members q later)
    ]

other : (q : Query) (m : Member) → bytes_eq (code_of q) (code_of m.query) ≡ false → m.query ≢ q
other q m h e = let same = (bytes_eq-Decides (code_of q) (code_of m.query)).1 (ap code_of (sym e)) in cc

-- a code that is not known is that of no member's query
pub new-from_codes : (members : List Member) (q : Query) → list_any (bytes_eq (code_of q)) (codes_of members) ≡ false → All (λ n. n.query ≢ q) members
new-from_codes [] q h = λ k d lt. absurd (omega arith)
new-from_codes (m ∷ members) q h =
    let parts = new_step (bytes_eq (code_of q) (code_of m.query)) (list_any (bytes_eq (code_of q)) (codes_of members)) h in
    both (other q m parts.0) (new-from_codes members q parts.1)
  where
    both : m.query ≢ q → All (λ n. n.query ≢ q) members → (k : ℕ) (d : Member) → k < suc (length members) → (get_or (m ∷ members) k d).query ≢ q
    both first rest zero d lt = first
    both first rest (suc k) d lt = rest k d (omega arith)
