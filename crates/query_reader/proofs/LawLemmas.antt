-- A text of the grammar has one reading and no fault.
use Rattle.std.proofs.Common.{◌≡◌, ◌≢◌, ℕ, Bool, true, false, List, [], ◌∷◌, ◌++◌, length, map, IsTrue, refl, sym, ap, ◌∙◌, arith, subst, length-append}
use Rattle.std.specs.List.{flat_map}
use Rattle.query_reader.specs.declared.place.Place.{Place}
use Rattle.query_reader.specs.declared.place.Place.TheVariants as at
use Rattle.query_reader.specs.Faults.{may_stand, may_end, place_behind, head_place, FaultBehind, FaultsAreUnique}
use Rattle.query_reader.specs.Grammar.{NamedTerm, variable_term, constant_term, NamedAtom, concept_atom, role_atom, NamedQuery, term_token, atom_tokens}
use Rattle.query_reader.specs.Grammar.{body_tokens, query_tokens, IsText, EachTextHasOneReading}
use Rattle.query_reader.specs.Tokens.{Token, variable, arrow, comma, Stands, Reads, IsParted, after_gap, begins, is_blank, token_text}
use Rattle.query_reader.proofs.FaultLemmas.{first_may, second_may}
use Rattle.query_reader.proofs.OnceLemmas.{token_once, fault_once}
use Rattle.query_reader.proofs.TextLemmas.{token_some}

-- the tokens stand each where it may, up to the end of the text
abbrev Passes : List Token → Place → List ℕ → Type 0
Passes [] place text = IsTrue (may_end place) × (after_gap text ≡ [])
Passes (token ∷ tokens) place text =
    IsTrue (may_stand place token) × ((after : List ℕ) × Stands token (after_gap text) after × Passes tokens (place_behind place token after) after)

-- nothing stands in no text
nothing_stands : (token : Token) (text after : List ℕ) → text ≡ [] → Stands token text after → ⊥
nothing_stands token text after none stands =
    let size = ap length (sym none ∙ stands.whole) ∙ length-append (token_text token) after in
    let some = token_some token stands.valid in
    absurd (omega arith)

-- a text that passes has no fault
passes_no_fault : (tokens read : List Token) (place : Place) (text : List ℕ) (left : ℕ) → Passes tokens place text → FaultBehind read place text left → ⊥
passes_no_fault [] [] place text left h k = k.more h.0 h.1
passes_no_fault [] (u ∷ read) place text left h (may, (after, stands, k)) = nothing_stands u (after_gap text) after h.1 stands
passes_no_fault (t ∷ tokens) [] place text left (may, (after, stands, h)) k = k.none t after may stands
passes_no_fault (t ∷ tokens) (u ∷ read) place text left (may, (after, stands, h)) (also, (rest, again, k)) =
    let once = token_once t u (after_gap text) after rest stands again in
    passes_no_fault tokens read (place_behind place t after) after left h
    (subst (λ bytes. FaultBehind read (place_behind place t bytes) bytes left) (sym once.1)
    (subst (λ token. FaultBehind read (place_behind place token rest) rest left) (sym once.0) k))

-- the tokens of a text are one list
passes_once : (tokens others : List Token) (place : Place) (text : List ℕ) → Passes tokens place text → Passes others place text → tokens ≡ others
passes_once [] [] place text h k = refl
passes_once [] (u ∷ others) place text h (may, (after, stands, k)) = absurd (nothing_stands u (after_gap text) after h.1 stands)
passes_once (t ∷ tokens) [] place text (may, (after, stands, h)) k = absurd (nothing_stands t (after_gap text) after k.1 stands)
passes_once (t ∷ tokens) (u ∷ others) place text (may, (after, stands, h)) (also, (rest, again, k)) =
    let once = token_once t u (after_gap text) after rest stands again in
    let more = passes_once tokens others (place_behind place t after) after h
    (subst (λ bytes. Passes others (place_behind place t bytes) bytes) (sym once.1)
    (subst (λ token. Passes others (place_behind place token rest) rest) (sym once.0) k)) in
    ap (λ token. token ∷ tokens) once.0 ∙ ap (λ rest_tokens. u ∷ rest_tokens) more

-- an atom passes, where what follows it does
passes_atom : (named : NamedAtom) (tokens : List Token) (text rest : List ℕ)
    → ((after : List ℕ) → Reads tokens after rest → Passes tokens at.BehindAtom after) → Reads (atom_tokens named ++ tokens) text rest
    → Passes (atom_tokens named ++ tokens) at.AtomName text
passes_atom (concept_atom concept given) tokens text rest next (a, s, p, (b, t, q, (d, u, r, (e, v, w, more)))) =
    (refl, (a, s, (refl, (b, t, (first_may given, (d, u, (refl, (e, v, next e more))))))))
passes_atom (role_atom role from to) tokens text rest next (a, s, p, (b, t, q, (d, u, r, (e, v, w, (f, x, y, (g, z, o, more)))))) =
    (refl, (a, s, (refl, (b, t, (first_may from, (d, u, (refl, (e, v, (second_may to, (f, x, (refl, (g, z, next g more))))))))))))

-- so do further atoms
passes_more : (atoms : List NamedAtom) (text rest : List ℕ) → after_gap rest ≡ [] → Reads (flat_map (λ other. comma ∷ atom_tokens other) atoms) text rest
    → Passes (flat_map (λ other. comma ∷ atom_tokens other) atoms) at.BehindAtom text
passes_more [] text rest ends e = (refl, ap after_gap e ∙ ends)
passes_more (named ∷ atoms) text rest ends (after, stands, p, reads) = (
  refl,
  (
    after,
    stands,
    passes_atom named (flat_map (λ other. comma ∷ atom_tokens other) atoms) after rest
        (λ behind more. passes_more atoms behind rest ends more) reads,
  ),
)

-- and a body
passes_body : (body : List NamedAtom) (text rest : List ℕ) → body ≢ [] → after_gap rest ≡ [] → Reads (body_tokens body) text rest
    → Passes (body_tokens body) at.AtomName text
passes_body [] text rest some ends reads = absurd (some refl)
passes_body (named ∷ atoms) text rest some ends reads = passes_atom named (flat_map (λ other. comma ∷ atom_tokens other) atoms) text rest
    (λ behind more. passes_more atoms behind rest ends more) reads

-- and a head before it
passes_head : (head : List (List ℕ)) (body : List NamedAtom) (blank : Bool) (text rest : List ℕ) → (head ≢ [] → blank ≡ true) → body ≢ []
    → after_gap rest ≡ [] → Reads (map variable head ++ arrow ∷ body_tokens body) text rest
    → Passes (map variable head ++ arrow ∷ body_tokens body) (head_place blank) text
passes_head [] body true text rest is some ends (after, stands, p, reads) = (refl, (after, stands, passes_body body after rest some ends reads))
passes_head [] body false text rest is some ends (after, stands, p, reads) = (refl, (after, stands, passes_body body after rest some ends reads))
passes_head (letters ∷ head) body false text rest is some ends reads = let no : false ≡ true = is (λ e. cc e) in cc no
passes_head (letters ∷ head) body true text rest is some ends (after, stands, p, reads) =
    (refl, (after, stands, passes_head head body (begins is_blank after) after rest (parted_by head p) some ends reads))
  where
    parted_by : (others : List (List ℕ)) → IsParted (variable letters) (map variable others ++ arrow ∷ body_tokens body) after → others ≢ []
        → begins is_blank after ≡ true
    parted_by [] parted some_others = absurd (some_others refl)
    parted_by (other ∷ others) parted some_others = parted

-- a text of the grammar passes
passes_text : (bytes : List ℕ) (query : NamedQuery) → IsText bytes query → Passes (query_tokens query) at.Head bytes
passes_text bytes query text = passes_head query.head query.body true bytes text.rest (λ some. refl) text.body text.ends text.reads

-- a term is one token
term_once : (a b : NamedTerm) → term_token a ≡ term_token b → a ≡ b
term_once (variable_term x) (variable_term y) e = let same : x ≡ y = cc in ap variable_term same
term_once (constant_term x) (constant_term y) e = let same : x ≡ y = cc in ap constant_term same
term_once (variable_term x) (constant_term y) e = cc e
term_once (constant_term x) (variable_term y) e = cc e

-- the atom at the front of tokens is one
atom_once : (a b : NamedAtom) (xs ys : List Token) → atom_tokens a ++ xs ≡ atom_tokens b ++ ys → (a ≡ b) × (xs ≡ ys)
atom_once (concept_atom c s) (concept_atom d t) xs ys e =
    let names : c ≡ d = cc in
    let terms : term_token s ≡ term_token t = cc in
    (ap (λ n. concept_atom n s) names ∙ ap (λ n. concept_atom d n) (term_once s t terms), cc)
atom_once (role_atom p s t) (role_atom q u v) xs ys e =
    let names : p ≡ q = cc in
    let first : term_token s ≡ term_token u = cc in
    let second : term_token t ≡ term_token v = cc in
    (ap (λ n. role_atom n s t) names ∙ ap (λ n. role_atom q n t) (term_once s u first) ∙ ap (λ n. role_atom q u n) (term_once t v second), cc)
atom_once (concept_atom c s) (role_atom q u v) xs ys e = cc e
atom_once (role_atom p s t) (concept_atom d v) xs ys e = cc e

more_once : (atoms others : List NamedAtom) → flat_map (λ other. comma ∷ atom_tokens other) atoms ≡ flat_map (λ other. comma ∷ atom_tokens other) others
    → atoms ≡ others
more_once [] [] e = refl
more_once [] (b ∷ others) e = cc e
more_once (a ∷ atoms) [] e = cc e
more_once (a ∷ atoms) (b ∷ others) e =
    let first = atom_once a b (flat_map (λ other. comma ∷ atom_tokens other) atoms) (flat_map (λ other. comma ∷ atom_tokens other) others) cc in
    let more = more_once atoms others first.1 in
    ap (λ head. head ∷ atoms) first.0 ∙ ap (λ tail. b ∷ tail) more

some_tokens : (named : NamedAtom) (tokens : List Token) → atom_tokens named ++ tokens ≡ [] → ⊥
some_tokens (concept_atom concept given) tokens e = cc e
some_tokens (role_atom role from to) tokens e = cc e

body_once : (atoms others : List NamedAtom) → body_tokens atoms ≡ body_tokens others → atoms ≡ others
body_once [] [] e = refl
body_once [] (b ∷ others) e = absurd (some_tokens b _ (sym e))
body_once (a ∷ atoms) [] e = absurd (some_tokens a _ e)
body_once (a ∷ atoms) (b ∷ others) e =
    let first = atom_once a b (flat_map (λ other. comma ∷ atom_tokens other) atoms) (flat_map (λ other. comma ∷ atom_tokens other) others) e in
    let more = more_once atoms others first.1 in
    ap (λ head. head ∷ atoms) first.0 ∙ ap (λ tail. b ∷ tail) more

head_once : (head other : List (List ℕ)) (xs ys : List Token) → map variable head ++ arrow ∷ xs ≡ map variable other ++ arrow ∷ ys → (head ≡ other) × (xs ≡ ys)
head_once [] [] xs ys e = (refl, cc)
head_once [] (b ∷ other) xs ys e = cc e
head_once (a ∷ head) [] xs ys e = cc e
head_once (a ∷ head) (b ∷ other) xs ys e =
    let more = head_once head other xs ys cc in
    let same : a ≡ b = cc in
    (ap (λ letters. letters ∷ head) same ∙ ap (λ tail. b ∷ tail) more.0, more.1)

-- a query is its tokens
query_once : (query other : NamedQuery) → query_tokens query ≡ query_tokens other → query ≡ other
query_once query other e =
    let parts = head_once query.head other.head (body_tokens query.body) (body_tokens other.body) e in
    let heads = parts.0 in
    let bodies = body_once query.body other.body parts.1 in
    λ i. record { head = heads i; body = bodies i }

-- a text has one reading
pub reading_is_one : EachTextHasOneReading
reading_is_one bytes query other h k = query_once query other
    (passes_once (query_tokens query) (query_tokens other) at.Head bytes (passes_text bytes query h) (passes_text bytes other k))

-- and faults are unique
pub fault_is_one : FaultsAreUnique
fault_is_one = record {
  one = λ bytes byte other h k. let same = fault_once h.fault.read k.fault.read at.Head bytes h.left k.left h.fault.fault k.fault.fault in
      omega (arith, h.place, k.place);
  none = λ bytes query byte text h. passes_no_fault (query_tokens query) h.fault.read at.Head bytes h.left (passes_text bytes query text) h.fault.fault;
}
