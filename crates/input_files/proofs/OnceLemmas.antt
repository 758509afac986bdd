-- What is read is determined by its text: names are apart, so each has one number.
use Rattle.std.proofs.Common.{◌≡◌, ◌⊎◌, inl, inr, ℕ, zero, suc, Bool, true, false, cond, List, [], ◌∷◌, ◌++◌, length, slice_get, Option, Some, None, Contains}
use Rattle.std.proofs.Common.{refl, sym, ap, ap₂, ◌∙◌, subst}
use Rattle.std.specs.List.{AllZip, flat_map, list_any}
use Rattle.std.specs.Str.{bytes_eq}
use Rattle.axiom_reader.specs.Axioms.{NamedAxiom, NamedBasic, NamedRole, concept, concepts, has, roles}
use Rattle.axiom_reader.specs.Meaning.{AreAxiomsOf, IsAxiomOf, IsBasicOf, IsRoleOf, Reads, concept_axiom, role_axiom}
use Rattle.axiom_reader.specs.Numbering.{axiom_concepts, axiom_roles, with_axioms, with_texts}
use Rattle.axiom_reader.specs.Reading.{EachTextHasOneReading as EachOntologyHasOneReading, reads}
use Rattle.cq_terms.specs.Knowledge.{AreDistinct}
use Rattle.cq_terms.specs.Names.{with_text}
use Rattle.cq_terms.specs.Query.{Query}
use Rattle.cq_terms.specs.declared.axioms.Axiom.{Axiom}
use Rattle.cq_terms.specs.declared.axioms.Basic.{Basic}
use Rattle.cq_terms.specs.declared.axioms.Basic.TheVariants as basic
use Rattle.cq_terms.specs.declared.axioms.Role.{Role}
use Rattle.cq_terms.specs.declared.facts.Fact.{Fact}
use Rattle.cq_terms.specs.declared.facts.Fact.TheVariants as fact
use Rattle.cq_terms.specs.declared.facts.Pair.{Pair}
use Rattle.cq_terms.specs.declared.names.Vocab.{Vocab}
use Rattle.cq_terms.specs.declared.query.QAtom.{QAtom}
use Rattle.cq_terms.specs.declared.query.QAtom.TheVariants as atom
use Rattle.cq_terms.specs.declared.query.Term.{Term}
use Rattle.cq_terms.specs.declared.query.Term.TheVariants as term
use Rattle.cq_terms.proofs.NamesLemmas.{not_there, there_at}
use Rattle.fact_tables.specs.FactTable.{Table, distinct_facts}
use Rattle.fact_tables.specs.Facts.{IsFactOf, ReadsFacts}
use Rattle.fact_tables.specs.Numbering.{PutsNames, concepts_in, individuals_in, roles_in, with_texts as with_fields}
use Rattle.fact_tables.specs.PairRecords.{IsPairOf}
use Rattle.fact_tables.specs.Tables.{Fields, records_of}
use Rattle.fact_tables.proofs.DistinctFacts.{distinct_are_distinct}
use Rattle.query_reader.specs.Grammar.{EachTextHasOneReading as EachQueryHasOneReading, NamedAtom, NamedQuery, NamedTerm, concept_atom, constant_term}
use Rattle.query_reader.specs.Grammar.{role_atom, variable_term}
use Rattle.query_reader.specs.Numbering.{AreAtomsOf, AreHeadOf, IsAtomOf, IsTermOf, Numbers, with_atoms, with_query, with_term}
use Rattle.query_reader.specs.Numbering.{with_texts as with_variables}
use Rattle.query_reader.specs.Queries.{IsQueryOf}
use Rattle.input_files.specs.Meaning.{SaysPairs, no_names}

-- no text stands at two places
abbrev pub Apart : List (List ℕ) → Type 0
Apart texts = (i j : ℕ) (text : List ℕ) → slice_get texts i ≡ Some text → slice_get texts j ≡ Some text → i ≡ j

-- a place of a list with one more text
push_at : (texts : List (List ℕ)) (last text : List ℕ) (i : ℕ) → slice_get (texts ++ last ∷ []) i ≡ Some text → (slice_get texts i ≡ Some text)
    ⊎ ((i ≡ length texts) × (last ≡ text))
push_at [] last text zero e = inr (refl, cc)
push_at [] last text (suc i) e = cc e
push_at (first ∷ texts) last text zero e = inl e
push_at (first ∷ texts) last text (suc i) e = by (push_at texts last text i e)
  where
    by : (slice_get texts i ≡ Some text) ⊎ ((i ≡ length texts) × (last ≡ text)) → (slice_get texts i ≡ Some text)
        ⊎ ((suc i ≡ suc (length texts)) × (last ≡ text))
    by (inl h) = inl h
    by (inr (same, is)) = inr (ap suc same, is)

-- one more text that isn't there
Apart-push : (texts : List (List ℕ)) (last : List ℕ) → (Contains texts last → ⊥) → Apart texts → Apart (texts ++ last ∷ [])
Apart-push texts last new apart i j text h k = by (push_at texts last text i h) (push_at texts last text j k)
  where
    by : (slice_get texts i ≡ Some text) ⊎ ((i ≡ length texts) × (last ≡ text)) → (slice_get texts j ≡ Some text) ⊎ ((j ≡ length texts) × (last ≡ text)) → i ≡ j
    by (inl a) (inl b) = apart i j text a b
    by (inl a) (inr b) = absurd (new (subst (Contains texts) (sym b.1) (there_at texts text i a)))
    by (inr a) (inl b) = absurd (new (subst (Contains texts) (sym a.1) (there_at texts text j b)))
    by (inr a) (inr b) = a.0 ∙ sym b.0

Apart-with_text : (texts : List (List ℕ)) (text : List ℕ) → Apart texts → Apart (with_text texts text)
Apart-with_text texts text apart = by (list_any (bytes_eq text) texts) refl
  where
    by : (b : Bool) → list_any (bytes_eq text) texts ≡ b → Apart (cond b texts (texts ++ text ∷ []))
    by true e = apart
    by false e = Apart-push texts text (not_there texts text e) apart

-- so are those of axioms, of records and of the head of a query
Apart-with_texts : (texts named : List (List ℕ)) → Apart texts → Apart (with_texts texts named)
Apart-with_texts texts [] apart = apart
Apart-with_texts texts (first ∷ named) apart = Apart-with_texts (with_text texts first) named (Apart-with_text texts first apart)

Apart-with_fields : (texts named : List (List ℕ)) → Apart texts → Apart (with_fields texts named)
Apart-with_fields texts [] apart = apart
Apart-with_fields texts (first ∷ named) apart = Apart-with_fields (with_text texts first) named (Apart-with_text texts first apart)

Apart-with_variables : (texts named : List (List ℕ)) → Apart texts → Apart (with_variables texts named)
Apart-with_variables texts [] apart = apart
Apart-with_variables texts (first ∷ named) apart = Apart-with_variables (with_text texts first) named (Apart-with_text texts first apart)

Apart-none : Apart []
Apart-none i j text h k = cc h

-- no name of a vocabulary stands at two places
pub record AreApart (vocab : Vocab) : Type 0 where
  pub concepts : Apart vocab.concepts
  pub roles : Apart vocab.roles
  pub inds : Apart vocab.inds

pub none_apart : AreApart no_names
none_apart = record { concepts = Apart-none; roles = Apart-none; inds = Apart-none }

axioms_apart : (old : Vocab) (named : List NamedAxiom) → AreApart old → AreApart (with_axioms old named)
axioms_apart old named apart = record {
  concepts = Apart-with_texts old.concepts (flat_map axiom_concepts named) apart.concepts;
  roles = Apart-with_texts old.roles (flat_map axiom_roles named) apart.roles;
  inds = apart.inds;
}

rows_apart : (rows : List Fields) (old new : Vocab) → PutsNames rows old new → AreApart old → AreApart new
rows_apart rows old new puts apart = record {
  concepts = subst Apart (sym puts.concepts) (Apart-with_fields old.concepts (flat_map concepts_in rows) apart.concepts);
  roles = subst Apart (sym puts.roles) (Apart-with_fields old.roles (flat_map roles_in rows) apart.roles);
  inds = subst Apart (sym puts.inds) (Apart-with_fields old.inds (flat_map individuals_in rows) apart.inds);
}

-- the same of the lists of a query
record Separate (numbers : Numbers) : Type 0 where
  variables : Apart numbers.variables
  concepts : Apart numbers.concepts
  roles : Apart numbers.roles
  inds : Apart numbers.inds

term_apart : (numbers : Numbers) (named : NamedTerm) → Separate numbers → Separate (with_term numbers named)
term_apart numbers (variable_term letters) s =
    record { variables = Apart-with_text numbers.variables letters s.variables; concepts = s.concepts; roles = s.roles; inds = s.inds }
term_apart numbers (constant_term text) s =
    record { variables = s.variables; concepts = s.concepts; roles = s.roles; inds = Apart-with_text numbers.inds text s.inds }

atoms_apart : (numbers : Numbers) (named : List NamedAtom) → Separate numbers → Separate (with_atoms numbers named)
atoms_apart numbers [] s = s
atoms_apart numbers (concept_atom name at ∷ named) s =
    let start : Numbers = record numbers { concepts = with_text numbers.concepts name } in
    let first : Separate start =
    record { variables = s.variables; concepts = Apart-with_text numbers.concepts name s.concepts; roles = s.roles; inds = s.inds } in
    atoms_apart (with_term start at) named (term_apart start at first)
atoms_apart numbers (role_atom role from to ∷ named) s =
    let start : Numbers = record numbers { roles = with_text numbers.roles role } in
    let first : Separate start =
    record { variables = s.variables; concepts = s.concepts; roles = Apart-with_text numbers.roles role s.roles; inds = s.inds } in
    atoms_apart (with_term (with_term start from) to) named (term_apart (with_term start from) to (term_apart start from first))

query_apart : (old : Vocab) (query : NamedQuery) → AreApart old → Separate (with_query old query)
query_apart old query apart = atoms_apart _ query.body (record {
  variables = Apart-with_variables [] query.head Apart-none;
  concepts = apart.concepts;
  roles = apart.roles;
  inds = apart.inds;
})

-- two vocabularies with the same lists are one
same_vocab : (v w : Vocab) → v.concepts ≡ w.concepts → v.roles ≡ w.roles → v.inds ≡ w.inds → v ≡ w
same_vocab v w c r i =
    ap (λ (x : List (List ℕ)). record { concepts = x; roles = v.roles; inds = v.inds }) c
    ∙ ap (λ (x : List (List ℕ)). record { concepts = w.concepts; roles = x; inds = v.inds }) r
    ∙ ap (λ (x : List (List ℕ)). record { concepts = w.concepts; roles = w.roles; inds = x }) i

module _ (vocab : Vocab) (apart : AreApart vocab) where
  role_once : (named : NamedRole) (r s : Role) → IsRoleOf vocab named r → IsRoleOf vocab named s → r ≡ s
  role_once named r s a b =
      ap₂ (λ (p : ℕ) (i : Bool). record { pred = p; inverse = i }) (apart.roles r.pred s.pred named.name a.number b.number) (a.inverse ∙ sym b.inverse)

  basic_once : (named : NamedBasic) (l m : Basic) → IsBasicOf vocab named l → IsBasicOf vocab named m → l ≡ m
  basic_once (concept name) l m (i, at, e) (j, bt, d) = e ∙ ap basic.Concept (apart.concepts i j name at bt) ∙ sym d
  basic_once (has role) l m (r, a, e) (s, b, d) = e ∙ ap basic.Has (role_once role r s a b) ∙ sym d

  axiom_once : (named : NamedAxiom) (x y : Axiom) → IsAxiomOf vocab named x → IsAxiomOf vocab named y → x ≡ y
  axiom_once (concepts left negated right) x y (l, r, a, b, e) (m, s, c, d, f) =
      e ∙ ap₂ (λ (p : Basic) (q : Basic). concept_axiom p negated q) (basic_once left l m a c) (basic_once right r s b d) ∙ sym f
  axiom_once (roles left negated right) x y (l, r, a, b, e) (m, s, c, d, f) =
      e ∙ ap₂ (λ (p : Role) (q : Role). role_axiom p negated q) (role_once left l m a c) (role_once right r s b d) ∙ sym f

  axioms_once : (named : List NamedAxiom) (xs ys : List Axiom) → AreAxiomsOf vocab named xs → AreAxiomsOf vocab named ys → xs ≡ ys
  axioms_once [] [] [] a b = refl
  axioms_once (first ∷ named) (x ∷ xs) (y ∷ ys) a b =
      ap₂ (λ (z : Axiom) (zs : List Axiom). z ∷ zs) (axiom_once first x y a.0 b.0) (axioms_once named xs ys a.1 b.1)
  axioms_once [] (x ∷ xs) ys a b = absurd a
  axioms_once [] [] (y ∷ ys) a b = absurd b
  axioms_once (first ∷ named) [] ys a b = absurd a
  axioms_once (first ∷ named) (x ∷ xs) [] a b = absurd b

  fact_once : (fields : Fields) (f g : Fact) → IsFactOf vocab fields f → IsFactOf vocab fields g → f ≡ g
  fact_once [] f g a b = absurd a
  fact_once (one ∷ []) f g a b = absurd a
  fact_once (name ∷ ind ∷ []) (fact.Concept p i) (fact.Concept q j) a b =
      ap₂ (λ (x : ℕ) (y : ℕ). fact.Concept x y) (apart.concepts p q name a.0 b.0) (apart.inds i j ind a.1 b.1)
  fact_once (name ∷ ind ∷ []) (fact.Link p i j) g a b = absurd a
  fact_once (name ∷ ind ∷ []) (fact.Concept p i) (fact.Link q j k) a b = absurd b
  fact_once (role ∷ from ∷ to ∷ []) (fact.Link p i j) (fact.Link q k l) a b =
      ap₂ (λ (x : ℕ) (y : ℕ). fact.Link x y j) (apart.roles p q role a.0 b.0) (apart.inds i k from a.1 b.1)
      ∙ ap (λ (y : ℕ). fact.Link q k y) (apart.inds j l to a.2 b.2)
  fact_once (role ∷ from ∷ to ∷ []) (fact.Concept p i) g a b = absurd a
  fact_once (role ∷ from ∷ to ∷ []) (fact.Link p i j) (fact.Concept q k) a b = absurd b
  fact_once (one ∷ two ∷ three ∷ four ∷ more) f g a b = absurd a

  facts_once : (rows : List Fields) (fs gs : List Fact) → AllZip (IsFactOf vocab) rows fs → AllZip (IsFactOf vocab) rows gs → fs ≡ gs
  facts_once [] [] [] a b = refl
  facts_once (fields ∷ rows) (f ∷ fs) (g ∷ gs) a b =
      ap₂ (λ (z : Fact) (zs : List Fact). z ∷ zs) (fact_once fields f g a.0 b.0) (facts_once rows fs gs a.1 b.1)
  facts_once [] (f ∷ fs) gs a b = absurd a
  facts_once [] [] (g ∷ gs) a b = absurd b
  facts_once (fields ∷ rows) [] gs a b = absurd a
  facts_once (fields ∷ rows) (f ∷ fs) [] a b = absurd b

-- the fact numbers of records
numbers_once : (table : List Fact) → AreDistinct table → (facts : List Fact) (ms ns : List ℕ)
    → AllZip (λ given number. slice_get table number ≡ Some given) facts ms
    → AllZip (λ given number. slice_get table number ≡ Some given) facts ns → ms ≡ ns
numbers_once table distinct [] [] [] a b = refl
numbers_once table distinct (given ∷ facts) (m ∷ ms) (n ∷ ns) a b =
    ap₂ (λ (z : ℕ) (zs : List ℕ). z ∷ zs) (distinct m n given a.0 b.0) (numbers_once table distinct facts ms ns a.1 b.1)
numbers_once table distinct [] (m ∷ ms) ns a b = absurd a
numbers_once table distinct [] [] (n ∷ ns) a b = absurd b
numbers_once table distinct (given ∷ facts) [] ns a b = absurd a
numbers_once table distinct (given ∷ facts) (m ∷ ms) [] a b = absurd b

-- the pair of a record
some_once : (o : Option ℕ) (m n : ℕ) → o ≡ Some m → o ≡ Some n → m ≡ n
some_once o m n a b = let both : Some m ≡ Some n = sym a ∙ b in cc

pair_once : (records : List ℕ) (fields : Fields) (p q : Pair) → IsPairOf records fields p → IsPairOf records fields q → p ≡ q
pair_once records [] p q a b = absurd a
pair_once records (one ∷ []) p q a b = absurd a
pair_once records (upper ∷ lower ∷ []) p q a b =
    ap₂ (λ (x : ℕ) (y : ℕ). record { upper = x; lower = y }) (some_once _ p.upper q.upper a.0 b.0) (some_once _ p.lower q.lower a.1 b.1)
pair_once records (one ∷ two ∷ three ∷ more) p q a b = absurd a

pairs_once : (records : List ℕ) (rows : List Fields) (ps qs : List Pair) → AllZip (IsPairOf records) rows ps → AllZip (IsPairOf records) rows qs → ps ≡ qs
pairs_once records [] [] [] a b = refl
pairs_once records (fields ∷ rows) (p ∷ ps) (q ∷ qs) a b =
    ap₂ (λ (z : Pair) (zs : List Pair). z ∷ zs) (pair_once records fields p q a.0 b.0) (pairs_once records rows ps qs a.1 b.1)
pairs_once records [] (p ∷ ps) qs a b = absurd a
pairs_once records [] [] (q ∷ qs) a b = absurd b
pairs_once records (fields ∷ rows) [] qs a b = absurd a
pairs_once records (fields ∷ rows) (p ∷ ps) [] a b = absurd b

pub say_pairs_once : (text : Option (List ℕ)) (records : List ℕ) (ps qs : List Pair) → SaysPairs text records ps → SaysPairs text records qs → ps ≡ qs
say_pairs_once None records ps qs a b = a ∙ sym b
say_pairs_once (Some text) records ps qs a b = pairs_once records (records_of text) ps qs a.each b.each

-- the terms and the atoms of a query
term_once : (numbers : Numbers) → Separate numbers → (named : NamedTerm) (t u : Term) → IsTermOf numbers named t → IsTermOf numbers named u → t ≡ u
term_once numbers s (variable_term letters) (term.Var i) (term.Var j) a b = ap term.Var (s.variables i j letters a b)
term_once numbers s (variable_term letters) (term.Var i) (term.Ind j) a b = absurd b
term_once numbers s (variable_term letters) (term.Var i) term.Any a b = absurd b
term_once numbers s (variable_term letters) (term.Ind i) u a b = absurd a
term_once numbers s (variable_term letters) term.Any u a b = absurd a
term_once numbers s (constant_term text) (term.Ind i) (term.Ind j) a b = ap term.Ind (s.inds i j text a b)
term_once numbers s (constant_term text) (term.Ind i) (term.Var j) a b = absurd b
term_once numbers s (constant_term text) (term.Ind i) term.Any a b = absurd b
term_once numbers s (constant_term text) (term.Var i) u a b = absurd a
term_once numbers s (constant_term text) term.Any u a b = absurd a

atom_once : (numbers : Numbers) → Separate numbers → (named : NamedAtom) (x y : QAtom) → IsAtomOf numbers named x → IsAtomOf numbers named y → x ≡ y
atom_once numbers s (concept_atom name at) (atom.Concept p t) (atom.Concept q u) a b =
    ap₂ (λ (n : ℕ) (z : Term). atom.Concept n z) (s.concepts p q name a.0 b.0) (term_once numbers s at t u a.1 b.1)
atom_once numbers s (concept_atom name at) (atom.Concept p t) (atom.Link q u v) a b = absurd b
atom_once numbers s (concept_atom name at) (atom.Link p t u) y a b = absurd a
atom_once numbers s (role_atom role from to) (atom.Link p t u) (atom.Link q v w) a b =
    ap₂ (λ (n : ℕ) (z : Term). atom.Link n z u) (s.roles p q role a.0 b.0) (term_once numbers s from t v a.1 b.1)
    ∙ ap (λ (z : Term). atom.Link q v z) (term_once numbers s to u w a.2 b.2)
atom_once numbers s (role_atom role from to) (atom.Link p t u) (atom.Concept q v) a b = absurd b
atom_once numbers s (role_atom role from to) (atom.Concept p t) y a b = absurd a

atoms_once : (numbers : Numbers) → Separate numbers → (named : List NamedAtom) (xs ys : List QAtom) → AreAtomsOf numbers named xs → AreAtomsOf numbers named ys
    → xs ≡ ys
atoms_once numbers s [] [] [] a b = refl
atoms_once numbers s (first ∷ named) (x ∷ xs) (y ∷ ys) a b =
    ap₂ (λ (z : QAtom) (zs : List QAtom). z ∷ zs) (atom_once numbers s first x y a.0 b.0) (atoms_once numbers s named xs ys a.1 b.1)
atoms_once numbers s [] (x ∷ xs) ys a b = absurd a
atoms_once numbers s [] [] (y ∷ ys) a b = absurd b
atoms_once numbers s (first ∷ named) [] ys a b = absurd a
atoms_once numbers s (first ∷ named) (x ∷ xs) [] a b = absurd b

head_once : (variables : List (List ℕ)) → Apart variables → (named : List (List ℕ)) (ts us : List Term) → AreHeadOf variables named ts
    → AreHeadOf variables named us → ts ≡ us
head_once variables apart [] [] [] a b = refl
head_once variables apart (letters ∷ named) (term.Var i ∷ ts) (term.Var j ∷ us) a b =
    ap₂ (λ (z : ℕ) (zs : List Term). term.Var z ∷ zs) (apart i j letters a.0 b.0) (head_once variables apart named ts us a.1 b.1)
head_once variables apart (letters ∷ named) (term.Var i ∷ ts) (term.Ind j ∷ us) a b = absurd b
head_once variables apart (letters ∷ named) (term.Var i ∷ ts) (term.Any ∷ us) a b = absurd b
head_once variables apart (letters ∷ named) (term.Var i ∷ ts) [] a b = absurd b
head_once variables apart (letters ∷ named) (term.Ind i ∷ ts) us a b = absurd a
head_once variables apart (letters ∷ named) (term.Any ∷ ts) us a b = absurd a
head_once variables apart (letters ∷ named) [] us a b = absurd a
head_once variables apart [] (t ∷ ts) us a b = absurd a
head_once variables apart [] [] (u ∷ us) a b = absurd b

-- an ontology that is read
pub reads_once : EachOntologyHasOneReading → (bytes : List ℕ) (old new late : Vocab) (xs ys : List Axiom) → AreApart old → Reads bytes old new xs
    → Reads bytes old late ys → (new ≡ late) × (xs ≡ ys) × AreApart new
reads_once one bytes old new late xs ys apart a b =
    let read : reads a.named ≡ reads b.named = (one bytes).1 _ _ a.text b.text in
    let named : a.named ≡ b.named = cc in
    let same : new ≡ late = a.names ∙ ap (with_axioms old) named ∙ sym b.names in
    let here : AreApart new = subst AreApart (sym a.names) (axioms_apart old a.named apart) in
    let there : AreAxiomsOf new b.named ys = subst (λ (v : Vocab). AreAxiomsOf v b.named ys) (sym same) b.meaning in
    (same, axioms_once new here a.named xs ys a.meaning (subst (λ n. AreAxiomsOf new n ys) (sym named) there), here)

-- a table that is read
pub table_once : (bytes : List ℕ) (old new late : Vocab) (table other : Table) → AreApart old → ReadsFacts bytes old new table
    → ReadsFacts bytes old late other → (new ≡ late) × (table ≡ other) × AreApart new
table_once bytes old new late table other apart a b =
    let same : new ≡ late = same_vocab new late (a.names.concepts ∙ sym b.names.concepts) (a.names.roles ∙ sym b.names.roles)
    (a.names.inds ∙ sym b.names.inds) in
    let here : AreApart new = rows_apart (records_of bytes) old new a.names apart in
    let facts : a.facts ≡ b.facts = facts_once new here (records_of bytes) a.facts b.facts a.each
    (subst (λ (v : Vocab). AllZip (IsFactOf v) (records_of bytes) b.facts) (sym same) b.each) in
    let tables : table.facts ≡ other.facts = a.distinct ∙ ap distinct_facts facts ∙ sym b.distinct in
    let apart_facts : AreDistinct table.facts = distinct_are_distinct a.facts table.facts a.distinct in
    let first : AllZip (λ given number. slice_get other.facts number ≡ Some given) a.facts other.records =
    subst (λ (fs : List Fact). AllZip (λ given number. slice_get other.facts number ≡ Some given) fs other.records) (sym facts) b.numbers in
    let second : AllZip (λ given number. slice_get table.facts number ≡ Some given) a.facts other.records =
    subst (λ (t : List Fact). AllZip (λ given number. slice_get t number ≡ Some given) a.facts other.records) (sym tables) first in
    let numbers : table.records ≡ other.records = numbers_once table.facts apart_facts a.facts table.records other.records a.numbers second in
    (same, ap₂ (λ (fs : List Fact) (ns : List ℕ). record { facts = fs; records = ns }) tables numbers, here)

-- a query that is read
pub query_once : EachQueryHasOneReading → (bytes : List ℕ) (old new late : Vocab) (q r : Query) → AreApart old → IsQueryOf bytes old new q
    → IsQueryOf bytes old late r → (new ≡ late) × (q ≡ r)
query_once one bytes old new late q r apart a b =
    let named : a.query ≡ b.query = one bytes a.query b.query a.text.text b.text.text in
    let same : new ≡ late = same_vocab new late
    (a.concepts ∙ ap (λ (n : NamedQuery). (with_query old n).concepts) named ∙ sym b.concepts)
    (a.roles ∙ ap (λ (n : NamedQuery). (with_query old n).roles) named ∙ sym b.roles)
    (a.inds ∙ ap (λ (n : NamedQuery). (with_query old n).inds) named ∙ sym b.inds) in
    let s : Separate (with_query old a.query) = query_apart old a.query apart in
    let heads : q.head ≡ r.head = head_once _ s.variables a.query.head q.head r.head a.head
    (subst (λ (n : NamedQuery). AreHeadOf (with_query old n).variables n.head r.head) (sym named) b.head) in
    let bodies : q.body ≡ r.body = atoms_once _ s a.query.body q.body r.body a.body
    (subst (λ (n : NamedQuery). AreAtomsOf (with_query old n) n.body r.body) (sym named) b.body) in
    (same, ap₂ (λ (h : List Term) (x : List QAtom). record { head = h; body = x }) heads bodies)
