-- How far the reader of a body has come.
use Rattle.std.proofs.Common.{◌≡◌, ◌≢◌, ℕ, ◌+◌, ◌<◌, ◌≤◌, List, [], ◌∷◌, ◌++◌, length, refl, sym, ap, ◌∙◌, arith, append_assoc, append-nil, subst}
use Rattle.std.specs.List.{flat_map}
use Rattle.cq_terms.specs.declared.query.QAtom.{QAtom}
use Rattle.query_reader.specs.declared.place.Place.TheVariants as at
use Rattle.query_reader.specs.Faults.{FaultFrom}
use Rattle.query_reader.specs.Grammar.{NamedTerm, variable_term, constant_term, NamedAtom, concept_atom, role_atom, atom_tokens, body_tokens, term_token}
use Rattle.query_reader.specs.Numbering.{Numbers, with_atom, with_atoms, AreAtomsOf, IsAtomOf, KeepsNumbers, AddsAtMost}
use Rattle.query_reader.specs.Steps.{IsBodyRead}
use Rattle.query_reader.specs.Tokens.{Token, name, opening, closing, comma, Reads, Stands, IsParted, after_gap}
use Rattle.query_reader.proofs.FaultLemmas.{fault_later, first_may, second_may}
use Rattle.query_reader.proofs.NumberLemmas.{KeepsNumbers-refl, KeepsNumbers-trans, AreAtomsOf-kept, AreAtomsOf-push}
use Rattle.query_reader.proofs.TextLemmas.{reads_shorter, stands_shorter}

-- an atom and the comma behind it
abbrev pub ended : NamedAtom → List Token
ended named = atom_tokens named ++ comma ∷ []

-- a body was read up to the name of an atom
pub record IsBodyPart (text rest : List ℕ) (old new : Numbers) (atoms : List QAtom) : Type 0 where
  pub named : List NamedAtom
  pub reads : (tokens : List Token) (end : List ℕ) → Reads tokens rest end → Reads (flat_map ended named ++ tokens) text end
  pub faults : (left : ℕ) → FaultFrom at.AtomName rest left → FaultFrom at.AtomName text left
  pub names : new ≡ with_atoms old named
  pub meaning : AreAtomsOf new named atoms
  pub kept : KeepsNumbers old new
  pub added : ℕ
  pub grown : AddsAtMost added old new
  pub spent : added + length rest ≤ length text

-- a body was read up to the end of an atom
pub record IsAtomPart (text rest : List ℕ) (old new : Numbers) (atoms : List QAtom) : Type 0 where
  pub named : List NamedAtom
  pub last : NamedAtom
  pub reads : (tokens : List Token) (end : List ℕ) → Reads tokens rest end → Reads (flat_map ended named ++ (atom_tokens last ++ tokens)) text end
  pub faults : (left : ℕ) → FaultFrom at.BehindAtom rest left → FaultFrom at.AtomName text left
  pub names : new ≡ with_atoms old (named ++ last ∷ [])
  pub meaning : AreAtomsOf new (named ++ last ∷ []) atoms
  pub kept : KeepsNumbers old new
  pub added : ℕ
  pub grown : AddsAtMost added old new
  pub spent : added + length rest ≤ length text

-- growth adds up
pub AddsAtMost-trans : (a b : ℕ) (old mid new : Numbers) → AddsAtMost a old mid → AddsAtMost b mid new → AddsAtMost (a + b) old new
AddsAtMost-trans a b old mid new h k = record {
  variables = omega (arith, h.variables, k.variables);
  concepts = omega (arith, h.concepts, k.concepts);
  roles = omega (arith, h.roles, k.roles);
  inds = omega (arith, h.inds, k.inds);
}

pub AddsAtMost-weaker : (a b : ℕ) (old new : Numbers) → a ≤ b → AddsAtMost a old new → AddsAtMost b old new
AddsAtMost-weaker a b old new le h = record {
  variables = omega (arith, h.variables);
  concepts = omega (arith, h.concepts);
  roles = omega (arith, h.roles);
  inds = omega (arith, h.inds);
}

-- nothing was read yet
pub body_none : (text : List ℕ) (old : Numbers) → IsBodyPart text text old old []
body_none text old = record {
  named = [];
  reads = λ tokens end reads. reads;
  faults = λ left fault. fault;
  names = refl;
  meaning = tt;
  kept = KeepsNumbers-refl old;
  added = 0;
  grown = record { variables = omega arith; concepts = omega arith; roles = omega arith; inds = omega arith };
  spent = omega arith;
}

-- no variable follows a term
pub parted_comma : (given : NamedTerm) (tokens : List Token) (after : List ℕ) → IsParted (term_token given) (comma ∷ tokens) after
parted_comma (variable_term letters) tokens after = tt
parted_comma (constant_term meant) tokens after = tt

pub parted_closing : (given : NamedTerm) (tokens : List Token) (after : List ℕ) → IsParted (term_token given) (closing ∷ tokens) after
parted_closing (variable_term letters) tokens after = tt
parted_closing (constant_term meant) tokens after = tt

-- an atom and what follows it
atom_then : (named : NamedAtom) (text after end : List ℕ) (tokens : List Token) → Reads (atom_tokens named) text after → Reads tokens after end
    → Reads (atom_tokens named ++ tokens) text end
atom_then (concept_atom concept given) text after end tokens (a, s, p, (b, t, q, (d, u, r, (e, v, w, last)))) more =
    (a, s, tt, (b, t, tt, (d, u, parted_closing given tokens d, (e, v, tt, subst (λ bytes. Reads tokens bytes end) (sym last) more))))
atom_then (role_atom role from to) text after end tokens (a, s, p, (b, t, q, (d, u, r, (e, v, w, (f, x, y, (g, z, o, last)))))) more = (
  a,
  s,
  tt,
  (
    b,
    t,
    tt,
    (
      d,
      u,
      parted_comma from (term_token to ∷ closing ∷ tokens) d,
      (e, v, tt, (f, x, parted_closing to tokens f, (g, z, tt, subst (λ bytes. Reads tokens bytes end) (sym last) more))),
    ),
  ),
)

-- a fault behind an atom
fault_behind : (named : NamedAtom) (text after : List ℕ) (left : ℕ) → Reads (atom_tokens named) text after → FaultFrom at.BehindAtom after left
    → FaultFrom at.AtomName text left
fault_behind (concept_atom concept given) text after left (a, s, p, (b, t, q, (d, u, r, (e, v, w, last)))) fault =
    fault_later at.AtomName (name concept) text a left refl s
    (fault_later at.Opening opening a b left refl t (fault_later at.FirstTerm (term_token given) b d left (first_may given) u
    (fault_later at.BehindFirst closing d e left refl v (subst (λ bytes. FaultFrom at.BehindAtom bytes left) (sym last) fault))))
fault_behind (role_atom role from to) text after left (a, s, p, (b, t, q, (d, u, r, (e, v, w, (f, x, y, (g, z, o, last)))))) fault =
    fault_later at.AtomName (name role) text a left refl s
    (fault_later at.Opening opening a b left refl t
    (fault_later at.FirstTerm (term_token from) b d left (first_may from) u
    (fault_later at.BehindFirst comma d e left refl v
    (fault_later at.SecondTerm (term_token to) e f left (second_may to) x
    (fault_later at.Closing closing f g left refl z (subst (λ bytes. FaultFrom at.BehindAtom bytes left) (sym last) fault))))))

-- an atom takes four bytes at least
pub atom_shorter : (named : NamedAtom) (text after : List ℕ) → Reads (atom_tokens named) text after → length after + 4 ≤ length text
atom_shorter (concept_atom concept given) text after reads = omega (arith, reads_shorter (atom_tokens (concept_atom concept given)) text after reads)
atom_shorter (role_atom role from to) text after reads = omega (arith, reads_shorter (atom_tokens (role_atom role from to)) text after reads)

-- one more atom is put last
pub with_atoms-push : (numbers : Numbers) (named : List NamedAtom) (last : NamedAtom)
    → with_atoms numbers (named ++ last ∷ []) ≡ with_atom (with_atoms numbers named) last
with_atoms-push numbers [] last = refl
with_atoms-push numbers (first ∷ named) last = with_atoms-push (with_atom numbers first) named last

-- one more atom
pub body_atom : (text rest after : List ℕ) (old mid new : Numbers) (atoms pushed : List QAtom) (last : NamedAtom) (given : QAtom)
    → IsBodyPart text rest old mid atoms → Reads (atom_tokens last) rest after → new ≡ with_atom mid last → IsAtomOf new last given → KeepsNumbers mid new
    → AddsAtMost 2 mid new → pushed ≡ atoms ++ given ∷ [] → IsAtomPart text after old new pushed
body_atom text rest after old mid new atoms pushed last given part reads put meant kept grown items =
    let less = atom_shorter last rest after reads in
    record {
      named = part.named;
      last = last;
      reads = λ tokens end more. part.reads (atom_tokens last ++ tokens) end (atom_then last rest after end tokens reads more);
      faults = λ left fault. part.faults left (fault_behind last rest after left reads fault);
      names = put ∙ ap (λ numbers. with_atom numbers last) part.names ∙ sym (with_atoms-push old part.named last);
      meaning = subst (AreAtomsOf new (part.named ++ last ∷ [])) (sym items)
          (AreAtomsOf-push new part.named atoms last given (AreAtomsOf-kept mid new part.named atoms kept part.meaning) meant);
      kept = KeepsNumbers-trans old mid new part.kept kept;
      added = part.added + 2;
      grown = AddsAtMost-trans part.added 2 old mid new part.grown grown;
      spent = omega (arith, part.spent);
    }

-- the tokens of atoms that a comma ends, and one more that it ends
ended-push : (named : List NamedAtom) (last : NamedAtom) (tokens : List Token)
    → flat_map ended (named ++ last ∷ []) ++ tokens ≡ flat_map ended named ++ (atom_tokens last ++ comma ∷ tokens)
ended-push [] last tokens = ap (λ front. front ++ tokens) (append-nil (ended last)) ∙ append_assoc (atom_tokens last) (comma ∷ []) tokens
ended-push (first ∷ named) last tokens =
    append_assoc (ended first) (flat_map ended (named ++ last ∷ [])) tokens ∙ ap (λ more. ended first ++ more) (ended-push named last tokens)
    ∙ sym (append_assoc (ended first) (flat_map ended named) (atom_tokens last ++ comma ∷ tokens))

-- a comma behind an atom
pub body_more : (text rest after : List ℕ) (old new : Numbers) (atoms : List QAtom) → IsAtomPart text rest old new atoms → Stands comma (after_gap rest) after
    → IsBodyPart text after old new atoms
body_more text rest after old new atoms part stands =
    let less = stands_shorter comma rest after stands in
    record {
      named = part.named ++ part.last ∷ [];
      reads = λ tokens end more. subst (λ all. Reads all text end) (sym (ended-push part.named part.last tokens))
          (part.reads (comma ∷ tokens) end (after, stands, tt, more));
      faults = λ left fault. part.faults left (fault_later at.BehindAtom comma rest after left refl stands fault);
      names = part.names;
      meaning = part.meaning;
      kept = part.kept;
      added = part.added;
      grown = part.grown;
      spent = omega (arith, part.spent);
    }

-- the tokens of a body, with the last atom apart
lead-push : (named : List NamedAtom) (last : NamedAtom) → flat_map (λ other. comma ∷ atom_tokens other) (named ++ last ∷ []) ≡ comma
    ∷ (flat_map ended named ++ (atom_tokens last ++ []))
lead-push [] last = refl
lead-push (first ∷ named) last =
    ap (λ more. comma ∷ (atom_tokens first ++ more)) (lead-push named last)
    ∙ ap (λ more. comma ∷ more) (sym (append_assoc (atom_tokens first) (comma ∷ []) (flat_map ended named ++ (atom_tokens last ++ [])))
    ∙ sym (append_assoc (ended first) (flat_map ended named) (atom_tokens last ++ [])))

body_tokens-push : (named : List NamedAtom) (last : NamedAtom) → body_tokens (named ++ last ∷ []) ≡ flat_map ended named ++ (atom_tokens last ++ [])
body_tokens-push [] last = refl
body_tokens-push (first ∷ named) last =
    ap (λ more. atom_tokens first ++ more) (lead-push named last)
    ∙ (sym (append_assoc (atom_tokens first) (comma ∷ []) (flat_map ended named ++ (atom_tokens last ++ [])))
    ∙ sym (append_assoc (ended first) (flat_map ended named) (atom_tokens last ++ [])))

-- a list with one more isn't empty
pushed_some : (named : List NamedAtom) (last : NamedAtom) → named ++ last ∷ [] ≢ []
pushed_some [] last e = cc e
pushed_some (first ∷ named) last e = cc e

-- the text ends behind an atom
pub body_all : (text rest : List ℕ) (old new : Numbers) (atoms : List QAtom) → IsAtomPart text rest old new atoms → after_gap rest ≡ []
    → IsBodyRead text old new atoms
body_all text rest old new atoms part ends = record {
  named = part.named ++ part.last ∷ [];
  some = pushed_some part.named part.last;
  rest = rest;
  reads = subst (λ all. Reads all text rest) (sym (body_tokens-push part.named part.last)) (part.reads [] rest refl);
  ends = ends;
  names = part.names;
  meaning = part.meaning;
}

-- growth is within the text, also where memory ran out within an atom
pub put_grown : (text rest after : List ℕ) (old mid new : Numbers) (atoms : List QAtom) (last : NamedAtom) → IsBodyPart text rest old mid atoms
    → Reads (atom_tokens last) rest after → AddsAtMost 2 mid new → AddsAtMost (length text) old new
put_grown text rest after old mid new atoms last part reads grown =
    let less = atom_shorter last rest after reads in
    let spent = part.spent in
    AddsAtMost-weaker (part.added + 2) (length text) old new (omega arith) (AddsAtMost-trans part.added 2 old mid new part.grown grown)

-- an atom and its comma take some bytes
pub both_shorter : (named : NamedAtom) (rest after next : List ℕ) → Reads (atom_tokens named) rest after → Stands comma (after_gap after) next
    → length next < length rest
both_shorter named rest after next reads stands = omega (arith, atom_shorter named rest after reads, stands_shorter comma after next stands)
