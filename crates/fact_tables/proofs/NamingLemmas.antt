-- Names are put at the end, record after record, and the facts of earlier records stay theirs.
use Rattle.std.proofs.Common.{◌≡◌, ℕ, zero, suc, ◌+◌, ◌≤◌, List, [], ◌∷◌, ◌++◌, slice_get, Some, refl, sym, ap, ◌∙◌, arith, append_assoc}
use Rattle.std.proofs.lemmas.Option.{slice_get_within}
use Rattle.std.proofs.lemmas.List.{append-nil}
use Rattle.std.specs.List.{AllByRecursion, AllZip, flat_map}
use Rattle.cq_terms.specs.Names.{with_text}
use Rattle.cq_terms.specs.declared.names.Vocab.{Vocab}
use Rattle.cq_terms.specs.declared.facts.Fact.{Fact}
use Rattle.cq_terms.specs.declared.facts.Fact.TheVariants as fact
use Rattle.fact_tables.specs.Facts.{IsFactOf, IsNumbered}
use Rattle.fact_tables.specs.Numbering.{Grows, IsPrefix, Keeps, PutsNames, concepts_in, individuals_in, roles_in, with_texts}
use Rattle.fact_tables.specs.Tables.{Fields}

-- ---- names

with_texts-append : (texts more last : List (List ℕ)) → with_texts texts (more ++ last) ≡ with_texts (with_texts texts more) last
with_texts-append texts [] last = refl
with_texts-append texts (text ∷ more) last = with_texts-append (with_text texts text) more last

flat_map-append : (f : Fields → List (List ℕ)) (rows more : List Fields) → flat_map f (rows ++ more) ≡ flat_map f rows ++ flat_map f more
flat_map-append f [] more = refl
flat_map-append f (fields ∷ rows) more = ap (λ t. f fields ++ t) (flat_map-append f rows more)
    ∙ sym (append_assoc (f fields) (flat_map f rows) (flat_map f more))

more_names : (f : Fields → List (List ℕ)) (rows more : List Fields) (old now new : List (List ℕ)) → now ≡ with_texts old (flat_map f rows)
    → new ≡ with_texts now (flat_map f more) → new ≡ with_texts old (flat_map f (rows ++ more))
more_names f rows more old now new e d = d ∙ ap (λ texts. with_texts texts (flat_map f more)) e
    ∙ sym (with_texts-append old (flat_map f rows) (flat_map f more)) ∙ ap (with_texts old) (sym (flat_map-append f rows more))

-- the names of more records are put after those of others
pub names_more : (rows more : List Fields) (old now new : Vocab) → PutsNames rows old now → PutsNames more now new → PutsNames (rows ++ more) old new
names_more rows more old now new p q = record {
  concepts = more_names concepts_in rows more old.concepts now.concepts new.concepts p.concepts q.concepts;
  roles = more_names roles_in rows more old.roles now.roles new.roles p.roles q.roles;
  inds = more_names individuals_in rows more old.inds now.inds new.inds p.inds q.inds;
}

prefix_trans : (a b c : List (List ℕ)) → IsPrefix a b → IsPrefix b c → IsPrefix a c
prefix_trans a b c (x, e) (y, d) = (x ++ y, d ∙ ap (λ t. t ++ y) e ∙ append_assoc a x y)

pub keeps_trans : (old now new : Vocab) → Keeps old now → Keeps now new → Keeps old new
keeps_trans old now new p q = record {
  concepts = prefix_trans _ _ _ p.concepts q.concepts;
  roles = prefix_trans _ _ _ p.roles q.roles;
  inds = prefix_trans _ _ _ p.inds q.inds;
}

pub keeps_same : (vocab : Vocab) → Keeps vocab vocab
keeps_same vocab = record {
  concepts = ([], sym (append-nil vocab.concepts));
  roles = ([], sym (append-nil vocab.roles));
  inds = ([], sym (append-nil vocab.inds));
}

pub grows_trans : (n m k : ℕ) (old now new : Vocab) → Grows n old now → Grows m now new → n + m ≤ k → Grows k old new
grows_trans n m k old now new p q less =
    let pc = p.concepts in let pr = p.roles in let pi = p.inds in
    let qc = q.concepts in let qr = q.roles in let qi = q.inds in
    record { concepts = omega (arith, less); roles = omega (arith, less); inds = omega (arith, less) }

pub grows_same : (n : ℕ) (vocab : Vocab) → Grows n vocab vocab
grows_same n vocab = record { concepts = omega arith; roles = omega arith; inds = omega arith }

-- ---- facts

-- a text keeps its place
stays : (texts more : List (List ℕ)) (i : ℕ) (x : List ℕ) → slice_get texts i ≡ Some x → slice_get (texts ++ more) i ≡ Some x
stays [] more i x at = absurd (omega (arith, slice_get_within [] i x at))
stays (t ∷ texts) more zero x at = at
stays (t ∷ texts) more (suc i) x at = stays texts more i x at

stays_in : (old new : List (List ℕ)) (i : ℕ) (x : List ℕ) → IsPrefix old new → slice_get old i ≡ Some x → slice_get new i ≡ Some x
stays_in old new i x (more, e) at = rw e (stays old more i x at)

-- the fact of a record stays its fact
pub fact_of_more : (old new : Vocab) → Keeps old new → (fields : Fields) (given : Fact) → IsFactOf old fields given → IsFactOf new fields given
fact_of_more old new keeps [] given h = absurd h
fact_of_more old new keeps (a ∷ []) given h = absurd h
fact_of_more old new keeps (a ∷ b ∷ []) (fact.Concept p c) h = (stays_in _ _ p a keeps.concepts h.0, stays_in _ _ c b keeps.inds h.1)
fact_of_more old new keeps (a ∷ b ∷ []) (fact.Link p c d) h = absurd h
fact_of_more old new keeps (a ∷ b ∷ e ∷ []) (fact.Concept p c) h = absurd h
fact_of_more old new keeps (a ∷ b ∷ e ∷ []) (fact.Link p c d) h =
    (stays_in _ _ p a keeps.roles h.0, stays_in _ _ c b keeps.inds h.1, stays_in _ _ d e keeps.inds h.2)
fact_of_more old new keeps (a ∷ b ∷ e ∷ f ∷ fields) given h = absurd h

-- the numbers of a record's fact are those of names
numbered : (vocab : Vocab) (fields : Fields) (given : Fact) → IsFactOf vocab fields given → IsNumbered vocab given
numbered vocab [] given h = absurd h
numbered vocab (a ∷ []) given h = absurd h
numbered vocab (a ∷ b ∷ []) (fact.Concept p c) h = (slice_get_within _ p a h.0, slice_get_within _ c b h.1)
numbered vocab (a ∷ b ∷ []) (fact.Link p c d) h = absurd h
numbered vocab (a ∷ b ∷ e ∷ []) (fact.Concept p c) h = absurd h
numbered vocab (a ∷ b ∷ e ∷ []) (fact.Link p c d) h = (slice_get_within _ p a h.0, slice_get_within _ c b h.1, slice_get_within _ d e h.2)
numbered vocab (a ∷ b ∷ e ∷ f ∷ fields) given h = absurd h

pub each_numbered : (vocab : Vocab) (rows : List Fields) (facts : List Fact) → AllZip (IsFactOf vocab) rows facts → AllByRecursion (IsNumbered vocab) facts
each_numbered vocab [] [] each = tt
each_numbered vocab [] (f ∷ facts) each = absurd each
each_numbered vocab (r ∷ rows) [] each = absurd each
each_numbered vocab (r ∷ rows) (f ∷ facts) each = (numbered vocab r f each.0, each_numbered vocab rows facts each.1)
