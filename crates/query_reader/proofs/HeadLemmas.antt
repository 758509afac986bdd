-- How far the reader of a head has come.
use Rattle.std.proofs.Common.{◌≡◌, ◌⊎◌, inl, inr, ℕ, ◌+◌, ◌≤◌, Bool, true, false, cond, List, [], ◌∷◌, ◌++◌, length, map, slice_get, Option, Some, None}
use Rattle.std.proofs.Common.{Contains, refl, sym, ap, ◌∙◌, arith, append_assoc, length-append, subst, zero, suc}
use Rattle.std.specs.List.{list_any}
use Rattle.std.specs.Str.{bytes_eq}
use Rattle.std.proofs.lemmas.List.{map-append}
use Rattle.std.proofs.lemmas.List.Elements.{Contains-append_left, Contains-push, Contains-push_cases}
use Rattle.std.proofs.lemmas.Map.Views.{Contains-from_any}
use Rattle.std.proofs.lemmas.Slice.Eq.{bytes_eq-Decides}
use Rattle.cq_terms.specs.Names.{with_text}
use Rattle.cq_terms.specs.declared.query.Term.{Term}
use Rattle.cq_terms.specs.declared.query.Term.TheVariants as term
use Rattle.axiom_reader.specs.Numbering.{IsPrefix}
use Rattle.axiom_reader.proofs.TextLemmas.{IsPrefix-with_text, slice_get-prefix}
use Rattle.query_reader.specs.declared.head.Head.{Head}
use Rattle.query_reader.specs.declared.place.Place.{Place}
use Rattle.query_reader.specs.declared.place.Place.TheVariants as at
use Rattle.query_reader.specs.Faults.{FaultFrom, head_place}
use Rattle.query_reader.specs.Numbering.{with_texts, AreHeadOf}
use Rattle.query_reader.specs.Parts.{IsHeadPlace}
use Rattle.query_reader.specs.Steps.{AddsRepeat, IsRepeatOf, IsHeadRead}
use Rattle.query_reader.specs.Tokens.{Token, variable, constant, name, arrow, opening, closing, comma, Reads, Stands, IsParted, after_gap, begins, is_blank}
use Rattle.query_reader.proofs.FaultLemmas.{fault_later}
use Rattle.query_reader.proofs.TextLemmas.{stands_shorter}

-- a put adds one text at most
length-with_text : (texts : List (List ℕ)) (text : List ℕ) → length (with_text texts text) ≤ length texts + 1
length-with_text texts text = by (list_any (bytes_eq text) texts)
  where
    by : (b : Bool) → length (cond b texts (texts ++ text ∷ [])) ≤ length texts + 1
    by true = omega arith
    by false = omega (arith, length-append texts (text ∷ []))

-- no variable follows where another ends without a blank
abbrev pub MayFollow : Place → List Token → Type 0
MayFollow at.BehindVariable (variable letters ∷ tokens) = ⊥
MayFollow place tokens = Unit {0}

-- a head was read up to a place
pub record IsHeadPart (text : List ℕ) (place : Place) (rest : List ℕ) (variables : List (List ℕ)) (terms : List Term) (repeated : Option ℕ) : Type 0 where
  pub named : List (List ℕ)
  pub place_is : IsHeadPlace place
  pub reads : (tokens : List Token) (end : List ℕ) → MayFollow place tokens → Reads tokens rest end → Reads (map variable named ++ tokens) text end
  pub faults : (left : ℕ) → FaultFrom place rest left → FaultFrom at.Head text left
  pub variables_are : variables ≡ with_texts [] named
  pub terms_are : AreHeadOf variables named terms
  pub count : length terms ≡ length named
  pub repeats : IsRepeatOf named repeated
  pub shorter : length variables + length rest ≤ length text
  pub counted : length terms + length rest ≤ length text

-- one more text is the last, or the split is before it
push_split : (named before after : List (List ℕ)) (last letters : List ℕ) → named ++ last ∷ [] ≡ before ++ letters ∷ after
    → ((named ≡ before) × (last ≡ letters)) ⊎ ((rest : List (List ℕ)) × (named ≡ before ++ letters ∷ rest))
push_split [] [] after last letters e = inl (refl, cc)
push_split (n ∷ named) [] after last letters e = let same : n ≡ letters = cc in inr (named, ap (λ text. text ∷ named) same)
push_split [] (b ∷ before) after last letters e = let tail : [] ≡ before ++ letters ∷ after = cc in absurd (nothing before tail)
  where
    nothing : (texts : List (List ℕ)) → [] ≡ texts ++ letters ∷ after → ⊥
    nothing [] k = cc k
    nothing (t ∷ texts) k = cc k
push_split (n ∷ named) (b ∷ before) after last letters e = let tail : named ++ last ∷ [] ≡ before ++ letters ∷ after = cc in let same : n ≡ b = cc in
    by same (push_split named before after last letters tail)
  where
    by : n ≡ b → ((named ≡ before) × (last ≡ letters)) ⊎ ((rest : List (List ℕ)) × (named ≡ before ++ letters ∷ rest))
        → ((n ∷ named ≡ b ∷ before) × (last ≡ letters)) ⊎ ((rest : List (List ℕ)) × (n ∷ named ≡ b ∷ before ++ letters ∷ rest))
    by same (inl (k, l)) = inl (rw (same, k) refl, l)
    by same (inr (rest, k)) = inr (rest, ap (λ text. text ∷ named) same ∙ ap (λ texts. b ∷ texts) k)

-- the first repeat after one more variable
repeat_push : (named variables : List (List ℕ)) (letters : List ℕ) (old new : Option ℕ) (count : ℕ) → IsRepeatOf named old → count ≡ length named
    → (Contains variables letters → Contains named letters) → (Contains named letters → Contains variables letters)
    → AddsRepeat old variables letters count new → IsRepeatOf (named ++ letters ∷ []) new
repeat_push named variables letters (Some place) new count r e to from adds = subst (IsRepeatOf (named ++ letters ∷ [])) (sym adds) (record {
  before = r.before;
  letters = r.letters;
  after = r.after ++ letters ∷ [];
  whole = ap (λ texts. texts ++ letters ∷ []) r.whole ∙ append_assoc r.before (r.letters ∷ r.after) (letters ∷ []);
  place_is = r.place_is;
  repeated = r.repeated;
  first = r.first;
})
repeat_push named variables letters None None count r e to from adds =
    λ before after text whole stood. by before after text stood (push_split named before after letters text whole)
  where
    by : (before after : List (List ℕ)) (text : List ℕ) → Contains before text → ((named ≡ before) × (letters ≡ text))
        ⊎ ((rest : List (List ℕ)) × (named ≡ before ++ text ∷ rest)) → ⊥
    by before after text stood (inl (same, last)) =
        let there : Contains named text = subst (λ texts. Contains texts text) (sym same) stood in
        adds (from (subst (Contains named) (sym last) there))
    by before after text stood (inr (rest, split)) = r before rest text split stood
repeat_push named variables letters None (Some place) count r e to from adds = record {
  before = named;
  letters = letters;
  after = [];
  whole = refl;
  place_is = adds.0 ∙ e;
  repeated = to adds.1;
  first = r;
}

-- the texts are the same where the test says so
same_text : (x y : List ℕ) → bytes_eq x y ≡ true → x ≡ y
same_text x y = (bytes_eq-Decides x y).0

-- what is there after a text was put
put_cases : (texts : List (List ℕ)) (text other : List ℕ) → Contains (with_text texts text) other → Contains texts other ⊎ (text ≡ other)
put_cases texts text other = by (list_any (bytes_eq text) texts)
  where
    by : (b : Bool) → Contains (cond b texts (texts ++ text ∷ [])) other → Contains texts other ⊎ (text ≡ other)
    by true there = inl there
    by false there = Contains-push_cases texts text other there

put_keeps : (texts : List (List ℕ)) (text other : List ℕ) → Contains texts other → Contains (with_text texts text) other
put_keeps texts text other there = by (list_any (bytes_eq text) texts)
  where
    by : (b : Bool) → Contains (cond b texts (texts ++ text ∷ [])) other
    by true = there
    by false = Contains-append_left texts (text ∷ []) other there

put_there : (texts : List (List ℕ)) (text : List ℕ) → Contains (with_text texts text) text
put_there texts text = by (list_any (bytes_eq text) texts) refl
  where
    by : (b : Bool) → list_any (bytes_eq text) texts ≡ b → Contains (cond b texts (texts ++ text ∷ [])) text
    by true e = Contains-from_any same_text text texts e
    by false e = Contains-push texts text

-- one more text is put last
pub with_texts-push : (texts named : List (List ℕ)) (letters : List ℕ) → with_texts texts (named ++ letters ∷ []) ≡ with_text (with_texts texts named) letters
with_texts-push texts [] letters = refl
with_texts-push texts (first ∷ named) letters = with_texts-push (with_text texts first) named letters

-- the texts that are there are those that were put
texts_there : (texts named : List (List ℕ)) (letters : List ℕ) → Contains (with_texts texts named) letters → Contains texts letters ⊎ Contains named letters
texts_there texts [] letters there = inl there
texts_there texts (first ∷ named) letters there = by (texts_there (with_text texts first) named letters there)
  where
    or : Contains texts letters ⊎ (first ≡ letters) → Contains texts letters ⊎ Contains (first ∷ named) letters
    or (inl h) = inl h
    or (inr e) = inr (subst (Contains (first ∷ named)) e (0, omega arith, refl))

    by : Contains (with_text texts first) letters ⊎ Contains named letters → Contains texts letters ⊎ Contains (first ∷ named) letters
    by (inl h) = or (put_cases texts first letters h)
    by (inr (k, lt, e)) = inr (suc k, omega arith, e)

texts_kept : (texts named : List (List ℕ)) (letters : List ℕ) → Contains texts letters → Contains (with_texts texts named) letters
texts_kept texts [] letters there = there
texts_kept texts (first ∷ named) letters there = texts_kept (with_text texts first) named letters (put_keeps texts first letters there)

named_there : (texts named : List (List ℕ)) (letters : List ℕ) → Contains named letters → Contains (with_texts texts named) letters
named_there texts [] letters (k, lt, e) = absurd (omega arith)
named_there texts (first ∷ named) letters (zero, lt, e) = texts_kept (with_text texts first) named letters
    (subst (Contains (with_text texts first)) e (put_there texts first))
named_there texts (first ∷ named) letters (suc k, lt, e) = named_there (with_text texts first) named letters (k, omega arith, e)

-- terms keep their numbers
pub AreHeadOf-kept : (old new named : List (List ℕ)) (terms : List Term) → IsPrefix old new → AreHeadOf old named terms → AreHeadOf new named terms
AreHeadOf-kept old new [] [] kept h = tt
AreHeadOf-kept old new (letters ∷ named) (term.Var number ∷ terms) kept h =
    (slice_get-prefix old new number letters kept h.0, AreHeadOf-kept old new named terms kept h.1)
AreHeadOf-kept old new [] (given ∷ terms) kept h = absurd h
AreHeadOf-kept old new (letters ∷ named) [] kept h = absurd h
AreHeadOf-kept old new (letters ∷ named) (term.Ind number ∷ terms) kept h = absurd h
AreHeadOf-kept old new (letters ∷ named) (term.Any ∷ terms) kept h = absurd h

-- one more term
AreHeadOf-push : (variables named : List (List ℕ)) (terms : List Term) (letters : List ℕ) (number : ℕ) → AreHeadOf variables named terms
    → slice_get variables number ≡ Some letters → AreHeadOf variables (named ++ letters ∷ []) (terms ++ term.Var number ∷ [])
AreHeadOf-push variables [] [] letters number h last = (last, tt)
AreHeadOf-push variables (first ∷ named) (term.Var id ∷ terms) letters number h last = (h.0, AreHeadOf-push variables named terms letters number h.1 last)
AreHeadOf-push variables [] (given ∷ terms) letters number h last = absurd h
AreHeadOf-push variables (first ∷ named) [] letters number h last = absurd h
AreHeadOf-push variables (first ∷ named) (term.Ind id ∷ terms) letters number h last = absurd h
AreHeadOf-push variables (first ∷ named) (term.Any ∷ terms) letters number h last = absurd h

-- what may follow a variable is parted from it
parted : (letters after : List ℕ) (tokens : List Token) → MayFollow (head_place (begins is_blank after)) tokens → IsParted (variable letters) tokens after
parted letters after [] may = tt
parted letters after (variable others ∷ tokens) may = by (begins is_blank after) may
  where
    by : (b : Bool) → MayFollow (head_place b) (variable others ∷ tokens) → b ≡ true
    by true h = refl
    by false h = absurd h
parted letters after (constant text ∷ tokens) may = tt
parted letters after (name text ∷ tokens) may = tt
parted letters after (arrow ∷ tokens) may = tt
parted letters after (opening ∷ tokens) may = tt
parted letters after (closing ∷ tokens) may = tt
parted letters after (comma ∷ tokens) may = tt

-- the place behind a variable is one of the head
place_of_head : (blank : Bool) → IsHeadPlace (head_place blank)
place_of_head true = tt
place_of_head false = tt

-- one more variable
pub head_more : (text rest after : List ℕ) (place : Place) (old new : List (List ℕ)) (terms : List Term) (repeated again : Option ℕ) (letters : List ℕ)
    (number : ℕ) → IsHeadPart text place rest old terms repeated → place ≡ at.Head → Stands (variable letters) (after_gap rest) after
    → AddsRepeat repeated old letters (length terms) again → new ≡ with_text old letters → slice_get new number ≡ Some letters
    → IsHeadPart text (head_place (begins is_blank after)) after new (terms ++ term.Var number ∷ []) again
head_more text rest after place old new terms repeated again letters number part is stands adds put named =
    let kept : IsPrefix old new = subst (IsPrefix old) (sym put) (IsPrefix-with_text old letters) in
    let less = stands_shorter (variable letters) rest after stands in
    let most : length new ≤ length old + 1 = subst (λ texts. length texts ≤ length old + 1) (sym put) (length-with_text old letters) in
    let old_is = part.variables_are in
    record {
      named = part.named ++ letters ∷ [];
      place_is = place_of_head (begins is_blank after);
      reads = λ tokens end may reads.
          subst (λ all. Reads all text end) (sym (ap (λ front. front ++ tokens) (map-append variable part.named (letters ∷ []))
          ∙ append_assoc (map variable part.named) (variable letters ∷ []) tokens))
          (part.reads (variable letters ∷ tokens) end (subst (λ p. MayFollow p (variable letters ∷ tokens)) (sym is) tt)
          (after, stands, parted letters after tokens may, reads));
      faults = λ left fault. part.faults left (subst (λ p. FaultFrom p rest left) (sym is)
          (fault_later at.Head (variable letters) rest after left refl stands fault));
      variables_are = put ∙ ap (λ texts. with_text texts letters) old_is ∙ sym (with_texts-push [] part.named letters);
      terms_are = AreHeadOf-push new part.named terms letters number (AreHeadOf-kept old new part.named terms kept part.terms_are) named;
      count = length-append terms (term.Var number ∷ []) ∙ ap (λ n. n + 1) part.count ∙ sym (length-append part.named (letters ∷ []));
      repeats = repeat_push part.named old letters repeated again (length terms) part.repeats part.count
          (λ there. first_of_two (texts_there [] part.named letters (subst (λ texts. Contains texts letters) old_is there)))
          (λ there. subst (λ texts. Contains texts letters) (sym old_is) (named_there [] part.named letters there)) adds;
      shorter = omega (arith, part.shorter);
      counted = omega (arith, part.counted, length-append terms (term.Var number ∷ []));
    }
  where
    first_of_two : Contains [] letters ⊎ Contains part.named letters → Contains part.named letters
    first_of_two (inl (k, lt, e)) = absurd (omega arith)
    first_of_two (inr h) = h

-- the arrow ends a head
pub head_all : (text rest after : List ℕ) (place : Place) (variables : List (List ℕ)) (head : Head)
    → IsHeadPart text place rest variables head.terms.items head.repeated → Stands arrow (after_gap rest) after → IsHeadRead text variables head after
head_all text rest after place variables head part stands =
    let less = stands_shorter arrow rest after stands in
    record {
      named = part.named;
      reads = λ tokens end reads. part.reads (arrow ∷ tokens) end (may_arrow place tokens) (after, stands, tt, reads);
      faults = λ left fault. part.faults left (behind place part.place_is left fault);
      variables_are = part.variables_are;
      terms = part.terms_are;
      repeats = part.repeats;
      shorter = omega (arith, part.shorter);
      counted = omega (arith, part.counted);
    }
  where
    may_arrow : (p : Place) (tokens : List Token) → MayFollow p (arrow ∷ tokens)
    may_arrow at.BehindVariable tokens = tt
    may_arrow p tokens = tt

    behind : (p : Place) → IsHeadPlace p → (left : ℕ) → FaultFrom at.AtomName after left → FaultFrom p rest left
    behind at.Head is left fault = fault_later at.Head arrow rest after left refl stands fault
    behind at.BehindVariable is left fault = fault_later at.BehindVariable arrow rest after left refl stands fault
    behind p is left fault = absurd is
