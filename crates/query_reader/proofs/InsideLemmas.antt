-- The inside of a constant is read in one way.
use Rattle.std.proofs.Common.{◌≡◌, ◌⊎◌, inl, inr, ℕ, Bool, true, false, cond, List, [], ◌∷◌, ◌++◌, length, Option, Some, None, IfSome, refl, sym, ap, ◌∙◌}
use Rattle.std.proofs.Common.{subst, append_assoc, eqb}
use Rattle.std.specs.Str.{IsUtf8, IsValidUpTo}
use Rattle.std.proofs.Math.Seq.{take-length}
use Rattle.std.proofs.lemmas.Bool.Decides.{Decides-eqb}
use Rattle.query_reader.specs.declared.place.Place.{Place}
use Rattle.query_reader.specs.Faults.{HasInside, IsInsideEnd, EndsInside, between, in_variable, in_arrow, in_constant, BreaksInside}
use Rattle.query_reader.specs.Parts.{halved}
use Rattle.query_reader.specs.Tokens.{Stands, begins, byte_inside, constant, doubled, is_quote}

-- what holds of a value that is there
pub if_some : {X : Type 0} (r : Option X) (P Q : X → Type 0) → ((x : X) → P x → Q x) → IfSome r P → IfSome r Q
if_some None P Q f h = tt
if_some (Some x) P Q f h = f x h

-- a byte is a quote or not
pub quote_or_not : (byte : ℕ) → (byte ≡ 39) ⊎ (is_quote byte ≡ false)
quote_or_not byte = by (eqb byte 39) refl
  where
    by : (b : Bool) → eqb byte 39 ≡ b → (byte ≡ 39) ⊎ (is_quote byte ≡ false)
    by true e = inl ((Decides-eqb byte 39).0 e)
    by false e = inr e

-- a byte that is no quote is written as it is
pub byte_inside-other : (byte : ℕ) → (byte ≡ 39 → ⊥) → byte_inside byte ≡ byte ∷ []
byte_inside-other byte other = by (quote_or_not byte)
  where
    by : (byte ≡ 39) ⊎ (is_quote byte ≡ false) → byte_inside byte ≡ byte ∷ []
    by (inl e) = absurd (other e)
    by (inr e) = rw e refl

-- one more byte
pub doubled-push : (meant : List ℕ) (byte : ℕ) → doubled (meant ++ byte ∷ []) ≡ doubled meant ++ byte_inside byte
doubled-push [] byte = by (is_quote byte)
  where
    by : (b : Bool) → cond b (39 ∷ 39 ∷ []) (byte ∷ []) ++ [] ≡ cond b (39 ∷ 39 ∷ []) (byte ∷ [])
    by true = refl
    by false = refl
doubled-push (first ∷ meant) byte = ap (λ rest. byte_inside first ++ rest) (doubled-push meant byte)
    ∙ sym (append_assoc (byte_inside first) (doubled meant) (byte_inside byte))

-- one more byte is behind
pub inside_more : (later rest after meant : List ℕ) (byte : ℕ) → later ≡ doubled meant ++ rest → rest ≡ byte_inside byte ++ after
    → later ≡ doubled (meant ++ byte ∷ []) ++ after
inside_more later rest after meant byte e f =
    e ∙ ap (λ bytes. doubled meant ++ bytes) f ∙ sym (append_assoc (doubled meant) (byte_inside byte) after)
    ∙ ap (λ bytes. bytes ++ after) (sym (doubled-push meant byte))

-- no byte of the inside stands where it ends
no_byte : (byte : ℕ) (rest tail : List ℕ) → IsInsideEnd tail → tail ≡ byte_inside byte ++ rest → ⊥
no_byte byte rest tail ends e = by (quote_or_not byte) ends
  where
    by : (byte ≡ 39) ⊎ (is_quote byte ≡ false) → IsInsideEnd tail → ⊥
    by (inl q) (inl none) = let k : [] ≡ 39 ∷ 39 ∷ rest = sym none ∙ e ∙ rw q refl in cc k
    by (inl q) (inr (more, at, apart)) =
        let k : 39 ∷ more ≡ 39 ∷ 39 ∷ rest = sym at ∙ e ∙ rw q refl in
        let m : more ≡ 39 ∷ rest = cc in
        let both : true ≡ false = ap (begins is_quote) (sym m) ∙ apart in cc both
    by (inr q) (inl none) = let k : [] ≡ byte ∷ rest = sym none ∙ e ∙ rw q refl in cc k
    by (inr q) (inr (more, at, apart)) =
        let k : 39 ∷ more ≡ byte ∷ rest = sym at ∙ e ∙ rw q refl in
        let same : 39 ≡ byte = cc in
        let both : true ≡ false = ap is_quote same ∙ q in cc both

-- the first byte of the inside is one byte
byte_once : (a b : ℕ) (rest others : List ℕ) → byte_inside a ++ rest ≡ byte_inside b ++ others → (a ≡ b) × (rest ≡ others)
byte_once a b rest others e = by (quote_or_not a) (quote_or_not b)
  where
    by : (a ≡ 39) ⊎ (is_quote a ≡ false) → (b ≡ 39) ⊎ (is_quote b ≡ false) → (a ≡ b) × (rest ≡ others)
    by (inl p) (inl q) =
        let k : 39 ∷ 39 ∷ rest ≡ 39 ∷ 39 ∷ others = rw (p, q) at e in
        (p ∙ sym q, cc)
    by (inl p) (inr q) =
        let k : 39 ∷ 39 ∷ rest ≡ b ∷ others = rw (p, q) at e in
        let same : 39 ≡ b = cc in
        let both : true ≡ false = ap is_quote same ∙ q in cc both
    by (inr p) (inl q) =
        let k : a ∷ rest ≡ 39 ∷ 39 ∷ others = rw (p, q) at e in
        let same : 39 ≡ a = cc in
        let both : true ≡ false = ap is_quote same ∙ p in cc both
    by (inr p) (inr q) =
        let k : a ∷ rest ≡ b ∷ others = rw (p, q) at e in
        (cc, cc)

-- the inside and what follows it are told apart
pub inside_once : (meant other tail rest : List ℕ) → doubled meant ++ tail ≡ doubled other ++ rest → IsInsideEnd tail → IsInsideEnd rest → (meant ≡ other)
    × (tail ≡ rest)
inside_once [] [] tail rest e h k = (refl, e)
inside_once [] (b ∷ other) tail rest e h k = absurd (no_byte b (doubled other ++ rest) tail h (e ∙ append_assoc (byte_inside b) (doubled other) rest))
inside_once (a ∷ meant) [] tail rest e h k = absurd (no_byte a (doubled meant ++ tail) rest k (sym e ∙ append_assoc (byte_inside a) (doubled meant) tail))
inside_once (a ∷ meant) (b ∷ other) tail rest e h k =
    let first = byte_once a b (doubled meant ++ tail) (doubled other ++ rest)
    (sym (append_assoc (byte_inside a) (doubled meant) tail) ∙ e ∙ append_assoc (byte_inside b) (doubled other) rest) in
    let more = inside_once meant other tail rest first.1 h k in
    (rw (first.0, more.0) refl, more.1)

-- a text has one inside
pub has_once : (text inside tail other rest : List ℕ) → HasInside text inside tail → HasInside text other rest → (inside ≡ other) × (tail ≡ rest)
has_once text inside tail other rest h k =
    let e : 39 ∷ (inside ++ tail) ≡ 39 ∷ (other ++ rest) = sym h.whole ∙ k.whole in
    let f : inside ++ tail ≡ other ++ rest = cc in
    let once = inside_once h.meant k.meant tail rest (ap (λ bytes. bytes ++ tail) (sym h.written) ∙ f ∙ ap (λ bytes. bytes ++ rest) k.written) h.ends k.ends in
    (h.written ∙ ap doubled once.0 ∙ sym k.written, once.1)

-- the inside of a constant that stands
pub stands_inside : (text meant after : List ℕ) → Stands (constant meant) text after → HasInside text (doubled meant) (39 ∷ after)
stands_inside text meant after stands = record {
  meant = meant;
  written = refl;
  whole = stands.whole ∙ ap (λ bytes. 39 ∷ bytes) (append_assoc (doubled meant) (39 ∷ []) after);
  ends = inr (after, refl, stands.ends);
}

-- a byte before others
halved-other : (byte : ℕ) (bytes : List ℕ) → is_quote byte ≡ false → halved (byte ∷ bytes) ≡ byte ∷ halved bytes
halved-other byte [] q = refl
halved-other byte (next ∷ bytes) q = rw q refl

-- what is written means what it was
pub halved-doubled : (meant : List ℕ) → halved (doubled meant) ≡ meant
halved-doubled [] = refl
halved-doubled (byte ∷ meant) = by (quote_or_not byte) (halved-doubled meant)
  where
    by : (byte ≡ 39) ⊎ (is_quote byte ≡ false) → halved (doubled meant) ≡ meant → halved (byte_inside byte ++ doubled meant) ≡ byte ∷ meant
    by (inl q) e = rw q (ap (λ bytes. 39 ∷ bytes) e)
    by (inr q) e = rw q (halved-other byte (doubled meant) q ∙ ap (λ bytes. byte ∷ bytes) e)

-- so the inside is that of what it means
pub inside_is : (text inside tail : List ℕ) → HasInside text inside tail → inside ≡ doubled (halved inside)
inside_is text inside tail h = rw (h.written) (ap doubled (sym (halved-doubled h.meant)))

-- a text that is UTF-8 is valid to its end
pub no_break : (inside : List ℕ) (valid : ℕ) → IsUtf8 inside → IsValidUpTo inside valid → ⊥
no_break inside valid utf8 until = until.longest (length inside) until.short (rw (take-length inside) utf8)

-- only nothing is written as nothing
doubled_empty : (meant : List ℕ) → doubled meant ≡ [] → meant ≡ []
doubled_empty [] e = refl
doubled_empty (byte ∷ meant) e = absurd (by (is_quote byte) e)
  where
    by : (b : Bool) → cond b (39 ∷ 39 ∷ []) (byte ∷ []) ++ doubled meant ≡ [] → ⊥
    by true k = cc k
    by false k = cc k

module _ (text later inside tail : List ℕ) (opens : text ≡ 39 ∷ later) (has : HasInside (39 ∷ later) inside tail) where
  -- a constant at the front has this inside
  pub front_constant : (meant after : List ℕ) → Stands (constant meant) text after → (inside ≡ doubled meant) × (tail ≡ 39 ∷ after)
  front_constant meant after stands = has_once (39 ∷ later) inside tail (doubled meant) (39 ∷ after) has
      (subst (λ bytes. HasInside bytes (doubled meant) (39 ∷ after)) opens (stands_inside text meant after stands))

  -- so it isn't empty
  pub no_empty : inside ≡ [] → (meant after : List ℕ) → Stands (constant meant) text after → ⊥
  no_empty none meant after stands = stands.valid.0 (doubled_empty meant (sym (front_constant meant after stands).0 ∙ none))

  -- and it is UTF-8
  pub utf8_inside : (meant after : List ℕ) → Stands (constant meant) text after → IsUtf8 inside
  utf8_inside meant after stands = subst IsUtf8 (sym (front_constant meant after stands).0) stands.valid.1

  -- a closed inside that isn't empty and is UTF-8 is a constant
  pub constant_stands : (written after : List ℕ) → tail ≡ 39 ∷ after → (inside ≡ [] → ⊥) → written ≡ inside → IsUtf8 inside
      → Stands (constant (halved written)) text after
  constant_stands written after closes some same utf8 =
      let is : doubled (halved written) ≡ inside = ap (λ bytes. doubled (halved bytes)) same ∙ sym (inside_is (39 ∷ later) inside tail has) in
      record {
        valid = (λ none. some (sym is ∙ ap doubled none), subst IsUtf8 (sym is) utf8);
        whole =
            opens ∙ has.whole ∙ ap (λ bytes. 39 ∷ bytes) (ap (λ bytes. inside ++ bytes) closes ∙ ap (λ bytes. bytes ++ 39 ∷ after) (sym is)
            ∙ sym (append_assoc (doubled (halved written)) (39 ∷ []) after));
        ends = after_quote has.ends;
      }
    where
      after_quote : IsInsideEnd tail → begins is_quote after ≡ false
      after_quote (inl none) = let k : [] ≡ 39 ∷ after = sym none ∙ closes in cc k
      after_quote (inr (more, at, apart)) = let k : 39 ∷ more ≡ 39 ∷ after = sym at ∙ closes in let same : more ≡ after = cc in
          subst (λ bytes. begins is_quote bytes ≡ false) same apart

-- a text begins with one byte
pub other_byte : (text later rest : List ℕ) (a b : ℕ) → (a ≡ b → ⊥) → text ≡ a ∷ later → text ≡ b ∷ rest → ⊥
other_byte text later rest a b apart e f = let same : a ≡ b = cc in apart same

pub some_bytes : (text later : List ℕ) (a : ℕ) → text ≡ a ∷ later → text ≡ [] → ⊥
some_bytes text later a e f = let k : [] ≡ a ∷ later = sym f ∙ e in cc k

module _ (text inside tail : List ℕ) (has : HasInside text inside tail) where
  not_between : text ≡ [] → ⊥
  not_between = some_bytes text (inside ++ tail) 39 has.whole

  not_variable : text ≡ 63 ∷ [] → ⊥
  not_variable = other_byte text (inside ++ tail) [] 39 63 (λ k. cc k) has.whole

  not_arrow : text ≡ 60 ∷ [] → ⊥
  not_arrow = other_byte text (inside ++ tail) [] 39 60 (λ k. cc k) has.whole

  -- where an inside is closed, the text doesn't end inside a token
  pub no_end_inside : (place : Place) → (tail ≡ [] → ⊥) → EndsInside place text → ⊥
  no_end_inside place closed h =
      elim h [
        | between e ↦ not_between e
        | in_variable may e ↦ not_variable e
        | in_arrow may e ↦ not_arrow e
        | in_constant may other unclosed utf8 ↦ closed (has_once text inside tail other [] has unclosed).1
      ]

-- where the inside is UTF-8, the text doesn't break there
pub no_break_inside : (place : Place) (later inside tail : List ℕ) → HasInside (39 ∷ later) inside tail → IsUtf8 inside → (left : ℕ)
    → BreaksInside place (39 ∷ later) left → ⊥
no_break_inside place later inside tail has utf8 left breaks =
    let once = has_once (39 ∷ later) inside tail breaks.inside breaks.tail has breaks.is_inside in
    no_break breaks.inside breaks.valid (subst IsUtf8 once.0 utf8) breaks.utf8_until
