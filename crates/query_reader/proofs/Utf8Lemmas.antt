-- What a constant means is UTF-8, where it is so written.
use Rattle.std.proofs.Common.{◌≡◌, ◌⊎◌, inl, inr, ℕ, suc, ◌<◌, true, false, List, [], ◌∷◌, ◌++◌, length, get_or, refl, sym, ap, ◌∙◌, arith, append-nil, subst}
use Rattle.std.proofs.Common.{eqb}
use Rattle.std.specs.Str.{IsUtf8}
use Rattle.std.proofs.lemmas.Str.{IsUtf8-nil, IsUtf8-append, encode_ascii, inside_one, char_from_byte}
use lib.Utf8.{scalar, scalars, encodes, encode}
use Rattle.query_reader.specs.Tokens.{byte_inside, doubled}
use Rattle.std.proofs.lemmas.Bool.Decides.{Decides-eqb}
use Rattle.query_reader.specs.Parts.{halved}
use Rattle.query_reader.proofs.InsideLemmas.{quote_or_not}
use Rattle.query_reader.proofs.RunLemmas.{both}

-- how a quote is written, and another byte
written_quote : (byte : ℕ) → byte ≡ 39 → byte_inside byte ≡ 39 ∷ 39 ∷ []
written_quote byte q = rw q refl

written_other : (byte : ℕ) → eqb byte 39 ≡ false → byte_inside byte ≡ byte ∷ []
written_other byte q = rw q refl

-- bytes without a quote are written as they are
strip : (front rest meant : List ℕ) → ((k : ℕ) → k < length front → get_or front k 0 ≡ 39 → ⊥) → front ++ rest ≡ doubled meant → (more : List ℕ)
    × (meant ≡ front ++ more) × (rest ≡ doubled more)
strip [] rest meant none e = (meant, refl, e)
strip (b ∷ front) rest [] none e = cc e
strip (b ∷ front) rest (m ∷ meant) none e = by (quote_or_not m) (strip front rest meant (λ k lt. none (suc k) (omega arith)))
  where
    by : (m ≡ 39) ⊎ (eqb m 39 ≡ false) → (front ++ rest ≡ doubled meant → (more : List ℕ) × (meant ≡ front ++ more) × (rest ≡ doubled more)) → (more : List ℕ)
        × (m ∷ meant ≡ (b ∷ front) ++ more) × (rest ≡ doubled more)
    by (inl q) ih =
        let k : b ∷ (front ++ rest) ≡ 39 ∷ 39 ∷ doubled meant = e ∙ ap (λ bytes. bytes ++ doubled meant) (written_quote m q) in
        let same : b ≡ 39 = cc in
        absurd (none 0 (omega arith) same)
    by (inr q) ih =
        let k : b ∷ (front ++ rest) ≡ m ∷ doubled meant = e ∙ ap (λ bytes. bytes ++ doubled meant) (written_other m q) in
        let same : m ≡ b = cc in
        let tail : front ++ rest ≡ doubled meant = cc in
        let found = ih tail in
        let whole : m ∷ meant ≡ b ∷ (front ++ found.0) = ap (λ byte. byte ∷ meant) same ∙ ap (λ bytes. b ∷ bytes) found.1 in
        (found.0, whole, found.2)

-- a character is UTF-8
one_utf8 : (c : ℕ) → scalar c ≡ true → IsUtf8 (encode c)
one_utf8 c h = (c ∷ [], (rw h refl, append-nil (encode c)))

quote_utf8 : IsUtf8 (39 ∷ [])
unfolding encode
quote_utf8 = (39 ∷ [], (refl, refl))

-- a quote at the front is the character
first_quote : (c : ℕ) (cs meant : List ℕ) → encode c ++ encodes cs ≡ 39 ∷ meant → (c ≡ 39) × (encodes cs ≡ meant)
unfolding encode
first_quote c cs meant e =
    let same : c ≡ 39 = char_from_byte (39 ∷ meant) (encodes cs) c (sym e) (omega arith) (omega arith) in
    let k : 39 ∷ encodes cs ≡ 39 ∷ meant = subst (λ d. encode d ++ encodes cs ≡ 39 ∷ meant) same e in
    (same, cc)

-- a quote as a character is its byte
quote_bytes : (c : ℕ) (bytes : List ℕ) → c ≡ 39 → encode c ++ bytes ≡ 39 ∷ bytes
quote_bytes c bytes q = ap (λ d. encode d ++ bytes) q ∙ ap (λ front. front ++ bytes) (encode_ascii 39 (omega arith))

-- a written quote is two, and then come the others
after_quote : (m : ℕ) (rest meant : List ℕ) → 39 ∷ rest ≡ byte_inside m ++ doubled meant → (m ≡ 39) × (rest ≡ 39 ∷ doubled meant)
after_quote m rest meant e = by (quote_or_not m)
  where
    by : (m ≡ 39) ⊎ (eqb m 39 ≡ false) → (m ≡ 39) × (rest ≡ 39 ∷ doubled meant)
    by (inl q) = let k : 39 ∷ rest ≡ 39 ∷ 39 ∷ doubled meant = e ∙ ap (λ bytes. bytes ++ doubled meant) (written_quote m q) in (q, cc)
    by (inr q) =
        let k : 39 ∷ rest ≡ m ∷ doubled meant = e ∙ ap (λ bytes. bytes ++ doubled meant) (written_other m q) in
        let same : m ≡ 39 = cc in
        let both : true ≡ false = sym ((Decides-eqb m 39).1 same) ∙ q in cc both

-- what these characters write in a constant is UTF-8
abbrev Gives : List ℕ → Type 0
Gives cs = (meant : List ℕ) → scalars cs ≡ true → encodes cs ≡ doubled meant → IsUtf8 meant

-- two characters that are quotes, and then others
pairs : (d : ℕ) (ds meant : List ℕ) → scalars (d ∷ ds) ≡ true → Gives ds → encodes (d ∷ ds) ≡ 39 ∷ doubled meant → IsUtf8 (39 ∷ meant)
pairs d ds meant h ih e =
    let second = first_quote d ds (doubled meant) e in
    IsUtf8-append (39 ∷ []) meant quote_utf8 (ih meant (both (scalar d) (scalars ds) h).1 second.1)

-- another character, and then others
single : (c : ℕ) (cs meant : List ℕ) → (c ≡ 39 → ⊥) → scalars (c ∷ cs) ≡ true → Gives cs → encodes (c ∷ cs) ≡ doubled meant → IsUtf8 meant
single c cs meant other h ih e =
    let found = strip (encode c) (encodes cs) meant (λ k lt q. other (inside_one c [] (encode c) k (sym (append-nil (encode c))) lt (omega arith) ∙ q)) e in
    let parts = both (scalar c) (scalars cs) h in
    subst IsUtf8 (sym found.1) (IsUtf8-append (encode c) found.0 (one_utf8 c parts.0) (ih found.0 parts.1 found.2))

-- no byte is written as nothing
written_some : (m : ℕ) (meant : List ℕ) → [] ≡ byte_inside m ++ doubled meant → ⊥
written_some m meant e = by (quote_or_not m)
  where
    by : (m ≡ 39) ⊎ (eqb m 39 ≡ false) → ⊥
    by (inl q) = let k : [] ≡ 39 ∷ 39 ∷ doubled meant = e ∙ ap (λ bytes. bytes ++ doubled meant) (written_quote m q) in cc k
    by (inr q) = let k : [] ≡ m ∷ doubled meant = e ∙ ap (λ bytes. bytes ++ doubled meant) (written_other m q) in cc k

-- one character more, where the next ones and those after the next give their texts
step : (c : ℕ) (cs meant : List ℕ) → scalars (c ∷ cs) ≡ true → Gives cs → ((d : ℕ) (ds : List ℕ) → cs ≡ d ∷ ds → Gives ds) → encodes (c ∷ cs) ≡ doubled meant
    → IsUtf8 meant
step c cs [] h ih later e = IsUtf8-nil
step c cs (m ∷ meant) h ih later e = by (quote_or_not c) cs refl
  where
    by : (c ≡ 39) ⊎ (eqb c 39 ≡ false) → (others : List ℕ) → cs ≡ others → IsUtf8 (m ∷ meant)
    by (inr q) others same = single c cs (m ∷ meant) (λ is. let k : true ≡ false = sym ((Decides-eqb c 39).1 is) ∙ q in cc k) h ih e
    by (inl q) [] same =
        let next = after_quote m (encodes cs) meant (sym (quote_bytes c (encodes cs) q) ∙ e) in
        let k : [] ≡ 39 ∷ doubled meant = ap encodes (sym same) ∙ next.1 in cc k
    by (inl q) (d ∷ ds) same =
        let next = after_quote m (encodes cs) meant (sym (quote_bytes c (encodes cs) q) ∙ e) in
        let tail : scalars (d ∷ ds) ≡ true = ap scalars (sym same) ∙ (both (scalar c) (scalars cs) h).1 in
        subst (λ byte. IsUtf8 (byte ∷ meant)) (sym next.0) (pairs d ds meant tail (later d ds same) (ap encodes (sym same) ∙ next.1))

-- the characters of what is written in a constant give those of what it means
gives : (cs : List ℕ) → Gives cs
gives [] [] h e = IsUtf8-nil
gives [] (m ∷ meant) h e = absurd (written_some m meant e)
gives (c ∷ []) meant h e = step c [] meant h (gives []) (λ d ds same. cc same) e
gives (c ∷ d ∷ ds) meant h e = step c (d ∷ ds) meant h (gives (d ∷ ds)) (λ x xs same. let k : ds ≡ xs = cc in subst Gives k (gives ds)) e

-- what a constant means is UTF-8, where it is so written
pub IsUtf8-halved : (written : List ℕ) → written ≡ doubled (halved written) → IsUtf8 written → IsUtf8 (halved written)
IsUtf8-halved written same utf8 = gives utf8.0 (halved written) utf8.1.0 (utf8.1.1 ∙ same)
