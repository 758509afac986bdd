-- The axiom that words say is found, and what is found is said.
use Rattle.std.proofs.Common.{◌≡◌, ℕ, Bool, true, false, ◌&&◌, not, cond, List, [], ◌∷◌, ◌++◌, Option, Some, None, refl, sym, ap, ◌∙◌, subst, codes, append-nil}
use Rattle.std.specs.Prelude.{option_map, option_and_then}
use Rattle.std.specs.Bool.{then_some}
use Rattle.std.specs.List.{list_all}
use Rattle.std.specs.Str.{bytes_eq}
use Rattle.std.proofs.lemmas.Slice.Eq.{bytes_eq-Decides}
use Rattle.axiom_reader.specs.Name.{IsName, is_name_text, is_keyword, is_first, is_later}
use Rattle.axiom_reader.specs.Axioms.{NamedRole, NamedBasic, NamedAxiom, concept, has, concepts, roles, role_words, basic_words, sign_words, axiom_words}
use Rattle.axiom_reader.specs.Axioms.{IsNamedBasic, IsNamed}
use Rattle.axiom_reader.specs.Parts.{skip_word, name_at, role_at, basic_at, sign_at, where_ended, concepts_at, roles_at, axiom_at}
use Rattle.axiom_reader.proofs.TestLemmas.{both, fails, neither}

-- a name is no keyword
name_keyword : (name : List ℕ) → IsName name → is_keyword name ≡ false
unfolding is_name_text
name_keyword [] h = cc
name_keyword (byte ∷ bytes) h = fails (is_keyword (byte ∷ bytes)) (both (is_first byte && list_all is_later bytes) (not (is_keyword (byte ∷ bytes))) h).1

-- a word that no name is
abbrev IsOther : List ℕ → Type 0
IsOther word = (name : List ℕ) → IsName name → bytes_eq name word ≡ false

-- no name is `some`
other_some : IsOther (codes "some")
other_some name h = (neither (bytes_eq name (codes "some")) _ (name_keyword name h)).0

-- no name is `inv`
other_inv : IsOther (codes "inv")
other_inv name h = (neither (bytes_eq name (codes "inv")) _ (neither (bytes_eq name (codes "some")) _ (name_keyword name h)).1).0

-- no name is `not`
other_not : IsOther (codes "not")
other_not name h =
    (neither (bytes_eq name (codes "not")) _ (neither (bytes_eq name (codes "inv")) _ (neither (bytes_eq name (codes "some")) _ (name_keyword name h)).1).1).0

-- no name is `role`
other_role : IsOther (codes "role")
other_role name h =
    (neither (bytes_eq name (codes "role")) _ (neither (bytes_eq name (codes "not")) _
    (neither (bytes_eq name (codes "inv")) _ (neither (bytes_eq name (codes "some")) _ (name_keyword name h)).1).1).1).0

-- another word in front isn't skipped
skip_other : (word first : List ℕ) (rest : List (List ℕ)) → bytes_eq first word ≡ false
    → skip_word word (first ∷ rest) ≡ (false, first ∷ rest)
unfolding skip_word
skip_other word first rest e = rw e refl

-- the word itself in front is skipped
skip_same : (word : List ℕ) (rest : List (List ℕ)) → bytes_eq word word ≡ true → skip_word word (word ∷ rest) ≡ (true, rest)
unfolding skip_word
skip_same word rest e = rw e refl

-- a role of a name begins with no such word, but `inv`
role_by : (word : List ℕ) → IsOther word → bytes_eq (codes "inv") word ≡ false → (name : List ℕ) (inverse : Bool) (more : List (List ℕ))
    → IsName name
    → skip_word word (role_words (record { name = name; inverse = inverse }) ++ more) ≡ (false, role_words (record { name = name; inverse = inverse }) ++ more)
role_by word other apart name true more h = skip_other word (codes "inv") (name ∷ more) apart
role_by word other apart name false more h = skip_other word name more (other name h)

-- a role begins with no such word, but `inv`
role_others : (word : List ℕ) → IsOther word → bytes_eq (codes "inv") word ≡ false → (role : NamedRole) (more : List (List ℕ))
    → IsName role.name
    → skip_word word (role_words role ++ more) ≡ (false, role_words role ++ more)
role_others word other apart role more h = role_by word other apart role.name role.inverse more h

-- a basic concept begins with no such word, but `some`
basic_others : (word : List ℕ) → IsOther word → bytes_eq (codes "some") word ≡ false → (basic : NamedBasic) (more : List (List ℕ))
    → IsNamedBasic basic
    → skip_word word (basic_words basic ++ more) ≡ (false, basic_words basic ++ more)
basic_others word other apart (concept name) more h = skip_other word name more (other name h)
basic_others word other apart (has role) more h = skip_other word (codes "some") (role_words role ++ more) apart

-- a role of a name that is said is found
role_found : (name : List ℕ) (inverse : Bool) (more : List (List ℕ)) → IsName name
    → role_at (role_words (record { name = name; inverse = inverse }) ++ more) ≡ Some (record { name = name; inverse = inverse }, more)
unfolding role_at name_at skip_word
role_found name true more h = rw h refl
role_found name false more h = rw (other_inv name h, h) refl

-- a role that is said is found
role_complete : (role : NamedRole) (more : List (List ℕ)) → IsName role.name → role_at (role_words role ++ more) ≡ Some (role, more)
role_complete role more h = role_found role.name role.inverse more h

-- a basic concept that is said is found
basic_complete : (basic : NamedBasic) (more : List (List ℕ)) → IsNamedBasic basic
    → basic_at (basic_words basic ++ more) ≡ Some (basic, more)
unfolding basic_at name_at skip_word
basic_complete (concept name) more h = rw (other_some name h, h) refl
basic_complete (has role) more h = rw (role_complete role more h) refl

-- a sign that is said is found, where `not` doesn't follow it by chance
sign_complete : (negated : Bool) (more : List (List ℕ)) → skip_word (codes "not") more ≡ (false, more)
    → sign_at (sign_words negated ++ more) ≡ Some (negated, more)
unfolding sign_at skip_word
sign_complete true more h = refl
sign_complete false more h = rw h refl

-- two basic concepts that are said are found
concepts_complete : (left : NamedBasic) (negated : Bool) (right : NamedBasic) → IsNamedBasic left → IsNamedBasic right
    → concepts_at (basic_words left ++ (sign_words negated ++ basic_words right)) ≡ Some (concepts left negated right)
unfolding concepts_at
concepts_complete left negated right h k =
    let first = basic_complete left (sign_words negated ++ basic_words right) h in
    let apart : skip_word (codes "not") (basic_words right) ≡ (false, basic_words right) =
    subst (λ words. skip_word (codes "not") words ≡ (false, words)) (append-nil (basic_words right)) (basic_others (codes "not") other_not refl right [] k) in
    let sign = sign_complete negated (basic_words right) apart in
    let last : basic_at (basic_words right) ≡ Some (right, []) = ap basic_at (sym (append-nil (basic_words right))) ∙ basic_complete right [] k in
    rw (first, sign, last) refl

-- two roles that are said are found
roles_complete : (left : NamedRole) (negated : Bool) (right : NamedRole) → IsName left.name → IsName right.name
    → roles_at (role_words left ++ (sign_words negated ++ role_words right)) ≡ Some (roles left negated right)
unfolding roles_at
roles_complete left negated right h k =
    let first = role_complete left (sign_words negated ++ role_words right) h in
    let apart : skip_word (codes "not") (role_words right) ≡ (false, role_words right) =
    subst (λ words. skip_word (codes "not") words ≡ (false, words)) (append-nil (role_words right)) (role_others (codes "not") other_not refl right [] k) in
    let sign = sign_complete negated (role_words right) apart in
    let last : role_at (role_words right) ≡ Some (right, []) = ap role_at (sym (append-nil (role_words right))) ∙ role_complete right [] k in
    rw (first, sign, last) refl

-- an axiom that is said is found
pub axiom_complete : (named : NamedAxiom) → IsNamed named → axiom_at (axiom_words named) ≡ Some named
unfolding axiom_at
axiom_complete (concepts left negated right) h =
    let apart = basic_others (codes "role") other_role refl left (sign_words negated ++ basic_words right) h.0 in
    rw apart (concepts_complete left negated right h.0 h.1)
axiom_complete (roles left negated right) h = rw (skip_same (codes "role") (role_words left ++ (sign_words negated ++ role_words right)) refl)
    (roles_complete left negated right h.0 h.1)

-- a word that is skipped, put back
abbrev put_back : List ℕ → Bool → List (List ℕ) → List (List ℕ)
put_back word true rest = word ∷ rest
put_back word false rest = rest

-- what is skipped, put back
abbrev put_all_back : List ℕ → Bool × List (List ℕ) → List (List ℕ)
put_all_back word skipped = put_back word skipped.0 skipped.1

-- what is skipped was there
skip_sound : (word : List ℕ) (words : List (List ℕ)) → words ≡ put_all_back word (skip_word word words)
unfolding skip_word
skip_sound word [] = refl
skip_sound word (first ∷ rest) = by (bytes_eq first word) refl
  where
    by : (b : Bool) → bytes_eq first word ≡ b → first ∷ rest ≡ put_all_back word (cond b (true, rest) (false, first ∷ rest))
    by true e = ap (λ head. head ∷ rest) ((bytes_eq-Decides first word).0 e)
    by false e = refl

-- what a map found, it was found before
map_Some : {A B : Type 0} (f : A → B) (o : Option A) (y : B) → option_map f o ≡ Some y → (x : A) × (o ≡ Some x) × (f x ≡ y)
map_Some f None y e = cc
map_Some f (Some x) y e = (x, refl, cc)

-- what a chain found, its first step found
then_Some : {A B : Type 0} (f : A → Option B) (o : Option A) (y : B) → option_and_then f o ≡ Some y
    → (x : A) × (o ≡ Some x) × (f x ≡ Some y)
then_Some f None y e = cc
then_Some f (Some x) y e = (x, refl, e)

-- what is there on a condition, seen otherwise
pub map_then_some : {A B : Type 0} (f : A → B) (b : Bool) (x : A) → option_map f (then_some b x) ≡ cond b (Some (f x)) None
map_then_some f true x = refl
map_then_some f false x = refl

-- a name that is found is said
name_sound : (words : List (List ℕ)) (found : List ℕ × List (List ℕ)) → name_at words ≡ Some found
    → IsName found.0 × (words ≡ found.0 ∷ found.1)
unfolding name_at
name_sound [] found e = cc
name_sound (word ∷ rest) found e = by (is_name_text word) refl e
  where
    by : (b : Bool) → is_name_text word ≡ b → cond b (Some (word, rest)) None ≡ Some found
        → IsName found.0 × (word ∷ rest ≡ found.0 ∷ found.1)
    by true h s =
        let same : (word, rest) ≡ found = cc in
        subst (λ found. IsName found.0 × (word ∷ rest ≡ found.0 ∷ found.1)) same (h, refl)
    by false h s = cc

-- the words of a role
role_back : (name : List ℕ) (inverse : Bool) (rest : List (List ℕ))
    → put_back (codes "inv") inverse (name ∷ rest) ≡ role_words (record { name = name; inverse = inverse }) ++ rest
role_back name true rest = refl
role_back name false rest = refl

-- a role that is found is said
role_sound : (words : List (List ℕ)) (found : NamedRole × List (List ℕ)) → role_at words ≡ Some found
    → IsName found.0.name × (words ≡ role_words found.0 ++ found.1)
unfolding role_at
role_sound words found e =
    let skipped = skip_word (codes "inv") words in
    let some = map_Some _ (name_at skipped.1) found e in
    let name = name_sound skipped.1 some.0 some.1 in
    let said = skip_sound (codes "inv") words ∙ ap (put_back (codes "inv") skipped.0) name.1 ∙ role_back some.0.0 skipped.0 some.0.1 in
    subst (λ found. IsName found.0.name × (words ≡ role_words found.0 ++ found.1)) some.2 (name.0, said)

-- a basic concept that is found is said
basic_sound : (words : List (List ℕ)) (found : NamedBasic × List (List ℕ)) → basic_at words ≡ Some found
    → IsNamedBasic found.0 × (words ≡ basic_words found.0 ++ found.1)
unfolding basic_at
basic_sound words found e = by (skip_word (codes "some") words).0 (skip_word (codes "some") words).1 (skip_sound (codes "some") words) e
  where
    by : (b : Bool) (rest : List (List ℕ)) → words ≡ put_back (codes "some") b rest
        → cond b (option_map (λ some. (has some.0, some.1)) (role_at rest)) (option_map (λ some. (concept some.0, some.1)) (name_at rest)) ≡ Some found
        → IsNamedBasic found.0 × (words ≡ basic_words found.0 ++ found.1)
    by true rest h s =
        let some = map_Some _ (role_at rest) found s in
        let role = role_sound rest some.0 some.1 in
        subst (λ found. IsNamedBasic found.0 × (words ≡ basic_words found.0 ++ found.1)) some.2 (role.0, h ∙ ap (λ rest. codes "some" ∷ rest) role.1)
    by false rest h s =
        let some = map_Some _ (name_at rest) found s in
        let name = name_sound rest some.0 some.1 in
        subst (λ found. IsNamedBasic found.0 × (words ≡ basic_words found.0 ++ found.1)) some.2 (name.0, h ∙ name.1)

-- the words of a sign
sign_back : (negated : Bool) (rest : List (List ℕ)) → codes "<" ∷ put_back (codes "not") negated rest ≡ sign_words negated ++ rest
sign_back true rest = refl
sign_back false rest = refl

-- a sign that is found is said
sign_sound : (words : List (List ℕ)) (found : Bool × List (List ℕ)) → sign_at words ≡ Some found → words ≡ sign_words found.0 ++ found.1
unfolding sign_at
sign_sound words found e = by (skip_word (codes "<") words).0 (skip_word (codes "<") words).1 (skip_sound (codes "<") words) e
  where
    by : (b : Bool) (rest : List (List ℕ)) → words ≡ put_back (codes "<") b rest
        → cond b (Some (skip_word (codes "not") rest)) None ≡ Some found → words ≡ sign_words found.0 ++ found.1
    by true rest h s =
        let same : skip_word (codes "not") rest ≡ found = cc in
        let said = h ∙ ap (λ rest. codes "<" ∷ rest) (skip_sound (codes "not") rest)
        ∙ sign_back (skip_word (codes "not") rest).0 (skip_word (codes "not") rest).1 in
        subst (λ found. words ≡ sign_words found.0 ++ found.1) same said
    by false rest h s = cc

-- what has ended has no word left
ended_sound : (named found : NamedAxiom) (words : List (List ℕ)) → where_ended named words ≡ Some found → (words ≡ []) × (named ≡ found)
ended_sound named found [] e = (refl, cc)
ended_sound named found (word ∷ words) e = cc

-- two sides that are found are said
concepts_sound : (words : List (List ℕ)) (found : NamedAxiom) → concepts_at words ≡ Some found → IsNamed found × (words ≡ axiom_words found)
unfolding concepts_at
concepts_sound words found e =
    let left = then_Some _ (basic_at words) found e in
    let sign = then_Some _ (sign_at left.0.1) found left.2 in
    let right = then_Some _ (basic_at sign.0.1) found sign.2 in
    let first = basic_sound words left.0 left.1 in
    let middle = sign_sound left.0.1 sign.0 sign.1 in
    let last = basic_sound sign.0.1 right.0 right.1 in
    let ended = ended_sound (concepts left.0.0 sign.0.0 right.0.0) found right.0.1 right.2 in
    let tail : sign.0.1 ≡ basic_words right.0.0 = last.1 ∙ ap (λ rest. basic_words right.0.0 ++ rest) ended.0 ∙ append-nil (basic_words right.0.0) in
    let said : words ≡ axiom_words (concepts left.0.0 sign.0.0 right.0.0) =
    first.1 ∙ ap (λ rest. basic_words left.0.0 ++ rest) (middle ∙ ap (λ rest. sign_words sign.0.0 ++ rest) tail) in
    subst (λ found. IsNamed found × (words ≡ axiom_words found)) ended.1 ((first.0, last.0), said)

-- so are two roles, after their first word
roles_sound : (words : List (List ℕ)) (found : NamedAxiom) → roles_at words ≡ Some found
    → IsNamed found × (codes "role" ∷ words ≡ axiom_words found)
unfolding roles_at
roles_sound words found e =
    let left = then_Some _ (role_at words) found e in
    let sign = then_Some _ (sign_at left.0.1) found left.2 in
    let right = then_Some _ (role_at sign.0.1) found sign.2 in
    let first = role_sound words left.0 left.1 in
    let middle = sign_sound left.0.1 sign.0 sign.1 in
    let last = role_sound sign.0.1 right.0 right.1 in
    let ended = ended_sound (roles left.0.0 sign.0.0 right.0.0) found right.0.1 right.2 in
    let tail : sign.0.1 ≡ role_words right.0.0 = last.1 ∙ ap (λ rest. role_words right.0.0 ++ rest) ended.0 ∙ append-nil (role_words right.0.0) in
    let said : words ≡ role_words left.0.0 ++ (sign_words sign.0.0 ++ role_words right.0.0) =
    first.1 ∙ ap (λ rest. role_words left.0.0 ++ rest) (middle ∙ ap (λ rest. sign_words sign.0.0 ++ rest) tail) in
    subst (λ found. IsNamed found × (codes "role" ∷ words ≡ axiom_words found)) ended.1 ((first.0, last.0), ap (λ rest. codes "role" ∷ rest) said)

-- an axiom that is found is said
pub axiom_sound : (words : List (List ℕ)) (found : NamedAxiom) → axiom_at words ≡ Some found → IsNamed found × (words ≡ axiom_words found)
unfolding axiom_at
axiom_sound words found e = by (skip_word (codes "role") words).0 (skip_word (codes "role") words).1 (skip_sound (codes "role") words) e
  where
    by : (b : Bool) (rest : List (List ℕ)) → words ≡ put_back (codes "role") b rest
        → cond b (roles_at rest) (concepts_at rest) ≡ Some found → IsNamed found × (words ≡ axiom_words found)
    by true rest h s = let said = roles_sound rest found s in (said.0, h ∙ said.1)
    by false rest h s = let said = concepts_sound rest found s in (said.0, h ∙ said.1)
