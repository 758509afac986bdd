-- What the calls of the trail keep of assumptions and of units.
use Rattle.std.proofs.Common.{◌≡◌, ℕ, ◌<◌, ◌≤◌, ◌+◌, inl, inr, List, [], ◌∷◌, ◌++◌, length, get_or, All, None, IsSome, sym, ap, arith}
use Rattle.std.proofs.lemmas.List.Elements.{All-append, All-push, Contains-push}
use Rattle.cdcl_trail.specs.declared.trail_entry.TrailEntry.{TrailEntry}
use Rattle.clause_meaning.specs.Learning.{With}
use Rattle.clause_learning.specs.Searching.{AreAssumed, UnitsStand}
use Rattle.clause_learning.proofs.LevelFacts.{IsKnownAt-append, IsKnownAt-append_above}
use Rattle.clause_learning.proofs.Growing.{All-front, none_some}

pub AreAssumed-lower : (L : ℕ → Type 0) (entries : List TrailEntry) (a b : ℕ) → a ≤ b → AreAssumed L entries b → AreAssumed L entries a
AreAssumed-lower L entries a b h given k d p none above up = given k d p none above (omega (arith, h, up))

-- an assumption is decided
pub AreAssumed-assume : (L : ℕ → Type 0) (entries : List TrailEntry) (e : TrailEntry) (level : ℕ) → All (λ (x : TrailEntry). x.level ≤ level) entries
    → L e.literal
    → AreAssumed L entries level → AreAssumed L (entries ++ e ∷ []) (level + 1)
AreAssumed-assume L entries e level up given h =
    All-push (λ (x : TrailEntry). x.reason ≡ None → 0 < x.level → x.level ≤ level + 1 → L x.literal) entries e
    (λ k d p none above low. h k d p none above (up k d p)) (λ none above low. given)

-- another literal is decided, or one is fixed
pub AreAssumed-guess : (L : ℕ → Type 0) (entries : List TrailEntry) (e : TrailEntry) (level : ℕ) → (0 < e.level → level < e.level) → AreAssumed L entries level
    → AreAssumed L (entries ++ e ∷ []) level
AreAssumed-guess L entries e level higher h =
    All-push (λ (x : TrailEntry). x.reason ≡ None → 0 < x.level → x.level ≤ level → L x.literal) entries e h
    (λ none above low. (let over = higher above in absurd (omega (arith, over, low))))

-- entries with reasons are added
pub AreAssumed-append : (L : ℕ → Type 0) (entries more : List TrailEntry) (level : ℕ) → All (λ (x : TrailEntry). IsSome x.reason) more
    → AreAssumed L entries level
    → AreAssumed L (entries ++ more) level
AreAssumed-append L entries more level some h =
    All-append (λ (x : TrailEntry). x.reason ≡ None → 0 < x.level → x.level ≤ level → L x.literal) entries more h
    (λ k d p none above low. absurd (none_some (get_or more k d) none (some k d p)))

pub AreAssumed-front : (L : ℕ → Type 0) (entries gone : List TrailEntry) (level : ℕ) → AreAssumed L (entries ++ gone) level → AreAssumed L entries level
AreAssumed-front L entries gone level h = All-front (λ (x : TrailEntry). x.reason ≡ None → 0 < x.level → x.level ≤ level → L x.literal) entries gone h

pub UnitsStand-append : (S : List ℕ → Type 0) (entries more : List TrailEntry) → UnitsStand S entries → UnitsStand S (entries ++ more)
UnitsStand-append S entries more stand u s = IsKnownAt-append entries more 0 u (stand u s)

-- what is above a level is gone
pub UnitsStand-front : (S : List ℕ → Type 0) (entries gone : List TrailEntry) (target : ℕ) → All (λ (e : TrailEntry). target < e.level) gone
    → UnitsStand S (entries ++ gone) → UnitsStand S entries
UnitsStand-front S entries gone target above stand u s =
    IsKnownAt-append_above entries gone 0 u (λ k d p. (let h : target < (get_or gone k d).level = above k d p in omega (arith, h))) (stand u s)

-- a longer clause is added
pub UnitsStand-longer : (S : List ℕ → Type 0) (entries : List TrailEntry) (clause : List ℕ) → 2 ≤ length clause → UnitsStand S entries
    → UnitsStand (With S clause) entries
UnitsStand-longer S entries clause two stand u (inl s) = stand u s
UnitsStand-longer S entries clause two stand u (inr e) = (let short : 1 ≡ length clause = ap length e in absurd (omega (arith, short, two)))

-- a unit clause is added, and its literal fixed on level 0
pub UnitsStand-unit : (S : List ℕ → Type 0) (entries : List TrailEntry) (e : TrailEntry) → e.level ≡ 0 → UnitsStand S entries
    → UnitsStand (With S (e.literal ∷ [])) (entries ++ e ∷ [])
UnitsStand-unit S entries e low stand u (inl s) = IsKnownAt-append entries (e ∷ []) 0 u (stand u s)
UnitsStand-unit S entries e low stand u (inr same) =
    (let m = Contains-push entries e in (m.0, e, m.1, m.2, (sym (ap head same), omega (arith, low))))
  where
    head : List ℕ → ℕ
    head [] = 0
    head (x ∷ xs) = x
