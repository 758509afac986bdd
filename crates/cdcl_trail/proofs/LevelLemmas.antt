-- Levels that rise by single steps.
use Rattle.std.proofs.Common.{◌≡◌, ℕ, zero, suc, ◌<◌, ◌≤◌, ◌+◌, Option, Some, None, IfSome, IfNone, get_or, List, [], ◌∷◌, ◌++◌, length, All, refl, subst, ap}
use Rattle.std.proofs.Common.{◌∙◌, arith}
use Rattle.std.proofs.lemmas.List.{append_assoc}
use Rattle.std.proofs.lemmas.List.Elements.{All-cons, All-nil}
use Rattle.cdcl_trail.specs.declared.trail_entry.TrailEntry.{TrailEntry}
use Rattle.cdcl_trail.specs.Levels.{last_level, RiseFrom}

pub last_level-push : (before : ℕ) (entries : List TrailEntry) (e : TrailEntry) → last_level before (entries ++ e ∷ []) ≡ e.level
last_level-push before [] e = refl
last_level-push before (x ∷ xs) e = last_level-push x.level xs e

pub RiseFrom-push : (before : ℕ) (entries : List TrailEntry) (e : TrailEntry) → RiseFrom before entries → last_level before entries ≤ e.level
    → e.level ≤ last_level before entries + 1
    → RiseFrom before (entries ++ e ∷ [])
RiseFrom-push before [] e rise low high = (low, high, tt)
RiseFrom-push before (x ∷ xs) e (from, to, rise) low high = (from, to, RiseFrom-push x.level xs e rise low high)

pub RiseFrom-front : (before : ℕ) (entries : List TrailEntry) (e : TrailEntry) → RiseFrom before (entries ++ e ∷ []) → RiseFrom before entries
    × (e.level ≤ last_level before entries + 1)
RiseFrom-front before [] e (from, to, rise) = (tt, to)
RiseFrom-front before (x ∷ xs) e (from, to, rise) = (let r = RiseFrom-front x.level xs e rise in ((from, to, r.0), r.1))

pub last_level-few : (before : ℕ) (entries : List TrailEntry) → RiseFrom before entries → last_level before entries ≤ before + length entries
last_level-few before [] rise = omega arith
last_level-few before (x ∷ xs) (from, to, rise) = (let r = last_level-few x.level xs rise in omega arith)

-- the levels don't fall
last_level-above : (before : ℕ) (entries : List TrailEntry) → RiseFrom before entries → before ≤ last_level before entries
last_level-above before [] rise = omega arith
last_level-above before (x ∷ xs) (from, to, rise) = (let r = last_level-above x.level xs rise in omega arith)

pub All-up_to_last : (before : ℕ) (entries : List TrailEntry) (target : ℕ) → RiseFrom before entries → last_level before entries ≤ target
    → All (λ (e : TrailEntry). e.level ≤ target) entries
All-up_to_last before [] target rise up = All-nil (λ (e : TrailEntry). e.level ≤ target)
All-up_to_last before (x ∷ xs) target (from, to, rise) up =
    let above = last_level-above x.level xs rise in
    All-cons (λ (e : TrailEntry). e.level ≤ target) x xs (omega arith) (All-up_to_last x.level xs target rise up)

-- the level of the newest entry, by its place
pub last_level-at : (before : ℕ) (entries : List TrailEntry) (n : ℕ) (d : TrailEntry) → n + 1 ≡ length entries
    → (get_or entries n d).level ≡ last_level before entries
last_level-at before [] n d h = absurd (omega arith)
last_level-at before (x ∷ []) zero d h = refl
last_level-at before (x ∷ []) (suc n) d h = absurd (omega arith)
last_level-at before (x ∷ (y ∷ ys)) zero d h = absurd (omega arith)
last_level-at before (x ∷ (y ∷ ys)) (suc n) d h = last_level-at x.level (y ∷ ys) n d (omega arith)

-- what a cut keeps: the entries so far rise to the target at least, and those that are gone are above it
pub record CutHolds (all entries : List TrailEntry) (target : ℕ) : Type 0 where
  pub rise : RiseFrom 0 entries
  pub reached : target ≤ last_level 0 entries
  pub cut : (gone : List TrailEntry) × (all ≡ entries ++ gone) × All (λ (e : TrailEntry). target < e.level) gone

pub CutHolds-more : (all entries new : List TrailEntry) (r : Option TrailEntry) (target : ℕ) → CutHolds all entries target → target < last_level 0 entries
    → IfSome r (λ (e : TrailEntry). entries ≡ new ++ e ∷ []) → IfNone r ((entries ≡ []) × (new ≡ [])) → CutHolds all new target
CutHolds-more all entries new None target h above some none =
    let last : last_level 0 entries ≡ 0 = ap (last_level 0) none.0 in
    absurd (omega (arith, above, last))
CutHolds-more all entries new (Some e) target h above some none =
    let front = RiseFrom-front 0 new e (subst (RiseFrom 0) some h.rise) in
    let last : last_level 0 entries ≡ e.level = ap (last_level 0) some ∙ last_level-push 0 new e in
    record {
      rise = front.0;
      reached = omega (arith, above, last, front.1);
      cut = (
        e ∷ h.cut.0,
        h.cut.1 ∙ (ap (λ (es : List TrailEntry). es ++ h.cut.0) some ∙ append_assoc new (e ∷ []) h.cut.0),
        All-cons (λ (x : TrailEntry). target < x.level) e h.cut.0 (omega (arith, above, last)) h.cut.2,
      );
    }
