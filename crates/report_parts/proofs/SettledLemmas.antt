-- Tests over the cores of an answer.
use Rattle.std.proofs.Common.{◌≡◌, ℕ, List, [], ◌∷◌, ◌++◌, filter_map, Bool, true, false, ◌||◌, Option, Some, None, refl, sym, ap, ◌∙◌}
use Rattle.std.specs.Prelude.{slice_get}
use Rattle.std.specs.List.{list_any, cons_option}
use Rattle.std.proofs.lemmas.List.Folds.{list_any-append}
use Rattle.report_laws.specs.Standing.{Core}
use Rattle.report_laws.specs.Settling.{cores_at}
use Rattle.report_parts.specs.Tests.{passes}

any_first : {Y : Type 0} (p : Y → Bool) (o : Option Y) (ys : List Y) → list_any p (cons_option o ys) ≡ (passes p o || list_any p ys)
any_first p None ys = refl
any_first p (Some y) ys = refl

-- of what a function gives one passes
any_given : {X Y : Type 0} (p : Y → Bool) (f : X → Option Y) (xs : List X) → list_any p (filter_map f xs) ≡ list_any (λ x. passes p (f x)) xs
any_given p f [] = refl
any_given p f (x ∷ xs) = any_first p (f x) (filter_map f xs) ∙ ap (λ (b : Bool). passes p (f x) || b) (any_given p f xs)

-- a core of either list of numbers passes
pub any_core : (p : Core → Bool) (cores : List Core) (xs ys : List ℕ) → list_any p (cores_at cores (xs ++ ys))
    ≡ (list_any (λ n. passes p (slice_get cores n)) xs || list_any (λ n. passes p (slice_get cores n)) ys)
any_core p cores xs ys = any_given p (slice_get cores) (xs ++ ys) ∙ list_any-append (λ n. passes p (slice_get cores n)) xs ys

-- the first of two tests decides, or the second
pub or_first : (r a b whole : Bool) → r ≡ true → r ≡ a → whole ≡ (a || b) → r ≡ whole
or_first r a b whole t e w = t ∙ sym (w ∙ ap (λ (x : Bool). x || b) (sym e ∙ t))

pub or_second : (r s a b whole : Bool) → r ≡ false → r ≡ a → s ≡ b → whole ≡ (a || b) → s ≡ whole
or_second r s a b whole f e g w = g ∙ sym (w ∙ ap (λ (x : Bool). x || b) (sym e ∙ f))
