-- What follows from tests that pass or fail.
use Rattle.std.proofs.Common.{◌≡◌, Bool, true, false, ◌&&◌, ◌||◌, not, refl}

-- both of two tests pass
pub both : (a b : Bool) → (a && b) ≡ true → (a ≡ true) × (b ≡ true)
both true b h = (refl, h)
both false b h = cc

-- none of two tests passes
pub neither : (a b : Bool) → (a || b) ≡ false → (a ≡ false) × (b ≡ false)
neither true b h = cc
neither false b h = (refl, h)

-- a test that doesn't pass fails
pub untrue : (b : Bool) → ¬ (b ≡ true) → b ≡ false
untrue true h = absurd (h refl)
untrue false h = refl

-- a test whose opposite fails passes
pub passes : (b : Bool) → not b ≡ false → b ≡ true
passes true h = refl
passes false h = cc

-- a test whose opposite passes fails
pub fails : (b : Bool) → not b ≡ true → b ≡ false
fails true h = cc
fails false h = refl
