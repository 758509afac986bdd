use Rattle.std.proofs.Common.{◌≡◌, ◌∙◌, sym, ap, ℕ, false, List, [], ◌∷◌, ◌++◌, map, Vec, Global}
use Rattle.std.specs.List.{list_any}
use Rattle.std.specs.Str.{bytes_eq}
use Rattle.std.proofs.lemmas.List.{map-append}
use Rattle.indexmap.specs.IndexSet.{insert_key}
use Rattle.cq_terms.proofs.NamesLemmas.{list_any-map}
use Rattle.perfect_ref.proofs.member_codes.MemberCodes.add.Goals as goal

appended : (ks : List (Vec ℕ Global)) (k : Vec ℕ Global) → list_any (bytes_eq k.items) (map (λ (v : Vec ℕ Global). v.items) ks) ≡ false
    → map (λ (v : Vec ℕ Global). v.items) (insert_key (λ (a b : Vec ℕ Global). bytes_eq a.items b.items) ks k) ≡ map (λ (v : Vec ℕ Global). v.items) ks
    ++ k.items ∷ []
appended ks k h =
    let none = sym (list_any-map (λ (v : Vec ℕ Global). v.items) (bytes_eq k.items) ks) ∙ h in
    rw none (map-append (λ (v : Vec ℕ Global). v.items) ks (k ∷ []))

pub returns : goal.returns
returns c =
    rw (← c.self.view_is) (ap (map (λ (v : Vec ℕ Global). v.items)) c.in_ok-_place.ensures.keys
    ∙ appended c.self.inside.codes.keys c.args.code (rw (← c.self.view_is) at c.requires.new))
