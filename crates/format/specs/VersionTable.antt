-- Which bytes are a version, which version they name, and what a command acts as in each, written by hand: by computation.
use Rattle.std.specs.Prelude.{◌≡◌, refl, true, false, [], ◌∷◌, map}
use Rattle.format.specs.declared.kinds.CommandKind.{CommandKind}
use Rattle.format.specs.declared.kinds.CommandKind.TheVariants.{Add as k_add, Modify as k_modify, Delete as k_delete}
use Rattle.format.specs.Version.{version_good, version_named, acts_as}
use Rattle.format.specs.declared.Version.TheVariants.{OpenFlow10, OpenFlow13}

-- of the bytes from 0 to 5, and 255, three are a version
bytes : map version_good (0 ∷ 1 ∷ 2 ∷ 3 ∷ 4 ∷ 5 ∷ 255 ∷ []) ≡ true ∷ true ∷ false ∷ false ∷ true ∷ false ∷ false ∷ []
unfolding version_good
bytes = refl

-- 0 reads as 4
named : map version_named (0 ∷ 1 ∷ 4 ∷ []) ≡ OpenFlow13 ∷ OpenFlow10 ∷ OpenFlow13 ∷ []
unfolding version_named
named = refl

-- add, modify and delete, with their rule and without it in 1.0, then in 1.3
acts :
    map (λ (f : CommandKind → CommandKind). map f (k_add ∷ k_modify ∷ k_delete ∷ []))
    (acts_as OpenFlow10 true ∷ acts_as OpenFlow10 false ∷ acts_as OpenFlow13 true ∷ acts_as OpenFlow13 false ∷ [])
    ≡ (k_add ∷ k_modify ∷ k_delete ∷ [])
    ∷ (k_add ∷ k_add ∷ k_delete ∷ [])
    ∷ (k_add ∷ k_modify ∷ k_delete ∷ [])
    ∷ (k_add ∷ k_modify ∷ k_delete ∷ [])
    ∷ []
acts = refl
