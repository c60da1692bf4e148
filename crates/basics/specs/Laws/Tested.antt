-- What a call's answer says of the test that its contract names.
use Rattle.std.specs.Prelude.{◌≡◌, Bool, true, false, not}
use Rattle.std.proofs.Common.{sym, ◌∙◌}
use Rattle.std.proofs.lemmas.Bool.{not-true, not-false}

-- the answer was no
pub refused : {answer test : Bool} → answer ≡ test → not answer ≡ true → test ≡ false
refused e h = sym e ∙ not-true _ h

-- the answer was yes
pub passed : {answer test : Bool} → answer ≡ test → not answer ≡ false → test ≡ true
passed e h = sym e ∙ not-false _ h
