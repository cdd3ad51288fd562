-- A value where a test passes, and where it fails. Assumes nothing.
use Rattle.std.proofs.Common.{◌≡◌, Bool, true, false, cond, not, Some, None, refl}
use Rattle.std.specs.Bool.{then_some}

module _ {A : Type 0} where
  pub then_some-cond : (t : Bool) (x : A) → then_some t x ≡ cond t (Some x) None
  then_some-cond true x = refl
  then_some-cond false x = refl

  pub then_some-not : (t : Bool) (x : A) → then_some (not t) x ≡ cond t None (Some x)
  then_some-not true x = refl
  then_some-not false x = refl
