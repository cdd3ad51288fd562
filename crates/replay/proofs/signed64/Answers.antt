use mathlib.Core.Path.{◌≡◌, refl, ◌∙◌}
use mathlib.Core.Bool.{Bool, true, false, cond}
use Prim.Native.Nat.{ℕ, suc, ◌-◌, ◌^◌}
use lib.Dec.{ltb}
use lib.IntN.{pos, negsuc}
use mir.Syntax.{w64}
use mir.Val.{to_z, sel}
use mir.ValLaws.{to_z-of_z}
use Rattle.endian.specs.Bytes.{signed_of}
use Rattle.replay.proofs.signed64.Goals as goal

-- the machine's signed reading of 64 bits is the definition
number_is : (n : ℕ) → to_z w64 n ≡ signed_of 64 n
unfolding signed_of
number_is n = go (ltb n (2 ^ 63))
  where
    go : (b : Bool) → sel b (pos n) (negsuc (2 ^ 64 - suc n)) ≡ cond b (pos n) (negsuc (2 ^ 64 - suc n))
    go true = refl
    go false = refl

pub returns : goal.returns
returns c = to_z-of_z w64 c.cast_signed.result (record { sfits = c.cast_signed.type_inv }) ∙ c.cast_signed.ensures ∙ number_is c.args.n
