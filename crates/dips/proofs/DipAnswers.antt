-- What `find_dips` leaves where no cause applies. Assumes nothing.
use Rattle.std.proofs.Common.{◌≡◌, ℕ, List, ◌++◌, length, take, drop, sym, ◌∙◌, take-append-drop}
use lib.ListN.{length-map}
use lib.Ieee.{Float}
use Rattle.dips.specs.Numbers.{depths_at}
use Rattle.dips.specs.Dips.{Dip, positions_of, depths_of, laid, Stored}

module _ (found : List Dip) (old : List Float) (n : ℕ) (now : List Float) (w : Stored found old n now) where
  pub stored_count : n ≡ length found
  stored_count = w.positions.count ∙ length-map found (λ (d : Dip). d.at)

  pub stored_now : now ≡ laid (positions_of found) (take depths_at old) ++ laid (depths_of found) (drop depths_at old)
  stored_now = sym (take-append-drop depths_at now) ∙ rw (w.positions.holds, w.depths.holds, ← w.positions.count, ← w.depths.count)
