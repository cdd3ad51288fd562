-- What `samples` forgets, and what a retention in place leaves. Assumes nothing.
use Rattle.std.specs.Prelude.{ℕ, ◌≤◌, ◌<◌, ◌≡◌, Bool, true, false, List, [], ◌∷◌, ◌++◌, leb, length, take, drop, get_or}
use Rattle.frequency_lists.specs.declared.Reading.{Reading}
use Rattle.frequency_lists.specs.Lists.{ats, read_up_to}
use Rattle.frequency_lists.specs.Marks.{marked, gathered}
use Rattle.frequency_signal.specs.Seconds.{kept}

-- 'A tuning stays while it is the last one or the next one is still kept', of the tunings' indices
unfoldable pub stays : ℕ → ℕ → List ℕ → List Bool
stays rate n [] = []
stays rate n (a ∷ []) = true ∷ []
stays rate n (a ∷ b ∷ l) = kept rate n b ∷ stays rate n (b ∷ l)

-- i places from k on, at the front; what lies behind them stays
abbrev pub moved : {A : Type 0} → ℕ → ℕ → List A → List A
moved k i l = take i (drop k l) ++ drop i l

-- the first `lead` of the indices are before low, and no other is
pub record Leads (low lead : ℕ) (at : List ℕ) : Type 0 where
  pub leads : lead ≤ length at
  pub gone : (i : ℕ) → i < lead → leb low (get_or at i 0) ≡ false
  pub stay : (i : ℕ) → lead ≤ i → i < length at → leb low (get_or at i 0) ≡ true

-- and all of them are at most limit
pub record Looked (low limit lead : ℕ) (l : List Reading) : Type 0 where
  pub front : Leads low lead (ats l)
  pub within : read_up_to limit l ≡ true

-- the marked ones stand in front, and the rest as it was
pub record Compacted {A : Type 0} (bs : List Bool) (l : List A) (r : ℕ) (l' : List A) : Type 0 where
  pub count : r ≡ marked bs
  pub list : l' ≡ gathered bs l l
