-- Records of 120 bytes, one behind another in an event buffer. Assumes nothing.
use mathlib.Core.List.{List, [], ◌∷◌, ◌++◌, append-nil}
use mathlib.Core.Path.{◌≡◌, ◌∙◌, refl, sym, ap, ap₂}
use Prim.Native.Nat.{ℕ, ◌+◌, ◌*◌, ◌≤◌}
use native.Mathlib.Omega.{arith}
use lib.ListN.{length, drop, length-append}
use lib.Seq.{sets, sets-eq, take_at, drop-append-add, drop-drop}
use Rattle.limits.specs.Limits.{record_size}
use Rattle.demod.specs.Capture.{joined}
use Rattle.demod.proofs.CaptureLaws.{joined-append}
use Rattle.ledger.specs.Records.{Sized, with_records}

pub sized-append : (rs ws : List (List ℕ)) → Sized rs → Sized ws → Sized (rs ++ ws)
sized-append [] ws a b = b
sized-append (r ∷ rs) ws a b = (a.0, sized-append rs ws a.1 b)

pub sized-length : (rs : List (List ℕ)) → Sized rs → length (joined rs) ≡ record_size * length rs
unfolding joined
sized-length [] a = refl
sized-length (r ∷ rs) a = omega (arith, length-append r (joined rs), sized-length rs a.1, a.0)

-- records behind others, in an event buffer
pub with_more : (rs ws : List (List ℕ)) (old : List ℕ) → Sized rs → Sized ws → record_size * (length rs + length ws) ≤ length (with_records rs old)
    → sets (with_records rs old) (record_size * length rs) (joined ws) ≡ with_records (rs ++ ws) old
unfolding with_records
with_more rs ws old a b fits =
    let n = record_size * length rs in
    let rest = drop n old in
    let front : length (joined rs) ≡ n = sized-length rs a in
    let back : length (joined ws) ≡ record_size * length ws = sized-length ws b in
    let all : n + length (joined ws) ≡ record_size * length (rs ++ ws) = omega (arith, length-append rs ws) in
    sets-eq (joined ws) (joined rs ++ rest) n (omega arith)
    ∙ ap₂ (λ (x y : List ℕ). x ++ joined ws ++ y)
    (take_at (joined rs) rest n front)
    (ap (λ (k : ℕ). drop (k + length (joined ws)) (joined rs ++ rest)) (sym front) ∙ drop-append-add (joined rs) rest (length (joined ws))
    ∙ drop-drop (length (joined ws)) n old ∙ ap (λ (k : ℕ). drop k old) all)
    ∙ ap (λ (x : List ℕ). x ++ drop (record_size * length (rs ++ ws)) old) (sym (joined-append rs ws))

-- one record behind them
pub with_one : (rs : List (List ℕ)) (r old : List ℕ) → Sized rs → length r ≡ record_size → record_size * (length rs + 1) ≤ length (with_records rs old)
    → sets (with_records rs old) (record_size * length rs) r ≡ with_records (rs ++ (r ∷ [])) old
unfolding joined
with_one rs r old a e room =
    ap (sets (with_records rs old) (record_size * length rs)) (sym (append-nil r)) ∙ with_more rs (r ∷ []) old a (e, tt) room
