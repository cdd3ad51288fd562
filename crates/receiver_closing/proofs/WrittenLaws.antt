-- Records written behind others, on plain lists. Assumes nothing.
use mathlib.Core.Bool.{Bool, true, false, cond}
use mathlib.Core.List.{List, [], ◌∷◌, ◌++◌, append-nil}
use mathlib.Core.Logic.{◌⊎◌, inl, inr, ⊎_elim}
use mathlib.Core.Path.{◌≡◌, ◌∙◌, refl, sym, ap}
use Prim.Native.Nat.{ℕ, zero, suc, ◌+◌, ◌*◌, ◌≤◌, ◌<◌}
use native.Mathlib.Nat.{not-suc-le-zero, le_of_suc-le-suc}
use native.Mathlib.Numerals.{add-one}
use native.Mathlib.Omega.{arith}
use lib.ListN.{length, take, get_or, length-append}
use lib.Seq.{length-sets, sets, take-length, take-suc}
use lib.Ieee.{Float}
use Rattle.limits.specs.Limits.{record_size}
use Rattle.frame.proofs.CopyLaws.{sets_then}
use Rattle.record.specs.Record.{message_record}
use Rattle.record.proofs.RecordLaws.{length-message}
use Rattle.demod.specs.Capture.{joined}
use Rattle.demod.proofs.CaptureLaws.{joined-append}
use Rattle.ledger.specs.Merge.{finished}
use Rattle.ledger.specs.Ledger.{chosen}
use Rattle.ledger.specs.Records.{Sized, record_of, with_records}
use Rattle.ledger.specs.declared.Pending.{Pending}
use Rattle.ledger.proofs.Joined.{sized-append, sized-length, with_more}
use Rattle.receiver_waiting.specs.Waiting.{leaves}
use Rattle.receiver_waiting.specs.declared.Leaving.{Leaving}
use Rattle.receiver_closing.specs.Written.{written, put_if}

either : (b : Bool) → (b ≡ true) ⊎ (b ≡ false)
either true = inl refl
either false = inr refl

-- ---- records of 120 bytes

-- a message's record is one of them
pub finished-size : (mark : ℕ) (p : Pending) → length p.message.payload ≡ 12 → length p.message.auth ≡ 5 → length (message_record mark (finished p)) ≡ record_size
unfolding finished
finished-size mark p n m = length-message mark (finished p) n m

-- ---- the messages that leave, one by one

-- what a message adds
abbrev pub adds : Bool → List ℕ → List (List ℕ)
adds b r = cond b (r ∷ []) []

module _ (mark : Float → ℕ) (which : Leaving) where
  written_next : (l : List Pending) (p : Pending) → written mark which (l ++ (p ∷ [])) ≡ written mark which l ++ adds (leaves which p) (message_record (mark (finished p).time) (finished p))
  unfolding chosen record_of
  written_next [] p = ⊎_elim (λ e. rw e refl) (λ e. rw e refl) (either (leaves which p))
  written_next (m ∷ l) p =
      ⊎_elim
      (λ e. rw e (ap (λ (k : List (List ℕ)). message_record (mark (finished m).time) (finished m) ∷ k) (written_next l p)))
      (λ e. rw e (written_next l p))
      (either (leaves which m))

  fewer : (l : List Pending) (i n : ℕ) → i ≤ n → length (written mark which (take i l)) ≤ length (written mark which (take n l))
  unfolding chosen
  fewer l zero n h = omega arith
  fewer [] (suc i) n h = omega arith
  fewer (m ∷ l) (suc i) zero h = absurd (not-suc-le-zero h)
  fewer (m ∷ l) (suc i) (suc n) h =
      let k = fewer l i n (le_of_suc-le-suc h) in
      ⊎_elim (λ e. rw e (omega arith)) (λ e. rw e k) (either (leaves which m))

  module _ (ms : List Pending) (count : ℕ) (old : List ℕ) where
    -- the messages before place i are looked at, and k records stand in `now`
    pub record WrittenAt (i k : ℕ) (now : List ℕ) : Type 0 where
      pub few : k ≡ count + length (written mark which (take i ms))
      pub size : length now ≡ length old
      pub sized : Sized (written mark which (take i ms))
      pub here : now ≡ sets old (record_size * count) (joined (written mark which (take i ms)))

    pub written_start : WrittenAt 0 count old
    unfolding joined chosen
    written_start = record { few = omega arith; size = refl; sized = tt; here = refl }

    module _ (i k : ℕ) (now : List ℕ) (w : WrittenAt i k now) (z : Pending) (here : i < length ms) where
      abbrev this : Pending
      this = get_or ms i z

      abbrev more : List (List ℕ)
      more = adds (leaves which this) (message_record (mark (finished this).time) (finished this))

      next : written mark which (take (i + 1) ms) ≡ written mark which (take i ms) ++ more
      next = ap (written mark which) (rw add-one (take-suc ms i z here)) ∙ written_next (take i ms) this

      added : (r : ℕ) (after : List ℕ) → length (message_record (mark (finished this).time) (finished this)) ≡ record_size → r ≡ cond (leaves which this) (k + 1) k
          → after ≡ put_if (leaves which this) (message_record (mark (finished this).time) (finished this)) (record_size * k) now
          → Sized more × (r ≡ k + length more) × (after ≡ sets now (record_size * k) (joined more))
      unfolding joined
      added r after s er ea =
          ⊎_elim
          (λ e. rw e ((s, tt), er ∙ rw e refl, ea ∙ rw (e, append-nil (message_record (mark (finished this).time) (finished this))) refl))
          (λ e. rw e (tt, er ∙ rw e (omega arith), ea ∙ rw e refl))
          (either (leaves which this))

      pub written-room : record_size * (count + length (written mark which ms)) ≤ length old → leaves which this ≡ true → record_size * (k + 1) ≤ length now
      written-room room e =
          let s : length more ≡ 1 = rw e refl in
          let f : length (written mark which (take (i + 1) ms)) ≡ length (written mark which (take i ms)) + 1 = ap length next ∙ length-append (written mark which (take i ms)) more ∙ omega arith in
          let g : length (written mark which (take (i + 1) ms)) ≤ length (written mark which ms) = rw (take-length ms) at (fewer ms (i + 1) (length ms) (omega arith)) in
          omega (arith, w.few, w.size)

      pub written-turn : (r : ℕ) (after : List ℕ) → length (message_record (mark (finished this).time) (finished this)) ≡ record_size → r ≡ cond (leaves which this) (k + 1) k
          → after ≡ put_if (leaves which this) (message_record (mark (finished this).time) (finished this)) (record_size * k) now → WrittenAt (i + 1) r after
      written-turn r after s er ea =
          let done = written mark which (take i ms) in
          let d : Sized more × (r ≡ k + length more) × (after ≡ sets now (record_size * k) (joined more)) = added r after s er ea in
          let front : length (joined done) ≡ record_size * length done = sized-length done w.sized in
          record {
            few = d.1 ∙ omega (arith, w.few, ap length next, length-append done more);
            size = ap length d.2 ∙ length-sets now (record_size * k) (joined more) ∙ w.size;
            sized = rw next (sized-append done more w.sized d.0);
            here =
                d.2 ∙ ap (λ (x : List ℕ). sets x (record_size * k) (joined more)) w.here
                ∙ sets_then old (record_size * count) (joined done) (joined more) (record_size * k) (omega (arith, w.few))
                ∙ ap (sets old (record_size * count)) (sym (joined-append done more) ∙ ap joined (sym next));
          }

    -- every place is looked at
    pub written_all : (i k : ℕ) (now : List ℕ) → WrittenAt i k now → i ≡ length ms
        → (k ≡ count + length (written mark which ms)) × (now ≡ sets old (record_size * count) (joined (written mark which ms))) × Sized (written mark which ms)
    written_all i k now w q = (rw (q, take-length ms) at w.few, rw (q, take-length ms) at w.here, rw (q, take-length ms) at w.sized)

-- records ws behind the records rs of an event buffer
pub records-behind : (rs ws : List (List ℕ)) (was bytes now : List ℕ) (count k : ℕ) → Sized rs → Sized ws → count ≡ length rs → bytes ≡ with_records rs was
    → record_size * (count + length ws) ≤ length bytes → k ≡ count + length ws → now ≡ sets bytes (record_size * count) (joined ws)
    → (k ≡ length (rs ++ ws)) × (now ≡ with_records (rs ++ ws) was)
records-behind rs ws was bytes now count k a b e o room f g =
    (omega (arith, length-append rs ws), g ∙ rw (e, o) (with_more rs ws was a b (rw (← e, ← o) room)))
