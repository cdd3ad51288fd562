-- The causes by their subjects are the ledger's. Assumes nothing.
use mathlib.Core.Bool.{Bool, ◌||◌, cond, false, not, true}
use mathlib.Core.List.{List, [], ◌∷◌}
use mathlib.Core.Logic.{⊎_elim}
use mathlib.Core.Path.{◌∙◌, ◌≡◌, ap, refl, sym}
use Prim.Native.Nat.{◌+◌, ◌<◌, ◌≤◌, suc, ℕ}
use native.Mathlib.Nat.{not-suc-le-zero}
use native.Mathlib.Omega.{arith}
use Rattle.std.specs.Result.{IsErrAnd, is_err}
use Rattle.std.specs.Prelude.{Result, Ok, Err}
use Rattle.std.proofs.lemmas.Result.{err_from_is_err_and}
use Rattle.limits.specs.Answer.{cause_of}
use Rattle.limits.specs.Refusals.{number_of}
use Rattle.limits.specs.declared.Refusal.{Refusal}
use Rattle.limits.proofs.AnswerLaws.{number-positive}
use lib.Dec.{leb, ltb}
use lib.Ieee.{Float}
use lib.ListN.{get_or, length}
use borrow.Author.Tests.{le-ltb, lt-ltb, ltb-false}
use Rattle.ledger.specs.Causes.{Lent, all_fit, any_nan, call_cause, cause, most_waiting, orderly, too_short, unlike}
use Rattle.ledger.proofs.Basics.{and_true, either}
use Rattle.ledger.specs.Ledger.{Call, by_entry, capacity, flush, push}
use Rattle.ledger.specs.Room.{Below}
use Rattle.limits.specs.Limits.{bad_number, bad_rate, bad_sample, bad_state, events_size, long, longest_stream, scratch64, short, stream}
use Rattle.limits.specs.Samples.{all_dbm, rate_ok}
use Rattle.receiver.proofs.StateLaws.{orderly_is}
use Rattle.receiver.specs.State.{counts_of, given_cause, ledger_of, messages_cause, samples_ok, state_cause}
use Rattle.receiver.specs.Calls.{Memory, lengths_of}
use Rattle.receiver.specs.Running.{viewed, Views}
use Rattle.receiver.specs.declared.View.{View}
use Rattle.receiver_waiting.specs.Waiting as waiting
use Rattle.receiver_waiting.specs.declared.Condition.{Condition}
use Rattle.receiver_waiting.specs.declared.Waiting.{Waiting}
use Rattle.receiver.specs.declared.SigfoxReceiver.{SigfoxReceiver}

-- the number of what a function answers at the exit of a `?`
pub exit_cause : {A : Type 0} (r : Result A Refusal) (e : Refusal) → IsErrAnd r (λ y. y ≡ e) → cause_of r ≡ number_of e
unfolding cause_of
exit_cause r e i = let p = err_from_is_err_and r i in rw (p.1, p.2) refl

-- a test that finds none
pub no_error : {A : Type 0} (r : Result A Refusal) → is_err r ≡ false → cause_of r ≡ 0
unfolding cause_of
no_error (Ok v) e = refl
no_error (Err x) e = absurd (let z : ◌≡◌ {A = Bool} true false = e in let y : ◌≡◌ {A = ℕ} 0 1 = cc in omega arith)

-- cause 7 before another
pub stream_first : (t : Bool) (e : Refusal) (x : ℕ) → number_of e ≡ cond t stream 0 → number_of e ≡ cond t stream x
stream_first true e x h = h
stream_first false e x h = absurd (number-positive e h)

pub stream-later : (t : Bool) (x : ℕ) → 0 ≡ cond t stream 0 → x ≡ cond t stream x
stream-later true x h = absurd (omega arith)
stream-later false x h = refl

-- cause 9 is no cause 5
pub nan_is_none : (b : Bool) → cond b bad_number 0 ≡ bad_state → ⊥
nan_is_none true q = omega arith
nan_is_none false q = omega arith

-- ---- three tests, then what follows

abbrev pub pick : Bool → Bool → Bool → ℕ → ℕ
pick ok b d x = cond (not ok) bad_rate (cond b short (cond d long x))

pick_first : (ok b d : Bool) (x : ℕ) → 1 ≤ pick ok b d 0 → pick ok b d 0 ≡ pick ok b d x
pick_first false b d x h = refl
pick_first true true d x h = refl
pick_first true false true x h = refl
pick_first true false false x h = absurd (not-suc-le-zero h)

pick_none : (ok b d : Bool) (x : ℕ) → pick ok b d 0 ≡ 0 → x ≡ pick ok b d x
pick_none false b d x h = absurd (omega arith)
pick_none true true d x h = absurd (omega arith)
pick_none true false true x h = absurd (omega arith)
pick_none true false false x h = refl

pick-fits : (ok b d : Bool) → pick ok b d 0 ≡ 0 → (b ≡ false) × (d ≡ false)
pick-fits false b d h = absurd (omega arith)
pick-fits true true d h = absurd (omega arith)
pick-fits true false true h = absurd (omega arith)
pick-fits true false false h = (refl, refl)

or_left : (a b : Bool) → a || b ≡ false → a ≡ false
or_left true b e = e
or_left false b e = refl

module _ (rate : ℕ) (b : Lent) (n : ℕ) where
  -- what is lent and handed in has the right size
  pub given-fits : given_cause rate b n ≡ 0 → (capacity rate ≤ b.samples) × (n ≤ capacity rate)
  unfolding given_cause
  given-fits e =
      let f = pick-fits (rate_ok rate) (too_short rate b) (ltb (capacity rate) n) e in
      let s = or_left (ltb b.samples (capacity rate))
      (ltb b.events events_size || (ltb b.scratch32 (capacity rate) || ltb b.scratch64 scratch64)) f.0 in
      (ltb-false b.samples (capacity rate) s, ltb-false (capacity rate) n f.1)

  pub given-rate : rate_ok rate ≡ false → bad_rate ≡ given_cause rate b n
  unfolding given_cause
  given-rate e = rw e refl

  pub given-short : rate_ok rate ≡ true → too_short rate b ≡ true → short ≡ given_cause rate b n
  unfolding given_cause
  given-short e f = rw (e, f) refl

  pub given-long : rate_ok rate ≡ true → too_short rate b ≡ false → capacity rate < n → long ≡ given_cause rate b n
  unfolding given_cause
  given-long e f h = rw (e, f, lt-ltb (capacity rate) n h) refl

  pub given_none : rate_ok rate ≡ true → too_short rate b ≡ false → n ≤ capacity rate → 0 ≡ given_cause rate b n
  unfolding given_cause
  given_none e f h = rw (e, f, le-ltb (capacity rate) n h) refl

-- ---- by what the checks look at

-- of the same lengths
pub given_same : (rate : ℕ) {b d : Lent} (n : ℕ) {x : ℕ} → b ≡ d → x ≡ given_cause rate b n → x ≡ given_cause rate d n
given_same rate n e f = f ∙ ap (λ (y : Lent). given_cause rate y n) e

-- of a view of the memory
pub view_cause : (s : SigfoxReceiver) (c : Call) (v : View) (m : Memory) → Views v m
    → cause s.rate (viewed v) (counts_of s) (ledger_of s v.samples.now) c ≡ cause s.rate (lengths_of m) (counts_of s) (ledger_of s m.samples) c
view_cause s c v m w =
    ap (λ (b : Lent). cause s.rate b (counts_of s) (ledger_of s v.samples.now) c) w.lengths
    ∙ ap (λ (l : List Float). cause s.rate (lengths_of m) (counts_of s) (ledger_of s l) c) w.samples

-- cause 5 or 9 of a state
unfoldable pub order_cause : SigfoxReceiver → List Float → ℕ
order_cause s buf =
    cond (not (orderly s.rate (counts_of s) (ledger_of s buf))) bad_state (cond (any_nan by_entry (waiting.waiting_of s.waiting)) bad_number 0)

module _ (s : SigfoxReceiver) (buf : List Float) (b : Lent) where
  pub push_is : (xs : List Float) → pick (rate_ok s.rate) (too_short s.rate b) (ltb (capacity s.rate) (length xs))
      (cond (not (all_dbm xs)) bad_sample (state_cause s buf (length xs))) ≡ cause s.rate b (counts_of s) (ledger_of s buf) (push xs)
  unfolding cause call_cause state_cause
  push_is xs = refl

  pub push_first : (xs : List Float) (n g : ℕ) → n ≡ length xs → g ≡ given_cause s.rate b n → 1 ≤ g
      → g ≡ cause s.rate b (counts_of s) (ledger_of s buf) (push xs)
  unfolding given_cause
  push_first xs n g en e h =
      let f : g ≡ given_cause s.rate b (length xs) = rw (← en) e in
      f
      ∙ pick_first (rate_ok s.rate) (too_short s.rate b) (ltb (capacity s.rate) (length xs))
      (cond (not (all_dbm xs)) bad_sample (state_cause s buf (length xs))) (rw f at h)
      ∙ push_is xs

  -- causes 1 to 3 don't apply
  pub push-later : (xs : List Float) (n x : ℕ) → n ≡ length xs → given_cause s.rate b n ≡ 0
      → x ≡ cond (not (all_dbm xs)) bad_sample (state_cause s buf n) → x ≡ cause s.rate b (counts_of s) (ledger_of s buf) (push xs)
  unfolding given_cause
  push-later xs n x en e h =
      let f : given_cause s.rate b (length xs) ≡ 0 = rw (← en) e in
      h
      ∙ rw en (pick_none (rate_ok s.rate) (too_short s.rate b) (ltb (capacity s.rate) (length xs))
      (cond (not (all_dbm xs)) bad_sample (state_cause s buf (length xs))) f)
      ∙ push_is xs

  flush_is : pick (rate_ok s.rate) (too_short s.rate b) (ltb (capacity s.rate) 0) (order_cause s buf) ≡ cause s.rate b (counts_of s) (ledger_of s buf) flush
  unfolding cause call_cause order_cause
  flush_is = rw (le-ltb (capacity s.rate) 0 (omega arith)) refl

  pub flush_first : (g : ℕ) → g ≡ given_cause s.rate b 0 → 1 ≤ g → g ≡ cause s.rate b (counts_of s) (ledger_of s buf) flush
  unfolding given_cause
  flush_first g e h =
      e ∙ pick_first (rate_ok s.rate) (too_short s.rate b) (ltb (capacity s.rate) 0) (order_cause s buf) (rw e at h) ∙ flush_is

  pub flush-later : (x : ℕ) → given_cause s.rate b 0 ≡ 0 → x ≡ order_cause s buf → x ≡ cause s.rate b (counts_of s) (ledger_of s buf) flush
  unfolding given_cause
  flush-later x e h = h ∙ pick_none (rate_ok s.rate) (too_short s.rate b) (ltb (capacity s.rate) 0) (order_cause s buf) e ∙ flush_is

-- ---- the state's causes

-- no message, none out of order
pub none_wait : (w : Waiting) → w.count ≡ 0 → 0 ≡ messages_cause w
unfolding messages_cause unlike all_fit any_nan
none_wait w z = rw z refl

module _ (w : Waiting) {now : Float} (r : Condition) (k : waiting.Checked w now r) where
  pub messages-order : r.ok ≡ false → bad_state ≡ messages_cause w
  unfolding messages_cause
  messages-order f = rw (sym k.ok ∙ f) refl

  pub messages-nan : r.ok ≡ true → (x : ℕ) → x ≡ cond r.nan bad_number 0 → x ≡ messages_cause w
  unfolding messages_cause
  messages-nan f x g =
      let o = sym k.ok ∙ f in
      let few = (and_true (leb w.count most_waiting) _ o).0 in
      g ∙ rw (o, k.nan, few) refl

module _ (s : SigfoxReceiver) (buf : List Float) where
  abbrev ok : Bool
  ok = samples_ok s.rate s.held s.base s.unscanned s.starts buf

  pub order-samples : ok ≡ false → bad_state ≡ order_cause s buf
  unfolding order_cause
  order-samples e = rw (orderly_is s buf, e) refl

  pub order-messages : ok ≡ true → messages_cause s.waiting ≡ order_cause s buf
  unfolding order_cause messages_cause
  order-messages e = rw (orderly_is s buf, e) refl

  module _ (n x : ℕ) (h : x ≡ order_cause s buf) where
    orders : (x ≡ bad_state → ⊥) → orderly s.rate (counts_of s) (ledger_of s buf) ≡ true
    unfolding order_cause
    orders g = ⊎_elim (λ e. e) (λ e. absurd (g (h ∙ rw e refl))) (either (orderly s.rate (counts_of s) (ledger_of s buf)))

    pub state-order : x ≡ bad_state → x ≡ state_cause s buf n
    unfolding order_cause state_cause
    state-order g =
        ⊎_elim
        (λ e. absurd (nan_is_none (any_nan by_entry (waiting.waiting_of s.waiting)) (sym (h ∙ rw e refl) ∙ g)))
        (λ e. g ∙ rw e refl)
        (either (orderly s.rate (counts_of s) (ledger_of s buf)))

    module _ (g : x ≡ bad_state → ⊥) where
      pub state-last : (y : ℕ) → y ≡ cond (ltb longest_stream (s.base + s.held + n)) stream x → y ≡ state_cause s buf n
      unfolding order_cause state_cause
      state-last y p = p ∙ rw (h, orders g) refl

pub below_all : (hi : ℕ) (l : List ℕ) → ((i : ℕ) → i < length l → get_or l i 0 < hi) → Below hi l
below_all hi [] h = tt
below_all hi (x ∷ l) h = (h 0 (omega arith), below_all hi l (λ i k. h (suc i) (omega arith)))
