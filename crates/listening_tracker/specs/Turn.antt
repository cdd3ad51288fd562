-- What one record of `listen` does to the tracker and its lists. 01: "Per record: `tuned`, `samples`, `cfo`, `next_tuning`", and on a refusal nothing more. Assumes nothing.
use Rattle.std.specs.Prelude.{ℕ, zero, suc, ◌≡◌, cond, List, [], ◌∷◌, eqb, Float, Option, None, Result}
use Rattle.frequency.specs.declared.FrequencyTracker.{FrequencyTracker}
use Rattle.limits.specs.declared.Refusal.{Refusal}
use Rattle.limits.specs.Answer.{cause_of}
use Rattle.frequency.specs.Calls.{tune_of}
use Rattle.frequency.specs.Lent.{Lists, tracker, packed, stored}
use Rattle.frequency.specs.Order.{cause_tuned, cause_samples, cause_cfo, cause_next}
use Rattle.frequency.specs.Tracker.{tuned, samples, cfo, next_tuning, after_tuning}

-- 01: "8,000 readings .. fit", and as many places of scratch
abbrev pub reading_places : ℕ
reading_places = 8000

-- stop: a call was refused with this number, and the tracker and lists that it found are left; on: the tracker and its lists after the record, and where to tune
pub data Turn : Type 0 where
  stop : ℕ → FrequencyTracker → Lists → Turn
  on : FrequencyTracker → Lists → Option ℕ → Turn

-- a call that finds this tracker and these lists: what comes next, unless it is refused
abbrev pub unless : ℕ → FrequencyTracker → Lists → Turn → Turn
unless zero s l t = t
unless (suc k) s l t = stop (suc k) s l

-- `next_tuning`; room: the places of its scratch
unfoldable pub next_turn : ℕ → FrequencyTracker → Lists → Turn
next_turn room s l = unless (cause_next s l room) s l (on (packed (after_tuning (tracker s l))) l (next_tuning (tracker s l)))

-- `cfo` of the record's register, and what follows
unfoldable pub cfo_turn : ℕ → ℕ → FrequencyTracker → Lists → Turn
unfolding next_turn
cfo_turn room reg s l = let u = cfo (tracker s l) (reg ∷ []) in unless (cause_cfo s l (reg ∷ [])) s l (next_turn room (packed u) (stored u l))

-- `samples` of the record's eight, and what follows
unfoldable pub samples_turn : ℕ → List Float → ℕ → FrequencyTracker → Lists → Turn
unfolding cfo_turn
samples_turn room dbm reg s l = let u = samples (tracker s l) dbm in unless (cause_samples s l dbm) s l (cfo_turn room reg (packed u) (stored u l))

-- `tuned` with the record's receiver frequency, and what follows
unfoldable pub tuned_turn : ℕ → ℕ → List Float → ℕ → FrequencyTracker → Lists → Turn
unfolding samples_turn
tuned_turn room hz dbm reg s l = let u = tuned (tracker s l) hz in unless (cause_tuned s l.tunings hz) s l (samples_turn room dbm reg (packed u) (stored u l))

-- a record of the tracker; 02, request 04: "A later 0 feeds both, but `tuned` isn't called for it"
unfoldable pub turn : ℕ → ℕ → List Float → ℕ → FrequencyTracker → Lists → Turn
unfolding samples_turn tuned_turn
turn room hz dbm reg s l = cond (eqb hz 0) (samples_turn room dbm reg s l) (tuned_turn room hz dbm reg s l)

-- an answer, and the tracker and what stands in the lists then
unfoldable pub Turned : Turn → Result (Option ℕ) Refusal → FrequencyTracker → Lists → Type 0
Turned (stop k t m) r u l = (cause_of r ≡ k) × (u ≡ t) × (tune_of r ≡ None) × (l ≡ m)
Turned (on t m f) r u l = (cause_of r ≡ 0) × (u ≡ t) × (tune_of r ≡ f) × (l ≡ m)
