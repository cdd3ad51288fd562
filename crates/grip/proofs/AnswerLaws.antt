-- What the calls answer, a law for each way through them. Assumes nothing.
use mathlib.Core.Path.{◌≡◌, refl, ap, ◌∙◌}
use mathlib.Core.Bool.{Bool, true, false, ◌&&◌}
use mathlib.Core.List.{List, []}
use Prim.Native.Nat.{ℕ, ◌≤◌, ◌<◌}
use native.Mathlib.Omega.{arith}
use borrow.Author.Tests.{lt-ltb, le-ltb}
use lib.Dec.{ltb}
use lib.ListN.{length}
use lib.Seq.{sets}
use lib.Ieee.{Float}
use Rattle.std.specs.Prelude.{Option, Some, None, Result, Ok, Err}
use Rattle.limits.specs.declared.Refusal.{Refusal}
use Rattle.limits.specs.declared.Refusal.TheVariants.{Short, Long, BadRecords, BadTime}
use Rattle.limits.specs.Limits.{most_record_bytes}
use Rattle.limits.specs.Answer.{said, said_by, accepted, answer, number, leaves}
use Rattle.limits.proofs.Samples.{and_left, and_right}
use Rattle.event_list.specs.Events.{wholes, events_of, list_ok}
use Rattle.grip.specs.declared.Best.{Best}
use Rattle.grip.specs.declared.Match.{Match}
use Rattle.grip.specs.Times.{is_finite, distance_ok}
use Rattle.grip.specs.Nearest.{found_or_none, grip_cause, nearest_cause, none, Call}
use Rattle.grip.specs.OnAir.{air_numbers, air_cause}
use Rattle.grip.specs.Reading.{read_part, found_of}
use Rattle.grip.proofs.OrderLaws.{cases}
use Rattle.grip.proofs.NearLaws.{stands_none, part_ok, part-adds, tells}

-- where nothing is refused the distance is finite
within_finite : (ok : Bool) (grip within : Float) → grip_cause ok grip within ≡ 0 → is_finite within ≡ true
unfolding grip_cause
within_finite false grip within e = absurd (never e)
  where
    never : ◌≡◌ {A = ℕ} 12 0 → ⊥
    never e = omega arith
within_finite true grip within e =
    cases (is_finite grip && distance_ok within)
    (λ t. and_left (is_finite within) _ (and_right (is_finite grip) (distance_ok within) t))
    (λ t. absurd (never (rw t at e)))
  where
    never : ◌≡◌ {A = ℕ} 14 0 → ⊥
    never e = omega arith

pub no_cause : (l : List ℕ) (grip within : Float) → nearest_cause l grip within ≡ 0 → is_finite within ≡ true
unfolding nearest_cause
no_cause l grip within e =
    cases (ltb most_record_bytes (length l)) (λ t. absurd (never (rw t at e))) (λ t. within_finite (list_ok l) grip within (rw t at e))
  where
    never : ◌≡◌ {A = ℕ} 3 0 → ⊥
    never e = omega arith

-- ---- the nearest message of what was read

module _ (b : Best) (grip within : Float) where
  abbrev Says : Result (Option ℕ) Refusal → Type 0
  Says r = said_by found_or_none r ≡ answer (grip_cause b.ok grip within) (found_of b)

  pub says_bad : b.ok ≡ false → Says (Err BadRecords)
  unfolding said_by grip_cause answer
  says_bad e = rw e refl

  module _ (e : b.ok ≡ true) where
    pub says-time : is_finite grip && distance_ok within ≡ false → Says (Err BadTime)
    unfolding said_by grip_cause answer
    says-time t = rw (e, t) refl

    module _ (t : is_finite grip && distance_ok within ≡ true) where
      pub says-record : (m : Match) → b.nearest ≡ Some m → Says (Ok (Some m.number))
      unfolding said_by grip_cause answer
      says-record m f = rw (e, t, f) refl

      pub says_nothing : b.nearest ≡ None → Says (Ok None)
      unfolding said_by grip_cause answer
      says_nothing f = rw (e, t, f) refl

-- ---- of a list

module _ (l : List ℕ) (grip within : Float) where
  pub call_long : most_record_bytes < length l → Call l grip within (Err Long)
  unfolding said_by nearest_cause answer
  call_long h = record { value = none; answered = rw (lt-ltb most_record_bytes (length l) h) refl; told = λ e. absurd (never (rw (lt-ltb most_record_bytes (length l) h) at e)) }
    where
      never : ◌≡◌ {A = ℕ} 3 0 → ⊥
      never e = omega arith

  -- b is what was read of nothing
  module _ (b : Best) (n : b.count ≡ 0) (k : b.ok ≡ true) (f : b.nearest ≡ None) where
    read_ok : (read_part grip within b l).ok ≡ list_ok l
    read_ok = part_ok grip within b l ∙ ap (λ (t : Bool). t && list_ok l) k

    pub call-read : length l ≤ most_record_bytes → (r : Result (Option ℕ) Refusal)
        → said_by found_or_none r ≡ answer (grip_cause (read_part grip within b l).ok grip within) (found_of (read_part grip within b l))
        → Call l grip within r
    unfolding nearest_cause
    call-read h r e =
        let c : grip_cause (read_part grip within b l).ok grip within ≡ nearest_cause l grip within = rw (le-ltb most_record_bytes (length l) h, read_ok) refl in
        record {
          value = found_of (read_part grip within b l);
          answered = e ∙ ap (λ (x : ℕ). answer x (found_of (read_part grip within b l))) c;
          told = λ z. tells grip within (no_cause l grip within z) (events_of l) (read_part grip within b l)
              ((part-adds grip within (no_cause l grip within z) b l).behind [] (stands_none grip within b n f));
        }

-- ---- the messages on air

module _ (l : List ℕ) (x : Float) (numbers : List ℕ) where
  abbrev Hears : Result ℕ Refusal → List ℕ → Type 0
  Hears r after =
      (said r ≡ answer (air_cause l x (length numbers)) (length (air_numbers x l)))
      × (after ≡ leaves (number (said r)) (sets numbers 0 (air_numbers x l)) numbers)

  pub hears_short : length numbers < wholes l → Hears (Err Short) numbers
  unfolding said_by air_cause answer number leaves
  hears_short h = rw (lt-ltb (length numbers) (wholes l) h) (refl, refl)

  module _ (a : wholes l ≤ length numbers) where
    pub hears-long : most_record_bytes < length l → Hears (Err Long) numbers
    unfolding said_by air_cause answer number leaves
    hears-long h = rw (le-ltb (length numbers) (wholes l) a, lt-ltb most_record_bytes (length l) h) (refl, refl)

    module _ (b : length l ≤ most_record_bytes) where
      pub hears-bad : list_ok l ≡ false → Hears (Err BadRecords) numbers
      unfolding said_by air_cause answer number leaves
      hears-bad h = rw (le-ltb (length numbers) (wholes l) a, le-ltb most_record_bytes (length l) b, h) (refl, refl)

      module _ (c : list_ok l ≡ true) where
        pub hears-time : is_finite x ≡ false → Hears (Err BadTime) numbers
        unfolding said_by air_cause answer number leaves
        hears-time h = rw (le-ltb (length numbers) (wholes l) a, le-ltb most_record_bytes (length l) b, c, h) (refl, refl)

        pub hears-numbers : is_finite x ≡ true → (n : ℕ) (after : List ℕ) → n ≡ length (air_numbers x l) → after ≡ sets numbers 0 (air_numbers x l) → Hears (Ok n) after
        unfolding said_by air_cause answer number leaves
        hears-numbers h n after e s = rw (le-ltb (length numbers) (wholes l) a, le-ltb most_record_bytes (length l) b, c, h) (ap accepted e, s)
