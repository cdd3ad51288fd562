-- One record more, from what the code reads of it. Assumes nothing.
use Rattle.std.proofs.Common.{◌≡◌, refl, ap, ◌∙◌, Bool, true, false, ◌&&◌, ◌+◌, ℕ, List, Some}
use lib.Ieee.{Float, binary64, sub, le}
use Rattle.floats.specs.Trig.{magnitude}
use Rattle.record.specs.Readers.{time_of}
use Rattle.event_list.specs.Events.{is_message, record_ok}
use Rattle.grip.specs.declared.Best.{Best}
use Rattle.grip.specs.Times.{is_finite}
use Rattle.grip.specs.Nearest.{distance}
use Rattle.grip.specs.Reading.{is_nearer, takes, looked}

module _ (grip within : Float) (b : Best) (r : List ℕ) (right message finite nearer : Bool) (d t : Float) (e : right ≡ record_ok r) (m : message ≡ is_message r)
    (f : t ≡ time_of r) (g : finite ≡ is_finite t) (h : d ≡ magnitude (sub binary64 t grip)) (k : nearer ≡ is_nearer b.nearest d t) where
  -- the test of the code
  abbrev test : Bool
  test = (message && (finite && le d within)) && nearer

  far : d ≡ distance grip r
  far = h ∙ ap (λ (x : Float). magnitude (sub binary64 x grip)) f

  test_is : takes grip within b r ≡ test
  test_is = rw (k, m, g, f, far) refl

  pub looked-taken : test ≡ true → record { count = b.count + 1; ok = b.ok && right; nearest = Some (record { number = b.count; distance = d; time = t }) } ≡ looked grip within b r
  unfolding looked
  looked-taken p = rw (test_is ∙ p, e, f, far) refl

  pub looked_kept : test ≡ false → record { count = b.count + 1; ok = b.ok && right; nearest = b.nearest } ≡ looked grip within b r
  unfolding looked
  looked_kept p = rw (test_is ∙ p, e) refl
