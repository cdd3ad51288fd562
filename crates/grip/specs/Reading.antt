-- Scaffolding. How a list is read for a grip, record by record and in parts; what the best so far stands for. `nearest_message` reads its list as one part. Assumes nothing.
use Rattle.std.specs.Prelude.{ℕ, ◌+◌, ◌%◌, ◌≡◌, Bool, true, cond, ◌&&◌, ◌||◌, Option, Some, None, List, [], ◌∷◌, ◌++◌, eqb, length, get_or, Float}
use Rattle.std.specs.Float.Ieee.{lt, eq}
use Rattle.limits.specs.Limits.{record_size}
use Rattle.record.specs.Readers.{time_of}
use Rattle.event_list.specs.Events.{record_ok, events_of, list_ok}
use Rattle.grip.specs.declared.Match.{Match}
use Rattle.grip.specs.declared.Best.{Best}
use Rattle.grip.specs.Nearest.{distance, qualifies, IsNearest, NoneQualifies, Found, at, none}

-- a message at this distance and time goes before the nearest one so far
abbrev pub is_nearer : Option Match → Float → Float → Bool
is_nearer None d t = true
is_nearer (Some m) d t = lt d m.distance || (eq d m.distance && lt t m.time)

-- record r is the best from here on
abbrev pub takes : Float → Float → Best → List ℕ → Bool
takes grip within b r = qualifies grip within r && is_nearer b.nearest (distance grip r) (time_of r)

unfoldable pub looked : Float → Float → Best → List ℕ → Best
looked grip within b r = record {
  count = b.count + 1;
  ok = b.ok && record_ok r;
  nearest = cond (takes grip within b r) (Some (record { number = b.count; distance = distance grip r; time = time_of r })) b.nearest;
}

unfoldable pub looks : Float → Float → Best → List (List ℕ) → Best
unfolding looked
looks grip within b [] = b
looks grip within b (r ∷ rs) = looks grip within (looked grip within b r) rs

-- a part is read: bytes that are no whole records are refused with 12
abbrev pub tested : Best → List ℕ → Best
tested b l = record { count = b.count; ok = b.ok && eqb (length l % record_size) 0; nearest = b.nearest }

abbrev pub read_part : Float → Float → Best → List ℕ → Best
read_part grip within b l = looks grip within (tested b l) (events_of l)

-- what the best so far says of the records that were read
pub record Stands (grip within : Float) (b : Best) (es : List (List ℕ)) : Type 0 where
  pub counted : b.count ≡ length es
  pub nothing : b.nearest ≡ None → NoneQualifies grip within es
  pub nearest : (m : Match) → b.nearest ≡ Some m → IsNearest grip within es m.number
  pub far : (m : Match) → b.nearest ≡ Some m → m.distance ≡ distance grip (get_or es m.number [])
  pub when : (m : Match) → b.nearest ≡ Some m → m.time ≡ time_of (get_or es m.number [])

-- parts add up: a part's records come behind those that were read, and 12 applies where it applies to one of the two
pub record Adds (grip within : Float) (b : Best) (l : List ℕ) (b' : Best) : Type 0 where
  pub fine : b'.ok ≡ b.ok && list_ok l
  pub behind : (es : List (List ℕ)) → Stands grip within b es → Stands grip within b' (es ++ events_of l)

abbrev pub found_of : Best → Found
found_of b = match_found b.nearest
  where
    match_found : Option Match → Found
    match_found None = none
    match_found (Some m) = at m.number
