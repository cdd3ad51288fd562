-- The loop over the bursts of a capture, which writes a record for each frame. Assumes nothing.
use Rattle.std.proofs.Common.{Option, None, Some, take_all}
use mathlib.Core.Path.{◌≡◌, refl, sym, ap, ◌∙◌}
use mathlib.Core.List.{List, [], ◌∷◌, ◌++◌, append_assoc, append-nil}
use Prim.Native.Nat.{ℕ, ◌+◌, ◌-◌, ◌*◌, ◌≤◌, ◌<◌}
use native.Mathlib.Omega.{arith}
use lib.ListN.{length, take, drop, length-append, length-drop, length-take, take-append-drop}
use lib.Seq.{sets, sets-eq, length-sets, take_at, drop_at, drop-drop, drop-length}
use borrow.Rule.Slice.PartMut.{put_mid}
use lib.Ieee.{Float}
use Rattle.limits.specs.Limits.{lowest_rate, highest_rate, buffer_s, record_size}
use Rattle.record.specs.Record.{frame_record}
use Rattle.record.proofs.RecordLaws.{length-frame}
use Rattle.bursts.specs.Numbers.{min_ms, most_bursts}
use Rattle.bursts.specs.Bursts.{default_options, threshold, gap_samples, bursts_in}
use Rattle.bursts.specs.Found.{bursts_from}
use Rattle.bursts.specs.declared.Burst.{Burst}
use Rattle.bursts.proofs.ClusterLaws.{left_end}
use Rattle.bursts.proofs.SearchLaws.{from_start}
use Rattle.bursts.proofs.Rows.{Next}
use Rattle.bursts.proofs.Count.{bursts-few}
use Rattle.demod.specs.Decode.{decode_burst}
use Rattle.demod.specs.Capture.{reception_of, record_if, record_of, records_of, captured, joined}
use Rattle.demod.specs.declared.DecodedFrame.{DecodedFrame}
use Rattle.demod.proofs.DecodedFacts.{Lawful, burst_lawful}

pub joined-append : (a b : List (List ℕ)) → joined (a ++ b) ≡ joined a ++ joined b
unfolding joined
joined-append [] b = refl
joined-append (r ∷ a) b = ap (λ (l : List ℕ). r ++ l) (joined-append a b) ∙ sym (append_assoc r (joined a) (joined b))

-- what is written in front of what is left of a list is written at its place
put_is : (l v : List ℕ) (k : ℕ) → k + length v ≤ length l → put_mid k (length l - k) l (sets (drop k l) 0 v) ≡ sets l k v
put_is l v k h =
    let zero : 0 + length v ≡ length v = omega arith in
    let front : sets (drop k l) 0 v ≡ v ++ drop (k + length v) l = sets-eq v (drop k l) 0 (omega (arith, length-drop k l)) ∙ rw (zero, drop-drop (length v) k l) refl in
    let none : drop (length l - k) (drop k l) ≡ [] = drop-drop (length l - k) k l ∙ ap (λ (n : ℕ). drop n l) (omega arith) ∙ drop-length l in
    rw (front, none, append-nil (v ++ drop (k + length v) l)) (sym (append_assoc (take k l) v (drop (k + length v) l)) ∙ sym (sets-eq v l k h))

-- a record is 120 bytes
sized_if : (o : Option DecodedFrame) (start : ℕ) → ((d : DecodedFrame) → o ≡ Some d → Lawful d.frame) → length (joined (record_if o start)) ≡ record_size * length (record_if o start)
unfolding joined record_if
sized_if None start f = refl
sized_if (Some d) start f =
    rw (append-nil (frame_record d.frame (reception_of d start))) (length-frame d.frame (reception_of d start) (f d refl).payload-places (f d refl).auth-places)

module _ (dbm : List Float) (rate : ℕ) (t0 : Float) where
  sized : (b : Burst) → length (joined (record_of dbm rate t0 b)) ≡ record_size * length (record_of dbm rate t0 b)
  unfolding record_of
  sized b = sized_if (decode_burst dbm rate b t0) b.start (burst_lawful dbm rate b t0)

  -- one at most
  one_if_lem : (o : Option DecodedFrame) (start : ℕ) → length (record_if o start) ≤ 1
  unfolding record_if
  one_if_lem None start = omega arith
  one_if_lem (Some d) start = omega arith

  one : (b : Burst) → length (record_of dbm rate t0 b) ≤ 1
  unfolding record_of
  one b = one_if_lem (decode_burst dbm rate b t0) b.start

  -- what a burst adds, by what was decoded
  module _ (b : Burst) (n : ℕ) (now : List ℕ) where
    abbrev pub Adds : ℕ → List ℕ → Type 0
    Adds m next = (m ≡ n + length (record_of dbm rate t0 b)) × (next ≡ sets now (record_size * n) (joined (record_of dbm rate t0 b)))

    pub adds : (d : Option DecodedFrame) (r : ℕ) (part : List ℕ) → d ≡ decode_burst dbm rate b t0 → record_size * (n + 1) ≤ length now → r ≡ length (record_if d b.start)
        → part ≡ sets (take (length now - record_size * n) (drop (record_size * n) now)) 0 (joined (record_if d b.start)) → Adds (n + r) (put_mid (record_size * n) (length now - record_size * n) now part)
    unfolding record_of
    adds d r part e place rc pc =
        let rest : take (length now - record_size * n) (drop (record_size * n) now) ≡ drop (record_size * n) now = take_all (length now - record_size * n) (drop (record_size * n) now) (omega (arith, length-drop (record_size * n) now)) in
        let whole : part ≡ sets (drop (record_size * n) now) 0 (joined (record_if d b.start)) = rw rest at pc in
        let rec : record_if d b.start ≡ record_of dbm rate t0 b = ap (λ (o : Option DecodedFrame). record_if o b.start) e in (
          ap (λ (k : ℕ). n + k) (rc ∙ ap length rec),
          ap (put_mid (record_size * n) (length now - record_size * n) now) (whole ∙ ap (λ (q : List (List ℕ)). sets (drop (record_size * n) now) 0 (joined q)) rec)
              ∙ put_is now (joined (record_of dbm rate t0 b)) (record_size * n) (omega (arith, sized b, one b)),
        )

    -- one record at most
    pub few_adds : (d : Option DecodedFrame) (r : ℕ) → r ≡ length (record_if d b.start) → r ≤ 1
    few_adds d r rc = omega (arith, rc, one_if_lem d b.start)

  module _ (floor : Float) where
    -- the records of the bursts that are left at an index
    abbrev pub records_left : ℕ → List (List ℕ)
    records_left at = records_of dbm rate t0 (bursts_from dbm rate default_options floor at)

    -- n records are written, and the search goes on at an index
    pub record CaptureAt (old : List ℕ) (at n : ℕ) (now : List ℕ) : Type 0 where
      pub inside : at ≤ length dbm
      pub few : n + length (bursts_from dbm rate default_options floor at) ≤ most_bursts
      pub size : length now ≡ length old
      pub count : n + length (records_left at) ≡ length (captured dbm rate t0 floor)
      pub past : drop (record_size * n) now ≡ drop (record_size * n) old
      pub here : take (record_size * n) now ++ joined (records_left at) ≡ joined (captured dbm rate t0 floor)

    pub capture-start : (old : List ℕ) → lowest_rate ≤ rate → rate ≤ highest_rate → length dbm ≤ buffer_s * rate → CaptureAt old 0 0 old
    unfolding captured
    capture-start old lo hi fits =
        let s = from_start dbm rate default_options floor in
        record {
          inside = omega arith;
          few = rw s (omega (arith, bursts-few dbm rate default_options floor lo hi fits min_ms (omega arith) refl refl));
          size = refl;
          count = rw s (omega arith);
          past = refl;
          here = rw s;
        }

    module _ (old : List ℕ) (at n : ℕ) (now : List ℕ) (c : CaptureAt old at n now) where
      -- the search found none
      pub capture-end : bursts_from dbm rate default_options floor at ≡ []
          → (n ≡ length (captured dbm rate t0 floor)) × (now ≡ joined (captured dbm rate t0 floor) ++ drop (record_size * n) old)
      unfolding records_of joined
      capture-end e =
          let k : n + 0 ≡ length (captured dbm rate t0 floor) = rw e at c.count in
          let t : take (record_size * n) now ++ [] ≡ joined (captured dbm rate t0 floor) = rw e at c.here in (
            omega arith,
            sym (take-append-drop (record_size * n) now) ∙ ap (λ (l : List ℕ). l ++ drop (record_size * n) now) (sym (append-nil (take (record_size * n) now)) ∙ t)
                ∙ ap (λ (l : List ℕ). joined (captured dbm rate t0 floor) ++ l) c.past,
          )

      -- nothing is left to search
      pub capture-past : length dbm ≤ at → (n ≡ length (captured dbm rate t0 floor)) × (now ≡ joined (captured dbm rate t0 floor) ++ drop (record_size * n) old)
      unfolding bursts_from bursts_in
      capture-past h = capture-end (ap (bursts_in dbm rate default_options floor) (left_end (threshold default_options floor) (gap_samples default_options rate) dbm at h))

      -- it found a burst
      module _ (b : Burst) (f : Next dbm rate default_options floor at b) where
        left : records_left at ≡ record_of dbm rate t0 b ++ records_left b.end
        unfolding records_of
        left = ap (records_of dbm rate t0) f.list

        -- how many bursts and records are left after it
        fewer : n + (length (bursts_from dbm rate default_options floor b.end) + 1) ≤ most_bursts
        fewer = let k : length (bursts_from dbm rate default_options floor at) ≡ length (bursts_from dbm rate default_options floor b.end) + 1 = ap length f.list ∙ omega arith in omega (arith, k, c.few)

        pub capture-room : n < most_bursts
        capture-room = omega (arith, fewer)

        module _ (m : ℕ) (next : List ℕ) (e : m ≡ n + length (record_of dbm rate t0 b))
            (w : next ≡ sets now (record_size * n) (joined (record_of dbm rate t0 b))) (room : record_size * (n + 1) ≤ length now) where
          abbrev bytes : List ℕ
          bytes = joined (record_of dbm rate t0 b)

          long : record_size * n + length bytes ≡ record_size * m
          long = omega (arith, sized b)

          front : length (take (record_size * n) now ++ bytes) ≡ record_size * m
          front = length-append (take (record_size * n) now) bytes ∙ omega (arith, length-take (record_size * n) now, long, sized b, one b)

          parts : next ≡ (take (record_size * n) now ++ bytes) ++ drop (record_size * m) now
          parts = w ∙ sets-eq bytes now (record_size * n) (omega (arith, sized b, one b)) ∙ rw long

          pub capture-more : CaptureAt old b.end m next
          capture-more =
              record {
                inside = f.inside;
                few = omega (arith, fewer, one b);
                size = ap length w ∙ length-sets now (record_size * n) bytes ∙ c.size;
                count = omega (arith, c.count, ap length left, length-append (record_of dbm rate t0 b) (records_left b.end));
                past =
                    ap (drop (record_size * m)) parts ∙ drop_at (take (record_size * n) now ++ bytes) (drop (record_size * m) now) (record_size * m) front
                    ∙ rw (← long) (sym (drop-drop (length bytes) (record_size * n) now) ∙ ap (drop (length bytes)) c.past ∙ drop-drop (length bytes) (record_size * n) old);
                here =
                    ap (λ (l : List ℕ). l ++ joined (records_left b.end)) (ap (take (record_size * m)) parts ∙ take_at (take (record_size * n) now ++ bytes) (drop (record_size * m) now) (record_size * m) front)
                    ∙ append_assoc (take (record_size * n) now) bytes (joined (records_left b.end))
                    ∙ ap (λ (l : List ℕ). take (record_size * n) now ++ l) (sym (joined-append (record_of dbm rate t0 b) (records_left b.end)) ∙ ap joined (sym left)) ∙ c.here;
              }
