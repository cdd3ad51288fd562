-- A push's fillings: the code's numbers, its sample buffer and the ledger go on together. Assumes nothing.
use Rattle.std.proofs.Common.{Option, None, Some}
use mathlib.Core.Bool.{true, false}
use mathlib.Core.List.{List, [], ◌∷◌, ◌++◌}
use mathlib.Core.Logic.{⊎_elim}
use mathlib.Core.Path.{◌≡◌, ◌∙◌, refl, sym, ap}
use Prim.Native.Nat.{ℕ, zero, suc, ◌+◌, ◌-◌, ◌*◌, ◌^◌, ◌≤◌, ◌<◌}
use native.Mathlib.Nat.{min-le_left}
use native.Mathlib.Omega.{arith}
use lib.Dec.{leb, eqb}
use lib.ListN.{length, take, drop, length-drop, length-map}
use lib.Seq.{length-take-le, paste, length-paste}
use lib.Ieee.{Float}
use borrow.Author.Tests.{le-leb, lt-leb, eqb-true}
use Rattle.limits.specs.Limits.{lowest_rate, highest_rate, longest_stream, events_size, scratch64}
use Rattle.limits.specs.Samples.{is_dbm, all_dbm}
use Rattle.limits.proofs.Samples.{all_drop, all_take}
use Rattle.ledger.specs.Causes.{most_starts, oldest_s}
use Rattle.ledger.specs.Ledger.{Kind, Demod, Ledger, by_entry, capacity, half, tail, seconds, starts_from, hear, remember, takes, take_one, halve, amount, add, scanned, forget}
use Rattle.ledger.specs.Room.{Since, room, take_one_if, take_each_if, scan_if, due_if, fill_if, fills_if}
use Rattle.ledger.specs.Demodulation.{demod_of}
use Rattle.ledger.proofs.Basics.{either, and_true}
use Rattle.ledger.proofs.Places.{since_snoc}
use Rattle.ledger.proofs.Sizes.{Still, one_still, halve-less, add-length, amount-room, amount-pos}
use Rattle.receiver_samples.specs.Buffer.{Buffer, left_held, left_places, share, filled, all_filled}
use Rattle.receiver_samples.specs.Buffer as buffer
use Rattle.receiver_samples.proofs.Fillings.{runs, runs-turn, runs_none, runs-buffer, left_less, left_length, halve-holds, fill_holds, room_is, held_length}
use Rattle.demod.specs.declared.DecodedFrame.{DecodedFrame}
use Rattle.receiver_starts.specs.Starts as starts
use Rattle.receiver_starts.specs.Starts.{distances, distances_of}
use Rattle.receiver_starts.specs.declared.Starts.{Starts}
use Rattle.receiver_starts.proofs.Places.{take-few}
use Rattle.receiver_starts.proofs.SampleLaws.{from_holds, moved_is}
use Rattle.receiver_starts.proofs.StartLaws.{stands}
use Rattle.receiver_waiting.specs.declared.Waiting.{Waiting}
use Rattle.bursts.specs.declared.Burst.{Burst}
use Rattle.receiver_scan.specs.Midway.{Midway, Lent, Within, Does}
use Rattle.receiver_scan.specs.declared.Scanned.{Scanned}

-- ---- starts that are not too old

since-wide : (a b c d : ℕ) (l : List ℕ) → c + b ≤ a + d → Since a b l → Since c d l
since-wide a b c d [] h w = tt
since-wide a b c d (s ∷ l) h w = (omega (arith, w.0), since-wide a b c d l h w.1)

since_some : (base back lo : ℕ) (l : List ℕ) → Since base back l → Since base back (starts_from lo l)
unfolding starts_from
since_some base back lo [] w = tt
since_some base back lo (s ∷ l) w =
    ⊎_elim (λ e. rw e (w.0, since_some base back lo l w.1)) (λ e. rw e (since_some base back lo l w.1)) (either (leb lo s))

taken-since : {K : Kind} (base back : ℕ) (l : Ledger K) (x : ℕ) (o : Option DecodedFrame) → base ≤ x → Since base back l.starts → Since base back (hear (remember l x) x o).starts
unfolding hear remember
taken-since base back l x None h w = since_snoc base back l.starts x w h
taken-since base back l x (Some f) h w = since_snoc base back l.starts x w h

-- ---- a scan that tests for room leaves the samples

module _ {K : Kind} (rate : ℕ) (d : Demod) where
  same : (l : Ledger K) → Still l l
  same l = record { held = refl; base = refl; unscanned = refl }

  then : {a b c : Ledger K} → Still a b → Still b c → Still a c
  then y z = record { held = z.held ∙ y.held; base = z.base ∙ y.base; unscanned = z.unscanned ∙ y.unscanned }

  one_if_still : (wait : ℕ) (l : Ledger K) (b : Burst) → Still l (take_one_if rate d wait l b)
  unfolding take_one_if
  one_if_still wait l b = ⊎_elim (λ e. rw e (one_still rate d wait l b)) (λ e. rw e (same l)) (either (room l))

  each_if_still : (wait : ℕ) (l : Ledger K) (bs : List Burst) → Still l (take_each_if rate d wait l bs)
  unfolding take_each_if
  each_if_still wait l [] = same l
  each_if_still wait l (b ∷ bs) = then (one_if_still wait l b) (each_if_still wait (take_one_if rate d wait l b) bs)

  pub scan_if_still : (wait : ℕ) (l : Ledger K) → Still l (scan_if rate d wait l)
  unfolding scan_if forget
  scan_if_still wait l = let z = each_if_still wait l (d.bursts l.held) in record { held = z.held; base = z.base; unscanned = z.unscanned }

  -- what it adds to the starts lies behind the base
  module _ (lo back : ℕ) where
    one-if-since : (wait : ℕ) (l : Ledger K) (b : Burst) → lo ≤ l.base → Since lo back l.starts → Since lo back (take_one_if rate d wait l b).starts
    unfolding take_one_if take_one
    one-if-since wait l b h w =
        ⊎_elim
        (λ e. rw e
        (⊎_elim
        (λ t. rw t (hear-since (d.decode l.held (seconds rate l.base) b)))
        (λ t. rw t w)
        (either (takes rate wait l b))))
        (λ e. rw e w)
        (either (room l))
      where
        hear-since : (o : Option DecodedFrame) → Since lo back (hear (remember l (l.base + b.start)) (l.base + b.start) o).starts
        hear-since o = taken-since lo back l (l.base + b.start) o (omega arith) w

    each-if-since : (wait : ℕ) (l : Ledger K) (bs : List Burst) → lo ≤ l.base → Since lo back l.starts → Since lo back (take_each_if rate d wait l bs).starts
    unfolding take_each_if
    each-if-since wait l [] h w = w
    each-if-since wait l (b ∷ bs) h w =
        let s = (one_if_still wait l b).base in
        each-if-since wait (take_one_if rate d wait l b) bs (omega arith) (one-if-since wait l b h w)

    pub scan-if-since : (wait : ℕ) (l : Ledger K) → lo ≤ l.base → Since lo back l.starts → Since lo back (scan_if rate d wait l).starts
    unfolding scan_if forget
    scan-if-since wait l h w = since_some lo back _ _ (each-if-since wait l (d.bursts l.held) h w)

  due_if_held : (l : Ledger K) → (due_if rate d l).held ≡ l.held
  unfolding due_if scanned
  due_if_held l = ⊎_elim (λ e. rw e (scan_if_still (tail rate) (scanned l)).held) (λ e. rw e refl) (either (leb rate (2 * l.unscanned)))

  -- ---- the ledger's fillings

  abbrev taking : Ledger K → List Float → ℕ
  taking l xs = amount rate (halve rate l) xs

  runs-ledger : (n : ℕ) (l : Ledger K) (xs : List Float) → runs (fill_if rate d) taking n l xs ≡ fills_if rate d n l xs
  unfolding runs fills_if
  runs-ledger zero l xs = refl
  runs-ledger (suc n) l [] = refl
  runs-ledger (suc n) l (x ∷ xs) = runs-ledger n (fill_if rate d l (x ∷ xs)) (drop (taking l (x ∷ xs)) (x ∷ xs))

  module _ (pos : 1 ≤ rate) where
    fill-fits : (l : Ledger K) (xs : List Float) → length l.held ≤ capacity rate → length (fill_if rate d l xs).held ≤ capacity rate
    unfolding fill_if
    fill-fits l xs h =
        let k = halve rate l in
        let s = halve-less rate l pos h in
        let t = amount-room rate k xs (omega arith) in
        rw (due_if_held (add rate k xs)) (omega (arith, add-length rate k xs))

    pub ledger-turn : (l w : Ledger K) (xs : List Float) (from n : ℕ) → length l.held ≤ capacity rate → from < length xs → n ≡ taking l (drop from xs)
        → fills_if rate d (length xs) l (drop from xs) ≡ w → fills_if rate d (length xs) (fill_if rate d l (drop from xs)) (drop (from + n) xs) ≡ w
    ledger-turn l w xs from n o h e p =
        sym (runs-ledger (length xs) (fill_if rate d l (drop from xs)) (drop (from + n) xs))
        ∙ runs-turn (fill_if rate d) taking (λ k. length k.held ≤ capacity rate)
        (λ k ys q m. amount-pos rate (halve rate k) ys (halve-less rate k pos q) m) fill-fits
        (length xs) l (fill_if rate d l (drop from xs)) w xs from n o h (omega arith) refl e (runs-ledger (length xs) l (drop from xs) ∙ p)

  pub ledger_end : (l w : Ledger K) (xs : List Float) (from : ℕ) → from ≡ length xs → fills_if rate d (length xs) l (drop from xs) ≡ w → l ≡ w
  ledger_end l w xs from e p = sym (runs_none (fill_if rate d) taking (length xs) l xs from e) ∙ runs-ledger (length xs) l (drop from xs) ∙ p

-- ---- the buffer's

module _ (rate : ℕ) where
  pub buffer-turn : 1 ≤ rate → (b t w : Buffer) (xs : List Float) (from n : ℕ) → b.held ≤ capacity rate → from < length xs
      → t ≡ filled rate b (drop from xs) → n ≡ share rate b (drop from xs)
      → all_filled rate (length xs) b (drop from xs) ≡ w → all_filled rate (length xs) t (drop (from + n) xs) ≡ w
  unfolding filled
  buffer-turn pos b t w xs from n o h e q p =
      sym (runs-buffer rate (length xs) t (drop (from + n) xs))
      ∙ runs-turn (filled rate) (share rate) (λ k. k.held ≤ capacity rate) moves keeps (length xs) b t w xs from n o h (omega arith) e q (runs-buffer rate (length xs) b (drop from xs) ∙ p)
    where
      moves : (k : Buffer) (ys : List Float) → k.held ≤ capacity rate → 1 ≤ length ys → 1 ≤ share rate k ys
      moves k ys q m = let g = left_less rate k.held pos q in omega arith

      keeps : (k : Buffer) (ys : List Float) → k.held ≤ capacity rate → (filled rate k ys).held ≤ capacity rate
      keeps k ys q = let g = left_less rate k.held pos q in omega arith

  pub buffer_end : (b w : Buffer) (xs : List Float) (from : ℕ) → from ≡ length xs → all_filled rate (length xs) b (drop from xs) ≡ w → b ≡ w
  buffer_end b w xs from e p = sym (runs_none (filled rate) (share rate) (length xs) b xs from e) ∙ runs-buffer rate (length xs) b (drop from xs) ∙ p

  -- ---- one drop

  pub left_le : (held : ℕ) → left_held rate held ≤ held
  unfolding left_held
  left_le held = ⊎_elim (λ e. let q = eqb-true held (capacity rate) e in rw e (omega arith)) (λ e. rw e (omega arith)) (either (eqb held (capacity rate)))

  module _ (l : Ledger by_entry) where
    halve-base : (held base : ℕ) → length l.held ≡ held → base ≡ l.base → base + (held - left_held rate held) ≡ (halve rate l).base
    unfolding left_held halve
    halve-base held base e f =
        rw (e, ← f)
        (⊎_elim (λ g. let q = eqb-true held (capacity rate) g in rw g (omega arith)) (λ g. rw g (omega arith)) (either (eqb held (capacity rate))))

    -- what it leaves
    record Left : Type 0 where
      unscanned : (halve rate l).unscanned ≡ l.unscanned
      starts : (halve rate l).starts ≡ l.starts
      waiting : (halve rate l).waiting ≡ l.waiting
      heard : (halve rate l).heard ≡ l.heard
      valid : all_dbm l.held ≡ true → all_dbm (halve rate l).held ≡ true

    halve-left : Left
    unfolding halve
    halve-left =
        ⊎_elim
        (λ e. record { unscanned = rw e refl; starts = rw e refl; waiting = rw e refl; heard = rw e refl; valid = λ v. rw e (all_drop (half rate) l.held v) })
        (λ e. record { unscanned = rw e refl; starts = rw e refl; waiting = rw e refl; heard = rw e refl; valid = λ v. rw e v })
        (either (eqb (length l.held) (capacity rate)))

valid-join : (a b : List Float) → all_dbm a ≡ true → all_dbm b ≡ true → all_dbm (a ++ b) ≡ true
unfolding all_dbm
valid-join [] b p q = q
valid-join (x ∷ a) b p q = let h = and_true (is_dbm x) (all_dbm a) p in rw h.0 (valid-join a b h.1 q)

-- what stands for the rest of a ledger does where only its samples, base, starts and unscanned count are others
pub midway_as : (l k : Ledger by_entry) (old : List ℕ) (s v : Starts) (w : Waiting) (n : ℕ) (e : List ℕ) → distances v ≡ distances_of k.base k.starts
    → k.waiting ≡ l.waiting → k.heard ≡ l.heard → Midway l old s w n e → Midway k old v w n e
midway_as l k old s v w n e a b c m =
    record { starts = a; waiting = m.waiting ∙ sym b; count = m.count ∙ ap length (sym c); events = rw c m.events; sized = rw c m.sized }

-- what `shift` leaves
pub shifted_is : (s v : Starts) (by : ℕ) → s.count ≤ most_starts → v ≡ starts.over s (starts.moved by (distances s))
    → (distances v ≡ starts.moved by (distances s)) × (v.count ≤ most_starts)
shifted_is s v by h e =
    let a = stands s v (starts.moved by (distances s)) e in
    let n : length (starts.moved by (distances s)) ≡ length (distances s) = length-map (distances s) _ in
    (a.0, omega (arith, a.1, take-few s.count s.at))

-- ---- the loop: w is the ledger after all fillings, b the buffer

module _ (rate : ℕ) (xs : List Float) (w : Ledger by_entry) (b : Buffer) (old : List ℕ) where
  -- `from` samples are in; f is what the filling under way does yet with the ledger, and 2 × unscanned is below `most`
  pub record Midst (f : Ledger by_entry → Ledger by_entry) (most : ℕ) (samples : List Float) (events : List ℕ) (held base unscanned : ℕ) (t : Scanned) (from : ℕ) : Type 0 where
    pub ledger : Ledger by_entry
    pub inside : from ≤ length xs
    pub places : capacity rate ≤ length samples
    pub bytes : events_size ≤ length events
    pub fits : held ≤ capacity rate
    pub holds : take held samples ≡ ledger.held
    pub based : base ≡ ledger.base
    pub unseen : unscanned ≡ ledger.unscanned
    pub quiet : 2 * unscanned < most
    pub valid : all_dbm ledger.held ≡ true
    pub stream : base + held + length xs ≤ longest_stream + from
    pub midway : Midway ledger old t.starts t.waiting t.count events
    pub within : Within t
    -- the base at the call's begin: since then it grew by less than 24 s, and no start is over 7 s before it
    pub first : ℕ
    pub grows : first ≤ base
    pub grown : base + held ≤ first + capacity rate + from
    pub since : Since first (oldest_s * rate) ledger.starts
    pub rest : fills_if rate (demod_of rate) (length xs) (f ledger) (drop from xs) ≡ w
    pub buffer : all_filled rate (length xs) (record { held = held; places = samples }) (drop from xs) ≡ b

  -- a filling is to begin
  abbrev pub FillAt : List Float → List ℕ → ℕ → ℕ → ℕ → Scanned → ℕ → Type 0
  FillAt = Midst (λ l. l) rate

  -- its samples are in, and a scan may be due
  abbrev pub FilledAt : List Float → List ℕ → ℕ → ℕ → ℕ → Scanned → ℕ → Type 0
  FilledAt = Midst (due_if rate (demod_of rate)) (25 * rate)

  module _ (samples : List Float) (events : List ℕ) (held base unscanned : ℕ) (t : Scanned) (from : ℕ) where
    module _ (lo : lowest_rate ≤ rate) (ok : all_dbm xs ≡ true) (m : FillAt samples events held base unscanned t from) (h : from < length xs) where
      abbrev left : ℕ
      left = left_held rate held

      abbrev moved : List Float
      moved = left_places rate held samples

      abbrev coming : List Float
      coming = drop from xs

      abbrev n : ℕ
      n = buffer.room rate left coming

      pub fill-asks : (capacity rate ≤ length moved) × (left ≤ capacity rate) × (from ≤ length xs)
      fill-asks = (rw (left_length rate held samples m.places) m.places, omega (arith, left_less rate held (omega arith) m.fits), m.inside)

      -- how far a filling goes
      pub fill-moves : (1 ≤ n) × (left + n ≤ capacity rate) × (from + n ≤ length xs) × (left ≤ held)
      fill-moves =
          let g = left_less rate held (omega arith) m.fits in
          let k : length coming ≡ length xs - from = length-drop from xs in
          (omega arith, omega arith, omega arith, left_le rate held)

      -- the starts after a drop
      abbrev Shifted : ℕ → Starts → Type 0
      Shifted rest v = (distances v ≡ starts.moved (held - rest) (distances t.starts)) × (v.count ≤ most_starts)

      abbrev shifted : Starts → Scanned
      shifted v = record { starts = v; waiting = t.waiting; count = t.count }

      filled_at : (v : Starts) → Shifted left v → FilledAt (paste moved left coming n) events (left + n) (base + (held - left)) (unscanned + n) (shifted v) (from + n)
      unfolding add fill_if filled
      filled_at v sh =
          let l = m.ledger in
          let k = halve rate l in
          let pos : 1 ≤ rate = omega arith in
          let z = fill-moves in
          let g = fill-asks in
          let e : length l.held ≡ held = held_length rate held samples l m.fits m.places m.holds in
          let hh : take left moved ≡ k.held = halve-holds rate held samples l m.fits m.places m.holds in
          let a : n ≡ amount rate k coming = room_is rate left moved k g.1 g.0 hh coming in
          let f : take (left + n) (paste moved left coming n) ≡ (add rate k coming).held = fill_holds rate left moved k g.1 g.0 hh coming in
          let p : length (paste moved left coming n) ≡ length moved = length-paste moved left coming n (omega (arith, z, g)) (min-le_left (length coming) (capacity rate - left)) in
          let r = halve-left rate l in
          let hb = halve-base rate l held base e m.based in
          let ds : distances v ≡ distances_of k.base k.starts
          = sh.0 ∙ ap (starts.moved (held - left)) m.midway.starts ∙ moved_is (held - left) l.base l.starts
          ∙ rw (r.starts, ← hb, m.based) refl in
          record {
            ledger = add rate k coming;
            inside = z.2;
            places = rw p g.0;
            bytes = m.bytes;
            fits = z.1;
            holds = f;
            based = hb;
            unseen = rw (a, m.unseen, r.unscanned) refl;
            quiet = omega (arith, m.quiet, z);
            valid = valid-join k.held (take (amount rate k coming) coming) (r.valid m.valid) (all_take (amount rate k coming) coming (all_drop from xs ok));
            stream = omega (arith, m.stream, z);
            midway = midway_as l (add rate k coming) old t.starts v t.waiting t.count events ds r.waiting r.heard m.midway;
            within = record { starts = sh.1; waiting = m.within.waiting; count = m.within.count };
            first = m.first;
            grows = omega (arith, m.grows);
            grown = omega (arith, m.grown, z);
            since = rw r.starts m.since;
            rest = ledger-turn rate (demod_of rate) pos l w xs from n (rw e m.fits) h a m.rest;
            buffer = buffer-turn rate pos (record { held = held; places = samples }) (record { held = left + n; places = paste moved left coming n }) b xs from n m.fits h refl refl m.buffer;
          }

      -- what the code made of it
      pub fill-bounds : (rest k : ℕ) → rest ≡ left_held rate held → k ≡ buffer.room rate rest coming
          → (1 ≤ k) × (rest + k ≤ capacity rate) × (from + k ≤ length xs) × (rest ≤ held) × (unscanned + k < 13 * rate)
      fill-bounds rest k e g =
          let gg : k ≡ n = g ∙ ap (λ (x : ℕ). buffer.room rate x coming) e in
          let z = fill-moves in
          (omega arith, omega arith, omega arith, omega arith, omega (arith, m.quiet))

      pub fill-turn : (rest k : ℕ) (one two : List Float) (v : Starts) → rest ≡ left_held rate held → one ≡ left_places rate held samples → k ≡ buffer.room rate rest coming
          → two ≡ paste one rest coming k → Shifted rest v → FilledAt two events (rest + k) (base + (held - rest)) (unscanned + k) (shifted v) (from + k)
      fill-turn rest k one two v e f g i sh =
          let gg : k ≡ n = g ∙ ap (λ (x : ℕ). buffer.room rate x coming) e in
          let ii : two ≡ paste moved left coming n = i ∙ rw (f, e, gg) refl in
          let ss : Shifted left v = rw (← e) sh in
          rw (ii, gg, e) (filled_at v ss)

      -- the starts are not too old for a drop to move them
      pub shift-asks : rate ≤ highest_rate → length xs ≤ capacity rate → (rest : ℕ) → rest ≡ left_held rate held
          → (t.starts.count ≤ most_starts) × (held - rest ≤ 2 ^ 30) × (starts.all_from (2 ^ 30) (distances t.starts) ≡ true)
      shift-asks hi size rest e =
          let w = since-wide m.first (oldest_s * rate) m.ledger.base (2 ^ 30) m.ledger.starts (omega (arith, m.grown, m.based, m.inside)) m.since in
          (m.within.starts, omega (arith, m.fits), ap (starts.all_from (2 ^ 30)) m.midway.starts ∙ from_holds m.ledger.base (2 ^ 30) m.ledger.starts w)

    module _ (m : FilledAt samples events held base unscanned t from) where
      -- no scan is due
      pub fill-still : 2 * unscanned < rate → FillAt samples events held base unscanned t from
      unfolding due_if
      fill-still h =
          record {
            ledger = m.ledger;
            inside = m.inside;
            places = m.places;
            bytes = m.bytes;
            fits = m.fits;
            holds = m.holds;
            based = m.based;
            unseen = m.unseen;
            quiet = h;
            valid = m.valid;
            stream = m.stream;
            midway = m.midway;
            within = m.within;
            first = m.first;
            grows = m.grows;
            grown = m.grown;
            since = m.since;
            rest =
                let q : leb rate (2 * m.ledger.unscanned) ≡ false = lt-leb rate (2 * m.ledger.unscanned) (rw (← m.unseen) h) in
                (rw q at m.rest);
            buffer = m.buffer;
          }

      -- what a scan asks
      pub scan-asks : (scratch : List Float) → lowest_rate ≤ rate → rate ≤ highest_rate → scratch64 ≤ length scratch
          → Lent rate base (tail rate) (take held samples) events scratch × Within t
      scan-asks scratch lo hi q =
          let e : length (take held samples) ≡ held = length-take-le held samples (omega (arith, m.fits, m.places)) in (
            record {
              lowest = lo;
              highest = hi;
              fits = omega (arith, m.fits);
              valid = rw m.holds m.valid;
              stream = omega (arith, m.stream, m.inside);
              waits = omega arith;
              events = m.bytes;
              scratch = q;
            },
            m.within,
          )

      -- a scan is due
      pub fill-scanned : rate ≤ 2 * unscanned → lowest_rate ≤ rate → (u : Scanned) (after : List ℕ) → length after ≡ length events
          → Does (scan_if rate (demod_of rate) (tail rate)) (take held samples) base t events u after
          → FillAt samples after held base 0 u from
      unfolding due_if scanned
      fill-scanned h lo u after size s =
          let l = scanned m.ledger in
          let k = scan_if rate (demod_of rate) (tail rate) l in
          let z = scan_if_still rate (demod_of rate) (tail rate) l in
          record {
            ledger = k;
            inside = m.inside;
            places = m.places;
            bytes = omega (arith, m.bytes);
            fits = m.fits;
            holds = m.holds ∙ sym z.held;
            based = m.based ∙ sym z.base;
            unseen = sym z.unscanned;
            quiet = omega arith;
            valid = rw z.held m.valid;
            stream = m.stream;
            midway =
                s.midway l old (sym m.holds) (sym m.based) (midway_as m.ledger l old t.starts t.starts t.waiting t.count events m.midway.starts refl refl m.midway);
            within = s.within;
            first = m.first;
            grows = m.grows;
            grown = m.grown;
            since = scan-if-since rate (demod_of rate) m.first (oldest_s * rate) (tail rate) l (omega (arith, m.grows, m.based)) m.since;
            rest =
                let q : leb rate (2 * m.ledger.unscanned) ≡ true = le-leb rate (2 * m.ledger.unscanned) (rw (← m.unseen) h) in
                (rw q at m.rest);
            buffer = m.buffer;
          }
