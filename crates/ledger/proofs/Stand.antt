-- What stands between two calls of a run: the records so far, the samples so far, and the ledger.
use mathlib.Core.Path.{◌≡◌, refl, sym}
use mathlib.Core.List.{List, [], ◌++◌, map, append_assoc, append-nil}
use mathlib.Core.Bool.{true, cond}
use Prim.Native.Nat.{ℕ, zero, suc, ◌+◌, ◌≤◌}
use native.Mathlib.Omega.{arith}
use lib.ListN.{length}
use lib.Dec.{eqb}
use borrow.Author.Tests.{ne_eqb}
use Rattle.ledger.specs.Frames.{start_of}
use Rattle.ledger.specs.Ledger.{by_frames, Demod, capacity, spaced, Ledger, Call, push, flush, ready, chosen, fresh, scans, now, closed, messages}
use Rattle.ledger.specs.Causes.{after_call, call_events}
use Rattle.ledger.specs.Demand3.{Seen, samples_of, mine}
use Rattle.ledger.specs.History.{see}
use Rattle.ledger.proofs.Spacing.{spaced-join, Far, scans-spread, none_far}
use Rattle.ledger.proofs.Sizes.{call_size, scans-small}
use Rattle.ledger.proofs.Ranks.{AllRanked, others-ranked, scans-ranked}
use Rattle.ledger.proofs.Notes.{heard_seen, notes, seen-events}
use Rattle.ledger.proofs.Waiting.{view, distinct-others}
use Rattle.ledger.proofs.Walk.{Each, each_join, frames-good, Keeps, scans-within, written-good, written-views}
use Rattle.ledger.proofs.Starts.{starts_in, starts-call}

pub record Stand (rate : ℕ) (rs : List Seen) (n : ℕ) (l : Ledger by_frames) : Type 0 where
  pub keeps : Keeps rs l
  pub ranked : AllRanked l.waiting
  pub clock : 1 ≤ rate → (length l.held ≤ capacity rate) × (l.base + length l.held ≡ n)
  pub apart : spaced rate [] (starts_in rs) ≡ true
  pub far : Far rate (starts_in rs) l
  pub good : Each [] rs

pub fresh_stand : (rate : ℕ) → Stand rate [] 0 fresh
unfolding fresh view mine spaced starts_in
fresh_stand rate =
    record {
      keeps = record { views = λ k. refl; once = tt };
      ranked = tt;
      clock = λ h. (omega arith, refl);
      apart = refl;
      far = none_far rate (fresh {K = by_frames});
      good = tt;
    }

module _ (rate : ℕ) (d : Demod) (rs : List Seen) (n : ℕ) (l : Ledger by_frames) (st : Stand rate rs n l) (c : Call) where
  -- after the call's scans
  pub scanned-keeps : Keeps (rs ++ heard_seen (scans rate d l c).heard) (scans rate d l c)
  scanned-keeps = scans-within rate d rs l c st.keeps

  -- an accepted call
  call_stand : Stand rate (rs ++ (heard_seen (scans rate d l c).heard ++ notes (messages rate c (scans rate d l c)))) (n + call_size c) (closed rate c (scans rate d l c))
  unfolding messages closed
  call_stand =
      let s = scans rate d l c in
      let p = ready by_frames c (now rate s) in
      let h = heard_seen s.heard in
      let ranked = scans-ranked rate d l c st.ranked in
      let spread = scans-spread rate d (starts_in rs) l c st.far in
      let starts = starts-call rs s.heard (chosen p s.waiting) in
      let join : rs ++ (h ++ notes (chosen p s.waiting)) ≡ (rs ++ h) ++ notes (chosen p s.waiting) = sym (append_assoc rs h (notes (chosen p s.waiting))) in
      record {
        keeps = rw join (record { views = written-views (rs ++ h) p s scanned-keeps; once = distinct-others p s.waiting scanned-keeps.once });
        ranked = others-ranked p s.waiting ranked;
        clock = λ pos.
            let k = st.clock pos in
            let f = scans-small rate d l c pos k.0 in
            (f.0, omega (arith, f.1, k.1));
        apart = rw starts (spaced-join rate [] (starts_in rs) (map start_of s.heard) st.apart spread.apart);
        far = rw starts spread.far;
        good = rw join (each_join [] (rs ++ h) (notes (chosen p s.waiting)) (each_join [] rs h st.good (frames-good rs s.heard)) (written-good (rs ++ h) p s scanned-keeps ranked));
      }

  -- any call, k being the number that comes back
  pub turn_stand : (k : ℕ) → Stand rate (rs ++ map see (call_events rate d l c k)) (n + cond (eqb k 0) (samples_of c) 0) (after_call rate d l c k)
  unfolding call_events after_call samples_of
  turn_stand zero = rw (seen-events rate c (scans rate d l c), size c) call_stand
    where
      size : (c : Call) → samples_of c ≡ call_size c
      size (push xs) = refl
      size flush = refl
  turn_stand (suc k) = rw (append-nil rs, ne_eqb (suc k) 0 (λ h. omega arith), zero_more n) st
    where
      zero_more : (n : ℕ) → n + 0 ≡ n
      zero_more n = omega arith
