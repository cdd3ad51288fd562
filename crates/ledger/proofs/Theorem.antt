-- Demand 3's claims hold of the run of 01's ledger over every list of calls, for every rate and every demodulation.
use mathlib.Core.Path.{◌≡◌, refl, sym, ap, ◌∙◌}
use mathlib.Core.List.{List, [], ◌∷◌, ◌++◌, map, append_assoc, append-nil}
use mathlib.Core.Bool.{true, cond}
use Prim.Native.Nat.{ℕ, ◌+◌, ◌≤◌}
use native.Mathlib.Omega.{arith}
use lib.Dec.{eqb}
use Rattle.ledger.specs.Frames.{Key, same}
use Rattle.ledger.specs.Ledger.{by_frames, Demod, Ledger, flush, fresh}
use Rattle.ledger.specs.Causes.{Attempt, number, after_call}
use Rattle.ledger.specs.Demand3.{SeenFrame, SeenMessage, Seen, frame, message, Turn, all, samples_of, pushed, written, Belongs, mine, MineIs, gathered, Due, Demand3}
use Rattle.ledger.specs.History.{turn_of, history, run_of}
use Rattle.ledger.proofs.Firsts.{first_none}
use Rattle.ledger.proofs.Basics.{clash, or_false, same_refl, nothing_of}
use Rattle.ledger.proofs.Orders.{passed, rate-pos}
use Rattle.ledger.proofs.Records.{written-join, spent, first_written, mine_has, mine_lacks}
use Rattle.ledger.proofs.Walk.{each_at}
use Rattle.ledger.proofs.Starts.{spaced-apart}
use Rattle.ledger.proofs.Stand.{Stand, fresh_stand, turn_stand}
use Rattle.ledger.proofs.Turns.{all_one, refused, frames_first, only_then_at, then_written_at, flushed_at}

module _ (rate : ℕ) (d : Demod) where
  -- ---- every call of a run finds a ledger that stands

  abbrev added : Turn → ℕ
  added t = cond (eqb t.refusal 0) (samples_of t.call) 0

  next : (rs : List Seen) (n : ℕ) (l : Ledger by_frames) → Stand rate rs n l → (a : Attempt)
      → Stand rate (rs ++ (turn_of rate d l a).records) (n + added (turn_of rate d l a)) (after_call rate d l a.call (number rate l a))
  next rs n l st a = turn_stand rate d rs n l st a.call (number rate l a)

  -- what is shown of a call from any ledger that stands holds of a call of the run
  at : (P : Turn → Type 0) (rs : List Seen) (n : ℕ) (l : Ledger by_frames) (cs : List Attempt) → Stand rate rs n l
      → (before behind : List Turn) (t : Turn) → history rate d l cs ≡ before ++ t ∷ behind
      → ((k : Ledger by_frames) (a : Attempt) → Stand rate (rs ++ all before) (n + pushed before) k → P (turn_of rate d k a)) → P t
  unfolding history all pushed
  at P rs n l [] st [] behind t e h = nothing_of t behind (sym e)
  at P rs n l [] st (u ∷ before) behind t e h = nothing_of u (before ++ t ∷ behind) (sym e)
  at P rs n l (a ∷ cs) st [] behind t e h =
      let q : turn_of rate d l a ≡ t = cc in
      rw q at (h l a (rw (append-nil rs, more n) st))
    where
      more : (n : ℕ) → n + 0 ≡ n
      more n = omega arith
  at P rs n l (a ∷ cs) st (u ∷ before) behind t e h =
      let q : turn_of rate d l a ≡ u = cc in
      let r : history rate d (after_call rate d l a.call (number rate l a)) cs ≡ before ++ t ∷ behind = cc in
      at P (rs ++ u.records) (n + added u) (after_call rate d l a.call (number rate l a)) cs (rw (← q) (next rs n l st a)) before behind t r
      (λ k b s. h k b (rw (append_assoc rs u.records (all before), sum n (added u) (pushed before)) at s))
    where
      sum : (i j k : ℕ) → i + j + k ≡ i + (j + k)
      sum i j k = omega arith

  -- the whole run
  end : (rs : List Seen) (n : ℕ) (l : Ledger by_frames) (cs : List Attempt) → Stand rate rs n l
      → (k : Ledger by_frames) × (m : ℕ) × Stand rate (rs ++ all (history rate d l cs)) m k
  unfolding history all
  end rs n l [] st = (l, n, rw (append-nil rs) st)
  end rs n l (a ∷ cs) st =
      let i = end (rs ++ (turn_of rate d l a).records) _ (after_call rate d l a.call (number rate l a)) cs (next rs n l st a) in
      (i.0, i.1, rw (append_assoc rs (turn_of rate d l a).records (all (history rate d (after_call rate d l a.call (number rate l a)) cs))) at i.2)

module _ (rate : ℕ) (d : Demod) (cs : List Attempt) where
  -- the records of the run
  stands : (k : Ledger by_frames) × (m : ℕ) × Stand rate (all (run_of rate d cs)) m k
  stands = end rate d [] 0 fresh cs (fresh_stand rate)

  -- a call of the run
  called : (P : Turn → Type 0) (before behind : List Turn) (t : Turn) → run_of rate d cs ≡ before ++ t ∷ behind
      → ((k : Ledger by_frames) (a : Attempt) → Stand rate (all before) (pushed before) k → P (turn_of rate d k a)) → P t
  called P before behind t e h = at rate d P [] 0 fresh cs (fresh_stand rate) before behind t e (λ k a s. h k a (rw (none (pushed before)) at s))
    where
      none : (n : ℕ) → 0 + n ≡ n
      none n = omega arith

  -- an accepted call has a rate of at least 1
  rated : (k : Ledger by_frames) (a : Attempt) → number rate k a ≡ 0 → 1 ≤ rate
  rated k a e = rate-pos rate (passed rate a.lent k a.call (first_none _ _ e).0).rated

  -- ---- whose frame it is

  once : (b c : List Seen) (x : SeenFrame) (m n : SeenMessage) → Belongs x b m → Belongs x (b ++ message m ∷ c) n → ⊥
  unfolding written
  once b c x m n p q =
      let o = or_false (written x.key b) (written x.key (message m ∷ c)) (sym (written-join x.key b (message m ∷ c)) ∙ q.first) in
      let s = (or_false (same m.key x.key) (written x.key c) o.1).0 in
      clash (same m.key x.key) (rw p.alike (same_refl x.key)) s

  owned : (a b : List Seen) (x : SeenFrame) → x.right ≡ true → mine x.key (a ++ frame x ∷ b) ≡ []
      → (between : List Seen) × (m : SeenMessage) × (rest : List Seen) × (b ≡ between ++ message m ∷ rest) × Belongs x between m
  owned a b x r e =
      let w = first_written x.key b (spent a b x r e) in
      (w.0, w.1, w.2, w.3, record { right = r; alike = w.4; first = w.5 })

  mine_is : (m : SeenMessage) → MineIs m
  unfolding mine
  mine_is m = record { has_it = λ a b x h. mine_has a b x m h; lacks_it = λ a b x h. mine_lacks a b x m h; no_message = λ b n. refl }

  -- ---- calls

  then_written : (before behind : List Turn) (t : Turn) → run_of rate d cs ≡ before ++ t ∷ behind → t.refusal ≡ 0 → (k : Key)
      → (gathered before t k ≡ [] → ⊥) → Due rate before t (gathered before t k) → written k t.records ≡ true
  then_written before behind t e =
      called
      (λ t. t.refusal ≡ 0 → (k : Key) → (gathered before t k ≡ [] → ⊥) → Due rate before t (gathered before t k) → written k t.records ≡ true)
      before behind t e
      (λ k a s z. then_written_at rate d before k s a.call (number rate k a) (rated k a) z)

  -- THE THEOREM
  pub demand3 : Demand3 rate (run_of rate d cs)
  demand3 =
      record {
        refused = λ before behind t e. called (λ t. (t.refusal ≡ 0 → ⊥) → t.records ≡ []) before behind t e (λ k a s. refused rate d before k s a.call (number rate k a));
        frames_first = λ before behind t e.
            called (λ t. (fs : List SeenFrame) × (ms : List SeenMessage) × (t.records ≡ map frame fs ++ map message ms)) before behind t e
            (λ k a s. frames_first rate d before k s a.call (number rate k a));
        apart = λ a b c x y e. spaced-apart rate a b c x y (rw e at stands.2.apart);
        at_most_one = λ a b c d x m n e p q. once b c x m n p q;
        exactly_one = λ before behind t e.
            called
            (λ t. t.call ≡ flush → t.refusal ≡ 0 → (a b : List Seen) (x : SeenFrame) → all (before ++ (t ∷ [])) ≡ a ++ frame x ∷ b → x.right ≡ true
            → (between : List Seen) × (m : SeenMessage) × (rest : List Seen) × (b ≡ between ++ message m ∷ rest) × Belongs x between m)
            before behind t e
            (λ k u s f z a b x g r.
            owned a b x r
            (sym (ap (mine x.key) g) ∙ ap (mine x.key) (all_one before (turn_of rate d k u)) ∙ flushed_at rate d before k s u.call (number rate k u) z f x.key));
        its_frames = λ a b m e. each_at [] a b (message m) (rw e at stands.2.good);
        mine_is = mine_is;
        only_then = λ before behind t e.
            called
            (λ t. (a b : List Seen) (m : SeenMessage) → t.records ≡ a ++ message m ∷ b
            → (t.refusal ≡ 0) × Due rate before t (gathered before t m.key) × (mine m.key (all before ++ a) ≡ gathered before t m.key))
            before behind t e
            (λ k a s. only_then_at rate d before k s a.call (number rate k a) (rated k a));
        not_before = λ before between behind t u e z a b m g n some due.
            clash (written m.key t.records)
            (then_written before (between ++ u ∷ behind) t e z m.key some due)
            (or_false (written m.key t.records) (written m.key (all between ++ a)) (sym (written-join m.key t.records (all between ++ a)) ∙ n)).0;
        then_written = then_written;
      }
