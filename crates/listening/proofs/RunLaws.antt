-- The texts that a run hands over are the definition's. Assumes nothing.
use Prim.Native.Nat.{ℕ, zero, suc, ◌/◌, ◌%◌}
use mathlib.Core.Path.{◌≡◌, refl, sym, ap, ap₂, ◌∙◌}
use mathlib.Core.List.{List, ◌++◌, append-nil}
use native.Mathlib.Omega.{arith}
use lib.ListN.{length, length-append}
use lib.Seq.{take_at, drop_at}
use Rattle.demod.specs.Capture.{joined}
use Rattle.ledger.specs.Ledger.{by_frames, Ledger}
use Rattle.ledger.specs.Ledger as ledger
use Rattle.listening_receiver.specs.Standing.{StandsFor}
use Rattle.listening.specs.Program.{State, record_bytes, handed, unless_refused, step, texts, listen, nothing_heard}
use Rattle.listening.specs.Hand.{state_of}
use Rattle.listening.specs.Runs.{Code, code_after, Run, goes, stops, ends, fresh_code, AsDefined}
use Rattle.listening.proofs.BufferLaws.{first_stands}

-- a record of the definition, where the first is this one
first_text : (s : State) (r rest : List ℕ) → length r ≡ record_bytes
    → texts (length (r ++ rest) / record_bytes) s (length (r ++ rest) % record_bytes) (r ++ rest)
    ≡ handed (step s r) ++ unless_refused (step s r).refused (texts (length rest / record_bytes) (step s r).state (length rest % record_bytes) rest)
unfolding texts
first_text s r rest e =
    let a = length-append r rest in
    let n : length (r ++ rest) / record_bytes ≡ suc (length rest / record_bytes) = omega (arith, a, e) in
    let m : length (r ++ rest) % record_bytes ≡ length rest % record_bytes = omega (arith, a, e) in
    rw (n, m, take_at r rest record_bytes e, drop_at r rest record_bytes e) refl

-- nothing after a refusal
after_refusal : (n : ℕ) (text rest : List ℕ) → (n ≡ 0 → ⊥) → text ++ unless_refused n rest ≡ text
unfolding unless_refused
after_refusal zero text rest h = absurd (h refl)
after_refusal (suc n) text rest h = append-nil text

otherwise : (n : ℕ) (rest : List ℕ) → n ≡ 0 → unless_refused n rest ≡ rest
unfolding unless_refused
otherwise n rest e = rw e refl

as_defined_from : (s : Code) (g : Ledger by_frames) (bytes said : List ℕ) → StandsFor s.receiver s.places g → Run s bytes said
    → said ≡ texts (length bytes / record_bytes) (state_of s.listener s.lists g) (length bytes % record_bytes) bytes
unfolding texts
as_defined_from s g bytes said st (goes _ x rest more d z run) =
    let v = state_of s.listener s.lists g in
    let w = step v x.bytes in
    let h = d.1 g st in
    let t : w.refused ≡ 0 = sym h.refused ∙ z in
    let next = as_defined_from (code_after x) w.state.ledger rest more h.stands run in
    let k : more ≡ texts (length rest / record_bytes) w.state (length rest % record_bytes) rest
    = next ∙ ap (λ (y : State). texts (length rest / record_bytes) y (length rest % record_bytes) rest) h.state in
    ap₂ ◌++◌ h.text.front (k ∙ sym (otherwise w.refused _ t)) ∙ sym (first_text v x.bytes rest d.0)
as_defined_from s g bytes said st (stops _ x rest d n) =
    let v = state_of s.listener s.lists g in
    let w = step v x.bytes in
    let h = d.1 g st in
    h.text.front ∙ sym (after_refusal w.refused (handed w) _ (λ (z : w.refused ≡ 0). n (h.refused ∙ z))) ∙ sym (first_text v x.bytes rest d.0)
as_defined_from s g bytes said st (ends _ leftover f few fin) =
    let n : length leftover / record_bytes ≡ 0 = omega (arith, few) in
    let m : length leftover % record_bytes ≡ length leftover = omega (arith, few) in
    rw (n, m) (fin g s.lists.tunings st).front

pub as_defined : AsDefined
unfolding listen nothing_heard
as_defined places reads said e run = as_defined_from (fresh_code places) ledger.fresh (joined reads) said (first_stands places e) run
