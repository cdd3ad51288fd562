use mathlib.Core.Path.{◌≡◌, refl, sym, ◌∙◌}
use native.Mathlib.Omega.{arith}
use mathlib.Core.List.{List}
use Prim.Native.Nat.{ℕ}
use lib.ListN.{length}
use Rattle.history.specs.Runs.{ask_flush, call_of}
use Rattle.ledger.specs.Ledger.{by_frames, Ledger}
use Rattle.listening_records.specs.Emission.{Emission, Tells}
use Rattle.listening_receiver.specs.Standing.{StandsFor}
use Rattle.listening_receiver.proofs.HearingLaws.{calm, at_most_lem, stands_now, call_told, received-count, received-receiver}
use borrow.Author.Rules.{rules}
use Rattle.listening_receiver.proofs.close.Goals as goal

pub tell_answer-requires : goal.tell_answer-requires
unfolding call_of
tell_answer-requires c =
    let x = c.flush-answer in
    let e : length c.args.b.now.events ≡ 30720 = omega arith in
    let f : length c.args.b.now.scratch32 ≡ 12000 = omega arith in
    let g : length c.args.b.now.scratch64 ≡ 8000 = omega arith in
    let y = calm _ _ _ _ _ _ _ c.none.ensures refl x.ensures.answered in
    let k : length x.new.lent.events.now ≡ 30720 = search rules in
    let n = at_most_lem _ (ask_flush) tt _ _ _ y e f g _ c.requires.standing.stands k in
    let same = received-count x.result x.new.self in
    (omega (arith, n, same), omega (arith, n, k, same), c.requires.most_in_bounds.0, c.requires.most_in_bounds.1, c.requires.most_in_bounds.2)

pub returns : goal.returns
unfolding call_of
returns c =
    let x = c.flush-answer in
    let a = c.tell_answer.ensures in
    let e : length c.args.b.now.events ≡ 30720 = omega arith in
    let f : length c.args.b.now.scratch32 ≡ 12000 = omega arith in
    let g : length c.args.b.now.scratch64 ≡ 8000 = omega arith in
    let y = calm _ _ _ _ _ _ _ c.none.ensures refl x.ensures.answered in
    let v = received-receiver x.result x.new.self in
    record {
      told =
          λ (l : Ledger by_frames) (st : StandsFor c.args.receiver.now c.args.b.now.samples l) (old : List ℕ) (start : ℕ) (p : Emission) (h : Tells p old start 0 c.args.t.now c.args.out.now).
          call_told _ (ask_flush) tt _ _ _ y e f g l st x.result x.new.self c.args.q _ _ p old _ start _ refl (omega arith) (a.by_index old start p h);
      stands = λ (l : Ledger by_frames) (st : StandsFor c.args.receiver.now c.args.b.now.samples l). stands_now _ (ask_flush) tt _ _ _ y e f g l st x.new.self v;
      receiver = sym v ∙ y.state;
      samples = y.samples;
      events = y.events;
      end = a.grown.end;
      frames = a.grown.frames;
      messages = a.grown.messages;
      room = a.grown.room;
    }
