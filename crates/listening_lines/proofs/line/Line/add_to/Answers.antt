use Rattle.std.proofs.Common.{rules, take, length, ◌+◌, ◌-◌, ◌≡◌, arith}
use lib.Seq.{length-take-le}
use Rattle.std.proofs.lemmas.Slice.{take-put_mid, drop-put_mid}
use Rattle.listening_lines.proofs.line.Line.add_to.Goals as goal

pub returns-clause-added : goal.returns-clause-added
returns-clause-added c =
    let old = c.args.out.now in
    let at = c.args.at in
    let n = c.self.inside.len in
    let text = take n c.self.inside.bytes in
    let k = at + n - at in
    let long : length text ≡ n = length-take-le n c.self.inside.bytes (omega (arith, c.self.invariant, c.self.told)) in
    rw (c.copy_from_slice.ensures.after, ← c.self.view_is) (record {
      end = omega (arith, long);
      front = take-put_mid at k old text (at + n) (omega (arith, long)) (omega (arith, c.requires));
      rest = drop-put_mid at k old text (at + n) (omega arith) (omega (arith, c.requires)) (omega (arith, long));
      room = search rules;
    })
