use mathlib.Core.Path.{◌≡◌, ap, ap₂, ◌∙◌}
use Prim.Native.Nat.{ℕ, ◌+◌, ◌-◌}
use native.Mathlib.Omega.{arith}
use lib.ListN.{take, drop}
use lib.Seq.{sets}
use Rattle.frame.specs.Sizes.{header_size, most_auth, payload_size, auth_size}
use Rattle.frame.specs.Fields.{auth_of}
use Rattle.frame.proofs.SizeLaws.{li_cancels}
use Rattle.frame.proofs.CopyLaws.{fill-front, length_part, zeros}
use Rattle.frame.proofs.plain.Plaintext.auth.Goals as goal

pub overflow_sub-end-2 : goal.overflow_sub-end-2
overflow_sub-end-2 c = let l = c.args.layout in omega (arith, c.from-m.ensures, c.auth_size.ensures.0, c.body_bytes-end.ensures.0, li_cancels l.class l.li l.low)

pub copy_into-requires : goal.copy_into-requires
copy_into-requires c = let from = c.body_bytes-end.result - 2 - c.from-m.result in
    omega (arith, length_part c.args.self.bytes from (c.body_bytes-end.result - 2 - from), c.from-m.ensures, c.auth_size.ensures.1)

pub returns : goal.returns
returns c = let b = c.args.self.bytes in
    let l = c.args.layout in
    let m = c.from-m.result in
    let end = c.body_bytes-end.result - 2 in
    let p = payload_size l.class l.li in
    let a = auth_size l.class l.li in
    let e : m ≡ a = c.from-m.ensures ∙ c.auth_size.ensures.0 in
    let f : end - m ≡ header_size + p = omega (arith, e, c.body_bytes-end.ensures.0, li_cancels l.class l.li l.low) in
    let g : end - (end - m) ≡ a = omega (arith, e, c.body_bytes-end.ensures.0, li_cancels l.class l.li l.low) in
    c.copy_into.ensures ∙ ap (sets (zeros most_auth) 0) (ap₂ (λ (k i : ℕ). take k (drop i b)) g f)
    ∙ fill-front most_auth (auth_of p a b) (omega (arith, length_part b (header_size + p) a, e, c.from-m.ensures, c.auth_size.ensures.1))
