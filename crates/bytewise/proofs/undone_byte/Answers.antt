-- A byte as it is, or by the entries of the tables.
use mathlib.Core.Path.{◌≡◌, sym, ap, ◌∙◌}
use mathlib.Core.List.{List}
use Prim.Native.Nat.{ℕ}
use native.Mathlib.Omega.{arith}
use lib.ListN.{get_or}
use Rattle.conv_tables.specs.Tables.{place, decoded_byte, next_state}
use Rattle.conv_tables.proofs.TableLaws.{decoded-entry, next-entry}
use Rattle.bytewise.proofs.Walk.{next-lt, copied, copied-state}
use borrow.Author.Rules.{rules}
use Rattle.bytewise.proofs.undone_byte.Goals as goal

pub returns-then-rank-eq0 : goal.returns-then-rank-eq0
returns-then-rank-eq0 c =
    let a = c.args in
    let e : 0 ≡ a.rank = sym c.if-rank-eq0.true in (
      copied a.state a.b (search rules) ∙ ap (λ (r : ℕ). decoded_byte r a.state a.b) e,
      copied-state a.state a.b ∙ ap (λ (r : ℕ). next_state r a.state a.b) e,
      omega arith,
    )

pub returns : goal.returns
returns c =
    let a = c.args in
    let k = place a.rank a.state a.b in
    let d = ap (λ (l : List ℕ). get_or l k 0) c.requires.0 ∙ decoded-entry a.rank a.state a.b (search rules) (search rules) (search rules) (search rules) in
    let n = ap (λ (l : List ℕ). get_or l k 0) c.requires.1 ∙ next-entry a.rank a.state a.b (search rules) (search rules) (search rules) (search rules) in
    (d, n, omega (arith, n, next-lt a.rank a.state a.b))
