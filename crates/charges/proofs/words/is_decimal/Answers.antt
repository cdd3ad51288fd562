use Rattle.std.proofs.Common.{◌≡◌, ℕ, Bool, ◌&&◌, not, eqb, ltb, List, [], ◌∷◌, length, refl, sym, ap, ◌∙◌, ne_eqb, lt-ltb}
use Rattle.charges.specs.Words.{are_digits}
use native.Mathlib.Omega.{arith}
use Rattle.charges.proofs.WordLaws.{digits-turn, digits_end}
use Rattle.charges.proofs.words.is_decimal.Goals as goal

some : (l : List ℕ) → not (eqb (length l) 0) ≡ ltb 0 (length l)
some [] = refl
some (x ∷ l) = ap not (ne_eqb (length (x ∷ l)) 0 (λ e. omega (arith, e))) ∙ sym (lt-ltb 0 (length (x ∷ l)) (omega arith))

pub loop-c-init : goal.loop-c-init
loop-c-init c = ap (λ (t : Bool). t && are_digits c.args.text.now) (ap not c.is_empty-ok.ensures ∙ some c.args.text.now)

pub loop-c-preserved : goal.loop-c-preserved
loop-c-preserved c =
    let l = c.loop-c in
    digits-turn c.args.text.now l.c-index l.ok c.is_digit-ok.result _ (omega arith) c.is_digit-ok.ensures l.invariant

pub returns : goal.returns
returns c =
    let l = c.loop-c in
    digits_end c.args.text.now l.c-index l.ok _ (omega arith) l.invariant
