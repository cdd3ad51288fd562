use borrow.Author.Tests.{le-leb, lt-leb}
use mathlib.Core.Path.{refl, sym, ◌∙◌}
use Rattle.shifts.specs.Shifts.{shifts_ok, most_windows}
use Rattle.shifts.proofs.Given.is_ok.Goals as goal

pub returns-then-not-start_ok : goal.returns-then-not-start_ok
unfolding shifts_ok
returns-then-not-start_ok c = rw (sym c.start_ok.ensures ∙ c.if-not-start_ok.true) refl

pub returns-then-n-gt-MOST_WINDOWS : goal.returns-then-n-gt-MOST_WINDOWS
unfolding shifts_ok
returns-then-n-gt-MOST_WINDOWS c =
    let s = c.args.self.now.shifts in
    rw (sym c.start_ok.ensures ∙ c.if-not-start_ok.false, lt-leb s.count most_windows c.if-n-gt-MOST_WINDOWS.true) refl

pub returns-then-not-windows_ok : goal.returns-then-not-windows_ok
unfolding shifts_ok
returns-then-not-windows_ok c =
    let s = c.args.self.now.shifts in
    rw (
      sym c.start_ok.ensures ∙ c.if-not-start_ok.false,
      le-leb s.count most_windows c.if-n-gt-MOST_WINDOWS.false,
      sym c.windows_ok.ensures ∙ c.if-not-windows_ok.true,
    ) refl

pub returns : goal.returns
unfolding shifts_ok
returns c =
    let s = c.args.self.now.shifts in
    rw (
      sym c.start_ok.ensures ∙ c.if-not-start_ok.false,
      le-leb s.count most_windows c.if-n-gt-MOST_WINDOWS.false,
      sym c.windows_ok.ensures ∙ c.if-not-windows_ok.false,
    ) c.rise.ensures
