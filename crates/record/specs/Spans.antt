-- Spans that are handed in to a call: 01, cause 9, "times not within ±10^9 .. rank over 2 .. any NaN". Assumes nothing.
use Rattle.std.specs.Prelude.{Bool, true, ◌&&◌, ◌||◌, List, [], ◌∷◌, leb, eqb}
use Rattle.limits.specs.Samples.{time_ok}
use Rattle.coding.specs.Answers.{highest_rank}
use Rattle.record.specs.Record.{no_rank}
use Rattle.record.specs.declared.FrameSpan.{FrameSpan}

-- the cause does not apply to a span
unfoldable pub span_ok : FrameSpan → Bool
span_ok s = leb s.rank highest_rank && (time_ok s.time && time_ok s.end)

-- nor to a place: one of rank 255 holds no span, and is not looked at
unfoldable pub place_ok : FrameSpan → Bool
unfolding span_ok
place_ok s = eqb s.rank no_rank || span_ok s

unfoldable pub spans_ok : List FrameSpan → Bool
unfolding place_ok
spans_ok [] = true
spans_ok (s ∷ l) = place_ok s && spans_ok l
