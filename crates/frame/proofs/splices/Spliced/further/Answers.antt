use mathlib.Core.Path.{refl}
use Rattle.frame.specs.Bodies.{bits_of}
use Rattle.frame.proofs.PassedLaws.{passed_more}
use Rattle.frame.proofs.splices.Spliced.further.Goals as goal

pub returns : goal.returns
returns c = let a = c.args in
    (passed_more a.self.rank (bits_of a.self) a.front c.requires.0 c.requires.1 c.byte-next.result c.byte-next.ensures c.crc_byte.result c.crc_byte.ensures, refl)
