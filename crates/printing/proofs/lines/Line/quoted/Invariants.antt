use Rattle.std.proofs.Common.{length}
use Rattle.printing.proofs.lines.Line.quoted.Given as goal

abbrev pub decreases-loop-character : goal.decreases-loop-character
decreases-loop-character g l = length l.rest
