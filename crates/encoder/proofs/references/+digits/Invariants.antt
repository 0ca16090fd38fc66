-- `digits` calls itself for all digits but the last; the number falls.
use Rattle.encoder.proofs.references.+digits.Given as goal

abbrev pub decreases-digits : goal.decreases-digits
decreases-digits l = l.c
