-- `put_digits` calls itself for all digits but the last; the number falls.
use Rattle.encoder.proofs.references.+put_digits.Given as goal

abbrev pub decreases-put_digits : goal.decreases-put_digits
decreases-put_digits l = l.c
