-- The line at a place of a text, as the list's record walks: where it stops and where the next one begins. Assumes nothing.
use Rattle.std.specs.Prelude.{List, ℕ, ◌+◌, ◌-◌, ltb, eqb, length, get_or}
use Rattle.std.proofs.Math.Seq.{slice}
use Rattle.standard.specs.Base.{◌then◌else◌}
use Rattle.list_spec.specs.Lines.{LF, CR, before}
use Rattle.list_spec.specs.declared.Span.{Span}

-- The place of the first line feed from a on, or the end of the text.
unfoldable pub end_at : List ℕ → ℕ → ℕ
end_at text a = a + before LF (slice a (length text) text)

-- Where the line from a on stops whose line feed, or the end of the text, is at e: before a carriage return of the line, just before e,
-- where e has a line feed.
unfoldable pub stop_at : List ℕ → ℕ → ℕ → ℕ
stop_at text a e =
    eqb e (length text) then e else
    eqb e a then e else
    eqb (get_or text (e - 1) 0) CR then e - 1 else e

abbrev pub span : ℕ → ℕ → Span
span z b = record { stop = z; next = b }

-- At the end of the text, and behind it, there is nothing more: both are the place itself.
unfoldable pub span_at : List ℕ → ℕ → Span
span_at text a = ltb a (length text) then span (stop_at text a (end_at text a)) (end_at text a + 1) else span a a
