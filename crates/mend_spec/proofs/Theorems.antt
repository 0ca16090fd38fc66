-- The theorem of the program, and its samples. Assumes nothing.
use mathlib.Core.Path.{◌≡◌, refl, sym, ap, ◌∙◌}
use mathlib.Core.Bool.{true}
use mathlib.Core.List.{List, [], ◌++◌}
use Prim.Native.Nat.{ℕ, ◌+◌, ◌-◌, ◌≤◌}
use native.Mathlib.Nat.{zero-add, sub-zero}
use lib.Dec.{ltb, lit≤}
use lib.ListN.{length, take}
use borrow.Author.Tests.{le-ltb}
use Rattle.standard.specs.Base.{◌then◌else◌}
use Rattle.standard.specs.Text.{bytes}
use Rattle.standard.specs.Encodings.{family, traits, Tables, fits}
use Rattle.standard.specs.Indexes.{irregular, count_from, windows1252}
use Rattle.standard.specs.Sequence.{cell}
use Rattle.standard.specs.Layouts.{pointer_of, pair_code}
use Rattle.standard.specs.Sequences.SingleByte.{single_byte}
use Rattle.standard.specs.Sequences.ShiftJis.{shift_jis, shift_jis_code}
use Rattle.standard.specs.Next.{next}
use Rattle.standard.specs.Items.{shown}
use Rattle.standard.specs.Decode.{reads, decode, one_error, ending}
use Rattle.standard.specs.Encoders.Utf8.{utf8_following, utf8_bytes, utf8_encode}
use Rattle.standard.specs.Choice.{Spot, reader, read_from, end_from, everything_from}
use Rattle.standard.proofs.Stages.{none_rest}
use Rattle.labels_spec.specs.Labels.{table, start as white-front, trimmed, same, among, find, label}
use Rattle.decoder.specs.Record.{holding, new_spot}
use Rattle.decoder.specs.Valid.{valid}
use Rattle.decoder.specs.Calls.{open_refusal, opening}
use Rattle.decoder.specs.declared.Decoder.{Decoder}
use Rattle.demands.specs.Histories.{History}
use Rattle.demands.specs.Histories.{start as opened}
use Rattle.demands.proofs.Steps.{opened_is}
use Rattle.demands.proofs.Validity.{valid_opening}
use Rattle.replacements_spec.specs.Replaced.{replaced, cells}
use Rattle.replacements_spec.specs.Statements.{Piece, joined}
use Rattle.program_text.specs.Lines.{first_line, after_line, digits}
use Rattle.program_text.specs.Utf8.{utf8}
use Rattle.mend_spec.specs.Mended.{span_lines, mends as given, ends, mended_text, encoding_refusal, mended}
use Rattle.mend_spec.specs.Program.{text_by}
use Rattle.mend_spec.specs.Statements.{Roomy, Mends}
use Rattle.mend_spec.proofs.Buffers.{text_from_lem}
use Rattle.mend_spec.proofs.Whole.{whole_program}

opens : (e : ℕ) → e ≤ 39 → open_refusal e 0 0 ≡ 0
unfolding open_refusal
opens e h = rw (le-ltb 39 e h)

-- before the first byte nothing is taken, and nothing held
from_zero : (m : ℕ) (t : Tables) (e : ℕ) (s : Spot) (ys : List ℕ) →
    (ltb m (0 + length ys) then ends (given (0 - length {A = ℕ} []) (read_from t e s ([] ++ take (m - 0) ys)).items) 14 else
    given (0 - length {A = ℕ} []) (everything_from t e s ([] ++ ys))) ≡
    (ltb m (length ys) then ends (given 0 (read_from t e s (take m ys)).items) 14 else given 0 (everything_from t e s ys))
from_zero m t e s ys = rw (zero-add (length ys), sub-zero m)

whole_text : (t : Tables) (e : ℕ) (ps : List Piece) (room spans : List ℕ) → e ≤ 39 → fits (family e) t ≡ true → Roomy ps room spans →
    text_by t (opening e 0 0).decoder ps room spans ≡ mended_text t e (joined ps)
unfolding mended_text opened
whole_text t e ps room spans a f g =
    let o = opens e a in
    let k : (opening e 0 0).decoder ≡ holding e 0 0 0 (new_spot e 0) [] = ap (λ (h : History). h.decoder) (opened_is e 0 0 o) in
    let v : valid (holding e 0 0 0 (new_spot e 0) []) ≡ true = ap valid (sym k) ∙ valid_opening e 0 0 in
    ap (λ (d : Decoder). text_by t d ps room spans) k ∙
    text_from_lem t e a f ps room spans 0 0 (new_spot e 0) [] (none_rest e (new_spot e 0)) (lit≤ tt) (lit≤ tt) v g ∙
    from_zero 4294967295 t e (new_spot e 0) (joined ps)

pub mends : Mends
unfolding bytes family traits irregular count_from windows1252 cell pointer_of pair_code single_byte shift_jis shift_jis_code next shown reads decode one_error ending utf8_following utf8_bytes utf8_encode reader read_from end_from everything_from table white-front trimmed same among find label replaced cells first_line after_line digits utf8 span_lines mended_text encoding_refusal mended
mends = record {
  text = whole_text;
  whole = whole_program whole_text;
  example = refl;
  example_mapped = refl;
  unknown = refl;
  not_taken = refl;
  replacement = refl;
  no_file = refl;
  built_in = refl;
}
