-- The sample readings hold. Assumes nothing.
use mathlib.Core.Path.{◌≡◌, refl, ap, ◌∙◌}
use mathlib.Core.List.{List, [], ◌∷◌}
use Prim.Native.Nat.{ℕ, ◌≤◌}
use lib.Dec.{lit≤}
use lib.ListN.{replicate}
use borrow.Author.Tests.{le-ltb}
use Rattle.standard.specs.Base.{line_feeds}
use Rattle.standard.specs.Encodings.{family, traits, fits}
use Rattle.standard.specs.Indexes.{irregular, count_from, windows1252}
use Rattle.standard.specs.Sequence.{cell}
use Rattle.standard.specs.Layouts.{pointer_of, pair_code}
use Rattle.standard.specs.Sequences.SingleByte.{single_byte}
use Rattle.standard.specs.Sequences.Utf8.{utf8, utf8_low, utf8_high}
use Rattle.standard.specs.Sequences.Gb18030.{gb18030, gb18030_range, gb18030_four_code, gb18030_four_pointer}
use Rattle.standard.specs.Sequences.Big5.{big5, big5_pair}
use Rattle.standard.specs.Sequences.EucJp.{euc_jp}
use Rattle.standard.specs.Sequences.Iso2022Jp.{iso2022_jp, escaped, byte_out}
use Rattle.standard.specs.Sequences.ShiftJis.{shift_jis, shift_jis_code}
use Rattle.standard.specs.Sequences.Utf16.{utf16, unit}
use Rattle.standard.specs.Next.{next}
use Rattle.standard.specs.Decode.{reads, decode, one_error, iso_end, ending, shown, broken, before, reach, everything}
use Rattle.standard.specs.Choice.{choose, reader, chosen, read_from, end_from, rests}
use Rattle.standard.proofs.Stages.{none_rest, all_rest, end_count}
use Rattle.decoder.specs.Valid.{iso_cost, iso_least, possible, possible_at, unused, valid_rest, valid}
use Rattle.decoder.specs.Record.{new_spot}
use Rattle.decoder.specs.Calls.{open_refusal, opening, feed_refusal, feeding, finish_refusal, finishing}
use Rattle.demands.specs.Histories.{after, start}
use Rattle.demands.specs.Statements.{Piece, joined, cutting, reports, account, Roomy}
use Rattle.demands.specs.Whole.{completed, dealt, whole_account}
use Rattle.demands.specs.Samples.{filled, gives, Samples, Choices}
use Rattle.demands.proofs.Invariants.{empty_list}
use Rattle.demands.proofs.Cutting.{cut_is_whole}
use Rattle.demands.proofs.Reaching.{filled_fits}
use Rattle.demands.proofs.Rooms.{roomy}

-- no bytes: the account of the whole of an empty input
nothing_given : (e rule : ℕ) → e ≤ 39 → rule ≤ 2 → gives e rule (filled 0 (family e)) [] []
unfolding open_refusal whole_account dealt Roomy joined line_feeds
nothing_given e rule a r =
    let t = filled 0 (family e) in
    let p = new_spot e rule in
    let o : open_refusal e 0 rule ≡ 0 = rw (le-ltb 39 e a, le-ltb 2 rule r) in
    let once : List Piece = record { chunk = []; room = replicate 3 0 } ∷ [] in
    cut_is_whole t e 0 rule o once (replicate 3 0)
    (roomy t e 0 rule o once (replicate 3 0) (filled_fits 0 (family e)) (lit≤ tt) (lit≤ tt, lit≤ tt, lit≤ tt)) ∙
    ap (completed e 0) (ap shown (all_rest t e p [] (none_rest e p)) ∙ empty_list (shown (end_from t e p [])) (end_count t e p []))

pub samples : Samples
unfolding family traits fits filled account cutting after reports start opening open_refusal feeding feed_refusal finishing finish_refusal
    valid valid_rest unused possible_at possible iso_cost iso_least rests line_feeds read_from choose chosen reader end_from everything
    decode reads ending one_error iso_end shown broken before next cell utf8 utf8_low utf8_high gb18030 gb18030_range gb18030_four_code
    gb18030_four_pointer big5 big5_pair euc_jp iso2022_jp escaped byte_out shift_jis shift_jis_code pointer_of pair_code utf16 unit
samples = record {
  no_bytes_1 = λ e a. (nothing_given e 0 a (lit≤ tt), nothing_given e 1 a (lit≤ tt), nothing_given e 2 a (lit≤ tt));
  utf8_2 = (refl, refl, refl);
  utf8_3 = (refl, refl, refl);
  utf8_4 = (refl, refl, refl);
  utf8_4_overlong = (refl, refl, refl);
  shift_jis-5 = (refl, refl, refl);
  gb18030_6 = (refl, refl, refl);
  gb18030_7 = (refl, refl, refl);
  gb18030_8 = (refl, refl, refl);
  gb18030_8_pair = (refl, refl, refl);
  utf16le_9 = (refl, refl, refl);
  utf16le_9_lone = (refl, refl, refl);
  iso2022jp_10 = (refl, refl, refl);
  iso2022jp_10_cut = (refl, refl, refl);
  eucjp_11 = (refl, refl, refl);
  big5_12 = (refl, refl, refl);
  gb18030_fourth = (refl, refl, refl);
  shift_jis-first = ((refl, refl, refl), (refl, refl, refl));
  shift_jis-last = ((refl, refl, refl), (refl, refl, refl));
  shift_jis-below_gap = ((refl, refl, refl), (refl, refl, refl));
  shift_jis-gap = ((refl, refl, refl), (refl, refl, refl));
  shift_jis-above_gap = ((refl, refl, refl), (refl, refl, refl));
  shift_jis-separator = ((refl, refl, refl), (refl, refl, refl));
  shift_jis-before = (refl, refl, refl);
  shift_jis-behind = (refl, refl, refl);
}

pub choices : Choices
unfolding family traits fits filled account cutting after reports start opening open_refusal feeding feed_refusal finishing finish_refusal
    valid valid_rest unused possible_at possible rests line_feeds read_from choose chosen reader end_from everything decode reads ending
    one_error shown broken before reach next cell utf8 utf8_low utf8_high single_byte windows1252 irregular count_from utf16 unit
choices = record {
  utf8_chosen = refl;
  utf16be_chosen = refl;
  utf16le_chosen = refl;
  behind_replacement = refl;
  second_mark = refl;
  second_mark_utf8 = refl;
  no_bytes = refl;
  no_mark = refl;
  no_mark_utf8 = refl;
  part_utf8 = refl;
  part_reported = refl;
}
