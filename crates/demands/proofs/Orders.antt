-- The samples of the refusals' order hold: each is computed. Assumes nothing.
use mathlib.Core.Path.{refl}
use Rattle.standard.specs.Base.{line_feeds}
use Rattle.standard.specs.Encodings.{family, traits, fits}
use Rattle.standard.specs.Sequences.SingleByte.{single_byte}
use Rattle.standard.specs.Sequences.Utf8.{utf8, utf8_low, utf8_high}
use Rattle.standard.specs.Next.{next}
use Rattle.standard.specs.Decode.{reads, decode, shown, broken, before}
use Rattle.standard.specs.Choice.{choose, reader, read_from, rests}
use Rattle.decoder.specs.Valid.{possible, possible_at, ended_totals, unused, valid_rest, valid}
use Rattle.decoder.specs.Calls.{open_refusal, opening, feed_refusal, feeding, finish_refusal, finishing}
use Rattle.demands.specs.Orders.{Orders}

pub orders : Orders
unfolding open_refusal opening feed_refusal feeding finish_refusal finishing valid valid_rest unused possible_at possible ended_totals rests
    line_feeds family traits fits read_from choose reader next decode reads single_byte utf8 utf8_low utf8_high shown broken before
orders = record {
  open_2 = refl;
  open_2_mode_3 = refl;
  open_2_rule_3 = refl;
  open_mode_3 = refl;
  open_rule_3 = refl;
  feed_5_6 = refl;
  feed_5_4 = refl;
  feed_5_8 = refl;
  feed_5_7 = refl;
  feed_6_4 = refl;
  feed_6_8 = refl;
  feed_6_7 = refl;
  feed_4_8 = refl;
  feed_4_7 = refl;
  feed_5_14 = refl;
  feed_6_14 = refl;
  feed_4_14 = refl;
  feed_8_14 = refl;
  feed_14_7 = refl;
  feed_14 = refl;
  feed_most = refl;
  feed_empty = refl;
  feed_8_7 = refl;
  feed_8 = refl;
  feed_7 = refl;
  finish_5_6 = refl;
  finish_5_7 = refl;
  finish_6 = refl;
  finish_5_4 = refl;
  finish_4_7 = refl;
  finish_4 = refl;
  finish_chosen = refl;
  finish_label = refl;
  finish_7 = refl;
}
