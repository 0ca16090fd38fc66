-- The order of the refusals of opening, feed and finish: for each two causes that can hold at once, which number is given. Assumes nothing.
use Rattle.std.specs.Prelude.{◌≡◌, List, [], ◌∷◌, ℕ, replicate}
use Rattle.standard.specs.Encodings.{no_tables}
use Rattle.standard.specs.Sequence.{plain}
use Rattle.standard.specs.Choice.{spot}
use Rattle.decoder.specs.Record.{holding, new, closed}
use Rattle.decoder.specs.Calls.{refuse, opening, feed_refusal, feeding, finish_refusal, finishing}
use Rattle.decoder.specs.declared.Decoder.{Decoder}
use Rattle.decoder.specs.declared.Answer.{Answer}

-- A record that no calls leave, since its mode is 2: of encoding e, after n bytes, ended or not, with so many bytes held.
abbrev pub unmade : ℕ → ℕ → ℕ → ℕ → Decoder
unmade e n ended held = record {
  taken = n;
  lines = 0;
  encoding = e;
  mode = 2;
  stage = 0;
  state = 0;
  flag = 0;
  held = held;
  first = 0;
  second = 0;
  third = 0;
  ended = ended;
}

-- A record of encoding e that has taken n bytes, and the most that a decoder takes.
abbrev pub filled : ℕ → ℕ → Decoder
filled e n = holding e 0 n 0 (spot 0 plain) []

abbrev pub most : ℕ
most = 4294967295

-- A record of encoding 1 in which the byte EF waits for the choice.
abbrev pub waits : Decoder
waits = holding 1 0 1 0 (spot 1 plain) (0xEF ∷ [])

-- Opening is refused with n, and answers a record that has ended.
abbrev pub OpenRefused : ℕ → ℕ → ℕ → ℕ → Type 0
OpenRefused e m rule n = ◌≡◌ {A = Answer} (opening e m rule)
    (record { written = 0; place = 0; line = 0; refusal = n; decoder = closed 0 0 0 0 })

-- A feed and a finish, both without tables, are refused with n and leave everything as it was. Encoding 1 wants a table; encoding 0 wants none.
abbrev pub FeedRefused : Decoder → List ℕ → List ℕ → ℕ → Type 0
FeedRefused d chunk room n = feeding d no_tables chunk room ≡ refuse n d room

abbrev pub FinishRefused : Decoder → List ℕ → ℕ → Type 0
FinishRefused d room n = finishing d no_tables room ≡ refuse n d room

-- chunks of one byte, of 65,536 and of one more; rooms for them; no room
abbrev pub one : List ℕ
one = 0x41 ∷ []

abbrev pub longest : List ℕ
longest = replicate 65536 0x41

abbrev pub too_long : List ℕ
too_long = replicate 65537 0x41

pub record Orders : Type 0 where
  -- opening: 2, 3
  pub open_2 : OpenRefused 40 0 0 2
  pub open_2_mode_3 : OpenRefused 40 2 0 2
  pub open_2_rule_3 : OpenRefused 40 0 3 2
  pub open_mode_3 : OpenRefused 39 2 0 3
  pub open_rule_3 : OpenRefused 39 0 3 3
  -- feed: 5, 6, 4, 8, 14, 7
  pub feed_5_6 : FeedRefused (unmade 0 0 1 0) one one 5
  pub feed_5_4 : FeedRefused (unmade 1 0 0 0) one one 5
  pub feed_5_8 : FeedRefused (unmade 0 0 0 0) too_long too_long 5
  pub feed_5_7 : FeedRefused (unmade 0 0 0 0) one [] 5
  pub feed_6_4 : FeedRefused (closed 1 0 0 0) one one 6
  pub feed_6_8 : FeedRefused (closed 0 0 0 0) too_long too_long 6
  pub feed_6_7 : FeedRefused (closed 0 0 0 0) one [] 6
  pub feed_4_8 : FeedRefused (new 1 0 0) too_long too_long 4
  pub feed_4_7 : FeedRefused (new 1 0 0) one [] 4
  pub feed_5_14 : FeedRefused (unmade 0 most 0 0) one one 5
  pub feed_6_14 : FeedRefused (closed 0 0 most 0) one one 6
  pub feed_4_14 : FeedRefused (filled 1 most) one one 4
  pub feed_8_14 : FeedRefused (filled 0 most) too_long too_long 8
  pub feed_14_7 : FeedRefused (filled 0 most) one [] 14
  pub feed_14 : FeedRefused (filled 0 most) one one 14
  pub feed_most : feed_refusal (filled 0 4294967294) no_tables one one ≡ 0
  pub feed_empty : feed_refusal (filled 0 most) no_tables [] [] ≡ 0
  pub feed_8_7 : FeedRefused (new 0 0 0) too_long [] 8
  pub feed_8 : FeedRefused (new 0 0 0) too_long too_long 8
  pub feed_7 : FeedRefused (new 0 0 0) longest [] 7
  -- finish: 5, 6, 4, 7. A record that has ended holds nothing and does not wait, so with 6 there is neither 4 nor 7.
  pub finish_5_6 : FinishRefused (unmade 0 0 1 0) [] 5
  pub finish_5_7 : FinishRefused (unmade 0 1 0 1) [] 5
  pub finish_6 : FinishRefused (closed 0 0 0 0) [] 6
  -- 4 while the choice is to come, with bytes that wait and without; at no other stage
  pub finish_5_4 : FinishRefused (unmade 1 0 0 0) [] 5
  pub finish_4_7 : FinishRefused waits [] 4
  pub finish_4 : FinishRefused (new 1 0 2) [] 4
  pub finish_chosen : finish_refusal (holding 1 0 3 0 (spot 2 plain) []) no_tables [] ≡ 0
  pub finish_label : finish_refusal (new 1 0 1) no_tables [] ≡ 0
  pub finish_7 : FinishRefused (feeding (new 0 0 0) no_tables (0xC3 ∷ []) one).answer.decoder [] 7
