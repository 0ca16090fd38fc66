-- The writers: the decoder of a number that has one is its reader, the law of one scalar, and the scalars that read back as themselves.
-- Assumes nothing.
use mathlib.Core.Path.{◌≡◌, refl, ap, ◌∙◌}
use mathlib.Core.Bool.{true, false, ◌||◌}
use mathlib.Core.List.{List}
use mathlib.Core.Option.{Option, some, none}
use Prim.Native.Nat.{ℕ}
use native.Mathlib.Omega.{arith}
use lib.Dec.{leb, eqb}
use borrow.Author.Tests.{eqb-true, eqb-false, leb-true}
use Rattle.standard.specs.Base.{within, is_scalar}
use Rattle.standard.specs.Encodings.{Family, family, Tables, traits, fits}
use Rattle.standard.specs.Indexes.{windows1252}
use Rattle.standard.specs.Machine.{Result}
use Rattle.standard.specs.Search.{Lookup, Sound}
use Rattle.standard.specs.Sequence.{Next, plain}
use Rattle.standard.specs.Sequences.Utf8.{utf8}
use Rattle.standard.specs.Next.{unmarked, next}
use Rattle.standard.specs.Writers.{Writer, utf-8, single-byte, windows-1252, gbk, gb18030, big5, euc-jp, iso-2022-jp, shift-jis, euc-kr}
use Rattle.standard.specs.Writers.{x-user-defined, writer_of, stateless, coding, reader}
use Rattle.standard.specs.Images.{jp_image, iso_image, image, jp_leaves_out, iso_leaves_out, leaves_out, OneScalar}
use Rattle.standard.proofs.Tests.{choose, or_none_lem}
use Rattle.standard.proofs.Families.{family_utf8, family_windows_1252, family_single_byte, family_user_defined}
use Rattle.standard.proofs.Families.{family_gb18030, family_big5, family_euc_jp, family_iso_2022_jp, family_shift_jis, family_euc_kr}
use Rattle.standard.proofs.Search.{plain_sound}
use Rattle.standard.proofs.ReadsBack.{ReadsBack, first_fits}
use Rattle.standard.proofs.ReadsBackBytes.{utf8_back, single_byte-back, user_defined-back}
use Rattle.standard.proofs.ReadsBackPairs.{euc_jp-back, shift_jis-back}
use Rattle.standard.proofs.ReadsBackChinese.{gb18030_back, big5_back, euc_kr-back}

-- A writer, if any, whose reader is the number's decoder.
abbrev Read : ℕ → Option Writer → Type 0
Read e o = (w : Writer) → o ≡ some w → family e ≡ reader w

known : (e : ℕ) (v : Writer) → family e ≡ reader v → Read e (some v)
known e v h w q = let z : v ≡ w = cc in h ∙ ap reader z

no_writer : (e : ℕ) → Read e none
no_writer e w q = let z : ◌≡◌ {A = ℕ} 0 1 = cc in absurd (omega arith)

pub reader_of : (e : ℕ) (w : Writer) → writer_of e ≡ some w → family e ≡ reader w
unfolding writer_of
reader_of e =
    choose (Read e) (eqb e 0) (λ h. known e utf-8 (family_utf8 e (eqb-true e 0 h))) (λ h0.
    choose (Read e) (eqb e 21) (λ h. known e windows-1252 (family_windows_1252 e (eqb-true e 21 h))) (λ h21.
    choose (Read e) (leb e 28)
    (λ h. known e single-byte (family_single_byte e (eqb-false e 0 h0) (eqb-false e 21 h21) (leb-true e 28 h))) (λ _.
    choose (Read e) (eqb e 29) (λ h. let q = eqb-true e 29 h in known e gbk (family_gb18030 e (omega arith) (omega arith))) (λ _.
    choose (Read e) (eqb e 30) (λ h. let q = eqb-true e 30 h in known e gb18030 (family_gb18030 e (omega arith) (omega arith))) (λ _.
    choose (Read e) (eqb e 31) (λ h. known e big5 (family_big5 e (eqb-true e 31 h))) (λ _.
    choose (Read e) (eqb e 32) (λ h. known e euc-jp (family_euc_jp e (eqb-true e 32 h))) (λ _.
    choose (Read e) (eqb e 33) (λ h. known e iso-2022-jp (family_iso_2022_jp e (eqb-true e 33 h))) (λ _.
    choose (Read e) (eqb e 34) (λ h. known e shift-jis (family_shift_jis e (eqb-true e 34 h))) (λ _.
    choose (Read e) (eqb e 35) (λ h. known e euc-kr (family_euc_kr e (eqb-true e 35 h))) (λ _.
    choose (Read e) (eqb e 39) (λ h. known e x-user-defined (family_user_defined e (omega (arith, eqb-true e 39 h)))) (λ _.
    no_writer e)))))))))))

-- a mark is kept
kept : (c : ℕ) {r : Result} → ReadsBack utf8 c r → ReadsBack (λ xs. unmarked false (utf8 xs)) c r
kept c B = record { reads = λ bs e ys. ap (unmarked false) (B.reads bs e ys) }

-- the encoder of a coding
same_encoder : {n : List ℕ → Next} {d : ℕ} {f g : ℕ → Result} {c : ℕ} → stateless f ≡ stateless g →
    ReadsBack n d (f c) → ReadsBack n d (g c)
same_encoder {f = f} {g = g} e B = let q : f ≡ g = cc in rw (← q) B

backs : (w : Writer) (t : Tables) (look : Lookup) (encode : ℕ → Result) → fits (reader w) t ≡ true → Sound look t.first →
    coding w look t.second ≡ stateless encode → (c : ℕ) → is_scalar c ≡ true →
    ReadsBack (next t (reader w) plain) (image w t.second c) (encode c)
unfolding next traits
backs utf-8 t look encode h S e c v = same_encoder e (kept c (utf8_back c v))
backs single-byte t look encode h S e c v = same_encoder e (single_byte-back t.first S c)
backs windows-1252 t look encode h S e c v = same_encoder e (single_byte-back windows1252 (plain_sound windows1252) c)
backs gbk t look encode h S e c v = same_encoder e (gb18030_back t (first_fits Family.GB18030 t h) S true c)
backs gb18030 t look encode h S e c v = same_encoder e (gb18030_back t (first_fits Family.GB18030 t h) S false c)
backs big5 t look encode h S e c v = same_encoder e (big5_back t (first_fits Family.Big5 t h) S c)
backs euc-jp t look encode h S e c v = same_encoder e (euc_jp-back t (first_fits Family.EUC-JP t h) S c)
backs iso-2022-jp t look encode h S e c v = let z : ◌≡◌ {A = ℕ} 0 1 = cc in absurd (omega arith)
backs shift-jis t look encode h S e c v = same_encoder e (shift_jis-back t (first_fits Family.Shift-JIS t h) S c)
backs euc-kr t look encode h S e c v = same_encoder e (euc_kr-back t (first_fits Family.EUC-KR t h) S c)
backs x-user-defined t look encode h S e c v = same_encoder e (user_defined-back c)

pub one_scalar : OneScalar
one_scalar w t look encode h S e c bs ys v b = (backs w t look encode h S e c v).reads bs b ys

-- A scalar that is not left out is its own image.
jp_own : (c : ℕ) → jp_leaves_out c ≡ false → jp_image c ≡ c
jp_own c h =
    let p = or_none_lem (eqb c 0xA5 || eqb c 0x203E) (eqb c 0x2212) h in
    let q = or_none_lem (eqb c 0xA5) (eqb c 0x203E) p.0 in
    rw (q.0, q.1, p.1)

iso_own : (katakana : List ℕ) (c : ℕ) → iso_leaves_out c ≡ false → iso_image katakana c ≡ c
iso_own katakana c h =
    let p = or_none_lem (eqb c 0x2212) (within 0xFF61 c 0xFF9F) h in
    rw (p.0, p.1)

pub own_image : (w : Writer) (second : List ℕ) (c : ℕ) → leaves_out w c ≡ false → image w second c ≡ c
own_image utf-8 second c h = refl
own_image single-byte second c h = refl
own_image windows-1252 second c h = refl
own_image gbk second c h = refl
own_image gb18030 second c h = refl
own_image big5 second c h = refl
own_image euc-jp second c h = jp_own c h
own_image iso-2022-jp second c h = iso_own second c h
own_image shift-jis second c h = jp_own c h
own_image euc-kr second c h = refl
own_image x-user-defined second c h = refl
