-- Reading and the end of input by the stage: what is asked of the loop and of the end. Assumes nothing.
use mathlib.Core.Path.{◌≡◌, refl, sym, ap, ◌∙◌}
use mathlib.Core.Bool.{and-false}
use mathlib.Core.List.{List, ◌++◌}
use Prim.Native.Nat.{ℕ, ◌+◌, ◌≤◌}
use native.Mathlib.Omega.{arith}
use lib.Dec.{eqb}
use lib.ListN.{length}
use borrow.Author.Tests.{ne_eqb, eqb-true, eqb-false}
use Rattle.std.specs.Prelude.{Option, None, Some, Ok}
use Rattle.standard.specs.Base.{line_feeds}
use Rattle.standard.specs.Encodings.{Tables, family, no_tables}
use Rattle.standard.specs.Sequence.{shift, plain}
use Rattle.standard.specs.Next.{next}
use Rattle.standard.specs.Decode.{decode, ending, shown, broken}
use Rattle.standard.specs.Choice.{Choice, waiting, label, marked, choose, reader, spot, Parsed, lift, chosen, read_from, end_from}
use Rattle.standard.proofs.Tests.{split}
use Rattle.standard.proofs.Stages.{at_mark, at_wait, read_on_lem}
use Rattle.reading.specs.Reading.{bytes_of, chosen_of, behind_mark, at_spot, start_of, leaves, handed, past, reached, behind, ends}
use Rattle.reading.specs.declared.feed.Start.{Start}
use Rattle.reading.specs.declared.Held.{Held}
use Rattle.reading.proofs.Loop.{all_count}
use Rattle.reading.proofs.Handing.{no_mark, emit_start, last, emit_last}

module _ (e m : ℕ) (held : Held) (t : Tables) (room : List ℕ) where
  -- a stage once chosen
  pub end_chosen : (g state flag : ℕ) {n : ℕ} → n ≡ reader e g → (g ≡ 1 → ⊥) →
      behind m 0 0 0 (ending no_tables (family n) (shift state (eqb flag 1)) (bytes_of held)) room ≡ ends e m g state flag held t room
  unfolding end_from
  end_chosen g state flag q h =
      let is = ending no_tables (family (reader e g)) (shift state (eqb flag 1)) (bytes_of held) in
      rw (q, ne_eqb g 1 h) (emit_last m 0 0 0 is room ∙ sym (emit_start m 0 (last is) room) ∙ no_mark m (last is) room)

  -- while the choice is to come the shift says nothing
  pub end_first : (g state flag : ℕ) → g ≡ 1 → ends e m 1 0 0 held t room ≡ ends e m g state flag held t room
  unfolding end_from
  end_first g state flag h = rw h

  module _ (chunk : List ℕ) where
    read_chosen : (g state flag : ℕ) → (g ≡ 1 → ⊥) →
        past (reader e g) m g state flag held 0 t chunk room ≡ reached e m g state flag held t chunk room
    read_chosen g state flag h =
        let s = shift state (eqb flag 1) in
        let r = lift g (decode (next t (family (reader e g))) s (bytes_of held ++ chunk)) in
        no_mark m r room ∙ ap (λ (r : Parsed). handed m r room) (sym (read_on_lem t e (spot g s) (bytes_of held ++ chunk) (ne_eqb g 1 h)))

    -- the first bytes: they wait, or what they choose reads
    first_waits : (g state flag : ℕ) → g ≡ 1 → choose (bytes_of held ++ chunk) ≡ waiting →
        reached e m g state flag held t chunk room ≡ record { left = Ok (leaves 0 0 (spot 1 plain) (bytes_of held ++ chunk)); room = room }
    unfolding read_from chosen broken shown line_feeds
    first_waits g state flag h q = rw (h, q, and-false (eqb m 1))

    first_label : (g state flag : ℕ) → g ≡ 1 → choose (bytes_of held ++ chunk) ≡ label →
        past e m 0 0 0 held 0 t chunk room ≡ reached e m g state flag held t chunk room
    unfolding read_from chosen
    first_label g state flag h q = rw (h, q) (no_mark m (lift 0 (decode (next t (family e)) plain (bytes_of held ++ chunk))) room)

    first_marked : (g state flag w k : ℕ) → g ≡ 1 → choose (bytes_of held ++ chunk) ≡ marked w k →
        past (reader e k) m k 0 0 held w t chunk room ≡ reached e m g state flag held t chunk room
    unfolding read_from chosen
    first_marked g state flag w k h q = rw (h, q) refl

-- where reading starts, by the stage
module _ (e g state flag : ℕ) (xs : List ℕ) where
  pub starts_on : {s : Start} → s ≡ at_spot e g state flag → (g ≡ 1 → ⊥) → Some s ≡ start_of e g state flag xs
  starts_on q h = ap (λ (s : Start). Some s) q ∙ sym (rw (ne_eqb g 1 h))

  pub starts_first : {s : Option Start} → s ≡ behind_mark e (chosen_of (choose xs)) → g ≡ 1 → s ≡ start_of e g state flag xs
  starts_first q h = q ∙ sym (rw h)

-- Where reading starts nowhere, the few bytes wait.
pub record Waiting (e m g state flag : ℕ) (held : Held) (t : Tables) (chunk room : List ℕ) : Type 0 where
  pub few : held.count + length chunk ≤ 3
  pub waits : reached e m g state flag held t chunk room ≡ record { left = Ok (leaves 0 0 (spot 1 plain) (bytes_of held ++ chunk)); room = room }

-- Else what is read from there on is what is wanted, and the mark is there.
pub record Started (e m g state flag : ℕ) (held : Held) (t : Tables) (chunk room : List ℕ) (s : Start) : Type 0 where
  pub there : s.mark ≤ held.count + length chunk
  pub reads : past s.reads m s.stage s.state s.flag held s.mark t chunk room ≡ reached e m g state flag held t chunk room

module _ (e m g state flag : ℕ) (held : Held) (t : Tables) (chunk room : List ℕ) (few : held.count ≤ 3) where
  abbrev xs : List ℕ
  xs = bytes_of held ++ chunk

  pub starts_waiting : None ≡ start_of e g state flag (bytes_of held ++ chunk) → Waiting e m g state flag held t chunk room
  starts_waiting found = split (eqb g 1) (λ q. first (eqb-true g 1 q) (choose xs) refl (rw q at found)) (λ q. let z : ◌≡◌ {A = ℕ} 0 1 = let h = rw q at found in cc in absurd (omega arith))
    where
      first : g ≡ 1 → (c : Choice) → choose xs ≡ c → None ≡ behind_mark e (chosen_of c) → Waiting e m g state flag held t chunk room
      first one waiting q h = record {
        few = omega (arith, (at_wait xs q).0, all_count held chunk few);
        waits = first_waits e m held t room chunk g state flag one q;
      }
      first one label q h = let z : ◌≡◌ {A = ℕ} 0 1 = cc in absurd (omega arith)
      first one (marked w k) q h = let z : ◌≡◌ {A = ℕ} 0 1 = cc in absurd (omega arith)

  pub started : (s : Start) → Some s ≡ start_of e g state flag (bytes_of held ++ chunk) → Started e m g state flag held t chunk room s
  started s found = split (eqb g 1)
      (λ q. first (eqb-true g 1 q) (choose xs) refl (rw q at found))
      (λ q. let h = rw q at found in let is : s ≡ at_spot e g state flag = cc in
      rw is (record { there = omega arith; reads = read_chosen e m held t room chunk g state flag (eqb-false g 1 q) }))
    where
      first : g ≡ 1 → (c : Choice) → choose xs ≡ c → Some s ≡ behind_mark e (chosen_of c) → Started e m g state flag held t chunk room s
      first one waiting q h = let z : ◌≡◌ {A = ℕ} 0 1 = cc in absurd (omega arith)
      first one label q h =
          let is : s ≡ record { reads = e; stage = 0; mark = 0; state = 0; flag = 0 } = cc in
          rw is (record { there = omega arith; reads = first_label e m held t room chunk g state flag one q })
      first one (marked w k) q h =
          let is : s ≡ record { reads = reader e k; stage = k; mark = w; state = 0; flag = 0 } = cc in
          rw is (record {
            there = omega (arith, (at_mark xs q).there, all_count held chunk few);
            reads = first_marked e m held t room chunk g state flag w k one q;
          })
