-- White space at the ends of a label, as std's trimming leaves it. Assumes nothing.
use Rattle.std.proofs.Common.{◌≡◌, sym, ap, ◌∙◌, ℕ, zero, suc, ◌-◌, ◌≤◌, ◌<◌, true, false, List, [], ◌∷◌, ◌++◌, length, get_or, take, drop, arith, length-drop}
use Rattle.std.proofs.Math.Seq.{drop-append_seam}
use Rattle.std.proofs.lemmas.List.{take_rest, take-append-drop, reverse-append, length-reverse, get_or-reverse}
use Rattle.std.proofs.lemmas.Bool.Decides.{nat_tests}
use Rattle.std.specs.Prelude.{reverse}
use Rattle.std.specs.Char.{is_ascii_whitespace}
use Rattle.std.specs.Str.{IsTrimAsciiStart, IsTrimAsciiEnd}
use mathlib.Core.List.{reverse-reverse}
use Rattle.labels_spec.specs.Labels.{white, start, trimmed}

white_is : (b : ℕ) → is_ascii_whitespace b ≡ white b
white_is b = grind (arith, nat_tests)

-- The first n bytes are white space, and the next is none.
start_at : (s : List ℕ) (n : ℕ) → n ≤ length s → ((i : ℕ) → i < n → is_ascii_whitespace (get_or s i 0) ≡ true) →
    (n < length s → is_ascii_whitespace (get_or s n 0) ≡ false) → start s ≡ n
unfolding start
start_at [] n h f g = omega arith
start_at (b ∷ s) zero h f g = rw (sym (white_is b) ∙ g (omega arith))
start_at (b ∷ s) (suc n) h f g =
    rw (sym (white_is b) ∙ f 0 (omega arith)) (ap suc (start_at s n (omega arith) (λ i k. f (suc i) (omega arith)) (λ k. g (omega arith))))

pub start_is : (s r : List ℕ) → IsTrimAsciiStart s r → length s - length r ≡ start s
start_is s r h =
    let e = start_at s h.0 (omega arith) h.3 h.4 in omega (arith, e)

-- White space dropped from the end.
untail : List ℕ → List ℕ
untail xs = reverse (drop (start (reverse xs)) (reverse xs))

end_is : (s r : List ℕ) → IsTrimAsciiEnd s r → take (length r) s ≡ untail s
unfolding untail
end_is s r h =
    let n = h.0 in
    let e : start (reverse s) ≡ length s - n =
    start_at (reverse s) (length s - n) (rw length-reverse (omega arith))
    (λ i f. rw (get_or-reverse s i 0 (omega arith)) (h.4 (length s - 1 - i) (omega arith) (omega arith)))
    (λ f. let g : 0 < n = omega (arith, length-reverse s) in
    let i : length s - 1 - (length s - n) ≡ n - 1 = omega arith in
    rw (get_or-reverse s (length s - n) 0 (omega arith), i) (h.5 g)) in
    let d : length (reverse (drop n s)) ≡ length s - n = length-reverse (drop n s) ∙ length-drop n s in
    let w : reverse s ≡ reverse (drop n s) ++ reverse (take n s) = sym (ap reverse (take-append-drop n s)) ∙ reverse-append (take n s) (drop n s) in
    let k : drop (length s - n) (reverse s) ≡ reverse (take n s) =
    ap (drop (length s - n)) w ∙ ap (λ (m : ℕ). drop m (reverse (drop n s) ++ reverse (take n s))) (sym d) ∙
    drop-append_seam (reverse (drop n s)) (reverse (take n s)) in
    ap (λ (m : ℕ). take m s) h.2 ∙
    sym (ap (λ (m : ℕ). reverse (drop m (reverse s))) e ∙ ap reverse k ∙ reverse-reverse (take n s))

-- Both ends: of a part without the white space in front, what is left without that at the end.
pub both_ends : (s r : List ℕ) (a : ℕ) → a ≡ start s → IsTrimAsciiEnd (take (length s - a) (drop a s)) r →
    take (length r) (take (length s - a) (drop a s)) ≡ trimmed s
unfolding trimmed start untail
both_ends s r a p h =
    end_is (take (length s - a) (drop a s)) r h ∙ ap untail (take_rest s a ∙ ap (λ n. drop n s) p)
