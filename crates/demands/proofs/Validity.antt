-- The test behind refusal 5 holds of every record that calls leave. Assumes nothing.
use mathlib.Core.Path.{◌≡◌, refl, sym, ap, ◌∙◌, subst}
use mathlib.Core.Bool.{Bool, true, false, ◌&&◌, ◌||◌}
use mathlib.Core.List.{List, [], ◌∷◌, ◌++◌}
use Prim.Native.Nat.{ℕ, zero, suc, ◌+◌, ◌-◌, ◌≤◌}
use native.Mathlib.Omega.{arith}
use lib.Dec.{ltb, leb, eqb, lit≤}
use lib.ListN.{length, take, get_or, length-append}
use borrow.Author.Tests.{ltb-false, eqb-true, eq-eqb, le-leb, leb-true, eqb-false}
use Rattle.standard.specs.Base.{◌then◌else◌, line_feeds}
use Rattle.standard.specs.Encodings.{family, Tables}
use Rattle.standard.specs.Decode.{shown, broken, before, widths}
use Rattle.standard.specs.Choice.{Spot, spot}
use Rattle.standard.proofs.Tests.{split, T_true, true_t, and_left, and_right}
use Rattle.standard.proofs.LineFeeds.{before_line_feeds}
use Rattle.standard.proofs.Stages.{Rests, rests_few, none_rest, parsing}
use Rattle.decoder.specs.Record.{spot_of, held_of, bit, holding, new, closed, new_shift, new_spot}
use Rattle.decoder.specs.Valid.{possible_at, ended_totals, rests, unused, valid_rest, valid}
use Rattle.decoder.specs.Calls.{open_refusal, opening}
use Rattle.demands.specs.Histories.{Call, feed, finish, History, outcome, Reachable, opened, fed, finished}
use Rattle.decoder.specs.declared.Decoder.{Decoder}
use Rattle.decoder.specs.declared.Answer.{Answer}
use Rattle.decoder.proofs.Records.{bit_back, held_holding}
use Rattle.decoder.proofs.Parts.{to_valid, parts}
use Rattle.demands.proofs.Steps.{Stands, reads, ended, read_of, end_of, onward, stopped_by, stepped, waiting_new}
use Rattle.demands.proofs.Steps.{Step, refused, reported, closes, closes_reported}
use Rattle.demands.proofs.Steps.{fed as feeds}
use Rattle.demands.proofs.Shapes.{first_comes, ComesAt, by_label, choosing, comes_at, to_possible_at}
use Rattle.demands.proofs.Shifts.{read_comes, replacing_at, ended_totals_lem, end_totals}

pub valid_closed : (e m n l : ℕ) → e ≤ 39 → m ≤ 1 → ended_totals (family e) n l ≡ true → valid (closed e m n l) ≡ true
unfolding unused valid_rest
valid_closed e m n l a b t =
    to_valid (closed e m n l) (record { encoding = a; mode = b; flag = lit≤ tt; held = lit≤ tt; ended = lit≤ tt; unused = refl; rest = t })

unused_holding : (e m n l : ℕ) (s : Spot) (xs : List ℕ) → length xs ≤ 3 → unused (holding e m n l s xs) ≡ true
unfolding unused
unused_holding e m n l s [] h = refl
unused_holding e m n l s (a ∷ []) h = refl
unused_holding e m n l s (a ∷ b ∷ []) h = refl
unused_holding e m n l s (a ∷ b ∷ c ∷ []) h = refl
unused_holding e m n l s (a ∷ b ∷ c ∷ d ∷ xs) h = absurd (omega arith)

bit_small : (b : Bool) → bit b ≤ 1
bit_small true = lit≤ tt
bit_small false = lit≤ tt

pub valid_holding : (e m n l : ℕ) (s : Spot) (xs : List ℕ) → e ≤ 39 → m ≤ 1 →
    length xs ≤ n → ComesAt e m s (n - length xs) l → Rests e s xs → valid (holding e m n l s xs) ≡ true
unfolding valid_rest
valid_holding e m n l s xs a b h k w =
    let short = rests_few e s xs w in
    to_valid (holding e m n l s xs) (record {
      encoding = a;
      mode = b;
      flag = bit_small s.shift.flag;
      held = short;
      ended = lit≤ tt;
      unused = unused_holding e m n l s xs short;
      rest = rw (
        le-leb (length xs) n h,
        bit_back s.shift.flag,
        T_true (possible_at e m s (n - length xs) l) (to_possible_at e m s (n - length xs) l k),
        held_holding e m n l s xs short,
        w,
      );
    })

-- what the test says of a record that stands at a spot
pub record Open (e m n l : ℕ) (p : Spot) (xs : List ℕ) : Type 0 where
  pub held : length xs ≤ n
  pub comes : ComesAt e m p (n - length xs) l
  pub rests : Rests e p xs

pub open_holding : (e m n l : ℕ) (p : Spot) (xs : List ℕ) → valid (holding e m n l p xs) ≡ true → Open e m n l p xs
unfolding valid_rest
open_holding e m n l p xs v =
    let q = parts (holding e m n l p xs) v in
    let c = n - length xs in
    let h = leb (length xs) n in
    let k = possible_at e m p c l in
    let w = rests e p xs in
    let all : h && k && w ≡ true = rw (bit_back p.shift.flag, held_holding e m n l p xs q.held) at q.rest in
    let two = and_left (h && k) w all in
    record {
      held = leb-true (length xs) n (and_left h k two);
      comes = comes_at e m p c l (true_t (and_right h k two));
      rests = and_right (h && k) w all;
    }

-- and of one that has ended
pub record Closed (d : Decoder) : Type 0 where
  pub held : d.held ≡ 0
  pub stage : d.stage ≡ 0
  pub state : d.state ≡ 0
  pub flag : d.flag ≡ 0
  pub totals : ended_totals (family d.encoding) d.taken d.lines ≡ true

pub closed_rest : (d : Decoder) → valid d ≡ true → eqb d.ended 1 ≡ true → Closed d
unfolding valid_rest
closed_rest d v n =
    let h = eqb d.held 0 in
    let g = eqb d.stage 0 in
    let s = eqb d.state 0 in
    let f = eqb d.flag 0 in
    let t = ended_totals (family d.encoding) d.taken d.lines in
    let all : h && g && s && f && t ≡ true = rw n at (parts d v).rest in
    let four = and_left (h && g && s && f) t all in
    let three = and_left (h && g && s) f four in
    let two = and_left (h && g) s three in
    record {
      held = eqb-true d.held 0 (and_left h g two);
      stage = eqb-true d.stage 0 (and_right h g two);
      state = eqb-true d.state 0 (and_right (h && g) s three);
      flag = eqb-true d.flag 0 (and_right (h && g && s) f four);
      totals = and_right (h && g && s && f) t all;
    }

-- A record that passes the test is the one made of its spot and its bytes held, or the one that has ended.
module _ (a b c : ℕ) where
  bytes_are : (n : ℕ) → n ≤ 3 → (ltb 2 n || eqb c 0) && (ltb 1 n || eqb b 0) && (ltb 0 n || eqb a 0) ≡ true →
      let xs = take n (a ∷ b ∷ c ∷ []) in (n ≡ length xs) × (a ≡ get_or xs 0 0) × (b ≡ get_or xs 1 0) × (c ≡ get_or xs 2 0)
  bytes_are zero h u =
      let v = and_left (eqb c 0 && eqb b 0) (eqb a 0) u in
      let none = eqb-true a 0 (and_right (eqb c 0 && eqb b 0) (eqb a 0) u) in
      (refl, none, eqb-true b 0 (and_right (eqb c 0) (eqb b 0) v), eqb-true c 0 (and_left (eqb c 0) (eqb b 0) v))
  bytes_are (suc zero) h u =
      let v = and_left (eqb c 0 && eqb b 0) true u in
      (refl, refl, eqb-true b 0 (and_right (eqb c 0) (eqb b 0) v), eqb-true c 0 (and_left (eqb c 0) (eqb b 0) v))
  bytes_are (suc (suc zero)) h u = (refl, refl, refl, eqb-true c 0 (and_left (eqb c 0) true (and_left (eqb c 0 && true) true u)))
  bytes_are (suc (suc (suc zero))) h u = (refl, refl, refl, refl)
  bytes_are (suc (suc (suc (suc n)))) h u = absurd (omega arith)

flag_is : (n : ℕ) → n ≤ 1 → n ≡ bit (eqb n 1)
flag_is zero h = refl
flag_is (suc zero) h = refl
flag_is (suc (suc n)) h = absurd (omega arith)

pub is_holding : (d : Decoder) → valid d ≡ true → eqb d.ended 1 ≡ false →
    d ≡ holding d.encoding d.mode d.taken d.lines (spot_of d) (held_of d)
unfolding unused
is_holding d v n =
    let p = parts d v in
    let k = bytes_are d.first d.second d.third d.held p.held p.unused in
    let z : d.ended ≡ 0 = let n' : d.ended ≡ 1 → ⊥ = eqb-false d.ended 1 n in omega (arith, p.ended) in
    λ i. record {
      taken = d.taken;
      lines = d.lines;
      encoding = d.encoding;
      mode = d.mode;
      stage = d.stage;
      state = d.state;
      flag = flag_is d.flag p.flag i;
      held = k.0 i;
      first = k.1 i;
      second = k.2 i;
      third = k.3 i;
      ended = z i;
    }

pub is_closed : (d : Decoder) → valid d ≡ true → eqb d.ended 1 ≡ true → d ≡ closed d.encoding d.mode d.taken d.lines
unfolding unused
is_closed d v n =
    let c = closed_rest d v n in
    let k = bytes_are d.first d.second d.third 0 (lit≤ tt) (rw c.held at (parts d v).unused) in
    λ i. record {
      taken = d.taken;
      lines = d.lines;
      encoding = d.encoding;
      mode = d.mode;
      stage = c.stage i;
      state = c.state i;
      flag = c.flag i;
      held = c.held i;
      first = k.1 i;
      second = k.2 i;
      third = k.3 i;
      ended = eqb-true d.ended 1 n i;
    }

-- so of one that has not ended
pub open_record : (d : Decoder) → valid d ≡ true → eqb d.ended 1 ≡ false →
    Open d.encoding d.mode d.taken d.lines (spot_of d) (held_of d)
open_record d v n = open_holding d.encoding d.mode d.taken d.lines (spot_of d) (held_of d)
    (subst (λ (d : Decoder). valid d ≡ true) (is_holding d v n) v)

pub valid_stands : (d : Decoder) → valid d ≡ true → Stands d.encoding d.mode d
valid_stands d v = go (eqb d.ended 1) refl
  where
    go : (b : Bool) → eqb d.ended 1 ≡ b → Stands d.encoding d.mode d
    go true n = subst (Stands d.encoding d.mode) (sym (is_closed d v n)) (ended d.taken d.lines)
    go false n = subst (Stands d.encoding d.mode) (sym (is_holding d v n))
        (reads d.taken d.lines (spot_of d) (held_of d) (open_record d v n).rests)

-- Calls keep the test true.
one_broken : (m : ℕ) (b : Bool) → m ≡ 1 → eqb m 1 && b ≡ false → b ≡ false
one_broken m b z h = rw (eq-eqb m 1 z) at h

module _ (e m : ℕ) (a : e ≤ 39) (small : m ≤ 1) where
  -- the widths of what is read and the bytes left over are the bytes held and the chunk
  all_bytes : (t : Tables) (s : Spot) (xs chunk : List ℕ) →
      let r = read_of e t s xs chunk in widths r.items + length r.rest ≡ length xs + length chunk
  all_bytes t s xs chunk =
      let r = read_of e t s xs chunk in
      let R = parsing t e s (xs ++ chunk) in
      omega (arith, R.wide, ap length R.split, length-append R.used r.rest, length-append xs chunk)

  fed_valid : (n l : ℕ) (s : Spot) (xs chunk : List ℕ) (t : Tables) → let r = read_of e t s xs chunk in
      valid (holding e m n l s xs) ≡ true → eqb m 1 && broken r.items ≡ false → valid (onward e m n l chunk r) ≡ true
  fed_valid n l s xs chunk t v q =
      let r = read_of e t s xs chunk in
      let o = open_holding e m n l s xs v in
      let k = all_bytes t s xs chunk in
      let c : n - length xs + widths r.items ≡ n + length chunk - length r.rest = omega (arith, k, o.held) in
      let come = read_comes t e m small (xs ++ chunk) o.comes (λ z. one_broken m (broken r.items) z q) in
      valid_holding e m (n + length chunk) (l + line_feeds (shown r.items)) r.spot r.rest a small (omega (arith, k, o.held))
      (subst (λ (c : ℕ). ComesAt e m r.spot c (l + line_feeds (shown r.items))) c come) (parsing t e s (xs ++ chunk)).waits

  -- A decoder that ends by an error has the totals of one that would read on in replacing mode.
  reported_valid : (n l : ℕ) (s : Spot) (xs chunk : List ℕ) (t : Tables) → valid (holding e m n l s xs) ≡ true →
      valid (stopped_by e m (n + length chunk) l (read_of e t s xs chunk).items) ≡ true
  reported_valid n l s xs chunk t v =
      let is = (read_of e t s xs chunk).items in
      let o = open_holding e m n l s xs v in
      let come = read_comes t e 0 (lit≤ tt) (xs ++ chunk) (replacing_at e m o.comes) (λ z. absurd (omega arith)) in
      valid_closed e m (n + length chunk) (l + line_feeds (before is)) a small
      (ended_totals_lem e 0 (n + length chunk) (l + line_feeds (before is)) come
      (omega (arith, all_bytes t s xs chunk, o.held)) (omega (arith, before_line_feeds is)))

  closed_valid : (n l : ℕ) (s : Spot) (xs : List ℕ) (t : Tables) (k : ℕ) → valid (holding e m n l s xs) ≡ true →
      k ≤ line_feeds (shown (end_of e t s xs)) → valid (closed e m n (l + k)) ≡ true
  closed_valid n l s xs t k v h =
      let o = open_holding e m n l s xs v in
      valid_closed e m n (l + k) a small (end_totals t e m n (l + k) xs o.comes o.rests (omega (arith, o.held)) (omega arith))

  pub valid_step : {taken handed : List ℕ} {d : Decoder} {c : Call} {h : History} {n : ℕ} →
      Step e m taken handed d c h n → valid d ≡ true → valid h.decoder ≡ true
  valid_step (refused d c n p) v = v
  valid_step (feeds n l s xs chunk t room w z q) v = fed_valid n l s xs chunk t v q
  valid_step (reported n l s xs chunk t room w z q) v = reported_valid n l s xs chunk t v
  valid_step (closes n l s xs t room w z q) v = closed_valid n l s xs t (line_feeds (shown (end_of e t s xs))) v (omega arith)
  valid_step (closes_reported n l s xs t room w z q) v =
      closed_valid n l s xs t (line_feeds (before (end_of e t s xs))) v (before_line_feeds (end_of e t s xs))

-- what an accepted opening was asked for
pub opening_bounds : (e m rule : ℕ) → open_refusal e m rule ≡ 0 → (e ≤ 39) × (m ≤ 1) × (rule ≤ 2)
unfolding open_refusal
opening_bounds e m rule = go (ltb 39 e) (ltb 1 m) (ltb 2 rule) refl refl refl
  where
    number : (a b c : Bool) → ℕ
    number a b c = a then 2 else b || c then 3 else 0

    go : (a b c : Bool) → ltb 39 e ≡ a → ltb 1 m ≡ b → ltb 2 rule ≡ c → number a b c ≡ 0 → (e ≤ 39) × (m ≤ 1) × (rule ≤ 2)
    go true b c p q r h = absurd (omega arith)
    go false true c p q r h = absurd (omega arith)
    go false false true p q r h = absurd (omega arith)
    go false false false p q r h = (ltb-false 39 e p, ltb-false 1 m q, ltb-false 2 rule r)

-- a new decoder's spot
new_comes : (e m rule : ℕ) → ComesAt e m (new_spot e rule) 0 0
new_comes e m rule = split (eqb rule 2)
    (λ q. subst (λ (p : Spot). ComesAt e m p 0 0) (sym (waiting_new e rule (ap (λ (x : Bool). eqb (bit x) 1) q))) choosing)
    (λ q. subst (λ (x : Bool). ComesAt e m (spot (bit x) (new_shift e rule)) 0 0) (sym q) (by_label (first_comes m (family e) (eqb rule 0))))

pub valid_opening : (e m rule : ℕ) → valid (opening e m rule).decoder ≡ true
unfolding opening ended_totals family
valid_opening e m rule = go (eqb (open_refusal e m rule) 0) refl
  where
    answer : Bool → Answer
    answer b = b then record { written = 0; place = 0; line = 0; refusal = 0; decoder = new e m rule } else
        record { written = 0; place = 0; line = 0; refusal = open_refusal e m rule; decoder = closed 0 0 0 0 }

    go : (b : Bool) → eqb (open_refusal e m rule) 0 ≡ b → valid (answer b).decoder ≡ true
    go true q =
        let k = opening_bounds e m rule (eqb-true (open_refusal e m rule) 0 q) in
        valid_holding e m 0 0 (new_spot e rule) [] k.0 k.1 (lit≤ tt) (new_comes e m rule) (none_rest e (new_spot e rule))
    go false q = valid_closed 0 0 0 0 (lit≤ tt) (lit≤ tt) refl

pub valid_call : (d : Decoder) (c : Call) → valid d ≡ true →
    valid (outcome (record { taken = []; handed = []; decoder = d }) c).answer.decoder ≡ true
valid_call d c v =
    let p = parts d v in
    let x = stepped d.encoding d.mode (record { taken = []; handed = []; decoder = d }) (valid_stands d v) c in
    ap (λ (h : History). valid h.decoder) x.leads ∙ valid_step d.encoding d.mode p.encoding p.mode x.step v

pub reachable_valid : {d : Decoder} → Reachable d → valid d ≡ true
reachable_valid (opened e m rule) = valid_opening e m rule
reachable_valid (fed {d = d} r t chunk room b c₁ c₂ a) = valid_call d (feed chunk t room) (reachable_valid r)
reachable_valid (finished {d = d} r t room c₁ c₂ a) = valid_call d (finish t room) (reachable_valid r)
