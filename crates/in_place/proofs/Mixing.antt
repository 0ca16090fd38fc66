-- A call in either form leaves the same history, so a mix of both is the list of calls without the forms. Assumes nothing.
use mathlib.Core.Path.{◌≡◌, refl, ap, ◌∙◌, subst, sym}
use mathlib.Core.Bool.{Bool, true, false}
use mathlib.Core.List.{List, [], ◌∷◌}
use mathlib.Core.Option.{some}
use Prim.Native.Nat.{ℕ}
use lib.Dec.{eqb}
use Rattle.standard.specs.Base.{◌then◌else◌}
use Rattle.standard.specs.Encodings.{Tables}
use Rattle.demands.specs.Histories.{Call, History, outcome, after_one, after, start}
use Rattle.demands.specs.Statements.{Report, reported, reports, account, untaken, Demand3}
use Rattle.demands.proofs.Theorems.{demand_2, demand_3}
use Rattle.in_place.specs.Forms.{Form, by_value, lent, Formed, calls, after_form, after_forms, reports_forms, account_forms, Mixed, MixedDemands}

-- one call
one : (f : Form) (h : History) (c : Call) → after_form f h c ≡ after_one h c
one by_value h c = refl
one lent h c = refl

histories : (h : History) (fs : List Formed) → after_forms h fs ≡ after h (calls fs)
unfolding after_forms after calls
histories h [] = refl
histories h (f ∷ fs) = ap (λ (h : History). after_forms h fs) (one f.form h f.call) ∙ histories (after_one h f.call) fs

told : (h : History) (fs : List Formed) → reports_forms h fs ≡ reports h (calls fs)
unfolding reports_forms reports calls
told h [] = refl
told h (f ∷ fs) = go f.form (told (after_one h f.call) fs)
  where
    next : History
    next = after_one h f.call

    here : Report
    here = reported next (outcome h f.call).answer

    both : (b : Bool) → reports_forms next fs ≡ reports next (calls fs) →
        (b then here ∷ reports_forms next fs else reports_forms next fs) ≡ (b then here ∷ reports next (calls fs) else reports next (calls fs))
    both true q = ap (◌∷◌ here) q
    both false q = q

    go : (k : Form) → reports_forms next fs ≡ reports next (calls fs) →
        reports_forms h (record { form = k; call = f.call } ∷ fs) ≡ reports h (f.call ∷ calls fs)
    go by_value q = both (eqb (outcome h f.call).answer.refusal 11) q
    go lent q = both (eqb (outcome h f.call).answer.refusal 11) q

pub mixed : (h : History) (fs : List Formed) → Mixed h fs
unfolding account_forms account
mixed h fs = record {
  same_history = histories h fs;
  same_account = λ i. record {
    handed = (histories h fs i).handed;
    reports = told h fs i;
    decoder = untaken (histories h fs i).decoder;
  };
}

pub mixed_demands : (t : Tables) (e m rule : ℕ) (fs : List Formed) → MixedDemands t e m rule fs
mixed_demands t e m rule fs = record {
  as_standard = λ o ps last q b a. ap some (mixed (start e m rule) fs).same_account ∙ (demand_2 t e m rule o).refused_among (calls fs) ps last q b a;
  demand_3 = subst (Demand3 e m rule (calls fs)) (sym (histories (start e m rule) fs)) (demand_3 e m rule (calls fs));
}
