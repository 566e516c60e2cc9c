-- What the planning call answers at each of its ends.
use Rattle.std.specs.Prelude.{ℕ, suc, ◌-◌, ◌≤◌, ◌<◌, ◌≡◌, refl, List, length, take, Some, Ok, Err}
use Rattle.std.proofs.Common.{sym, ap, ◌∙◌, inl, inr, arith, length-take-le, get_or-take}
use Rattle.laws.specs.Lists.{at}
use Rattle.rules.specs.declared.Row.{Row}
use Rattle.rules.specs.declared.Refusal.{Refusal}
use Rattle.rules.specs.declared.Refusal.TheVariants.{OffMap, OffDay, NoPlan, ShortList}
use Rattle.rules.specs.Map.{Yard}
use Rattle.rules.specs.Rows.{load, row_at}
use Rattle.rules.specs.Plan.{Stay, Permitted, arrival, run_rows}
use Rattle.rules.specs.Chosen.{Chosen}
use Rattle.rules.specs.Bytes.{written, records}
use Rattle.rules.specs.Answer.{number, fault_row, Planning, PlanSound}
use Rattle.lanes.specs.Yards.{YardRules}
use Rattle.lanes.specs.Chosen.{chosen_best}
use Rattle.flat.specs.Links.{group_place}
use Rattle.search.specs.Relax.{Ground}
use Rattle.planner.specs.Choice.{plan_of}
use Rattle.planner.specs.Route.{Routed, PathFits, plan_long, last_arrives, row_last}

-- a route's path is fit to be written
pub route_fits : {Y : Yard} {rows : List Row} {start dest s n k m : ℕ} {D F T H N P S E I lab path : List ℕ} {r : ℕ} → Ground n k m D F T H N P S E I
    → Routed Y rows start dest s m D P S E lab path (Some r) → PathFits D P lab path r
route_fits {D = D} {P = P} {lab = lab} {path = path} {r = r} G R =
    let l : length (take r path) ≡ r = length-take-le r path (omega (arith, R.few, R.long)) in
    record {
      few = R.few;
      long = R.long;
      window = λ i h. let e = get_or-take r path i 0 h in omega (arith, R.on_day.window i (omega arith), G.windows);
      label = λ i h. let e = ap (at lab) (get_or-take r path i 0 h) in omega (arith, R.on_day.label i (omega arith));
      dur = λ i h.
          let e = get_or-take r path i 0 h in
          let w = R.on_day.window i (omega arith) in
          omega (arith, ap (λ x. at D (at P x)) e, G.durs (at P (at (take r path) i)) (group_place G.by_place (at (take r path) i) w));
    }

-- where there is a chosen plan there is a permitted one
pub some : (Y : Yard) (rows : List Row) (start dest s : ℕ) → YardRules Y → dest < Y.places → ((p u : ℕ) → p < Y.places → load rows p u ≤ Y.cap p)
    → {plan : List Stay} → Chosen Y rows start dest s plan → (plan : List Stay) × Permitted Y rows start dest s plan
some Y rows start dest s R h booked {plan} C = (plan, (chosen_best Y rows start dest s R.from_on h booked C).0)

module _ {Y : Yard} {rows : List Row} {start dest s : ℕ} {was out : List ℕ} where
  pub plan_off_map : ((start < Y.places) × (dest < Y.places) → ⊥) → was ≡ out → PlanSound Y rows start dest s was out (Err OffMap)
  plan_off_map h e = inl (h, record { code = refl; arrives = refl; counts = refl; holds = sym e })

  module _ (on : (start < Y.places) × (dest < Y.places)) where
    pub plan_off_day : 86400 < s → was ≡ out → PlanSound Y rows start dest s was out (Err OffDay)
    plan_off_day h e = inr (on, inl (λ k. omega arith, record { code = refl; arrives = refl; counts = refl; holds = sym e }))

    module _ (day : s ≤ 86400) where
      pub plan_none : ((plan : List Stay) → Permitted Y rows start dest s plan → ⊥) → was ≡ out → PlanSound Y rows start dest s was out (Err NoPlan)
      plan_none h e = inr (on, inr (day, inl (λ x. h x.0 x.1, record { code = refl; arrives = refl; counts = refl; holds = sym e })))

      module _ (rules : YardRules Y) (booked : (p u : ℕ) → p < Y.places → load rows p u ≤ Y.cap p) {plan : List Stay} (C : Chosen Y rows start dest s plan) where
        pub plan_short : records was < length plan → was ≡ out → PlanSound Y rows start dest s was out (Err ShortList)
        plan_short h e = inr (on, inr (day, inr (some Y rows start dest s rules on.1 booked C, (plan, C, inl (λ k. omega arith, record { code = refl; arrives = refl; counts = refl; holds = sym e })))))

        pub plan_done : {a c : ℕ} → length plan ≤ records was → arrival plan ≡ a → length plan ≡ c → out ≡ written (run_rows 0 plan) was → PlanSound Y rows start dest s was out (Ok (record { arrival = a; count = c }))
        plan_done h ea ec eo = inr (on, inr (day, inr (some Y rows start dest s rules on.1 booked C, (plan, C, inr (h, record { code = refl; arrives = sym ea; counts = sym ec; holds = eo })))))

-- refused at the gate
pub plan_refused : {was out : List ℕ} {x : Refusal} → was ≡ out → (n i : ℕ) → number x ≡ n → fault_row x ≡ i → Planning n 0 i was out (Err x)
plan_refused e n i h k = record { code = h; arrives = refl; counts = k; holds = sym e }

-- the number of stays of a route
pub route_long : {D P lab path : List ℕ} {r : ℕ} → PathFits D P lab path r → length (plan_of D P lab (take r path)) ≡ r
route_long {D} {P} {lab} {path} {r} F = plan_long D P lab (take r path) ∙ length-take-le r path (omega (arith, F.few, F.long))

-- a route's last row is left at the arrival
pub route_arrives : {D P lab path : List ℕ} {r : ℕ} (t : ℕ) → PathFits D P lab path r → 0 < r
    → arrival (plan_of D P lab (take r path)) ≡ (row_at (run_rows t (plan_of D P lab (take r path))) (r - 1)).exit
route_arrives {D} {P} {lab} {path} {r} t F h =
    let l : suc (r - 1) ≡ length (take r path) = (let z = length-take-le r path (omega (arith, F.few, F.long)) in omega arith) in
    last_arrives D P lab (take r path) (r - 1) l ∙ sym (ap (λ (x : Row). x.exit) (row_last D P lab t (take r path) (r - 1) l))
