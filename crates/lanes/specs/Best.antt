-- A permitted plan's last stay enters a window of the destination, and each reached entry makes a plan.
use Rattle.std.specs.Prelude.{ℕ, suc, ◌+◌, ◌-◌, ◌≤◌, ◌<◌, ◌≡◌, List, length}
use Rattle.std.proofs.Math.Path.{refl, ap}
use Rattle.std.proofs.Common.{subst₂, ◌∙◌, ⊎_elim, arith}
use Rattle.rules.specs.declared.Row.{Row}
use Rattle.rules.specs.Map.{Yard}
use Rattle.rules.specs.Rows.{load}
use Rattle.rules.specs.Plan.{Stay, stay_at, Permitted, arrival}
use Rattle.laws.specs.Order.{lt_or_ge}
use Rattle.rules.specs.Window.{Window, Span, Enters, Earliest}
use Rattle.lanes.specs.Yards.{YardRules}
use Rattle.lanes.specs.Stays.{arrival_last, arrival_cons}
use Rattle.lanes.specs.Reach.{Reach, begin, go, plan_reach, Enter, Soonest}
use Rattle.lanes.specs.Made.{alone, in_front}
use Rattle.lanes.specs.Beginning.{stay_lies}

module _ (Y : Yard) (B : List Row) (start s : ℕ) where
  -- the window that a plan's last stay enters
  pub record Last (dest : ℕ) (plan : List Stay) : Type 0 where
    pub w : Span
    pub entry : ℕ
    pub at_dest : w.place ≡ dest
    pub enters : Enters Y B start s w entry
    pub end : arrival plan ≡ entry + Y.dur dest

  pub plan_last : {dest : ℕ} (plan : List Stay) → Permitted Y B start dest s plan → Last dest plan
  plan_last {dest} plan P =
      let i = length plan - 1 in
      let e : suc i ≡ length plan = omega (arith, P.run.some) in
      let h : i < length plan = omega arith in
      let l = stay_lies P i h in
      let q : (stay_at plan i).place ≡ dest = P.last_place i e in
      record {
        w = l.window;
        entry = (stay_at plan i).entry;
        at_dest = l.at ∙ q;
        enters = l.enters;
        end = arrival_last plan i e ∙ P.run.last_exact i e ∙ ap (λ p. (stay_at plan i).entry + Y.dur p) q;
      }

  -- what a plan's beginning enters is reached
  pub enters_enter : {w : Span} {t : ℕ} → Enters Y B start s w t → Enter Y B start s w t
  enters_enter {w} {t} n =
      let plan = n.plan in
      let P = n.permitted in
      let i = length plan - 1 in
      let e : suc i ≡ length plan = omega (arith, P.run.some) in
      record {
        is = n.window;
        reach = subst₂ (λ x y. Reach Y B start s x y) (P.last_place i e) (n.entered i e) (plan_reach Y B start s P i (omega arith));
        from = n.from;
        fits = n.to;
      }

  module _ (R : YardRules Y) (booked : (p u : ℕ) → p < Y.places → load B p u ≤ Y.cap p) where
    record Made (dest a : ℕ) : Type 0 where
      stays : List Stay
      permitted : Permitted Y B start dest s stays
      arrives : arrival stays ≡ a

    made : {dest p t a : ℕ} {xs : List Stay} → Reach Y B start s p t → Permitted Y B p dest t xs → arrival xs ≡ a → Made dest a
    made begin P e = record { stays = _; permitted = P; arrives = e }
    made {xs = xs} (go {p} {t} q u r l d f k c) P e = made r (in_front p t P (R.from_on p q k) l f k c) (arrival_cons _ xs P.run.some ∙ e)

    -- a window is a window of a place on the map
    pub on_map : {p a b : ℕ} → Window Y B p a b → p < Y.places
    on_map {p} {a} {b} w =
        ⊎_elim (λ (h : p < Y.places). h) (λ (h : Y.places ≤ p). absurd (omega (arith, R.off p h, w.free a (omega arith) (omega (arith, w.long, R.long p))))) (lt_or_ge p Y.places)

    -- what is reached a plan's beginning enters
    pub enter_enters : {w : Span} {t : ℕ} → Enter Y B start s w t → Enters Y B start s w t
    unfolding arrival
    enter_enters {w} {t} n =
        let d = Y.dur w.place in
        let m = made n.reach (alone {t = t} (on_map n.is) booked (omega (arith, n.is.in_day, n.fits)) (λ x a b. n.is.free x (omega (arith, n.from)) (omega (arith, n.fits)))) refl in
        record {
          window = n.is;
          from = n.from;
          to = n.fits;
          plan = m.stays;
          permitted = m.permitted;
          entered = λ i e. omega (arith, m.arrives, arrival_last m.stays i e, m.permitted.run.last_exact i e, ap (λ p. Y.dur p) (m.permitted.last_place i e));
        }

    pub earliest_soonest : {w : Span} {e : ℕ} → Earliest Y B start s w e → Soonest Y B start s w e
    earliest_soonest x = record { enter = enters_enter x.enters; least = λ t n. x.least t (enter_enters n) }

    pub soonest_earliest : {w : Span} {e : ℕ} → Soonest Y B start s w e → Earliest Y B start s w e
    soonest_earliest x = record { enters = enter_enters x.enter; least = λ t n. x.least t (enters_enter n) }
