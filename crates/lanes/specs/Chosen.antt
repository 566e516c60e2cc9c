-- The chosen plan is permitted, none arrives sooner, and there is no second.
use Rattle.std.specs.Prelude.{ℕ, ◌+◌, ◌≤◌, ◌<◌, ◌≡◌, refl, true, List, [], ◌∷◌}
use Rattle.std.proofs.Common.{sym, subst₂, ◌∙◌, arith}
use Rattle.rules.specs.declared.Row.{Row}
use Rattle.rules.specs.Map.{Yard}
use Rattle.rules.specs.Rows.{load}
use Rattle.rules.specs.Plan.{Stay, Permitted, arrival}
use Rattle.rules.specs.Window.{Window, Span}
use Rattle.rules.specs.Chosen.{LexLe, Goal, Prior, Back, first, prior, Chosen}
use Rattle.lanes.specs.Stays.{arrival_cons}
use Rattle.lanes.specs.Windows.{same_window}
use Rattle.lanes.specs.Made.{in_front, alone}
use Rattle.lanes.specs.Best.{plan_last}

lex_same : {a b c a' b' c' : ℕ} → LexLe a b c a' b' c' → LexLe a' b' c' a b c → (a ≡ a') × (b ≡ b') × (c ≡ c')
lex_same {a} {b} {c} {a'} {b'} {c'} p q =
    let x : a ≡ a' = omega arith in
    let y : b ≡ b' = omega (arith, p.two x, q.two (sym x)) in
    (x, y, omega (arith, p.three x y, q.three (sym x) (sym y)))

module _ (Y : Yard) (B : List Row) (start dest s : ℕ) where
  -- no permitted plan arrives before the window of least earliest entry is left
  pub no_sooner : {w : Span} {e : ℕ} → Goal Y B start dest s w e → (plan : List Stay) → Permitted Y B start dest s plan → e + Y.dur dest ≤ arrival plan
  no_sooner g plan P = let l = plan_last Y B start s plan P in omega (arith, g.least l.w l.entry l.at_dest l.enters, l.end)

  module _ (dur_pos : (p : ℕ) → 0 < Y.dur p) where
    -- a window is known by its place and its start
    same_span : {w w' : Span} → Window Y B w.place w.from w.to → Window Y B w'.place w'.from w'.to → w.place ≡ w'.place → w.from ≡ w'.from → w ≡ w'
    same_span {w} {w'} x x' p q =
        let y : Window Y B w'.place w.from w.to = rw p at x in
        let r = same_window Y B w'.place w.from y x' (omega arith) (omega (arith, y.long, dur_pos w'.place)) (omega arith) (omega (arith, x'.long, dur_pos w'.place)) in
        λ i. record { place = p i; from = q i; to = r.1 i }

    same_prior : {v w w' : Span} {u e e' : ℕ} → Prior Y B start dest s v u w e → Prior Y B start dest s v u w' e' → (w ≡ w') × (e ≡ e')
    same_prior {v} {w} {w'} {u} {e} {e'} p q =
        let r = lex_same (p.least w' e' q.earliest q.yields) (q.least w e p.earliest p.yields) in
        (same_span p.earliest.enters.window q.earliest.enters.window r.1 r.2, r.0)

    same_back : {v : Span} {u : ℕ} {after plan plan' : List Stay} → Back Y B start dest s v u after plan → Back Y B start dest s v u after plan' → plan ≡ plan'
    same_back (first p e) (first p' e') = refl
    same_back (first p e) (prior l k b) = absurd (omega arith)
    same_back (prior l k b) (first p e) = absurd (omega arith)
    same_back (prior {w = w} {u = u} {e = e} {after = after} l k b) (prior {w = w'} {e = e'} {plan = plan'} l' k' b') =
        let r = same_prior k k' in
        same_back b (subst₂ (λ x y. Back Y B start dest s x y (record { place = x.place; entry = y; exit = u } ∷ after) plan') (sym r.0) (sym r.1) b')

    -- two windows of the destination are not entered at one second
    same_goal : {w w' : Span} {e e' : ℕ} → Goal Y B start dest s w e → Goal Y B start dest s w' e' → (w ≡ w') × (e ≡ e')
    same_goal {w} {w'} {e} {e'} g g' =
        let q : e ≡ e' = omega (arith, g.least w' e' g'.at_dest g'.earliest.enters, g'.least w e g.at_dest g.earliest.enters) in
        let p : w.place ≡ w'.place = g.at_dest ∙ sym g'.at_dest in
        let n = g.earliest.enters in
        let n' = g'.earliest.enters in
        let y : Window Y B w'.place w.from w.to = rw p at n.window in
        let r = same_window Y B w'.place e y n'.window n.from (omega (arith, n.to, dur_pos w.place)) (omega (arith, n'.from)) (omega (arith, n'.to, dur_pos w'.place)) in
        (λ i. record { place = p i; from = r.0 i; to = r.1 i }, q)

    pub no_second : {plan plan' : List Stay} → Chosen Y B start dest s plan → Chosen Y B start dest s plan' → plan ≡ plan'
    no_second {plan} {plan'} c c' =
        let r = same_goal c.goal c'.goal in
        same_back c.back (subst₂ (λ x y. Back Y B start dest s x y (record { place = dest; entry = y; exit = y + Y.dur dest } ∷ []) plan') (sym r.0) (sym r.1) c'.back)

  module _ (ok : (p q : ℕ) → Y.link p q ≡ true → p < Y.places) where
    -- walking back makes a permitted plan of a permitted rest, with the same arrival
    back_permitted : {v : Span} {u : ℕ} {after plan : List Stay} → Back Y B start dest s v u after plan → Permitted Y B v.place dest u after → Permitted Y B start dest s plan × (arrival plan ≡ arrival after)
    back_permitted (first {after = after} p e) P = (subst₂ (λ x y. Permitted Y B x dest y after) p e P, refl)
    back_permitted (prior {v = v} {w = w} {u = u} {e = e} {after = after} l k b) P =
        let n = k.earliest.enters in
        let t = k.yields.step in
        let f = in_front w.place e P (ok w.place v.place t.linked) t.after (λ x a c. n.window.free x (omega (arith, n.from)) (omega (arith, t.before))) t.linked t.clear in
        let r = back_permitted b f in
        (r.0, r.1 ∙ arrival_cons _ after P.run.some)

    -- the chosen plan is permitted and none arrives sooner
    pub chosen_best : dest < Y.places → ((p u : ℕ) → p < Y.places → load B p u ≤ Y.cap p) → {plan : List Stay} → Chosen Y B start dest s plan
        → Permitted Y B start dest s plan × ((plan' : List Stay) → Permitted Y B start dest s plan' → arrival plan ≤ arrival plan')
    unfolding arrival
    chosen_best m booked {plan} c =
        let n = c.goal.earliest.enters in
        let q = c.goal.at_dest in
        let v : Window Y B dest c.w.from c.w.to = rw q at n.window in
        let f : c.e + Y.dur dest ≤ c.w.to = rw q at n.to in
        let P : Permitted Y B dest dest c.e (record { place = dest; entry = c.e; exit = c.e + Y.dur dest } ∷ []) = alone m booked (omega (arith, v.in_day)) (λ t a b. v.free t (omega (arith, n.from)) (omega arith)) in
        let r = back_permitted c.back (rw q P) in
        (r.0, λ plan' P'. omega (arith, r.1, no_sooner c.goal plan' P'))
