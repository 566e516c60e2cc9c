-- No second answer: the state after a line, the bytes printed and the whole list are fixed, for every state, line and list; of `fed` also where it stops,
-- and every digit of the line that is begun.
use Rattle.std.specs.Prelude.{ℕ, ◌≤◌, ◌<◌, ◌≡◌, List, ◌++◌, length, take, drop}
use Rattle.std.proofs.Common.{sym, ap, ap₂, ◌∙◌, ⊎_elim, arith, take-append-drop, length-take-le}
use Rattle.std.proofs.Math.Seq.{slice}
use Rattle.laws.specs.Order.{lt_or_ge}
use Rattle.rules.specs.declared.State.{State}
use Rattle.rules.specs.Bytes.{answer_room}
use Rattle.rules.specs.GateLaws.{both}
use Rattle.unique.specs.Line.{no_second_line, no_second_lines}
use Rattle.rules.specs.declared.Line.{Line}
use Rattle.rules.specs.declared.Desk.{Desk}
use Rattle.rules.specs.declared.Intake.{Intake}
use Rattle.rules.specs.declared.Told.{Told}
use Rattle.rules.specs.Program.{AnswerIs, EndedIs, Ends, FedIs, Silent, Spoken, Tells, line_after}
use Rattle.frames.specs.Lines.{stands_for}

module _ {was out out' : List ℕ} {r r' : Told} where
  silent_same : {s : State} → Silent s was out r → Silent s was out' r' → (r ≡ r') × (out ≡ out')
  silent_same p q =
      let a = p.stays ∙ sym q.stays in
      let b = p.none ∙ sym q.none in
      (λ i. record { state = a i; len = b i }, p.same ∙ sym q.same)

  spoken_same : {P : State → List ℕ → Type 0}
      → (P r.state (take r.len out) → P r'.state (take r'.len out') → (r.state ≡ r'.state) × (take r.len out ≡ take r'.len out'))
      → answer_room ≤ length was
      → Spoken P was out r → Spoken P was out' r' → (r ≡ r') × (out ≡ out')
  spoken_same one h p q =
      let e = one p.says q.says in
      let m = length-take-le r.len out (omega (arith, p.fits, p.long)) in
      let n = length-take-le r'.len out' (omega (arith, q.fits, q.long)) in
      let a = e.0 in
      let b : r.len ≡ r'.len = sym m ∙ ap length e.1 ∙ n in
      let d : drop r.len out ≡ drop r'.len out' = p.kept ∙ ap (λ (k : ℕ). drop k was) b ∙ sym q.kept in
      (λ i. record { state = a i; len = b i }, sym (take-append-drop r.len out) ∙ ap₂ ◌++◌ e.1 d ∙ take-append-drop r'.len out')

  pub no_second_answer : {s : State} {l : Line} → AnswerIs s l was out r → AnswerIs s l was out' r' → (r ≡ r') × (out ≡ out')
  no_second_answer {s} {l} =
      let x = stands_for l in
      both silent_same (λ h. spoken_same {P = Tells s l} (λ p q. no_second_line (p x.0 x.1) (q x.0 x.1)) h)

  pub no_second_ending : {d : Desk} → EndedIs d was out r → EndedIs d was out' r' → (r ≡ r') × (out ≡ out')
  no_second_ending {d} =
      let x = stands_for d.line in
      both silent_same (λ h. spoken_same {P = Ends d} (λ p q. no_second_lines (p x.0 x.1) (q x.0 x.1)) h)

module _ {d : Desk} {buf : List ℕ} {from : ℕ} {was out out' : List ℕ} {r r' : Intake} where
  -- where one stops before the bytes end there is no room, so the other takes no byte there either
  no_further : FedIs d buf from was out r → FedIs d buf from was out' r' → r'.upto ≤ r.upto
  no_further p q = ⊎_elim (λ (h : r.upto < r'.upto). absurd (stopped h)) (λ (h : r'.upto ≤ r.upto). h) (lt_or_ge r.upto r'.upto)
    where
      in_bytes : r.upto < r'.upto → from < length buf
      in_bytes h =
          ⊎_elim (λ (k : from < length buf). k) (λ (k : length buf ≤ from). absurd (omega (arith, p.after, (q.stays (λ _ m. omega arith)).1))) (lt_or_ge from (length buf))

      stopped : r.upto < r'.upto → ⊥
      stopped h =
          let k = in_bytes h in
          let w = q.within (omega arith) in
          let n = length-take-le r.len out (omega (arith, p.fits, p.long)) in
          omega (arith, p.stops (omega arith), q.room r.upto p.after h r.desk (take r.len out) p.feeds)

module _ {d : Desk} {buf : List ℕ} {from : ℕ} {was out out' : List ℕ} {r r' : Intake} where
  pub no_second_feeding : FedIs d buf from was out r → FedIs d buf from was out' r' → (r ≡ r') × (out ≡ out')
  no_second_feeding p q =
      let x = stands_for d.line in
      let u : r.upto ≡ r'.upto = omega (arith, no_further p q, no_further q p) in
      let e = no_second_lines (p.feeds.says x.0 x.1) (rw (sym u) at (q.feeds.says x.0 x.1)) in
      let a = e.0 in
      let l : r.desk.line ≡ r'.desk.line = p.feeds.line ∙ ap (λ (k : ℕ). line_after d.line (slice from k buf)) u ∙ sym q.feeds.line in
      let m = length-take-le r.len out (omega (arith, p.fits, p.long)) in
      let n = length-take-le r'.len out' (omega (arith, q.fits, q.long)) in
      let b : r.len ≡ r'.len = sym m ∙ ap length e.1 ∙ n in
      let c : drop r.len out ≡ drop r'.len out' = p.kept ∙ ap (λ (k : ℕ). drop k was) b ∙ sym q.kept in
      (λ i. record { desk = record { state = a i; line = l i }; upto = u i; len = b i }, sym (take-append-drop r.len out) ∙ ap₂ ◌++◌ e.1 c ∙ take-append-drop r'.len out')
