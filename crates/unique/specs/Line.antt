-- No line has a second answer. A line is a frame or it is not: two digits a byte are read in one way, and the first byte's kind asks for one
-- length. A frame's kind has one clause, which fixes the state after it and the bytes printed; every other line is refused with 12.
use Prim.Native.Nat.{ℕ, zero, suc, ◌+◌, ◌-◌, ◌*◌, ◌/◌, ◌%◌, ◌≤◌, ◌<◌}
use Rattle.std.proofs.Math.Path.{◌≡◌, ap, ap₂}
use Rattle.std.specs.Prelude.{refl, ◌⊎◌, length}
use Rattle.std.proofs.Common.{sym, subst, ◌∙◌, inl, inr, ⊎_elim, ne_eqb}
use mathlib.Core.List.{List, [], ◌∷◌, ◌++◌}
use native.Mathlib.Omega.{arith}
use Rattle.laws.specs.Order.{lt_or_ge, eq_or_ne}
use Rattle.rules.specs.declared.State.{State}
use Rattle.rules.specs.Bytes.{byte_at, num3, key_in, records, written}
use Rattle.rules.specs.Gate.{papers_of}
use Rattle.rules.specs.GateLaws.{both}
use Rattle.rules.specs.Frames.{digit, hex_of, frame_length, answer_list, plan_lines, book_lines, cancel_lines, page_lines, closed_state, Frame, Said, PlanFrame, BookFrame, CancelFrame, PageFrame, FrameSays, LineSays, LinesSay}
use Rattle.rules.specs.Frames.LinesSay.{none, more}
use Rattle.lanes.specs.Yards.{yard_rules}
use Rattle.unique.specs.Hex.{Value, value_low, value_high, value_none, AreBytes, hex_length, hex_injective}
use Rattle.unique.specs.Unique.{no_second_plan, no_second_booking, no_second_cancelling, no_second_page}

-- ---- a line is a frame or it is not

value_of : (c : ℕ) → (v : ℕ) × Value c v
value_of c =
    ⊎_elim
    (λ (a : c < 48). (16, value_none c (λ p q. omega arith) (λ p q. omega arith)))
    (λ (a : 48 ≤ c). ⊎_elim
    (λ (b : c < 58). (c - 48, value_low c a (omega arith)))
    (λ (b : 58 ≤ c). ⊎_elim
    (λ (d : c < 65). (16, value_none c (λ p q. omega arith) (λ p q. omega arith)))
    (λ (d : 65 ≤ c). ⊎_elim
    (λ (e : c < 71). (c - 55, value_high c d (omega arith)))
    (λ (e : 71 ≤ c). (16, value_none c (λ p q. omega arith) (λ p q. omega arith)))
    (lt_or_ge c 71))
    (lt_or_ge c 65))
    (lt_or_ge c 58))
    (lt_or_ge c 48)

abbrev Read : List ℕ → Type 0
Read line = (b : List ℕ) × AreBytes b × (line ≡ hex_of b)

abbrev Unread : List ℕ → Type 0
Unread line = (b : List ℕ) → AreBytes b → line ≡ hex_of b → ⊥

nothing_read : Read []
unfolding hex_of
nothing_read = ([], (λ i. omega arith), refl)

one_digit : (c : ℕ) → Unread (c ∷ [])
one_digit c b B e = let n = ap length e in let m = hex_length b in omega arith

module _ (c d : ℕ) (rest : List ℕ) where
  two_digits : {h g : ℕ} → Value c h → h < 16 → Value d g → g < 16 → Read rest → Read (c ∷ (d ∷ rest))
  unfolding hex_of
  two_digits {h} {g} X a Z k r =
      let v : ℕ = h * 16 + g in
      let p : h ≡ v / 16 = omega arith in
      let q : g ≡ v % 16 = omega arith in (
        v ∷ r.0,
        bytes v r.0 (omega arith) r.1,
        ap₂ (λ (x : ℕ) (l : List ℕ). x ∷ l) (X.is a ∙ ap digit p) (ap₂ (λ (x : ℕ) (l : List ℕ). x ∷ l) (Z.is k ∙ ap digit q) r.2),
      )
    where
      bytes : (v : ℕ) (b : List ℕ) → v < 256 → AreBytes b → AreBytes (v ∷ b)
      bytes v b l B zero = l
      bytes v b l B (suc i) = B i

  high_no_digit : {h : ℕ} → Value c h → 16 ≤ h → Unread (c ∷ (d ∷ rest))
  unfolding hex_of
  high_no_digit X a [] B e = let n : ◌≡◌ {A = ℕ} 0 1 = cc in absurd (omega arith)
  high_no_digit X a (x ∷ b) B e = X.none a (x / 16) (let z = B 0 in omega arith) cc

  low_no_digit : {g : ℕ} → Value d g → 16 ≤ g → Unread (c ∷ (d ∷ rest))
  unfolding hex_of
  low_no_digit X a [] B e = let n : ◌≡◌ {A = ℕ} 0 1 = cc in absurd (omega arith)
  low_no_digit X a (x ∷ b) B e = X.none a (x % 16) (omega arith) cc

  rest_unread : Unread rest → Unread (c ∷ (d ∷ rest))
  unfolding hex_of
  rest_unread f [] B e = let n : ◌≡◌ {A = ℕ} 0 1 = cc in absurd (omega arith)
  rest_unread f (x ∷ b) B e = f b (λ i. B (suc i)) cc

read_or_not : (line : List ℕ) → Read line ⊎ Unread line
read_or_not [] = inl nothing_read
read_or_not (c ∷ []) = inr (one_digit c)
read_or_not (c ∷ (d ∷ rest)) = go (value_of c) (value_of d) (read_or_not rest)
  where
    go : (h : ℕ) × Value c h → (g : ℕ) × Value d g → Read rest ⊎ Unread rest → Read (c ∷ (d ∷ rest)) ⊎ Unread (c ∷ (d ∷ rest))
    go x y (inr f) = inr (rest_unread c d rest f)
    go x y (inl r) =
        ⊎_elim
        (λ (a : x.0 < 16). ⊎_elim
        (λ (b : y.0 < 16). inl (two_digits c d rest x.1 a y.1 b r))
        (λ (b : 16 ≤ y.0). inr (low_no_digit c d rest y.1 b))
        (lt_or_ge y.0 16))
        (λ (a : 16 ≤ x.0). inr (high_no_digit c d rest x.1 a))
        (lt_or_ge x.0 16)

abbrev NoFrame : List ℕ → Type 0
NoFrame line = (bytes : List ℕ) → Frame line bytes → ⊥

pub frame_or_not : (line : List ℕ) → ((bytes : List ℕ) × Frame line bytes) ⊎ NoFrame line
frame_or_not line = ⊎_elim shaped (λ (f : Unread line). inr (λ b F. f b F.are_bytes F.digits)) (read_or_not line)
  where
    shaped : Read line → ((bytes : List ℕ) × Frame line bytes) ⊎ NoFrame line
    shaped r =
        ⊎_elim
        (λ (a : 0 < length r.0). ⊎_elim
        (λ (e : length r.0 ≡ frame_length (byte_at r.0 0)). inl (r.0, record { are_bytes = r.1; digits = r.2; some = a; shaped = e }))
        (λ (e : length r.0 ≡ frame_length (byte_at r.0 0) → ⊥). inr (λ b F. e (subst (λ (x : List ℕ). length x ≡ frame_length (byte_at x 0)) (same b F) F.shaped)))
        (eq_or_ne (length r.0) (frame_length (byte_at r.0 0))))
        (λ (a : length r.0 ≤ 0). inr (λ b F. let n = ap length (same b F) in let m = F.some in omega arith))
        (lt_or_ge 0 (length r.0))
      where
        same : (b : List ℕ) → Frame line b → b ≡ r.0
        same b F = hex_injective b r.0 (sym F.digits ∙ r.2)

-- a kind that there is
pub no_kind : (k : ℕ) → (k ≡ 1 → ⊥) → (k ≡ 2 → ⊥) → (k ≡ 3 → ⊥) → (k ≡ 4 → ⊥) → (k ≡ 5 → ⊥) → (k ≡ 6 → ⊥) → frame_length k ≡ 0
unfolding frame_length
no_kind k a b c d e f = rw (ne_eqb k 1 a, ne_eqb k 2 b, ne_eqb k 3 c, ne_eqb k 4 d, ne_eqb k 5 e, ne_eqb k 6 f)

-- ---- a frame

said_same : {s s₁ s₂ : State} {out said₁ said₂ : List ℕ} → Said s out s₁ said₁ → Said s out s₂ said₂ → (s₁ ≡ s₂) × (said₁ ≡ said₂)
said_same p q = (p.next ∙ sym q.next, p.prints ∙ sym q.prints)

module _ (s : State) (bytes : List ℕ) (s₁ s₂ : State) (said₁ said₂ : List ℕ) where
  abbrev Same : Type 0
  Same = (s₁ ≡ s₂) × (said₁ ≡ said₂)

  plan_frame_same : PlanFrame s bytes s₁ said₁ → PlanFrame s bytes s₂ said₂ → Same
  plan_frame_same p q =
      let e = no_second_plan (papers_of s.map s.book) (records answer_list) (λ l. written l answer_list)
      (byte_at bytes 1) (byte_at bytes 2) (num3 bytes 3) answer_list p.list q.list p.answer q.answer (λ M. (yard_rules M.rules).long) p.is q.is in
      (p.said_so.next ∙ sym q.said_so.next, p.said_so.prints ∙ ap₂ plan_lines e.0 e.1 ∙ sym q.said_so.prints)

  book_frame_same : BookFrame s bytes s₁ said₁ → BookFrame s bytes s₂ said₂ → Same
  book_frame_same p q =
      let e = no_second_booking s.map s.book (byte_at bytes 1) (byte_at bytes 2) (num3 bytes 3) p.answer q.answer p.is q.is in
      (p.said_so.next ∙ ap (λ r. closed_state s r.book) e ∙ sym q.said_so.next, p.said_so.prints ∙ ap book_lines e ∙ sym q.said_so.prints)

  cancel_frame_same : CancelFrame s bytes s₁ said₁ → CancelFrame s bytes s₂ said₂ → Same
  cancel_frame_same p q =
      let e = no_second_cancelling s.map s.book (num3 bytes 1) p.answer q.answer p.is q.is in
      (p.said_so.next ∙ ap (λ r. closed_state s r.book) e ∙ sym q.said_so.next, p.said_so.prints ∙ ap cancel_lines e ∙ sym q.said_so.prints)

  page_frame_same : PageFrame s bytes s₁ said₁ → PageFrame s bytes s₂ said₂ → Same
  page_frame_same p q =
      let e = no_second_page (papers_of s.map s.book) (records answer_list) (λ l. written l answer_list)
      (byte_at bytes 1) (key_in bytes 2) answer_list p.list q.list p.answer q.answer p.is q.is in
      (p.said_so.next ∙ sym q.said_so.next, p.said_so.prints ∙ ap₂ page_lines e.0 e.1 ∙ sym q.said_so.prints)

  no_second_frame : 1 ≤ frame_length (byte_at bytes 0) → FrameSays s bytes s₁ said₁ → FrameSays s bytes s₂ said₂ → Same
  no_second_frame h p q =
      kind 1 (λ e. both said_same (λ _. said_same) (p.place e) (q.place e)) (λ a.
      kind 2 (λ e. both said_same (λ _. said_same) (p.link e) (q.link e)) (λ b.
      kind 3 (λ e. plan_frame_same (p.plan e) (q.plan e)) (λ c.
      kind 4 (λ e. book_frame_same (p.book e) (q.book e)) (λ d.
      kind 5 (λ e. cancel_frame_same (p.cancel e) (q.cancel e)) (λ f.
      kind 6 (λ e. page_frame_same (p.page e) (q.page e)) (λ g. let z = no_kind (byte_at bytes 0) a b c d f g in absurd (omega arith)))))))
    where
      kind : (k : ℕ) → (byte_at bytes 0 ≡ k → Same) → ((byte_at bytes 0 ≡ k → ⊥) → Same) → Same
      kind k f g = ⊎_elim f g (eq_or_ne (byte_at bytes 0) k)

-- ---- a line

pub no_second_line : {s s₁ s₂ : State} {line said₁ said₂ : List ℕ} → LineSays s line s₁ said₁ → LineSays s line s₂ said₂ → (s₁ ≡ s₂) × (said₁ ≡ said₂)
no_second_line {s} {s₁} {s₂} {line} {said₁} {said₂} p q = go (frame_or_not line)
  where
    go : ((bytes : List ℕ) × Frame line bytes) ⊎ NoFrame line → (s₁ ≡ s₂) × (said₁ ≡ said₂)
    go (inl f) =
        no_second_frame s f.0 s₁ s₂ said₁ said₂ (let m = f.1.some in let n = f.1.shaped in omega arith)
        (p.framed f.0 f.1) (q.framed f.0 f.1)
    go (inr f) = said_same (p.other f) (q.other f)

-- line after line
pub no_second_lines : {s s₁ s₂ : State} {lines : List (List ℕ)} {said₁ said₂ : List ℕ} → LinesSay s lines s₁ said₁ → LinesSay s lines s₂ said₂ → (s₁ ≡ s₂) × (said₁ ≡ said₂)
no_second_lines none none = (refl, refl)
no_second_lines {s₂ = s₂} (more p r) (more {rest = rest} {lines = lines} q t) =
    let e = no_second_line p q in
    let f = no_second_lines r (subst (λ x. LinesSay x lines s₂ rest) (sym e.0) t) in
    (f.0, ap₂ ◌++◌ e.1 f.1)
