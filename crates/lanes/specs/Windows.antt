-- Free windows: each stay of a permitted plan lies in exactly one.
use Rattle.std.specs.Prelude.{ℕ, zero, suc, ◌+◌, ◌-◌, ◌≤◌, ◌<◌, ◌≡◌, ◌⊎◌, List, length}
use Rattle.std.proofs.Common.{subst, inl, inr, ⊎_elim, arith}
use Rattle.std.proofs.Math.Decide.{dec_le, dec_lt}
use Rattle.laws.specs.Order.{Least, NoneIn, least, Stretch, stretch, lt_or_ge}
use Rattle.rules.specs.declared.Row.{Row}
use Rattle.rules.specs.Limits.{day}
use Rattle.rules.specs.Map.{Yard}
use Rattle.rules.specs.Rows.{load}
use Rattle.rules.specs.Plan.{Stay, stay_at, Permitted}
use Rattle.rules.specs.Window.{Free, Window}
use Rattle.lanes.specs.Stays.{stay_safe}

-- the document's "longest", said of all stretches: no free stretch of the day holds a to b but a to b itself
pub record Longest (Y : Yard) (B : List Row) (p a b : ℕ) : Type 0 where
  pub in_day : b ≤ day
  pub long : a + Y.dur p ≤ b
  pub free : Free Y B p a b
  pub most : (c d : ℕ) → c ≤ a → b ≤ d → d ≤ day → Free Y B p c d → (c ≡ a) × (d ≡ b)

-- p's window that holds the stretch t to u
pub record In (Y : Yard) (B : List Row) (p t u : ℕ) : Type 0 where
  pub start : ℕ
  pub end : ℕ
  pub window : Window Y B p start end
  pub from : start ≤ t
  pub to : u ≤ end

module _ (Y : Yard) (B : List Row) (p : ℕ) where
  abbrev Open : ℕ → Type 0
  Open m = load B p m < Y.cap p

  abbrev Full : ℕ → Type 0
  Full m = Y.cap p ≤ load B p m

  -- a free stretch of the day that lasts p's duration lies in a window
  pub window_of : (t u : ℕ) → t + Y.dur p ≤ u → u ≤ day → Free Y B p t u → In Y B p t u
  window_of t u l d f = go (stretch Open (λ m. dec_lt (load B p m) (Y.cap p)) t) (least Full (λ m. dec_le (Y.cap p) (load B p m)) u day d)
    where
      make : Stretch Open t → (e : ℕ) → u ≤ e → e ≤ day → NoneIn Full u e → (e < day → Full e) → In Y B p t u
      make s e h k n r = record {
        start = s.lo;
        end = e;
        window = record {
          in_day = k;
          long = omega arith;
          free = λ m a b.
              ⊎_elim (λ (c : m < t). s.all m a c)
              (λ (c : t ≤ m). ⊎_elim (λ (c' : m < u). f m c c') (λ (c' : u ≤ m). ⊎_elim (λ o. o) (λ x. absurd (n m c' b x)) (lt_or_ge (load B p m) (Y.cap p))) (lt_or_ge m u))
              (lt_or_ge m t);
          left = λ c q. ⊎_elim (λ o. absurd (s.end c q o)) (λ x. x) (lt_or_ge (load B p c) (Y.cap p));
          right = r;
        };
        from = s.up;
        to = h;
      }

      go : Stretch Open t → Least Full u day ⊎ NoneIn Full u day → In Y B p t u
      go s (inl r) = make s r.at r.from (omega arith) r.before (λ _. r.holds)
      go s (inr n) = make s day d (omega arith) n (λ h. absurd (omega arith))

  -- of two windows that share a second neither starts after the other
  start_le : {a b a' b' : ℕ} (t : ℕ) → Window Y B p a b → Window Y B p a' b' → a ≤ t → t < b → a' ≤ t → t < b' → a ≤ a'
  start_le {a} {b} {a'} {b'} t w v h k h' k' = ⊎_elim (λ (c : a' < a). absurd (omega (arith, w.left (a - 1) (omega arith), v.free (a - 1) (omega arith) (omega arith)))) (λ c. c) (lt_or_ge a' a)

  end_le : {a b a' b' : ℕ} (t : ℕ) → Window Y B p a b → Window Y B p a' b' → a ≤ t → t < b → a' ≤ t → t < b' → b' ≤ b
  end_le {a} {b} {a'} {b'} t w v h k h' k' = ⊎_elim (λ (c : b < b'). absurd (omega (arith, w.right (omega arith), v.free b (omega arith) c))) (λ c. c) (lt_or_ge b b')

  pub same_window : {a b a' b' : ℕ} (t : ℕ) → Window Y B p a b → Window Y B p a' b' → a ≤ t → t < b → a' ≤ t → t < b' → (a ≡ a') × (b ≡ b')
  same_window t w v h k h' k' =
      let x = start_le t w v h k h' k' in
      let x' = start_le t v w h' k' h k in
      let y = end_le t w v h k h' k' in
      let y' = end_le t v w h' k' h k in
      (omega arith, omega arith)

  -- the local form of "longest" and the document's are one
  pub to_longest : {a b : ℕ} → 0 < Y.dur p → Window Y B p a b → Longest Y B p a b
  to_longest {a} {b} o w = record {
    in_day = w.in_day;
    long = w.long;
    free = w.free;
    most = λ c d x y z f. (
      ⊎_elim (λ (q : c < a). absurd (omega (arith, w.left (a - 1) (omega arith), f (a - 1) (omega arith) (omega arith)))) (λ q. omega arith) (lt_or_ge c a),
      ⊎_elim (λ (q : b < d). absurd (omega (arith, w.right (omega arith), f b (omega arith) q))) (λ q. omega arith) (lt_or_ge b d),
    );
  }

  pub of_longest : {a b : ℕ} → Longest Y B p a b → Window Y B p a b
  of_longest {a} {b} w = record {
    in_day = w.in_day;
    long = w.long;
    free = w.free;
    left = λ c q. ⊎_elim (λ (o : Open c). absurd (wider_left c q o)) (λ x. x) (lt_or_ge (load B p c) (Y.cap p));
    right = λ q. ⊎_elim (λ (o : Open b). absurd (wider_right q o)) (λ x. x) (lt_or_ge (load B p b) (Y.cap p));
  }
    where
      wider_left : (c : ℕ) → suc c ≡ a → Open c → ⊥
      wider_left c q o =
          let f : Free Y B p c b = λ t x y. ⊎_elim (λ (z : t < a). subst Open {x = c} (omega arith) o) (λ (z : a ≤ t). w.free t z y) (lt_or_ge t a) in
          omega (arith, w.most c b (omega arith) (omega arith) w.in_day f)

      wider_right : b < day → Open b → ⊥
      wider_right q o =
          let f : Free Y B p a (suc b) = λ t x y. ⊎_elim (λ (z : t < b). w.free t x z) (λ (z : b ≤ t). subst Open {x = b} (omega arith) o) (lt_or_ge t b) in
          omega (arith, w.most a (suc b) (omega arith) (omega arith) q f)

-- each stay of a permitted plan ends within the day
module _ {Y : Yard} {B : List Row} {start dest s : ℕ} {plan : List Stay} (P : Permitted Y B start dest s plan) where
  -- k stays come after stay i
  ends_from : (k i : ℕ) → i + suc k ≡ length plan → (stay_at plan i).exit ≤ day
  ends_from zero i e = P.run.last_exit i (omega arith)
  ends_from (suc k) i e = omega (arith, ends_from k (suc i) (omega arith), P.run.meets i (omega arith), P.run.lasts (suc i) (omega arith))

  pub ends : (i : ℕ) → i < length plan → (stay_at plan i).exit ≤ day
  ends i h = ends_from (length plan - suc i) i (omega arith)

  -- each stay lies in a window of its place
  pub stay_in : (i : ℕ) → i < length plan → In Y B (stay_at plan i).place (stay_at plan i).entry (stay_at plan i).exit
  stay_in i h = window_of Y B (stay_at plan i).place (stay_at plan i).entry (stay_at plan i).exit (P.run.lasts i h) (ends i h) (λ t a b. stay_safe P i t h a b)
