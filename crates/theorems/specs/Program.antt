-- What `lanebook` keeps from line to line: the book is well formed on the map so far, so that no line is ever answered with a number of a bad book.
use Rattle.std.specs.Prelude.{ℕ, zero, suc, ◌/◌, ◌%◌, ◌≡◌, refl, Bool, true, false, ◌&&◌, ◌||◌, List, [], ◌∷◌, ◌++◌, get_or, eqb, leb}
use Rattle.std.proofs.Common.{sym, ap, subst, ◌∙◌, ⊎_elim, append-nil, arith}
use Rattle.laws.specs.Order.{eq_or_ne}
use Rattle.laws.specs.Tests.{not_both}
use Rattle.rules.specs.declared.Map.{Map}
use Rattle.rules.specs.declared.Book.{Book}
use Rattle.rules.specs.declared.State.{State}
use Rattle.rules.specs.Map.{map_yard}
use Rattle.rules.specs.Rows.{Key}
use Rattle.rules.specs.Book.{GoodBook, book_of}
use Rattle.rules.specs.Bytes.{byte_at}
use Rattle.rules.specs.GateLaws.{unless, checked_good}
use Rattle.rules.specs.Answer.{Planned, Paged, Booking, Cancelling, PlanIs, BookIs, CancelIs, PageIs, answer_number}
use Rattle.rules.specs.Frames.{digit, hex_of, line_of, after00, begins, closed_state, Frame, Said, PlaceFrame, LinkFrame, PlanFrame, BookFrame, CancelFrame, PageFrame, FrameSays, LineSays, LinesSay}
use Rattle.rules.specs.Frames.LinesSay.{none, more}
use Rattle.keeping.specs.Calls.{empty_good, booking_good, cancelling_good}
use Rattle.unique.specs.Hex.{digit_injective}
use Rattle.unique.specs.Line.{frame_or_not, no_kind}

-- the book is well formed on the map so far, and empty as long as the map is open
pub record Sound (s : State) : Type 0 where
  pub good : GoodBook (map_yard s.map) s.book
  pub empty : s.closed ≡ false → s.book ≡ book_of [] 1

pub begins_sound : Sound begins
begins_sound = record { good = empty_good (map_yard begins.map); empty = λ _. refl }

-- what a line says, by its kind
module _ {s s' : State} {line said : List ℕ} {X : Type 0} (other : Said s (line_of (12 ∷ [])) s' said → X)
    (place : (bytes : List ℕ) → PlaceFrame s bytes s' said → X) (link : (bytes : List ℕ) → LinkFrame s bytes s' said → X)
    (plan : (bytes : List ℕ) → PlanFrame s bytes s' said → X) (book : (bytes : List ℕ) → BookFrame s bytes s' said → X)
    (cancel : (bytes : List ℕ) → CancelFrame s bytes s' said → X) (page : (bytes : List ℕ) → PageFrame s bytes s' said → X) where
  framed : (bytes : List ℕ) → Frame line bytes → FrameSays s bytes s' said → X
  framed bytes F p =
      kind 1 (λ e. place bytes (p.place e)) (λ a.
      kind 2 (λ e. link bytes (p.link e)) (λ b.
      kind 3 (λ e. plan bytes (p.plan e)) (λ c.
      kind 4 (λ e. book bytes (p.book e)) (λ d.
      kind 5 (λ e. cancel bytes (p.cancel e)) (λ f.
      kind 6 (λ e. page bytes (p.page e)) (λ g. let z = no_kind (byte_at bytes 0) a b c d f g in absurd (omega (arith, F.some, F.shaped))))))))
    where
      kind : (k : ℕ) → (byte_at bytes 0 ≡ k → X) → ((byte_at bytes 0 ≡ k → ⊥) → X) → X
      kind k f g = ⊎_elim f g (eq_or_ne (byte_at bytes 0) k)

  pub by_kind : LineSays s line s' said → X
  by_kind p = ⊎_elim (λ f. framed f.0 f.1 (p.framed f.0 f.1)) (λ f. other (p.other f)) (frame_or_not line)

module _ {s s' : State} {said : List ℕ} (S : Sound s) where
  same : {out : List ℕ} → Said s out s' said → Sound s'
  same x = subst Sound (sym x.next) S

  -- the map grows while the book is empty
  grows : {m : Map} {out : List ℕ} → s.closed ≡ false → Said (record { map = m; book = s.book; closed = false }) out s' said → Sound s'
  grows {m} c x = subst Sound (sym x.next) (record { good = subst (GoodBook (map_yard m)) (sym (S.empty c)) (empty_good (map_yard m)); empty = λ _. S.empty c })

  closes : {b : Book} {out : List ℕ} → GoodBook (map_yard s.map) b → Said (closed_state s b) out s' said → Sound s'
  closes {b} g x = subst Sound (sym x.next) (record { good = g; empty = λ e. absurd (not_both refl e) })

  pub line_sound : {line : List ℕ} → LineSays s line s' said → Sound s'
  line_sound =
      by_kind same
      (λ _. unless same (λ c x. grows c.0 x))
      (λ _. unless same (λ c x. grows c.0 x))
      (λ _ p. closes S.good p.said_so)
      (λ _ p. closes (booking_good p.is S.good) p.said_so)
      (λ _ p. closes (cancelling_good p.is S.good) p.said_so)
      (λ _ p. closes S.good p.said_so)

pub lines_sound : {s s' : State} {lines : List (List ℕ)} {said : List ℕ} → LinesSay s lines s' said → Sound s → Sound s'
lines_sound none S = S
lines_sound (more p r) S = lines_sound r (line_sound S p)

-- ---- no number of a bad book ever comes

-- 2, and 13 to 16
abbrev pub of_book : ℕ → Bool
of_book n = eqb n 2 || (leb 13 n && leb n 16)

module _ {k : ℕ} (bad : of_book k ≡ true) where
  other : {n j : ℕ} → n ≡ k → n ≡ j → of_book j ≡ false → ⊥
  other e c good = not_both bad (ap of_book (sym e ∙ c) ∙ good)

  module _ {m : Map} {b : Book} (B : GoodBook (map_yard m) b) where
    plan_other : {start dest s : ℕ} {was out : List ℕ} {r : Planned} → PlanIs m b start dest s was out r → answer_number r ≡ k → ⊥
    plan_other P e =
        checked_good B (λ x. other e x.code refl) (λ M. unless (λ x. other e x.code refl) (λ on. unless (λ x. other e x.code refl)
        (λ d. unless (λ x. other e x.code refl) (λ some c. unless (λ x. other e x.code refl) (λ fits x. other e x.code refl) c.2)))) P

    book_other : {start dest s : ℕ} {r : Booking} → BookIs m b start dest s r → answer_number r.answer ≡ k → ⊥
    book_other P e =
        checked_good B (λ x. other e x.code refl) (λ M. unless (λ x. other e x.code refl) (λ on. unless (λ x. other e x.code refl)
        (λ d. unless (λ x. other e x.code refl) (λ t. unless (λ x. other e x.code refl)
        (λ some c. unless (λ x. other e x.code refl) (λ fits x. other e x.code refl) c.2))))) P

    cancel_other : {ticket : ℕ} {r : Cancelling} → CancelIs m b ticket r → answer_number r.answer ≡ k → ⊥
    cancel_other P e = checked_good B (λ x. other e x.code refl) (λ M. unless (λ x. other e x.code refl) (λ known x. other e x.code refl)) P

    page_other : {size : ℕ} {c : Key} {was out : List ℕ} {r : Paged} → PageIs m b size c was out r → answer_number r ≡ k → ⊥
    page_other P e =
        checked_good B (λ x. other e x.code refl) (λ M. unless (λ x. other e x.code refl) (λ sized. unless (λ x. other e x.code refl)
        (λ fits. unless (λ x. other e x.code refl) (λ room x. other e x.code refl)))) P

-- the first two digits of an answer are its number's
number_digits : (n : ℕ) (answer rest : List ℕ)
    → (get_or (line_of (after00 n answer) ++ rest) 0 0 ≡ digit (n / 16)) × (get_or (line_of (after00 n answer) ++ rest) 1 0 ≡ digit (n % 16))
unfolding hex_of
number_digits zero answer rest = (refl, refl)
number_digits (suc n) answer rest = (refl, refl)

printed : {s s' : State} {said : List ℕ} (n k : ℕ) (answer rest : List ℕ) → Said s (line_of (after00 n answer) ++ rest) s' said → said ≡ line_of (k ∷ []) → n ≡ k
unfolding hex_of
printed n k answer rest x e =
    let d = number_digits n answer rest in
    let u = digit_injective (n / 16) (k / 16) (sym d.0 ∙ ap (λ (l : List ℕ). get_or l 0 0) (sym x.prints ∙ e)) in
    let v = digit_injective (n % 16) (k % 16) (sym d.1 ∙ ap (λ (l : List ℕ). get_or l 1 0) (sym x.prints ∙ e)) in
    omega arith

printed_line : {s s' : State} {said : List ℕ} (n k : ℕ) (answer : List ℕ) → Said s (line_of (after00 n answer)) s' said → said ≡ line_of (k ∷ []) → n ≡ k
printed_line n k answer x = printed n k answer [] (record { next = x.next; prints = x.prints ∙ sym (append-nil (line_of (after00 n answer))) })

pub never_of_book : {s s' : State} {line said : List ℕ} → Sound s → LineSays s line s' said → (k : ℕ) → of_book k ≡ true → said ≡ line_of (k ∷ []) → ⊥
never_of_book {s} {s'} {line} {said} S p k bad e =
    by_kind {X = ⊥}
    twelve
    (λ _. unless twelve (λ c x. nought x))
    (λ _. unless twelve (λ c x. nought x))
    (λ _ p. plan_other bad S.good p.is (printed (answer_number p.answer) k _ _ p.said_so e))
    (λ _ p. book_other bad S.good p.is (printed_line (answer_number p.answer.answer) k _ p.said_so e))
    (λ _ p. cancel_other bad S.good p.is (printed_line (answer_number p.answer.answer) k _ p.said_so e))
    (λ _ p. page_other bad S.good p.is (printed (answer_number p.answer) k _ _ p.said_so e))
    p
  where
    twelve : {t : State} → Said t (line_of (12 ∷ [])) s' said → ⊥
    twelve x = other bad (printed_line 12 k [] x e) refl refl

    nought : {t : State} → Said t (line_of (0 ∷ [])) s' said → ⊥
    nought x = other bad (printed_line 0 k [] x e) refl refl
