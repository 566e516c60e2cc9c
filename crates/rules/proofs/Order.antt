-- The derived order of cursors is the order of keys: place, entry and ticket are compared in that order.
use Prim.Native.Nat.{◌<◌, ◌≤◌}
use native.Mathlib.Omega.{arith}
use mathlib.Core.Path.{◌≡◌}
use Rattle.std.proofs.Common.{sym, ⊎_elim}
use Rattle.std.specs.Prelude.{ℕ}
use Rattle.std.specs.declared.cmp.Ordering.TheVariants.{Less, Equal, Greater}
use Rattle.std.specs.Ordering.{nat_cmp, partial_lt}
use Rattle.std.specs.Cmp.{nat_cmp_is}
use borrow.Author.Tests.{lt-ltb, le-ltb}
use Rattle.laws.specs.Order.{lt_or_ge}
use Rattle.rules.specs.declared.Cursor.{Cursor}
use Rattle.rules.specs.Rows.{cursor_key, lessb}
use Rattle.rules.specs.contracts.CursorPartialOrd.TheImpl.{partial_cmp-value}

-- three ways for two numbers
three : (x y : ℕ) {A : Type 0} → (x < y → A) → (x ≡ y → A) → (y < x → A) → A
three x y l e g = ⊎_elim l (λ (h : y ≤ x). ⊎_elim g (λ (k : x ≤ y). e (omega arith)) (lt_or_ge y x)) (lt_or_ge x y)

less : {x y : ℕ} → x < y → nat_cmp x y ≡ Less
less {x} {y} h = sym (nat_cmp_is x y Less h)

equal : {x y : ℕ} → x ≡ y → nat_cmp x y ≡ Equal
equal {x} {y} h = sym (nat_cmp_is x y Equal h)

greater : {x y : ℕ} → y < x → nat_cmp x y ≡ Greater
greater {x} {y} h = sym (nat_cmp_is x y Greater h)

module _ (a b : Cursor) where
  pub ordered : partial_lt partial_cmp-value.it a b ≡ lessb (cursor_key a) (cursor_key b)
  unfolding lessb
  ordered =
      three a.place b.place (λ h. rw (less h, lt-ltb a.place b.place h))
      (λ p. rw (equal p, le-ltb a.place b.place (omega arith), le-ltb b.place a.place (omega arith)) (
      three a.entry b.entry (λ h. rw (less h, lt-ltb a.entry b.entry h))
      (λ e. rw (equal e, le-ltb a.entry b.entry (omega arith), le-ltb b.entry a.entry (omega arith)) (
      three a.ticket b.ticket (λ h. rw (less h, lt-ltb a.ticket b.ticket h))
      (λ t. rw (equal t, le-ltb a.ticket b.ticket (omega arith)))
      (λ h. rw (greater h, le-ltb a.ticket b.ticket (omega arith)))))
      (λ h. rw (greater h, le-ltb a.entry b.entry (omega arith), lt-ltb b.entry a.entry h))))
      (λ h. rw (greater h, le-ltb a.place b.place (omega arith), lt-ltb b.place a.place h))
