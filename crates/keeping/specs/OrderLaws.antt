-- Laws of the keys' order: it is transitive, no key is below itself, of two keys one is below the other or they are the same,
-- and the test `lessb` says exactly whether one is below the other.
use Rattle.std.specs.Prelude.{◌≡◌, ◌⊎◌, true, false, ◌<◌, ◌≤◌, ltb}
use Rattle.std.proofs.Common.{sym, ◌∙◌, inl, inr, true≢false, le_antisymm, arith}
use borrow.Author.Tests.{lt-ltb, le-ltb}
use Rattle.laws.specs.Order.{lt_or_ge}
use Rattle.rules.specs.Rows.{Key, Less, lessb}
use Rattle.rules.specs.Rows.Less.{by_place, by_entry, by_ticket}

pub less_trans : {a b c : Key} → Less a b → Less b c → Less a c
less_trans (by_place h) (by_place k) = by_place (omega arith)
less_trans (by_place h) (by_entry p k) = by_place (omega arith)
less_trans (by_place h) (by_ticket p e k) = by_place (omega arith)
less_trans (by_entry q h) (by_place k) = by_place (omega arith)
less_trans (by_entry q h) (by_entry p k) = by_entry (omega arith) (omega arith)
less_trans (by_entry q h) (by_ticket p e k) = by_entry (omega arith) (omega arith)
less_trans (by_ticket q f h) (by_place k) = by_place (omega arith)
less_trans (by_ticket q f h) (by_entry p k) = by_entry (omega arith) (omega arith)
less_trans (by_ticket q f h) (by_ticket p e k) = by_ticket (omega arith) (omega arith) (omega arith)

pub less_irrefl : {a : Key} → Less a a → ⊥
less_irrefl (by_place h) = omega arith
less_irrefl (by_entry p h) = omega arith
less_irrefl (by_ticket p e h) = omega arith

-- what each way through the test says
module _ (a b : Key) where
  at_place : a.place < b.place → lessb a b ≡ true
  unfolding lessb
  at_place h = rw (lt-ltb a.place b.place h)

  past_place : b.place < a.place → lessb a b ≡ false
  unfolding lessb
  past_place h = rw (le-ltb a.place b.place (omega arith), lt-ltb b.place a.place h)

  module _ (p : b.place ≤ a.place) (q : a.place ≤ b.place) where
    at_entry : a.entry < b.entry → lessb a b ≡ true
    unfolding lessb
    at_entry h = rw (le-ltb a.place b.place p, le-ltb b.place a.place q, lt-ltb a.entry b.entry h)

    past_entry : b.entry < a.entry → lessb a b ≡ false
    unfolding lessb
    past_entry h =
        rw (le-ltb a.place b.place p, le-ltb b.place a.place q, le-ltb a.entry b.entry (omega arith), lt-ltb b.entry a.entry h)

    at_ticket : b.entry ≤ a.entry → a.entry ≤ b.entry → lessb a b ≡ ltb a.ticket b.ticket
    unfolding lessb
    at_ticket h k =
        rw (le-ltb a.place b.place p, le-ltb b.place a.place q, le-ltb a.entry b.entry h, le-ltb b.entry a.entry k)

pub less_lessb : {a b : Key} → Less a b → lessb a b ≡ true
less_lessb {a} {b} (by_place h) = at_place a b h
less_lessb {a} {b} (by_entry p h) = at_entry a b (omega arith) (omega arith) h
less_lessb {a} {b} (by_ticket p e h) = at_ticket a b (omega arith) (omega arith) (omega arith) (omega arith) ∙ lt-ltb _ _ h

-- of two keys one is less, or they are the same
pub data Three (a b : Key) : Type 0 where
  less : Less a b → Three a b
  same : a ≡ b → Three a b
  more : Less b a → Three a b

pub key_eq : (a b : Key) → a.place ≡ b.place → a.entry ≡ b.entry → a.ticket ≡ b.ticket → a ≡ b
key_eq a b p e t = λ i. record { place = p i; entry = e i; ticket = t i }

pub three : (a b : Key) → Three a b
three a b =
    go (lt_or_ge a.place b.place) (lt_or_ge b.place a.place) (lt_or_ge a.entry b.entry) (lt_or_ge b.entry a.entry)
    (lt_or_ge a.ticket b.ticket) (lt_or_ge b.ticket a.ticket)
  where
    go : (a.place < b.place) ⊎ (b.place ≤ a.place)
        → (b.place < a.place) ⊎ (a.place ≤ b.place)
        → (a.entry < b.entry) ⊎ (b.entry ≤ a.entry)
        → (b.entry < a.entry) ⊎ (a.entry ≤ b.entry)
        → (a.ticket < b.ticket) ⊎ (b.ticket ≤ a.ticket)
        → (b.ticket < a.ticket) ⊎ (a.ticket ≤ b.ticket)
        → Three a b
    go (inl h) q r s t u = less (by_place h)
    go (inr h) (inl k) r s t u = more (by_place k)
    go (inr h) (inr k) (inl r) s t u = less (by_entry (le_antisymm k h) r)
    go (inr h) (inr k) (inr r) (inl s) t u = more (by_entry (le_antisymm h k) s)
    go (inr h) (inr k) (inr r) (inr s) (inl t) u = less (by_ticket (le_antisymm k h) (le_antisymm s r) t)
    go (inr h) (inr k) (inr r) (inr s) (inr t) (inl u) = more (by_ticket (le_antisymm h k) (le_antisymm r s) u)
    go (inr h) (inr k) (inr r) (inr s) (inr t) (inr u) = same (key_eq a b (le_antisymm k h) (le_antisymm s r) (le_antisymm u t))

-- a key that is not below another tests false
pub more_lessb : {a b : Key} → Less b a → lessb a b ≡ false
more_lessb {a} {b} (by_place h) = past_place a b h
more_lessb {a} {b} (by_entry p h) = past_entry a b (omega arith) (omega arith) h
more_lessb {a} {b} (by_ticket p e h) = at_ticket a b (omega arith) (omega arith) (omega arith) (omega arith) ∙ le-ltb a.ticket b.ticket (omega arith)

pub same_lessb : (a b : Key) → a ≡ b → lessb a b ≡ false
same_lessb a b e = rw (← e) (at_ticket a a (omega arith) (omega arith) (omega arith) (omega arith) ∙ le-ltb a.ticket a.ticket (omega arith))

pub lessb_less : (a b : Key) → lessb a b ≡ true → Less a b
lessb_less a b h = go (three a b)
  where
    go : Three a b → Less a b
    go (less l) = l
    go (same e) = absurd (true≢false (sym h ∙ same_lessb a b e))
    go (more l) = absurd (true≢false (sym h ∙ more_lessb l))

pub not_less : (a b : Key) → lessb a b ≡ false → Less a b → ⊥
not_less a b h l = true≢false (sym (less_lessb l) ∙ h)
