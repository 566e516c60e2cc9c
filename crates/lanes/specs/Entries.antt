-- The labels of a search as earliest entries: what it knows of its nodes, it knows of the windows.
use Rattle.std.specs.Prelude.{ℕ, suc, ◌≤◌, ◌<◌, ◌≡◌, ◌⊎◌, List}
use Rattle.std.proofs.Common.{inl, inr, ⊎_elim, arith}
use Rattle.laws.specs.Order.{lt_or_ge}
use Rattle.rules.specs.declared.Row.{Row}
use Rattle.rules.specs.Limits.{day}
use Rattle.rules.specs.Map.{Yard}
use Rattle.rules.specs.Rows.{load}
use Rattle.rules.specs.Window.{Span, Enters, Earliest, Entries}
use Rattle.lanes.specs.Yards.{YardRules}
use Rattle.lanes.specs.Reach.{next, Enter}
use Rattle.lanes.specs.Nodes.{Windows, enter_node, first_soonest}
use Rattle.lanes.specs.Best.{enters_enter, soonest_earliest}
use Rattle.label.specs.Label.{Known}

module _ (Y : Yard) (B : List Row) (start s n : ℕ) (win : ℕ → Span) where
  pub known_entries : Windows Y B n win → YardRules Y → ((p u : ℕ) → p < Y.places → load B p u ≤ Y.cap p)
      → (src : ℕ) → src < n → Enter Y B start s (win src) s → (win src).place ≡ start
      → {label : ℕ → ℕ} {b : ℕ} → Known n (suc day) src s (λ i j e. next Y B (win i) (win j) e) label b → Entries Y B start s n win label b
  known_entries W R booked src src_in src_enter src_place {label} {b} K = record {
    earliest = λ i h l. soonest_earliest Y B start s R booked (first_soonest Y B start s n win W R.long src src_in src_enter src_place i (label i) h (K.first i h l));
    after = λ i t h l m.
        let a = enter_node Y B start s n win W R.long src src_in src_enter src_place t i h (enters_enter Y B start s m) in
        omega (arith, K.after i a.at h l a.node, a.no_later);
  }

  -- the earliest entries of the whole day: each window's label is its earliest entry, or it is the mark and no permitted plan's beginning enters the window
  pub entry_or_mark : {label : ℕ → ℕ} → Entries Y B start s n win label day → ((i : ℕ) → i < n → label i ≤ suc day)
      → (i : ℕ) → i < n → Earliest Y B start s (win i) (label i) ⊎ ((label i ≡ suc day) × ((t : ℕ) → Enters Y B start s (win i) t → ⊥))
  entry_or_mark {label} A marked i h =
      ⊎_elim (λ (c : day < label i). inr (omega (arith, marked i h), λ t m. omega (arith, A.after i t h c m, m.to, m.window.in_day)))
      (λ (c : label i ≤ day). inl (A.earliest i h c))
      (lt_or_ge day (label i))

  -- where nothing is entered, labels after b tell all entries up to b
  pub none_enters : {label : ℕ → ℕ} {b : ℕ} → ((i : ℕ) → i < n → b < label i) → ((i t : ℕ) → i < n → Enters Y B start s (win i) t → ⊥) → Entries Y B start s n win label b
  none_enters far none = record {
    earliest = λ i h l. absurd (omega (arith, far i h));
    after = λ i t h l m. absurd (none i t h m);
  }
