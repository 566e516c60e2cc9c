-- What a map that keeps the rules gives to planning.
use Rattle.std.specs.Prelude.{ℕ, suc, ◌≤◌, ◌<◌, ◌≡◌, ◌⊎◌, true, false, ◌&&◌, List, [], ◌∷◌, length, eqb}
use Rattle.std.proofs.Common.{sym, ap, ◌∙◌, inl, inr, ⊎_elim, arith, eqb-true}
use Rattle.std.proofs.Math.ListN.{get_or-eq_default}
use Rattle.laws.specs.Order.{lt_or_ge}
use Rattle.laws.specs.Tests.{true_or_false, and_l, and_r, or_out}
use Rattle.rules.specs.declared.Place.{Place}
use Rattle.rules.specs.declared.Link.{Link}
use Rattle.rules.specs.Map.{Yard, yard_of, MapRules, no_place, place_at, link_at, linked}

pub record YardRules (Y : Yard) : Type 0 where
  pub long : (p : ℕ) → 0 < Y.dur p
  pub off : (p : ℕ) → Y.places ≤ p → Y.cap p ≡ 0
  pub from_on : (p q : ℕ) → Y.link p q ≡ true → p < Y.places
  pub to_on : (p q : ℕ) → Y.link p q ≡ true → q < Y.places
  pub no_loop : (p : ℕ) → Y.link p p ≡ false

-- a link from p to q stands at an index
pub record LinkAt (ls : List Link) (p q : ℕ) : Type 0 where
  pub at : ℕ
  pub within : at < length ls
  pub from : (link_at ls at).from ≡ p
  pub to : (link_at ls at).to ≡ q

pub linked_at : (ls : List Link) (p q : ℕ) → linked ls p q ≡ true → LinkAt ls p q
unfolding linked
linked_at [] p q h = let z : ◌≡◌ {A = ℕ} 0 1 = cc in absurd (omega arith)
linked_at (l ∷ ls) p q h = by (or_out (eqb l.from p && eqb l.to q) (linked ls p q) h) (λ k. linked_at ls p q k)
  where
    by : ((eqb l.from p && eqb l.to q) ≡ true) ⊎ (linked ls p q ≡ true) → (linked ls p q ≡ true → LinkAt ls p q) → LinkAt (l ∷ ls) p q
    by (inl t) r = record {
      at = 0;
      within = omega arith;
      from = eqb-true l.from p (and_l (eqb l.from p) (eqb l.to q) t);
      to = eqb-true l.to q (and_r (eqb l.from p) (eqb l.to q) t);
    }
    by (inr t) r = let x = r t in record { at = suc x.at; within = omega (arith, x.within); from = x.from; to = x.to }

module _ {ps : List Place} {ls : List Link} (M : MapRules ps ls) where
  dur_pos : (p : ℕ) → 0 < (place_at ps p).duration
  dur_pos p =
      ⊎_elim (λ (h : p < length ps). M.dur_from p h)
      (λ (h : length ps ≤ p). let e = ap (λ (x : Place). x.duration) (get_or-eq_default ps no_place {n = p} h) in omega arith)
      (lt_or_ge p (length ps))

  pub yard_rules : YardRules (yard_of ps ls)
  yard_rules = record {
    long = dur_pos;
    off = λ p h. ap (λ (x : Place). x.capacity) (get_or-eq_default ps no_place {n = p} h);
    from_on = λ p q h. let x = linked_at ls p q h in omega (arith, x.from, M.from_on x.at x.within);
    to_on = λ p q h. let x = linked_at ls p q h in omega (arith, x.to, M.to_on x.at x.within);
    no_loop = λ p. ⊎_elim (λ h. let x = linked_at ls p p h in absurd (M.apart x.at x.within (x.from ∙ sym x.to))) (λ h. h) (true_or_false (linked ls p p));
  }
