-- What a search stands on: a map that keeps the rules, its links by place, and all free windows of the book by place.
use Rattle.std.specs.Prelude.{ℕ, ◌+◌, ◌-◌, ◌≤◌, ◌<◌, ◌≡◌, refl, Bool, List, eqb}
use Rattle.std.proofs.Common.{sym, ap, subst, ◌∙◌, ⊎_elim, arith}
use Rattle.laws.specs.Order.{lt_or_ge}
use Rattle.laws.specs.Lists.{at}
use Rattle.rules.specs.declared.Row.{Row}
use Rattle.rules.specs.declared.Place.{Place}
use Rattle.rules.specs.declared.Link.{Link}
use Rattle.rules.specs.Map.{Yard, MapRules}
use Rattle.rules.specs.Window.{Window}
use Rattle.lanes.specs.Nodes.{Windows, mono, later}
use Rattle.flat.specs.declared.Yard.{Yard as Arrays}
use Rattle.flat.specs.declared.Ways.{Ways}
use Rattle.flat.specs.declared.Rows.{Rows}
use Rattle.flat.specs.declared.Windows.{Windows as WindowArrays}
use Rattle.flat.specs.Flat.{places_in, links_in, yard_in, Of, Chained, rows_in, span_at, Grouped, rows_held}
use Rattle.flat.specs.Laws.{places_long, place_in, links_long, link_in, yard_of}
use Rattle.flat.specs.Links.{group_end}
use Rattle.lookup.specs.Crossings.{Kept}
use Rattle.lookup.specs.Booked.{Booked, booked_kept}
use Rattle.settle.specs.Search.{Steps}
use Rattle.search.specs.Offers.{Row1}
use Rattle.search.specs.Relax.{Ground, Runs, next_by}

pub record Lanes (C D F T H N : List ℕ) (n k : ℕ) (rows : List Row) (c : ℕ) (P S E I : List ℕ) (m : ℕ) : Type 0 where
  pub rules : MapRules (places_in C D n) (links_in F T k)
  pub chained : Chained F k H N
  pub few_rows : c ≤ 1024
  pub booked : Booked rows
  pub windows : Windows (yard_in C D n F T k) rows m (span_at P S E)
  pub by_place : Grouped (at P) I n m
  pub few : m ≤ 1280

-- the same of what is lent together
abbrev pub LanesHeld : Arrays → Ways → Rows → WindowArrays → Type 0
LanesHeld y u r w = Lanes y.cap y.dur y.from y.to u.head u.chain y.places y.links (rows_held r) r.count w.place w.start w.end w.first w.count

-- window v is one of the destination
abbrev pub is_at_dest : List ℕ → ℕ → ℕ → Bool
is_at_dest P dest v = eqb (at P v) dest

module _ {C D F T H N : List ℕ} {n k : ℕ} {rows : List Row} {c : ℕ} {P S E I : List ℕ} {m : ℕ} (L : Lanes C D F T H N n k rows c P S E I m) where
  abbrev Y : Yard
  Y = yard_in C D n F T k

  yard : Of Y C D n
  yard = yard_of C D F T n k L.rules

  is_at : (v : ℕ) → v < m → Window Y rows (at P v) (at S v) (at E v)
  is_at v h = L.windows.are v h

  -- the windows of one place stand apart
  apart : (i j : ℕ) → i < j → j < m → at P i ≡ at P j → at E i < at S j
  apart i j h k e =
      let s = L.windows.by_start i j h k e in
      let a = is_at i (omega arith) in
      let b = is_at j k in
      let f = ap Y.cap e in
      ⊎_elim (λ (c : at E i < at S j). c)
      (λ (c : at S j ≤ at E i).
      let x : ℕ = at S j - 1 in
      let g : at P j ≡ at P i = sym e in
      absurd (omega (arith, (subst (λ p. Window Y rows p (at S j) (at E j)) g b).left x (omega arith), a.free x (omega arith) (omega arith))))
      (lt_or_ge (at E i) (at S j))

  pub lanes_ground : Ground n k m D F T H N P S E I
  lanes_ground = record {
    places = omega (arith, L.rules.few, places_long C D n);
    links = omega (arith, L.rules.few_links, links_long F T k);
    windows = L.few;
    chained = L.chained;
    to_on = λ j h. let l = links_long F T k in omega (arith, L.rules.to_on j (omega arith), ap (λ (x : Link). x.to) (link_in F T k j h), places_long C D n);
    apart = λ j h e. let l = links_long F T k in let x = link_in F T k j h in L.rules.apart j (omega arith) (ap (λ (x : Link). x.from) x ∙ sym e ∙ sym (ap (λ (x : Link). x.to) x));
    durs = λ p h. omega (arith, L.rules.dur_to p (omega (arith, places_long C D n)), ap (λ (x : Place). x.duration) (place_in C D n p h));
    by_place = L.by_place;
    of_place = of_place;
    in_day = λ v h. (is_at v h).in_day;
  }
    where
      inside : (q v : ℕ) → q < n → v < at I (q + 1) → v < m
      inside q v h b = omega (arith, group_end L.by_place (q + 1) (omega arith))

      of_place : (q : ℕ) → q < n → Row1 S E (at I q) (at I (q + 1)) (at D q)
      of_place q h = record {
        long = λ v a b. let e = L.by_place.of q v h a b in omega (arith, (is_at v (inside q v h b)).long, ap Y.dur e, yard.durs q h);
        in_day = λ v a b. (is_at v (inside q v h b)).in_day;
        rise = λ i j a b x. apart i j b (inside q j h x) (L.by_place.of q i h a (omega arith) ∙ sym (L.by_place.of q j h (omega arith) x));
      }

  pub lanes_places : n ≤ 256
  lanes_places = lanes_ground.places

  pub lanes_runs : Runs Y n k D F T
  lanes_runs = record { durs = yard.durs; links = λ p q. refl }

  pub lanes_mono : (w v e e' : ℕ) → w < m → e ≤ e' → next_by Y rows P S E w v e ≤ next_by Y rows P S E w v e'
  lanes_mono = mono Y rows m (span_at P S E) L.windows

  pub lanes_later : (w v e : ℕ) → w < m → e < 86401 → e < next_by Y rows P S E w v e
  lanes_later = later Y rows m (span_at P S E) L.windows yard.long

  -- a search may begin in any window, at any second of the day
  pub lanes_steps : {src s : ℕ} → src < m → s < 86401 → Steps m (next_by Y rows P S E) src s
  lanes_steps h k = record { few = L.few; src_in = h; s_in = k; mono = lanes_mono; later = lanes_later }

-- crossings may be looked up in the arrays that hold the rows
pub lanes_kept : {C D F T H L : List ℕ} {n k : ℕ} {K X : List ℕ} {c : ℕ} {P S E I : List ℕ} {m : ℕ} → Lanes C D F T H L n k (rows_in K X c) c P S E I m → Kept K X c
lanes_kept {K = K} {X} {c} A = booked_kept K X c A.few_rows A.booked
