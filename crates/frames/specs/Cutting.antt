-- Input cut into lines. What a run of input makes of a desk, and prints, is what its whole lines say one after the other; a run behind another goes on
-- from the line that the first leaves begun. So however the input is cut into reads, all of it together answers all its lines.
use Rattle.std.specs.Prelude.{ℕ, ◌+◌, ◌-◌, ◌*◌, ◌≤◌, ◌<◌, ◌≡◌, refl, Bool, true, false, List, [], ◌∷◌, ◌++◌, length, get_or, take, drop, eqb}
use Rattle.std.proofs.Common.{sym, ap, subst, ◌∙◌, ⊎_elim, append_assoc, append-nil, arith, add-one, length-append, length-drop, take-append-drop, take-suc, length-take-le, take-take, take_all, drop-drop, eq-eqb, ne_eqb}
use Rattle.std.proofs.Math.Seq.{slice, slice_empty, drop-length}
use Rattle.std.proofs.lemmas.List.{drop-append-le}
use borrow.Rule.Slice.PartMut.{put_mid}
use Rattle.laws.specs.Order.{lt_or_ge}
use Rattle.rules.specs.declared.State.{State}
use Rattle.rules.specs.Bytes.{answer_room}
use Rattle.rules.specs.Frames.{LineSays, LinesSay, whole_lines, begun_line, last_line, all_lines, begins}
use Rattle.rules.specs.Frames.LinesSay.{none, more}
use Rattle.unique.specs.Line.{no_second_lines}
use Rattle.rules.specs.declared.Line.{Line}
use Rattle.rules.specs.declared.Desk.{Desk}
use Rattle.frames.specs.declared.Cut.{Cut}
use Rattle.rules.specs.declared.Intake.{Intake}
use Rattle.rules.specs.declared.Told.{Told}
use Rattle.rules.specs.Program.{Ends, FedIs, Feeds, LineIs, Silent, Sitting, Spoken, Tells, empty_line, joined, line_after, pushed}
use Rattle.rules.specs.Program.Sitting.{done, reads}
use Rattle.frames.specs.Lines.{stands_for, empty_line_lem}
use Rattle.frames.specs.Put.{Put, put_none, put_more, put_front, put_rest}

-- ---- lines, cut one run after another

pub whole_append : (line a b : List ℕ) → whole_lines line (a ++ b) ≡ whole_lines line a ++ whole_lines (begun_line line a) b
unfolding whole_lines begun_line
whole_append line [] b = refl
whole_append line (c ∷ a) b = go (eqb c 10) (whole_append [] a b) (whole_append (line ++ (c ∷ [])) a b)
  where
    go : (t : Bool) → whole_lines [] (a ++ b) ≡ whole_lines [] a ++ whole_lines (begun_line [] a) b
        → whole_lines (line ++ (c ∷ [])) (a ++ b) ≡ whole_lines (line ++ (c ∷ [])) a ++ whole_lines (begun_line (line ++ (c ∷ [])) a) b
        → elim t [ true ↦ line ∷ whole_lines [] (a ++ b) | false ↦ whole_lines (line ++ (c ∷ [])) (a ++ b) ]
        ≡ elim t [ true ↦ line ∷ whole_lines [] a | false ↦ whole_lines (line ++ (c ∷ [])) a ]
        ++ whole_lines (elim t [ true ↦ begun_line [] a | false ↦ begun_line (line ++ (c ∷ [])) a ]) b
    go true p q = ap (λ (l : List (List ℕ)). line ∷ l) p
    go false p q = q

pub begun_append : (line a b : List ℕ) → begun_line line (a ++ b) ≡ begun_line (begun_line line a) b
unfolding begun_line
begun_append line [] b = refl
begun_append line (c ∷ a) b = go (eqb c 10) (begun_append [] a b) (begun_append (line ++ (c ∷ [])) a b)
  where
    go : (t : Bool) → begun_line [] (a ++ b) ≡ begun_line (begun_line [] a) b
        → begun_line (line ++ (c ∷ [])) (a ++ b) ≡ begun_line (begun_line (line ++ (c ∷ [])) a) b
        → elim t [ true ↦ begun_line [] (a ++ b) | false ↦ begun_line (line ++ (c ∷ [])) (a ++ b) ]
        ≡ begun_line (elim t [ true ↦ begun_line [] a | false ↦ begun_line (line ++ (c ∷ [])) a ]) b
    go true p q = p
    go false p q = q

-- one byte: a line feed ends the line, any other is its next
pub whole_feed : (line : List ℕ) (c : ℕ) → c ≡ 10 → whole_lines line (c ∷ []) ≡ line ∷ []
unfolding whole_lines
whole_feed line c e = rw (eq-eqb c 10 e, whole_lines)

pub begun_feed : (line : List ℕ) (c : ℕ) → c ≡ 10 → begun_line line (c ∷ []) ≡ []
unfolding begun_line
begun_feed line c e = rw (eq-eqb c 10 e, begun_line)

pub whole_next : (line : List ℕ) (c : ℕ) → (c ≡ 10 → ⊥) → whole_lines line (c ∷ []) ≡ []
unfolding whole_lines
whole_next line c f = rw (ne_eqb c 10 f, whole_lines)

pub begun_next : (line : List ℕ) (c : ℕ) → (c ≡ 10 → ⊥) → begun_line line (c ∷ []) ≡ line ++ (c ∷ [])
unfolding begun_line
begun_next line c f = rw (ne_eqb c 10 f, begun_line)

pub whole_none : (line : List ℕ) → whole_lines line [] ≡ []
unfolding whole_lines
whole_none line = refl

pub begun_none : (line : List ℕ) → begun_line line [] ≡ line
unfolding begun_line
begun_none line = refl

after_append : (l : Line) (a b : List ℕ) → line_after l (a ++ b) ≡ line_after (line_after l a) b
unfolding line_after
after_append l [] b = refl
after_append l (c ∷ a) b = go (eqb c 10) (after_append empty_line a b) (after_append (pushed l c) a b)
  where
    go : (t : Bool) → line_after empty_line (a ++ b) ≡ line_after (line_after empty_line a) b → line_after (pushed l c) (a ++ b) ≡ line_after (line_after (pushed l c) a) b
        → elim t [ true ↦ line_after empty_line (a ++ b) | false ↦ line_after (pushed l c) (a ++ b) ]
        ≡ line_after (elim t [ true ↦ line_after empty_line a | false ↦ line_after (pushed l c) a ]) b
    go true p q = p
    go false p q = q

after_feed : (l : Line) (c : ℕ) → c ≡ 10 → line_after l (c ∷ []) ≡ empty_line
unfolding line_after
after_feed l c e = rw (eq-eqb c 10 e, line_after)

after_next : (l : Line) (c : ℕ) → (c ≡ 10 → ⊥) → line_after l (c ∷ []) ≡ pushed l c
unfolding line_after
after_next l c f = rw (ne_eqb c 10 f, line_after)

after_none : (l : Line) → line_after l [] ≡ l
unfolding line_after
after_none l = refl

pub lines_append : {s s' s'' : State} {a b : List (List ℕ)} {x y : List ℕ} → LinesSay s a s' x → LinesSay s' b s'' y → LinesSay s (a ++ b) s'' (x ++ y)
lines_append none q = q
lines_append {s'' = s''} {b = b} {y = y} (more {s = s} {line = line} {said = said} {rest = rest} {lines = lines} p r) q =
    subst (LinesSay s (line ∷ (lines ++ b)) s'') (sym (append_assoc said rest y)) (more p (lines_append r q))

pub lines_one : {s s' : State} {line said : List ℕ} → LineSays s line s' said → LinesSay s (line ∷ []) s' said
lines_one {s} {s'} {line} {said} p = subst (LinesSay s (line ∷ []) s') (append-nil said) (more p none)

-- ---- a desk that takes a run of input

pub feeds_none : (d : Desk) → Feeds d [] d []
unfolding whole_lines begun_line
feeds_none d = record { says = λ line L. none; begun = λ line L. L; line = sym (after_none d.line) }

pub feeds_append : {d d' d'' : Desk} {a b x y : List ℕ} → Feeds d a d' x → Feeds d' b d'' y → Feeds d (a ++ b) d'' (x ++ y)
feeds_append {d} {d'} {d''} {a} {b} {x} {y} F G = record {
  says = λ line L. rw (whole_append line a b) (lines_append (F.says line L) (G.says (begun_line line a) (F.begun line L)));
  begun = λ line L. rw (begun_append line a b) (G.begun (begun_line line a) (F.begun line L));
  line = G.line ∙ ap (λ (l : Line). line_after l b) F.line ∙ sym (after_append d.line a b);
}

-- ---- one line: to its line feed, or to the end of the bytes

slice_snoc : (from i : ℕ) (buf : List ℕ) → from ≤ i → i < length buf → slice from (i + 1) buf ≡ slice from i buf ++ (get_or buf i 0 ∷ [])
slice_snoc from i buf h k =
    rw (add-one, take-suc buf i 0 k) (drop-append-le from (take i buf) (get_or buf i 0 ∷ []) (omega (arith, length-take-le i buf (omega arith))))

pub slice_join : (f i j : ℕ) (l : List ℕ) → f ≤ i → i ≤ j → j ≤ length l → slice f i l ++ slice i j l ≡ slice f j l
slice_join f i j l a b c =
    let t : List ℕ = take j l in
    let e : take i t ≡ take i l = take-take i j l b in
    let n : f ≤ length (take i t) = omega (arith, length-take-le i t (omega (arith, length-take-le j l c))) in
    sym (ap (drop f) (sym (take-append-drop i t)) ∙ drop-append-le f (take i t) (drop i t) n ∙ ap (λ (x : List ℕ). drop f x ++ drop i t) e)

-- the bytes so far end no line
pub record Going (l : Line) (buf : List ℕ) (from i : ℕ) (m : Line) : Type 0 where
  pub after : from ≤ i
  pub within : i ≤ length buf
  pub whole : (line : List ℕ) → LineIs line l → whole_lines line (slice from i buf) ≡ []
  pub begun : (line : List ℕ) → LineIs line l → LineIs (begun_line line (slice from i buf)) m
  pub line : m ≡ line_after l (slice from i buf)

pub going_start : (l : Line) (buf : List ℕ) (from : ℕ) → from ≤ length buf → Going l buf from from l
going_start l buf from h = record {
  after = omega arith;
  within = h;
  whole = λ line L. rw (slice_empty from buf) (whole_none line);
  begun = λ line L. rw (slice_empty from buf, begun_none line) L;
  line = rw (slice_empty from buf, after_none l);
}

pub going_next : {l m m' : Line} {buf : List ℕ} {from i : ℕ} → Going l buf from i m → i < length buf → (get_or buf i 0 ≡ 10 → ⊥)
    → (m' ≡ pushed m (get_or buf i 0)) × ((line : List ℕ) → LineIs line m → LineIs (line ++ (get_or buf i 0 ∷ [])) m') → Going l buf from (i + 1) m'
going_next {l} {m} {m'} {buf} {from} {i} G h f p = record {
  after = omega (arith, G.after);
  within = omega arith;
  whole = λ line L. rw (slice_snoc from i buf G.after h, whole_append line (slice from i buf) (get_or buf i 0 ∷ []), G.whole line L) (whole_next (begun_line line (slice from i buf)) (get_or buf i 0) f);
  begun = λ line L. rw (slice_snoc from i buf G.after h, begun_append line (slice from i buf) (get_or buf i 0 ∷ []), begun_next (begun_line line (slice from i buf)) (get_or buf i 0) f) (p.1 (begun_line line (slice from i buf)) (G.begun line L));
  line =
      p.0
      ∙ ap (λ (x : Line). pushed x (get_or buf i 0)) G.line
      ∙ sym (after_next (line_after l (slice from i buf)) (get_or buf i 0) f)
      ∙ sym (after_append l (slice from i buf) (get_or buf i 0 ∷ []))
      ∙ ap (line_after l) (sym (slice_snoc from i buf G.after h));
}

first_none : (a b : List (List ℕ)) → a ++ b ≡ [] → a ≡ []
first_none [] b e = refl
first_none (x ∷ a) b e = let z : length (x ∷ (a ++ b)) ≡ 0 = ap length e in absurd (omega arith)

-- nor did the bytes before
going_before : {l m : Line} {buf : List ℕ} {from i : ℕ} → Going l buf from i m → (j : ℕ) → from ≤ j → j ≤ i → (line : List ℕ) → LineIs line l → whole_lines line (slice from j buf) ≡ []
going_before {buf = buf} {from = from} {i = i} G j a b line L =
    let e = slice_join from j i buf a b G.within in
    first_none (whole_lines line (slice from j buf)) _ (sym (whole_append line (slice from j buf) (slice j i buf)) ∙ ap (whole_lines line) e ∙ G.whole line L)

pub record CutIs (l : Line) (buf : List ℕ) (from : ℕ) (r : Cut) : Type 0 where
  pub after : from ≤ r.upto
  pub within : r.upto ≤ length buf
  pub moves : from < length buf → from < r.upto
  -- no line is ended before the last byte taken
  pub before : (j : ℕ) → from ≤ j → j < r.upto → (line : List ℕ) → LineIs line l → whole_lines line (slice from j buf) ≡ []
  -- no line is ended: all bytes are taken
  pub all : r.ended ≡ false → r.upto ≡ length buf
  pub going : r.ended ≡ false → Going l buf from (length buf) r.line
  -- one line is ended, and none begun after it
  pub ended : r.ended ≡ true → (line : List ℕ) → LineIs line l
      → (w : List ℕ) × (whole_lines line (slice from r.upto buf) ≡ w ∷ []) × (begun_line line (slice from r.upto buf) ≡ []) × LineIs w r.line
  pub fresh : r.ended ≡ true → line_after l (slice from r.upto buf) ≡ empty_line

pub cut_ended : {l m : Line} {buf : List ℕ} {from i : ℕ} → Going l buf from i m → i < length buf → get_or buf i 0 ≡ 10
    → CutIs l buf from (record { line = m; upto = i + 1; ended = true })
cut_ended {l} {m} {buf} {from} {i} G h e = record {
  after = omega (arith, G.after);
  within = omega arith;
  moves = λ k. omega (arith, G.after);
  before = λ j a b. going_before G j a (omega arith);
  all = λ k. let z : ◌≡◌ {A = ℕ} 0 1 = cc in absurd (omega arith);
  going = λ k. let z : ◌≡◌ {A = ℕ} 0 1 = cc in absurd (omega arith);
  ended = λ k line L.
      let s = slice_snoc from i buf G.after h in
      let w : List ℕ = begun_line line (slice from i buf) in (
        w,
        rw (s, whole_append line (slice from i buf) (get_or buf i 0 ∷ []), G.whole line L) (whole_feed w (get_or buf i 0) e),
        rw (s, begun_append line (slice from i buf) (get_or buf i 0 ∷ [])) (begun_feed w (get_or buf i 0) e),
        G.begun line L,
      );
  fresh = λ k.
      rw (slice_snoc from i buf G.after h, after_append l (slice from i buf) (get_or buf i 0 ∷ [])) (after_feed (line_after l (slice from i buf)) (get_or buf i 0) e);
}

pub cut_going : {l m : Line} {buf : List ℕ} {from i : ℕ} → Going l buf from i m → i ≡ length buf → CutIs l buf from (record { line = m; upto = i; ended = false })
cut_going {l} {m} {buf} {from} {i} G e = record {
  after = G.after;
  within = G.within;
  moves = λ k. omega arith;
  before = λ j a b. going_before G j a (omega arith);
  all = λ k. e;
  going = λ k. rw e at G;
  ended = λ k. let z : ◌≡◌ {A = ℕ} 0 1 = cc in absurd (omega arith);
  fresh = λ k. let z : ◌≡◌ {A = ℕ} 0 1 = cc in absurd (omega arith);
}

-- ---- one step: the line that is begun, taken as far as the bytes reach, and answered where they end it

pub record Stepped (d : Desk) (buf : List ℕ) (from at : ℕ) (was out : List ℕ) (r : Intake) : Type 0 where
  pub said : List ℕ
  pub feeds : Feeds d (slice from r.upto buf) r.desk said
  pub put : Put said at was out
  pub count : r.len ≡ at + length said
  pub short : length said ≤ answer_room
  pub after : from ≤ r.upto
  pub within : r.upto ≤ length buf
  pub moves : from < length buf → from < r.upto
  pub before : (j : ℕ) → from ≤ j → j < r.upto → (line : List ℕ) → LineIs line d.line → whole_lines line (slice from j buf) ≡ []

pub step_going : (d : Desk) (buf : List ℕ) (from at : ℕ) (was : List ℕ) {c : Cut} → CutIs d.line buf from c → c.ended ≡ false
    → Stepped d buf from at was was (record { desk = record { state = d.state; line = c.line }; upto = c.upto; len = at })
step_going d buf from at was {c} C e =
    let G = C.going e in
    let u : c.upto ≡ length buf = C.all e in
    record {
      said = [];
      feeds = record {
        says = λ line L. rw (u, G.whole line L) none;
        begun = λ line L. rw u (G.begun line L);
        line = rw u G.line;
      };
      put = put_none was at;
      count = omega arith;
      short = omega arith;
      after = C.after;
      within = C.within;
      moves = C.moves;
      before = C.before;
    }

-- the answer put over the part of the list that begins at an index
part_put : (was p said : List ℕ) (at n : ℕ) → at + answer_room ≤ length was → n ≤ answer_room → length p ≡ length was - at → said ≡ take n p
    → drop n p ≡ drop n (take (length was - at) (drop at was)) → length said ≡ n
    → put_mid at (length was - at) was p ≡ take at was ++ (said ++ drop (at + length said) was)
part_put was p said at n h k l e r m =
    let w : List ℕ = drop at was in
    let long : length was - at ≡ length w = sym (length-drop at was) in
    let whole : take (length was - at) w ≡ w = take_all (length was - at) w (omega arith) in
    let gone : drop (length was - at) w ≡ [] = ap (λ (j : ℕ). drop j w) long ∙ drop-length w in
    let split : p ≡ said ++ drop n p = sym (take-append-drop n p) ∙ ap (λ (x : List ℕ). x ++ drop n p) (sym e) in
    let rest : drop n p ≡ drop (at + length said) was = r ∙ ap (drop n) whole ∙ drop-drop n at was ∙ ap (λ (j : ℕ). drop (at + j) was) (sym m) in
    ap (λ (x : List ℕ). take at was ++ (p ++ x)) gone
    ∙ ap (λ (x : List ℕ). take at was ++ x) (append-nil p ∙ split ∙ ap (λ (x : List ℕ). said ++ x) rest)

pub step_answered : (d : Desk) (buf : List ℕ) (from at : ℕ) (was p : List ℕ) {c : Cut} {t : Told} {l : Line} → CutIs d.line buf from c → c.ended ≡ true
    → at + answer_room ≤ length was → Spoken (Tells d.state c.line) (take (length was - at) (drop at was)) p t → l ≡ empty_line
    → length (put_mid at (length was - at) was p) ≡ length was
    → Stepped d buf from at was (put_mid at (length was - at) was p) (record { desk = record { state = t.state; line = l }; upto = c.upto; len = at + t.len })
step_answered d buf from at was p {c} {t} {l} C e h S L n =
    let a : length p ≡ length was - at = S.long ∙ length-take-le (length was - at) (drop at was) (omega (arith, length-drop at was)) in
    let b : length (take t.len p) ≡ t.len = length-take-le t.len p (omega (arith, S.fits)) in
    record {
      said = take t.len p;
      feeds = record {
        says = λ line M. let x = C.ended e line M in rw x.1 (lines_one (S.says x.0 x.3));
        begun = λ line M. let x = C.ended e line M in rw (x.2, L) empty_line_lem;
        line = L ∙ sym (C.fresh e);
      };
      put = record { over = part_put was p (take t.len p) at t.len h S.fits a refl S.kept b; long = n };
      count = omega arith;
      short = omega (arith, S.fits);
      after = C.after;
      within = C.within;
      moves = C.moves;
      before = C.before;
    }

-- ---- as many lines as there is room for

pub record Feeding (d : Desk) (buf : List ℕ) (from : ℕ) (was : List ℕ) (e : Desk) (i at : ℕ) (out : List ℕ) : Type 0 where
  pub said : List ℕ
  pub feeds : Feeds d (slice from i buf) e said
  pub put : Put said 0 was out
  pub count : at ≡ length said
  pub fits : at ≤ length was
  pub after : from ≤ i
  pub within : from ≤ length buf → i ≤ length buf
  -- before the first step nothing is said, and a step needs bytes and room
  pub still : i ≡ from → (e ≡ d) × (at ≡ 0)
  pub went : from < i → (answer_room ≤ length was) × (from < length buf)
  -- a step takes a byte or more
  pub few : at ≤ answer_room * (i - from)
  -- each byte so far was taken where there was room
  pub room : (j : ℕ) → from ≤ j → j < i → (f : Desk) (others : List ℕ) → Feeds d (slice from j buf) f others → length others + answer_room ≤ length was

pub feeding_start : (d : Desk) (buf : List ℕ) (from : ℕ) (was : List ℕ) → Feeding d buf from was d from 0 was
feeding_start d buf from was = record {
  said = [];
  feeds = rw (slice_empty from buf) (feeds_none d);
  put = put_none was 0;
  count = refl;
  fits = omega arith;
  after = omega arith;
  within = λ h. h;
  still = λ _. (refl, refl);
  went = λ h. absurd (omega arith);
  few = omega arith;
  room = λ j a b. absurd (omega arith);
}

pub feeding_next : {d e : Desk} {buf was mid out : List ℕ} {from i at : ℕ} {r : Intake} → Feeding d buf from was e i at mid → i < length buf → at + answer_room ≤ length was
    → Stepped e buf i at mid out r → Feeding d buf from was r.desk r.upto r.len out
feeding_next {d} {e} {buf} {was} {mid} {out} {from} {i} {at} {r} F h free S =
    let j = slice_join from i r.upto buf F.after S.after S.within in
    let z : 0 + length F.said ≡ at = omega (arith, F.count) in
    let m = S.moves h in
    let c = S.count in
    let k = F.count in
    record {
      said = F.said ++ S.said;
      feeds = rw j at (feeds_append F.feeds S.feeds);
      put = put_more (omega (arith, F.fits)) F.put (rw z S.put);
      count = omega (arith, length-append F.said S.said);
      fits = omega (arith, S.short);
      after = omega (arith, F.after);
      within = λ _. S.within;
      still = λ g. absurd (omega (arith, F.after));
      went = λ _. (omega arith, omega (arith, F.after));
      few = omega (arith, F.few, F.after, S.short);
      room = λ j a b f others G. ⊎_elim (λ (g : j < i). F.room j a g f others G) (λ (g : i ≤ j). here j g b G) (lt_or_ge j i);
    }
  where
    -- up to the last byte taken the step ends no line
    none_more : (line : List ℕ) → LineIs line d.line → (j : ℕ) → i ≤ j → j < r.upto → whole_lines line (slice from j buf) ≡ whole_lines line (slice from i buf)
    none_more line L j g b =
        ap (whole_lines line) (sym (slice_join from i j buf F.after g (omega (arith, S.within))))
        ∙ whole_append line (slice from i buf) (slice i j buf)
        ∙ ap (λ (l : List (List ℕ)). whole_lines line (slice from i buf) ++ l) (S.before j g b (begun_line line (slice from i buf)) (F.feeds.begun line L))
        ∙ append-nil (whole_lines line (slice from i buf))

    -- so there the answers are those from before the step
    here : (j : ℕ) → i ≤ j → j < r.upto → {f : Desk} {others : List ℕ} → Feeds d (slice from j buf) f others → length others + answer_room ≤ length was
    here j g b {f} {others} G =
        let x = stands_for d.line in
        let y : LinesSay d.state (whole_lines x.0 (slice from i buf)) f.state others = rw (none_more x.0 x.1 j g b) at (G.says x.0 x.1) in
        let n = ap length (no_second_lines (F.feeds.says x.0 x.1) y).1 in
        omega (arith, F.count)

pub fed_is : {d e : Desk} {buf was out : List ℕ} {from i at : ℕ} → Feeding d buf from was e i at out → (i < length buf → length was < at + answer_room)
    → FedIs d buf from was out (record { desk = e; upto = i; len = at })
fed_is {d} {e} {buf} {was} {out} {from} {i} {at} F stop = record {
  feeds = rw (F.count, put_front F.put) F.feeds;
  kept = rw F.count (put_rest F.put);
  long = F.put.long;
  few = F.few;
  fits = F.fits;
  after = F.after;
  within = F.within;
  stops = stop;
  room = F.room;
  moves = λ room h. ⊎_elim
      (λ (a : from < i). a)
      (λ (a : i ≤ from). let z : i ≡ from = omega (arith, F.after) in let y = (F.still z).1 in let x = stop (omega arith) in absurd (omega arith))
      (lt_or_ge from i);
  stays = λ f. ⊎_elim
      (λ (a : from < i). absurd (f (F.went a).0 (F.went a).1))
      (λ (a : i ≤ from). let z : i ≡ from = omega (arith, F.after) in ((F.still z).0, z, (F.still z).1))
      (lt_or_ge from i);
}

-- ---- the last line, where it lacks its line feed

pub nothing_begun : (d : Desk) (was : List ℕ) → d.line.len ≡ 0 → Spoken (Ends d) was was (record { state = d.state; len = 0 })
nothing_begun d was e = record {
  says = λ line L.
      let n : line ≡ [] = L.short (omega arith) ∙ ap (λ (k : ℕ). take k d.line.digits) e in
      rw n none;
  kept = refl;
  fits = omega arith;
  long = refl;
}

-- a line feed more ends it
some_line : {s s' : State} {said : List ℕ} (line : List ℕ) → 1 ≤ length line → LinesSay s (line ∷ []) s' said → LinesSay s (last_line line) s' said
some_line [] h x = absurd (omega arith)
some_line (c ∷ line) h x = x

module _ (d : Desk) {was out : List ℕ} {r : Intake} (F : FedIs d (10 ∷ []) 0 was out r) where
  pub fed_silent : length was < answer_room → Silent d.state was out (record { state = r.desk.state; len = r.len })
  fed_silent h =
      let x = F.stays (λ k _. omega arith) in
      record { stays = ap (λ (e : Desk). e.state) x.0; none = x.2; same = rw x.2 at F.kept }

  pub fed_ended : answer_room ≤ length was → length d.line.digits ≡ 18 → (d.line.len ≡ 0 → ⊥) → Spoken (Ends d) was out (record { state = r.desk.state; len = r.len })
  fed_ended h n f =
      let m = F.moves h (omega arith) in
      let w = F.within (omega arith) in
      let u : r.upto ≡ 1 = omega arith in
      record {
        says = λ line L.
            let x = F.feeds.says line L in
            some_line line (long line L) (rw (u, whole_feed line 10 refl) at x);
        kept = F.kept;
        fits = omega (arith, F.few);
        long = F.long;
      }
    where
      long : (line : List ℕ) → LineIs line d.line → 1 ≤ length line
      long line L = ⊎_elim
          (λ (a : 18 < d.line.len). omega (arith, L.long a))
          (λ (a : d.line.len ≤ 18). let e = ap length (L.short a) ∙ length-take-le d.line.len d.line.digits (omega arith) in above d.line.len f e)
          (lt_or_ge 18 d.line.len)
        where
          above : (x : ℕ) → (x ≡ 0 → ⊥) → length line ≡ x → 1 ≤ length line
          above x g e = omega arith

-- ---- all input, however it is cut into reads

pub sitting_feeds : {d d' : Desk} {input : List (List ℕ)} {said : List ℕ} → Sitting d input d' said → Feeds d (joined input) d' said
sitting_feeds (done {d = d}) = feeds_none d
sitting_feeds (reads F S) = feeds_append F (sitting_feeds S)

-- whatever the reads, the whole output is what all lines of the input say to the state that the program begins with
pub whole_output : {d d' : Desk} {s : State} {input : List (List ℕ)} {said last : List ℕ} → d.state ≡ begins → LineIs [] d.line
    → Sitting d input d' said → Ends d' s last → LinesSay begins (all_lines (joined input)) s (said ++ last)
whole_output {d} {d'} {s} {input} {said} {last} e L S E =
    let F = sitting_feeds S in
    let x : LinesSay d.state (whole_lines [] (joined input)) d'.state said = F.says [] L in
    rw e at (lines_append x (E (begun_line [] (joined input)) (F.begun [] L)))
