-- What a line answers, from the bytes read of it. Its digits have one reading, so a frame of it has these bytes and no others: where there are none,
-- or they have another number than their kind asks for, the line is no frame.
use Rattle.std.specs.Prelude.{ℕ, zero, suc, ◌+◌, ◌≤◌, ◌<◌, ◌≡◌, Bool, true, false, List, [], ◌∷◌, length, take, eqb}
use Rattle.std.proofs.Common.{sym, ap, subst, ◌∙◌, arith, get_or-take, length-take-le}
use Rattle.rules.specs.declared.State.{State}
use Rattle.rules.specs.Bytes.{byte_at, place_size, link_size}
use Rattle.rules.specs.Frames.{line_of, length_by, frame_length, Frame, Said, PlaceFrame, LinkFrame, PlanFrame, BookFrame, CancelFrame, PageFrame, FrameSays}
use Rattle.unique.specs.Hex.{AreBytes, hex_injective}
use Rattle.rules.specs.declared.Line.{Line}
use Rattle.rules.specs.Program.{LineIs, Tells}
use Rattle.frames.specs.declared.Bytes.{Bytes}
use Rattle.frames.specs.Lines.{DigitsOf, Undecoded}

by_test : (t : Bool) (n m : ℕ) → n ≤ 9 → m ≤ 9 → length_by t n m ≤ 9
by_test true n m h k = h
by_test false n m h k = k

pub length_few : (k : ℕ) → frame_length k ≤ 9
unfolding frame_length
length_few k =
    by_test (eqb k 1) (1 + place_size) _ (omega arith) (by_test (eqb k 2) (1 + link_size) _ (omega arith) (by_test (eqb k 3) 6 _ (omega arith)
    (by_test (eqb k 4) 6 _ (omega arith) (by_test (eqb k 5) 4 _ (omega arith) (by_test (eqb k 6) 9 0 (omega arith) (omega arith))))))

pub no_frame : {s s' : State} {l : Line} {said : List ℕ} → Undecoded l → Said s (line_of (12 ∷ [])) s' said → Tells s l s' said
no_frame {s} {s'} {l} {said} D S line L = record {
  framed = λ b F. absurd (D line L b F.are_bytes F.digits F.some (let k = length_few (byte_at b 0) in let e = F.shaped in omega arith));
  other = λ f. S;
}

abbrev pub Reads : Line → Bytes → Type 0
Reads l b = (line : List ℕ) → LineIs line l → DigitsOf line b

-- a frame of the line has the bytes read
module _ {line : List ℕ} {r : Bytes} (D : DigitsOf line r) where
  pub taken_bytes : AreBytes (take r.count r.bytes)
  taken_bytes i = below r.count r.bytes i D.are_bytes
    where
      below : (n : ℕ) (b : List ℕ) (i : ℕ) → AreBytes b → byte_at (take n b) i < 256
      below zero b i B = omega arith
      below (suc n) [] i B = omega arith
      below (suc n) (x ∷ b) zero B = B 0
      below (suc n) (x ∷ b) (suc i) B = below n b i (λ j. B (suc j))

  pub same_bytes : (b : List ℕ) → Frame line b → b ≡ take r.count r.bytes
  same_bytes b F = hex_injective b (take r.count r.bytes) (sym F.digits ∙ D.digits)

  taken_long : length (take r.count r.bytes) ≡ r.count
  taken_long = length-take-le r.count r.bytes (omega (arith, D.fits, D.long))

  first_byte : byte_at (take r.count r.bytes) 0 ≡ byte_at r.bytes 0
  first_byte = get_or-take r.count r.bytes 0 0 D.some

  pub right_length : r.count ≡ frame_length (byte_at r.bytes 0) → Frame line (take r.count r.bytes)
  right_length e = record {
    are_bytes = taken_bytes;
    digits = D.digits;
    some = omega (arith, taken_long, D.some);
    shaped = taken_long ∙ e ∙ ap frame_length (sym first_byte);
  }

  pub wrong_length : (r.count ≡ frame_length (byte_at r.bytes 0) → ⊥) → (b : List ℕ) → Frame line b → ⊥
  wrong_length f b F =
      let e = same_bytes b F in
      f (sym taken_long ∙ ap length (sym e) ∙ F.shaped ∙ ap (λ (x : List ℕ). frame_length (byte_at x 0)) e ∙ ap frame_length first_byte)

pub other_length : {s s' : State} {l : Line} {r : Bytes} {said : List ℕ} → (1 ≤ r.count → r.count ≡ frame_length (byte_at r.bytes 0) → ⊥) → Reads l r
    → Said s (line_of (12 ∷ [])) s' said → Tells s l s' said
other_length f D S line L = record { framed = λ b F. absurd (wrong_length (D line L) (f (D line L).some) b F); other = λ g. S }

pub framed_so : {s s' : State} {l : Line} {r : Bytes} {said : List ℕ} → r.count ≡ frame_length (byte_at r.bytes 0) → Reads l r
    → FrameSays s (take r.count r.bytes) s' said → Tells s l s' said
framed_so {s} {s'} {l} {r} {said} e D X line L = record {
  framed = λ b F. subst (λ (x : List ℕ). FrameSays s x s' said) (sym (same_bytes (D line L) b F)) X;
  other = λ g. absurd (g (take r.count r.bytes) (right_length (D line L) e));
}

-- ---- each kind: what its own function answers is what the frame answers

module _ (bytes : List ℕ) (n : ℕ) where
  byte : (i : ℕ) → i < n → byte_at (take n bytes) i ≡ byte_at bytes i
  byte i h = get_or-take n bytes i 0 h

  kind : (k j : ℕ) → byte_at bytes 0 ≡ k → (k ≡ j → ⊥) → 0 < n → byte_at (take n bytes) 0 ≡ j → ⊥
  kind k j e f h g = let x = byte 0 h in f (omega arith)

module _ (s : State) (bytes : List ℕ) (n : ℕ) (s' : State) (said : List ℕ) where
  pub place_says : byte_at bytes 0 ≡ 1 → n ≡ 1 + place_size → PlaceFrame s bytes s' said → FrameSays s (take n bytes) s' said
  place_says k e p = record {
    place = λ _. rw (byte bytes n 1 (omega arith), byte bytes n 2 (omega arith), byte bytes n 3 (omega arith)) p;
    link = λ g. absurd (kind bytes n 1 2 k (λ x. omega arith) (omega arith) g);
    plan = λ g. absurd (kind bytes n 1 3 k (λ x. omega arith) (omega arith) g);
    book = λ g. absurd (kind bytes n 1 4 k (λ x. omega arith) (omega arith) g);
    cancel = λ g. absurd (kind bytes n 1 5 k (λ x. omega arith) (omega arith) g);
    page = λ g. absurd (kind bytes n 1 6 k (λ x. omega arith) (omega arith) g);
  }

  pub link_says : byte_at bytes 0 ≡ 2 → n ≡ 1 + link_size → LinkFrame s bytes s' said → FrameSays s (take n bytes) s' said
  link_says k e p = record {
    place = λ g. absurd (kind bytes n 2 1 k (λ x. omega arith) (omega arith) g);
    link = λ _. rw (byte bytes n 1 (omega arith), byte bytes n 2 (omega arith)) p;
    plan = λ g. absurd (kind bytes n 2 3 k (λ x. omega arith) (omega arith) g);
    book = λ g. absurd (kind bytes n 2 4 k (λ x. omega arith) (omega arith) g);
    cancel = λ g. absurd (kind bytes n 2 5 k (λ x. omega arith) (omega arith) g);
    page = λ g. absurd (kind bytes n 2 6 k (λ x. omega arith) (omega arith) g);
  }

  pub plan_says : byte_at bytes 0 ≡ 3 → n ≡ 6 → PlanFrame s bytes s' said → FrameSays s (take n bytes) s' said
  plan_says k e p = record {
    place = λ g. absurd (kind bytes n 3 1 k (λ x. omega arith) (omega arith) g);
    link = λ g. absurd (kind bytes n 3 2 k (λ x. omega arith) (omega arith) g);
    plan = λ _. record {
      answer = p.answer;
      list = p.list;
      is = rw (byte bytes n 1 (omega arith), byte bytes n 2 (omega arith), byte bytes n 3 (omega arith), byte bytes n 4 (omega arith), byte bytes n 5 (omega arith)) p.is;
      said_so = p.said_so;
    };
    book = λ g. absurd (kind bytes n 3 4 k (λ x. omega arith) (omega arith) g);
    cancel = λ g. absurd (kind bytes n 3 5 k (λ x. omega arith) (omega arith) g);
    page = λ g. absurd (kind bytes n 3 6 k (λ x. omega arith) (omega arith) g);
  }

  pub book_says : byte_at bytes 0 ≡ 4 → n ≡ 6 → BookFrame s bytes s' said → FrameSays s (take n bytes) s' said
  book_says k e p = record {
    place = λ g. absurd (kind bytes n 4 1 k (λ x. omega arith) (omega arith) g);
    link = λ g. absurd (kind bytes n 4 2 k (λ x. omega arith) (omega arith) g);
    plan = λ g. absurd (kind bytes n 4 3 k (λ x. omega arith) (omega arith) g);
    book = λ _. record {
      answer = p.answer;
      is = rw (byte bytes n 1 (omega arith), byte bytes n 2 (omega arith), byte bytes n 3 (omega arith), byte bytes n 4 (omega arith), byte bytes n 5 (omega arith)) p.is;
      said_so = p.said_so;
    };
    cancel = λ g. absurd (kind bytes n 4 5 k (λ x. omega arith) (omega arith) g);
    page = λ g. absurd (kind bytes n 4 6 k (λ x. omega arith) (omega arith) g);
  }

  pub cancel_says : byte_at bytes 0 ≡ 5 → n ≡ 4 → CancelFrame s bytes s' said → FrameSays s (take n bytes) s' said
  cancel_says k e p = record {
    place = λ g. absurd (kind bytes n 5 1 k (λ x. omega arith) (omega arith) g);
    link = λ g. absurd (kind bytes n 5 2 k (λ x. omega arith) (omega arith) g);
    plan = λ g. absurd (kind bytes n 5 3 k (λ x. omega arith) (omega arith) g);
    book = λ g. absurd (kind bytes n 5 4 k (λ x. omega arith) (omega arith) g);
    cancel = λ _. record { answer = p.answer; is = rw (byte bytes n 1 (omega arith), byte bytes n 2 (omega arith), byte bytes n 3 (omega arith)) p.is; said_so = p.said_so };
    page = λ g. absurd (kind bytes n 5 6 k (λ x. omega arith) (omega arith) g);
  }

  pub page_says : byte_at bytes 0 ≡ 6 → n ≡ 9 → PageFrame s bytes s' said → FrameSays s (take n bytes) s' said
  page_says k e p = record {
    place = λ g. absurd (kind bytes n 6 1 k (λ x. omega arith) (omega arith) g);
    link = λ g. absurd (kind bytes n 6 2 k (λ x. omega arith) (omega arith) g);
    plan = λ g. absurd (kind bytes n 6 3 k (λ x. omega arith) (omega arith) g);
    book = λ g. absurd (kind bytes n 6 4 k (λ x. omega arith) (omega arith) g);
    cancel = λ g. absurd (kind bytes n 6 5 k (λ x. omega arith) (omega arith) g);
    page = λ _. record {
      answer = p.answer;
      list = p.list;
      is =
          rw (byte bytes n 1 (omega arith), byte bytes n 2 (omega arith), byte bytes n 3 (omega arith), byte bytes n 4 (omega arith), byte bytes n 5 (omega arith), byte bytes n 6 (omega arith), byte bytes n 7 (omega arith), byte bytes n 8 (omega arith))
          p.is;
      said_so = p.said_so;
    };
  }
