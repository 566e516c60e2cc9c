-- A line in a fixed buffer of 18 digits, and the bytes read from it. No frame has more than 18 digits, so a longer line need not be kept.
-- Two digits a turn give a byte; where a digit is none, or their number is odd, the line is the digits of no bytes.
use Rattle.std.specs.Prelude.{ℕ, suc, ◌+◌, ◌*◌, ◌/◌, ◌%◌, ◌≤◌, ◌<◌, ◌≡◌, refl, List, [], ◌∷◌, ◌++◌, length, get_or, take, set, replicate, Option, MatchOption}
use Rattle.std.proofs.Common.{sym, ap, ◌∙◌, ⊎_elim, append_assoc, arith, add-one, length-append, length-set, take-suc, take-suc-set, get_or-set_same, get_or-set_other, get_or-take, length-take-le, le-leb}
use Rattle.std.proofs.lemmas.Bool.{lt-leb}
use Rattle.laws.specs.Order.{lt_or_ge, eq_or_ne}
use Rattle.rules.specs.Bytes.{byte_at}
use Rattle.rules.specs.Frames.{digit, hex_of, frame_length}
use Rattle.unique.specs.Hex.{value_none, AreBytes, hex_length, hex_append, hex_at_high, hex_at_low}
use Rattle.rules.specs.declared.Line.{Line}
use Rattle.rules.specs.Program.{LineIs, empty_line, pushed}
use Rattle.frames.specs.declared.Decoder.{Decoder}
use Rattle.frames.specs.declared.Decoder.TheVariants.{Place, Link, Plan, Book, Cancel, Page}
use Rattle.frames.specs.declared.Bytes.{Bytes}
use Rattle.frames.specs.declared.Form.{Form}

-- it stands for some line
pub stands_for : (l : Line) → (line : List ℕ) × LineIs line l
stands_for l =
    ⊎_elim
    (λ (h : 18 < l.len). (replicate 19 0, record { short = λ k. absurd (omega arith); long = λ _. omega arith }))
    (λ (h : l.len ≤ 18). (take l.len l.digits, record { short = λ _. refl; long = λ k. absurd (omega arith) }))
    (lt_or_ge 18 l.len)

pub empty_line_lem : LineIs [] empty_line
empty_line_lem = record { short = λ _. refl; long = λ k. absurd (omega arith) }

pub pushed_short : (l : Line) (c : ℕ) → l.len < 18 → record { digits = set l.digits l.len c; len = l.len + 1 } ≡ pushed l c
unfolding pushed
pushed_short l c h = rw (lt-leb 18 l.len h, pushed)

pub pushed_full : (l : Line) (c : ℕ) → 18 ≤ l.len → record { digits = l.digits; len = 19 } ≡ pushed l c
unfolding pushed
pushed_full l c h = rw (le-leb 18 l.len h, pushed)

pub push_short : (l : Line) (c : ℕ) → length l.digits ≡ 18 → l.len < 18 → (line : List ℕ) → LineIs line l
    → LineIs (line ++ (c ∷ [])) (record { digits = set l.digits l.len c; len = l.len + 1 })
push_short l c n h line L = record {
  short = λ k. rw (add-one, take-suc-set l.digits l.len c (omega arith), L.short (omega arith));
  long = λ k. absurd (omega arith);
}

pub push_full : (l : Line) (c : ℕ) → length l.digits ≡ 18 → 18 ≤ l.len → (line : List ℕ) → LineIs line l
    → LineIs (line ++ (c ∷ [])) (record { digits = l.digits; len = 19 })
push_full l c n h line L = record {
  short = λ k. absurd (omega arith);
  long = λ k.
      let e = length-append line (c ∷ []) in
      ⊎_elim
      (λ (a : l.len ≡ 18). let s = ap length (L.short (omega arith)) ∙ length-take-le l.len l.digits (omega arith) in omega arith)
      (λ (a : l.len ≡ 18 → ⊥). let s = L.long (above l.len h a) in omega arith)
      (eq_or_ne l.len 18);
}
  where
    above : (x : ℕ) → 18 ≤ x → (x ≡ 18 → ⊥) → 18 < x
    above x p q = omega arith

-- ---- a line's bytes

-- r is the value of digit c, none where c is no digit
abbrev pub ValueIs : ℕ → Option ℕ → Type 0
ValueIs c r = MatchOption r ((x : ℕ) → x < 16 → c ≡ digit x → ⊥) (λ v. (v < 16) × (c ≡ digit v))

pub no_digit : (c x : ℕ) → (48 ≤ c → c ≤ 57 → ⊥) → (65 ≤ c → c ≤ 70 → ⊥) → x < 16 → c ≡ digit x → ⊥
no_digit c x f g = (value_none c f g).none (omega arith) x

-- the line is the digits of these bytes
pub record DigitsOf (line : List ℕ) (b : Bytes) : Type 0 where
  pub some : 1 ≤ b.count
  pub digits : line ≡ hex_of (take b.count b.bytes)
  pub are_bytes : AreBytes b.bytes
  pub fits : b.count ≤ 9
  pub long : length b.bytes ≡ 9

-- or of no bytes
abbrev pub NoDigits : List ℕ → Type 0
NoDigits line = (b : List ℕ) → AreBytes b → line ≡ hex_of b → 1 ≤ length b → length b ≤ 9 → ⊥

abbrev pub Decoded : List ℕ → Option Bytes → Type 0
Decoded line r = MatchOption r (NoDigits line) (DigitsOf line)

-- the first i bytes are read
pub record ReadTo (digits : List ℕ) (i : ℕ) (bytes : List ℕ) : Type 0 where
  pub so_far : take (2 * i) digits ≡ hex_of (take i bytes)
  pub are_bytes : AreBytes bytes
  pub long : length bytes ≡ 9

pub read_start : (digits bytes : List ℕ) → ((i : ℕ) → byte_at bytes i ≡ 0) → length bytes ≡ 9 → ReadTo digits 0 bytes
unfolding hex_of
read_start digits bytes z n = record { so_far = refl; are_bytes = λ i. omega (arith, z i); long = n }

pub read_next : {digits bytes : List ℕ} {i h g : ℕ} → length digits ≡ 18 → i < 9 → ReadTo digits i bytes → (h < 16) × (get_or digits (2 * i) 0 ≡ digit h)
    → (g < 16) × (get_or digits (2 * i + 1) 0 ≡ digit g) → ReadTo digits (i + 1) (set bytes i (h * 16 + g))
unfolding hex_of
read_next {digits} {bytes} {i} {h} {g} n m R X Z =
    let v : ℕ = h * 16 + g in
    let a = X.0 in
    let b = Z.0 in
    let e : 2 * (i + 1) ≡ suc (suc (2 * i)) = omega arith in
    let f : suc (2 * i) ≡ 2 * i + 1 = omega arith in
    let one : get_or digits (2 * i) 0 ≡ digit h = X.1 in
    let two : get_or digits (suc (2 * i)) 0 ≡ digit g = ap (λ (k : ℕ). get_or digits k 0) f ∙ Z.1 in
    let p : h ≡ v / 16 = omega arith in
    let q : g ≡ v % 16 = omega arith in
    let left : take (2 * (i + 1)) digits ≡ hex_of (take i bytes) ++ (digit h ∷ (digit g ∷ [])) =
    ap (λ (k : ℕ). take k digits) e
    ∙ take-suc digits (suc (2 * i)) 0 (omega arith)
    ∙ ap (λ (l : List ℕ). l ++ (get_or digits (suc (2 * i)) 0 ∷ [])) (take-suc digits (2 * i) 0 (omega arith))
    ∙ append_assoc (take (2 * i) digits) (get_or digits (2 * i) 0 ∷ []) (get_or digits (suc (2 * i)) 0 ∷ [])
    ∙ rw (one, two, R.so_far) in
    let right : hex_of (take (i + 1) (set bytes i v)) ≡ hex_of (take i bytes) ++ (digit h ∷ (digit g ∷ [])) =
    ap (λ (k : ℕ). hex_of (take k (set bytes i v))) (add-one i)
    ∙ ap hex_of (take-suc-set bytes i v (omega (arith, R.long)))
    ∙ hex_append (take i bytes) (v ∷ [])
    ∙ ap (λ (x : ℕ). hex_of (take i bytes) ++ (digit x ∷ (digit (v % 16) ∷ []))) (sym p)
    ∙ ap (λ (x : ℕ). hex_of (take i bytes) ++ (digit h ∷ (digit x ∷ []))) (sym q) in
    record {
      so_far = left ∙ sym right;
      are_bytes = λ j. ⊎_elim
          (λ (c : j ≡ i). let s = get_or-set_same bytes i v 0 (omega (arith, R.long)) in rw c (omega arith))
          (λ (c : j ≡ i → ⊥). rw (get_or-set_other bytes i j v 0 c) (R.are_bytes j))
          (eq_or_ne j i);
      long = length-set bytes i v ∙ R.long;
    }

-- all digits are read
pub read_all : {l : Line} {bytes : List ℕ} {count : ℕ} → 1 ≤ count → l.len ≤ 18 → 2 * count ≡ l.len → ReadTo l.digits count bytes
    → (line : List ℕ) → LineIs line l → DigitsOf line (record { bytes = bytes; count = count })
read_all {l} {bytes} {count} some h e R line L = record {
  some = some;
  digits = L.short h ∙ ap (λ (n : ℕ). take n l.digits) (sym e) ∙ R.so_far;
  are_bytes = R.are_bytes;
  fits = omega arith;
  long = R.long;
}

-- ---- lines that are no bytes' digits

abbrev pub Undecoded : Line → Type 0
Undecoded l = (line : List ℕ) → LineIs line l → NoDigits line

line_length : (l : Line) → length l.digits ≡ 18 → l.len ≤ 18 → (line : List ℕ) → LineIs line l → length line ≡ l.len
line_length l n h line L = ap length (L.short h) ∙ length-take-le l.len l.digits (omega arith)

-- for their length
pub bad_length : (l : Line) → length l.digits ≡ 18 → (l.len ≤ 18 → (l.len ≡ 0 → ⊥) → l.len % 2 ≡ 0 → ⊥) → Undecoded l
bad_length l d f line L b B s m k =
    let t = ap length s in
    let v = hex_length b in
    ⊎_elim
    (λ (h : 18 < l.len). omega (arith, L.long h))
    (λ (h : l.len ≤ 18). let u = line_length l d h line L in f h (λ z. omega arith) (omega arith))
    (lt_or_ge 18 l.len)

-- for a digit that is none
module _ (l : Line) (i : ℕ) (d : length l.digits ≡ 18) (h : l.len ≤ 18) (in-line : 2 * i + 1 < l.len) where
  pub bad_high : ((x : ℕ) → x < 16 → get_or l.digits (2 * i) 0 ≡ digit x → ⊥) → Undecoded l
  bad_high f line L b C s m k =
      let t = ap length s in
      let u = line_length l d h line L in
      let w = hex_length b in
      let x : get_or l.digits (2 * i) 0 ≡ digit (byte_at b i / 16) =
      sym (get_or-take l.len l.digits (2 * i) 0 (omega arith)) ∙ ap (λ (q : List ℕ). get_or q (2 * i) 0) (sym (L.short h) ∙ s) ∙ hex_at_high b i (omega arith) in
      f (byte_at b i / 16) (let z = C i in omega arith) x

  pub bad_low : ((x : ℕ) → x < 16 → get_or l.digits (2 * i + 1) 0 ≡ digit x → ⊥) → Undecoded l
  bad_low f line L b C s m k =
      let t = ap length s in
      let u = line_length l d h line L in
      let w = hex_length b in
      let x : get_or l.digits (2 * i + 1) 0 ≡ digit (byte_at b i % 16) =
      sym (get_or-take l.len l.digits (2 * i + 1) 0 (omega arith)) ∙ ap (λ (q : List ℕ). get_or q (2 * i + 1) 0) (sym (L.short h) ∙ s) ∙ hex_at_low b i (omega arith) in
      f (byte_at b i % 16) (omega arith) x

-- ---- a frame's length and decoder, by its kind

abbrev pub kind_of : Decoder → ℕ
kind_of Place = 1
kind_of Link = 2
kind_of Plan = 3
kind_of Book = 4
kind_of Cancel = 5
kind_of Page = 6

-- none of a kind that there is not
abbrev pub FormIs : ℕ → Option Form → Type 0
FormIs kind r = MatchOption r (frame_length kind ≡ 0) (λ f. (f.length ≡ frame_length kind) × (kind_of f.decoder ≡ kind))
