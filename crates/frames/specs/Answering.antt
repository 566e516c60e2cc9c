-- A line read: its bytes, its kind's length and decoder, and what the decoder's own function answers, together what the line answers.
use Rattle.std.specs.Prelude.{ℕ, ◌≤◌, ◌≡◌, List, [], ◌∷◌, Option, MatchOption}
use Rattle.std.proofs.Common.{sym, ap, ◌∙◌}
use Rattle.rules.specs.declared.State.{State}
use Rattle.rules.specs.Bytes.{byte_at}
use Rattle.rules.specs.Frames.{line_of, frame_length, Said, PlaceFrame, LinkFrame, PlanFrame, BookFrame, CancelFrame, PageFrame}
use Rattle.rules.specs.declared.Line.{Line}
use Rattle.rules.specs.Program.{Tells}
use Rattle.frames.specs.declared.Bytes.{Bytes}
use Rattle.frames.specs.declared.Form.{Form}
use Rattle.frames.specs.declared.Word.{Word}
use Rattle.frames.specs.declared.Decoder.{Decoder}
use Rattle.frames.specs.declared.Decoder.TheVariants.{Place, Link, Plan, Book, Cancel, Page}
use Rattle.frames.specs.Lines.{Undecoded, kind_of}
use Rattle.frames.specs.Saying.{Reads, no_frame, other_length, framed_so, place_says, link_says, plan_says, book_says, cancel_says, page_says}

-- what a line read tells: with each decoder, what its own function answers is what the line answers
pub record WordSays (l : Line) (w : Word) : Type 0 where
  pub place : w.decoder ≡ Place → (s s' : State) (said : List ℕ) → PlaceFrame s w.bytes s' said → Tells s l s' said
  pub link : w.decoder ≡ Link → (s s' : State) (said : List ℕ) → LinkFrame s w.bytes s' said → Tells s l s' said
  pub plan : w.decoder ≡ Plan → (s s' : State) (said : List ℕ) → PlanFrame s w.bytes s' said → Tells s l s' said
  pub book : w.decoder ≡ Book → (s s' : State) (said : List ℕ) → BookFrame s w.bytes s' said → Tells s l s' said
  pub cancel : w.decoder ≡ Cancel → (s s' : State) (said : List ℕ) → CancelFrame s w.bytes s' said → Tells s l s' said
  pub page : w.decoder ≡ Page → (s s' : State) (said : List ℕ) → PageFrame s w.bytes s' said → Tells s l s' said

-- a line that is no frame is refused
abbrev pub NoWord : Line → Type 0
NoWord l = (s s' : State) (said : List ℕ) → Said s (line_of (12 ∷ [])) s' said → Tells s l s' said

abbrev pub WordIs : Line → Option Word → Type 0
WordIs l r = MatchOption r (NoWord l) (WordSays l)

pub word_none : {l : Line} → Undecoded l → NoWord l
word_none D s s' said x = no_frame D x

module _ {l : Line} {b : Bytes} (D : Reads l b) where
  pub word_other : {n : ℕ} → n ≡ frame_length (byte_at b.bytes 0) → (1 ≤ b.count → n ≡ b.count → ⊥) → NoWord l
  word_other e g s s' said x = other_length (λ some f. g some (e ∙ sym f)) D x

  pub word_framed : {f : Form} → (f.length ≡ frame_length (byte_at b.bytes 0)) × (kind_of f.decoder ≡ byte_at b.bytes 0) → f.length ≡ b.count
      → WordSays l (record { bytes = b.bytes; decoder = f.decoder })
  unfolding frame_length
  word_framed {f} F fits = record {
    place = λ e s s' said x. framed_so long D (place_says s b.bytes b.count s' said (kind Place e) (count Place e) x);
    link = λ e s s' said x. framed_so long D (link_says s b.bytes b.count s' said (kind Link e) (count Link e) x);
    plan = λ e s s' said x. framed_so long D (plan_says s b.bytes b.count s' said (kind Plan e) (count Plan e) x);
    book = λ e s s' said x. framed_so long D (book_says s b.bytes b.count s' said (kind Book e) (count Book e) x);
    cancel = λ e s s' said x. framed_so long D (cancel_says s b.bytes b.count s' said (kind Cancel e) (count Cancel e) x);
    page = λ e s s' said x. framed_so long D (page_says s b.bytes b.count s' said (kind Page e) (count Page e) x);
  }
    where
      long : b.count ≡ frame_length (byte_at b.bytes 0)
      long = sym fits ∙ F.0

      kind : (d : Decoder) → f.decoder ≡ d → byte_at b.bytes 0 ≡ kind_of d
      kind d e = sym F.1 ∙ ap kind_of e

      count : (d : Decoder) → f.decoder ≡ d → b.count ≡ frame_length (kind_of d)
      count d e = long ∙ ap frame_length (kind d e)
