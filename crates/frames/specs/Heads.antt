-- The first line of an answer: its number, and after 00 what the call adds. A refusal's number is never 0, so nothing follows it.
use Rattle.std.specs.Prelude.{ℕ, ◌≤◌, ◌≡◌, List, length, take}
use Rattle.frames.specs.declared.Head.{Head}

-- the bytes of the line, in an array of nine
pub record HeadIs (line : List ℕ) (h : Head) : Type 0 where
  pub is : take h.count h.bytes ≡ line
  pub fits : h.count ≤ 9
  pub long : length h.bytes ≡ 9
