-- `wire::put_row` meets its contract: the row's eleven bytes are stored over the front of the slice, and what comes after them is as it was.
use native.Mathlib.Omega.{arith}
use mathlib.Core.Path.{◌≡◌}
use Prim.Native.Nat.{◌%◌}
use Rattle.wire.proofs.put_row.Goals as goal

pub returns : goal.returns
returns c =
    let r = c.args.r in
    let p : r.place % 256 ≡ r.place = omega arith in
    let n : r.next % 256 ≡ r.next = omega arith in
    rw (c.copy_from_slice.ensures.after, c.to_be_bytes.ensures, c.to_be_bytes-2.ensures, c.to_be_bytes-3.ensures, p, n)
