-- `settle::close` meets its contract: one entry is set to the mark, and its block's least is found anew.
use Rattle.std.proofs.Common.{◌≡◌, ◌+◌, ◌-◌, ◌*◌, ◌/◌, refl, set, ◌∙◌, length-set, arith}
use Rattle.settle.specs.Blocks.{blocks_set, low_fold}
use Rattle.settle.proofs.close.Goals as goal

pub returns : goal.returns
returns c =
    let a = c.args in
    let n : 32 * (a.w / 32) + 32 - 32 * (a.w / 32) ≡ 32 = omega arith in
    let e = rw n at c.least_of.ensures in (
      refl,
      blocks_set c.requires.blocks a.w (a.w / 32) 86401 (omega arith) (omega arith) (omega arith)
          (e ∙ low_fold (set a.live.now a.w 86401) (32 * (a.w / 32)) 32 (omega (arith, length-set a.live.now a.w 86401))),
    )
