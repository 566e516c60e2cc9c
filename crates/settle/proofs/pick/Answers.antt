-- `settle::pick` meets its contract: the least of the blocks is the least of all, and the first block that has it holds the first window that has it.
use Rattle.std.proofs.Common.{◌≡◌, ◌+◌, ◌-◌, ◌*◌, arith}
use Rattle.settle.specs.Blocks.{picked_none, picked_one, least_stands, block_stands}
use Rattle.settle.proofs.pick.Goals as goal

pub returns-then-x-gt86400 : goal.returns-then-x-gt86400
returns-then-x-gt86400 c =
    picked_none c.requires.blocks c.requires.blocks_bound c.least_of-x.ensures c.if-x-gt86400.true

pub first_at-k-requires : goal.first_at-k-requires
first_at-k-requires c =
    least_stands c.requires.blocks c.requires.blocks_bound c.least_of-x.ensures c.if-x-gt86400.false

pub first_at-requires : goal.first_at-requires
first_at-requires c =
    let n : 32 * c.first_at-k.result + 32 - 32 * c.first_at-k.result ≡ 32 = omega arith in
    rw n (block_stands c.requires.blocks c.requires.blocks_bound c.least_of-x.ensures c.if-x-gt86400.false c.first_at-k.ensures)

pub returns : goal.returns
returns c =
    let n : 32 * c.first_at-k.result + 32 - 32 * c.first_at-k.result ≡ 32 = omega arith in
    picked_one c.requires.blocks c.requires.blocks_bound c.least_of-x.ensures c.if-x-gt86400.false c.first_at-k.ensures (rw n at c.first_at.ensures)
