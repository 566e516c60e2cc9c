-- `lookup::put` meets its contract: where y is not marked there is room on the list.
use Rattle.lookup.specs.Lists.{put_room, put_one}
use Rattle.lookup.proofs.put.Goals as goal

pub bounds-list-len : goal.bounds-list-len
bounds-list-len c =
    put_room c.requires c.ranges.y.fits c.if-marks-j.false

pub returns : goal.returns
returns c =
    put_one c.requires c.ranges.y.fits c.if-marks-j.false
