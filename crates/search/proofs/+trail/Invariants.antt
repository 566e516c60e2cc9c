-- `search::trail` calls itself along the windows before: the label is the number that falls.
use Rattle.laws.specs.Lists.{at}
use Rattle.search.proofs.+trail.Given as goal

abbrev pub decreases-trail : goal.decreases-trail
decreases-trail l = at l.label.now l.w
