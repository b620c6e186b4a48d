use Rattle.calc_query.proofs.LargestLaws.{largest_counted}
use Rattle.calc_query.proofs.laws.largest_make_up_whole_objects.Goals as goal

pub returns : goal.returns
returns c = λ described set number built. largest_counted described built set number
