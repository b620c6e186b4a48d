use Rattle.std.proofs.lemmas.List.Sums.{prefix_len-le-length}
use Rattle.byte_text.specs.InClass.{in_class}
use Rattle.byte_text.proofs.cuts.split_front.Goals as goal

pub split_at-requires : goal.split_at-requires
split_at-requires c = rw c.front_len.ensures (prefix_len-le-length (in_class c.args.class) c.args.text.now)
