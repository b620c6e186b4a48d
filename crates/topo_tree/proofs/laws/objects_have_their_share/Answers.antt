use Rattle.std.proofs.Common.{sym, ◌∙◌, arith}
use Rattle.std.proofs.Math.Nat.{mul_comm, div-eq_of_eq-mul_left}
use Rattle.topo_tree.specs.Objects.{count_at}
use Rattle.topo_tree.specs.Beginnings.{width_at}
use Rattle.topo_tree.proofs.PlaceLaws.{length-set_at, some_count, some_width, widths}
use Rattle.topo_tree.proofs.laws.objects_have_their_share.Goals as goal

pub returns : goal.returns
returns c = λ described depth index built below.
    let long = length-set_at described built depth index below in
    record {
      members =
          long ∙ sym (div-eq_of_eq-mul_left (some_count described built depth)
          (sym (widths described built depth) ∙ mul_comm (count_at described depth) (width_at described depth)));
      some = omega (arith, long, some_width described built depth);
    }
