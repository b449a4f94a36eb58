use Rattle.sj_minplus.proofs.Vectors.{lanes_passed}
use Rattle.kernel_tests.proofs.tests_of_min_plus.lanes_are_as_single_sums.Goals as goal

pub plus8-requires : goal.plus8-requires
plus8-requires g c = record {
  a = lanes_passed c.eight-x.result c.eight-x.ensures;
  b = lanes_passed c.eight-y.result c.eight-y.ensures;
}
