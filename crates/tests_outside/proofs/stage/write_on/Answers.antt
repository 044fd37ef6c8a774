use Rattle.tests_outside.proofs.Others.{others_stay}
use Rattle.tests_outside.proofs.stage.write_on.Goals as goal

pub returns-in-Some : goal.returns-in-Some
returns-in-Some c = record {
  others = λ j ne. others_stay c.disk.result c.in-Some.disk (c.disk.follows.lender c.write.new.disk) c.args.stage.now c.args.n j _ c.in-Some.is (c.disk.follows.holds c.write.new.disk) ne;
}
