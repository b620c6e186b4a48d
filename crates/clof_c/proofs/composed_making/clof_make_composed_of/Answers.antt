use Rattle.std.proofs.Common.{refl, inl, inr}
use Rattle.clof_c.proofs.Few.{made_by}
use Rattle.clof_c.proofs.composed_making.clof_make_composed_of.Goals as goal

pub returns-in-Ok : goal.returns-in-Ok
returns-in-Ok c =
    let setting = c.in-Ok.ensures in
    record {
      answers = inr (made_by _ _ _ _ _ c.in-Ok.setting.plan c.in-Ok.setting.shape setting.setting setting.kinds c.make.result
          c.make.ensures.makes c.composed_made_code.ensures.code refl);
    }

pub returns-in-Err : goal.returns-in-Err
returns-in-Err c = record {
  answers = inl (record {
    fault = c.in-Err.fault;
    refused = c.in-Err.ensures.refused;
    same = refl;
    code_is = c.fault_answer-code.ensures.code;
    numbers_are = c.fault_answer-code.ensures.numbers;
  });
}
