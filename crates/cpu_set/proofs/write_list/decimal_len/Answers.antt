use Rattle.std.proofs.Common.{refl, inl, inr, arith}
use Rattle.cpu_set.proofs.ListText.{decimal_is}
use Rattle.cpu_set.proofs.write_list.decimal_len.Goals as goal

pub returns-in-0-to-9-clause-length : goal.returns-in-0-to-9-clause-length
returns-in-0-to-9-clause-length c = decimal_is c.args.number 1 c.requires (inl (omega arith, refl))

pub returns-in-10-to-99-clause-length : goal.returns-in-10-to-99-clause-length
returns-in-10-to-99-clause-length c = decimal_is c.args.number 2 c.requires (inr (inl (omega arith, omega arith, refl)))

pub returns-in-100-to-999-clause-length : goal.returns-in-100-to-999-clause-length
returns-in-100-to-999-clause-length c = decimal_is c.args.number 3 c.requires (inr (inr (inl (omega arith, omega arith, refl))))

pub returns-in_default-clause-length : goal.returns-in_default-clause-length
returns-in_default-clause-length c = decimal_is c.args.number 4 c.requires (inr (inr (inr (omega arith, refl))))
