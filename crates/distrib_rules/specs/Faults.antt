-- Why masks are not shared out.
use Rattle.std.specs.Prelude.{ℕ, ◌==◌, nat_lt, Option, Some, None, if◌then◌else◌}
use Rattle.distrib_rules.specs.declared.fault.DistribFault.{DistribFault}
use Rattle.distrib_rules.specs.declared.fault.DistribFault.TheVariants as faults

-- how many masks one distribution may have
abbrev pub mask_limit : ℕ
mask_limit = 4096

-- the first broken rule on the number of masks, the depth of the start and the depth of the end
abbrev pub distrib_fault : ℕ → ℕ → ℕ → Option DistribFault
distrib_fault n from to =
    if n == 0 then Some faults.ZeroMasks
    else (if nat_lt mask_limit n then Some faults.TooManyMasks
    else (if nat_lt to from then Some faults.Reversed else None))
