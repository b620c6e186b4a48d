-- What a release tells.
use Rattle.keep_local.specs.States.{no_receipt}
use Rattle.clof_compose.specs.declared.report.Report.{Report}

-- what a pass tells that has released nothing yet
abbrev pub no_report : Report
no_report = record { tests = 0; receipt = no_receipt }
