-- How a device's fault is told.
use Rattle.std.specs.Prelude.{◌^◌, cond, Some, None, Option, nat_lt}
use Rattle.fault.specs.Reports.{because, plain}
use Rattle.fault.specs.declared.Report.{Report}
use Rattle.device.specs.declared.DeviceFault.{DeviceFault}
use Rattle.device.specs.declared.DeviceFault.TheVariants.{PowerLost, Refused}

-- lost power is refusal 36 with the block as cause; a refused access has no number
abbrev pub device_report : DeviceFault → Option Report
device_report (PowerLost b) = cond (nat_lt b (2 ^ 32)) (Some (because (plain 36) b)) None
device_report Refused = None
