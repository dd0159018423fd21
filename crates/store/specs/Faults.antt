-- How a fault of the store is told.
use Rattle.std.specs.Prelude.{Some, Ok, Err, Option, Result}
use Rattle.fault.specs.Reports.{because, plain}
use Rattle.fault.specs.declared.Report.{Report}
use Rattle.device.specs.Reports.{device_report}
use Rattle.device.specs.declared.DeviceFault.{DeviceFault}
use Rattle.store.specs.declared.faults.StoreFault.{StoreFault}
use Rattle.store.specs.declared.faults.StoreFault.TheVariants.{TooSmall, Device, Corrupt}

-- 35; the device's; 37 with the block as cause
abbrev pub store_report : StoreFault → Option Report
store_report TooSmall = Some (plain 35)
store_report (Device f) = device_report f
store_report (Corrupt k) = Some (because (plain 37) k)

-- a device's answer to a list of accesses, as the store answers it
abbrev pub told : Result Unit DeviceFault → Result Unit StoreFault
told (Ok done) = Ok tt
told (Err f) = Err (Device f)
