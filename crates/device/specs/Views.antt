-- What accesses come to on a list of blocks, of a device by the record of its members.
use Rattle.device.specs.declared.Device.{Ghosts}
use Rattle.device.specs.View.{OffRefuses, Views}

module _ {D : Type 0} (dev : Ghosts D) where
  abbrev pub ViewsOn : Type 0
  ViewsOn = Views dev.blocks dev.powered dev.reads dev.writes

  abbrev pub OffRefusesOn : Type 0
  OffRefusesOn = OffRefuses dev.powered dev.reads dev.writes
