-- The eight fields of every refusal of the engine.
use Rattle.std.specs.Prelude.{ℕ, Some, Option}
use Rattle.fault.specs.Reports.{at_path, because, plain}
use Rattle.fault.specs.declared.Report.{Report}
use Rattle.edit.specs.Edited.{fault_report}
use Rattle.validate.specs.Rules.{rule_number}
use Rattle.store.specs.Faults.{store_report}
use Rattle.calls.specs.declared.faults.Refusal.{Refusal}
use Rattle.calls.specs.declared.faults.Refusal.TheVariants.{EditList, SessionNumber, DatastoreNumber, OptionNumber, CommitNumbers, TooManySeconds, InitialImage, ShortOutput, EngineOff, SessionNotOpen, LockedElsewhere, AlreadyLocked, CandidateModified, TrialElsewhere, TrialBound, PersistDiffers, NoTrial, SessionOpen, LockNotHeld}
use Rattle.calls.specs.declared.faults.EngineFault.{EngineFault}
use Rattle.calls.specs.declared.faults.EngineFault.TheVariants.{Plain, Schema, Item, Invalid, Store}

abbrev pub refusal_number : Refusal → ℕ
refusal_number EditList = 1
refusal_number SessionNumber = 2
refusal_number DatastoreNumber = 3
refusal_number OptionNumber = 4
refusal_number CommitNumbers = 5
refusal_number TooManySeconds = 10
refusal_number InitialImage = 12
refusal_number ShortOutput = 13
refusal_number EngineOff = 20
refusal_number SessionNotOpen = 21
refusal_number LockedElsewhere = 22
refusal_number AlreadyLocked = 23
refusal_number CandidateModified = 24
refusal_number TrialElsewhere = 25
refusal_number TrialBound = 26
refusal_number PersistDiffers = 27
refusal_number NoTrial = 28
refusal_number SessionOpen = 30
refusal_number LockNotHeld = 31

abbrev pub engine_report : EngineFault → Option Report
engine_report (Plain r) = Some (plain (refusal_number r))
engine_report (Schema f) = Some (at_path (plain 11) f.node 0 0)
engine_report (Item f) = Some (fault_report f)
engine_report (Invalid b) =
    Some (at_path (because (plain 29) (rule_number b.rule)) b.path.node b.path.k1 b.path.k2)
engine_report (Store f) = store_report f
