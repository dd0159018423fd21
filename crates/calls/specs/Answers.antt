-- The answer to a call, by what it came to.
use Rattle.std.specs.Prelude.{Ok, Err, Result}
use Rattle.calls.specs.declared.call.Answer.{Answer}
use Rattle.calls.specs.declared.call.Answer.TheVariants.{Done, Shown, Refused}
use Rattle.calls.specs.declared.call.Image.{Image}
use Rattle.calls.specs.declared.faults.EngineFault.{EngineFault}

-- a call that shows nothing
abbrev pub answered : Result Unit EngineFault → Answer
answered (Ok done) = Done
answered (Err f) = Refused f

-- a call that shows an image
abbrev pub shown : Result Image EngineFault → Answer
shown (Ok i) = Shown i
shown (Err f) = Refused f
