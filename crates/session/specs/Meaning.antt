-- What the types of the code mean, as plain numbers.
use Rattle.std.specs.Prelude.{Some, None, Option}
use Rattle.session.specs.Numbers.{number_of, who}
use Rattle.session.specs.Locks.{Held}
use Rattle.session.specs.Trials.{Pending, Happening, begin, confirm, cancel, elapse, close, idle}
use Rattle.session.specs.declared.trial.Trial.{Trial}
use Rattle.session.specs.declared.trial.Waiting.{Waiting}
use Rattle.session.specs.declared.sessions.Sessions.{Sessions}
use Rattle.session.specs.declared.event.Event.{Event}
use Rattle.session.specs.declared.event.Event.TheVariants.{Started, Confirmed, Cancelled, Elapsed, Closed}

abbrev pub held_of : Sessions → Held
held_of h = record { sessions = h.«open»; running = who h.running; candidate = who h.candidate }

-- what waits, all 0 if nothing does
abbrev pub pending : Option Waiting → Pending
pending None = idle
pending (Some w) = record { owner = who w.owner; persist = w.persist; seconds = w.seconds }

abbrev pub trial_of : Trial → Pending
trial_of t = pending t.0

abbrev pub event_of : Event → Happening
event_of (Started by) = begin (number_of by.owner) by.timeout by.persist
event_of Confirmed = confirm
event_of Cancelled = cancel
event_of (Elapsed seconds) = elapse seconds
event_of (Closed s) = close (number_of s)
