-- Which caller a declared one is, and which a declared limit.
use Rattle.framelaws.specs.Caller as frame
use Rattle.framelaws.specs.Caller.{service, service_within, emulator}
use Rattle.callers.specs.declared.Caller.{Caller}
use Rattle.callers.specs.declared.Caller.TheVariants as caller
use Rattle.callers.specs.declared.Limits.{Limits}
use Rattle.callers.specs.declared.Limits.TheVariants as limits

abbrev pub caller_of : Caller → frame.Caller
caller_of caller.Service = service
caller_of caller.Emulator = emulator

abbrev pub limits_of : Limits → frame.Caller
limits_of (limits.Service limit) = service_within limit
limits_of limits.Emulator = emulator
