-- Neither caller's runs are wider than the service's.
use Prim.Native.Nat.{◌≤◌}
use native.Mathlib.Omega.{arith}
use Rattle.framelaws.specs.Caller.{widest_run}
use Rattle.callers.specs.declared.Caller.{Caller}
use Rattle.callers.specs.declared.Caller.TheVariants as caller
use Rattle.callers.specs.Meaning.{caller_of}

pub widest_within : (c : Caller) → (caller_of c).widest ≤ widest_run
widest_within caller.Service = omega arith
widest_within caller.Emulator = omega arith
