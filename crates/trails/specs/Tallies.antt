use Rattle.std.specs.Prelude.{ℕ, ◌+◌, ◌-◌, ◌^◌, min, Result, Ok, Err}
use Rattle.trails.specs.declared.fault.Refusal.TheVariants.{Stopped, NotUnderstood}
use Rattle.trails.specs.declared.fault.Refusal.{Refusal}
use Rattle.trails.specs.declared.report.Shown.{Shown}
use Rattle.trails.specs.declared.report.Tally.{Tally}

-- one more, up to the largest number of 64 bits
abbrev pub one_more : ℕ → ℕ
one_more n = min (n + 1) (2 ^ 64 - 1)

-- a tally after one more outcome: the count of its kind rises, the others stay
abbrev pub counted : Tally → Result Shown Refusal → Tally
counted t (Ok s) = record t { shown = one_more t.shown }
counted t (Err (Stopped s)) = record t { stopped = one_more t.stopped }
counted t (Err (NotUnderstood f)) = record t { not_understood = one_more t.not_understood }
