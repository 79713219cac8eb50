use Rattle.std.specs.Prelude.{ℕ, List, ◌++◌, replicate}
use Rattle.builder.specs.declared.step.Step.{Step}
use Rattle.builder.specs.declared.step.Step.TheVariants.{Value, Null, Nulls, Close}

-- a layer's own rows, one for each slot, and for how many it has places
pub record Table (R : Type 0) : Type 0 where
  pub room : ℕ
  pub rows : List R

-- n rows more, all alike
abbrev pub pushed : {R : Type 0} → Table R → ℕ → R → Table R
pushed t n r = record { room = t.room; rows = t.rows ++ replicate n r }

-- how many slots a taken step makes
abbrev pub step_slots : Step → ℕ
step_slots (Value v) = 1
step_slots Null = 1
step_slots (Nulls n) = n
step_slots (Close valid) = 1
