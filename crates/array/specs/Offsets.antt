use Rattle.std.specs.Prelude.{ℕ, ◌-◌, ◌*◌, ◌^◌}

-- the largest offset of w bytes
abbrev pub largest_of : ℕ → ℕ
largest_of w = 2 ^ (8 * w - 1) - 1
