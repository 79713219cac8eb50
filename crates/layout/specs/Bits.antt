use Rattle.std.specs.Prelude.{ℕ, zero, suc, ◌+◌, ◌*◌, ◌/◌, ◌%◌, ◌^◌, Bool, cond, List, length, Some, None, Option, ◌==◌, nat_le, nat_lt, slice_index}

-- bit k of a body, counted from the lowest of its first byte: 0 or 1
abbrev pub bit_at : List ℕ → ℕ → ℕ
bit_at b k = slice_index b (k / 8) / 2 ^ (k % 8) % 2

-- whether bit k is 1
abbrev pub bit_set : List ℕ → ℕ → Bool
bit_set b k = bit_at b k == 1

-- bit k, or nothing beyond the body
abbrev pub bit_reply : List ℕ → ℕ → Option Bool
bit_reply b k = cond (nat_lt k (8 * length b)) (Some (bit_set b k)) None

-- how many of the n bits from a bit on are 0
unfoldable pub zeros_from : List ℕ → ℕ → ℕ → ℕ
zeros_from b from zero = 0
zeros_from b from (suc n) = zeros_from b from n + cond (bit_set b (from + n)) 0 1

-- how many of the n bits from a bit on are 0, or nothing where one of them lies beyond the body
abbrev pub zeros_reply : List ℕ → ℕ → ℕ → Option ℕ
zeros_reply b from n =
    cond (n == 0) (Some 0) (cond (nat_le (from + n) (8 * length b)) (Some (zeros_from b from n)) None)
