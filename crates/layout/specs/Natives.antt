use Rattle.std.specs.Prelude.{ℕ, suc, ◌-◌, ◌*◌, ◌^◌, cond, ℤ, pos, negsuc, Some, None, Option, nat_le, nat_lt}

-- the word of an unsigned or a signed number in w bytes; nothing where the number lies outside their range
abbrev pub unsigned_word : ℕ → ℤ → Option ℕ
unsigned_word w (pos n) = cond (nat_lt n (256 ^ w)) (Some n) None
unsigned_word w (negsuc n) = None

abbrev pub signed_word : ℕ → ℤ → Option ℕ
signed_word w (pos n) = cond (nat_lt (2 * n) (256 ^ w)) (Some n) None
signed_word w (negsuc n) = cond (nat_le (2 * suc n) (256 ^ w)) (Some (256 ^ w - suc n)) None
