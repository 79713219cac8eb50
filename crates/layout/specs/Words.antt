use Rattle.std.specs.Prelude.{ℕ, zero, suc, ◌+◌, ◌-◌, ◌*◌, ◌/◌, ◌%◌, ◌^◌, Bool, cond, List, [], ◌∷◌, length, ℤ, pos, negsuc, Some, None, Option, nat_le, nat_lt, slice_index, slice_set}

-- the byte at a place
abbrev pub byte_at : List ℕ → ℕ → ℕ
byte_at b p = slice_index b p % 256

-- the word of w bytes at a place, lowest byte first
unfoldable pub word_at : List ℕ → ℕ → ℕ → ℕ
word_at b p zero = 0
word_at b p (suc w) = byte_at b p + 256 * word_at b (p + 1) w

-- a word of w bytes as a signed number, and the word of a signed number
unfoldable pub signed_of : ℕ → ℕ → ℤ
signed_of w n = cond (nat_lt (2 * n) (256 ^ w)) (pos n) (negsuc (256 ^ w - suc n))

abbrev pub word_of : ℕ → ℤ → ℕ
word_of w (pos n) = n
word_of w (negsuc n) = 256 ^ w - suc n

-- w bytes from a place on lie in the body
abbrev pub word_fits : List ℕ → ℕ → ℕ → Bool
word_fits b p w = nat_le (p + w) (length b)

-- what `of` makes of the word of w bytes at a place, or nothing where it does not lie in the body
abbrev pub number_reply : {X : Type 0} → (ℕ → X) → ℕ → List ℕ → ℕ → Option X
number_reply of w b p = cond (word_fits b p w) (Some (of (word_at b p w))) None

-- the word of w bytes at a place, or nothing where it does not lie in the body
abbrev pub word_reply : List ℕ → ℕ → ℕ → Option ℕ
word_reply b p w = cond (word_fits b p w) (Some (word_at b p w)) None

-- the same as a signed number
abbrev pub signed_reply : List ℕ → ℕ → ℕ → Option ℤ
signed_reply b p w = cond (word_fits b p w) (Some (signed_of w (word_at b p w))) None

-- the lowest w bytes of a number, lowest first
abbrev pub bytes_of : ℕ → ℕ → List ℕ
bytes_of zero v = []
bytes_of (suc w) v = (v % 256) ∷ bytes_of w (v / 256)

-- a body with these bytes from a place on
abbrev pub put_bytes : List ℕ → ℕ → List ℕ → List ℕ
put_bytes b p [] = b
put_bytes b p (x ∷ xs) = put_bytes (slice_set b p x) (p + 1) xs

-- a body with the number v written as w bytes at a place
abbrev pub put_word : ℕ → List ℕ → ℕ → ℕ → List ℕ
put_word w b p v = put_bytes b p (bytes_of w v)

-- the same where the word lies in the body, else the body as it was
abbrev pub written : ℕ → List ℕ → ℕ → ℕ → List ℕ
written w b p v = cond (word_fits b p w) (put_word w b p v) b
