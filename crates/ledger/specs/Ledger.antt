use Rattle.std.specs.Prelude.{ℕ, ◌+◌, ◌*◌, ◌/◌, Bool, cond, Ok, Err, Result, nat_le, ◌^◌, ◌<◌, ◌≤◌}
use Rattle.ledger.specs.declared.stop.Reason.TheVariants.{BeyondBytes, NoPlaceLeft}
use Rattle.ledger.specs.declared.stop.Stop.{Stop}
use Rattle.ledger.specs.Stops.{stopped}

-- what a ledger holds: the body's length, the loaded bytes, and the end of the last reservation
pub record Accounts : Type 0 where
  pub length : ℕ
  pub loaded : ℕ
  pub end : ℕ

-- what holds of every ledger: reservations lie after the loaded bytes and inside the body, whose length has 64 bits
pub record Kept (a : Accounts) : Type 0 where
  pub after_loaded : a.loaded ≤ a.end
  pub inside : a.end ≤ a.length
  pub sized : a.length < 2 ^ 64

-- the reply of an opening, by what the ledger then holds
abbrev pub opening : ℕ → ℕ → Result Accounts Stop
opening length loaded =
    cond (nat_le loaded length) (Ok (record { length = length; loaded = loaded; end = loaded })) (Err (stopped BeyondBytes))

-- the first multiple of 8 at or after e
abbrev pub aligned : ℕ → ℕ
aligned e = (e + 7) / 8 * 8

-- start and end of a place for so many bytes behind e, in a body of a length
abbrev pub place_behind : ℕ → ℕ → ℕ → Result (ℕ × ℕ) Stop
place_behind length e bytes =
    cond (nat_le (aligned e + bytes) length) (Ok (aligned e, aligned e + bytes)) (Err (stopped NoPlaceLeft))

-- whether so many bytes have a place
abbrev pub has_place : Accounts → ℕ → Bool
has_place a bytes = nat_le (aligned a.end + bytes) a.length

-- the reply of a reservation
abbrev pub reservation : Accounts → ℕ → Result ℕ Stop
reservation a bytes = cond (has_place a bytes) (Ok (aligned a.end)) (Err (stopped NoPlaceLeft))

-- the ledger after it
abbrev pub reserved : Accounts → ℕ → Accounts
reserved a bytes =
    cond (has_place a bytes) (record { length = a.length; loaded = a.loaded; end = aligned a.end + bytes }) a

-- where the second of two runs of bytes starts
abbrev pub second : Accounts → ℕ → ℕ
second a bytes = aligned (aligned a.end + bytes)

-- whether two runs of bytes, one after the other, have a place
abbrev pub have_places : Accounts → ℕ → ℕ → Bool
have_places a bytes more = nat_le (second a bytes + more) a.length

-- the reply of two reservations, both or neither, and the ledger after it
abbrev pub reservation2 : Accounts → ℕ → ℕ → Result (ℕ × ℕ) Stop
reservation2 a bytes more = cond (have_places a bytes more) (Ok (aligned a.end, second a bytes)) (Err (stopped NoPlaceLeft))

abbrev pub reserved2 : Accounts → ℕ → ℕ → Accounts
reserved2 a bytes more =
    cond (have_places a bytes more) (record { length = a.length; loaded = a.loaded; end = second a bytes + more }) a
