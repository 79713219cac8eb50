use Rattle.std.specs.Prelude.{ℕ, ◌+◌, ◌-◌, ◌≤◌, min, true, List, [], None, Ok, Result}
use Rattle.std.proofs.Common.{arith}
use Rattle.ledger.specs.declared.stop.Stop.{Stop}
use Rattle.ledger.specs.Ledger.{Accounts}
use Rattle.history.specs.Entry.Entry.{absent}
use Rattle.history.specs.Moments.{Handle}
use Rattle.history.specs.Calls.{seen}
use Rattle.slots.specs.declared.slots.Slots.{Slots}
use Rattle.slots.specs.Bounds.{length_limit}
use Rattle.slots.specs.Trials.{and_then, bytes_reply, length_reply}
use Rattle.null_array.specs.declared.null_array.NullArray.{NullArray}

pub cut_limit : (len s n : ℕ) → len ≤ length_limit → min n (len - s) ≤ length_limit
cut_limit len s n h = omega arith

pub new_limit : (len : ℕ) → min len length_limit ≤ length_limit
new_limit len = omega arith

pub slots_limit : (len : ℕ) → len ≤ length_limit → 0 + len ≤ length_limit
slots_limit len h = omega arith

-- its slots: no mark is null
abbrev pub null_slots : NullArray → Slots
null_slots a =
    record { first = 0; len = a.len; marks = None; words_end = slots_limit a.len a.limit; marks_end = slots_limit a.len a.limit }

-- the n slots from a slot on, as far as there are so many
abbrev pub null_cut : NullArray → ℕ → ℕ → NullArray
null_cut a s n = record { len = min n (a.len - s); limit = cut_limit a.len s n a.limit }

-- a null leaf of a length (a longer one has been stopped)
abbrev pub null_leaf : ℕ → NullArray
null_leaf len = record { len = min len length_limit; limit = new_limit len }

-- its trial
abbrev pub null_reply : Accounts → List ℕ → ℕ → Result NullArray Stop
null_reply g b len = and_then (bytes_reply g b 0 None) (and_then (length_reply len) (Ok (null_leaf len)))

-- what is seen of it: present marks, absent entries, no bits
abbrev pub null_seen : NullArray → Handle
null_seen a = seen a.len (λ b i. true) (λ b i. absent) []
