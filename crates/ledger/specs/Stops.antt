use Rattle.std.specs.Prelude.{ℕ, ◌+◌, min}
use Rattle.ledger.specs.declared.stop.Reason.{Reason}
use Rattle.ledger.specs.declared.stop.Reason.TheVariants.{BodyLengthDiffers, BeyondBytes, NoOffsets, BelowZero, OffsetFalls, BeyondChild, RangeOverflows, MarkCountDiffers, SizeCountDiffers, ChildLengthDiffers, EntryAbsent, FormDiffers, TooLarge, NoPlaceLeft, NoSuchStep, NumberOutOfRange, FormTooLong, IndexPastEnd, NoRange}
use Rattle.ledger.specs.declared.stop.Stop.{Stop}

-- the number of each reason
abbrev pub number_of : Reason → ℕ
number_of BodyLengthDiffers = 1
number_of BeyondBytes = 2
number_of NoOffsets = 3
number_of BelowZero = 4
number_of OffsetFalls = 5
number_of BeyondChild = 6
number_of RangeOverflows = 7
number_of MarkCountDiffers = 8
number_of SizeCountDiffers = 9
number_of ChildLengthDiffers = 10
number_of EntryAbsent = 11
number_of FormDiffers = 12
number_of TooLarge = 13
number_of NoPlaceLeft = 14
number_of NoSuchStep = 15
number_of NumberOutOfRange = 16
number_of FormTooLong = 17
number_of IndexPastEnd = 18
number_of NoRange = 19

-- a stop at the layer called
abbrev pub stopped : Reason → Stop
stopped r = record { reason = r; depth = 0 }

-- a stop that passes one layer: one deeper, up to the largest depth that 32 bits hold
abbrev pub passed : Stop → Stop
passed s = record { reason = s.reason; depth = min (s.depth + 1) 4294967295 }
