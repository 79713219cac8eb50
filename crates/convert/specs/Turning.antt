use Rattle.std.specs.Prelude.{ℕ, zero, suc, ◌-◌, ◌*◌, Bool, true, false, cond, List, [], length, is_ok, Ok, Err, Result, ◌==◌, nat_le}
use Rattle.ledger.specs.declared.stop.Stop.{Stop}
use Rattle.ledger.specs.declared.stop.Reason.TheVariants.{BodyLengthDiffers, BeyondBytes, NoRange, TooLarge}
use Rattle.ledger.specs.Stops.{stopped}
use Rattle.ledger.specs.Ledger.{Accounts, aligned, second, reservation2, reserved2}
use Rattle.form.specs.declared.data_type.Field.{Field}
use Rattle.layout.specs.Spans.{Span, in_body}
use Rattle.slots.specs.declared.slots.Slots.{Slots}
use Rattle.slots.specs.Replies.{find_reply}
use Rattle.slots.specs.Trials.{and_then}
use Rattle.checks.specs.Checks.{absent_count, absent_reply, taken}
use Rattle.array.specs.declared.array.Array.{Ghosts}
use Rattle.array.specs.Offsets.{largest_of}
use Rattle.array.specs.Windows.{Range}
use Rattle.list_array.specs.declared.list_array.GenericListArray.{GenericListArray}
use Rattle.list_array.specs.Offsets.{list_range, list_need, list_words}
use Rattle.list_view_array.specs.declared.list_view_array.GenericListViewArray.{GenericListViewArray}
use Rattle.fixed_size_list_array.specs.declared.fixed_size_list_array.FixedSizeListArray.{FixedSizeListArray}
use Rattle.fixed_size_list_array.specs.Fixed.{fixed_range}
use Rattle.convert.specs.Writing.{views_put, fresh_slots}

-- each of the first n replies is taken
unfoldable pub all_ok : {X : Type 0} → (ℕ → Result X Stop) → ℕ → Bool
all_ok f zero = true
all_ok f (suc n) = cond (all_ok f n) (is_ok (f n)) false

-- the bits of the offsets of all slots; none where there is no slot
abbrev pub offset_spans : ℕ → ℕ → Slots → List Span
offset_spans w place s = cond (s.len == 0) [] (list_words w place s)

-- the tests of a conversion of a list to a view: the body is the ledger's, the offsets lie in it, and so do the bits that
-- tell absent entries where those matter; each slot has a range; nothing is absent where the field is not nullable
abbrev pub turn_tests : Accounts → List ℕ → Bool → Bool → Result ℕ Stop → Bool → Result (Unit {0}) Stop
turn_tests g b inside nullable count found =
    cond (length b == g.length)
    (and_then (cond inside (Ok tt) (Err (stopped BeyondBytes)))
    (and_then (cond nullable (Ok tt) (taken count))
    (and_then (cond found (Ok tt) (Err (stopped NoRange))) (absent_reply nullable count))))
    (Err (stopped BodyLengthDiffers))

-- what is made of a reply that is taken
abbrev pub made : {X Y : Type 0} → (X → Y) → Result X Stop → Result Y Stop
made f (Ok x) = Ok (f x)
made f (Err e) = Err e

-- starts i × size and the size itself are offsets of w bytes, for every slot
abbrev pub starts_small : ℕ → ℕ → ℕ → Bool
starts_small w size len =
    cond (len == 0) true (cond (nat_le ((len - 1) * size) (largest_of w)) (nat_le size (largest_of w)) false)

-- the tests of a conversion of a fixed list: the body is the ledger's, each slot has a range, the words are not too large
abbrev pub fixed_tests : Accounts → List ℕ → Bool → Bool → Result (Unit {0}) Stop
fixed_tests g b found small =
    cond (length b == g.length)
    (and_then (cond found (Ok tt) (Err (stopped NoRange))) (cond small (Ok tt) (Err (stopped TooLarge))))
    (Err (stopped BodyLengthDiffers))

-- the ranges of an offset list over a child of so many entries, on each body
abbrev pub list_ranges : {O C : Type 0} → ℕ → ℕ → GenericListArray O C → List ℕ → ℕ → Result Range Stop
list_ranges w size a = λ b i. find_reply a.slots.len (list_need w a.place a.slots) (list_range w a.place a.slots size b) b i

-- the same of a fixed list
abbrev pub fixed_ranges : {C : Type 0} → ℕ → FixedSizeListArray C → List ℕ → ℕ → Result Range Stop
fixed_ranges size a = λ b i. find_reply a.slots.len (λ j. []) (fixed_range a.size size) b i

-- the tests of a list over a child by its own members
abbrev pub list_tests : {O C : Type 0} → ℕ → Ghosts C → Accounts → List ℕ → GenericListArray O C → Result (Unit {0}) Stop
list_tests w array g b a =
    turn_tests g b (in_body (offset_spans w a.place a.slots) b) a.field.nullable (absent_count array a.child b) (all_ok (list_ranges w (array.size a.child) a b) a.slots.len)

-- the same of a fixed list
abbrev pub fixed_list_tests : {C : Type 0} → ℕ → Ghosts C → Accounts → List ℕ → FixedSizeListArray C → Result (Unit {0}) Stop
fixed_list_tests w array g b a = fixed_tests g b (all_ok (fixed_ranges (array.size a.child) a b) a.slots.len) (starts_small w a.size a.slots.len)

-- the two places of so many starts and sizes of w bytes
abbrev pub places : ℕ → Accounts → ℕ → Result (ℕ × ℕ) Stop
places w g len = reservation2 g (w * len) (w * len)

-- what a conversion that replies so leaves in the ledger: the two places, and after a stop all as it was
abbrev pub ledger_after : {X : Type 0} → ℕ → Accounts → ℕ → Result X Stop → Accounts
ledger_after w g len reply = cond (is_ok reply) (reserved2 g (w * len) (w * len)) g

-- and in the body: the words of each range, and after a stop all as it was
abbrev pub body_after : {X : Type 0} → ℕ → Accounts → (List ℕ → ℕ → Result Range Stop) → List ℕ → ℕ → Result X Stop → List ℕ
body_after w g ranges b len reply = cond (is_ok reply) (views_put w ranges (aligned g.end) (second g (w * len)) b len) b

-- the view with its words at two places: the slots from the first word on, the same marks, field and child
abbrev pub view_made : {O C : Type 0} → Slots → Field → C → ℕ × ℕ → GenericListViewArray O C
view_made s field child p =
    record { starts = p.0; sizes = p.1; slots = fresh_slots s; field = field; child = child; kind = record {} }
