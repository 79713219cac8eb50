use Rattle.std.specs.Prelude.{◌≡◌, ℕ, ◌-◌, ◌<◌, ◌≤◌, Bool, true, false, cond, List, [], map, length, Some, None, Ok, Err, Option, Result, ◌==◌, slice_index_or}
use Rattle.ledger.specs.declared.stop.Stop.{Stop}
use Rattle.ledger.specs.declared.stop.Reason.TheVariants.{NoSuchStep, TooLarge}
use Rattle.ledger.specs.Stops.{stopped, passed}
use Rattle.form.specs.declared.data_type.DataType.{DataType}
use Rattle.form.specs.declared.data_type.Field.{Field}
use Rattle.history.specs.Entry.{Entry, Slot}
use Rattle.history.specs.Entry.Entry.{absent}
use Rattle.slots.specs.Trials.{and_then}
use Rattle.array.specs.Windows.{Range, window_in}
use Rattle.rows.specs.Rows.{listed, room_reply}
use Rattle.builder.specs.declared.step.Step.{Step}
use Rattle.builder.specs.declared.step.Step.TheVariants.{Value, Null, Nulls, Close}
use Rattle.builder.specs.Meaning.{Seen, Behaviour, held, entry_of, on_ok, deeper, child_next, run}
use Rattle.builder.specs.Tables.{Table, pushed, step_slots}

-- A layer over a child builder. R is what a row of it holds, E what else it holds: an offset layer its first offset, a view
-- layer its current offset.
pub record Layer (R E : Type 0) : Type 0 where
  pub table : Table R
  pub extra : E
  pub child : Behaviour
  pub field : Option Field

-- the mark of the slots that a step makes
abbrev pub valid_of : Step → Bool
valid_of (Value v) = true
valid_of Null = false
valid_of (Nulls n) = false
valid_of (Close valid) = valid

-- a field that was given, or the child's form, nullable
abbrev pub field_or : Option Field → DataType → Field
field_or None f = record { nullable = true; form = f }
field_or (Some x) f = x

-- a layer's own step: whether it has the step, whether there is a place, whether the new offsets are small enough (no new
-- slot, no offset)
abbrev pub own_test : Bool → Bool → ℕ → ℕ → Step → Result (Unit {0}) Stop
own_test has small count room s =
    cond has
    (and_then (room_reply count room (step_slots s)) (cond (step_slots s == 0) (Ok tt) (cond small (Ok tt) (Err (stopped TooLarge)))))
    (Err (stopped NoSuchStep))

-- What sets the kinds of layers apart: which steps a layer has; whether the offsets over a child of so many entries are small
-- enough for a step; the row that a step writes and what else it changes; the mark of a row, and slot i's range in the child;
-- and the tests of a snapshot over a child of a form, which give the layer's form.
module _ {R E : Type 0} (has : Step → Bool) (small : ℕ → Step → Bool) (row : E → ℕ → Step → R) (then : E → ℕ → Step → E)
    (mark : R → Bool) (range : List R → E → ℕ → ℕ → Option Range) (tests : Layer R E → Field → DataType → Result DataType Stop) where
  abbrev pub layer_own : Layer R E → Step → Result (Unit {0}) Stop
  layer_own l s = own_test (has s) (small (held l.child) s) (length l.table.rows) l.table.room s

  -- a step at depth 0 is the layer's own, a deeper one is its child's
  abbrev pub layer_reply : Layer R E → ℕ → Step → Result (Unit {0}) Stop
  layer_reply l d s = cond (d == 0) (layer_own l s) (deeper ((l.child []).replies (d - 1) s))

  abbrev pub layer_taken : Layer R E → Step → Layer R E
  layer_taken l s =
      record {
        table = pushed l.table (step_slots s) (row l.extra (held l.child) s);
        extra = then l.extra (held l.child) s;
        child = l.child;
        field = l.field;
      }

  abbrev pub layer_next : Layer R E → ℕ → Step → Layer R E
  layer_next l d s =
      cond (d == 0) (on_ok (layer_own l s) (layer_taken l s) l)
      (record { table = l.table; extra = l.extra; child = child_next l.child (d - 1) s; field = l.field })

  -- what slot i shows: its window, in a null slot too
  abbrev pub layer_shown : Layer R E → ℕ → Entry
  layer_shown l i = window_in (entry_of l.child) (range l.table.rows l.extra (held l.child) i)

  abbrev pub layer_mark : Layer R E → ℕ → Bool
  layer_mark l i = slice_index_or (map mark l.table.rows) i true

  -- its entry is absent where its mark is null
  abbrev pub layer_slot : Layer R E → ℕ → Slot
  layer_slot l i = record { present = layer_mark l i; entry = cond (layer_mark l i) (layer_shown l i) absent }

  abbrev pub layer_slots : Layer R E → List Slot
  layer_slots l = listed (layer_slot l) (length l.table.rows)

  -- a snapshot: the child's stop, then the tests
  abbrev pub layer_shot : Layer R E → Result DataType Stop → Result DataType Stop
  layer_shot l (Ok f) = tests l (field_or l.field f) f
  layer_shot l (Err e) = Err (passed e)

  abbrev pub layer_sees : Layer R E → Seen
  layer_sees l = record { slots = layer_slots l; replies = layer_reply l; shot = layer_shot l (l.child []).shot }

  abbrev pub layer_means : Layer R E → Behaviour
  layer_means l = run layer_sees layer_next l

-- a range that goes on from the same entry, at least as far; none becomes any
abbrev pub Wider : Option Range → Option Range → Type 0
Wider None r = Unit {0}
Wider (Some p) None = ⊥
Wider (Some p) (Some q) = (q.0 ≡ p.0) × (p.1 ≤ q.1)

-- a range whose entries, if there is one, lie in a child of so many
abbrev pub Reaches : ℕ → Option Range → Type 0
Reaches size None = Unit {0}
Reaches size (Some p) = p.0 < p.1 → p.1 ≤ size
