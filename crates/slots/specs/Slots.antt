use Rattle.std.specs.Prelude.{ℕ, ◌+◌, ◌-◌, min, Bool, List}
use Rattle.layout.specs.Marks.{mark_of, mark_need_of, mark_spans, marks_from}
use Rattle.layout.specs.Spans.{Span}
use Rattle.slots.specs.declared.slots.Slots.{Slots}
use Rattle.slots.specs.Bounds.{cut_words, cut_marks}

-- whether slot i's mark is present
abbrev pub slot_mark : Slots → List ℕ → ℕ → Bool
slot_mark s b i = mark_of s.marks b i

-- the bit of slot i's mark
abbrev pub slot_need : Slots → ℕ → List Span
slot_need s i = mark_need_of s.marks i

-- the bits of all marks
abbrev pub slot_spans : Slots → List Span
slot_spans s = mark_spans s.marks s.len

-- the n slots from the slot start on, as far as there are so many: words and marks move together
abbrev pub slots_cut : Slots → ℕ → ℕ → Slots
slots_cut s start n =
    record {
      first = s.first + min start s.len;
      len = min n (s.len - start);
      marks = marks_from s.marks (min start s.len);
      words_end = cut_words s.first s.len start n s.words_end;
      marks_end = cut_marks s.marks s.len start n s.marks_end;
    }
