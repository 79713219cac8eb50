use Rattle.std.proofs.Common.{◌≡◌, ℕ, ◌+◌, ◌≤◌, Option, ap, subst, arith}
use native.Mathlib.Bridge.{le_prop}
use Rattle.layout.specs.declared.marks.Marks.{Marks}
use Rattle.layout.specs.Marks.{marks_from}
use Rattle.slots.specs.declared.slots.Slots.{Slots}
use Rattle.slots.specs.Bounds.{length_limit, mark_first}
use Rattle.slots.specs.declared.null_buffer.NullBuffer.{NullBuffer}
use Rattle.slots.specs.Slots.{slots_cut}
use Rattle.slots.specs.Trials.{new_slots}

abbrev slots_of : (f l : ℕ) (ms : Option Marks) → f + l ≤ length_limit → mark_first ms + l ≤ length_limit → Slots
slots_of f l ms p q = record { first = f; len = l; marks = ms; words_end = p; marks_end = q }

abbrev Same : ℕ → ℕ → Option Marks → ℕ → ℕ → Option Marks → Type 0
Same f l ms f' l' ms' =
    (p : f + l ≤ length_limit) (q : mark_first ms + l ≤ length_limit) (p' : f' + l' ≤ length_limit) (q' : mark_first ms' + l' ≤ length_limit)
    → slots_of f l ms p q ≡ slots_of f' l' ms' p' q'

alike : (f l : ℕ) (ms : Option Marks) → Same f l ms f l ms
alike f l ms p q p' q' = λ i. slots_of f l ms (le_prop p p' i) (le_prop q q' i)

-- slots with the same numbers and marks are the same
pub same_slots : (s t : Slots) → s.first ≡ t.first → s.len ≡ t.len → s.marks ≡ t.marks → s ≡ t
same_slots s t e f g =
    subst (λ x. Same s.first s.len s.marks x t.len t.marks) e
    (subst (λ y. Same s.first s.len s.marks s.first y t.marks) f
    (subst (λ z. Same s.first s.len s.marks s.first s.len z) g (alike s.first s.len s.marks)))
    s.words_end s.marks_end t.words_end t.marks_end

-- a cut that is taken
pub cut_first : (s : Slots) (start n : ℕ) → start + n ≤ s.len → (slots_cut s start n).first ≡ s.first + start
cut_first s start n h = omega arith

pub cut_len : (s : Slots) (start n : ℕ) → start + n ≤ s.len → (slots_cut s start n).len ≡ n
cut_len s start n h = omega arith

pub cut_slots : (s : Slots) (start n : ℕ) → start + n ≤ s.len → (slots_cut s start n).marks ≡ marks_from s.marks start
cut_slots s start n h = ap (marks_from s.marks) (omega arith)

-- new slots of a length that is taken
pub new_len : (len : ℕ) (nulls : Option NullBuffer) → len ≤ length_limit → (new_slots len nulls).len ≡ len
new_len len nulls h = omega arith
