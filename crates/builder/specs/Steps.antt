use Rattle.std.specs.Prelude.{◌≡◌, ℕ, ◌<◌, Bool, List}
use Rattle.layout.specs.Spans.{Span, Within}
use Rattle.history.specs.Entry.{Entry, Slot}
use Rattle.history.specs.Moments.{Builder}
use Rattle.history.specs.Calls.{Stepped}
use Rattle.builder.specs.declared.step.Step.{Step}
use Rattle.builder.specs.Meaning.{Behaviour, after, slot_at}

-- what is seen of a builder in a list of calls
abbrev pub erased : List Span → List Span → Builder
erased own rests = record { own = own; rests = rests }

-- what a taken step leaves: the meaning goes on by that step; of the body only own bits changed on which nothing rested,
-- and none of those rested on is dropped
pub record Goes (m m' : Behaviour) (s s' : Builder) (b b' : List ℕ) (d : ℕ) (x : Step) : Type 0 where
  pub means : m' ≡ after d x m
  pub leaves : Stepped s b s' b'

-- what a snapshot shows: the slots of the builder's meaning, with what each shows beside its mark; it rests on no bits but
-- those that the meaning rests on
pub record Shows (slots : List Slot) (shown : ℕ → Entry) (rests : List Span) (count size : ℕ) (mark : ℕ → Bool) (entry : ℕ → Entry) (sight : ℕ → Entry) (spans : List Span) : Type 0 where
  pub whole : size ≡ count
  pub marks : (i : ℕ) → i < count → mark i ≡ (slot_at slots i).present
  pub entries : (i : ℕ) → i < count → entry i ≡ (slot_at slots i).entry
  pub windows : (i : ℕ) → i < count → sight i ≡ shown i
  pub bits : (k : ℕ) → Within spans k → Within rests k
