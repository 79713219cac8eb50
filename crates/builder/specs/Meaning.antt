use Rattle.std.specs.Prelude.{ℕ, true, cond, List, [], ◌∷◌, length, Ok, Err, Result, ◌==◌, slice_index_or}
use Rattle.ledger.specs.declared.stop.Stop.{Stop}
use Rattle.ledger.specs.declared.stop.Reason.TheVariants.{BodyLengthDiffers}
use Rattle.ledger.specs.Stops.{stopped, passed}
use Rattle.form.specs.declared.data_type.DataType.{DataType}
use Rattle.history.specs.Entry.{Entry, Slot}
use Rattle.history.specs.Entry.Entry.{absent}
use Rattle.builder.specs.declared.step.Step.{Step}

-- what is seen of a builder: its slots, what each step would answer at each depth, and the form or the stop of a snapshot
pub record Seen : Type 0 where
  pub slots : List Slot
  pub replies : ℕ → Step → Result (Unit {0}) Stop
  pub shot : Result DataType Stop

-- steps, each with its depth
abbrev pub Steps : Type 0
Steps = List (ℕ × Step)

-- a builder's meaning: what is seen of it after any list of steps. Builders of two kinds have equal meaning where these
-- functions are equal.
abbrev pub Behaviour : Type 0
Behaviour = Steps → Seen

-- the meaning after one step more
abbrev pub after : ℕ → Step → Behaviour → Behaviour
after d s m = λ rest. m ((d, s) ∷ rest)

-- the meaning of a state, by what is seen of a state and the state after a step
abbrev pub run : {S : Type 0} → (S → Seen) → (S → ℕ → Step → S) → S → Behaviour
run see next s [] = see s
run see next s (a ∷ rest) = run see next (next s a.0 a.1) rest

-- the state that steps lead to
abbrev pub ran : {S : Type 0} → (S → ℕ → Step → S) → S → Steps → S
ran next s [] = s
ran next s (a ∷ rest) = ran next (next s a.0 a.1) rest

-- how many entries a builder holds, and its entry i
abbrev pub held : Behaviour → ℕ
held m = length (m []).slots

abbrev pub slot_at : List Slot → ℕ → Slot
slot_at ss i = slice_index_or ss i (record { present = true; entry = absent })

abbrev pub entry_of : Behaviour → ℕ → Entry
entry_of m i = (slot_at (m []).slots i).entry

-- one thing where a reply is taken, another where it is stopped
abbrev pub on_ok : {A X : Type 0} → Result X Stop → A → A → A
on_ok (Ok x) taken stays = taken
on_ok (Err e) taken stays = stays

-- a reply that passes one layer
abbrev pub deeper : {X : Type 0} → Result X Stop → Result X Stop
deeper (Ok x) = Ok x
deeper (Err e) = Err (passed e)

-- a child's meaning after a step at its depth d, taken or stopped
abbrev pub child_next : Behaviour → ℕ → Step → Behaviour
child_next m d s = on_ok ((m []).replies d s) (after d s m) m

-- a reply on a body: stopped where the body's length is not the builder's
abbrev pub on_body : {X : Type 0} → ℕ → List ℕ → Result X Stop → Result X Stop
on_body size b r = cond (length b == size) r (Err (stopped BodyLengthDiffers))

-- the form of what a snapshot gives, or its stop
abbrev pub form_in : {X : Type 0} → (X → DataType) → Result X Stop → Result DataType Stop
form_in form (Ok x) = Ok (form x)
form_in form (Err e) = Err e
