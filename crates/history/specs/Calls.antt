use Rattle.std.specs.Prelude.{◌≡◌, List, [], ◌∷◌, ◌⊎◌, Bool, cond, eqb, length, ℕ, ◌*◌, ◌<◌, ◌≤◌}
use Rattle.layout.specs.Bits.{bit_at}
use Rattle.history.specs.Entry.{Entry}
use Rattle.layout.specs.Spans.{Span, Within}
use Rattle.history.specs.Moments.{Handle, Framed, Builder, Traced, Moment, In, HandleBit, Next, Reached}

-- what is seen of an array
abbrev pub seen : ℕ → (List ℕ → ℕ → Bool) → (List ℕ → ℕ → Entry) → List Span → Handle
seen size mark f ss =
    record { count = size; slot = (λ b i. record { present = mark b i; entry = f b i }); rests = ss }

-- a moment with one handle more
abbrev pub with_handle : Traced → Moment → Moment
with_handle x m =
    record { body = m.body; loaded = m.loaded; used = m.used; builder = m.builder; handles = x ∷ m.handles }

abbrev pub put : ℕ → Builder → (ℕ → Builder) → ℕ → Builder
put j x f i = cond (eqb i j) x (f i)

-- a moment with another body and another builder of number j
abbrev pub with_builder : ℕ → Builder → List ℕ → Moment → Moment
with_builder j x b m =
    record { body = b; loaded = m.loaded; used = m.used; builder = put j x m.builder; handles = m.handles }

-- a moment with another body and other reservations
abbrev pub with_ledger : ℕ → List ℕ → Moment → Moment
with_ledger used b m =
    record { body = b; loaded = m.loaded; used = used; builder = m.builder; handles = m.handles }

-- a moment with a ledger just opened
abbrev pub opened : List ℕ → ℕ → Moment
opened b loaded =
    record { body = b; loaded = loaded; used = loaded; builder = (λ j. record { own = []; rests = [] }); handles = [] }

-- a handle as its own first handle, and a handle cut from y
abbrev pub as_first : Handle → List ℕ → Traced
as_first h b = record { handle = h; first = h; before = b; cuts = [] }

abbrev pub as_cut : Traced → Handle → ℕ → ℕ → Traced
as_cut y h start n =
    record { handle = h; first = y.first; before = y.before; cuts = (start, n) ∷ y.cuts }

-- a stopped call leads from each moment to itself
abbrev pub StopLeads : Type 0
StopLeads = (m : Moment) → Next m m

-- a cut of a leads from each moment that has a to one that has the cut r too
abbrev pub CutLeads : Handle → ℕ → ℕ → Handle → Type 0
CutLeads a start n r =
    (m : Moment) (y : Traced) → In y m.handles → y.handle ≡ a → Next m (with_handle (as_cut y r start n) m)

-- a trial over a child that rests on loaded bits and on those of handles; a leaf has no child's bits
abbrev pub TrialLeads : List ℕ → ℕ → List Span → Handle → Type 0
TrialLeads b loaded child r =
    (m : Moment) → m.body ≡ b → m.loaded ≡ loaded
    → ((k : ℕ) → Within child k → (k < 8 * loaded) ⊎ HandleBit m k)
    → Next m (with_handle (as_first r b) m)

-- a reservation that gives its bytes to nobody yet
abbrev pub ReserveLeads : ℕ → ℕ → Type 0
ReserveLeads used used' = (m : Moment) → m.used ≡ used → Next m (with_ledger used' m.body m)

-- a ledger is opened on a body of so many bytes, whatever they hold
abbrev pub OpenLeads : ℕ → ℕ → Type 0
OpenLeads size loaded = (b : List ℕ) → length b ≡ size → Reached (opened b loaded)

-- a step of a builder
abbrev pub StepLeads : Builder → List ℕ → Builder → List ℕ → Type 0
StepLeads s b s' b' =
    (m : Moment) (j : ℕ) → m.body ≡ b → m.builder j ≡ s → Next m (with_builder j s' b' m)

-- what a taken step leaves: every bit but those that the builder owns and does not rest on
pub record Stepped (s : Builder) (b : List ℕ) (s' : Builder) (b' : List ℕ) : Type 0 where
  pub size : length b' ≡ length b
  pub kept : (k : ℕ) → (Within s.own k → Within s.rests k) → bit_at b k ≡ bit_at b' k
  pub owned : (k : ℕ) → Within s'.own k → Within s.own k
  pub grows : (k : ℕ) → Within s.rests k → Within s'.rests k
  pub rested : (k : ℕ) → Within s'.rests k → Within s.rests k ⊎ Within s'.own k

-- a snapshot of a builder
abbrev pub SnapshotLeads : Builder → List ℕ → Handle → Type 0
SnapshotLeads s b r = (m : Moment) (j : ℕ) → m.body ≡ b → m.builder j ≡ s → Next m (with_handle (as_first r b) m)

-- a finish uses the builder up
abbrev pub FinishLeads : Builder → List ℕ → Handle → Type 0
FinishLeads s b r =
    (m : Moment) (j : ℕ) → m.body ≡ b → m.builder j ≡ s
    → Next m (with_handle (as_first r b) (with_builder j (record { own = []; rests = [] }) b m))

-- a handle that shows what y shows
abbrev pub as_same : Traced → Handle → Traced
as_same y h = record { handle = h; first = y.first; before = y.before; cuts = y.cuts }

-- a conversion of a, which reserves bytes and writes there
abbrev pub TurnLeads : Handle → ℕ → List ℕ → Handle → ℕ → List ℕ → Type 0
TurnLeads a used b r used' b' =
    (m : Moment) (y : Traced) → In y m.handles → y.handle ≡ a → m.used ≡ used → m.body ≡ b
    → Next m (with_handle (as_same y r) (with_ledger used' b' m))

-- a new builder, or a new layer over a builder: what it owns more is what it reserved
abbrev pub NewLeads : Builder → ℕ → List ℕ → Builder → ℕ → List ℕ → Type 0
NewLeads s used b s' used' b' =
    (m : Moment) (j : ℕ) → m.builder j ≡ s → m.used ≡ used → m.body ≡ b
    → Next m (with_ledger used' b' (with_builder j s' b' m))

-- what a taken conversion leaves: the bytes that were reserved, and the same slots
pub record Turned (a : Handle) (used : ℕ) (b : List ℕ) (r : Handle) (used' : ℕ) (b' : List ℕ) : Type 0 where
  pub size : length b' ≡ length b
  pub grows : used ≤ used'
  pub kept : (k : ℕ) → k < 8 * used → bit_at b k ≡ bit_at b' k
  pub count : r.count ≡ a.count
  pub shows : (i : ℕ) → i < a.count → r.slot b' i ≡ a.slot b i
  pub bits : (k : ℕ) → Within r.rests k → Within a.rests k ⊎ ((8 * used ≤ k) × (k < 8 * used'))

-- what a new builder leaves, or a new layer s' over the builder s (for a leaf: over nothing)
pub record Built (s : Builder) (used : ℕ) (b : List ℕ) (s' : Builder) (used' : ℕ) (b' : List ℕ) : Type 0 where
  pub size : length b' ≡ length b
  pub longer : used ≤ used'
  pub kept : (k : ℕ) → k < 8 * used → bit_at b k ≡ bit_at b' k
  pub owned : (k : ℕ) → Within s'.own k → Within s.own k ⊎ ((8 * used ≤ k) × (k < 8 * used'))
  pub grows : (k : ℕ) → Within s.rests k → Within s'.rests k
  pub rested : (k : ℕ) → Within s'.rests k → Within s.rests k ⊎ Within s'.own k

-- what each kind of call's own contract says is enough for it to lead on
abbrev pub CallsLead : Type 0
CallsLead =
    StopLeads
    × ((s : Builder) (b : List ℕ) (s' : Builder) (b' : List ℕ) → Stepped s b s' b' → StepLeads s b s' b')
    × ((a : Handle) (used : ℕ) (b : List ℕ) (r : Handle) (used' : ℕ) (b' : List ℕ) → Framed r → Turned a used b r used' b' → TurnLeads a used b r used' b')
    × ((s : Builder) (used : ℕ) (b : List ℕ) (s' : Builder) (used' : ℕ) (b' : List ℕ) → Built s used b s' used' b' → NewLeads s used b s' used' b')
    × ((s : Builder) (b : List ℕ) (r : Handle) → Framed r → ((k : ℕ) → Within r.rests k → Within s.rests k) → SnapshotLeads s b r × FinishLeads s b r)
