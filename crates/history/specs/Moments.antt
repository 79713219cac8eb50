use Rattle.std.specs.Prelude.{◌≡◌, List, [], ◌∷◌, ◌⊎◌, ℕ, ◌+◌, ◌*◌, ◌<◌, ◌≤◌, length}
use Rattle.layout.specs.Bits.{bit_at}
use Rattle.history.specs.Entry.{Slot}
use Rattle.layout.specs.Spans.{Span, Within, Alike}

-- A law over every list of calls on one body. Handles and builders are erased to what is seen of them; there is no data
-- type of calls: one call is any step from moment to moment that `Next` allows, and each public call's contract says
-- that it is such a step.

-- what is seen of a handle: how many slots it has, what each shows on a body, and the bits on which that rests
pub record Handle : Type 0 where
  pub count : ℕ
  pub slot : List ℕ → ℕ → Slot
  pub rests : List Span

-- bodies alike in those bits show the same slots
abbrev pub Framed : Handle → Type 0
Framed h = (b c : List ℕ) → Alike h.rests b c → (i : ℕ) → i < h.count → h.slot b i ≡ h.slot c i

-- what is seen of a builder: the bits of its reservations, and the bits that its meaning rests on
pub record Builder : Type 0 where
  pub own : List Span
  pub rests : List Span

-- a handle with where it comes from: its first handle (the one that a trial, a snapshot or a finish made), the body when
-- that was made, and the taken cuts behind it (start and n), the last one first
pub record Traced : Type 0 where
  pub handle : Handle
  pub first : Handle
  pub before : List ℕ
  pub cuts : List (ℕ × ℕ)

-- the distance of a handle: the starts of the cuts behind it, added up
abbrev pub distance : List (ℕ × ℕ) → ℕ
distance [] = 0
distance (c ∷ cs) = distance cs + c.0

-- the last cut's n or, uncut, as many as the first handle has
abbrev pub slots_shown : ℕ → List (ℕ × ℕ) → ℕ
slots_shown size [] = size
slots_shown size (c ∷ cs) = c.1

-- between two calls: the body, the bytes loaded and those reserved, the builders by number (one that is not there
-- owns nothing), and the handles
pub record Moment : Type 0 where
  pub body : List ℕ
  pub loaded : ℕ
  pub used : ℕ
  pub builder : ℕ → Builder
  pub handles : List Traced

abbrev pub In : Traced → List Traced → Type 0
In x [] = ⊥
In x (y ∷ ys) = (x ≡ y) ⊎ In x ys

-- a bit is reserved (or loaded), and a builder that owns it rests on it
abbrev pub Settled : Moment → ℕ → Type 0
Settled m k = (k < 8 * m.used) × ((j : ℕ) → Within (m.builder j).own k → Within (m.builder j).rests k)

-- a bit that the call from m to m' reserved
abbrev pub Fresh : Moment → Moment → ℕ → Type 0
Fresh m m' k = (8 * m.used ≤ k) × (k < 8 * m'.used)

-- the same, and the call gave no builder more bits
abbrev pub FreshFree : Moment → Moment → ℕ → Type 0
FreshFree m m' k = Fresh m m' k × ((i j : ℕ) → Within (m'.builder j).own i → Within (m.builder j).own i)

-- some handle of the moment rests on bit k
abbrev pub HandleBit : Moment → ℕ → Type 0
HandleBit m k = (y : Traced) × In y m.handles × Within y.handle.rests k

-- x is a first handle: it rests on loaded bits, on those of a handle or of a builder, and on bits reserved for it
pub record First (m m' : Moment) (x : Traced) : Type 0 where
  pub itself : x.first ≡ x.handle
  pub now : x.before ≡ m'.body
  pub uncut : x.cuts ≡ []
  pub bits : (k : ℕ) → Within x.handle.rests k
      → (k < 8 * m.loaded) ⊎ (HandleBit m k ⊎ (((j : ℕ) × Within (m.builder j).rests k) ⊎ FreshFree m m' k))

-- x has n slots, which show what those of y from the slot start on did; it rests on bits of y, or on bits reserved for it
pub record Follows (m m' : Moment) (y x : Traced) (start n : ℕ) : Type 0 where
  pub behind : In y m.handles
  pub origin : x.first ≡ y.first
  pub body : x.before ≡ y.before
  pub fits : start + n ≤ y.handle.count
  pub count : x.handle.count ≡ n
  pub shows : (i : ℕ) → i < n → x.handle.slot m'.body i ≡ y.handle.slot m.body (start + i)
  pub bits : (k : ℕ) → Within x.handle.rests k → Within y.handle.rests k ⊎ FreshFree m m' k

-- the handle of x is made by a trial, a snapshot or a finish; by a cut of y; by a conversion of y
abbrev pub Made : Moment → Moment → Traced → Type 0
Made m m' x =
    First m m' x
    ⊎ (((y : Traced) × (start : ℕ) × (n : ℕ) × Follows m m' y x start n × (x.cuts ≡ (start, n) ∷ y.cuts))
    ⊎ ((y : Traced) × Follows m m' y x 0 y.handle.count × (x.cuts ≡ y.cuts)))

-- one call, stopped or not, leads from m to m'
pub record Next (m m' : Moment) : Type 0 where
  pub loaded : m'.loaded ≡ m.loaded
  pub used : m.used ≤ m'.used
  pub size : length m'.body ≡ length m.body
  -- it writes no settled bit
  pub writes : (k : ℕ) → Settled m k → bit_at m.body k ≡ bit_at m'.body k
  -- what it reserves goes to one builder at most, no builder takes another's bits
  pub taker : ℕ
  pub owns : (j k : ℕ) → Within (m'.builder j).own k → Within (m.builder j).own k ⊎ ((j ≡ taker) × Fresh m m' k)
  -- a builder rests on its own and on loaded bits, and drops none of them
  pub rests : (j k : ℕ) → Within (m'.builder j).rests k → Within (m.builder j).rests k ⊎ (Within (m'.builder j).own k ⊎ (k < 8 * m.loaded))
  pub drops : (j k : ℕ) → Within (m'.builder j).own k → Within (m.builder j).rests k → Within (m'.builder j).rests k
  -- each handle was there, or is made
  pub handles : (x : Traced) → In x m'.handles → In x m.handles ⊎ (Framed x.handle × Made m m' x)

-- a ledger is opened on a body
pub record Opened (m : Moment) : Type 0 where
  pub used : m.used ≡ m.loaded
  pub builders : (j : ℕ) → m.builder j ≡ record { own = []; rests = [] }
  pub handles : m.handles ≡ []

-- a run: h t is the moment after t calls, of so many in all
abbrev pub Run : (ℕ → Moment) → ℕ → Type 0
Run h calls = Opened (h 0) × ((t : ℕ) → t < calls → Next (h t) (h (t + 1)))

-- a handle has as many slots as its last cut says, and slot i shows what slot i + distance of its first handle
-- showed when that was made
abbrev pub Shown : Moment → Traced → Type 0
Shown m x =
    (x.handle.count ≡ slots_shown x.first.count x.cuts)
    × ((i : ℕ) → i < x.handle.count → (i + distance x.cuts < x.first.count) × (x.handle.slot m.body i ≡ x.first.slot x.before (i + distance x.cuts)))

-- so it is with every handle after every list of calls
abbrev pub DistanceLaw : Type 0
DistanceLaw =
    (h : ℕ → Moment) (calls : ℕ) → Run h calls → (t : ℕ) → t ≤ calls → (x : Traced) → In x (h t).handles → Shown (h t) x

-- a moment that a list of calls leads to
abbrev pub Reached : Moment → Type 0
Reached m = (h : ℕ → Moment) × (calls : ℕ) × Run h calls × (h calls ≡ m)

-- whatever a list of calls leads to, one call more leads on from there
abbrev pub RunsGoOn : Type 0
RunsGoOn = (m m' : Moment) → Reached m → Next m m' → Reached m'

-- in a moment that a run leads to, every handle rests on bits that are loaded or reserved
abbrev pub GivenOut : Type 0
GivenOut = (m : Moment) → Reached m → (x : Traced) → In x m.handles → (k : ℕ) → Within x.handle.rests k → k < 8 * m.used
