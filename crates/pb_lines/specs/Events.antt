-- The calls that were made of a file, and what they come to, where a file does what is supposed.
use Rattle.std.specs.Prelude.{◌≡◌, ◌⊎◌, ℕ, zero, suc, ◌+◌, Bool, true, false, List, [], ◌∷◌}
use Rattle.std.specs.Prelude.{◌++◌, length, take, drop, slice_index, ◌==◌, ⊤}
use Rattle.pb_lines.specs.Device.{Torn, Cut}

-- A call with its answer: which call, a place or a length, how many bytes were asked for, whether
-- it was done, and the bytes that came or were given.
abbrev pub Event : Type 0
Event = ℕ × ℕ × ℕ × Bool × List ℕ

-- 0 is a read, 1 a write, 2 a cut, 3 a sync
abbrev pub event_of : List ℕ → List ℕ → Event
event_of numbers bytes = (
  slice_index numbers 0,
  slice_index numbers 1,
  slice_index numbers 2,
  slice_index numbers 3 == 1,
  bytes,
)

-- the first event: what the file held as it was opened
abbrev pub held : List ℕ → Event
held bytes = (4, 0, 0, true, bytes)

abbrev pub IsFresh : List Event → Type 0
IsFresh events = (bytes : List ℕ) × (events ≡ held bytes ∷ [])

-- What is there after a call. One that isn't done changes nothing that is seen: whoever is told so
-- has to open the file again.
abbrev pub seen_step : ℕ → ℕ → Bool → List ℕ → List ℕ → List ℕ
seen_step zero at done bytes before = before
seen_step (suc zero) at true bytes before =
    take at before ++ bytes ++ drop (at + length bytes) before
seen_step (suc zero) at false bytes before = before
seen_step (suc (suc zero)) at true bytes before = take at before
seen_step (suc (suc zero)) at false bytes before = before
seen_step (suc (suc (suc zero))) at done bytes before = before
seen_step (suc (suc (suc (suc more)))) at done bytes before = bytes

abbrev pub seen_after : List Event → List ℕ
seen_after [] = []
seen_after (e ∷ earlier) = seen_step e.0 e.1 e.3 e.4 (seen_after earlier)

-- what a crash may leave after a call: of a write any bytes in its range, of a cut any length
-- between, until a sync is done
abbrev pub leaves_step : ℕ → ℕ → Bool → List ℕ → List ℕ → (List ℕ → Type 0) → List ℕ → Type 0
leaves_step zero at done bytes seen before c = before c
leaves_step (suc zero) at done bytes seen before c =
    (d : List ℕ) × before d × Torn at (length bytes) d c
leaves_step (suc (suc zero)) at done bytes seen before c = (d : List ℕ) × before d × Cut at d c
leaves_step (suc (suc (suc zero))) at true bytes seen before c = before c × (c ≡ seen)
leaves_step (suc (suc (suc zero))) at false bytes seen before c = before c
leaves_step (suc (suc (suc (suc more)))) at done bytes seen before c = c ≡ bytes

abbrev pub leaves_after : List Event → List ℕ → Type 0
leaves_after [] c = c ≡ []
leaves_after (e ∷ earlier) c =
    leaves_step e.0 e.1 e.3 e.4 (seen_after earlier) (leaves_after earlier) c

-- the one number isn't above the other
abbrev pub IsUpTo : ℕ → ℕ → Type 0
IsUpTo zero n = ⊤
IsUpTo (suc t) zero = ⊥
IsUpTo (suc t) (suc n) = IsUpTo t n

-- what a crash at some moment since so many calls might have left
abbrev pub left_after : List Event → ℕ → List ℕ → Type 0
left_after [] t c = c ≡ []
left_after (e ∷ earlier) t c =
    leaves_after (e ∷ earlier) c ⊎ (IsUpTo t (length earlier) × left_after earlier t c)

abbrev pub faults_step : Bool → ℕ → ℕ
faults_step true faults = faults
faults_step false faults = suc faults

-- how many of them failed
abbrev pub faults_after : List Event → ℕ
faults_after [] = 0
faults_after (e ∷ earlier) = faults_step e.3 (faults_after earlier)

-- a read that is done gives what is there
abbrev pub honest_step : ℕ → ℕ → ℕ → Bool → List ℕ → List ℕ → Type 0
honest_step zero at most true bytes seen = bytes ≡ take most (drop at seen)
honest_step zero at most false bytes seen = ⊤
honest_step (suc more) at most done bytes seen = ⊤

abbrev pub honest_after : List Event → Type 0
honest_after [] = ⊤
honest_after (e ∷ earlier) =
    honest_step e.0 e.1 e.2 e.3 e.4 (seen_after earlier) × honest_after earlier
