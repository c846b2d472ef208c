-- The laws of kinds.
use Rattle.std.specs.Prelude.{◌≡◌, ◌≢◌, true, Some, None}
use Rattle.pb_semantics.specs.Data.{Data, Fields}
use Rattle.pb_semantics.specs.Kind.{KindData, Slots, recs}
use Rattle.pb_semantics.specs.Keeps.{keeps, Models}
use Rattle.pb_semantics.specs.Below.{below}
use Rattle.pb_semantics.specs.Join.{join, join_slots}
use Rattle.pb_semantics.specs.Well.{Well}
use Rattle.pb_semantics.specs.Project.{projected, has_no_results}

-- a value of a lower kind is one of the higher
abbrev pub KeepsGoesUp : Type 0
KeepsGoesUp = (d : Data) (k m : KindData) → below k m ≡ true → keeps d k ≡ true → keeps d m ≡ true

abbrev pub BelowItself : Type 0
BelowItself = (k : KindData) → Well k → below k k ≡ true

-- the lowest is well formed, since a result whose case is a result and no record is below no record
abbrev pub BelowThrough : Type 0
BelowThrough = (j k m : KindData) → Well j → below j k ≡ true → below k m ≡ true → below j m ≡ true

-- kinds that are below each other have the same values
abbrev pub SameBothWays : Type 0
SameBothWays =
    (k m : KindData) → below k m ≡ true → below m k ≡ true → (d : Data) → keeps d k ≡ keeps d m

-- a join is above both
abbrev pub JoinAbove : Type 0
JoinAbove =
    (k m : KindData) → Well k → Well m → (below k (join k m) ≡ true) × (below m (join k m) ≡ true)

-- and below each other kind that is above both
abbrev pub JoinLeast : Type 0
JoinLeast = (k m h : KindData) → Well k → Well m → below k h ≡ true → below m h ≡ true
    → below (join k m) h ≡ true

abbrev pub JoinWell : Type 0
JoinWell = (k m : KindData) → Well k → Well m → Well (join k m)

-- variables that one of two environments knows are known where the two meet
abbrev pub MeetModels : Type 0
MeetModels = (fs : Fields) (ss ts : Slots) → Well (recs ss) → Well (recs ts)
    → (Models fs ss → Models fs (join_slots ss ts)) × (Models fs ts → Models fs (join_slots ss ts))

-- the kind is well formed, since of a name that stands twice the first alone is seen
abbrev pub ProjectedKeeps : Type 0
ProjectedKeeps =
    (d : Data) (k : KindData) (e : Data) → Well k → projected d k ≡ Some e → keeps e k ≡ true

-- a value of the kind has a projection onto it, where no result is in the kind
abbrev pub ProjectedOfKept : Type 0
ProjectedOfKept =
    (d : Data) (k : KindData) → has_no_results k ≡ true → keeps d k ≡ true → projected d k ≢ None
