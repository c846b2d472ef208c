-- Well formed kinds of what is known of a name, of an exit and of each host's variables, and of
-- what a task writes.
use Rattle.std.specs.Prelude.{List}
use Rattle.pb_semantics.specs.Kind.{Spot, recs}
use Rattle.pb_semantics.specs.Well.{Well}
use Rattle.pb_language.specs.Expression.{Name}
use Rattle.pb_language.specs.Cases.{Sets, no_sets, sets}
use Rattle.pb_language.specs.Scope.{View, spot_kind, view_of}
use Rattle.pb_language.specs.Judgement.{Exit, dead, live}

-- what is known of a name is of a well formed kind
abbrev pub WellSpot : Spot → Type 0
WellSpot s = Well (spot_kind s)

-- each kind that is written is well formed
abbrev pub WellSets : Sets → Type 0
WellSets no_sets = Unit {0}
WellSets (sets n a k r) = Well k × WellSets r

-- the environment of an exit is well formed, where there is one
abbrev pub WellExit : Exit → Type 0
WellExit dead = Unit {0}
WellExit (live env) = Well (recs env)

-- what is known of each host's variables is of well formed kinds
abbrev pub WellViews : List View → Type 0
WellViews vs = (g : Name) → Well (recs (view_of g vs))
