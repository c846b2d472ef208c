-- The nodes of a row: each task once, an `always` once for each mode, a handler once for each
-- flush and for each mode of one that is forced. What is known at each, and what it is to cover
-- the edges between them (this project's own).
use Rattle.std.specs.Prelude.{◌≡◌, List, [], ◌++◌, Bool, true, false}
use Rattle.pb_language.specs.Task.{Handlers, no_handlers, handler, Row, end, task, flush, section}
use Rattle.pb_language.specs.Task.{block}
use Rattle.pb_language.specs.Setting.{Setting}
use Rattle.pb_language.specs.Judgement.{Exit, dead}
use Rattle.pb_language.specs.Walk.{Visit, visits_at, meet, going_from, failing_from, Walked}
use Rattle.pb_language.specs.Walk.{flush_walk, walk, unsaved}
use Rattle.pb_language.specs.Wells.{WellExit, WellViews}
use Rattle.pb_language.specs.Ordered.{ExitLe}

-- what is known at each node, in their order
abbrev pub FlushValues : Handlers → Type 0
FlushValues no_handlers = Unit {0}
FlushValues (handler n t hs) = Exit × FlushValues hs

abbrev pub Values : Row → Type 0
Values end = Unit {0}
Values (task t row) = Exit × Values row
Values (flush hs row) = FlushValues hs × Values row
Values (section body hs row) = Values body × FlushValues hs × FlushValues hs × Values row
Values (block d body saves rescued always row) =
    Values body × Values rescued × Values always × Values always × Values row

-- the edge from what comes before a row: to its first task or handler, or to what follows it
abbrev pub FlushEnters : (hs : Handlers) → FlushValues hs → (Exit → Type 0) → Exit → Type 0
FlushEnters no_handlers vs after e = after e
FlushEnters (handler n t hs) vs after e = ExitLe e vs.0

abbrev pub Enters : (row : Row) → Values row → (Exit → Type 0) → Exit → Type 0
Enters end vs after e = after e
Enters (task t row) vs after e = ExitLe e vs.0
Enters (flush hs row) vs after e = FlushEnters hs vs.0 (Enters row vs.1 after) e
Enters (section body hs row) vs after e =
    Enters body vs.0 (FlushEnters hs vs.1 (Enters row vs.3 after)) e
Enters (block d body saves rescued always row) vs after e =
    Enters body vs.0 (Enters always vs.2 (Enters row vs.4 after)) e

-- a failure enters the rescue, where there is one
abbrev pub Saved : Bool → (Exit → Type 0) → (Exit → Type 0) → Exit → Type 0
Saved true inside outside e = inside e
Saved false inside outside e = outside e

-- the edges inside a row; a handler that wasn't notified is passed over
abbrev pub FlushInner : Setting → (hs : Handlers) → FlushValues hs → (Exit → Type 0) → Type 0
FlushInner st no_handlers vs after = Unit {0}
FlushInner st (handler n t hs) vs after =
    let next = FlushEnters hs vs.1 after in
    next vs.0 × next (going_from st t vs.0) × FlushInner st hs vs.1 after

-- a host that left is nowhere
abbrev pub Leaves : Exit → Type 0
Leaves e = Unit {0}

abbrev pub Inner : Setting → (row : Row) → Values row → (Exit → Type 0) → (Exit → Type 0) → Type 0
Inner st end vs after hurt = Unit {0}
Inner st (task t row) vs after hurt = Enters row vs.1 after (going_from st t vs.0)
    × hurt (failing_from st t vs.0) × Inner st row vs.1 after hurt
Inner st (flush hs row) vs after hurt =
    FlushInner st hs vs.0 (Enters row vs.1 after) × Inner st row vs.1 after hurt
Inner st (section body hs row) vs after hurt =
    let next = Enters row vs.3 after in
    Inner st body vs.0 (FlushEnters hs vs.1 next) (FlushEnters hs vs.2 Leaves)
    × FlushInner st hs vs.1 next × FlushInner st hs vs.2 Leaves × Inner st row vs.3 after hurt
Inner st (block d body saves rescued always row) vs after hurt =
    let next = Enters row vs.4 after in
    let well = Enters always vs.2 next in
    let fails = Enters always vs.3 hurt in
    Inner st body vs.0 well (Saved saves (Enters rescued vs.1 well) fails)
    × Inner st rescued vs.1 well fails × Inner st always vs.2 next hurt
    × Inner st always vs.3 hurt hurt × Inner st row vs.4 after hurt

-- the entry is covered, and each edge
abbrev pub Covers : Setting → (row : Row) → Values row → (Exit → Type 0) → (Exit → Type 0) → Exit
    → Type 0
Covers st row vs after hurt e = Enters row vs after e × Inner st row vs after hurt

-- of a play's row: a failure leaves, and the last value is that of the end
abbrev pub CoversPlay : Setting → (row : Row) → Values row → Exit → Exit → Type 0
CoversPlay st row vs last e = Covers st row vs (λ f. ExitLe f last) Leaves e

-- node by node
abbrev pub FlushLe : (hs : Handlers) → FlushValues hs → FlushValues hs → Type 0
FlushLe no_handlers vs us = Unit {0}
FlushLe (handler n t hs) vs us = ExitLe vs.0 us.0 × FlushLe hs vs.1 us.1

abbrev pub ValuesLe : (row : Row) → Values row → Values row → Type 0
ValuesLe end vs us = Unit {0}
ValuesLe (task t row) vs us = ExitLe vs.0 us.0 × ValuesLe row vs.1 us.1
ValuesLe (flush hs row) vs us = FlushLe hs vs.0 us.0 × ValuesLe row vs.1 us.1
ValuesLe (section body hs row) vs us = ValuesLe body vs.0 us.0 × FlushLe hs vs.1 us.1
    × FlushLe hs vs.2 us.2 × ValuesLe row vs.3 us.3
ValuesLe (block d body saves rescued always row) vs us = ValuesLe body vs.0 us.0
    × ValuesLe rescued vs.1 us.1 × ValuesLe always vs.2 us.2 × ValuesLe always vs.3 us.3
    × ValuesLe row vs.4 us.4

abbrev pub WellFlush : (hs : Handlers) → FlushValues hs → Type 0
WellFlush no_handlers vs = Unit {0}
WellFlush (handler n t hs) vs = WellExit vs.0 × WellFlush hs vs.1

abbrev pub WellValues : (row : Row) → Values row → Type 0
WellValues end vs = Unit {0}
WellValues (task t row) vs = WellExit vs.0 × WellValues row vs.1
WellValues (flush hs row) vs = WellFlush hs vs.0 × WellValues row vs.1
WellValues (section body hs row) vs = WellValues body vs.0 × WellFlush hs vs.1
    × WellFlush hs vs.2 × WellValues row vs.3
WellValues (block d body saves rescued always row) vs = WellValues body vs.0
    × WellValues rescued vs.1 × WellValues always vs.2 × WellValues always vs.3
    × WellValues row vs.4

-- what the walk knows at each node
abbrev pub flush_values : Setting → (hs : Handlers) → Exit → FlushValues hs
flush_values st no_handlers e = tt
flush_values st (handler n t hs) e = (e, flush_values st hs (meet e (going_from st t e)))

abbrev pub saved_walk : Setting → Bool → Row → Exit → Walked
saved_walk st true rescued e = walk st rescued e
saved_walk st false rescued e = unsaved e

-- a rescue that isn't there is entered by nothing
abbrev pub entered : Bool → Exit → Exit
entered true e = e
entered false e = dead

abbrev pub values : Setting → (row : Row) → Exit → Values row
values st end e = tt
values st (task t row) e = (e, values st row (going_from st t e))
values st (flush hs row) e = (flush_values st hs e, values st row (flush_walk st hs e).well)
values st (section body hs row) e =
    let b = walk st body e in (
      values st body e,
      flush_values st hs b.well,
      flush_values st hs b.hurt,
      values st row (flush_walk st hs b.well).well,
    )
values st (block d body saves rescued always row) e =
    let b = walk st body e in
    let s = saved_walk st saves rescued b.hurt in
    let m = meet b.well s.well in (
      values st body e,
      values st rescued (entered saves b.hurt),
      values st always m,
      values st always s.hurt,
      values st row (walk st always m).well,
    )

-- the visits, in the order of the nodes
abbrev pub flush_visits : Setting → (hs : Handlers) → FlushValues hs → List Visit
flush_visits st no_handlers vs = []
flush_visits st (handler n t hs) vs = visits_at st t vs.0 ++ flush_visits st hs vs.1

abbrev pub visits_of : Setting → (row : Row) → Values row → List Visit
visits_of st end vs = []
visits_of st (task t row) vs = visits_at st t vs.0 ++ visits_of st row vs.1
visits_of st (flush hs row) vs = flush_visits st hs vs.0 ++ visits_of st row vs.1
visits_of st (section body hs row) vs = visits_of st body vs.0
    ++ (flush_visits st hs vs.1 ++ (flush_visits st hs vs.2 ++ visits_of st row vs.3))
visits_of st (block d body saves rescued always row) vs =
    visits_of st body vs.0 ++ (visits_of st rescued vs.1
    ++ (visits_of st always vs.2 ++ (visits_of st always vs.3 ++ visits_of st row vs.4)))

-- what the walk knows covers the entry and each edge
abbrev pub WalkCovers : Type 0
WalkCovers = (st : Setting) (row : Row) (e : Exit) → WellViews st.views → WellExit e
    → CoversPlay st row (values st row e) (walk st row e).well e

-- and is below whatever covers them
abbrev pub WalkIsLeast : Type 0
WalkIsLeast = (st : Setting) (row : Row) (e : Exit) (vs : Values row) (last : Exit)
    → WellViews st.views → WellExit e → WellValues row vs → WellExit last
    → CoversPlay st row vs last e
    → ValuesLe row (values st row e) vs × ExitLe (walk st row e).well last

-- so whatever is the least that covers is the walk's, as far as kinds that are below each other are
-- the same
abbrev pub LeastIsWalk : Type 0
LeastIsWalk = (st : Setting) (row : Row) (e : Exit) (vs : Values row) (last : Exit)
    → WellViews st.views → WellExit e → WellValues row vs → WellExit last
    → CoversPlay st row vs last e
    → ((us : Values row) (top : Exit) → WellValues row us → WellExit top
    → CoversPlay st row us top e → ValuesLe row vs us × ExitLe last top)
    → ValuesLe row (values st row e) vs × ValuesLe row vs (values st row e)
    × ExitLe (walk st row e).well last × ExitLe last (walk st row e).well

-- the walk's visits are those of the nodes
abbrev pub WalkVisits : Type 0
WalkVisits = (st : Setting) (row : Row) (e : Exit)
    → (walk st row e).visits ≡ visits_of st row (values st row e)
