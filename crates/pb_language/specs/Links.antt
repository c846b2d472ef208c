-- The nodes of a row by numbers, and the edges between them (this project's own).
use Rattle.std.specs.Prelude.{◌≡◌, ◌≤◌, ◌<◌, ℕ, suc, ◌+◌, nat_lt, List, [], ◌∷◌, ◌++◌, Bool, true}
use Rattle.std.specs.Prelude.{false, cond, Option, Some, None}
use Rattle.pb_language.specs.Task.{Task, Handlers, no_handlers, handler, Row, end, task, flush}
use Rattle.pb_language.specs.Task.{section, block}
use Rattle.pb_language.specs.Setting.{Setting}
use Rattle.pb_language.specs.Judgement.{Exit, dead}
use Rattle.pb_language.specs.Walk.{going_from, failing_from, walk}
use Rattle.pb_language.specs.Wells.{WellExit, WellViews}
use Rattle.pb_language.specs.Ordered.{ExitLe}
use Rattle.pb_language.specs.Nodes.{FlushValues, Values, CoversPlay, ValuesLe, values}

-- how a host goes on from a node: behind its task, past its failure, or past a handler that wasn't
-- notified
pub data Way : Type 0 where
  goes : Way
  fails : Way
  passes : Way

-- from that node, in that way, to that node
pub record Link : Type 0 where
  pub source : ℕ
  pub by : Task
  pub way : Way
  pub target : ℕ

-- how many nodes a flush has, and how many a row
abbrev pub handler_places : Handlers → ℕ
handler_places no_handlers = 0
handler_places (handler n t hs) = suc (handler_places hs)

abbrev pub size : Row → ℕ
size end = 0
size (task t row) = suc (size row)
size (flush hs row) = handler_places hs + size row
size (section body hs row) = size body + (handler_places hs + (handler_places hs + size row))
size (block d body saves rescued always row) =
    size body + (size rescued + (size always + (size always + size row)))

-- the node that is entered first, where that one is entered after the row, or where the host then
-- leaves; the row's first node has that number
abbrev pub flush_entry : Handlers → ℕ → Option ℕ → Option ℕ
flush_entry no_handlers o after = after
flush_entry (handler n t hs) o after = Some o

abbrev pub entry : Row → ℕ → Option ℕ → Option ℕ
entry end o after = after
entry (task t row) o after = Some o
entry (flush hs row) o after = flush_entry hs o (entry row (o + handler_places hs) after)
entry (section body hs row) o after =
    let a = o + size body in
    entry body o (flush_entry hs a (entry row (a + handler_places hs + handler_places hs) after))
entry (block d body saves rescued always row) o after =
    let a = o + size body + size rescued in
    entry body o (entry always a (entry row (a + size always + size always) after))

abbrev pub link_to : ℕ → Task → Way → Option ℕ → List Link
link_to o t way None = []
link_to o t way (Some n) = record { source = o; by = t; way = way; target = n } ∷ []

abbrev pub flush_links : Handlers → ℕ → Option ℕ → List Link
flush_links no_handlers o after = []
flush_links (handler n t hs) o after =
    let next = flush_entry hs (suc o) after in
    link_to o t passes next ++ (link_to o t goes next ++ flush_links hs (suc o) after)

abbrev pub saved_entry : Bool → Option ℕ → Option ℕ → Option ℕ
saved_entry true inside outside = inside
saved_entry false inside outside = outside

-- the edges inside a row, to those after it, and to those that a failure enters
abbrev pub links : Row → ℕ → Option ℕ → Option ℕ → List Link
links end o after hurt = []
links (task t row) o after hurt = link_to o t goes (entry row (suc o) after)
    ++ (link_to o t fails hurt ++ links row (suc o) after hurt)
links (flush hs row) o after hurt =
    let n = o + handler_places hs in
    flush_links hs o (entry row n after) ++ links row n after hurt
links (section body hs row) o after hurt =
    let a = o + size body in
    let f = a + handler_places hs in
    let n = f + handler_places hs in
    let next = entry row n after in
    links body o (flush_entry hs a next) (flush_entry hs f None)
    ++ (flush_links hs a next ++ (flush_links hs f None ++ links row n after hurt))
links (block d body saves rescued always row) o after hurt =
    let r = o + size body in
    let a = r + size rescued in
    let f = a + size always in
    let n = f + size always in
    let next = entry row n after in
    let well = entry always a next in
    let hurts = entry always f hurt in
    links body o well (saved_entry saves (entry rescued r well) hurts)
    ++ (links rescued r well hurts
    ++ (links always a next hurt ++ (links always f hurt hurt ++ links row n after hurt)))

-- an assignment, as the tree of its values
abbrev pub flush_at : (ℕ → Exit) → (hs : Handlers) → ℕ → FlushValues hs
flush_at val no_handlers o = tt
flush_at val (handler n t hs) o = (val o, flush_at val hs (suc o))

abbrev pub values_at : (ℕ → Exit) → (row : Row) → ℕ → Values row
values_at val end o = tt
values_at val (task t row) o = (val o, values_at val row (suc o))
values_at val (flush hs row) o = (flush_at val hs o, values_at val row (o + handler_places hs))
values_at val (section body hs row) o =
    let a = o + size body in
    let f = a + handler_places hs in (
      values_at val body o,
      flush_at val hs a,
      flush_at val hs f,
      values_at val row (f + handler_places hs),
    )
values_at val (block d body saves rescued always row) o =
    let r = o + size body in
    let a = r + size rescued in
    let f = a + size always in (
      values_at val body o,
      values_at val rescued r,
      values_at val always a,
      values_at val always f,
      values_at val row (f + size always),
    )

-- what goes along a link
abbrev pub led : Setting → Task → Way → Exit → Exit
led st t goes e = going_from st t e
led st t fails e = failing_from st t e
led st t passes e = e

abbrev pub carried : Setting → (ℕ → Exit) → Link → Exit
carried st val l = led st l.by l.way (val l.source)

-- each edge is covered
abbrev pub LinksHold : Setting → (ℕ → Exit) → List Link → Type 0
LinksHold st val [] = Unit {0}
LinksHold st val (l ∷ ls) = ExitLe (carried st val l) (val l.target) × LinksHold st val ls

-- and so is the entry
abbrev pub Into : (ℕ → Exit) → Option ℕ → Exit → Type 0
Into val None e = Unit {0}
Into val (Some n) e = ExitLe e (val n)

-- an assignment of numbers that covers is a tree that covers; a failure outside of all blocks leads
-- nowhere, and the row's end leads to the node of the last number
abbrev pub NumbersCover : Type 0
NumbersCover = (st : Setting) (row : Row) (e : Exit) (val : ℕ → Exit) (o last : ℕ)
    → Into val (entry row o (Some last)) e → LinksHold st val (links row o (Some last) None)
    → CoversPlay st row (values_at val row o) (val last) e

-- and the other way round
abbrev pub TreesCover : Type 0
TreesCover = (st : Setting) (row : Row) (e : Exit) (val : ℕ → Exit) (o last : ℕ)
    → CoversPlay st row (values_at val row o) (val last) e
    → Into val (entry row o (Some last)) e × LinksHold st val (links row o (Some last) None)

-- a tree of values, as an assignment of numbers
abbrev pub flush_numbers : (hs : Handlers) → FlushValues hs → ℕ → ℕ → Exit
flush_numbers no_handlers vs o i = dead
flush_numbers (handler n t hs) vs o i =
    cond (nat_lt i (suc o)) vs.0 (flush_numbers hs vs.1 (suc o) i)

abbrev pub numbered : (row : Row) → Values row → ℕ → ℕ → Exit
numbered end vs o i = dead
numbered (task t row) vs o i = cond (nat_lt i (suc o)) vs.0 (numbered row vs.1 (suc o) i)
numbered (flush hs row) vs o i =
    let n = o + handler_places hs in
    cond (nat_lt i n) (flush_numbers hs vs.0 o i) (numbered row vs.1 n i)
numbered (section body hs row) vs o i =
    let a = o + size body in
    let f = a + handler_places hs in
    let n = f + handler_places hs in
    cond (nat_lt i a) (numbered body vs.0 o i)
    (cond (nat_lt i f) (flush_numbers hs vs.1 a i)
    (cond (nat_lt i n) (flush_numbers hs vs.2 f i) (numbered row vs.3 n i)))
numbered (block d body saves rescued always row) vs o i =
    let r = o + size body in
    let a = r + size rescued in
    let f = a + size always in
    let n = f + size always in
    cond (nat_lt i r) (numbered body vs.0 o i)
    (cond (nat_lt i a) (numbered rescued vs.1 r i)
    (cond (nat_lt i f) (numbered always vs.2 a i)
    (cond (nat_lt i n) (numbered always vs.3 f i) (numbered row vs.4 n i))))

-- an assignment that agrees with a tree's numbers at the row's nodes gives that tree
abbrev pub TreesAreNumbered : Type 0
TreesAreNumbered = (row : Row) (vs : Values row) (o : ℕ) (val : ℕ → Exit)
    → ((i : ℕ) → o ≤ i → i < o + size row → val i ≡ numbered row vs o i)
    → values_at val row o ≡ vs

-- so a least assignment of numbers that covers is the walk's
abbrev pub NumbersAreWalk : Type 0
NumbersAreWalk = (st : Setting) (row : Row) (e : Exit) (val : ℕ → Exit) (o : ℕ)
    → WellViews st.views → WellExit e → ((i : ℕ) → WellExit (val i))
    → Into val (entry row o (Some (o + size row))) e
    → LinksHold st val (links row o (Some (o + size row)) None)
    → ((w : ℕ → Exit) → ((i : ℕ) → WellExit (w i))
    → Into w (entry row o (Some (o + size row))) e
    → LinksHold st w (links row o (Some (o + size row)) None) → (i : ℕ) → ExitLe (val i) (w i))
    → ValuesLe row (values st row e) (values_at val row o)
    × ValuesLe row (values_at val row o) (values st row e)
    × ExitLe (walk st row e).well (val (o + size row))
    × ExitLe (val (o + size row)) (walk st row e).well
