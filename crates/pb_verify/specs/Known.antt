-- What the verdict's table of kinds says of hosts' variables.
use Rattle.std.specs.Prelude.{◌≡◌, ℕ, List, true, Option, None, Some, length, option_map, slice_get}
use Rattle.std.specs.Prelude.{String}
use Rattle.std.specs.BTreeMap.{BTreeMap}
use Rattle.std.specs.declared.alloc.Global.{Global}
use Rattle.std.specs.declared.sync.Arc.{Arc}
use Rattle.pb_semantics.specs.Below.{below}
use Rattle.pb_semantics.specs.Kind.{Slots, Spot, nowhere, spot, slot_at, no_slots}
use Rattle.pb_language.specs.Book.{Book, Registry}
use Rattle.pb_language.specs.Expression.{Name}
use Rattle.pb_language.specs.Plays.{program_of}
use Rattle.pb_language.specs.Program.{Inventory}
use Rattle.pb_language.specs.Scope.{View, spot_kind, view_of}
use Rattle.pb_language.specs.Tables.{views_after}
use Rattle.pb_language.specs.Verdict.{found_laters}
use Rattle.pb_kind.specs.KindView.{kind_view}
use Rattle.pb_kind.specs.declared.kind.Kind.{Kind}
use Rattle.pb_kind.specs.declared.kind.Slot.{Slot}
use Rattle.pb_sig.specs.Modules.{modules_of}
use Rattle.pb_inventory.specs.Inventory.{inventory_view}
use Rattle.pb_inventory.specs.declared.inventory.Inventory as inventory
use Rattle.pb_book.specs.Books.{book_view}
use Rattle.pb_walks.specs.Agree.{ViewsAgree}
use Rattle.pb_hosts.specs.Tables.{views_with}
use Rattle.pb_verify.specs.declared.checked.Accepted.{Accepted}

-- the fourth table
abbrev pub table_for : Registry → Inventory → Book → List View
table_for ms inventory b = views_after 4 inventory (program_of ms inventory b)
    (found_laters (program_of ms inventory b) inventory)

abbrev pub table_of : Accepted → List View
table_of a = table_for (modules_of a.registry) (inventory_view a.inventory) (book_view a.book)

-- of each host's variables the slots say what the fourth table says
pub record IsTable (ms : Registry) (i : inventory.Inventory) (b : Book)
    (hosts : List (Arc (BTreeMap (String Global) (Slot Kind)) Global)) : Type 0 where
  pub each : length hosts ≡ length (inventory_view i).hosts
  pub views : ViewsAgree (views_with i hosts) (table_for ms (inventory_view i) b)

abbrev pub HasTable : Accepted → Type 0
HasTable a = IsTable (modules_of a.registry) a.inventory (book_view a.book) a.views.items

abbrev pub IsThere : Spot → Type 0
IsThere (spot a k) = Unit {0}
IsThere nowhere = ⊥

-- a name without a kind isn't in the table; else the kinds are below each other, so the same values
-- have them
abbrev pub IsKnownAs : Option Kind → Spot → Type 0
IsKnownAs None s = s ≡ nowhere
IsKnownAs (Some k) s = IsThere s × (below (kind_view k) (spot_kind s) ≡ true)
    × (below (spot_kind s) (kind_view k) ≡ true)

-- the slots of a host by its name, where it has one
abbrev pub view_at : Option Name → List View → Slots
view_at None vs = no_slots
view_at (Some h) vs = view_of h vs

-- what the table says of that variable of the host at that place
abbrev pub known_spot : Accepted → ℕ → Name → Spot
known_spot a i n = slot_at n
    (view_at (option_map (λ h. h.name) (slice_get (inventory_view a.inventory).hosts i))
    (table_of a))
