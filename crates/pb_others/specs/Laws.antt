-- What holds of plays whose texts don't read some variables of other hosts (this project's own).
use Rattle.std.specs.Prelude.{◌≡◌, ◌≤◌, ℕ, List, true, false}
use Rattle.pb_language.specs.Book.{Book, Registry}
use Rattle.pb_language.specs.Expression.{Name}
use Rattle.pb_language.specs.Plays.{program_of}
use Rattle.pb_language.specs.Program.{Inventory, Program}
use Rattle.pb_language.specs.Scope.{View}
use Rattle.pb_language.specs.Tables.{HostWalk, all_walked, budget_of, next_views, views_after}
use Rattle.pb_language.specs.Theorem.{are_distinct, host_names}
use Rattle.pb_language.specs.Verdict.{accepted, first_offence, flow_verdict, found_laters}
use Rattle.pb_language.specs.Verdict.{offence_verdict}
use Rattle.pb_walks.specs.Agree.{AllHostsAgree, ViewsAgree}
use Rattle.pb_others.specs.Others.{DifferIn, book_reads_theirs, plays_read_theirs}

-- where no text of a book reads one of these variables of another host, no task of its plays does
abbrev pub BooksReadTheirs : Type 0
BooksReadTheirs = (ns : List Name) (ms : Registry) (inventory : Inventory) (b : Book)
    → book_reads_theirs ns b ≡ false → plays_read_theirs ns (program_of ms inventory b) ≡ false

-- a round is the last where no text reads a variable of another host that it changes: the fourth
-- table is what its writes make of its own, the kinds are settled, and the verdict is that of its
-- walks
abbrev pub ReadRoundIsLast : Type 0
ReadRoundIsLast = (inventory : Inventory) (ps : Program) (ns : List Name) (n : ℕ)
    (vs us : List View) (ws : List HostWalk) → are_distinct (host_names inventory.hosts) ≡ true
    → plays_read_theirs ns ps ≡ false → n ≤ 3
    → ViewsAgree vs (views_after n inventory ps (found_laters ps inventory))
    → AllHostsAgree ws (all_walked inventory ps vs (found_laters ps inventory))
    → ViewsAgree us (next_views ws vs) → DifferIn ns vs us
    → ViewsAgree us (views_after 4 inventory ps (found_laters ps inventory))
    × (offence_verdict (first_offence ws) (accepted (budget_of ws)) ≡ flow_verdict ps inventory)
